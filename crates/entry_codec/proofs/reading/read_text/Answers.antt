use Rattle.rights_types.specs.Values.{value_of}
use Rattle.entry_codec.proofs.Lines.{text_found}
use Rattle.entry_codec.proofs.reading.read_text.Goals as goal

pub returns-clause-found : goal.returns-clause-found
returns-clause-found g c =
    text_found value_of c.args.text.now c.message_of_text.result c.message_of_text.ensures.value
