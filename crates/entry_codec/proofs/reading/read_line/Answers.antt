use Rattle.std.proofs.Common.{ap, subst, ◌∙◌}
use Rattle.rights_types.specs.Values.{value_of}
use Rattle.entry_codec.specs.Parts.{Gives}
use Rattle.entry_codec.specs.Reading.{reading}
use Rattle.entry_codec.proofs.Lines.{is_found, reading_again}
use Rattle.entry_codec.proofs.reading.read_line.Goals as goal

pub returns-clause-found : goal.returns-clause-found
returns-clause-found g c = is_found value_of c.args.line.now c.message_of_line.result c.message_of_line.ensures.value

pub returns-clause-only : goal.returns-clause-only
returns-clause-only g c = λ m h. subst (λ read. Gives value_of c.message_of_line.result read) (ap reading h.1
    ∙ reading_again m h.0) c.message_of_line.ensures.value
