use Rattle.entry_codec.proofs.Cuts.{first_is_position}
use Rattle.entry_codec.proofs.parts.far_position.Goals as goal

pub returns : goal.returns
returns c = first_is_position c.args.at c.args.text.now c.memchr.result c.memchr.ensures
