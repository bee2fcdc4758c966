use Rattle.std.proofs.Common.{sym}
use Rattle.std.specs.Prelude.{◌==◌}
use Rattle.entry_codec.proofs.Cuts.{uncut, cut}
use Rattle.entry_codec.proofs.parts.split_far.Goals as goal

pub returns-in-None-clause-parts : goal.returns-in-None-clause-parts
returns-in-None-clause-parts c = uncut (λ b. b == c.args.at) c.args.text.now (sym c.in-None.ensures)

pub returns-in-Some-clause-parts : goal.returns-in-Some-clause-parts
returns-in-Some-clause-parts c = cut (λ b. b == c.args.at) c.args.text.now c.in-Some.i (sym c.in-Some.ensures)
