use Rattle.std.proofs.Common.{◌==◌}
use Rattle.line_streams.proofs.WordLaws.{split_some}
use Rattle.line_streams.proofs.words.alone.Goals as goal

pub returns-in-Some : goal.returns-in-Some
returns-in-Some g c = let words = split_some (λ b. b == 32) c.in-Some.field-0.now in rw (c.in-Some.is, words.2)
