use Rattle.std.proofs.Common.{arith}
use Rattle.std.proofs.lemmas.Fmt.{length-decimal-le}
use Rattle.site_node.proofs.texts.digits_fit.Goals as goal

pub returns : goal.returns
returns c = length-decimal-le 20 c.args.number (omega arith) (omega (arith, c.ranges.number.fits))
    (omega (arith, c.ranges.number.fits))
