use Rattle.std.proofs.Common.{arith}
use Rattle.entry_codec.proofs.Numbers.{is_found, is_only}
use Rattle.entry_codec.proofs.number.read_decimal.Goals as goal

pub returns-clause-found : goal.returns-clause-found
returns-clause-found c = is_found c.args.least c.args.most c.args.text.now c.decimal_of.result c.decimal_of.ensures

pub returns-clause-only : goal.returns-clause-only
returns-clause-only c = is_only c.args.least c.args.most c.args.text.now c.decimal_of.result
    (omega (arith, c.ranges.most.fits)) c.decimal_of.ensures
