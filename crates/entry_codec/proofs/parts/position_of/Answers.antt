use Rattle.std.proofs.Common.{arith}
use Rattle.entry_codec.proofs.Cuts.{place_found, place_none}
use Rattle.entry_codec.proofs.parts.position_of.Goals as goal

pub returns-then-byte-at : goal.returns-then-byte-at
returns-then-byte-at c =
    place_found c.args.at c.args.text.now c.loop-place.place
    (omega (arith, c.loop-place-test.true, c.loop-place.auto.place-end)) c.loop-place.invariant c.if-byte-at.true

pub returns : goal.returns
returns c =
    place_none c.args.at c.args.text.now
    (λ k lt. c.loop-place.invariant k (omega (arith, lt, c.loop-place-test.false, c.loop-place.auto.place-end)))
