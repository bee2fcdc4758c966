use Rattle.std.proofs.Common.{◌∙◌, arith, refl}
use Rattle.journal_device.proofs.ChangeLaws.{byte_comes}
use Rattle.journal_device.proofs.change.write_some.Goals as goal

pub loop-i-preserved : goal.loop-i-preserved
loop-i-preserved g c =
    byte_comes c.args.written c.loop-i.i c.args.at _ _ _ c.args.bytes.now c.loop-i.image.items _ (omega (arith, c.loop-i-test.true))
    (let (len, full) = c.loop-i.image.ok in let small = c.loop-i.image.small in omega (arith, len, full, small))
    c.saturating_add.ensures refl c.has_come.ensures c.in_ok-write_byte.ensures
    ∙ c.loop-i.invariant
