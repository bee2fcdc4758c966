use Rattle.std.proofs.Common.{◌≤◌, arith, sym, subst}
use Rattle.rights_types.specs.Entries.{own}
use Rattle.sub_buffer.specs.Buffers.{BufferValue}
use Rattle.sub_buffer.proofs.Keeps.{keeps_deliver}
use Rattle.sub_buffer.proofs.buffer.SubBuffer.deliver.Goals as goal

pub invariant_of-self : goal.invariant_of-self
invariant_of-self g c = (
  keeps_deliver _ c.args.entry.now c.own-self-inside.result _ c.drop_before.new.held.items c.self.invariant.0
      (subst (λ (v : BufferValue). own c.args.entry.now ≤ v.told) (sym c.self.view_is) c.requires)
      c.own-self-inside.ensures.value c.drop_before.ensures.items,
  omega (arith, c.self.invariant.1, c.drop_before.ensures.capacity),
)
