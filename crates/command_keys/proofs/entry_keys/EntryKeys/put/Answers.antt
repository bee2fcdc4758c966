use Rattle.std.proofs.Common.{ℕ, List, ◌∷◌}
use Rattle.command_keys.specs.Keys.{AreInOrder}
use Rattle.command_keys.specs.declared.outcome.Written.{Written}
use Rattle.command_keys.proofs.Orders.{order_put, order_take}
use Rattle.command_keys.proofs.entry_keys.EntryKeys.put.Goals as goal
use Rattle.command_keys.proofs.entry_keys.EntryKeys.put.Goals.{then-is_below_newest, else-is_below_newest}

pub invariant_of-self : goal.invariant_of-self
invariant_of-self g c sorted =
    let es = c.self.inside.last.entries in
    let e : List ℕ × Written = (c.args.key, c.args.value) in
    elim c.if-is_below_newest.branch [
      | then-is_below_newest w ↦ absurd (let no = rw w.self-inside-is at sorted in cc)
      | else-is_below_newest w ↦
          let head = rw (← c.self.view_is) at c.is_below_newest.ensures in
          let order : AreInOrder es = c.self.invariant (rw w.self-inside-is at sorted) in
          rw (c.put.ensures.entries, w.self-inside-is)
          (order_take c.self.inside.last.cap (e ∷ es) (order_put e es order (head w.if-is_below_newest.false)))
    ]
