use Rattle.std.proofs.Common.{ℕ, List, ◌∷◌}
use Rattle.command_keys.specs.Keys.{AreInOrder}
use Rattle.command_keys.specs.Last.{without}
use Rattle.command_keys.specs.declared.outcome.Written.{Written}
use Rattle.command_keys.proofs.Orders.{head_without, order_put, order_take, order_without}
use Rattle.command_keys.proofs.entry_keys.EntryKeys.renew.Goals as goal
use Rattle.command_keys.proofs.entry_keys.EntryKeys.renew.Goals.{then-is_below_newest, else-is_below_newest}

pub invariant_of-self : goal.invariant_of-self
invariant_of-self g c sorted =
    let es = c.self.inside.last.entries in
    let e : List ℕ × Written = (c.args.key, c.args.value) in
    elim c.if-is_below_newest.branch [
      | then-is_below_newest w ↦ absurd (let no = rw w.self-inside-is at sorted in cc)
      | else-is_below_newest w ↦
          let head = rw (← c.self.view_is) at c.is_below_newest.ensures in
          let order : AreInOrder es = c.self.invariant (rw w.self-inside-is at sorted) in
          let others = without c.args.key es in
          rw (c.renew.ensures.entries, w.self-inside-is)
          (order_take c.self.inside.last.cap (e ∷ others) (order_put e others (order_without c.args.key es order)
          (head_without c.args.key e.1.number es order (head w.if-is_below_newest.false))))
    ]
