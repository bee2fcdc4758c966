use Rattle.std.proofs.Common.{◌≡◌, List, None, ap, arith}
use Rattle.std.specs.Prelude.{length}
use Rattle.std.proofs.lemmas.List.{length_push}
use Rattle.command_keys.specs.Keys.{KeysValue, outcome_of}
use Rattle.command_keys.specs.declared.outcome.Waiting.{Waiting}
use Rattle.command_keys.proofs.Changes.{once_waiting}
use Rattle.command_keys.proofs.keys.Keys.wait.Goals as goal

pub invariant_of-self : goal.invariant_of-self
invariant_of-self g c =
    let k : KeysValue = record {
      written = c.self.inside.written.entries;
      cap = c.self.inside.written.cap;
      waiting = c.self.inside.waiting.items;
      expired = c.self.inside.expired.entries;
      room = 0;
    } in
    let w : Waiting = record { key = c.args.key; ticket = c.args.ticket; amount = c.args.amount } in
    let free : outcome_of k c.args.key ≡ None = rw (← c.self.view_is) at c.requires.free in
    let room = rw (← c.self.view_is) at c.requires.room in
    let pushed = rw c.unwrap.ensures at c.push.ensures.items in
    let long = ap (λ (ws : List Waiting). length ws) pushed in
    record {
      once = λ q. rw pushed (once_waiting k w free c.self.invariant.once q);
      may_write = omega (arith, room, long, length_push k.waiting w);
      may_expire = omega (arith, room, long, length_push k.waiting w);
      cap = c.self.invariant.cap;
    }
