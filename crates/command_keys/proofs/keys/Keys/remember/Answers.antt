use Rattle.std.proofs.Common.{◌≡◌, None, arith}
use Rattle.command_keys.specs.Keys.{KeysValue, outcome_of}
use Rattle.command_keys.proofs.Changes.{once_remembered}
use Rattle.command_keys.proofs.keys.Keys.remember.Goals as goal

pub invariant_of-self : goal.invariant_of-self
invariant_of-self g c =
    let k : KeysValue = record {
      written = c.self.inside.written.entries;
      cap = c.self.inside.written.cap;
      waiting = c.self.inside.waiting.items;
      expired = c.self.inside.expired.entries;
      room = 0;
    } in
    let free : outcome_of k c.args.key ≡ None = rw (← c.self.view_is) at c.requires.free in
    let room = rw (← c.self.view_is) at c.requires.room in
    record {
      once = λ q. rw c.put.ensures.entries (once_remembered k c.args.key c.args.written free c.self.invariant.once q);
      may_write = omega (arith, room, c.put.ensures.spare);
      may_expire = c.self.invariant.may_expire;
      cap = c.self.invariant.cap;
    }
