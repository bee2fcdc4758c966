use Rattle.std.proofs.Common.{arith}
use Rattle.command_keys.specs.Keys.{KeysValue}
use Rattle.command_keys.proofs.Changes.{once_replayed}
use Rattle.command_keys.proofs.keys.Keys.replay.Goals as goal

pub invariant_of-self : goal.invariant_of-self
invariant_of-self g c =
    let k : KeysValue = record {
      written = c.self.inside.written.entries;
      cap = c.self.inside.written.cap;
      waiting = c.self.inside.waiting.items;
      expired = c.self.inside.expired.entries;
      room = 0;
    } in
    record {
      once = λ q. rw (c.renew.ensures.entries, c.clear.ensures.items, c.clear-2.ensures)
          (once_replayed k c.args.key c.args.written c.self.invariant.once q);
      may_write = omega (arith, c.clear.ensures.len);
      may_expire = omega (arith, c.clear.ensures.len);
      cap = rw c.clear-2.ensures c.self.invariant.cap;
    }
