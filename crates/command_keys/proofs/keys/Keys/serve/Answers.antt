use Rattle.std.proofs.Common.{List, length, refl, ap, arith}
use Rattle.std.proofs.lemmas.Option.{slice_get_read}
use Rattle.std.proofs.lemmas.List.Edits.{length-remove}
use Rattle.command_keys.specs.declared.outcome.Waiting.{Waiting}
use Rattle.command_keys.proofs.Changes.{once_served, written_free, place_found}
use Rattle.command_keys.proofs.keys.Keys.serve.Goals as goal

pub put-requires-clause-absent : goal.put-requires-clause-absent
put-requires-clause-absent g c =
    let ws = c.self.inside.waiting.items in
    let w : Waiting = c.remove-spend.result in
    let place = place_found c.args.ticket c.deref.result.now ws c.in-Some.index w c.deref.ensures.value c.in-Some.ensures in
    written_free ws c.in-Some.index w place.1 c.remove-spend.ensures.value c.self.inside.written.entries
    c.self.inside.expired.entries (c.self.invariant.once w.key)

pub invariant_of-self : goal.invariant_of-self
invariant_of-self g c =
    let ws = c.self.inside.waiting.items in
    let i = c.in-Some.index in
    let w : Waiting = c.remove-spend.result in
    let place = place_found c.args.ticket c.deref.result.now ws i w c.deref.ensures.value c.in-Some.ensures in
    let fewer = length-remove ws i place.1 in
    let long = ap (λ (vs : List Waiting). length vs) c.remove-spend.ensures.items in
    record {
      once = λ q. rw (c.put.ensures.entries, c.remove-spend.ensures.items)
          (once_served ws i w place.1 c.remove-spend.ensures.value c.self.inside.written.cap c.args.number c.args.amount
          c.self.inside.written.entries c.self.inside.expired.entries c.self.invariant.once q);
      may_write = omega (arith, c.self.invariant.may_write, fewer, long, c.put.ensures.spare);
      may_expire = omega (arith, c.self.invariant.may_expire, fewer, long, c.put.ensures.spare);
      cap = c.self.invariant.cap;
    }

pub returns : goal.returns
returns g c =
    let ws = c.self.inside.waiting.items in
    let i = c.in-Some.index in
    let w : Waiting = c.remove-spend.result in
    let place = place_found c.args.ticket c.deref.result.now ws i w c.deref.ensures.value c.in-Some.ensures in
    let there = slice_get_read ws (length ws) i w refl place.1 c.remove-spend.ensures.value in
    rw (← c.self.view_is, place.0) (record {
      spend = w;
      found = there;
      wrote = c.put.ensures.entries;
      others = c.remove-spend.ensures.items;
      cap = c.put.ensures.cap;
      expired = refl;
    })
