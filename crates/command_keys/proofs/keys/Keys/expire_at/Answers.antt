use Rattle.std.proofs.Common.{ℕ, List, length, ◌∷◌, ◌<◌, refl, ap, ◌∙◌, arith}
use Rattle.std.proofs.lemmas.Option.{slice_get_read}
use Rattle.std.proofs.lemmas.List.Edits.{length-remove}
use Rattle.command_keys.specs.Last.{newest_of}
use Rattle.command_keys.specs.Keys.{ending}
use Rattle.command_keys.specs.declared.outcome.Waiting.{Waiting}
use Rattle.command_keys.proofs.Changes.{once_expired, expired_free}
use Rattle.command_keys.proofs.keys.Keys.expire_at.Goals as goal

pub put-requires-clause-absent : goal.put-requires-clause-absent
put-requires-clause-absent g c =
    let ws = c.self.inside.waiting.items in
    let i = c.args.index in
    let w : Waiting = c.remove-spend.result in
    let within : i < length ws = rw (← c.self.view_is) at c.requires in
    expired_free ws i w within c.remove-spend.ensures.value c.self.inside.written.entries
    c.self.inside.expired.entries (c.self.invariant.once w.key)

pub invariant_of-self : goal.invariant_of-self
invariant_of-self g c =
    let ws = c.self.inside.waiting.items in
    let i = c.args.index in
    let w : Waiting = c.remove-spend.result in
    let within : i < length ws = rw (← c.self.view_is) at c.requires in
    let fewer = length-remove ws i within in
    let long = ap (λ (vs : List Waiting). length vs) c.remove-spend.ensures.items in
    record {
      once = λ q. rw (c.put.ensures.entries, c.remove-spend.ensures.items)
          (once_expired ws i w within c.remove-spend.ensures.value c.self.inside.expired.cap
          c.self.inside.written.entries c.self.inside.expired.entries c.self.invariant.once q);
      may_write = omega (arith, c.self.invariant.may_write, fewer, long, c.put.ensures.spare);
      may_expire = omega (arith, c.self.invariant.may_expire, fewer, long, c.put.ensures.spare);
      cap = c.put.ensures.cap ∙ c.self.invariant.cap;
    }

pub returns : goal.returns
returns g c =
    let ws = c.self.inside.waiting.items in
    let i = c.args.index in
    let w : Waiting = c.remove-spend.result in
    let within : i < length ws = rw (← c.self.view_is) at c.requires in
    let there = slice_get_read ws (length ws) i w refl within c.remove-spend.ensures.value in
    rw (← c.self.view_is) (record {
      spend = w;
      found = there;
      ended = c.put.ensures.entries
          ∙ ap (λ (cap : ℕ). newest_of cap ((w.key, ending w) ∷ c.self.inside.expired.entries)) c.self.invariant.cap;
      others = c.remove-spend.ensures.items;
      cap = refl;
      written = refl;
    })
