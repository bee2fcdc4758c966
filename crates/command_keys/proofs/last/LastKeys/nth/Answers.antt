use Rattle.std.proofs.Common.{◌+◌, ◌-◌, ◌<◌, ◌≤◌, length, sym, ap, ◌∙◌, arith, inl, inr}
use Rattle.std.specs.Prelude.{slice_get}
use Rattle.command_keys.specs.Last.{LastValue}
use Rattle.command_keys.proofs.Rings.{nth_turned, oldest_within}
use Rattle.command_keys.proofs.last.LastKeys.nth.Goals as goal

pub returns-then-back-self : goal.returns-then-back-self
returns-then-back-self g c =
    let es = c.self.inside.map.entries in
    let oldest = c.self.inside.oldest in
    let place = c.args.place in
    let within : oldest ≤ length es = oldest_within es oldest c.self.inside.cap c.self.invariant in
    let there : place < length es = omega (arith, c.if-place-len.false, c.len-len.ensures.len) in
    c.get_index.ensures.entry
    ∙ sym (nth_turned es oldest place (oldest - (place + 1)) within there
    (inl (omega (arith, c.if-back-self.true), omega (arith, c.if-back-self.true))))
    ∙ ap (λ (l : LastValue g.row.V.Denot). slice_get l.entries place) c.self.view_is

pub returns-else-back-self : goal.returns-else-back-self
returns-else-back-self g c =
    let es = c.self.inside.map.entries in
    let oldest = c.self.inside.oldest in
    let place = c.args.place in
    let within : oldest ≤ length es = oldest_within es oldest c.self.inside.cap c.self.invariant in
    let there : place < length es = omega (arith, c.if-place-len.false, c.len-len.ensures.len) in
    let at = c.len-len.result - (place + 1) + oldest in
    c.get_index-else-back-self.ensures.entry
    ∙ sym (nth_turned es oldest place at within there
    (inr (omega (arith, c.if-back-self.false), omega (arith, there, c.len-len.ensures.len))))
    ∙ ap (λ (l : LastValue g.row.V.Denot). slice_get l.entries place) c.self.view_is
