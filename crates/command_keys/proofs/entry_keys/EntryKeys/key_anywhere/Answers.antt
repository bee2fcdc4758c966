use Rattle.std.proofs.Common.{ℕ, List, ap, subst, arith, All, sym, ◌∙◌}
use Rattle.std.proofs.lemmas.List.{take_all}
use Rattle.std.specs.Prelude.{◌≢◌, length}
use Rattle.command_keys.specs.Last.{LastValue}
use Rattle.command_keys.specs.declared.outcome.Written.{Written}
use Rattle.command_keys.proofs.Orders.{first_hit, no_key, none_more}
use Rattle.command_keys.proofs.entry_keys.EntryKeys.key_anywhere.Goals as goal

pub returns-in-Some : goal.returns-in-Some
returns-in-Some g c =
    sym (first_hit c.args.self.now.entries c.args.number c.loop-place.place c.in-Some.key c.loop-place.invariant
    (sym c.key_at.ensures ∙ c.in-Some.is))

pub loop-place-preserved : goal.loop-place-preserved
loop-place-preserved g c =
    none_more c.args.self.now.entries c.args.number c.loop-place.place c.loop-place.invariant
    (sym c.key_at.ensures ∙ c.in_default.is)

pub returns : goal.returns
returns g c =
    let es = c.args.self.now.entries in
    let end = c.len-place-end.ensures.value ∙ ap (λ (l : LastValue Written). length l.entries) c.self.view_is in
    sym (no_key c.args.number es
    (subst (λ (xs : List (List ℕ × Written)). All (λ (e : List ℕ × Written). e.1.number ≢ c.args.number) xs)
    (take_all c.loop-place.place es (omega (arith, c.loop-place-test.false, end))) c.loop-place.invariant))
