use Rattle.std.proofs.Common.{◌≡◌, ℕ, ◌+◌, ◌-◌, ◌/◌, List, Some, sym, ap, ◌∙◌, arith}
use Rattle.std.specs.Prelude.{option_map, slice_get}
use Rattle.command_keys.specs.Last.{LastValue}
use Rattle.command_keys.specs.declared.outcome.Written.{Written}
use Rattle.command_keys.proofs.Orders.{behind_more, others_more, no_gap}
use Rattle.command_keys.proofs.entry_keys.EntryKeys.count_behind.Goals as goal

pub halves-preserved-then-written-number : goal.halves-preserved-then-written-number
halves-preserved-then-written-number g c =
    let es = c.args.self.now.entries in
    let m = c.halves.low + (c.halves.high - c.halves.low) / 2 in
    let row : List ℕ × Written = (c.in-Some.field-0-0.now, c.in-Some.written.now) in
    let at : slice_get es m ≡ Some row
    = sym (ap (λ (l : LastValue Written). slice_get l.entries m) c.self.view_is) ∙ sym c.nth.ensures
    ∙ ap (option_map (λ e. (e.0.now, e.1.now))) c.in-Some.is in
    record {
      order = omega (arith, c.halves-test.true);
      within = c.halves.invariant.within;
      behind = behind_more es c.args.number m row c.requires at c.if-written-number.true;
      others = c.halves.invariant.others;
    }

pub halves-preserved : goal.halves-preserved
halves-preserved g c =
    let es = c.args.self.now.entries in
    let m = c.halves.low + (c.halves.high - c.halves.low) / 2 in
    let row : List ℕ × Written = (c.in-Some.field-0-0.now, c.in-Some.written.now) in
    let at : slice_get es m ≡ Some row
    = sym (ap (λ (l : LastValue Written). slice_get l.entries m) c.self.view_is) ∙ sym c.nth.ensures
    ∙ ap (option_map (λ e. (e.0.now, e.1.now))) c.in-Some.is in
    record {
      order = omega arith;
      within = omega (arith, c.halves-test.true, c.halves.invariant.within);
      behind = c.halves.invariant.behind;
      others = others_more es c.args.number m row c.requires at (omega (arith, c.if-written-number.false));
    }

pub unreachable-requires : goal.unreachable-requires
unreachable-requires g c =
    let es = c.args.self.now.entries in
    let m = c.halves.low + (c.halves.high - c.halves.low) / 2 in
    no_gap es m (omega (arith, c.halves-test.true, c.halves.invariant.within))
    (sym (ap (λ (l : LastValue Written). slice_get l.entries m) c.self.view_is) ∙ sym c.nth.ensures
    ∙ ap (option_map (λ e. (e.0.now, e.1.now))) c.in-None.is)
