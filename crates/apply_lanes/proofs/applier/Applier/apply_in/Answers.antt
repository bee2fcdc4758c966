use Rattle.std.proofs.Common.{◌≡◌, false, arith, rules, sym, ap, ◌∙◌, subst}
use Rattle.rights_types.specs.Entries.{EntryValue, own}
use Rattle.rights_book.specs.Books.{peer}
use Rattle.site_core.specs.Ledgers.{ApplyKeeps}
use Rattle.site_core.specs.Calls.{DeskApplies}
use Rattle.apply_lanes.specs.Kepts.{KeptValue}
use Rattle.apply_lanes.specs.Appliers.{ApplierValue, is_late, MovesOn, counted_on}
use Rattle.rights_protocol.specs.Schedules.LocalChange.{Apply}
use Rattle.apply_lanes.specs.Steps.{StepsBy}
use Rattle.apply_lanes.proofs.StepLaws.{steps_late, steps_in_time}
use Rattle.apply_lanes.proofs.RecordLaws.{Adds, adds_late, adds_in_time}
use Rattle.apply_lanes.proofs.ApplierLaws.{same_some, not_dropping, applied_is, hand_follows, counted_apply}
use Rattle.apply_lanes.proofs.ApplierLaws.{counted_drop, moves_on}
use Rattle.apply_lanes.proofs.applier.Applier.apply_in.Goals as goal

pub invariant_of-self : goal.invariant_of-self
invariant_of-self g c =
    let i = c.self.invariant in
    record { site = i.site; other = i.other; counted = counted_drop _ _ _ i.counted c.in-Some.is }

pub returns-then-is_late-clause-after : goal.returns-then-is_late-clause-after
returns-then-is_late-clause-after g c = counted_drop _ _ _ c.self.invariant.counted c.in-Some.is

pub invariant_of-self-in-Ok : goal.invariant_of-self-in-Ok
invariant_of-self-in-Ok g c =
    let i = c.self.invariant in
    let late : is_late c.args.self.now c.args.kept.now.desk ≡ false = sym c.is_late-is_late.ensures
    ∙ c.if-is_late.false in
    let free = ap (λ (a : ApplierValue _ _). a.dropping) c.self.view_is
    ∙ not_dropping c.args.self.now c.args.kept.now.desk late in
    let number : c.apply.new.number ≡ own c.in-Some.entry
    = omega (arith, c.in-Ok.ensures.added.0, hand_follows _ _ _ i.counted c.in-Some.is free) in
    let of_origin : c.in-Some.entry.origin ≡ c.self.inside.origin = search rules in
    record {
      site = i.site;
      other = i.other;
      counted = counted_apply _ _ _ _ _ i.counted c.in-Some.is free of_origin number c.in-Ok.ensures.added.1;
    }

pub returns-in-Ok-clause-applied : goal.returns-in-Ok-clause-applied
returns-in-Ok-clause-applied g c late =
    let free = ap (λ (a : ApplierValue _ _). a.dropping) c.self.view_is
    ∙ not_dropping c.args.self.now c.args.kept.now.desk late in
    let number : c.apply.new.number ≡ own c.in-Some.entry
    = omega (arith, c.in-Ok.ensures.added.0, hand_follows _ _ _ c.self.invariant.counted c.in-Some.is free) in
    rw (← c.self.view_is) (λ e held. applied_is _ _ _ e _ _ c.self.invariant.counted c.in-Some.is number
    c.in-Ok.ensures.added.1 held)

pub returns-in-Ok-clause-desk : goal.returns-in-Ok-clause-desk
returns-in-Ok-clause-desk g c late e held =
    let id = g.D.DeskNames.id in
    let entry : EntryValue = c.in-Some.entry in
    let new : KeptValue = c.apply.new.self in
    let same : entry ≡ e = same_some entry e (sym c.in-Some.is
    ∙ ap (λ (a : ApplierValue _ _). a.hand) c.self.view_is ∙ held) in
    let at : entry.prev ≡ (peer c.kept.inside.desk.ledger.book c.self.inside.origin).log.end =
    sym c.prev.ensures.value ∙ sym c.if-applied-prev.false ∙ c.applied.ensures.value in
    let applies = subst (λ (k : KeptValue). DeskApplies k.desk c.self.inside.origin entry new.desk)
    (sym c.kept.view_is) c.in-Ok.ensures.ok in
    let keeps = subst (λ (k : KeptValue). (h : DeskApplies k.desk c.self.inside.origin entry new.desk)
    → ApplyKeeps k.desk.ledger c.self.inside.origin entry h.entry.between new.desk.ledger)
    (sym c.kept.view_is) c.in-Ok.ensures.keeps in
    let counters = subst (λ (k : KeptValue). new ≡ counted_on id k entry new.desk)
    (sym c.kept.view_is) c.in-Ok.ensures.counters in
    let moves = moves_on _ _ new.desk c.self.inside.origin entry c.kept.invariant applies (keeps applies) at in
    subst (λ (x : KeptValue × ApplierValue g.row.G.Denot g.row.A.Denot
    × EntryValue). MovesOn id.site x.0.desk x.1.origin x.2 new.desk × (new ≡ counted_on id x.0 x.2 new.desk))
    (λ i. (c.kept.view_is i, c.self.view_is i, same i)) (moves, counters)

pub returns-in-Ok-clause-after : goal.returns-in-Ok-clause-after
returns-in-Ok-clause-after g c = (invariant_of-self-in-Ok g c).counted

pub returns-then-is_late-clause-step : goal.returns-then-is_late-clause-step
returns-then-is_late-clause-step g c e held =
    steps_late g.D.DeskNames.id c.args.kept.now.desk (is_late c.args.self.now c.args.kept.now.desk) _ e
    (sym c.is_late-is_late.ensures ∙ c.if-is_late.true)

pub returns-in-Ok-clause-step : goal.returns-in-Ok-clause-step
returns-in-Ok-clause-step g c e held =
    let id = g.D.DeskNames.id in
    let old : KeptValue = c.args.kept.now in
    let new : KeptValue = c.apply.new.self in
    let entry : EntryValue = c.in-Some.entry in
    let late : is_late c.args.self.now old.desk ≡ false = sym c.is_late-is_late.ensures ∙ c.if-is_late.false in
    let same : entry ≡ e = same_some entry e (sym c.in-Some.is
    ∙ ap (λ (a : ApplierValue _ _). a.hand) c.self.view_is ∙ held) in
    let step = subst (λ (x : ApplierValue g.row.G.Denot g.row.A.Denot × EntryValue). StepsBy id old.desk
    (Apply x.0.origin x.1) new.desk)
    (λ i. (c.self.view_is i, same i)) c.in-Ok.ensures.step in
    steps_in_time id old.desk new.desk (is_late c.args.self.now old.desk) c.args.self.now.origin e late step

pub returns-then-is_late-clause-records : goal.returns-then-is_late-clause-records
returns-then-is_late-clause-records g c e held =
    adds_late g.D.DeskNames.id c.args.kept.now (is_late c.args.self.now c.args.kept.now.desk) _ e
    (sym c.is_late-is_late.ensures ∙ c.if-is_late.true)

pub returns-in-Ok-clause-records : goal.returns-in-Ok-clause-records
returns-in-Ok-clause-records g c e held =
    let id = g.D.DeskNames.id in
    let old : KeptValue = c.args.kept.now in
    let new : KeptValue = c.apply.new.self in
    let entry : EntryValue = c.in-Some.entry in
    let late : is_late c.args.self.now old.desk ≡ false = sym c.is_late-is_late.ensures ∙ c.if-is_late.false in
    let same : entry ≡ e = same_some entry e (sym c.in-Some.is
    ∙ ap (λ (a : ApplierValue _ _). a.hand) c.self.view_is ∙ held) in
    let added = subst (λ (x : ApplierValue g.row.G.Denot g.row.A.Denot × EntryValue). Adds id old
    (Apply x.0.origin x.1) new.records)
    (λ i. (c.self.view_is i, same i)) c.in-Ok.ensures.records in
    adds_in_time id old (is_late c.args.self.now old.desk) c.args.self.now.origin e new.records late added
