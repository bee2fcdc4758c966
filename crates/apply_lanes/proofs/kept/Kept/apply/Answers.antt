use Rattle.apply_lanes.proofs.KeptLaws.{any_handed}
use Rattle.rights_protocol.specs.Schedules.LocalChange.{Apply}
use Rattle.std.proofs.Common.{◌≡◌, ◌-◌, arith, subst, length, rules}
use Rattle.rights_types.specs.Rights.{to}
use Rattle.site_core.specs.Ledgers.{ApplyKeeps}
use Rattle.site_core.specs.Calls.{DeskApplies}
use Rattle.apply_lanes.specs.Kepts.{KeptValue, raised}
use Rattle.apply_lanes.proofs.KeptLaws.{kept_apply, gift_is, numbers_bound}
use Rattle.apply_lanes.proofs.RecordLaws.{keeps_lists, seen_adds}
use Rattle.apply_lanes.proofs.StepLaws.{seen, steps_apply}
use Rattle.apply_lanes.proofs.kept.Kept.apply.Goals as goal

pub add-requires : goal.add-requires
add-requires g c =
    let i = c.self.invariant in
    let bound = numbers_bound c.self.inside.desk.ledger.book _ _ _ _ i.matches_book
    (omega (arith, i.same_sites, i.few)) in
    omega (arith, bound, c.own.ensures.value, c.prev.ensures.value, c.own.ensures.valid.few)

pub invariant_of-self-2 : goal.invariant_of-self-2
invariant_of-self-2 g c =
    let i = c.self.invariant in
    let e = c.args.entry.now in
    let applies = c.in_ok-apply.ensures.ok.entry in
    let keeps = c.in_ok-apply.ensures.keeps c.in_ok-apply.ensures.ok in
    let next = rw (← c.self.view_is) at c.requires.next in
    let live = rw (← c.self.view_is) at c.requires.unclosed in
    let count : c.own.result - c.prev.result ≡ length e.moves
    = omega (arith, c.own.ensures.value, c.prev.ensures.value) in
    let gift : c.received.result - c.received-before.result ≡ to g.D.DeskNames.id.site e.moves =
    omega (
      arith,
      c.received.ensures.value,
      c.received-before.ensures.value,
      gift_is _ _ c.apply.new.self _ _ i applies keeps,
    ) in
    let unclosed = rw (← c.self.view_is) at c.requires.open in
    let id = g.D.DeskNames.id in
    let steps = steps_apply id _ c.apply.new.self c.args.origin c.args.entry.now i applies keeps
    c.number.ensures.range.0 c.requires.site c.requires.other unclosed live next c.requires.own c.own.ensures.valid in
    let has = keeps_lists id _ c.apply.new.self (Apply c.args.origin c.args.entry.now) c.note.new.self.items i steps
    c.note.ensures.items in
    any_handed c.note.new.self.handed c.note.new.self.lines (kept_apply _ _ c.apply.new.self _ _ _ _ _ i applies keeps c.number.ensures.range.0 c.requires.site next
    c.own.ensures.valid has
    (subst (λ n. c.add.new.self ≡ raised c.self.inside.number n) count c.add.ensures.sum)
    (subst (λ n. c.add-2.new.self ≡ raised c.self.inside.received n) gift c.add-2.ensures.sum))

pub returns-clause-ok : goal.returns-clause-ok
returns-clause-ok g c = search rules

pub returns-clause-counters : goal.returns-clause-counters
returns-clause-counters g c = search rules

pub returns-clause-added : goal.returns-clause-added
returns-clause-added g c = search rules

pub returns-clause-keeps : goal.returns-clause-keeps
returns-clause-keeps g c =
    let keeps : (h : DeskApplies c.self.inside.desk c.args.origin c.args.entry.now c.apply.new.self)
    → ApplyKeeps c.self.inside.desk.ledger c.args.origin c.args.entry.now h.entry.between c.apply.new.self.ledger
    = c.in_ok-apply.ensures.keeps in
    subst (λ (k : KeptValue). (h : DeskApplies k.desk c.args.origin c.args.entry.now c.apply.new.self)
    → ApplyKeeps k.desk.ledger c.args.origin c.args.entry.now h.entry.between c.apply.new.self.ledger)
    c.self.view_is keeps

pub returns-clause-step : goal.returns-clause-step
returns-clause-step g c =
    let i = c.self.invariant in
    let applies = c.in_ok-apply.ensures.ok.entry in
    let keeps = c.in_ok-apply.ensures.keeps c.in_ok-apply.ensures.ok in
    let next = rw (← c.self.view_is) at c.requires.next in
    let live = rw (← c.self.view_is) at c.requires.unclosed in
    let unclosed = rw (← c.self.view_is) at c.requires.open in
    let id = g.D.DeskNames.id in
    seen id _ _ (Apply c.args.origin c.args.entry.now) c.apply.new.self c.self.view_is
    (steps_apply id _ c.apply.new.self c.args.origin c.args.entry.now i applies keeps c.number.ensures.range.0
    c.requires.site c.requires.other unclosed
    live next c.requires.own c.own.ensures.valid)

pub returns-clause-records : goal.returns-clause-records
returns-clause-records g c =
    seen_adds g.D.DeskNames.id _ _ (Apply c.args.origin c.args.entry.now) c.note.new.self.items c.self.view_is c.note.ensures.items
