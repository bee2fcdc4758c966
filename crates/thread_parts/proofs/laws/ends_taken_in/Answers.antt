use Rattle.std.proofs.Common.{◌≡◌, [], ◌++◌, ap, sym, subst, ◌∙◌, append-nil}
use Rattle.rtrb.specs.Ring.{known_items}
use Rattle.thread_parts.specs.Items.{IsItemChain}
use Rattle.thread_parts.specs.Ends.{InletValue, OutletValue}
use Rattle.thread_parts.proofs.Items.{whole_at_end}
use Rattle.thread_parts.proofs.laws.ends_taken_in.Goals as goal

pub invariant_of-outlet : goal.invariant_of-outlet
invariant_of-outlet g c = subst IsItemChain (sym c.slots_beside.ensures.looked.1) c.outlet.invariant

pub returns-clause-prefix : goal.returns-clause-prefix
returns-clause-prefix g c =
    let beside = c.slots_beside.ensures in
    let waiting = known_items c.slots_beside.new.self in
    let put = sym (ap (λ (v : InletValue _). v.put) c.inlet.view_is) ∙ sym beside.producer.1 in
    let taken = beside.looked.1 ∙ ap (λ (v : OutletValue _). v.taken) c.outlet.view_is in
    (waiting, put ∙ sym beside.fifo ∙ ap (λ l. l ++ waiting) taken)

pub returns-clause-whole : goal.returns-clause-whole
returns-clause-whole g c is =
    let split = returns-clause-prefix g c in
    let taken = c.args.outlet.taken in
    let chain = subst IsItemChain (ap (λ (v : InletValue _). v.put) c.inlet.view_is) c.inlet.invariant in
    let none : split.0 ≡ [] = whole_at_end taken split.0 (subst IsItemChain split.1 chain) is in
    sym (split.1 ∙ ap (λ l. taken ++ l) none ∙ append-nil taken)
