use Rattle.std.proofs.Common.{◌≡◌, None, rules, ◌++◌, ◌∷◌, []}
use Rattle.thread_parts.specs.declared.item.Item.TheVariants.{Entry}
use Rattle.apply_lanes.proofs.ApplierLaws.{counted_take, none_of}
use Rattle.apply_lanes.proofs.applier.Applier.fill_ready.Goals as goal

pub invariant_of-self : goal.invariant_of-self
invariant_of-self g c =
    let i = c.self.invariant in
    let none : c.self.inside.hand ≡ None = search (rules, none_of) in
    let more : c.take_ready.new.self.taken ≡ c.self.inside.outlet.taken ++ Entry c.in-Some-Entry.entry ∷ []
    = search rules in
    record {
      site = i.site;
      other = i.other;
      counted = counted_take _ _ _ _ i.counted none c.if-self.false more c.in-Some-Entry.ensures.chain;
    }

pub returns-in-Some-Entry-clause-counted : goal.returns-in-Some-Entry-clause-counted
returns-in-Some-Entry-clause-counted g c = (invariant_of-self g c).counted
