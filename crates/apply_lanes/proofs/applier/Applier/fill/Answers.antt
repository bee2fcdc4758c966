use Rattle.std.proofs.Common.{◌≡◌, None, rules, ◌++◌, ◌∷◌, []}
use Rattle.thread_parts.specs.declared.item.Item.TheVariants.{Entry}
use Rattle.apply_lanes.proofs.ApplierLaws.{counted_take, none_of}
use Rattle.apply_lanes.proofs.applier.Applier.fill.Goals as goal

pub invariant_of-self : goal.invariant_of-self
invariant_of-self g c =
    let i = c.self.invariant in
    let none : c.self.inside.hand ≡ None = search (rules, none_of) in
    let more : c.take.new.self.taken ≡ c.self.inside.outlet.taken ++ Entry c.in-Ok-Entry.entry ∷ [] = search rules in
    record {
      site = i.site;
      other = i.other;
      counted = counted_take _ _ _ _ i.counted none c.if-self.false more c.in-Ok-Entry.ensures.chain;
    }

pub returns-in-Ok-Entry-clause-counted : goal.returns-in-Ok-Entry-clause-counted
returns-in-Ok-Entry-clause-counted g c = (invariant_of-self g c).counted
