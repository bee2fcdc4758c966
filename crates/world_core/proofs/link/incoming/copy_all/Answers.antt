use Rattle.std.proofs.Common.{◌∙◌, arith, ap, sym, take, ◌++◌, [], ◌∷◌}
use Rattle.std.proofs.lemmas.List.{take_all, take_more}
use Rattle.rights_types.specs.Entries.{EntryValue}
use Rattle.world_core.proofs.link.incoming.copy_all.Goals as goal

pub loop-entry-preserved : goal.loop-entry-preserved
loop-entry-preserved g c =
    let entries = c.args.entries.now in
    let i = c.loop-entry.entry-index in
    let more = take_more entries i c.entry-item.result (omega arith) in
    let item = ap (λ (e : EntryValue). take i entries ++ e ∷ []) (sym c.entry-item.is) in
    record {
      items = c.push_reserved.ensures.items ∙ rw (c.loop-entry.invariant.items, c.in_ok-clone_in.ensures)
          (sym (more ∙ item));
      room = omega (arith, c.push_reserved.ensures.capacity, c.loop-entry.invariant.room);
    }

pub returns : goal.returns
returns g c = c.loop-entry.invariant.items ∙ take_all c.loop-entry.entry-index c.args.entries.now (omega arith)
