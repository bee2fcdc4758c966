use Rattle.std.proofs.Common.{◌≡◌, ◌∙◌, ◌++◌, ◌∷◌, [], ap, sym, subst, refl, map, vec_capacity}
use Rattle.std.specs.Prelude.{IsSome}
use Rattle.std.specs.Option.{option_map}
use Rattle.rights_types.specs.Entries.{EntryValue}
use Rattle.sub_buffer.specs.Arrivals.{Arrives, all_ready}
use Rattle.sub_buffer.specs.Follows.{reached_after}
use Rattle.sub_buffer.specs.declared.verdict.Verdict.{Verdict as BufferVerdict}
use Rattle.sub_buffer.specs.declared.verdict.Verdict.TheVariants.{Ready}
use Rattle.inbound.specs.Inbounds.{ready_in}
use Rattle.world_core.specs.IncomingLists.{IncomingTakes}
use Rattle.world_core.specs.LinkEvents.{reported as as_reported}
use Rattle.world_core.proofs.IncomingLaws.{puts_one, tells_one, keeps_room, none_apart}
use Rattle.world_core.proofs.link.incoming.Incoming.take.Goals as goal

-- the next entry, while none is held
pub returns-then-arrive_next-clause-takes : goal.returns-then-arrive_next-clause-takes
returns-then-arrive_next-clause-takes g c =
    let old = c.args.self.now in
    let before = c.args.scratch.now.reported.items in
    let e : EntryValue = c.args.entry in
    let v : BufferVerdict g.row.A.Denot = Ready e in
    let next = c.if-arrive_next.true in
    let inbound : c.put_ready-verdict.new.self.inbound ≡ c.arrive_next.new.self.inbound
    = ap (λ i. i.inbound) c.put_ready-verdict.ensures.rest in (
      v,
      [],
      record {
        arrives = subst (λ i. Arrives old.inbound.buffer e v [] i.buffer) (sym inbound)
            (c.arrive_next.ensures.arrives next);
        inbound = rw inbound c.arrive_next.ensures.inbound;
        gone = ap (λ i. i.gone.items) c.put_ready-verdict.ensures.rest
            ∙ ap (λ i. i.gone.items) c.arrive_next.ensures.rest;
        put = c.put_ready-verdict.ensures.put ∙ ap (λ i. i.put.items ++ ready_in (v ∷ [])) c.arrive_next.ensures.rest
            ∙ puts_one old.put.items v [];
        seen = ap (λ i. i.seen.items) c.put_ready-verdict.ensures.rest ∙ c.and-seen.ensures;
        apart = ap (λ i. option_map (λ l. l.items) i.apart) c.put_ready-verdict.ensures.rest
            ∙ ap (λ i. option_map (λ l. l.items) i.apart) c.arrive_next.ensures.rest
            ∙ none_apart (λ l. l.items) old.apart v e (c.arrive_next.ensures.apart next);
        reported = c.push_reserved.ensures.items ∙ ap (λ t. before ++ t ∷ []) c.put_ready-verdict.ensures.reported;
      },
    )

pub returns-then-arrive_next-clause-room : goal.returns-then-arrive_next-clause-room
returns-then-arrive_next-clause-room g c n room =
    let t = returns-then-arrive_next-clause-takes g c in
    let list = c.args.scratch.now in
    keeps_room n _ _ list (record list { reported = c.push_reserved.new.self }) c.args.entry t.0 t.1 room t.2
    (c.put_ready-verdict.ensures.room ∙ ap (λ i. vec_capacity i.put) c.arrive_next.ensures.rest)
    (ap (λ i. option_map (λ l. vec_capacity l) i.apart) c.put_ready-verdict.ensures.rest
    ∙ ap (λ i. option_map (λ l. vec_capacity l) i.apart) c.arrive_next.ensures.rest)
    refl
    c.push_reserved.ensures.capacity

pub returns-clause-takes : goal.returns-clause-takes
returns-clause-takes g c =
    let same = c.arrive_next.ensures.same c.if-arrive_next.false in
    let i = c.arrive_next.new.self in
    let before = c.args.scratch.now.reported.items in
    let e : EntryValue = c.args.entry in
    let a = c.arrive.ensures.arrives in
    let v = a.0 in
    let freed = a.1 in
    let came : c.arrive.new.verdicts.items ≡ v ∷ all_ready freed =
    a.2 ∙ ap (λ vs. vs ++ v ∷ all_ready freed) c.requires.empty in
    let inbound : c.pass_on.new.self.inbound ≡ c.arrive.new.self = ap (λ i. i.inbound) c.pass_on.ensures.rest
    ∙ ap (λ i. i.inbound) c.list.ensures.rest ∙ ap (λ i. i.inbound) c.see.ensures.rest in (
      v,
      freed,
      subst (λ i. IncomingTakes i before e v freed c.pass_on.new.self c.pass_on.new.scratch.reported.items) same (record {
        arrives = subst (λ j. Arrives i.inbound.buffer e v freed j.buffer) (sym inbound) a.3;
        inbound = rw inbound c.arrive.ensures.rest;
        gone = ap (λ i. i.gone.items) c.pass_on.ensures.rest ∙ ap (λ i. i.gone.items) c.list.ensures.rest
            ∙ ap (λ i. i.gone.items) c.see.ensures.rest;
        put = c.pass_on.ensures.put ∙ ap (λ vs. c.list.new.self.put.items ++ ready_in vs) came
            ∙ ap (λ i. i.put.items ++ ready_in (v ∷ all_ready freed)) c.list.ensures.rest
            ∙ ap (λ i. i.put.items ++ ready_in (v ∷ all_ready freed)) c.see.ensures.rest
            ∙ puts_one i.put.items v freed;
        seen = ap (λ i. i.seen.items) c.pass_on.ensures.rest ∙ ap (λ i. i.seen.items) c.list.ensures.rest
            ∙ c.see.ensures.seen v (all_ready freed) e (c.deref.ensures.value ∙ came)
            (c.and-seen.ensures ∙ ap (λ i. i.seen.items ++ e ∷ []) (sym same));
        apart = ap (λ i. option_map (λ l. l.items) i.apart) c.pass_on.ensures.rest
            ∙ c.list.ensures.lists v (all_ready freed) e (c.deref-2.ensures.value ∙ came)
            (λ some. c.requires.copy (subst (λ i. IsSome i.apart) same
            (subst (λ i. IsSome i.apart) c.see.ensures.rest some)))
            ∙ ap (λ i. option_map (λ l. reached_after l.items e v) i.apart) c.see.ensures.rest;
        reported = c.pass_on.ensures.reported ∙ ap (λ vs. before ++ map as_reported vs) came
            ∙ ap (λ ts. before ++ ts) (tells_one v freed);
      }),
    )

pub returns-clause-room : goal.returns-clause-room
returns-clause-room g c n room =
    let t = returns-clause-takes g c in
    let same = c.arrive_next.ensures.same c.if-arrive_next.false in
    keeps_room n _ _ c.args.scratch.now c.pass_on.new.scratch c.args.entry t.0 t.1 room t.2
    (c.pass_on.ensures.put_room ∙ ap (λ i. vec_capacity i.put) c.list.ensures.rest
    ∙ ap (λ i. vec_capacity i.put) c.see.ensures.rest ∙ ap (λ i. vec_capacity i.put) same)
    (ap (λ i. option_map (λ l. vec_capacity l) i.apart) c.pass_on.ensures.rest ∙ c.list.ensures.capacity
    ∙ ap (λ i. option_map (λ l. vec_capacity l) i.apart) c.see.ensures.rest
    ∙ ap (λ i. option_map (λ l. vec_capacity l) i.apart) same)
    (c.pass_on.ensures.verdicts_room ∙ c.arrive.ensures.capacity)
    c.pass_on.ensures.reported_room
