use Rattle.std.proofs.Common.{◌≡◌, ◌∷◌, [], List, subst, sym, ap, arith, length, ◌∙◌}
use Rattle.std.specs.List.{All}
use Rattle.std.proofs.lemmas.List.{nil_from_length}
use Rattle.std.proofs.lemmas.List.Elements.{All-head, All-tail}
use Rattle.rights_types.specs.Entries.{EntryValue}
use Rattle.inbound.specs.Inbounds.{InboundValue}
use Rattle.world_core.specs.Values.{LinkValue}
use Rattle.world_core.specs.IncomingLists.{HasRoom, NoneAhead}
use Rattle.world_core.proofs.IncomingLaws.{next_copy, still_some}
use Rattle.world_core.proofs.LinkLaws.{goes_on_start, goes_on_next, goes_on_last, still_incoming, roomy_incoming}
use Rattle.world_core.proofs.link.Link.take_answer.Goals as goal

pub loop-entry-init : goal.loop-entry-init
loop-entry-init g c =
    let same = c.in_ok-make_room.ensures.same in
    let entries : c.into_iter-entry-iterator.result.rest.items ≡ c.args.entries.items =
    c.into_iter-entry-iterator.ensures.into_iter_gives.0 in
    let last : c.last.result ≡ c.make_room.new.self.inbound.buffer.last = c.last.ensures
    ∙ sym (ap (λ (x : InboundValue). x.buffer.last) same.inbound) in
    let origin : c.make_room.new.self.inbound.buffer.origin ≡ c.args.self.now.inbound.buffer.origin =
    ap (λ (x : InboundValue). x.buffer.origin) same.inbound
    ∙ ap (λ (l : LinkValue). l.inbound.buffer.origin) c.self.view_is in
    record {
      incoming = roomy_incoming c.self.inside.applied c.self.inside.incoming c.make_room.new.self c.self.invariant same;
      goes_on = λ es of_log f.
          rw entries (goes_on_start g.K.Keeping.keeps es c.args.entries.items c.args.self.now c.self.inside.incoming
          c.make_room.new.self c.self.inside.applied c.make_room.new.scratch.reported.items c.self.view_is same
          c.in_ok-make_room.ensures.ok.1 of_log f
          (λ is none. subst (λ n. NoneAhead n c.args.entries.items) last
          (subst (NoneAhead c.last.result) c.deref.ensures.value
          (c.none_ahead-in_order.ensures.0 (c.in_ok-make_room.ensures.apart is none)))));
      origin =
          rw entries (subst (λ o. All (λ (e : EntryValue). e.origin ≡ o) c.args.entries.items) (sym origin)
          c.requires.origin);
      copies = λ some. c.into_iter-copies.ensures.rest ∙ (rw some at c.in_ok-copies_of.ensures)
          ∙ c.deref-2.ensures.value ∙ sym entries;
      empty = c.in_ok-make_room.ensures.ok.0;
      room =
          subst (λ n. HasRoom n c.make_room.new.self c.make_room.new.scratch)
          (omega (arith, c.len.ensures, ap (λ es. length es) entries)) c.in_ok-make_room.ensures.ok.2;
    }

pub take-requires-clause-origin : goal.take-requires-clause-origin
take-requires-clause-origin g c =
    let e : EntryValue = c.in-Some.entry in
    let rest : List EntryValue = c.next.new.self.rest.items in
    let next = c.in-Some.ensures.steps.0 in
    let all : All (λ (x : EntryValue). x.origin ≡ c.loop-entry.self-inside.incoming.inbound.buffer.origin) (e ∷ rest) =
    rw next at c.loop-entry.invariant.origin in
    All-head (λ (x : EntryValue). x.origin ≡ c.loop-entry.self-inside.incoming.inbound.buffer.origin) e rest all

pub take-requires-clause-copy : goal.take-requires-clause-copy
take-requires-clause-copy g c some =
    let is = c.loop-entry.invariant.copies some ∙ c.in-Some.ensures.steps.0 in
    (next_copy c.next-in-loop-entry.result c.loop-entry.copies.rest.items c.next-in-loop-entry.new.self.rest.items
    c.next.new.self.rest.items _ _ c.in-Some.entry c.next-in-loop-entry.ensures.cases (omega arith) is).0

pub loop-entry-preserved : goal.loop-entry-preserved
loop-entry-preserved g c =
    let e : EntryValue = c.in-Some.entry in
    let rest : List EntryValue = c.next.new.self.rest.items in
    let next = c.in-Some.ensures.steps.0 in
    let old = c.loop-entry.self-inside.incoming in
    let applied = c.loop-entry.self-inside.applied in
    let t = c.take.ensures.takes in
    let all : All (λ (x : EntryValue). x.origin ≡ old.inbound.buffer.origin) (e ∷ rest) =
    rw next at c.loop-entry.invariant.origin in
    record {
      incoming = still_incoming applied old c.take.new.self c.loop-entry.scratch.reported.items
          c.take.new.scratch.reported.items e t.0 t.1 c.loop-entry.invariant.incoming t.2;
      goes_on = λ es of_log f.
          goes_on_next g.K.Keeping.keeps es c.args.self.now c.args.entries.items old c.take.new.self applied rest
          c.loop-entry.scratch.reported.items c.take.new.scratch.reported.items e t.0 t.1
          c.loop-entry.invariant.incoming.within t.2
          (rw next at (c.loop-entry.invariant.goes_on es of_log f));
      origin =
          rw t.2.arrives.pair.origin (All-tail (λ (x : EntryValue). x.origin ≡ old.inbound.buffer.origin) e rest all);
      copies = λ some.
          let is =
          c.loop-entry.invariant.copies (still_some (λ l. l.items) old.apart c.take.new.self.apart t.0 e t.2.apart some)
          ∙ next in
          (next_copy c.next-in-loop-entry.result c.loop-entry.copies.rest.items c.next-in-loop-entry.new.self.rest.items
          rest _ _ e c.next-in-loop-entry.ensures.cases (omega arith) is).1;
      empty = c.take.ensures.empty;
      room =
          c.take.ensures.room (length rest) (subst (λ n. HasRoom n old c.loop-entry.scratch)
          (omega (arith, ap (λ es. length es) next)) c.loop-entry.invariant.room);
    }

pub returns-clause-ok : goal.returns-clause-ok
returns-clause-ok g c es of_log f =
    let none : c.loop-entry.entry-iterator.rest.items ≡ [] =
    nil_from_length _ (omega (arith, c.in-None.ensures.steps.0)) in
    let incoming = c.loop-entry.self-inside.incoming in
    let applied = c.loop-entry.self-inside.applied in
    let all = goes_on_last g.K.Keeping.keeps es c.args.self.now c.args.entries.items incoming applied
    c.loop-entry.scratch.reported.items (rw none at (c.loop-entry.invariant.goes_on es of_log f)) in
    rw c.report.ensures all
