use Rattle.std.proofs.Common.{◌≡◌, ◌≤◌, ◌∷◌, [], ap, arith, length}
use Rattle.std.specs.Prelude.{Bool, true, None}
use Rattle.std.specs.List.{All, Contains}
use Rattle.std.proofs.lemmas.Bool.{leb-true}
use Rattle.std.proofs.lemmas.List.Elements.{All-cons, All-nil}
use Rattle.inbound.specs.Inbounds.{InboundValue}
use Rattle.world_core.proofs.LinkLaws.{goes_on_start, goes_on_next, goes_on_last}
use Rattle.world_core.proofs.link.Link.take_entry.Goals as goal

pub returns-clause-ok : goal.returns-clause-ok
returns-clause-ok g c es i f =
    let k : Bool = g.K.Keeping.keeps in
    let e = c.args.entry in
    let old = c.self.inside.incoming in
    let room = c.make_room.new.self in
    let applied = c.self.inside.applied in
    let same = c.in_ok-make_room.ensures.same in
    let t = c.take.ensures.takes in
    let next : k ≡ true → room.apart ≡ None → e.prev ≤ room.inbound.buffer.last = λ is none.
    omega (
      arith,
      leb-true _ _ (c.in_ok-make_room.ensures.apart is none),
      c.prev.ensures.value,
      c.last.ensures,
      ap
          (λ (x : InboundValue). x.buffer.last) same.inbound,
    ) in
    let of_log : All (Contains es) (e ∷ []) = All-cons (Contains es) e [] i (All-nil (Contains es)) in
    let within : applied ≤ length room.put.items =
    omega (arith, c.self.invariant.within, ap (λ es. length es) same.put) in
    let start = goes_on_start k es (e ∷ []) c.args.self.now old room applied c.make_room.new.scratch.reported.items
    c.self.view_is same c.in_ok-make_room.ensures.ok.1 of_log f (λ is none. (next is none, tt)) in
    let all = goes_on_last k es c.args.self.now (e ∷ []) c.take.new.self applied c.take.new.scratch.reported.items
    (goes_on_next k es c.args.self.now (e ∷ []) room c.take.new.self applied [] c.make_room.new.scratch.reported.items
    c.take.new.scratch.reported.items e t.0 t.1 within t.2 start) in
    rw c.report.ensures all
