use Rattle.std.proofs.Common.{List, refl, sym, ap, subst, arith}
use Rattle.command_keys.specs.Last.{LastValue}
use Rattle.command_keys.specs.Keys.{IsKeys}
use Rattle.command_keys.specs.declared.outcome.Waiting.{Waiting}
use Rattle.command_keys.specs.declared.outcome.Written.{Written}
use Rattle.command_keys.specs.declared.outcome.Ended.{Ended}
use Rattle.command_keys.proofs.Changes.{grown}
use Rattle.command_keys.proofs.keys.Keys.reserve.Goals as goal

pub invariant_of-self : goal.invariant_of-self
invariant_of-self g c =
    let same = ap (λ (l : LastValue Written). l.entries) c.reserve.ensures.same in
    grown c.self.inside.written c.reserve.new.self c.self.inside.waiting.items c.self.inside.expired
    c.self.inside.expired same c.reserve.ensures.more refl (omega arith) refl c.self.invariant

pub invariant_of-self-in_err-reserve-2 : goal.invariant_of-self-in_err-reserve-2
invariant_of-self-in_err-reserve-2 g c =
    let same = ap (λ (l : LastValue Written). l.entries) c.reserve.ensures.same in
    let same_expired = ap (λ (l : LastValue Ended). l.entries) c.reserve-2.ensures.same in
    let cap = ap (λ (l : LastValue Ended). l.cap) c.reserve-2.ensures.same in
    grown c.self.inside.written c.reserve.new.self c.self.inside.waiting.items c.self.inside.expired
    c.reserve-2.new.self same c.reserve.ensures.more same_expired c.reserve-2.ensures.more cap c.self.invariant

pub invariant_of-self-in_err-reserve-3 : goal.invariant_of-self-in_err-reserve-3
invariant_of-self-in_err-reserve-3 g c =
    let same = ap (λ (l : LastValue Written). l.entries) c.reserve.ensures.same in
    let same_expired = ap (λ (l : LastValue Ended). l.entries) c.reserve-2.ensures.same in
    let cap = ap (λ (l : LastValue Ended). l.cap) c.reserve-2.ensures.same in
    subst (λ (ws : List Waiting). IsKeys c.reserve.new.self ws c.reserve-2.new.self)
    (sym {A = List Waiting} c.reserve-3.ensures.items)
    (grown c.self.inside.written c.reserve.new.self c.self.inside.waiting.items c.self.inside.expired
    c.reserve-2.new.self same c.reserve.ensures.more same_expired c.reserve-2.ensures.more cap c.self.invariant)

pub invariant_of-self-2 : goal.invariant_of-self-2
invariant_of-self-2 g c =
    let same = ap (λ (l : LastValue Written). l.entries) c.reserve.ensures.same in
    let same_expired = ap (λ (l : LastValue Ended). l.entries) c.reserve-2.ensures.same in
    let cap = ap (λ (l : LastValue Ended). l.cap) c.reserve-2.ensures.same in
    subst (λ (ws : List Waiting). IsKeys c.reserve.new.self ws c.reserve-2.new.self)
    (sym {A = List Waiting} c.reserve-3.ensures.items)
    (grown c.self.inside.written c.reserve.new.self c.self.inside.waiting.items c.self.inside.expired
    c.reserve-2.new.self same c.reserve.ensures.more same_expired c.reserve-2.ensures.more cap c.self.invariant)
