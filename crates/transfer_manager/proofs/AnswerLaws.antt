-- Numbers that were answered stay answered: each is granted at most once.
use Rattle.std.proofs.Common.{◌≡◌, ℕ, ◌<◌, ◌≤◌, min, Bool, true, false, cond, eqb, ltb, inl, inr, refl, sym, ap, ◌∙◌}
use Rattle.std.proofs.Common.{subst, arith}
use Rattle.std.specs.Prelude.{None}
use Rattle.std.proofs.lemmas.Bool.{cases_lt, ne_eqb, lt-ltb, le-ltb}
use Rattle.rights_types.specs.Messages.{AskValue}
use Rattle.rights_types.proofs.Places.{at_set_site}
use Rattle.rights_book.proofs.BookLaws.{inside}
use Rattle.transfer_manager.specs.declared.peer_asks.PeerAsks.{PeerAsks}
use Rattle.transfer_manager.specs.declared.answer.AskAnswer.{AskAnswer}
use Rattle.transfer_manager.specs.declared.answer.AskAnswer.TheVariants.{Grant, Deny, RepeatedDeny, Repeated, OldAsk}
use Rattle.transfer_manager.specs.Managers.{ManagerValue, sites, asks, no_asks, with_ask, with_asks, with_ended, ended}
use Rattle.transfer_manager.specs.Plans.{Knowledge, planned, Plans}
use Rattle.transfer_manager.specs.AskAnswers.{grant_of, with_answer, IsLate, IsAnswered}
use Rattle.transfer_manager.proofs.ManagerLaws.{answered}

-- the answer by the last number that was answered, and whether it was granted
abbrev answer_by : ℕ → Bool → AskValue → ℕ → AskAnswer
answer_by last granted ask available =
    cond (ltb ask.ask last) OldAsk
    (cond (eqb ask.ask last) (cond granted Repeated RepeatedDeny) (grant_of (min ask.amount available)))

-- the same was answered
pub record IsAnsweredAs (p q : PeerAsks) : Type 0 where
  pub last : q.last_answered ≡ p.last_answered
  pub granted : q.granted ≡ p.granted

answered_as_is : (p q : PeerAsks) → q ≡ p → IsAnsweredAs p q
answered_as_is p q e = record {
  last = ap (λ (a : PeerAsks). a.last_answered) e;
  granted = ap (λ (a : PeerAsks). a.granted) e;
}

same_answer : (p q : PeerAsks) (ask : AskValue) (available : ℕ) → IsAnsweredAs p q
    → IsLate (answer_by p.last_answered p.granted ask available)
    → IsLate (answer_by q.last_answered q.granted ask available)
same_answer p q ask available same h =
    subst (λ (l : ℕ). IsLate (answer_by l q.granted ask available)) (sym same.last)
    (subst (λ (g : Bool). IsLate (answer_by p.last_answered g ask available)) (sym same.granted) h)

still_answered : (old new : ManagerValue) → ((k : ℕ) → IsAnsweredAs (asks old k) (asks new k)) → (past : AskValue)
    → IsAnswered old past → IsAnswered new past
still_answered old new same past answered again available of_asker most =
    same_answer (asks old again.asker) (asks new again.asker) again available (same again.asker)
    (answered again available of_asker most)

-- an ask that ended

end_keeps : (t : Bool) (p : PeerAsks) → IsAnsweredAs p (cond t (record p { outstanding = None }) p)
end_keeps true p = record { last = refl; granted = refl }
end_keeps false p = record { last = refl; granted = refl }

pub ended_keeps : (m : ManagerValue) (j ask : ℕ) → 1 ≤ j → j ≤ sites m → (k : ℕ)
    → IsAnsweredAs (asks m k) (asks (ended m j ask) k)
ended_keeps m j ask low high k =
    let p : PeerAsks = asks m j in
    elim (at_set_site m.peers j k (with_ended p ask) no_asks low high) [
      | inl q ↦
          subst (λ i. IsAnsweredAs (asks m i) (asks (ended m j ask) k)) (sym q.0)
          (subst (IsAnsweredAs p) (sym q.1) (end_keeps (eqb p.last_ask ask) p))
      | inr q ↦ answered_as_is (asks m k) (asks (ended m j ask) k) q.1
    ]

pub ended_answered : (m new : ManagerValue) (j ask : ℕ) → new ≡ ended m j ask → 1 ≤ j → j ≤ sites m → (past : AskValue)
    → IsAnswered m past
    → IsAnswered new past
ended_answered m new j ask same low high = rw same (still_answered m (ended m j ask) (ended_keeps m j ask low high))

-- one more ask

asked_keeps : (m : ManagerValue) (j amount : ℕ) → 1 ≤ j → j ≤ sites m → (k : ℕ)
    → IsAnsweredAs (asks m k) (asks (with_asks m j (with_ask (asks m j) amount)) k)
asked_keeps m j amount low high k =
    let p : PeerAsks = asks m j in
    elim (at_set_site m.peers j k (with_ask p amount) no_asks low high) [
      | inl q ↦ subst (λ i. IsAnsweredAs (asks m i) (asks (with_asks m j (with_ask p amount)) k)) (sym q.0)
          (subst (IsAnsweredAs p) (sym q.1) (record { last = refl; granted = refl }))
      | inr q ↦ answered_as_is (asks m k) (asks (with_asks m j (with_ask p amount)) k) q.1
    ]

pub asked_answered : (m new : ManagerValue) (j amount : ℕ) → new ≡ with_asks m j (with_ask (asks m j) amount) → 1 ≤ j
    → j ≤ sites m → (past : AskValue) → IsAnswered m past → IsAnswered new past
asked_answered m new j amount same low high =
    rw same (still_answered m (with_asks m j (with_ask (asks m j) amount)) (asked_keeps m j amount low high))

-- a plan

plan_keeps : (t u : Bool) (p : PeerAsks) (n : ℕ)
    → (let q : PeerAsks = cond t (record p { outstanding = None }) p in IsAnsweredAs p (cond u q (with_ask q n)))
plan_keeps true true p n = record { last = refl; granted = refl }
plan_keeps true false p n = record { last = refl; granted = refl }
plan_keeps false true p n = record { last = refl; granted = refl }
plan_keeps false false p n = record { last = refl; granted = refl }

pub planned_keeps : (m new : ManagerValue) (k : Knowledge) (queued count : ℕ) → Plans m k queued count new → (j : ℕ)
    → IsAnsweredAs (asks m j) (asks new j)
planned_keeps m new k queued count p j =
    elim (inside no_asks (sites m) j) [
      | inl r ↦ subst (IsAnsweredAs (asks m j)) (sym (p.each j r.0 r.1))
          (plan_keeps (k.closed j) (eqb (planned m k queued j) 0) (asks m j) (planned m k queued j))
      | inr out ↦ answered_as_is (asks m j) (asks new j) (out new.peers p.same.same_sites ∙ sym (out m.peers refl))
    ]

pub planned_answered : (m new : ManagerValue) (k : Knowledge) (queued count : ℕ) → Plans m k queued count new
    → (past : AskValue) → IsAnswered m past → IsAnswered new past
planned_answered m new k queued count p = still_answered m new (planned_keeps m new k queued count p)

-- an answer that was noted

new_answer : (b : Bool) (n : ℕ) → IsLate (cond b Deny (Grant n)) → ⊥
new_answer true n h = h
new_answer false n h = h

late_number : (last : ℕ) (granted : Bool) (ask : AskValue) (available : ℕ)
    → IsLate (answer_by last granted ask available) → ask.ask ≤ last
late_number last granted ask available h =
    elim (cases_lt last ask.ask) [
      | inl above ↦
          let older : ltb ask.ask last ≡ false = le-ltb ask.ask last (omega (arith, above)) in
          let other : eqb ask.ask last ≡ false = ne_eqb ask.ask last (λ e. omega (arith, above, e)) in
          let n = min ask.amount available in
          absurd (new_answer (eqb n 0) n
          (subst (λ (t : Bool). IsLate (cond t (cond granted Repeated RepeatedDeny) (grant_of n))) other
          (subst (λ (t : Bool). IsLate
          (cond t OldAsk (cond (eqb ask.ask last) (cond granted Repeated RepeatedDeny) (grant_of n)))) older h)))
      | inr within ↦ within
    ]

-- every number that was answered before is less than this one
older_late : (last : ℕ) (granted : Bool) (ask : AskValue) (available : ℕ) → ask.ask < last
    → IsLate (answer_by last granted ask available)
older_late last granted ask available h
    = subst (λ (t : Bool). IsLate (cond t OldAsk (cond (eqb ask.ask last) (cond granted Repeated RepeatedDeny)
    (grant_of (min ask.amount available))))) (sym (lt-ltb ask.ask last h)) tt

first_answered : (m : ManagerValue) (ask : AskValue) (granted : Bool) → 1 ≤ ask.asker → ask.asker ≤ sites m
    → (asks m ask.asker).last_answered < ask.ask
    → (past : AskValue) → IsAnswered m past
    → IsAnswered (with_asks m ask.asker (answered (asks m ask.asker) ask.ask granted)) past
first_answered m ask granted low high above past was_answered again available of_asker most =
    let j = ask.asker in
    let p : PeerAsks = answered (asks m j) ask.ask granted in
    let new : ManagerValue = with_asks m j p in
    elim (at_set_site m.peers j again.asker p no_asks low high) [
      | inl q ↦
          let before = late_number (asks m past.asker).last_answered (asks m past.asker).granted past 0
          (was_answered past 0 refl (omega arith)) in
          let before_here : past.ask ≤ (asks m j).last_answered
          = subst (λ i. past.ask ≤ (asks m i).last_answered) (sym of_asker ∙ q.0) before in
          let old : again.ask < ask.ask = omega (arith, most, before_here, above) in
          subst (λ (a : PeerAsks). IsLate (answer_by a.last_answered a.granted again available)) (sym q.1)
          (older_late ask.ask granted again available old)
      | inr q ↦
          same_answer (asks m again.asker) (asks new again.asker) again available
          (answered_as_is (asks m again.asker) (asks new again.asker) q.1)
          (was_answered again available of_asker most)
    ]

pub noted_answered : (m new : ManagerValue) (ask : AskValue) (granted : Bool) → new ≡ with_answer m ask granted
    → 1 ≤ ask.asker → ask.asker ≤ sites m
    → (asks m ask.asker).last_answered < ask.ask → (past : AskValue) → IsAnswered m past → IsAnswered new past
noted_answered m new ask granted same low high above = rw same (first_answered m ask granted low high above)
