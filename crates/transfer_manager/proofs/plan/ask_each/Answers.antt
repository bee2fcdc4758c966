use Rattle.std.proofs.Common.{ℕ, inl, inr, ◌+◌, ◌≡◌, ◌≤◌, List, length, refl, sym, ap, ◌∙◌, subst, arith}
use Rattle.std.proofs.lemmas.List.{get_or_default}
use Rattle.std.proofs.lemmas.Bool.{cases_eq}
use Rattle.rights_types.specs.Ranges.{IsAmount}
use Rattle.rights_types.specs.Places.{at_site}
use Rattle.rights_types.proofs.Places.{at_site-index}
use Rattle.transfer_manager.specs.declared.peer_asks.PeerAsks.{PeerAsks}
use Rattle.transfer_manager.specs.Managers.{no_asks, with_ask, with_asked}
use Rattle.transfer_manager.specs.Plans.{amount_asked, count_asked}
use Rattle.transfer_manager.proofs.Sites.{IsWritten, next_written, next_left, asks_few, asks_more, asks_same}
use Rattle.transfer_manager.proofs.ManagerLaws.{with_asked_none, with_asked_some}
use Rattle.transfer_manager.proofs.plan.ask_each.Goals.{in-Ok, in_default}
use Rattle.transfer_manager.proofs.plan.ask_each.Goals as goal

zero_amount : (n amount : ℕ) → n ≡ amount → n ≤ 1000000000 → (IsAmount n → ⊥) → amount ≡ 0
zero_amount n amount is high not_one =
    elim (cases_eq n 0) [
      | inl e ↦ omega (arith, e, is)
      | inr ne ↦ absurd (not_one (omega (arith, ne), high))
    ]

pub overflow_add-count : goal.overflow_add-count
overflow_add-count c =
    omega (
      arith,
      asks_few c.loop-place.place
          (amount_asked (length c.args.rights.now) (λ i. at_site c.args.rights.now i 0) c.args.need),
      c.loop-place.invariant.counted,
      c.requires.few,
      c.loop-place.auto.peers,
    )

pub loop-place-preserved : goal.loop-place-preserved
loop-place-preserved c =
    let i = c.loop-place.place in
    let old = c.args.peers.now in
    let peers = c.loop-place.peers in
    let amounts : ℕ → ℕ = amount_asked (length c.args.rights.now) (λ i. at_site c.args.rights.now i 0) c.args.need in
    let f = λ (j : ℕ) (p : PeerAsks). with_asked p (amounts j) in
    let written = c.loop-place.invariant.written in
    let rest = written.rest (i + 1) (omega arith) in
    elim c.match-new.branch [
      | in-Ok w ↦
          let ok = w.in-Ok.ensures.ok in
          let amount : w.in-Ok.amount ≡ amounts (i + 1) = ok.1 ∙ c.amount_asked.ensures.value in
          let some : 1 ≤ amounts (i + 1) = omega (arith, c.amount_asked.ensures.value, ok.0.0) in
          let read = get_or_default peers i w.index-peers-place.result no_asks (omega (arith, c.loop-place-test.true))
          ∙ sym (at_site-index peers i (i + 1) no_asks refl) ∙ rest in
          let made : w.ask.new.self ≡ f (i + 1) (at_site old (i + 1) no_asks) =
          w.ask.ensures ∙ ap (λ (p : PeerAsks). with_ask p w.in-Ok.amount) read
          ∙ ap (with_ask (at_site old (i + 1) no_asks)) amount
          ∙ sym (with_asked_some (at_site old (i + 1) no_asks) (amounts (i + 1)) some) in
          record {
            written = subst (λ (ps : List PeerAsks). IsWritten no_asks f old ps (i + 1)) (sym w.peers-is)
                (next_written no_asks f old peers i w.ask.new.self written
                (omega (arith, c.loop-place-test.true)) made);
            counted = omega (arith, w.count-is, c.loop-place.invariant.counted, asks_more i amounts some);
          }
      | in_default w ↦
          let none : amounts (i + 1) ≡ 0
          = zero_amount c.amount_asked.result (amounts (i + 1)) c.amount_asked.ensures.value
          c.amount_asked.ensures.range w.in_default.ensures.ok in
          record {
            written = subst (λ (ps : List PeerAsks). IsWritten no_asks f old ps (i + 1)) (sym w.peers-is)
                (next_left no_asks f old peers i written
                (sym (with_asked_none (at_site old (i + 1) no_asks) (amounts (i + 1)) none)));
            counted = omega (arith, w.count-is, c.loop-place.invariant.counted, asks_same i amounts none);
          }
    ]

pub returns-clause-count : goal.returns-clause-count
returns-clause-count c =
    let rights : ℕ → ℕ = λ i. at_site c.args.rights.now i 0 in
    let all : c.loop-place.place ≡ length c.args.peers.now = omega arith in
    c.loop-place.invariant.counted
    ∙ ap (λ n. count_asked n (amount_asked (length c.args.rights.now) rights c.args.need)) all
    ∙ ap (λ n. count_asked (length c.args.peers.now) (amount_asked n rights c.args.need)) c.requires.same
