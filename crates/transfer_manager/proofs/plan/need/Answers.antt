use Rattle.std.proofs.Common.{ℕ, Bool, true, false, cond, ◌+◌, ◌≤◌, ◌≡◌, refl, ap, ◌∙◌, sym, arith}
use Rattle.std.proofs.lemmas.List.{get_or_read}
use Rattle.rights_types.specs.Places.{at_site}
use Rattle.transfer_manager.specs.SiteSets.{has_site}
use Rattle.rights_types.proofs.Places.{at_site-index}
use Rattle.rights_types.proofs.SiteSums.{sum_bound}
use Rattle.transfer_manager.specs.Managers.{no_asks, amount_of}
use Rattle.transfer_manager.specs.Plans.{of_book, beside, expected}
use Rattle.transfer_manager.proofs.plan.need.Goals as goal

no_more : (silent : Bool) (n most : ℕ) → n ≤ most → cond silent 0 n ≤ most
no_more true n most h = omega arith
no_more false n most h = h

pub overflow_add-expected : goal.overflow_add-expected
overflow_add-expected g c =
    let i = c.loop-place.place in
    let k = beside (has_site c.args.silent.now) (of_book c.args.book.now) in
    let f = λ (j : ℕ). expected k j (at_site c.args.peers.now j no_asks) in
    let few = λ (j : ℕ). no_more (has_site c.args.silent.now j)
    (amount_of (at_site c.args.peers.now j no_asks).outstanding) 1000000000 (c.requires.amounts j) in
    let read = get_or_read c.args.peers.now i c.index-peers-place.result c.loop-place-test.true c.index-peers-place.is
    no_asks in
    let here : c.index-peers-place.result ≡ at_site c.args.peers.now (i + 1) no_asks
    = read ∙ sym (at_site-index c.args.peers.now i (i + 1) no_asks refl) in
    let value : c.expected_of-expected.result ≡ f (i + 1) =
    c.expected_of-expected.ensures
    ∙ ap (λ s. cond (has_site c.args.silent.now s) 0 (amount_of c.index-peers-place.result.outstanding)) c.site_at.ensures
    ∙ ap (expected k (i + 1)) here in
    omega (
      arith,
      value,
      few (i + 1),
      sum_bound i 1000000000 f few,
      c.loop-place.invariant,
      c.requires.few,
    )
