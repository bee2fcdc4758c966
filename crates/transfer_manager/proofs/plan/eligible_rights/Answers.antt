use Rattle.std.proofs.Common.{◌≡◌, ◌+◌, ◌<◌, ◌≤◌, ℕ, arith, List, length, replicate, refl, sym, ap, ◌∙◌, subst}
use Rattle.std.proofs.lemmas.List.{length-set, get_or_read}
use Rattle.rights_types.specs.Places.{at_site}
use Rattle.transfer_manager.specs.SiteSets.{has_site}
use Rattle.rights_types.proofs.Places.{at_site-index, at_site-replicate, set_site-index, set_site_keeps}
use Rattle.transfer_manager.specs.Managers.{no_asks}
use Rattle.transfer_manager.specs.Plans.{Knowledge, of_book, beside, eligible_rights}
use Rattle.transfer_manager.specs.declared.peer_asks.PeerAsks.{PeerAsks}
use Rattle.transfer_manager.proofs.Sites.{next_written, none_written}
use Rattle.transfer_manager.proofs.plan.eligible_rights.Goals as goal

pub loop-place-preserved : goal.loop-place-preserved
loop-place-preserved g c =
    let me = c.args.me in
    let k : Knowledge = beside (has_site c.args.silent.now) (of_book c.args.book.now) in
    let peers : List PeerAsks = c.args.peers.now in
    let i = c.loop-place.place in
    let xs : List ℕ = c.loop-place.rights in
    let x = c.rights_if_eligible.result in
    let long : i < length xs = omega (arith, c.loop-place.invariant.whole, c.loop-place-test.true, c.requires) in
    let here : c.index-peers-place.result ≡ at_site peers (i + 1) no_asks
    = get_or_read peers i c.index-peers-place.result c.loop-place-test.true c.index-peers-place.is no_asks
    ∙ sym (at_site-index peers i (i + 1) no_asks refl) in
    let value : x ≡ eligible_rights me k (i + 1) (at_site peers (i + 1) no_asks) =
    c.rights_if_eligible.ensures.value ∙ ap (λ s. eligible_rights me k s c.index-peers-place.result) c.site_at.ensures
    ∙ ap (eligible_rights me k (i + 1)) here in
    record {
      whole = length-set xs i x ∙ c.loop-place.invariant.whole;
      written = next_written 0 (λ j old. eligible_rights me k j (at_site peers j no_asks))
          (replicate 16 0) xs i x c.loop-place.invariant.written long value;
      bounded = subst (λ (ys : List ℕ). (j : ℕ)
          → at_site ys j 0 ≤ 1000000017000000000000000000) (set_site-index xs i (i + 1) x refl)
          (set_site_keeps (λ j n. n ≤ 1000000017000000000000000000) xs (i + 1) x 0 (omega arith)
          (omega arith) c.loop-place.invariant.bounded c.rights_if_eligible.ensures.range);
    }

pub loop-place-init : goal.loop-place-init
loop-place-init g c =
    record {
      whole = refl;
      written = none_written 0 (λ j old. eligible_rights c.args.me (beside (has_site c.args.silent.now) (of_book c.args.book.now)) j
          (at_site c.args.peers.now j no_asks)) (replicate 16 0);
      bounded = λ j. at_site-replicate (λ (n : ℕ). n ≤ 1000000017000000000000000000) 16 j 0 0 (λ low high. omega arith)
          (omega arith);
    }
