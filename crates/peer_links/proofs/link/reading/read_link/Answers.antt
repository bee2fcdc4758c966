use Rattle.std.proofs.Common.{ℕ, ◌+◌, ◌<◌, List, [], ◌∷◌, ◌++◌, length, take, Ok, Err, refl, sym, ap, subst, ◌∙◌, arith}
use Rattle.std.proofs.Common.{append-nil, append_assoc, length-take}
use Rattle.std.specs.Io.KnownBytes.{Consumes}
use Rattle.std.proofs.lemmas.Result.{err_from_is_err_and}
use Rattle.line_streams.specs.Counting.{still}
use Rattle.peer_links.specs.Links.{IsFedAll}
use Rattle.peer_links.specs.Takes.{pieces_behind}
use Rattle.peer_links.proofs.ReadLaws.{gave_none, gave_more, gave_same, kept_none, ends_block}
use Rattle.peer_links.proofs.PairLaws.{same_pair, pairs_both, accepts_still}
use Rattle.peer_links.proofs.TakeLaws.{behind_both, behind_count, block_taken}
use Rattle.peer_links.proofs.link.reading.read_link.Goals as goal

pub reads-init : goal.reads-init
reads-init g c =
    let none = gave_none _ in (
      refl,
      omega arith,
      c.requires.unfinished,
      refl,
      c.requires.cutter,
      (
        none.0,
        none.1,
        λ stream h. rw none.2 (
          subst (IsFedAll c.args.cutter.now) (sym (append-nil stream)) h,
          ([], (refl, refl), refl),
        ),
      ),
      same_pair _,
    )

pub returns-in_err-length-clause-gave : goal.returns-in_err-length-clause-gave
returns-in_err-length-clause-gave g c =
    let p = err_from_is_err_and c.from_residual.result c.from_residual.ensures.1 in
    let inv = c.reads.invariant in
    let same = gave_same _ _ _ inv.5.0 (kept_none _ _ c.in_err-length.ensures.bytes) in
    rw (p.1, p.2) (same.0, omega (arith, same.1, inv.5.1, inv.1), λ stream h. rw same.2 (inv.5.2 stream h).1)

pub returns-then-length-eq0-clause-gave : goal.returns-then-length-eq0-clause-gave
returns-then-length-eq0-clause-gave g c =
    let inv = c.reads.invariant in
    let nothing = subst (Consumes _ _) (ap (λ (n : ℕ). take n c.read_some.new.room) c.if-length-eq0.true)
    c.in_ok-length.ensures.bytes.0 in
    let same = gave_same _ _ _ inv.5.0 nothing in
    (same.0, omega (arith, same.1, inv.5.1, inv.1), λ stream h. rw same.2 (inv.5.2 stream h).1)

pub reads-preserved : goal.reads-preserved
reads-preserved g c =
    let inv = c.reads.invariant in
    let bytes : List ℕ = take c.in_ok-length.length c.read_some.new.room in
    let some : 0 < length bytes = simp length-take (omega (arith, c.in_ok-length.ensures, c.if-length-eq0.false)) in
    let more = gave_more _ _ _ inv.5.0 c.reads.count inv.5.1 bytes some c.in_ok-length.ensures.bytes.0 in
    let block = c.in_ok-take_block.ensures in (
      c.in_ok-length.ensures.same ∙ inv.0,
      block.few,
      block.unfinished,
      block.lane ∙ inv.3,
      (inv.4.0 ++ bytes, block.fed inv.4.0 inv.4.1),
      (
        more.0,
        block.counts ∙ sym more.1,
        λ stream h.
            let t = inv.5.2 stream h in
            rw more.2 (
              subst (IsFedAll c.take_block.new.cutter) (append_assoc stream inv.5.0.input bytes)
                  (block.fed (stream ++ inv.5.0.input) t.0),
              block_taken g.P.Port.hears _ _ _ _ _ _ (pieces_behind stream inv.5.0.input) t.1
                  (still inv.5.0.chunks + still (bytes ∷ [])) (c.reads.count + still (bytes ∷ []))
                  (pieces_behind (stream ++ inv.5.0.input) bytes) _ (Ok tt)
                  (omega (arith, inv.5.1, behind_count stream inv.5.0.input)) (behind_both stream inv.5.0.input bytes)
                  (block.takes (stream ++ inv.5.0.input) t.0),
            ),
      ),
      pairs_both _ _ _ inv.6 block.pair,
    )

pub returns-in_err-take_block-clause-gave : goal.returns-in_err-take_block-clause-gave
returns-in_err-take_block-clause-gave g c =
    let p = err_from_is_err_and c.from_residual-in_err-take_block.result c.from_residual-in_err-take_block.ensures.1 in
    let inv = c.reads.invariant in
    let bytes : List ℕ = take c.in_ok-length.length c.read_some.new.room in
    let some : 0 < length bytes = simp length-take (omega (arith, c.in_ok-length.ensures, c.if-length-eq0.false)) in
    let more = gave_more _ _ _ inv.5.0 c.reads.count inv.5.1 bytes some c.in_ok-length.ensures.bytes.0 in
    let block = c.in_err-take_block.ensures in
    rw (p.1, p.2) (
      more.0,
      ends_block more.0 _ block.may (λ e. omega (arith, more.1, block.many (ap Err e))),
      λ stream h.
          let t = inv.5.2 stream h in
          block_taken g.P.Port.hears _ c.reads.intake c.take_block.new.intake _ _ _ (pieces_behind stream inv.5.0.input)
          t.1 (still more.0.chunks) (c.reads.count + still (bytes ∷ []))
          (pieces_behind (stream ++ inv.5.0.input) bytes) _ (Err c.in_err-take_block.field-0.0)
          (omega (arith, inv.5.1, more.3, behind_count stream inv.5.0.input))
          (ap (pieces_behind stream) more.2
          ∙ behind_both stream inv.5.0.input bytes) (block.takes (stream ++ inv.5.0.input) t.0),
    )

pub take_block-requires-clause-accepts : goal.take_block-requires-clause-accepts
take_block-requires-clause-accepts g c = accepts_still g.P.Port.accepts _ _ c.reads.invariant.6 c.requires.accepts

pub returns-in_err-take_block-clause-pair : goal.returns-in_err-take_block-clause-pair
returns-in_err-take_block-clause-pair g c = pairs_both _ _ _ c.reads.invariant.6 c.in_err-take_block.ensures.pair
