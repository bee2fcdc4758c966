use Rattle.std.proofs.Common.{◌≡◌, ◌≢◌, ℕ, ◌+◌, ◌<◌, List, [], ◌∷◌, ◌++◌, length, take, inl, sym, ap, subst, ◌∙◌, arith}
use Rattle.std.proofs.Common.{length-drop, append-nil}
use Rattle.std.proofs.lemmas.List.{take_all, take_rest}
use Rattle.entry_codec.specs.Pieces.{pieces}
use Rattle.line_streams.proofs.CountLaws.{counts_lines, counts_still, counts_within, line_some}
use Rattle.line_streams.specs.Counting.{still}
use Rattle.peer_links.specs.Links.{IsFedAll}
use Rattle.peer_links.proofs.ReadLaws.{fed_more, fed_all, one_line, no_line}
use Rattle.std.proofs.lemmas.Result.{err_from_is_err_and}
use Rattle.peer_links.specs.Takes.{pieces_behind}
use Rattle.peer_links.specs.declared.link.LinkFault.TheVariants.{TooManyLines, OutOfMemory}
use Rattle.peer_links.proofs.PairLaws.{pairs_both, accepts_still}
use Rattle.peer_links.proofs.TakeLaws.{behind_count, front_behind, next_text, next_none, more_taken, one_breaks}
use Rattle.peer_links.proofs.TakeLaws.{to_stop}
use Rattle.peer_links.proofs.link.reading.take_block.Goals as goal

pub returns-in_ok-count_line-clause-fed : goal.returns-in_ok-count_line-clause-fed
returns-in_ok-count_line-clause-fed g c =
    let inv = c.pieces.invariant in
    let next = c.in_ok-piece.ensures in
    let bytes = c.args.bytes.now in
    fed_all _ _ _ _ (take_rest bytes c.pieces.at) _ _ inv.6 _ c.in_default.not-Some next.none inv.0 _ next.fed

pub returns-in_ok-count_line-clause-counts : goal.returns-in_ok-count_line-clause-counts
returns-in_ok-count_line-clause-counts g c =
    let inv = c.pieces.invariant in
    let next = c.in_ok-piece.ensures in
    let bytes = c.args.bytes.now in
    let same = no_line _ _ _ _ (take_rest bytes c.pieces.at) _ _ inv.6 _ c.requires.cutter next.piece
    c.in_default.not-Some next.none inv.0 in
    let none : length (pieces (take c.pieces.at bytes)) ≡ 0
    = ap (λ (n : ℕ). length (pieces (take n bytes))) c.if-at-eq0.true in
    omega (arith, c.in_ok-count_line.ensures.more, inv.2, none, counts_still bytes (same ∙ none))

pub returns-else-at-eq0-clause-fed : goal.returns-else-at-eq0-clause-fed
returns-else-at-eq0-clause-fed g c =
    let inv = c.pieces.invariant in
    let next = c.in_ok-piece.ensures in
    let bytes = c.args.bytes.now in
    fed_all _ _ _ _ (take_rest bytes c.pieces.at) _ _ inv.6 _ c.in_default.not-Some next.none inv.0 _ next.fed

pub returns-else-at-eq0-clause-counts : goal.returns-else-at-eq0-clause-counts
returns-else-at-eq0-clause-counts g c =
    let inv = c.pieces.invariant in
    let next = c.in_ok-piece.ensures in
    let bytes = c.args.bytes.now in
    let same = no_line _ _ _ _ (take_rest bytes c.pieces.at) _ _ inv.6 _ c.requires.cutter next.piece
    c.in_default.not-Some next.none inv.0 in
    let moved : 0 < c.pieces.at = omega (arith, c.if-at-eq0.false) in
    let some : 0 < length (pieces bytes) = omega (arith, inv.3 moved, same) in
    omega (arith, inv.2, same, counts_lines bytes some)

pub returns-in_err-count_line-2-clause-many : goal.returns-in_err-count_line-2-clause-many
returns-in_err-count_line-2-clause-many g c = λ _.
    let inv = c.pieces.invariant in
    let next = c.in_ok-piece.ensures in
    let bytes = c.args.bytes.now in
    let one = one_line _ _ _ _ (take_rest bytes c.pieces.at) _ _ inv.6 _ c.requires.cutter next.piece _ c.in-Some.is in
    let full = c.in_err-count_line-2.ensures in
    omega (
      arith,
      full.more,
      full.many,
      inv.2,
      one,
      line_some bytes (c.pieces.at + c.in_ok-piece.taken),
      counts_within bytes,
    )

pub returns-in_err-piece-clause-takes : goal.returns-in_err-piece-clause-takes
returns-in_err-piece-clause-takes g c = λ stream h.
    let p = err_from_is_err_and c.from_residual.result c.from_residual.ensures.1 in
    let t = c.pieces.invariant.7 stream h in
    let more = c.in_err-piece.ensures.memory (stream ++ take c.pieces.at c.args.bytes.now)
    (c.pieces.invariant.6 stream h) in
    let ends = subst (λ (l : List ℕ). pieces_behind (stream ++ take c.pieces.at c.args.bytes.now) l ≢ [])
    (take_rest c.args.bytes.now c.pieces.at) more.ends in
    rw (p.1, p.2) (
      t.0,
      to_stop (c.args.count.now + still (c.args.bytes.now ∷ [])) _ _ _ _ _ OutOfMemory t.0
          (front_behind stream c.args.bytes.now c.pieces.at) (inl (t.1, ends)),
      t.2,
    )

pub returns-in_err-count_line-clause-takes : goal.returns-in_err-count_line-clause-takes
returns-in_err-count_line-clause-takes g c = λ stream h.
    let p = err_from_is_err_and c.from_residual-in_err-count_line.result c.from_residual-in_err-count_line.ensures.1 in
    let inv = c.pieces.invariant in
    let next = c.in_ok-piece.ensures in
    let bytes = c.args.bytes.now in
    let t = inv.7 stream h in
    let whole = next_none _ _ _ _ (take_rest bytes c.pieces.at) _ _ inv.6 _ stream h next.piece c.in_default.not-Some
    next.none inv.0 in
    let same = no_line _ _ _ _ (take_rest bytes c.pieces.at) _ _ inv.6 _ c.requires.cutter next.piece
    c.in_default.not-Some next.none inv.0 in
    let none : length (pieces (take c.pieces.at bytes)) ≡ 0
    = ap (λ (n : ℕ). length (pieces (take n bytes))) c.if-at-eq0.true in
    let full = c.in_err-count_line.ensures in
    let sum : (c.args.count.now + still (c.args.bytes.now ∷ [])) + length (pieces_behind stream bytes) ≡ 1000000000
    = omega (
      arith,
      full.more,
      full.many,
      inv.2,
      none,
      same,
      counts_still bytes (same
          ∙ none),
      behind_count stream bytes,
    ) in
    rw (p.1, p.2) (
      t.0,
      to_stop (c.args.count.now + still (c.args.bytes.now ∷ [])) _ _ _ _ _ TooManyLines t.0
          (sym (append-nil (pieces_behind stream bytes))) (rw (sym whole) t.1, sum),
      t.2,
    )

pub returns-in_ok-count_line-clause-takes : goal.returns-in_ok-count_line-clause-takes
returns-in_ok-count_line-clause-takes g c = λ stream h.
    let inv = c.pieces.invariant in
    let next = c.in_ok-piece.ensures in
    let bytes = c.args.bytes.now in
    let t = inv.7 stream h in
    let whole = next_none _ _ _ _ (take_rest bytes c.pieces.at) _ _ inv.6 _ stream h next.piece c.in_default.not-Some
    next.none inv.0 in
    (t.0, rw (sym whole) t.1, t.2)

pub returns-else-at-eq0-clause-takes : goal.returns-else-at-eq0-clause-takes
returns-else-at-eq0-clause-takes g c = λ stream h.
    let inv = c.pieces.invariant in
    let next = c.in_ok-piece.ensures in
    let bytes = c.args.bytes.now in
    let t = inv.7 stream h in
    let whole = next_none _ _ _ _ (take_rest bytes c.pieces.at) _ _ inv.6 _ stream h next.piece c.in_default.not-Some
    next.none inv.0 in
    (t.0, rw (sym whole) t.1, t.2)

pub returns-in_err-take_piece-clause-takes : goal.returns-in_err-take_piece-clause-takes
returns-in_err-take_piece-clause-takes g c = λ stream h.
    let p = err_from_is_err_and c.from_residual-in_err-take_piece.result c.from_residual-in_err-take_piece.ensures.1 in
    let inv = c.pieces.invariant in
    let bytes = c.args.bytes.now in
    let piece = c.in_err-take_piece.ensures in
    let text = next_text _ _ _ _ (take_rest bytes c.pieces.at) _ _ inv.6 _ stream h c.in_ok-piece.ensures.piece _
    c.in-Some.is in
    rw (p.1, p.2) (one_breaks g.P.Port.hears _ _ _ _ _ _ _ (inv.7 stream h)
    (c.args.count.now + still (c.args.bytes.now ∷ [])) text.0 _ _ _ piece.may text.3 (piece.takes text.0 text.1))

pub returns-in_err-count_line-2-clause-takes : goal.returns-in_err-count_line-2-clause-takes
returns-in_err-count_line-2-clause-takes g c = λ stream h.
    let p = err_from_is_err_and c.from_residual-in_err-count_line-2.result
    c.from_residual-in_err-count_line-2.ensures.1 in
    let inv = c.pieces.invariant in
    let bytes = c.args.bytes.now in
    let piece = c.in_ok-take_piece.ensures in
    let text = next_text _ _ _ _ (take_rest bytes c.pieces.at) _ _ inv.6 _ stream h c.in_ok-piece.ensures.piece _
    c.in-Some.is in
    let more = more_taken g.P.Port.hears _ _ _ _ _ _ _ (inv.7 stream h) text.0 _ (piece.takes text.0 text.1) in
    let next = c.in_ok-piece.ensures in
    let one = one_line _ _ _ _ (take_rest bytes c.pieces.at) _ _ inv.6 _ c.requires.cutter next.piece _ c.in-Some.is in
    let some : 0 < length (pieces bytes) = omega (arith, one, line_some bytes (c.pieces.at + c.in_ok-piece.taken)) in
    let full = c.in_err-count_line-2.ensures in
    let sum : (c.args.count.now + still (c.args.bytes.now ∷ []))
    + length (pieces_behind stream (take c.pieces.at bytes) ++ text.0 ∷ []) ≡ 1000000000
    = omega (
      arith,
      full.more,
      full.many,
      inv.2,
      one,
      counts_lines bytes some,
      ap length text.2,
      behind_count stream (take (c.pieces.at + c.in_ok-piece.taken) bytes),
    ) in
    rw (p.1, p.2) (
      more.0,
      to_stop (c.args.count.now + still (c.args.bytes.now ∷ [])) _ _ _ _ _ TooManyLines more.0 text.3
          (more.1, sum),
      more.2,
    )

pub pieces-preserved : goal.pieces-preserved
pieces-preserved g c =
    let inv = c.pieces.invariant in
    let next = c.in_ok-piece.ensures in
    let bytes = c.args.bytes.now in
    let rest = take_rest bytes c.pieces.at in
    let one = one_line _ _ _ _ rest _ _ inv.6 _ c.requires.cutter next.piece _ c.in-Some.is in
    let count = c.in_ok-count_line-2.ensures in
    let piece = c.in_ok-take_piece.ensures in (
      omega (arith, inv.0, next.within, ap length rest, length-drop c.pieces.at bytes),
      count.few,
      omega (arith, inv.2, one, count.more),
      λ _. omega (arith, one),
      piece.unfinished,
      piece.lane ∙ inv.5,
      fed_more _ _ _ _ rest _ _ inv.6 _ next.fed,
      λ stream h.
          let text = next_text _ _ _ _ rest _ _ inv.6 _ stream h next.piece _ c.in-Some.is in
          let more = more_taken g.P.Port.hears _ _ _ _ _ _ _ (inv.7 stream h) text.0 _ (piece.takes text.0 text.1) in
          rw text.2 more,
      pairs_both _ _ _ inv.8 piece.pair,
    )

pub returns-clause-fed : goal.returns-clause-fed
returns-clause-fed g c = λ stream h.
    let whole : take c.pieces.at c.args.bytes.now ≡ c.args.bytes.now
    = take_all c.pieces.at c.args.bytes.now (omega (arith, c.pieces-test.false)) in
    subst (λ (l : List ℕ). IsFedAll c.pieces.cutter (stream ++ l)) whole (c.pieces.invariant.6 stream h)

pub returns-clause-takes : goal.returns-clause-takes
returns-clause-takes g c = λ stream h.
    let whole : take c.pieces.at c.args.bytes.now ≡ c.args.bytes.now
    = take_all c.pieces.at c.args.bytes.now (omega (arith, c.pieces-test.false)) in
    rw (sym whole) (c.pieces.invariant.7 stream h)

pub take_piece-requires-clause-accepts : goal.take_piece-requires-clause-accepts
take_piece-requires-clause-accepts g c = accepts_still g.P.Port.accepts _ _ c.pieces.invariant.8 c.requires.accepts

pub returns-in_err-take_piece-clause-pair : goal.returns-in_err-take_piece-clause-pair
returns-in_err-take_piece-clause-pair g c = pairs_both _ _ _ c.pieces.invariant.8 c.in_err-take_piece.ensures.pair

pub returns-in_err-count_line-2-clause-pair : goal.returns-in_err-count_line-2-clause-pair
returns-in_err-count_line-2-clause-pair g c = pairs_both _ _ _ c.pieces.invariant.8 c.in_ok-take_piece.ensures.pair
