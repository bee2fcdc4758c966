use Rattle.std.proofs.Common.{append-nil, inl, ◌≡◌, ℕ, ◌+◌, ◌≤◌, List, length, take, refl, ap, sym, arith, length-take}
use Rattle.std.proofs.lemmas.Bool.{eqb-true}
use Rattle.std.proofs.lemmas.Result.{err_from_is_err_and}
use Rattle.rights_types.specs.declared.limits.TheConstants.{MAX_LINE}
use Rattle.entry_codec.specs.Pieces.{pieces}
use Rattle.line_streams.specs.Going.{Fails}
use Rattle.line_streams.proofs.CountLaws.{line_more, line_none, line_some, counts_lines, counts_still, counts_within}
use Rattle.line_streams.proofs.CutLaws.{cut_found, cut_none}
use Rattle.line_streams.proofs.LineLaws.{goes_on}
use Rattle.line_streams.proofs.FeedLaws.{going_next, closed_next, going_end, going_written, stopped_in}
use Rattle.line_streams.proofs.FeedLaws.{stopped_in_write}
use Rattle.line_streams.proofs.lines.Conversation.feed.Goals.{else-at-eq0-via-then-at-eq0+else-not-is_empty}
use Rattle.line_streams.proofs.lines.Conversation.feed.Goals.{else-at-eq0-via-else-at-eq0}
use Rattle.line_streams.proofs.lines.Conversation.feed.Goals as goal

short_front : (xs : List ℕ) → length (take MAX_LINE xs) ≤ MAX_LINE
short_front xs = simp length-take (omega arith)

pub loop-length-init : goal.loop-length-init
loop-length-init g c = record {
  within = omega arith;
  ready = c.requires.written.part;
  room = omega (arith, ap length c.requires.written.whole);
  short = c.requires.short;
  few = c.requires.few;
  counted = omega arith;
  moves = λ some. absurd (omega arith);
  going = λ start input held h. rw append-nil h;
}

pub loop-length-preserved : goal.loop-length-preserved
loop-length-preserved g c =
    let inv = c.loop-length.invariant in
    let at = c.loop-length.at in
    let n = c.in-Some.length in
    let bytes = c.args.bytes.now in
    let cut = cut_found bytes at n inv.within c.in-Some.ensures in
    let line = c.in_ok-end_line.ensures in
    let on = goes_on _ c.in_default-2.not-Ends in
    let write = c.in_ok-pass_on.ensures in
    let more = line_more (take at bytes) _ (take (at + (n + 1)) bytes) cut.1 cut.2 in
    record {
      within = omega (arith, cut.0);
      ready = write.ready;
      room = write.room;
      short = omega (arith, ap length line.ended);
      few = c.in_ok-count_line.ensures.few;
      counted = omega (arith, inv.counted, line.count, c.in_ok-count_line.ensures.more, more);
      moves = λ some. omega (arith, more);
      going = λ start input held h.
          let next = going_next g.H.LineHandler.answers start input bytes at _ held _ _ _
          (inv.going start input held h) n _ _ _ inv.within c.in-Some.ensures (rw on at line.line) line.ended in
          going_written g.H.LineHandler.answers start _ _ held _ _ _ next _ _ write.whole.0 write.whole.1
          write.whole.2 write.ready;
    }

pub returns-in_err-end_line-clause-fed : goal.returns-in_err-end_line-clause-fed
returns-in_err-end_line-clause-fed g c = λ start input held h.
    let p = err_from_is_err_and c.from_residual.result c.from_residual.ensures.1 in
    rw (p.1, p.2) (stopped_in g.H.LineHandler.answers start input c.args.bytes.now c.loop-length.at _ held _ _ _
    (c.loop-length.invariant.going start input held h) (Fails g.H.LineHandler.fails c.end_line.new.handler)
    c.in_err-end_line.ensures.err _ c.in_err-end_line.ensures.kept)

pub returns-in_err-keep-clause-fed : goal.returns-in_err-keep-clause-fed
returns-in_err-keep-clause-fed g c = λ start input held h.
    let p = err_from_is_err_and c.from_residual-in_err-keep.result c.from_residual-in_err-keep.ensures.1 in
    rw (p.1, p.2) (stopped_in g.H.LineHandler.answers start input c.args.bytes.now c.loop-length.at _ held _ _ _
    (c.loop-length.invariant.going start input held h) (Fails g.H.LineHandler.fails c.loop-length.handler)
    (inl refl) _ refl)

pub returns-in_err-count_line-clause-fed : goal.returns-in_err-count_line-clause-fed
returns-in_err-count_line-clause-fed g c = λ start input held h.
    let p = err_from_is_err_and c.from_residual-in_err-count_line.result c.from_residual-in_err-count_line.ensures.1 in
    let inv = c.loop-length.invariant in
    let line = c.in_ok-end_line.ensures in
    let on = goes_on _ c.in_default-2.not-Ends in
    let next = going_next g.H.LineHandler.answers start input c.args.bytes.now c.loop-length.at _ held _ _ _
    (inv.going start input held h) c.in-Some.length _ _ _ inv.within c.in-Some.ensures
    (rw on at line.line) line.ended in
    rw (p.1, p.2)
    (stopped_in g.H.LineHandler.answers start input c.args.bytes.now (c.loop-length.at + (c.in-Some.length + 1)) _
    held _ _ _ next (λ state. c.end_line.new.handler ≡ state) refl _ refl)

pub returns-in_err-pass_on-clause-fed : goal.returns-in_err-pass_on-clause-fed
returns-in_err-pass_on-clause-fed g c = λ start input held h.
    let p = err_from_is_err_and c.from_residual-in_err-pass_on.result c.from_residual-in_err-pass_on.ensures.1 in
    let inv = c.loop-length.invariant in
    let line = c.in_ok-end_line.ensures in
    let on = goes_on _ c.in_default-2.not-Ends in
    let next = going_next g.H.LineHandler.answers start input c.args.bytes.now c.loop-length.at _ held _ _ _
    (inv.going start input held h) c.in-Some.length _ _ _ inv.within c.in-Some.ensures
    (rw on at line.line) line.ended in
    let part = c.in_err-pass_on.ensures.front in
    rw (p.1, p.2) (stopped_in_write g.H.LineHandler.answers start input c.args.bytes.now
    (c.loop-length.at + (c.in-Some.length + 1)) _ held _ _ _ next (λ state. c.end_line.new.handler
    ≡ state) refl _ part.0 part.1 part.2)

pub returns-in_err-count_line-2-clause-fed : goal.returns-in_err-count_line-2-clause-fed
returns-in_err-count_line-2-clause-fed g c = λ start input held h.
    let p = err_from_is_err_and c.from_residual-in_err-count_line-2.result
    c.from_residual-in_err-count_line-2.ensures.1 in
    rw (p.1, p.2)
    (stopped_in g.H.LineHandler.answers start input c.args.bytes.now c.loop-length.at _ held _ _ _
    (c.loop-length.invariant.going start input held h) (λ state. c.loop-length.handler ≡ state) refl _ refl)

pub returns-in_ok-count_line-2-clause-short : goal.returns-in_ok-count_line-2-clause-short
returns-in_ok-count_line-2-clause-short g c = rw (c.in_ok-keep.ensures) (short_front _)

pub returns-in_ok-count_line-2-clause-fed : goal.returns-in_ok-count_line-2-clause-fed
returns-in_ok-count_line-2-clause-fed g c = λ start input held h.
    going_end g.H.LineHandler.answers start input c.args.bytes.now c.loop-length.at _ held _ _ _
    (c.loop-length.invariant.going start input held h) c.line_length.result _ c.in_default.not-Some
    c.line_length.ensures
    c.in_ok-keep.ensures

pub returns-else-at-eq0-clause-short : goal.returns-else-at-eq0-clause-short
returns-else-at-eq0-clause-short g c = rw (c.in_ok-keep.ensures) (short_front _)

pub returns-else-at-eq0-clause-fed : goal.returns-else-at-eq0-clause-fed
returns-else-at-eq0-clause-fed g c = λ start input held h.
    going_end g.H.LineHandler.answers start input c.args.bytes.now c.loop-length.at _ held _ _ _
    (c.loop-length.invariant.going start input held h) c.line_length.result _ c.in_default.not-Some
    c.line_length.ensures
    c.in_ok-keep.ensures

pub returns-in_err-count_line-clause-many : goal.returns-in_err-count_line-clause-many
returns-in_err-count_line-clause-many g c = λ e.
    let full = c.in_err-count_line.ensures in
    let inv = c.loop-length.invariant in
    let at = c.loop-length.at in
    let n = c.in-Some.length in
    let bytes = c.args.bytes.now in
    let cut = cut_found bytes at n inv.within c.in-Some.ensures in
    let more = line_more (take at bytes) _ (take (at + (n + 1)) bytes) cut.1 cut.2 in
    omega (
      arith,
      inv.counted,
      c.in_ok-end_line.ensures.count,
      more,
      line_some bytes (at + (n + 1)),
      counts_within bytes,
      full.more,
      full.many,
    )

pub returns-in_err-count_line-2-clause-many : goal.returns-in_err-count_line-2-clause-many
returns-in_err-count_line-2-clause-many g c = λ e.
    let inv = c.loop-length.invariant in
    let bytes = c.args.bytes.now in
    let none = cut_none bytes c.loop-length.at c.line_length.result c.in_default.not-Some c.line_length.ensures in
    let start = ap (λ (n : ℕ). length (pieces (take n bytes))) c.if-at-eq0.true in
    let still = counts_still bytes (omega (arith, line_none bytes c.loop-length.at none, start)) in
    omega (arith, inv.counted, start, still, c.in_err-count_line-2.ensures.more, c.in_err-count_line-2.ensures.many)

pub returns-in_ok-count_line-2-clause-counts : goal.returns-in_ok-count_line-2-clause-counts
returns-in_ok-count_line-2-clause-counts g c = λ on some.
    let inv = c.loop-length.invariant in
    let bytes = c.args.bytes.now in
    let none = cut_none bytes c.loop-length.at c.line_length.result c.in_default.not-Some c.line_length.ensures in
    let start = ap (λ (n : ℕ). length (pieces (take n bytes))) c.if-at-eq0.true in
    let still = counts_still bytes (omega (arith, line_none bytes c.loop-length.at none, start)) in
    omega (arith, inv.counted, start, still, c.in_ok-count_line-2.ensures.more)

pub returns-else-at-eq0-clause-counts : goal.returns-else-at-eq0-clause-counts
returns-else-at-eq0-clause-counts g c = λ on some.
    let inv = c.loop-length.invariant in
    let bytes = c.args.bytes.now in
    let none = cut_none bytes c.loop-length.at c.line_length.result c.in_default.not-Some c.line_length.ensures in
    let same = line_none bytes c.loop-length.at none in
    elim c.else-at-eq0.branch [
      | else-at-eq0-via-then-at-eq0+else-not-is_empty w ↦ absurd
          (omega (arith, some, eqb-true (length bytes) 0 (sym w.if-not-is_empty.ensures)))
      | else-at-eq0-via-else-at-eq0 w ↦
          let lines = counts_lines bytes (omega (arith, same, inv.moves (omega (arith, w.if-at-eq0)))) in
          omega (arith, inv.counted, same, lines)
    ]

pub returns-in-Ends-clause-fed : goal.returns-in-Ends-clause-fed
returns-in-Ends-clause-fed g c = λ start input held h.
    let inv = c.loop-length.invariant in
    closed_next g.H.LineHandler.answers start input c.args.bytes.now c.loop-length.at _ held _ _ _
    (inv.going start input held h) c.in-Some.length c.end_line.new.handler c.end_line.new.self.replies inv.within
    c.in-Some.ensures (rw (c.in-Ends.is) at c.in_ok-end_line.ensures.line)
