use Rattle.std.proofs.Common.{append-nil, sym, ◌+◌, [], ◌∷◌, take, refl, ◌∙◌, arith}
use Rattle.entry_codec.specs.Pieces.{pieces}
use Rattle.peer_links.proofs.LineLaws.{push_none, waits, kept, lent, no_rest, some_rest, is_none, on_err}
use Rattle.peer_links.proofs.TakeLaws.{ends_piece}
use Rattle.peer_links.proofs.lines.next_piece.Goals as goal

pub returns-in_default-clause-fed : goal.returns-in_default-clause-fed
returns-in_default-clause-fed g c = λ stream h.
    (push_none c.args.cutter.now c.push.new.self stream c.args.bytes.now c.push.result h c.push.ensures.count
    (c.push.ensures.fed stream (pieces stream) h) c.memchr.result c.in_default.not-Some c.memchr.ensures).0

pub returns-in_default-clause-piece : goal.returns-in_default-clause-piece
returns-in_default-clause-piece g c = λ stream h.
    let all = push_none c.args.cutter.now c.push.new.self stream c.args.bytes.now c.push.result h c.push.ensures.count
    (c.push.ensures.fed stream (pieces stream) h) c.memchr.result c.in_default.not-Some c.memchr.ensures in
    ([], refl, all.1 ∙ sym (append-nil (pieces stream)))

-- after a line feed a piece waits
pub returns-in_default-2-clause-fed : goal.returns-in_default-2-clause-fed
returns-in_default-2-clause-fed g c = λ stream h.
    let push = c.push-then-unfinished.ensures in
    let none = is_none _ c.in_default-2.not-Some c.in_ok-cut.ensures.none in
    absurd (waits _ _ stream _ _ h push.count (push.fed stream (pieces stream) h) c.in-Some.length
    c.in-Some.ensures none.0)

pub returns-in_default-2-clause-piece : goal.returns-in_default-2-clause-piece
returns-in_default-2-clause-piece g c = λ stream h.
    let push = c.push-then-unfinished.ensures in
    let none = is_none _ c.in_default-2.not-Some c.in_ok-cut.ensures.none in
    absurd (waits _ _ stream _ _ h push.count (push.fed stream (pieces stream) h) c.in-Some.length
    c.in-Some.ensures none.0)

pub returns-then-unfinished-clause-fed : goal.returns-then-unfinished-clause-fed
returns-then-unfinished-clause-fed g c = λ stream h.
    let push = c.push-then-unfinished.ensures in
    let cut = c.in_ok-cut.ensures in
    (kept _ _ stream _ _ h push.count (push.fed stream (pieces stream) h) c.in-Some.length c.in-Some.ensures _ _ _
    c.in-Some-2.is cut.cut cut.given).2

pub returns-then-unfinished-clause-piece : goal.returns-then-unfinished-clause-piece
returns-then-unfinished-clause-piece g c = λ stream h.
    let push = c.push-then-unfinished.ensures in
    let cut = c.in_ok-cut.ensures in
    let k = kept _ _ stream _ _ h push.count (push.fed stream (pieces stream) h) c.in-Some.length c.in-Some.ensures _ _
    _ c.in-Some-2.is cut.cut cut.given in
    (k.0 ∷ [], (k.0, c.piece_of.ensures k.0 k.1, refl), k.3)

pub returns-then-count-gt-MAX_LINE-clause-fed : goal.returns-then-count-gt-MAX_LINE-clause-fed
returns-then-count-gt-MAX_LINE-clause-fed g c = λ stream h.
    let nothing = no_rest c.unfinished.result _ (c.unfinished.ensures.stream stream (pieces stream) h)
    c.if-unfinished.false in
    (lent c.args.cutter.now stream c.args.bytes.now c.in-Some.length c.in-Some.ensures nothing h).0

pub returns-then-count-gt-MAX_LINE-clause-piece : goal.returns-then-count-gt-MAX_LINE-clause-piece
returns-then-count-gt-MAX_LINE-clause-piece g c = λ stream h.
    let nothing = no_rest c.unfinished.result _ (c.unfinished.ensures.stream stream (pieces stream) h)
    c.if-unfinished.false in
    let l = lent c.args.cutter.now stream c.args.bytes.now c.in-Some.length c.in-Some.ensures nothing h in (
      take (c.in-Some.length + 1) c.args.bytes.now ∷ [],
      (take (c.in-Some.length + 1) c.args.bytes.now, omega (arith, l.2, c.if-count-gt-MAX_LINE.true), refl),
      l.1,
    )

pub returns-clause-fed : goal.returns-clause-fed
returns-clause-fed g c = λ stream h.
    let nothing = no_rest c.unfinished.result _ (c.unfinished.ensures.stream stream (pieces stream) h)
    c.if-unfinished.false in
    (lent c.args.cutter.now stream c.args.bytes.now c.in-Some.length c.in-Some.ensures nothing h).0

pub returns-clause-piece : goal.returns-clause-piece
returns-clause-piece g c = λ stream h.
    let nothing = no_rest c.unfinished.result _ (c.unfinished.ensures.stream stream (pieces stream) h)
    c.if-unfinished.false in
    let l = lent c.args.cutter.now stream c.args.bytes.now c.in-Some.length c.in-Some.ensures nothing h in (
      take (c.in-Some.length + 1) c.args.bytes.now ∷ [],
      (take (c.in-Some.length + 1) c.args.bytes.now, (refl, omega (arith, l.2, c.if-count-gt-MAX_LINE.false)), refl),
      l.1,
    )

pub returns-in_err-cut-clause-memory : goal.returns-in_err-cut-clause-memory
returns-in_err-cut-clause-memory g c = on_err c.from_residual.result (λ stream h.
    record {
      begun = some_rest c.unfinished.result _ (c.unfinished.ensures.stream stream (pieces stream) h)
          c.if-unfinished.true;
      ends = ends_piece stream c.args.bytes.now c.in-Some.length c.in-Some.ensures;
    })
