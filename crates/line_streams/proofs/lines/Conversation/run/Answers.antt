use Rattle.std.proofs.Common.{◌≡◌, ℕ, ◌<◌, List, [], ◌++◌, ◌∷◌, length, length-take, take, ap, arith, Ok, Err}
use Rattle.std.proofs.lemmas.Result.{err_from_is_err_and}
use Rattle.std.proofs.KnownBytes.{Consumes-trans, Consumes-nil}
use Rattle.line_streams.proofs.CountLaws.{none_parted, parted_more, counted_more}
use Rattle.line_streams.proofs.RunLaws.{going_new, going_all, ran_written, ran_err, ran_stopped, ran_closed, reads_end}
use Rattle.line_streams.proofs.LineLaws.{goes_on}
use Rattle.line_streams.proofs.lines.Conversation.run.Goals as goal

pub reads-init : goal.reads-init
reads-init g c =
    let new = c.requires.fresh in
    record {
      written = new.0;
      short = omega (arith, ap length new.1);
      few = omega (arith, new.2);
      going = (
        [],
        [],
        Consumes-nil _,
        none_parted,
        new.2,
        going_new g.H.LineHandler.answers g.H.LineHandler.fails c.args.handler.now
            (g.W.Write.contents c.args.writer.now) _ _ c.args.self.now.count new,
      );
    }

pub reads-preserved : goal.reads-preserved
reads-preserved g c =
    let before = c.reads.invariant.going in
    let fed = c.in_ok-feed.ensures in
    let on = goes_on _ c.in_default.not-Ends in
    let bytes : List ℕ = take c.in_ok-length.length c.read.new.buffer in
    let some : 0 < length bytes = simp length-take (omega (arith, c.in_ok-length.ensures, c.if-length-eq0.false)) in
    let wrote = c.in_ok-write_to.ensures in
    record {
      written = wrote.empty;
      short = fed.short;
      few = fed.few;
      going = (
        before.0 ++ bytes ∷ [],
        before.1 ++ bytes,
        Consumes-trans _ _ _ before.1 bytes before.2 c.in_ok-length.ensures.bytes.0,
        parted_more before.0 before.1 bytes before.3 some,
        omega (arith, before.4, fed.counts (ap Ok on) some, counted_more before.0 before.1 bytes),
        going_all g.H.LineHandler.answers g.H.LineHandler.fails c.args.handler.now _ _ _ _ _ _ _ _
            (rw on at (fed.fed c.args.handler.now before.1 _ before.5)) wrote.whole wrote.empty,
      );
    }

pub returns-then-not-can_go_on-clause-ran : goal.returns-then-not-can_go_on-clause-ran
returns-then-not-can_go_on-clause-ran g c =
    let before = c.reads.invariant.going in (
      before.0,
      before.1,
      before.2,
      before.3,
      ran_stopped g.H.LineHandler.answers g.H.LineHandler.fails c.args.handler.now before.0 before.1 _ _ _
          _ _ before.5,
    )

pub returns-in_err-feed-clause-ran : goal.returns-in_err-feed-clause-ran
returns-in_err-feed-clause-ran g c =
    let p = err_from_is_err_and c.from_residual-in_err-feed.result c.from_residual-in_err-feed.ensures.1 in
    let before = c.reads.invariant.going in
    let fed = c.in_err-feed.ensures in
    let bytes : List ℕ = take c.in_ok-length.length c.read.new.buffer in
    let some : 0 < length bytes = simp length-take (omega (arith, c.in_ok-length.ensures, c.if-length-eq0.false)) in
    rw (p.1, p.2) (
      before.0 ++ bytes ∷ [],
      before.1 ++ bytes,
      Consumes-trans _ _ _ before.1 bytes before.2 c.in_ok-length.ensures.bytes.0,
      parted_more before.0 before.1 bytes before.3 some,
      ran_err g.H.LineHandler.answers g.H.LineHandler.fails c.args.handler.now (before.0 ++ bytes ∷ [])
          (before.1 ++ bytes) c.feed.new.handler _ _ c.feed.new.self.replies c.feed.new.self.carry.items _
          (fed.fed c.args.handler.now before.1 _ before.5)
          (λ e. omega (arith, before.4, fed.many (ap Err e), counted_more before.0 before.1 bytes)),
    )

pub returns-in-Ends-clause-ran : goal.returns-in-Ends-clause-ran
returns-in-Ends-clause-ran g c =
    let before = c.reads.invariant.going in
    let fed = c.in_ok-feed.ensures in
    let bytes : List ℕ = take c.in_ok-length.length c.read.new.buffer in
    let some : 0 < length bytes = simp length-take (omega (arith, c.in_ok-length.ensures, c.if-length-eq0.false)) in (
      before.0 ++ bytes ∷ [],
      before.1 ++ bytes,
      Consumes-trans _ _ _ before.1 bytes before.2 c.in_ok-length.ensures.bytes.0,
      parted_more before.0 before.1 bytes before.3 some,
      ran_closed g.H.LineHandler.answers g.H.LineHandler.fails c.args.handler.now (before.0 ++ bytes ∷ [])
          (before.1 ++ bytes) c.feed.new.handler _ _ c.feed.new.self.replies c.feed.new.self.carry.items
          (rw (c.in-Ends.is) at (fed.fed c.args.handler.now before.1 _ before.5)),
    )

pub returns-in_err-write_to-clause-ran : goal.returns-in_err-write_to-clause-ran
returns-in_err-write_to-clause-ran g c =
    let p = err_from_is_err_and c.from_residual-in_err-write_to.result c.from_residual-in_err-write_to.ensures.1 in
    let before = c.reads.invariant.going in
    let fed = c.in_ok-feed.ensures in
    let on = goes_on _ c.in_default.not-Ends in
    let bytes : List ℕ = take c.in_ok-length.length c.read.new.buffer in
    let some : 0 < length bytes = simp length-take (omega (arith, c.in_ok-length.ensures, c.if-length-eq0.false)) in
    rw (p.1, p.2) (
      before.0 ++ bytes ∷ [],
      before.1 ++ bytes,
      Consumes-trans _ _ _ before.1 bytes before.2 c.in_ok-length.ensures.bytes.0,
      parted_more before.0 before.1 bytes before.3 some,
      ran_written g.H.LineHandler.answers g.H.LineHandler.fails c.args.handler.now (before.0 ++ bytes ∷ []) _ _ _ _ _ _
          _ [] (rw on at (fed.fed c.args.handler.now before.1 _ before.5)) c.in_err-write_to.ensures.front,
    )

pub returns-clause-ran : goal.returns-clause-ran
returns-clause-ran g c =
    let before = c.reads.invariant.going in
    let bytes : List ℕ = take c.in_ok-length.length c.read.new.buffer in
    let none : bytes ≡ [] = ap (λ (n : ℕ). take n c.read.new.buffer) c.if-length-eq0.true in (
      before.0,
      before.1,
      reads_end _ _ _ before.1 bytes before.2 c.in_ok-length.ensures.bytes.0 none,
      before.3,
      c.end_input.ensures c.args.handler.now before.0 before.1 _ before.4 before.5,
    )
