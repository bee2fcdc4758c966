use Rattle.std.proofs.Common.{◌≡◌, ◌<◌, [], length, ap, sym, arith, Ok, Err, vec_len}
use Rattle.std.proofs.lemmas.Bool.{eqb-true, eqb-false}
use Rattle.std.proofs.lemmas.List.{nil_from_length}
use Rattle.std.proofs.lemmas.Result.{err_from_is_err_and}
use Rattle.entry_codec.specs.Pieces.{unfinished}
use Rattle.line_streams.proofs.CarryLaws.{none_carried, some_carried}
use Rattle.line_streams.proofs.RunLaws.{ran_end, last_on, last_closed, last_err}
use Rattle.line_streams.proofs.lines.Conversation.end_input.Goals as goal

pub returns-then-is_empty : goal.returns-then-is_empty
returns-then-is_empty g c = λ start chunks input held counted h.
    let carry = c.args.self.now.carry in
    let empty : carry.items ≡ []
    = nil_from_length carry.items
    (omega (arith, carry.ok.0, eqb-true (vec_len carry) 0 (sym c.if-is_empty.ensures))) in
    ran_end g.H.LineHandler.answers g.H.LineHandler.fails start chunks input _ held _ _ carry.items h
    (none_carried carry.items (unfinished input) empty h.carried) (omega (arith, counted, c.requires.few))

pub returns-in_err-feed : goal.returns-in_err-feed
returns-in_err-feed g c = λ start chunks input held counted h.
    let p = err_from_is_err_and c.from_residual.result c.from_residual.ensures.1 in
    let carry = c.args.self.now.carry in
    let fed = c.in_err-feed.ensures in
    let some : 0 < length (unfinished input)
    = some_carried carry.items (unfinished input)
    (omega (arith, carry.ok.0, eqb-false (vec_len carry) 0 (sym c.if-is_empty.ensures))) h.carried in
    rw (p.1, p.2) (last_err g.H.LineHandler.answers g.H.LineHandler.fails start chunks input _ held _ _ _ _ some
    (fed.fed start input held h) (λ e. omega (arith, counted, fed.many (ap Err e))))

pub returns-in-On : goal.returns-in-On
returns-in-On g c = λ start chunks input held counted h.
    let carry = c.args.self.now.carry in
    let fed = c.in_ok-feed.ensures in
    let on = c.in-On.is in
    let some : 0 < length (unfinished input)
    = some_carried carry.items (unfinished input)
    (omega (arith, carry.ok.0, eqb-false (vec_len carry) 0 (sym c.if-is_empty.ensures))) h.carried in
    last_on g.H.LineHandler.answers g.H.LineHandler.fails start chunks input _ held _ _ _ some
    (rw on at (fed.fed start input held h)) (omega (arith, counted, fed.few, fed.counts (ap Ok on) (omega arith)))

pub returns-in-Ends : goal.returns-in-Ends
returns-in-Ends g c = λ start chunks input held counted h.
    let carry = c.args.self.now.carry in
    let fed = c.in_ok-feed.ensures in
    let ends = c.in-Ends.is in
    let some : 0 < length (unfinished input)
    = some_carried carry.items (unfinished input)
    (omega (arith, carry.ok.0, eqb-false (vec_len carry) 0 (sym c.if-is_empty.ensures))) h.carried in
    last_closed g.H.LineHandler.answers g.H.LineHandler.fails start chunks input c.feed.new.handler held _
    c.feed.new.self.replies c.feed.new.self.carry.items some (rw ends at (fed.fed start input held h))
