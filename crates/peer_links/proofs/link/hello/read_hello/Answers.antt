use Rattle.std.proofs.Common.{ℕ, List, Some, ap, sym, subst, ◌∙◌, inl, inr, arith}
use Rattle.std.proofs.lemmas.Result.{err_from_is_err_and}
use Rattle.entry_codec.specs.Pieces.{IsLine}
use Rattle.peer_links.specs.Links.{ReadsHello}
use Rattle.peer_links.proofs.HelloLaws.{given_whole, line_waits, reads_hello_err}
use Rattle.peer_links.proofs.LineLaws.{none_is}
use Rattle.peer_links.proofs.link.hello.read_hello.Goals as goal

pub returns-in_err-read_first-clause-read : goal.returns-in_err-read_first-clause-read
returns-in_err-read_first-clause-read g c =
    let p = err_from_is_err_and c.from_residual.result c.from_residual.ensures.1 in
    let r = c.in_err-read_first.ensures.read in
    rw (p.1, p.2) (r.0, r.1, inl r.3.0, r.2, reads_hello_err r.0 _ r.3.0 r.3.1, λ e. r.4 cc)

pub speaker-requires : goal.speaker-requires
speaker-requires g c =
    let r = c.in_ok-read_first.ensures.read in
    let whole = given_whole c.read_first.new.cutter c.next_line.new.self r.0 c.in_ok-line.field-0 _ r.3.0 r.3.1
    (c.in-Some-Line.is ∙ ap Some c.in-Some-Line.field-0-is) c.in_ok-line.ensures.cut c.in_ok-line.ensures.given in
    subst IsLine (sym whole.0.0) r.3.0

pub returns-in-Some-Line-clause-read : goal.returns-in-Some-Line-clause-read
returns-in-Some-Line-clause-read g c =
    let r = c.in_ok-read_first.ensures.read in
    let whole = given_whole c.read_first.new.cutter c.next_line.new.self r.0 c.in_ok-line.field-0 _ r.3.0 r.3.1
    (c.in-Some-Line.is ∙ ap Some c.in-Some-Line.field-0-is) c.in_ok-line.ensures.cut c.in_ok-line.ensures.given in (
      r.0,
      r.1,
      inr r.3.0,
      r.2,
      subst (λ (text : List ℕ). ReadsHello text c.speaker.result) whole.0.0 c.speaker.ensures,
      λ _. inl r.3.0,
    )

pub returns-in-Some-Long-clause-read : goal.returns-in-Some-Long-clause-read
returns-in-Some-Long-clause-read g c =
    let r = c.in_ok-read_first.ensures.read in
    let whole = given_whole c.read_first.new.cutter c.next_line.new.self r.0 c.in_ok-line.field-0 _ r.3.0 r.3.1
    (c.in-Some-Long.is ∙ ap Some c.in-Some-Long.field-0-is) c.in_ok-line.ensures.cut c.in_ok-line.ensures.given in
    absurd (omega (arith, whole.0, r.2))

pub unreachable-requires : goal.unreachable-requires
unreachable-requires g c =
    let r = c.in_ok-read_first.ensures.read in
    let none = none_is c.in_ok-line.field-0 c.in-None.is c.in_ok-line.ensures.none in
    line_waits c.read_first.new.cutter r.0 r.3.0 r.3.1 none.0
