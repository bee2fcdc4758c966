use Rattle.std.proofs.Common.{◌≡◌, ◌∙◌, ◌++◌, List, ℕ, [], ◌∷◌, refl, subst}
use Rattle.std.specs.Io.KnownBytes.{Appends}
use Rattle.line_streams.specs.Fronts.{FallsShort}
use Rattle.journal_check.specs.Checks.{not_printed, printed}
use Rattle.journal_check.proofs.CheckLaws.{whole_text}
use Rattle.journal_check.proofs.check.check_device.Goals as goal

pub returns-in-Ok : goal.returns-in-Ok
returns-in-Ok g c honest =
    let says = c.in_ok-reading.ensures.says honest in
    let all : c.whole.result.now ≡ says.0 ++ 10 ∷ [] = c.whole.ensures
    ∙ whole_text c.new-out.result c.put_journal.new.out c.finish.new.self says.0 c.new-out.ensures
    c.in_ok-reading.ensures.kept says.2 c.in_ok-finish.ensures.ok in
    printed c.in_ok-reading.reading
    (record {
      text = says.0;
      says = says.1;
      prints = subst (λ (t : List ℕ). Appends (g.W.Write.contents c.args.writer.now)
          (g.W.Write.contents c.write_whole.new.writer) t) all c.in-Ok.ensures.whole;
    })
    c.end_by.ensures

pub returns : goal.returns
returns g c honest =
    let says = c.in_ok-reading.ensures.says honest in
    let all : c.whole.result.now ≡ says.0 ++ 10 ∷ [] = c.whole.ensures
    ∙ whole_text c.new-out.result c.put_journal.new.out c.finish.new.self says.0 c.new-out.ensures
    c.in_ok-reading.ensures.kept says.2 c.in_ok-finish.ensures.ok in
    not_printed (
      c.in_ok-reading.reading,
      says.0,
      says.1,
      subst (λ (t : List ℕ). FallsShort (g.W.Write.contents c.args.writer.now)
          (g.W.Write.contents c.write_whole.new.writer) t) all c.in-Err.ensures.front,
    ) refl
