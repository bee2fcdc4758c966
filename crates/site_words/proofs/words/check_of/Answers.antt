use Rattle.std.proofs.Common.{◌≡◌, ◌∙◌, sym, ap, subst, codes, option_map, Some, None}
use Rattle.clap.specs.Matches.{found_of}
use Rattle.clap.specs.Walk.{rows_of}
use Rattle.clap.proofs.WalkLemmas.{first_value-rows}
use Rattle.site_words.specs.Checks.{IsAskedBy}
use Rattle.site_words.proofs.CheckLaws.{check_refused_on}
use Rattle.site_words.proofs.words.check_of.Goals as goal

pub returns-in_err-path : goal.returns-in_err-path
returns-in_err-path c =
    let f = found_of c.args.matches.now in
    check_refused_on (rows_of f) c.from_residual.result c.in_err-path.field-0.0 c.from_residual.ensures.1
    (λ refused check asked.
    let bad : None ≡ Some check.path = sym (ap (option_map (λ s. s.now)) c.in_err-path.ensures.ok_part)
    ∙ c.get_str.ensures ∙ first_value-rows f (codes "file") ∙ asked.path in cc)

pub returns : goal.returns
returns c =
    let f = found_of c.args.matches.now in
    subst (IsAskedBy (rows_of f)) (sym c.in_ok-new.ensures) (record {
      path = sym (first_value-rows f (codes "file"))
          ∙ (sym c.get_str.ensures ∙ ap (option_map (λ s. s.now)) c.in_ok-path.ensures.ok_part);
      json = c.in_ok-json.ensures;
    })
