use Rattle.std.proofs.Common.{◌≡◌, ◌∙◌, ap, drop, inl, inr, refl}
use Rattle.clap.specs.Walk.{texts}
use Rattle.rights_program.specs.Arguments.{arguments}
use Rattle.rights_program.proofs.Commands.{ends_for}
use Rattle.rights_program.proofs.given.run_arguments.Goals as goal

pub returns-in-Err-clause-ends : goal.returns-in-Err-clause-ends
returns-in-Err-clause-ends g c = inr ((c.report.ensures.status, c.report.ensures.says), refl, refl)

pub returns-clause-ends : goal.returns-clause-ends
returns-clause-ends g c =
    let same : texts c.behind_name-behind.result.now ≡ arguments c.args.words.now =
    c.behind_name-behind.ensures ∙ ap (λ ws. drop 1 (texts ws)) c.deref.ensures.value ∙ ap (drop 1) c.in-Ok.ensures in
    inl (ends_for _ _ _ _ _ _ _ _ _ _ _ _ _ same c.run_words.ensures.ends)
