use Rattle.std.proofs.Common.{◌∙◌, inl, refl, sym, ap, subst, Err, Global}
use Rattle.std.proofs.lemmas.Result.{err_from_is_err_and}
use Rattle.clap.specs.Walk.{texts}
use Rattle.site_words.specs.Asked.{asked_by}
use Rattle.rights_program.specs.Endings.{Ending}
use Rattle.rights_program.specs.Faults.{fault_of_words}
use Rattle.rights_program.specs.Scripts.{Answered}
use Rattle.rights_program.proofs.Commands.{check_not_refused, ends_as_check, none_refused, site_not_refused}
use Rattle.rights_program.proofs.ScriptLaws.{none_answered}
use Rattle.rights_program.proofs.run.run_command.Goals as goal

pub returns-in_err-command-clause-answered : goal.returns-in_err-command-clause-answered
returns-in_err-command-clause-answered g c same =
    let p = err_from_is_err_and c.from_residual.result c.from_residual.ensures.1 in
    subst (λ (e : Ending). Answered Global (g.R.Read.remaining c.args.reader.now) (g.R.Read.remaining c.args.reader.now)
    (g.W.Write.contents c.args.writer.now) (g.W.Write.contents c.args.writer.now) e) (sym (p.1 ∙ ap Err p.2))
    (none_answered Global (g.R.Read.remaining c.args.reader.now) (g.W.Write.contents c.args.writer.now)
    (asked_by (texts c.args.words.now)) c.in_err-command.field-0.0 c.in_err-command.ensures same)

pub returns-in_err-command-clause-version : goal.returns-in_err-command-clause-version
returns-in_err-command-clause-version g c same =
    absurd (none_refused (asked_by (texts c.args.words.now)) c.in_err-command.field-0.0 c.in_err-command.ensures same)

pub returns-in_err-command-clause-site : goal.returns-in_err-command-clause-site
returns-in_err-command-clause-site g c found =
    let p = err_from_is_err_and c.from_residual.result c.from_residual.ensures.1 in
    let none = site_not_refused (asked_by (texts c.args.words.now)) c.in_err-command.field-0.0
    c.in_err-command.ensures found in
    inl (p.1 ∙ ap Err (p.2 ∙ ap fault_of_words none), (refl {a = c.args.reader.now}, refl {a = c.args.writer.now}))

pub returns-in_err-command-clause-journal : goal.returns-in_err-command-clause-journal
returns-in_err-command-clause-journal g c found =
    let p = err_from_is_err_and c.from_residual.result c.from_residual.ensures.1 in
    let none = check_not_refused (asked_by (texts c.args.words.now)) c.in_err-command.field-0.0
    c.in_err-command.ensures found in
    inl (p.1 ∙ ap Err (p.2 ∙ ap fault_of_words none), (refl {a = c.args.reader.now}, refl {a = c.args.writer.now}))

pub returns-clause-journal : goal.returns-clause-journal
returns-clause-journal g c found =
    ends_as_check _ _ _ _ _ _ _ _ (asked_by (texts c.args.words.now)) c.in_ok-command.command c.carry_out.result
    c.in_ok-command.ensures c.carry_out.ensures.does found
