use Rattle.std.proofs.Common.{◌∙◌, sym}
use Rattle.clap.specs.Walk.{texts}
use Rattle.site_words.proofs.CommandWords.{help_error_asks, other_error_asks, parsed_answers, parsed_asks}
use Rattle.site_words.proofs.words.read_by_clap.Goals as goal

pub returns-in-Ok : goal.returns-in-Ok
returns-in-Ok c = parsed_answers _ _ c.command_of.result
    (parsed_asks _ (texts c.args.words.now) c.in_ok-parser.ensures c.in-Ok.matches c.in-Ok.ensures.kinds
    c.in-Ok.ensures.matches)
    c.command_of.ensures

pub returns-in-DisplayHelp : goal.returns-in-DisplayHelp
returns-in-DisplayHelp c =
    help_error_asks _ (texts c.args.words.now) c.in_ok-parser.ensures c.in-Err.error c.in-Err.ensures.kinds
    (sym c.kind.ensures ∙ c.in-DisplayHelp.is)

pub returns : goal.returns
returns c =
    other_error_asks _ (texts c.args.words.now) c.in_ok-parser.ensures c.in-Err.error c.in-Err.ensures.kinds
    (λ e. c.in_default.not-DisplayHelp (c.kind.ensures ∙ e)) (λ e. c.in_default.not-OutOfMemory (c.kind.ensures ∙ e))
