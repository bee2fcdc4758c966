use Rattle.std.proofs.Common.{◌≡◌, ◌∙◌, ap, ap₂}
use Rattle.std.proofs.lemmas.Result.{IfOk-weaker}
use Rattle.clap.specs.Simple.{shape_of, with_subcommand}
use Rattle.site_words.specs.CommandLine.{run_shape}
use Rattle.site_words.proofs.words.running_parser.Goals as goal

pub returns : goal.returns
returns c =
    let run_is : shape_of c.in_ok-run.run' ≡ run_shape = ap (λ a. a.top) c.in_ok-run.ensures.0 in
    IfOk-weaker c.subcommand.result _ _ (λ parser added. added.shape c.in_ok-run.ensures.1
    ∙ ap₂ with_subcommand c.in_ok-script_parser.ensures run_is) c.subcommand.ensures
