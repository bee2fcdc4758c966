use Rattle.std.proofs.Common.{◌∙◌, ap₂}
use Rattle.std.proofs.lemmas.Result.{IfOk-weaker}
use Rattle.clap.specs.Simple.{with_subcommand}
use Rattle.site_words.proofs.words.script_parser.Goals as goal

pub returns : goal.returns
returns c =
    let sim = c.sim_parser.ensures in
    IfOk-weaker c.subcommand.result _ _ (λ parser added. added.shape sim.local
    ∙ ap₂ with_subcommand c.in_ok-bare_parser.ensures sim.shape) c.subcommand.ensures
