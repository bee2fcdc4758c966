use Rattle.std.proofs.Common.{◌∙◌, ap}
use Rattle.std.proofs.lemmas.Result.{IfOk-weaker}
use Rattle.clap.specs.Simple.{app_of_fields}
use Rattle.site_words.proofs.Parsers.{one_more}
use Rattle.site_words.proofs.words.check_parser.Goals as goal

pub returns : goal.returns
returns c =
    let start = ap app_of_fields c.after_help.ensures ∙ (ap app_of_fields c.about.ensures ∙ c.new.ensures.app) in
    let none = ap (λ f. f.has_globals) c.after_help.ensures
    ∙ (ap (λ f. f.has_globals) c.about.ensures ∙ c.new.ensures.local) in
    let file = one_more _ _ c.in_ok-arg.ensures (start, none) c.file_argument.ensures.rule
    c.file_argument.ensures.local in
    IfOk-weaker c.arg-2.result _ _
    (λ parser adds. one_more _ _ adds file c.json_flag.ensures.rule c.json_flag.ensures.local) c.arg-2.ensures
