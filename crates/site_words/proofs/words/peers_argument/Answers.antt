use Rattle.std.proofs.Common.{◌≡◌, ◌∙◌, ap, ap₂, Some, true}
use Rattle.clap.specs.Walk.{Rule, rule_of}
use Rattle.site_words.proofs.Parsers.{is_global, ranged, some_and}
use Rattle.site_words.proofs.words.peers_argument.Goals as goal

pub returns-clause-rule : goal.returns-clause-rule
returns-clause-rule c =
    let some = some_and c.num_args.result.num_vals c.num_args.ensures.1 in
    let named : rule_of c.value_name.result ≡ _ = ap rule_of c.value_name.ensures
    ∙ ap (λ (r : Rule). record r { value_names = 1 }) c.new.ensures.rule in
    let several : rule_of c.num_args.result ≡ _ = ap rule_of c.num_args.ensures.0
    ∙ ap₂ ranged named (some.1 ∙ ap Some some.2) in
    ap rule_of c.help.ensures
    ∙ (ap rule_of c.required.ensures ∙ ap (λ (r : Rule). record r { required = true }) several)

pub returns-clause-local : goal.returns-clause-local
returns-clause-local c =
    ap is_global c.help.ensures ∙ (ap is_global c.required.ensures ∙ (ap is_global c.num_args.ensures.0
    ∙ (ap is_global c.value_name.ensures ∙ c.new.ensures.optional.1)))
