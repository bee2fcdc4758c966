use Rattle.std.proofs.Common.{◌≡◌, ◌∙◌, ap, codes, true}
use Rattle.clap.specs.Simple.{App, app_of, app_of_fields, new_app, on_top}
use Rattle.site_words.proofs.words.bare_parser.Goals as goal

abbrev named : App
named = new_app (codes "rights-site")

abbrev unnamed_words : App
unnamed_words = on_top (λ s. record s { no_binary_name = true }) named

abbrev requiring : App
requiring = on_top (λ s. record s { subcommand_required = true }) unnamed_words

pub returns : goal.returns
returns c =
    let named_is : app_of c.after_help.result ≡ named =
    ap app_of_fields c.after_help.ensures
    ∙ (ap app_of_fields c.about.ensures ∙ (ap app_of_fields c.in_ok-bin_name.ensures.0 ∙ c.new.ensures.app)) in
    let unnamed_is : app_of c.no_binary_name.result ≡ unnamed_words =
    ap app_of_fields c.no_binary_name.ensures ∙ ap (on_top (λ s. record s { no_binary_name = true })) named_is in
    let requiring_is : app_of c.subcommand_required.result ≡ requiring =
    ap app_of_fields c.subcommand_required.ensures
    ∙ ap (on_top (λ s. record s { subcommand_required = true })) unnamed_is in
    ap app_of_fields c.disable_help_subcommand.ensures
    ∙ ap (on_top (λ s. record s { disable_help_subcommand = true })) requiring_is
