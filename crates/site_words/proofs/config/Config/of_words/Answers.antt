use Rattle.std.proofs.Common.{option_map}
use Rattle.clap.specs.Walk.{texts}
use Rattle.site_words.specs.Settings.{HasValues}
use Rattle.site_words.proofs.SettingsLaws.{refused_on}
use Rattle.site_words.proofs.Peers.{lacking}
use Rattle.site_words.proofs.config.Config.of_words.Goals as goal

pub returns-in_err-other_peers : goal.returns-in_err-other_peers
returns-in_err-other_peers c =
    let listen = option_map (λ s. s.now) c.args.listen in
    let words = texts c.args.words.now in
    let froms = texts c.args.froms.now in
    refused_on (HasValues c.args.id c.args.sites listen words froms c.args.options)
    c.from_residual-in_err-other_peers.result c.in_err-other_peers.field-0.0
    c.from_residual-in_err-other_peers.ensures.1
    (λ refused. lacking c.args.id c.args.sites listen words froms c.args.options
    (c.in_err-other_peers.ensures refused))
