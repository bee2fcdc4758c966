use Rattle.std.proofs.Common.{◌≡◌, ◌∙◌, sym, ap, arith, codes, map, option_map, List, [], Option, Some, None}
use Rattle.std.specs.Prelude.{unwrap_or}
use Rattle.clap.specs.Matches.{found_of}
use Rattle.clap.specs.Walk.{Text, rows_of, texts}
use Rattle.clap.proofs.WalkLemmas.{first_value-rows, raw_values-rows}
use Rattle.site_words.specs.Settings.{IsFound}
use Rattle.site_words.proofs.SettingsLaws.{refused_on, unwrap_mapped, values_found}
use Rattle.site_words.proofs.words.config_of.Goals as goal

pub returns-in_err-id : goal.returns-in_err-id
returns-in_err-id c =
    refused_on (IsFound (rows_of (found_of c.args.matches.now))) c.from_residual.result c.in_err-id.field-0.0
    c.from_residual.ensures.1
    (λ refused s valid found. c.in_err-id.ensures.1 s.id (omega (arith, valid.site.1)) found.id)

pub returns-in_err-sites : goal.returns-in_err-sites
returns-in_err-sites c =
    refused_on (IsFound (rows_of (found_of c.args.matches.now))) c.from_residual-in_err-sites.result
    c.in_err-sites.field-0.0 c.from_residual-in_err-sites.ensures.1
    (λ refused s valid found. c.in_err-sites.ensures.1 s.sites (omega (arith, valid.most)) found.sites)

pub returns-in_err-peers : goal.returns-in_err-peers
returns-in_err-peers c =
    let f = found_of c.args.matches.now in
    refused_on (IsFound (rows_of f)) c.from_residual-in_err-peers.result c.in_err-peers.field-0.0
    c.from_residual-in_err-peers.ensures.1 (λ refused s valid found.
    let bad : None ≡ Some found.words
    = sym (ap (option_map (λ s. map (λ v. v.now) s.now)) c.in_err-peers.ensures.ok_part) ∙ c.get_strs.ensures
    ∙ raw_values-rows f (codes "peer") ∙ found.given in cc)

pub returns-in_err-options : goal.returns-in_err-options
returns-in_err-options c =
    refused_on (IsFound (rows_of (found_of c.args.matches.now))) c.from_residual-in_err-options.result
    c.in_err-options.field-0.0 c.from_residual-in_err-options.ensures.1
    (λ refused s valid found. c.in_err-options.ensures.1 s.options valid.times found.options)

pub returns : goal.returns
returns c =
    let f = found_of c.args.matches.now in
    let listen = sym (first_value-rows f (codes "listen")) ∙ sym c.get_str-listen.ensures in
    let peers = sym (raw_values-rows f (codes "peer"))
    ∙ (sym c.get_strs.ensures ∙ ap (option_map (λ s. map (λ v. v.now) s.now)) c.in_ok-peers.ensures.ok_part) in
    let froms = ap (λ (o : Option (List Text)). unwrap_or o [])
    (sym (raw_values-rows f (codes "from")) ∙ sym c.get_strs-2.ensures)
    ∙ unwrap_mapped (λ s. map (λ v. v.now) s.now) c.get_strs-2.result _
    ∙ ap (λ s. texts s.now) (sym c.unwrap_or-froms.ensures) in
    values_found (rows_of f) c.in_ok-id.id c.in_ok-sites.sites _
    (texts c.in_ok-peers.peers.now) (texts c.unwrap_or-froms.result.now) c.in_ok-options.options
    c.in_ok-id.ensures c.in_ok-sites.ensures listen peers froms c.in_ok-options.ensures c.of_words.result
    c.of_words.ensures
