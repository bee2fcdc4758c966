use Rattle.std.proofs.Common.{◌≡◌, sym, ◌∙◌, subst}
use Rattle.std.specs.Map.{lookup}
use Rattle.std.specs.Str.{bytes_eq}
use Rattle.command_keys.specs.Last.{LastValue}
use Rattle.command_keys.proofs.Lookups.{lookup-turned, distinct_once}
use Rattle.command_keys.proofs.last.LastKeys.get.Goals as goal

pub returns : goal.returns
returns g c =
    let es = c.self.inside.map.entries in
    let q = c.args.key.now in
    let same = lookup-turned (bytes_eq q) es c.self.inside.oldest (distinct_once q es c.len-len.ensures.unique) in
    subst (λ (l : LastValue g.row.V.Denot). c.copied.result ≡ lookup (bytes_eq q) l.entries) c.self.view_is
    (c.copied.ensures ∙ c.get.ensures.value ∙ sym same)
