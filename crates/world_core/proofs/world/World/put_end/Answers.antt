use Rattle.std.proofs.Common.{ap, ◌∙◌}
use Rattle.rights_types.specs.Chains.{end}
use Rattle.world_core.specs.Values.{LinkValue}
use Rattle.world_core.specs.Worlds.{list_of}
use Rattle.world_core.proofs.world.World.put_end.Goals as goal

pub returns-in-Some : goal.returns-in-Some
returns-in-Some g c =
    let found = c.in-Some.ensures in
    c.last.ensures ∙ found.sound.follows.has_put.last ∙ ap (λ x. end (list_of (λ (l : LinkValue). l.put) x)) found.value
