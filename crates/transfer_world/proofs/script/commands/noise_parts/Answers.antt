use Rattle.std.proofs.Common.{refl}
use Rattle.transfer_world.specs.Commands.{noise_parts}
use Rattle.transfer_world.proofs.CommandLaws.{text_whole}
use Rattle.transfer_world.proofs.script.commands.noise_parts.Goals as goal

pub returns : goal.returns
unfolding noise_parts
returns c =
    rw (
      c.in_ok-site.ensures.value,
      c.in_ok-origin.ensures.value,
      c.in_ok-text.was,
      text_whole c.in_ok-text.field-0,
      c.known.ensures,
      c.known-2.ensures,
    ) refl
