use Rattle.std.proofs.Common.{refl}
use Rattle.entry_codec.proofs.ShortMessages.{some_left, some_others}
use Rattle.entry_codec.proofs.short.trails.Goals as goal

pub returns-then-is_some : goal.returns-then-is_some
returns-then-is_some c = rw (some_left 32 c.args.fields c.is_some.result c.is_some.ensures, c.if-is_some.true) refl

pub returns-else-is_some : goal.returns-else-is_some
returns-else-is_some c =
    rw (
      some_left 32 c.args.fields c.is_some.result c.is_some.ensures,
      c.if-is_some.false,
      some_others c.args.others c.is_some-else-is_some.result c.is_some-else-is_some.ensures,
    ) refl
