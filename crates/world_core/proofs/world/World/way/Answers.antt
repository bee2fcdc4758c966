use Rattle.std.proofs.Common.{sym, arith}
use Rattle.world_core.proofs.ReaderLaws.{way_left, none_on_way}
use Rattle.world_core.proofs.world.World.way.Goals as goal

pub returns-in-None : goal.returns-in-None
returns-in-None g c = sym (none_on_way c.args.self.now c.args.origin c.args.site c.in-None.ensures.none)

pub overflow_sub-result : goal.overflow_sub-result
overflow_sub-result g c =
    let found = c.in-Some.ensures in
    omega (
      arith,
      c.given_to.ensures.value,
      c.received.ensures,
      way_left c.args.self.now c.args.origin c.args.site
          c.in-Some.desk.now found.kept found.site found.some,
    )

pub overflow_sub-result-in-Some : goal.overflow_sub-result-in-Some
overflow_sub-result-in-Some g c =
    let found = c.in-Some.ensures in
    omega (
      arith,
      c.given_to.ensures.value,
      c.received.ensures,
      c.back.ensures.value,
      way_left c.args.self.now
          c.args.origin c.args.site c.in-Some.desk.now found.kept found.site found.some,
    )

pub returns-in-Some : goal.returns-in-Some
returns-in-Some g c =
    let found = c.in-Some.ensures in
    omega (
      arith,
      c.given_to.ensures.value,
      c.received.ensures,
      c.back.ensures.value,
      way_left c.args.self.now
          c.args.origin c.args.site c.in-Some.desk.now found.kept found.site found.some,
    )
