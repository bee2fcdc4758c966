use Rattle.std.proofs.Common.{[], ◌∷◌, refl}
use Rattle.std.proofs.lemmas.Result.{err_from_is_err_and}
use Rattle.peer_links.specs.Ports.Heard.{ALine}
use Rattle.peer_links.proofs.TakeLaws.{query_lacks, query_heard}
use Rattle.peer_links.proofs.TurnLaws.{turn_one}
use Rattle.peer_links.proofs.link.reading.ask_for_gap.Goals as goal

pub returns-in_err-given : goal.returns-in_err-given
returns-in_err-given g c =
    let p = err_from_is_err_and c.from_residual.result c.from_residual.ensures.1 in
    let query = c.in_err-given.ensures.query in (
      [],
      record {
        query = query.0;
        asks = query.1;
        rest = c.in_err-given.ensures.rest;
        hears = query_lacks query.0 _ p.0 p.1 query.2;
      },
      refl,
    )

pub query-requires : goal.query-requires
query-requires g c =
    let query = c.in_ok-given.ensures.query in
    (query_heard query.0 c.in_ok-given.field-0 _ _ c.in-Some.is query.2).0

pub returns-in-Some : goal.returns-in-Some
returns-in-Some g c =
    let query = c.in_ok-given.ensures.query in (
      ALine c.in-Some.given.1.items ∷ [],
      record {
        query = query.0;
        asks = query.1;
        rest = c.in_ok-given.ensures.rest;
        hears = (query_heard query.0 c.in_ok-given.field-0 _ _ c.in-Some.is query.2).1;
      },
      turn_one g.P.Port.hears _ _ _ c.query.ensures,
    )
