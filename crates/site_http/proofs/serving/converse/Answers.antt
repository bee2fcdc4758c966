use Rattle.std.proofs.Common.{map}
use Rattle.std.specs.String.{string_bytes}
use Rattle.http_server.specs.Connection.{config_of, history}
use Rattle.http_server.proofs.Theorems.{always_served}
use Rattle.site_http.proofs.ConverseLaws.{conversed}
use Rattle.site_http.proofs.serving.converse.Goals as goal

pub returns : goal.returns
returns g c =
    let last = c.refuse.ensures in
    conversed g.C.Backend.answers g.C.Backend.status g.C.Backend.queue g.C.Backend.known g.C.Backend.listed g.C.Backend.metrics
    g.C.Backend.closed (config_of c.exchange-why.new.connection) _ _ _ _ _ c.args.client (map string_bytes c.args.names.now)
    c.new-service.result c.exchange-why.new.service c.into_client.result
    (history c.new-connection.result) (history c.exchange-why.new.connection) last.0
    c.new-service.ensures c.into_client.ensures c.new-connection.ensures.history
    (always_served c.exchange-why.new.connection)
    c.exchange-why.ensures.read c.exchange-why.ensures.written c.exchange-why.ensures.calls last.1 last.2
