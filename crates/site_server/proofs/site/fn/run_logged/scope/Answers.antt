use denote.Param.Send.{sendable}
use Rattle.site_server.proofs.site.fn.run_logged.scope.Goals as goal

pub begin_log-requires-send-W : goal.begin_log-requires-send-W
begin_log-requires-send-W g c κs within = search (sendable)

pub run_desk-ended-requires-send-D : goal.run_desk-ended-requires-send-D
run_desk-ended-requires-send-D g c κs within = search (sendable)
