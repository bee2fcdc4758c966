use Rattle.std.proofs.Common.{List, ℕ, [], ap, sym, ◌∙◌, append-nil}
use Rattle.http_server.specs.Connection.{history}
use Rattle.http_server.specs.declared.connection.Connection.{Connection}
use Rattle.http_server.proofs.KnownLemmas.{Appends-kept}
use Rattle.site_http.proofs.ConverseLaws.{appends_none}
use Rattle.site_http.proofs.serving.write_part.Goals as goal

pub returns-in-Err : goal.returns-in-Err
returns-in-Err g c =
    let kept = c.in-Err.ensures.err in
    let old = history c.args.connection.now in (
      ap (λ (k : Connection). history k) kept.0 ∙ ap (λ (s : List ℕ). record old { sent = s }) (sym (append-nil old.sent)),
      Appends-kept _ _ _ [] (appends_none _) kept.1,
    )
