-- A connection from its beginning to its end.
use Rattle.std.specs.Prelude.{◌≡◌, ◌⊎◌, ℕ, List, [], ◌++◌, Option}
use Rattle.std.specs.Io.KnownBytes.{Appends, Consumes}
use Rattle.http.specs.declared.request.Request.{Request}
use Rattle.http_server.specs.Exchange.{Chain}
use Rattle.http_server.specs.History.{History, IsServed}
use Rattle.http_server.specs.declared.state.Config.{Config}
use Rattle.http_server.specs.declared.response.Response.{Response}
use Rattle.site_http.specs.declared.request_fault.RequestFault.{RequestFault}
use Rattle.site_http.specs.Refusing.{fault_text, ComesFirst, IsCause}

-- this is a first part of what still waited and of a refusal after it
pub record AnswersFault (history : History) (last : List ℕ) : Type 0 where
  pub why : RequestFault
  pub cause : IsCause why history
  pub front : List ℕ
  pub first : ComesFirst why history.pending front
  pub rest : List ℕ
  pub text : last ++ rest ≡ front ++ fault_text why

-- what was read from it and written to it has this history, whose calls lead from one state of the service to the
-- other; at the end a request may be refused
pub record Conversed {S : Type 0} (answers : S → Request (List ℕ) → Response → S
    → Type 0) (given left held holds : Option (List ℕ)) (old new : S) : Type 0 where
  pub config : Config
  pub history : History
  pub served : ∥ IsServed config history ∥₁
  pub last : List ℕ
  pub ends : (last ≡ []) ⊎ AnswersFault history last
  pub read : Consumes given left history.received
  pub written : Appends held holds (history.sent ++ last)
  pub calls : Chain answers old history.calls new
