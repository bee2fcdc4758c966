-- The responses to requests.
use Rattle.std.specs.Prelude.{◌≡◌, ℕ, Bool, true, false, List, [], ◌∷◌, ◌++◌, Option, codes}
use Rattle.http.specs.declared.request.Request.{Request}
use Rattle.http.specs.Request.{body_of}
use Rattle.http1.specs.Fields.{Header}
use Rattle.http_server.specs.declared.response.Response.{Response}
use Rattle.http_server.specs.Response.{IsResponse}
use Rattle.line_streams.specs.Talk.{lines_of}
use Rattle.refusals.specs.Refusals.{LineAnswer}
use Rattle.site_http.specs.declared.page.TheConstants.{PAGE}
use Rattle.site_http.specs.declared.route.Allowed.{Allowed}
use Rattle.site_http.specs.declared.route.Allowed.TheVariants as Only
use Rattle.site_http.specs.declared.route.Route.{Route}
use Rattle.site_http.specs.declared.route.Route.TheVariants.{Commands, Wait, Status, Queue, Peers, Log, Metrics, Health, Page}
use Rattle.site_http.specs.declared.route.Route.TheVariants.{Foreign, Misdirected, NotAllowed, NotFound, BadQuery}
use Rattle.site_http.specs.declared.request_key.RequestKey.{RequestKey}
use Rattle.site_http.specs.Keys.{key_of}
use Rattle.site_http.specs.Replying.{Answering, RepliesToBody, text_of}
use Rattle.site_http.specs.Routing.{Leads}

-- a client, and the names of the host at which it is served
pub record Named (S : Type 0) : Type 0 where
  pub client : S
  pub names : List (List ℕ)

-- the headers of each response
abbrev pub headers_for : List ℕ → List Header
headers_for content_type = (codes "content-type", content_type) ∷ (codes "cache-control", codes "no-store") ∷ []

abbrev pub plain : List Header
plain = headers_for (codes "text/plain; charset=utf-8")

-- the methods that a target allows
abbrev pub methods_of : Allowed → List ℕ
methods_of Only.Get = codes "GET, HEAD"
methods_of Only.Post = codes "POST"
methods_of Only.GetAndPost = codes "GET, HEAD, POST"

-- the response to a health check, by whether the site has closed
abbrev pub IsHealth : Bool → Response → Type 0
IsHealth true r = IsResponse 503 plain (codes "closed" ++ 10 ∷ []) r
IsHealth false r = IsResponse 200 plain (codes "ok" ++ 10 ∷ []) r

-- the response of a service that turns every request away
abbrev pub IsBusy : Response → Type 0
IsBusy r =
    IsResponse 503 (plain ++ (codes "retry-after", codes "1") ∷ (codes "connection", codes "close") ∷ [])
    (codes "error Busy" ++ 10 ∷ []) r

module _ {S : Type 0} where
  -- the response to the lines of a body is their replies
  pub record IsReplied (replies_to : S → List (List ℕ) → ℕ → List LineAnswer → S
      → Type 0) (old : S) (body : List ℕ) (r : Response) (new : S) : Type 0 where
    pub code : ℕ
    pub given : List LineAnswer
    pub replied : replies_to old (lines_of body) code given new
    pub response : IsResponse code plain (text_of given) r

  -- the response is a text that the site reports
  abbrev pub Tells : (S → List ℕ → Type 0) → List ℕ → S → Response → Type 0
  Tells says content_type old r = (text : List ℕ) × says old text × IsResponse 200 (headers_for content_type) text r

  -- the same with a line feed after it
  abbrev pub TellsLine : (S → List ℕ → Type 0) → List ℕ → S → Response → Type 0
  TellsLine says content_type old r = (text : List ℕ) × says old text
      × IsResponse 200 (headers_for content_type) (text ++ 10 ∷ []) r

module _ {S : Type 0} (answers : Option (List ℕ) → Bool → Answering S) (status queue known : S → List ℕ → Type 0)
    (listed : S → ℕ → List ℕ → Type 0) (metrics : S → List ℕ → Type 0) (closed : S → Bool → Type 0) where
  -- the response to a request that changes nothing
  abbrev pub Shows : S → Route → Response → Type 0
  Shows old Status r = TellsLine status (codes "application/json") old r
  Shows old Queue r = TellsLine queue (codes "application/json") old r
  Shows old Peers r = TellsLine known (codes "application/json") old r
  Shows old (Log first) r = Tells (λ s text. listed s first text) (codes "text/plain; charset=utf-8") old r
  Shows old Metrics r = Tells metrics (codes "text/plain; version=0.0.4") old r
  Shows old Health r = (is_closed : Bool) × closed old is_closed × IsHealth is_closed r
  Shows old Page r = IsResponse 200 (headers_for (codes "text/html; charset=utf-8")) PAGE.now r
  Shows old Foreign r = IsResponse 403 plain (codes "error Origin" ++ 10 ∷ []) r
  Shows old Misdirected r = IsResponse 421 plain (codes "error Host" ++ 10 ∷ []) r
  Shows old (NotAllowed allowed) r =
      IsResponse 405 (plain ++ (codes "allow", methods_of allowed) ∷ []) (codes "error Method" ++ 10 ∷ []) r
  Shows old NotFound r = IsResponse 404 plain (codes "error Target" ++ 10 ∷ []) r
  Shows old BadQuery r = IsResponse 400 plain (codes "error Query" ++ 10 ∷ []) r
  Shows old route r = ⊥

  -- in the first state, a request with this route and body, which says this of a key, gets this response and leads to
  -- the second state; only for commands the key counts
  abbrev pub RespondsBy : S → Route → RequestKey → List ℕ → Response → S → Type 0
  RespondsBy old Commands key body r new = IsReplied (RepliesToBody answers key false) old body r new
  RespondsBy old Wait key body r new = IsReplied (RepliesToBody answers key true) old body r new
  RespondsBy old route key body r new = Shows old route r × (new ≡ old)

  -- in the first state, the request gets this response and leads to the second state, at a site whose host has these
  -- names
  abbrev pub Responds : List (List ℕ) → S → Request (List ℕ) → Response → S → Type 0
  Responds names old request r new =
      (route : Route) × Leads names request route × RespondsBy old route (key_of request) (body_of request) r new

  -- the same for a service that has these names
  abbrev pub Serves : Named S → Request (List ℕ) → Response → Named S → Type 0
  Serves old request r new = Responds old.names old.client request r new.client × (new.names ≡ old.names)
