-- How requests are told apart.
use Rattle.std.specs.Prelude.{◌≡◌, ◌↔◌, ◌⊎◌, ℕ, ◌-◌, ◌^◌, Bool, true, false, List, [], ◌∷◌, Option, Some, None, codes}
use Rattle.std.specs.Prelude.{option_map, unwrap_or, if◌then◌else◌, IfSome, IsTrue}
use Rattle.std.specs.Str.{bytes_eq}
use Rattle.entry_codec.specs.Moves.{only_number}
use Rattle.entry_codec.specs.Parts.{split_at}
use Rattle.line_streams.specs.Words.{named}
use Rattle.http.specs.declared.request.Request.{Request}
use Rattle.http.specs.Request.{head_of}
use Rattle.http.specs.HeaderMap.{ContainsKey, get}
use Rattle.http.specs.Uri.{uri_authority, uri_path, uri_query}
use Rattle.http_uri.specs.Grammar.{authority_host}
use Rattle.site_http.specs.Hosts.{IsOwnHost}
use Rattle.site_http.specs.declared.route.Verb.{Verb}
use Rattle.site_http.specs.declared.route.Verb.TheVariants.{Post, Get, Other}
use Rattle.site_http.specs.declared.route.Target.{Target}
use Rattle.site_http.specs.declared.route.Target.TheVariants as Targets
use Rattle.site_http.specs.declared.route.Allowed.TheVariants as Only
use Rattle.site_http.specs.declared.route.Route.{Route}
use Rattle.site_http.specs.declared.route.Route.TheVariants as Routes

-- `HEAD` is treated like `GET`
unfoldable pub verb_of : List ℕ → Verb
verb_of method = unwrap_or (named ((codes "POST", Post) ∷ (codes "GET", Get) ∷ (codes "HEAD", Get) ∷ []) method) Other

-- what a path stands for
unfoldable pub target_of : List ℕ → Target
target_of path =
    unwrap_or (named (
    (codes "/", Targets.Root)
    ∷ (codes "/wait", Targets.Wait)
    ∷ (codes "/status", Targets.Status)
    ∷ (codes "/queue", Targets.Queue)
    ∷ (codes "/peers", Targets.Peers)
    ∷ (codes "/log", Targets.Log)
    ∷ (codes "/metrics", Targets.Metrics)
    ∷ (codes "/healthz", Targets.Health) ∷ []
    ) path) Targets.Unknown

-- the value of the field with this name
abbrev pub field_of : Request (List ℕ) → List ℕ → Option (List ℕ)
field_of request name = option_map (λ v. v.bytes) (get (head_of request).headers name)

-- the request names no host besides the site's own, in its `Host` field and in its target
abbrev pub IsForSite : List (List ℕ) → Request (List ℕ) → Type 0
IsForSite names request =
    IfSome (field_of request (codes "host")) (IsOwnHost names)
    × IfSome (option_map authority_host (uri_authority (head_of request).uri)) (IsOwnHost names)

-- a page of another site made the browser send it: it says which one, or that it is another one
abbrev pub IsForeign : Request (List ℕ) → Type 0
IsForeign request =
    ContainsKey (head_of request).headers (codes "origin")
    ⊎ (field_of request (codes "sec-fetch-site") ≡ Some (codes "cross-site"))

-- the number after `from=`
abbrev pub first_by : List (List ℕ) → Option ℕ
first_by [] = None
first_by (name ∷ values) = if bytes_eq name (codes "from") then only_number 0 (2 ^ 64 - 1) values else None

-- the number from which a query asks for the log; without a query, from the first
abbrev pub first_asked : Option (List ℕ) → Option ℕ
first_asked None = Some 0
first_asked (Some query) = first_by (split_at 61 query)

abbrev pub log_route : Option ℕ → Route
log_route None = Routes.BadQuery
log_route (Some first) = Routes.Log first

-- The route of a request, by whether it is for this site, and whether it comes from a page of another one. The number
-- from which it asks for the log counts only there.
abbrev pub route_by : Bool → Bool → Verb → Target → Option ℕ → Route
route_by false foreign verb target first = Routes.Misdirected
route_by true true Post target first = Routes.Foreign
route_by true foreign verb Targets.Unknown first = Routes.NotFound
route_by true foreign Post Targets.Root first = Routes.Commands
route_by true foreign Get Targets.Root first = Routes.Page
route_by true foreign Other Targets.Root first = Routes.NotAllowed Only.GetAndPost
route_by true foreign Post Targets.Wait first = Routes.Wait
route_by true foreign verb Targets.Wait first = Routes.NotAllowed Only.Post
route_by true foreign Get Targets.Status first = Routes.Status
route_by true foreign Get Targets.Queue first = Routes.Queue
route_by true foreign Get Targets.Peers first = Routes.Peers
route_by true foreign Get Targets.Log first = log_route first
route_by true foreign Get Targets.Metrics first = Routes.Metrics
route_by true foreign Get Targets.Health first = Routes.Health
route_by true foreign verb target first = Routes.NotAllowed Only.Get

-- the route of a request to a site whose host has these names
pub record Leads (names : List (List ℕ)) (request : Request (List ℕ)) (route : Route) : Type 0 where
  pub own : Bool
  pub is_own : IsTrue own ↔ IsForSite names request
  pub foreign : Bool
  pub is_foreign : IsTrue foreign ↔ IsForeign request
  pub by : route ≡ route_by own foreign (verb_of (head_of request).method) (target_of (uri_path (head_of request).uri))
      (first_asked (uri_query (head_of request).uri))
