-- What a connection's calls say of the client that is served.
use Rattle.std.proofs.Common.{◌≡◌, ◌∙◌, ◌⊎◌, ℕ, Bool, List, [], ◌∷◌, ◌++◌, Option, Some, None, ap, sym}
use Rattle.std.proofs.lemmas.List.{take-append-drop}
use Rattle.std.proofs.Common.{subst, append-nil, take, drop, Result, IfSome, Ok, Err, OnOk, OnErr}
use Rattle.std.specs.Io.KnownBytes.{Appends, Consumes}
use Rattle.line_streams.specs.Fronts.{FallsShort}
use Rattle.http_server.specs.Exchange.{Call, Calls, Chain}
use Rattle.http_server.specs.History.{History, IsServed, new_history}
use Rattle.http_server.specs.declared.state.Config.{Config}
use Rattle.http_server.proofs.KnownLemmas.{Appends-then}
use Rattle.site_http.specs.Replying.{Answering}
use Rattle.site_http.specs.Responding.{Named, Responds, Serves}
use Rattle.site_http.specs.Conversing.{Conversed, AnswersFault}

-- nothing was appended
pub appends_none : (known : Option (List ℕ)) → Appends known known []
appends_none None = tt
appends_none (Some xs) = sym (append-nil xs)

pub some_so : {T : Type 0} {P Q : T → Type 0} (o : Option T) → ((x : T) → P x → Q x) → IfSome o P → IfSome o Q
some_so None f h = tt
some_so (Some x) f h = f x h

-- a text that was written, whole or in part
pub written_part : {A E : Type 0} (held new : Option (List ℕ)) (text : List ℕ) (r : Result A E)
    → OnOk r (Appends held new text) → OnErr r (FallsShort held new text)
    → (part : List ℕ) × Appends held new part × (rest : List ℕ) × (part ++ rest ≡ text)
written_part held new text (Ok done) whole front = (text, whole, [], append-nil text)
written_part held new text (Err error) whole front =
    (take front.0 text, front.2, drop front.0 text, take-append-drop front.0 text)

module _ {S : Type 0} (answers : Option (List ℕ) → Bool → Answering S) (status queue known : S → List ℕ → Type 0)
    (listed : S → ℕ → List ℕ → Type 0) (metrics : S → List ℕ → Type 0) (closed : S → Bool → Type 0) where
  -- the names stay the same
  calls_of_client : (old : Named S) (calls : List Call) (new : Named S)
      → Chain (Serves answers status queue known listed metrics closed) old calls new
      → Chain (Responds answers status queue known listed metrics closed old.names) old.client calls new.client
  calls_of_client old [] new h = ap (λ (s : Named S). s.client) h
  calls_of_client old (call ∷ calls) new h = (
    h.0.client,
    h.1.0,
    subst (λ (names : List (List ℕ)). Chain (Responds answers status queue known listed metrics closed names) h.0.client calls new.client)
        h.1.1 (calls_of_client h.0 calls new h.2),
  )

  -- a connection from its beginning
  pub conversed : (config : Config) (given left held mid holds : Option (List ℕ)) (client : S) (names : List (List ℕ))
      (first final : Named S) (result : S) (before after : History) (last : List ℕ)
      → first ≡ record { client = client; names = names } → result ≡ final.client → before ≡ new_history → ∥ IsServed config after ∥₁
      → (more : List ℕ) × Consumes given left more × (after.received ≡ before.received ++ more)
      → (more : List ℕ) × Appends held mid more × (after.sent ≡ before.sent ++ more)
      → Calls (Serves answers status queue known listed metrics closed) first final before.calls after.calls
      → Appends mid holds last → (last ≡ []) ⊎ AnswersFault after last
      → Conversed (Responds answers status queue known listed metrics closed names) given left held holds client result
  conversed config given left held mid holds client names first final result before after last begins same fresh served
      read written calls appended ends =
      let chain : Chain (Serves answers status queue known listed metrics closed) first after.calls final
      = subst (λ (cs : List Call). Chain (Serves answers status queue known listed metrics closed) first cs final)
      (sym (calls.1 ∙ ap (λ (h : History). h.calls ++ calls.0) fresh)) calls.2 in
      record {
        config = config;
        history = after;
        served = served;
        last = last;
        ends = ends;
        read = subst (λ (m : List ℕ). Consumes given left m)
            (sym (read.2 ∙ ap (λ (h : History). h.received ++ read.0) fresh)) read.1;
        written = Appends-then held mid holds after.sent last
            (subst (λ (m : List ℕ). Appends held mid m)
            (sym (written.2 ∙ ap (λ (h : History). h.sent ++ written.0) fresh)) written.1) appended;
        calls =
            subst (λ (s : S). Chain (Responds answers status queue known listed metrics closed names) client after.calls s) (sym same)
            (subst (λ (s : Named S). Chain (Responds answers status queue known listed metrics closed s.names) s.client after.calls
            final.client) begins (calls_of_client first after.calls final chain));
      }
