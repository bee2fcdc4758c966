-- What the calls find in a queue.
use Rattle.std.proofs.Common.{◌≡◌, ℕ, suc, ◌+◌, ◌<◌, ◌≤◌, Bool, true, false, not, cond, ◌==◌, List, [], ◌∷◌, ◌++◌}
use Rattle.std.proofs.Common.{length, get_or, take, drop, remove, map, All, filter, count_by, position, Some, None}
use Rattle.std.proofs.Common.{refl, sym, ap, ◌∙◌, arith}
use Rattle.std.proofs.lemmas.Bool.{eqb-true, ltb-true, ltb-false}
use Rattle.std.proofs.lemmas.List.{map-append}
use Rattle.std.proofs.lemmas.List.Elements.{All-weaker}
use Rattle.std.proofs.lemmas.List.Folds.{list_any_none}
use Rattle.std.proofs.lemmas.List.Sorted.{sum_by-IsPermutation}
use Rattle.std.proofs.lemmas.List.Sums.{sum_by-cons, sum_by-append, sum_by-le}
use Rattle.std.proofs.lemmas.List.Edits.{length-remove}
use Rattle.std.proofs.lemmas.Option.{slice_get_read, slice_get_within, get_or_from_slice_get}
use Rattle.rights_types.specs.Ranges.{IsAmount}
use Rattle.request_queue.specs.Queues.{QueueValue, total_of, has_ticket, outcome_of, is_late, settled, without}
use Rattle.request_queue.specs.Queues.{tickets, IsQueue}
use Rattle.request_queue.specs.Calls.{Finishes, Expires, CancelsRequest}
use Rattle.request_queue.specs.declared.request.Request.{Request}
use Rattle.request_queue.specs.declared.request.Outcome.{Outcome}
use Rattle.request_queue.specs.declared.request.Outcome.TheVariants.{Expired}
use Rattle.request_queue.proofs.Lists.{first_that, none_passes, lookup_first, lookup_none, not_among, others_than}
use Rattle.request_queue.proofs.Keeps.{read_tickets, keeps_settled}

pub finishes : (q : QueueValue) (i : ℕ) (r : Request) (o : Outcome) (others : List Request)
    (outcomes : List (ℕ × Outcome)) → i < length q.waiting → r ≡ get_or q.waiting i r
    → others ≡ remove q.waiting i → outcomes ≡ q.outcomes ++ (r.ticket, o) ∷ []
    → Finishes q i o r.ticket (record { waiting = others; outcomes = outcomes; next = q.next })
finishes q i r o others outcomes lt at left told =
    (r, slice_get_read q.waiting (length q.waiting) i r refl lt at, refl, rw (left, told) refl)

-- one request fewer waits then
pub finishes_one : (q : QueueValue) (i : ℕ) (o : Outcome) (t : ℕ) (new : QueueValue) → Finishes q i o t new
    → length new.waiting + 1 ≡ length q.waiting
finishes_one q i o t new (r, is, ticket, left) =
    ap (λ (v : QueueValue). length v.waiting + 1) left ∙ length-remove q.waiting i (slice_get_within q.waiting i r is)

pub not_late : (now : ℕ) (requests : List Request) → All (λ r. is_late now r ≡ false) requests
    → All (λ (r : Request). now ≤ r.deadline) requests
not_late now requests none =
    All-weaker (λ r. is_late now r ≡ false) (λ (r : Request). now ≤ r.deadline)
    (λ r e. ltb-false r.deadline now e) requests none

pub expires : (q : QueueValue) (now i t : ℕ) (new : QueueValue) → position (is_late now) q.waiting ≡ Some i
    → Finishes q i Expired t new → Expires q now (Some t) new
expires q now i t new found (r, is, ticket, left) =
    let at : r ≡ get_or q.waiting i r = sym (get_or_from_slice_get q.waiting i r r is) in
    let first = first_that (is_late now) q.waiting i r found at in (
      take i q.waiting,
      r,
      drop (suc i) q.waiting,
      first.parts,
      not_late now (take i q.waiting) first.before,
      ltb-true r.deadline now first.passes,
      ticket,
      left,
    )

pub expires_none : (q : QueueValue) (now : ℕ) → position (is_late now) q.waiting ≡ None → Expires q now None q
expires_none q now none = (not_late now q.waiting (none_passes (is_late now) q.waiting none), refl)

abbrev pub is_of : ℕ → ℕ × Outcome → Bool
is_of t e = e.0 == t

counted : (b : Bool) (all before after n : ℕ) → b ≡ true → cond b 1 0 + n ≡ all → before + after ≤ n
    → all ≤ 1 → after ≡ 0
counted true all before after n is sum le one = omega arith
counted false all before after n is sum le one = cc

-- after the outcome of a ticket there is no other of it
none_behind : (q : QueueValue) (t i : ℕ) (e : ℕ × Outcome) → IsQueue q → i < length q.outcomes
    → e ≡ get_or q.outcomes i e → (e.0 == t) ≡ true
    → All (λ x. is_of t x ≡ false) (drop (suc i) q.outcomes)
none_behind q t i e h lt at is =
    let is_t : ℕ → ℕ = λ k. cond (k == t) 1 0 in
    let us : List ℕ = map (λ (r : Request). r.ticket) q.waiting in
    let front : List ℕ = map (λ (x : ℕ × Outcome). x.0) (take i q.outcomes) in
    let back : List ℕ = map (λ (x : ℕ × Outcome). x.0) (drop (suc i) q.outcomes) in
    let keys : List ℕ = map (λ (x : ℕ × Outcome). x.0) (remove q.outcomes i) in
    let moved = sum_by-IsPermutation is_t (tickets q) (e.0 ∷ (us ++ keys))
    (read_tickets q.waiting q.outcomes i e lt at) in
    let whole = sum_by-cons is_t e.0 (us ++ keys) in
    let split = sum_by-append is_t us keys in
    let cut = ap (count_by (λ k. k == t))
    (map-append (λ (x : ℕ × Outcome). x.0) (take i q.outcomes) (drop (suc i) q.outcomes))
    ∙ sum_by-append is_t front back in
    not_among (λ (x : ℕ × Outcome). x.0) t (drop (suc i) q.outcomes)
    (counted (e.0 == t) (count_by (λ k. k == t) (tickets q)) (count_by (λ k. k == t) front)
    (count_by (λ k. k == t) back) (count_by (λ k. k == t) (us ++ keys))
    is (sym whole ∙ moved) (omega (arith, split, cut)) (h.once t))

pub outcome_found : (q : QueueValue) (t i : ℕ) (e : ℕ × Outcome) → position (is_of t) q.outcomes ≡ Some i
    → e ≡ get_or q.outcomes i e → outcome_of q t ≡ Some e.1
outcome_found q t i e found at =
    let first = first_that (is_of t) q.outcomes i e found at in
    ap (λ (os : List (ℕ × Outcome)). outcome_of (record { waiting = q.waiting; outcomes = os; next = q.next }) t)
    first.parts
    ∙ lookup_first t (take i q.outcomes) e (drop (suc i) q.outcomes) first.before first.passes

pub outcome_read : (q : QueueValue) (t i : ℕ) (e : ℕ × Outcome) → IsQueue q → position (is_of t) q.outcomes ≡ Some i
    → e ≡ get_or q.outcomes i e
    → record { waiting = q.waiting; outcomes = remove q.outcomes i; next = q.next } ≡ without q t
outcome_read q t i e h found at =
    let first = first_that (is_of t) q.outcomes i e found at in
    let behind = none_behind q t i e h first.within at first.passes in
    let left = ap (filter (λ x. not (is_of t x))) first.parts
    ∙ others_than t (take i q.outcomes) e (drop (suc i) q.outcomes) first.before first.passes behind in
    ap (λ (os : List (ℕ × Outcome)). record { waiting = q.waiting; outcomes = os; next = q.next }) (sym left)

pub outcome_none : (q : QueueValue) (t : ℕ) → position (is_of t) q.outcomes ≡ None → outcome_of q t ≡ None
outcome_none q t none = lookup_none t q.outcomes (none_passes (is_of t) q.outcomes none)

-- ---- cancelling

abbrev pub is_named : ℕ → Request → Bool
is_named t r = r.ticket == t

-- neither a waiting request nor an unread outcome has the ticket
record IsFree (t : ℕ) (waiting : List Request) (outcomes : List (ℕ × Outcome)) : Type 0 where
  waits : count_by (λ k. k == t) (map (λ (r : Request). r.ticket) waiting) ≡ 0
  told : count_by (λ k. k == t) (map (λ (e : ℕ × Outcome). e.0) outcomes) ≡ 0

-- the request that ended was the only one with its ticket
alone : (q : QueueValue) (others : List Request) (r : Request) (o : Outcome) (t : ℕ) → IsQueue (settled q others r o)
    → (r.ticket == t) ≡ true → IsFree t others q.outcomes
alone q others r o t h is =
    let is_t : ℕ → ℕ = λ k. cond (k == t) 1 0 in
    let us : List ℕ = map (λ (r : Request). r.ticket) others in
    let keys : List ℕ = map (λ (x : ℕ × Outcome). x.0) q.outcomes in
    let one : is_t r.ticket ≡ 1 = ap (λ (b : Bool). cond b 1 0) is in
    let last = sum_by-cons is_t r.ticket [] in
    let cut = ap (count_by (λ k. k == t)) (map-append (λ (x : ℕ × Outcome). x.0) q.outcomes ((r.ticket, o) ∷ []))
    ∙ sum_by-append is_t keys (r.ticket ∷ []) in
    let split = sum_by-append is_t us (map (λ (x : ℕ × Outcome). x.0) (q.outcomes ++ (r.ticket, o) ∷ [])) in
    let once = h.once t in
    record { waits = omega (arith, one, last, cut, split, once); told = omega (arith, one, last, cut, split, once) }

-- what a queue is once the first request of a ticket has expired
pub record IsCancelled (q : QueueValue) (t : ℕ) (new : QueueValue) : Type 0 where
  pub cancels : CancelsRequest q t new
  pub unread : outcome_of new t ≡ Some Expired
  pub gone : has_ticket t new.waiting ≡ false

pub cancelled : (q : QueueValue) (t i ticket : ℕ) (new : QueueValue) → IsQueue q
    → position (is_named t) q.waiting ≡ Some i → Finishes q i Expired ticket new → IsCancelled q t new
cancelled q t i ticket new h found (r, is, same, left) =
    let at : r ≡ get_or q.waiting i r = sym (get_or_from_slice_get q.waiting i r r is) in
    let first = first_that (is_named t) q.waiting i r found at in
    let others : List Request = remove q.waiting i in
    let free = alone q others r Expired t (keeps_settled q i r Expired h first.within at) first.passes in
    let amount : Request → ℕ = λ (s : Request). s.amount in
    let whole = ap total_of first.parts ∙ sum_by-append amount (take i q.waiting) (r ∷ drop (suc i) q.waiting) in
    let here = sum_by-cons amount r (drop (suc i) q.waiting) in
    let rest = ap (λ (v : QueueValue). total_of v.waiting) left
    ∙ sum_by-append amount (take i q.waiting) (drop (suc i) q.waiting) in
    record {
      cancels = record {
        request = r;
        before = take i q.waiting;
        after = drop (suc i) q.waiting;
        found = first.parts;
        ticket = eqb-true r.ticket t first.passes;
        ends = left;
        total = omega (arith, whole, here, rest);
      };
      unread = ap (λ (v : QueueValue). outcome_of v t) left
          ∙ lookup_first t q.outcomes (r.ticket, Expired) []
          (not_among (λ (x : ℕ × Outcome). x.0) t q.outcomes free.told) first.passes;
      gone = ap (λ (v : QueueValue). has_ticket t v.waiting) left
          ∙ list_any_none (is_named t) others (not_among (λ (s : Request). s.ticket) t others free.waits);
    }

pub unnamed : (q : QueueValue) (t : ℕ) → position (is_named t) q.waiting ≡ None → has_ticket t q.waiting ≡ false
unnamed q t none = list_any_none (is_named t) q.waiting (none_passes (is_named t) q.waiting none)

pub total_small : (requests : List Request) → All (λ (r : Request). IsAmount r.amount) requests → length requests ≤ 32
    → total_of requests ≤ 32000000000
total_small requests amounts few =
    let each = All-weaker (λ (r : Request). IsAmount r.amount) (λ (r : Request). r.amount ≤ 1000000000)
    (λ r h. h.1) requests amounts in
    omega (arith, few, sum_by-le (λ (r : Request). r.amount) 1000000000 requests each)
