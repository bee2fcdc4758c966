-- Each change preserves a queue's limits.
use Rattle.std.proofs.Common.{◌≡◌, ℕ, suc, ◌+◌, ◌<◌, ◌≤◌, Bool, true, false, cond, ◌==◌, List, [], ◌∷◌, ◌++◌, length}
use Rattle.std.proofs.Common.{get_or, take, drop, remove, map, All, count_by, refl, sym, ap, ◌∙◌, subst, arith}
use Rattle.std.specs.List.Sorted.{IsPermutation}
use Rattle.std.proofs.lemmas.Bool.{eqb-true, ne_eqb}
use Rattle.std.proofs.lemmas.List.{append_assoc, map-append, length-append}
use Rattle.std.proofs.lemmas.List.Edits.{length-remove}
use Rattle.std.proofs.lemmas.List.Elements.{All-append, All-cons, All-head, All-tail, All-push, All-take, All-drop}
use Rattle.std.proofs.lemmas.List.Elements.{All-weaker}
use Rattle.std.proofs.lemmas.List.Sorted.{IsPermutation-sym, IsPermutation-trans, IsPermutation-map}
use Rattle.std.proofs.lemmas.List.Sorted.{IsPermutation-middle, IsPermutation-to_front, IsPermutation-append_left}
use Rattle.std.proofs.lemmas.List.Sorted.{IsPermutation-append_right, IsPermutation-remove, All-permutation}
use Rattle.std.proofs.lemmas.List.Sorted.{sum_by-IsPermutation}
use Rattle.std.proofs.lemmas.List.Sums.{sum_by-cons}
use Rattle.rights_types.specs.Ranges.{IsAmount}
use Rattle.request_queue.specs.Queues.{QueueValue, used, with_request, settled, tickets, IsQueue}
use Rattle.request_queue.specs.declared.request.Request.{Request}
use Rattle.request_queue.specs.declared.request.Outcome.{Outcome}

abbrev ticket_of : Request → ℕ
ticket_of r = r.ticket

abbrev key_of : ℕ × Outcome → ℕ
key_of e = e.0

-- no ticket occurs twice
abbrev IsOnce : List ℕ → Type 0
IsOnce ts = (t : ℕ) → count_by (λ k. k == t) ts ≤ 1

once_permuted : (ts us : List ℕ) → IsPermutation ts us → IsOnce ts → IsOnce us
once_permuted ts us moved once t = omega (arith, sum_by-IsPermutation (λ k. cond (k == t) 1 0) ts us moved, once t)

once_rest : (t : ℕ) (ts : List ℕ) → IsOnce (t ∷ ts) → IsOnce ts
once_rest t ts once u = omega (arith, sum_by-cons (λ k. cond (k == u) 1 0) t ts, once u)

-- the next ticket was not given before
not_given : (n : ℕ) (ts : List ℕ) → All (λ t. (1 ≤ t) × (t < n)) ts → count_by (λ k. k == n) ts ≡ 0
not_given n [] given = refl
not_given n (t ∷ ts) given =
    let here = All-head (λ t. (1 ≤ t) × (t < n)) t ts given in
    let other : (t == n) ≡ false = ne_eqb t n (λ e. omega (arith, e, here.1)) in
    sum_by-cons (λ k. cond (k == n) 1 0) t ts
    ∙ ap (λ (b : Bool). cond b 1 0 + count_by (λ k. k == n) ts) other
    ∙ ap (λ (m : ℕ). 0 + m) (not_given n ts (All-tail (λ t. (1 ≤ t) × (t < n)) t ts given))

at_most_one : (b : Bool) (n : ℕ) → n ≤ 1 → (b ≡ true → n ≡ 0) → cond b 1 0 + n ≤ 1
at_most_one true n le none = omega (arith, none refl)
at_most_one false n le none = omega arith

once_next : (n : ℕ) (ts : List ℕ) → All (λ t. (1 ≤ t) × (t < n)) ts → IsOnce ts → IsOnce (n ∷ ts)
once_next n ts given once t =
    let none : (n == t) ≡ true → count_by (λ k. k == t) ts ≡ 0
    = λ e. subst (λ (m : ℕ). count_by (λ k. k == m) ts ≡ 0) (eqb-true n t e) (not_given n ts given) in
    subst (λ (m : ℕ). m ≤ 1) (sym (sum_by-cons (λ k. cond (k == t) 1 0) n ts))
    (at_most_one (n == t) (count_by (λ k. k == t) ts) (once t) none)

put_tickets : (ws : List Request) (os : List (ℕ × Outcome)) (r : Request)
    → IsPermutation (r.ticket ∷ (map ticket_of ws ++ map key_of os)) (map ticket_of (ws ++ r ∷ []) ++ map key_of os)
put_tickets ws os r =
    let us : List ℕ = map ticket_of ws in
    let keys : List ℕ = map key_of os in
    let same : us ++ r.ticket ∷ keys ≡ map ticket_of (ws ++ r ∷ []) ++ keys
    = sym (append_assoc us (r.ticket ∷ []) keys)
    ∙ ap (λ (xs : List ℕ). xs ++ keys) (sym (map-append ticket_of ws (r ∷ []))) in
    subst (λ (xs : List ℕ). IsPermutation (r.ticket ∷ (us ++ keys)) xs) same
    (IsPermutation-sym (us ++ r.ticket ∷ keys) (r.ticket ∷ (us ++ keys)) (IsPermutation-middle us r.ticket keys))

settled_tickets : (ws : List Request) (os : List (ℕ × Outcome)) (i : ℕ) (r : Request) (o : Outcome) → i < length ws
    → r ≡ get_or ws i r
    → IsPermutation (map ticket_of ws ++ map key_of os)
    (map ticket_of (remove ws i) ++ map key_of (os ++ (r.ticket, o) ∷ []))
settled_tickets ws os i r o lt at =
    let us : List ℕ = map ticket_of (remove ws i) in
    let keys : List ℕ = map key_of os in
    let taken : IsPermutation (map ticket_of ws ++ keys) ((r.ticket ∷ us) ++ keys)
    = IsPermutation-append_left keys (map ticket_of ws) (r.ticket ∷ us)
    (IsPermutation-map ticket_of ws (r ∷ remove ws i) (IsPermutation-remove ws i r lt at)) in
    let moved : IsPermutation (r.ticket ∷ (us ++ keys)) ((us ++ keys) ++ r.ticket ∷ [])
    = IsPermutation-sym ((us ++ keys) ++ r.ticket ∷ []) (r.ticket ∷ (us ++ keys))
    (IsPermutation-to_front (us ++ keys) r.ticket) in
    let same : (us ++ keys) ++ r.ticket ∷ [] ≡ us ++ map key_of (os ++ (r.ticket, o) ∷ [])
    = append_assoc us keys (r.ticket ∷ [])
    ∙ ap (λ (xs : List ℕ). us ++ xs) (sym (map-append key_of os ((r.ticket, o) ∷ []))) in
    subst (λ (xs : List ℕ). IsPermutation (map ticket_of ws ++ keys) xs) same
    (IsPermutation-trans (map ticket_of ws ++ keys) (r.ticket ∷ (us ++ keys))
    ((us ++ keys) ++ r.ticket ∷ []) taken moved)

pub read_tickets : (ws : List Request) (os : List (ℕ × Outcome)) (i : ℕ) (e : ℕ × Outcome) → i < length os
    → e ≡ get_or os i e
    → IsPermutation (map ticket_of ws ++ map key_of os) (e.0 ∷ (map ticket_of ws ++ map key_of (remove os i)))
read_tickets ws os i e lt at =
    let us : List ℕ = map ticket_of ws in
    let keys : List ℕ = map key_of (remove os i) in
    let taken : IsPermutation (us ++ map key_of os) (us ++ e.0 ∷ keys)
    = IsPermutation-append_right us (map key_of os) (e.0 ∷ keys)
    (IsPermutation-map key_of os (e ∷ remove os i) (IsPermutation-remove os i e lt at)) in
    IsPermutation-trans (us ++ map key_of os) (us ++ e.0 ∷ keys) (e.0 ∷ (us ++ keys)) taken
    (IsPermutation-middle us e.0 keys)

pub keeps_put : (q : QueueValue) (amount deadline : ℕ) → IsQueue q → IsAmount amount → used q ≤ 31
    → q.next ≤ 1000000000000000000 → IsQueue (with_request q amount deadline)
keeps_put q amount deadline h good room last =
    let r : Request = record { ticket = q.next; amount = amount; deadline = deadline } in
    let moved = put_tickets q.waiting q.outcomes r in
    let IsGiven : ℕ → Type 0 = λ t. (1 ≤ t) × (t < q.next + 1) in
    record {
      slots = omega (arith, room, length-append q.waiting (r ∷ []));
      amounts = All-push (λ (s : Request). IsAmount s.amount) q.waiting r h.amounts good;
      first = omega (arith, h.first);
      last = omega (arith, last);
      given = All-permutation IsGiven (q.next ∷ tickets q) _ moved
          (All-cons IsGiven q.next (tickets q) (h.first, omega arith)
          (All-weaker (λ t. (1 ≤ t) × (t < q.next)) IsGiven (λ t p. (p.0, omega (arith, p.1))) (tickets q) h.given));
      once = once_permuted (q.next ∷ tickets q) _ moved (once_next q.next (tickets q) h.given h.once);
    }

pub keeps_settled : (q : QueueValue) (i : ℕ) (r : Request) (o : Outcome) → IsQueue q → i < length q.waiting
    → r ≡ get_or q.waiting i r → IsQueue (settled q (remove q.waiting i) r o)
keeps_settled q i r o h lt at =
    let moved = settled_tickets q.waiting q.outcomes i r o lt at in
    let IsGood : Request → Type 0 = λ s. IsAmount s.amount in
    record {
      slots = omega (arith, h.slots, length-remove q.waiting i lt, length-append q.outcomes ((r.ticket, o) ∷ []));
      amounts = All-append IsGood (take i q.waiting) (drop (suc i) q.waiting) (All-take IsGood i q.waiting h.amounts)
          (All-drop IsGood (suc i) q.waiting h.amounts);
      first = h.first;
      last = h.last;
      given = All-permutation (λ t. (1 ≤ t) × (t < q.next)) (tickets q) _ moved h.given;
      once = once_permuted (tickets q) _ moved h.once;
    }

pub keeps_read : (q : QueueValue) (i : ℕ) (e : ℕ × Outcome) → IsQueue q → i < length q.outcomes
    → e ≡ get_or q.outcomes i e
    → IsQueue (record { waiting = q.waiting; outcomes = remove q.outcomes i; next = q.next })
keeps_read q i e h lt at =
    let moved = read_tickets q.waiting q.outcomes i e lt at in
    let rest : List ℕ = map ticket_of q.waiting ++ map key_of (remove q.outcomes i) in
    let IsGiven : ℕ → Type 0 = λ t. (1 ≤ t) × (t < q.next) in
    record {
      slots = omega (arith, h.slots, length-remove q.outcomes i lt);
      amounts = h.amounts;
      first = h.first;
      last = h.last;
      given = All-tail IsGiven e.0 rest (All-permutation IsGiven (tickets q) (e.0 ∷ rest) moved h.given);
      once = once_rest e.0 rest (once_permuted (tickets q) (e.0 ∷ rest) moved h.once);
    }
