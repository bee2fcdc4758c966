-- The spends that wait under keys, but not in the queue.
use Rattle.std.proofs.Common.{◌≡◌, ℕ, ◌+◌, ◌<◌, Bool, true, false, cond, List, length, get_or, Option, Some, None, position}
use Rattle.std.proofs.Common.{refl, sym, ap, ◌∙◌, subst, arith}
use Rattle.std.specs.Prelude.{◌==◌, not, nat_lt, slice_get, find, option_map, MatchOption}
use Rattle.std.specs.List.{All, position_or_len}
use Rattle.std.proofs.lemmas.Bool.{ltb-false, lt-ltb}
use Rattle.std.proofs.lemmas.Option.{get_or_from_slice_get, slice_get_within}
use Rattle.std.proofs.lemmas.List.Folds.{find_at}
use Rattle.std.proofs.lemmas.List.Edits.{length-remove}
use Rattle.std.proofs.lemmas.List.Quantifiers.{position-Some}
use Rattle.std.proofs.lemmas.List.Sums.{fails_before_first}
use Rattle.request_queue.specs.declared.request.Request.{Request}
use Rattle.command_keys.specs.Keys.{KeysValue, has_ticket, key_of, place_of, Serves, ServesAt, ExpiresAt, ExpiresGone}
use Rattle.command_keys.specs.declared.outcome.Waiting.{Waiting}

not_true : (b : Bool) → not b ≡ true → b ≡ false
not_true true e = absurd cc
not_true false e = refl

pub one_gone : (requests : List Request) (shown : List Waiting) (k : KeysValue) (i : ℕ) (new : KeysValue)
    → shown ≡ k.waiting → Some i ≡ position (λ (w : Waiting). not (has_ticket w.ticket requests)) shown
    → ExpiresAt k i new → ExpiresGone requests k new
one_gone requests shown k i new same found expires =
    let w : Waiting = expires.spend in
    let here : position (λ (v : Waiting). not (has_ticket v.ticket requests)) k.waiting ≡ Some i
    = ap (position (λ (v : Waiting). not (has_ticket v.ticket requests))) (sym same) ∙ sym found in
    let at : get_or k.waiting i w ≡ w = get_or_from_slice_get k.waiting i w w expires.found in
    let passes = (position-Some (λ (v : Waiting). not (has_ticket v.ticket requests)) k.waiting i w here).1 in
    record {
      place = i;
      expires = expires;
      gone = not_true (has_ticket w.ticket requests)
          (subst (λ (v : Waiting). not (has_ticket v.ticket requests) ≡ true) at passes);
    }

by_less : (b : Bool) (n : ℕ) → cond b (Some n) None ≡ None → b ≡ false
by_less true n e = absurd cc
by_less false n e = refl

not_false : (b : Bool) → not b ≡ false → b ≡ true
not_false true e = refl
not_false false e = absurd cc

pub none_gone : (requests : List Request) (shown : List Waiting) (k : KeysValue) → shown ≡ k.waiting
    → None ≡ position (λ (w : Waiting). not (has_ticket w.ticket requests)) shown
    → All (λ (w : Waiting). has_ticket w.ticket requests ≡ true) k.waiting
none_gone requests shown k same none i d low =
    let p : Waiting → Bool = λ w. not (has_ticket w.ticket requests) in
    let n = position_or_len p k.waiting in
    let here : position p k.waiting ≡ None = ap (position p) (sym same) ∙ sym none in
    let off : nat_lt n (length k.waiting) ≡ false = by_less (nat_lt n (length k.waiting)) n here in
    let low : i < n = omega (arith, ltb-false n (length k.waiting) off, low) in
    not_false (has_ticket (get_or k.waiting i d).ticket requests) (fails_before_first p k.waiting i d low)

-- ---- a spend that was served under its key

is_found : (o : Option Waiting) (key : List ℕ) → option_map (λ (w : Waiting). w.key) o ≡ Some key
    → (w : Waiting) × (o ≡ Some w)
is_found (Some w) key h = (w, refl)
is_found None key h = absurd cc

-- where it waited
pub record ServedAt (old : KeysValue) (number amount : ℕ) (key : List ℕ) (new : KeysValue) : Type 0 where
  pub place : ℕ
  pub serves : ServesAt old place number amount new
  pub same : serves.spend.key ≡ key

found_or : {X : Type 0} → Option X → X → X
found_or (Some x) d = x
found_or None d = d

same_found : {X : Type 0} (v w : X) → Some v ≡ Some w → v ≡ w
unfolding found_or
same_found v w same = ap (λ o. found_or o v) same

pub served_at : (old new : KeysValue) (ticket number amount : ℕ) (key : List ℕ) → key_of ticket old.waiting ≡ Some key
    → Serves old ticket number amount new → ServedAt old number amount key new
served_at old new ticket number amount key has serves =
    let p : Waiting → Bool = λ w. w.ticket == ticket in
    let i = position_or_len p old.waiting in
    let found = is_found (find p old.waiting) key has in
    let at : slice_get old.waiting i ≡ Some found.0 = sym (find_at p old.waiting) ∙ found.1 in
    let within : i < length old.waiting = slice_get_within old.waiting i found.0 at in
    let placed : place_of ticket old.waiting ≡ Some i
    = ap (λ (b : Bool). cond b (Some i) None) (lt-ltb i (length old.waiting) within) in
    let s : ServesAt old i number amount new
    = subst (λ (o : Option ℕ). MatchOption o (new ≡ old) (λ place. ServesAt old place number amount new)) placed serves in
    let named : Some found.0.key ≡ Some key
    = ap (option_map (λ (w : Waiting). w.key)) (sym found.1) ∙ has in
    record {
      place = i;
      serves = s;
      same = ap (λ (w : Waiting). w.key) (same_found s.spend found.0 (sym s.found ∙ at))
          ∙ same_found found.0.key key named;
    }

pub served_fewer : (old new : KeysValue) (ticket number amount : ℕ) (key : List ℕ) → Some key ≡ key_of ticket old.waiting
    → Serves old ticket number amount new → length new.waiting + 1 ≡ length old.waiting
served_fewer old new ticket number amount key has serves =
    let p : Waiting → Bool = λ w. w.ticket == ticket in
    let i = position_or_len p old.waiting in
    let found = is_found (find p old.waiting) key (sym has) in
    let at : slice_get old.waiting i ≡ Some found.0 = sym (find_at p old.waiting) ∙ found.1 in
    let within : i < length old.waiting = slice_get_within old.waiting i found.0 at in
    let placed : place_of ticket old.waiting ≡ Some i
    = ap (λ (b : Bool). cond b (Some i) None) (lt-ltb i (length old.waiting) within) in
    let s : ServesAt old i number amount new
    = subst (λ (o : Option ℕ). MatchOption o (new ≡ old) (λ place. ServesAt old place number amount new)) placed serves in
    omega (arith, ap (λ (ws : List Waiting). length ws) s.others, length-remove old.waiting i within)
