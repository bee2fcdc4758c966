-- No key occurs twice, whatever is remembered, served or expired.
use Rattle.std.proofs.Common.{◌≡◌, ℕ, ◌+◌, ◌<◌, ◌≤◌, Bool, true, false, cond, List, [], ◌∷◌, ◌++◌, length, get_or}
use Rattle.std.proofs.Common.{remove, count_by, Option, Some, None, refl, sym, ap, ◌∙◌, subst, arith}
use Rattle.std.specs.Prelude.{◌==◌, find, position}
use Rattle.std.specs.Map.{lookup}
use Rattle.std.specs.Str.{bytes_eq}
use Rattle.std.specs.Cmp.Lexicographic.{bytes_decides, nat_list_eq_equiv}
use Rattle.std.proofs.lemmas.List.Sums.{sum_by-cons, sum_by_push, sum_by-take-le, sum_by-remove, get_or-le-sum_by}
use Rattle.std.proofs.lemmas.List.Quantifiers.{position-Some}
use Rattle.command_keys.specs.Last.{LastValue, newest_of, without}
use Rattle.command_keys.specs.Keys.{KeysValue, outcome_by, outcome_of, times, serving, ending, IsKeys, place_of}
use Rattle.command_keys.specs.declared.outcome.Waiting.{Waiting}
use Rattle.command_keys.specs.declared.outcome.Written.{Written}
use Rattle.command_keys.specs.declared.outcome.Ended.{Ended}
use Rattle.command_keys.proofs.Lookups.{hits, hits-cons, none_hit, found_none}
use Rattle.command_keys.proofs.Distinct.{put_once}

abbrev pub one_if : Bool → ℕ
one_if b = cond b 1 0

-- how many spends wait under this key
abbrev pub waits : List ℕ → List Waiting → ℕ
waits q ws = count_by (λ (w : Waiting). bytes_eq q w.key) ws

-- putting a key adds at most that key
pub hits-put : {V : Type 0} (q : List ℕ) (cap : ℕ) (e : List ℕ × V) (es : List (List ℕ × V))
    → hits (bytes_eq q) (newest_of cap (e ∷ es)) ≤ one_if (bytes_eq q e.0) + hits (bytes_eq q) es
hits-put {V} q cap e es =
    omega (
      arith,
      sum_by-take-le (λ (f : List ℕ × V). one_if (bytes_eq q f.0)) (e ∷ es) cap,
      hits-cons (bytes_eq q) e es,
    )

-- ---- a free key does not occur

record IsFree (written : Option Written) (waits : Option Waiting) (expired : Option Ended) : Type 0 where
  unwritten : written ≡ None
  not_waiting : waits ≡ None
  unexpired : expired ≡ None

free_by : (a : Option Written) (b : Option Waiting) (c : Option Ended) → outcome_by a b c ≡ None → IsFree a b c
free_by (Some entry) b c h = absurd cc
free_by None (Some w) c h = absurd cc
free_by None None (Some ended) h = absurd cc
free_by None None None h = record { unwritten = refl; not_waiting = refl; unexpired = refl }

by_first : (b : Bool) (w : Waiting) (o : Option Waiting) (n : ℕ) → (o ≡ None → n ≡ 0) → cond b (Some w) o ≡ None
    → one_if b + n ≡ 0
by_first true w o n rest e = absurd cc
by_first false w o n rest e = omega (arith, rest e)

none_waits : (q : List ℕ) (ws : List Waiting) → find (λ (w : Waiting). bytes_eq q w.key) ws ≡ None → waits q ws ≡ 0
none_waits q [] none = refl
none_waits q (w ∷ ws) none =
    sum_by-cons (λ (v : Waiting). one_if (bytes_eq q v.key)) w ws
    ∙ by_first (bytes_eq q w.key) w (find (λ (v : Waiting). bytes_eq q v.key) ws) (waits q ws) (none_waits q ws) none

pub free_times : (k : KeysValue) (key : List ℕ) → outcome_of k key ≡ None
    → times k.written k.waiting k.expired key ≡ 0
free_times k key free =
    let is = free_by (lookup (bytes_eq key) k.written) (find (λ (w : Waiting). bytes_eq key w.key) k.waiting)
    (lookup (bytes_eq key) k.expired) free in
    omega (
      arith,
      none_hit (bytes_eq key) k.written is.unwritten,
      none_waits key k.waiting is.not_waiting,
      none_hit (bytes_eq key) k.expired is.unexpired,
    )

pub free_unwritten : (k : KeysValue) (key : List ℕ) → outcome_of k key ≡ None → lookup (bytes_eq key) k.written ≡ None
free_unwritten k key free =
    (free_by (lookup (bytes_eq key) k.written) (find (λ (w : Waiting). bytes_eq key w.key) k.waiting)
    (lookup (bytes_eq key) k.expired) free).unwritten

-- with a key that did not occur, none occurs twice
one_more : (q key : List ℕ) (n : ℕ) (b : Bool) → bytes_eq q key ≡ b → (q ≡ key → n ≡ 0) → n ≤ 1 → one_if b + n ≤ 1
one_more q key n false is none once = omega (arith, once)
one_more q key n true is none once = omega (arith, none ((bytes_decides q key).0 is))

pub once_more : (k : KeysValue) (key q : List ℕ) → outcome_of k key ≡ None
    → ((r : List ℕ) → times k.written k.waiting k.expired r ≤ 1)
    → one_if (bytes_eq q key) + times k.written k.waiting k.expired q ≤ 1
once_more k key q free once =
    one_more q key (times k.written k.waiting k.expired q) (bytes_eq q key) refl
    (λ same. subst (λ (r : List ℕ). times k.written k.waiting k.expired r ≡ 0) (sym same) (free_times k key free))
    (once q)

pub once_remembered : (k : KeysValue) (key : List ℕ) (entry : Written) → outcome_of k key ≡ None
    → ((r : List ℕ) → times k.written k.waiting k.expired r ≤ 1)
    → (q : List ℕ) → times (newest_of k.cap ((key, entry) ∷ k.written)) k.waiting k.expired q ≤ 1
once_remembered k key entry free once q =
    omega (arith, hits-put q k.cap (key, entry) k.written, once_more k key q free once)

-- a key whose older entry was forgotten, where no spend waits or expired
pub once_renewed : (cap : ℕ) (e : List ℕ × Written) (es : List (List ℕ × Written)) → ((r : List ℕ) → hits (bytes_eq r) es ≤ 1)
    → (q : List ℕ) → times (newest_of cap (e ∷ without e.0 es)) [] [] q ≤ 1
once_renewed cap e es once q =
    omega (
      arith,
      sum_by-take-le (λ (f : List ℕ × Written). one_if (bytes_eq q f.0)) (e ∷ without e.0 es) cap,
      put_once q e es (once q),
    )

pub once_replayed : (k : KeysValue) (key : List ℕ) (entry : Written)
    → ((r : List ℕ) → times k.written k.waiting k.expired r ≤ 1)
    → (q : List ℕ) → times (newest_of k.cap ((key, entry) ∷ without key k.written)) [] [] q ≤ 1
once_replayed k key entry once q =
    once_renewed k.cap (key, entry) k.written (λ r. omega (arith, once r)) q

pub once_waiting : (k : KeysValue) (w : Waiting) → outcome_of k w.key ≡ None
    → ((r : List ℕ) → times k.written k.waiting k.expired r ≤ 1)
    → (q : List ℕ) → times k.written (k.waiting ++ w ∷ []) k.expired q ≤ 1
once_waiting k w free once q =
    omega (
      arith,
      sum_by_push (λ (v : Waiting). one_if (bytes_eq q v.key)) k.waiting w,
      once_more k w.key q free once,
    )

-- ---- a spend that waits

module _ (ws : List Waiting) (i : ℕ) (w : Waiting) (within : i < length ws) (at : w ≡ get_or ws i w) where
  -- its key occurs among those that wait
  waits_here : 1 ≤ waits w.key ws
  waits_here =
      let here : one_if (bytes_eq w.key (get_or ws i w).key) ≤ waits w.key ws
      = get_or-le-sum_by (λ (v : Waiting). one_if (bytes_eq w.key v.key)) ws i w within in
      let same : bytes_eq w.key (get_or ws i w).key ≡ true
      = ap (λ (v : Waiting). bytes_eq w.key v.key) (sym at) ∙ nat_list_eq_equiv.refl w.key in
      subst (λ (b : Bool). one_if b ≤ waits w.key ws) same here

  -- .. and nowhere else
  pub written_free : (es : List (List ℕ × Written)) (fs : List (List ℕ × Ended)) → times es ws fs w.key ≤ 1 → lookup (bytes_eq w.key) es ≡ None
  written_free es fs once = found_none (bytes_eq w.key) es (omega (arith, waits_here, once))

  pub expired_free : (es : List (List ℕ × Written)) (fs : List (List ℕ × Ended)) → times es ws fs w.key ≤ 1 → lookup (bytes_eq w.key) fs ≡ None
  expired_free es fs once = found_none (bytes_eq w.key) fs (omega (arith, waits_here, once))

  waits_left : (q : List ℕ) → waits q (remove ws i) + one_if (bytes_eq q w.key) ≡ waits q ws
  waits_left q = ap (λ (v : Waiting). waits q (remove ws i) + one_if (bytes_eq q v.key)) at
      ∙ sum_by-remove (λ (v : Waiting). one_if (bytes_eq q v.key)) ws i w within

  pub once_served : (cap number amount : ℕ) (es : List (List ℕ × Written)) (fs : List (List ℕ × Ended)) → ((r : List ℕ) → times es ws fs r ≤ 1)
      → (q : List ℕ) → times (newest_of cap ((w.key, serving w number amount) ∷ es)) (remove ws i) fs q ≤ 1
  once_served cap number amount es fs once q =
      omega (arith, hits-put q cap (w.key, serving w number amount) es, waits_left q, once q)

  pub once_expired : (cap : ℕ) (es : List (List ℕ × Written)) (fs : List (List ℕ × Ended)) → ((r : List ℕ) → times es ws fs r ≤ 1)
      → (q : List ℕ) → times es (remove ws i) (newest_of cap ((w.key, ending w) ∷ fs)) q ≤ 1
  once_expired cap es fs once q =
      omega (arith, hits-put q cap (w.key, ending w) fs, waits_left q, once q)

-- ---- calls

-- keys with more room
pub grown : (w v : LastValue Written) (ws : List Waiting) (e f : LastValue Ended) → v.entries ≡ w.entries → w.spare ≤ v.spare
    → f.entries ≡ e.entries → e.spare ≤ f.spare → f.cap ≡ e.cap → IsKeys w ws e → IsKeys v ws f
grown w v ws e f same_written more_written same_expired more_expired cap is = record {
  once = rw (same_written, same_expired) is.once;
  may_write = omega (arith, is.may_write, more_written);
  may_expire = omega (arith, is.may_expire, more_expired);
  cap = cap ∙ is.cap;
}

-- the place that was found in an equal list is in this one
pub place_found : (ticket : ℕ) (shown ws : List Waiting) (i : ℕ) (w : Waiting) → shown ≡ ws
    → Some i ≡ position (λ (w : Waiting). w.ticket == ticket) shown → (place_of ticket ws ≡ Some i) × (i < length ws)
place_found ticket shown ws i w same found =
    let here : place_of ticket ws ≡ Some i = ap (place_of ticket) (sym same) ∙ sym found in
    (here, (position-Some (λ (v : Waiting). v.ticket == ticket) ws i w here).0)
