-- Look-ups in lists of entries of which at most one passes the test.
use Rattle.std.proofs.Common.{◌≡◌, ℕ, zero, suc, ◌+◌, ◌≤◌, Bool, true, false, cond, List, [], ◌∷◌, ◌++◌, take, drop}
use Rattle.std.proofs.Common.{reverse, count_by, Option, Some, None, refl, sym, ap, ◌∙◌, subst, arith, append-nil}
use Rattle.std.specs.List.{IsDistinct, AllByRecursion}
use Rattle.std.specs.Map.{lookup, keys_of}
use Rattle.std.specs.Str.{bytes_eq}
use Rattle.std.specs.Cmp.Lexicographic.{bytes_decides}
use Rattle.std.proofs.lemmas.List.{reverse-append, take-append-drop}
use Rattle.std.proofs.lemmas.List.Sums.{sum_by-cons, sum_by-append, sum_by-take-drop}
use Rattle.std.proofs.lemmas.List.Sorted.{IsPermutation-reverse, sum_by-IsPermutation}
use Rattle.command_keys.specs.Last.{newest_first}

is_off : (b : Bool) (n : ℕ) → cond b 1 0 + n ≡ 0 → b ≡ false
is_off true n e = absurd (omega arith)
is_off false n e = refl

module _ {K X : Type 0} (t : K → Bool) where
  -- how many entries pass
  abbrev pub hits : List (K × X) → ℕ
  hits es = count_by (λ e. t e.0) es

  pub hits-cons : (e : K × X) (es : List (K × X)) → hits (e ∷ es) ≡ cond (t e.0) 1 0 + hits es
  hits-cons e es = sum_by-cons (λ e. cond (t e.0) 1 0) e es

  -- where none passes, the look-up is that of the others
  skipped : (es fs : List (K × X)) → hits es ≡ 0 → lookup t (es ++ fs) ≡ lookup t fs
  skipped [] fs none = refl
  skipped (e ∷ es) fs none =
      let sum = hits-cons e es in
      let off : t e.0 ≡ false = is_off (t e.0) (hits es) (sym sum ∙ none) in
      let rest : hits es ≡ 0 = omega (arith, sum, none) in
      ap (λ (b : Bool). cond b (Some e.1) (lookup t (es ++ fs))) off ∙ skipped es fs rest

  pub found_none : (es : List (K × X)) → hits es ≡ 0 → lookup t es ≡ None
  found_none es none = sym (ap (lookup t) (append-nil es)) ∙ skipped es [] none

  by_first : (b : Bool) (x : X) (o : Option X) (n : ℕ) → (o ≡ None → n ≡ 0) → cond b (Some x) o ≡ None
      → cond b 1 0 + n ≡ 0
  by_first true x o n rest e = absurd cc
  by_first false x o n rest e = omega (arith, rest e)

  pub none_hit : (es : List (K × X)) → lookup t es ≡ None → hits es ≡ 0
  none_hit [] none = refl
  none_hit (e ∷ es) none = hits-cons e es ∙ by_first (t e.0) e.1 (lookup t es) (hits es) (none_hit es) none

  last_none : (es fs : List (K × X)) → hits fs ≡ 0 → lookup t (es ++ fs) ≡ lookup t es
  last_none [] fs none = found_none fs none
  last_none (e ∷ es) fs none = ap (cond (t e.0) (Some e.1)) (last_none es fs none)

  by_hits : (es fs : List (K × X)) (n : ℕ) → hits es ≡ n → n + hits fs ≤ 1 → lookup t (es ++ fs) ≡ lookup t (fs ++ es)
  by_hits es fs zero is few = skipped es fs is ∙ sym (last_none fs es is)
  by_hits es fs (suc n) is few =
      let none : hits fs ≡ 0 = omega (arith, few) in
      last_none es fs none ∙ sym (skipped fs es none)

  exchanged : (es fs : List (K × X)) → hits es + hits fs ≤ 1 → lookup t (es ++ fs) ≡ lookup t (fs ++ es)
  exchanged es fs few = by_hits es fs (hits es) refl few

  pub hits-reverse : (es : List (K × X)) → hits (reverse es) ≡ hits es
  hits-reverse es = sum_by-IsPermutation (λ e. cond (t e.0) 1 0) es (reverse es) (IsPermutation-reverse es)

  reversed : (es : List (K × X)) → hits es ≤ 1 → lookup t (reverse es) ≡ lookup t es
  reversed [] few = refl
  reversed (e ∷ es) few =
      let sum = hits-cons e es in
      let rest : hits es ≤ 1 = omega (arith, sum, few) in
      let one : hits (e ∷ []) ≡ cond (t e.0) 1 0 + 0 = hits-cons e [] in
      let both : hits (reverse es) + hits (e ∷ []) ≤ 1 = omega (arith, sum, few, one, hits-reverse es) in
      ap (lookup t) (reverse-append (e ∷ []) es) ∙ exchanged (reverse es) (e ∷ []) both
      ∙ ap (cond (t e.0) (Some e.1)) (reversed es rest)

  pub hits-turned : (es : List (K × X)) (oldest : ℕ) → hits (newest_first es oldest) ≡ hits es
  hits-turned es oldest =
      let turned : List (K × X) = drop oldest es ++ take oldest es in
      omega (
        arith,
        hits-reverse turned,
        sum_by-append (λ e. cond (t e.0) 1 0) (drop oldest es) (take oldest es),
        sum_by-take-drop (λ e. cond (t e.0) 1 0) es oldest,
      )

  -- no entry of a ring passes if none does in its order
  pub free_turned : (es : List (K × X)) (oldest : ℕ) → lookup t (newest_first es oldest) ≡ None → lookup t es ≡ None
  free_turned es oldest none =
      found_none es (sym (hits-turned es oldest) ∙ none_hit (newest_first es oldest) none)

  -- the order of a ring does not matter
  pub lookup-turned : (es : List (K × X)) (oldest : ℕ) → hits es ≤ 1 → lookup t (newest_first es oldest) ≡ lookup t es
  lookup-turned es oldest few =
      let turned : List (K × X) = drop oldest es ++ take oldest es in
      let parts = sum_by-take-drop (λ e. cond (t e.0) 1 0) es oldest in
      let whole = sum_by-append (λ e. cond (t e.0) 1 0) (drop oldest es) (take oldest es) in
      reversed turned (omega (arith, parts, whole, few))
      ∙ exchanged (drop oldest es) (take oldest es) (omega (arith, parts, few))
      ∙ ap (lookup t) (take-append-drop oldest es)

  all_off : (es : List (K × X)) → AllByRecursion (λ y. t y ≡ false) (keys_of es) → hits es ≡ 0
  all_off [] off = refl
  all_off (e ∷ es) off = hits-cons e es ∙ ap (λ (b : Bool). cond b 1 0 + hits es) off.0
      ∙ omega (arith, all_off es off.1)

-- keys of which no two are equal
module _ {X : Type 0} where
  first_or : (q : List ℕ) (e : List ℕ × X) (es : List (List ℕ × X)) (b : Bool) → bytes_eq q e.0 ≡ b
      → AllByRecursion (λ y. bytes_eq e.0 y ≡ false) (keys_of es) → hits (bytes_eq q) es ≤ 1
      → cond b 1 0 + hits (bytes_eq q) es ≤ 1
  first_or q e es false is off rest = omega (arith, rest)
  first_or q e es true is off rest =
      let same : q ≡ e.0 = (bytes_decides q e.0).0 is in
      let none : hits (bytes_eq q) es ≡ 0
      = subst (λ (k : List ℕ). hits (bytes_eq k) es ≡ 0) (sym same) (all_off (bytes_eq e.0) es off) in
      omega (arith, none)

  pub distinct_once : (q : List ℕ) (es : List (List ℕ × X)) → IsDistinct bytes_eq (keys_of es)
      → hits (bytes_eq q) es ≤ 1
  unfolding IsDistinct
  distinct_once q [] apart = omega arith
  distinct_once q (e ∷ es) apart = subst (λ (n : ℕ). n ≤ 1)
      (sym (hits-cons (bytes_eq q) e es))
      (first_or q e es (bytes_eq q e.0) refl apart.0 (distinct_once q es apart.1))
