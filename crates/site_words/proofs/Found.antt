-- What clap's getters say of the values that it found.
use Rattle.std.proofs.Common.{◌≡◌, ◌∙◌, ◌<◌, ◌^◌, ℕ, Bool, true, false, List, Option, Some, None, Result, Ok, Err}
use Rattle.std.proofs.Common.{refl, sym, subst, ap}
use Rattle.std.specs.Prelude.{IfSome, MatchOption, MatchResult}
use Rattle.std.specs.Option.{ok_or}
use Rattle.std.specs.Str.Parse.{IsNumeral, ParsesBool, ParsesUnsigned, digits_value, without_leading_plus}
use Rattle.clap.specs.Matches.{ReadsOne, TriesOne, one_text}
use Rattle.clap.specs.Walk.{Text, rows_of}
use Rattle.clap.specs.declared.parser.matches.Found.{Found}
use Rattle.clap.proofs.WalkLemmas.{one_text-rows}
use Rattle.site_words.specs.Settings.{HasFlag, HasNumber, MayHaveNumber}
use Rattle.site_words.specs.declared.words.WordsFault.TheVariants.{Refused}

abbrev pub MayFind : {E : Type 0} → Found → Text → Result (Option ℕ) E → Type 0
MayFind f option r = MatchResult r (MayHaveNumber (rows_of f) option)
    (λ _. (n : Option ℕ) → IfSome n (λ m. m < 2 ^ 64) → MayHaveNumber (rows_of f) option n → ⊥)

module _ {E : Type 0} (G : List ℕ → Result ℕ E → Type 0) (reads : (u : List ℕ) (x : Result ℕ E) → G u x
    → ParsesUnsigned 64 10 u x)
    (f : Found) (option : Text) where
  abbrev pub Finds : Option ℕ → Type 0
  Finds r = MatchOption r ((n : ℕ) → n < 2 ^ 64 → HasNumber (rows_of f) option n → ⊥) (HasNumber (rows_of f) option)

  read_of : (t : Text) (r : Option ℕ) → one_text f option ≡ Some t → ReadsOne G t r → Finds r
  read_of t (Some n) is read =
      let parsed = reads t (Ok n) read in (t, sym (one_text-rows f option) ∙ is, parsed.0.0, parsed.1)
  read_of t None is read = λ n small has.
      let same : has.0 ≡ t = some_same (sym has.1 ∙ sym (one_text-rows f option) ∙ is) in
      reads t (Err read.0) read.1 (
        subst (λ u. IsNumeral 10 (without_leading_plus u)) same has.2,
        subst (λ u. digits_value 10 (without_leading_plus u) < 2 ^ 64) same (subst (λ m. m < 2 ^ 64) has.3 small),
      )
    where
      some_same : {x y : Text} → Some x ≡ Some y → x ≡ y
      some_same e = cc

  -- the result of `get_one` is the number that clap found, if it found one
  number_found : (r : Option ℕ) → (one_text f option ≡ None → r ≡ None)
      → ((t : Text) → one_text f option ≡ Some t → ReadsOne G t r) → Finds r
  number_found r none value = go (one_text f option) refl
    where
      differ : {x : Text} → Some x ≡ None → ⊥
      differ e = cc

      go : (o : Option Text) → one_text f option ≡ o → Finds r
      go None is = subst Finds (sym (none is)) (λ n small has. differ (sym has.1 ∙ sym (one_text-rows f option) ∙ is))
      go (Some t) is = read_of t r is (value t is)

  -- the same, if lack of one refuses the words
  pub number_or_refused : (r : Option ℕ) → (one_text f option ≡ None → r ≡ None)
      → ((t : Text) → one_text f option ≡ Some t → ReadsOne G t r)
      → MatchResult (ok_or r Refused) (HasNumber (rows_of f) option)
      (λ fault. (fault ≡ Refused) × ((n : ℕ) → n < 2 ^ 64 → HasNumber (rows_of f) option n → ⊥))
  number_or_refused r none value = go r (number_found r none value)
    where
      go : (r : Option ℕ) → Finds r → MatchResult (ok_or r Refused) (HasNumber (rows_of f) option)
          (λ fault. (fault ≡ Refused) × ((n : ℕ) → n < 2 ^ 64 → HasNumber (rows_of f) option n → ⊥))
      go (Some n) h = h
      go None h = (refl, h)

  -- the result of `try_get_one` is the number that clap found, or none if it found none
  tried_text : (t : Text) (r : Result (Option ℕ) E) → one_text f option ≡ Some t → TriesOne G t r → MayFind f option r
  tried_text t (Ok (Some n)) is tries = read_of t (Some n) is tries
  tried_text t (Ok None) is tries = absurd tries
  tried_text t (Err e) is tries = λ o small has. go o small has
    where
      differ : {x : Text} → Some x ≡ None → ⊥
      differ e = cc

      go : (o : Option ℕ) → IfSome o (λ m. m < 2 ^ 64) → MayHaveNumber (rows_of f) option o → ⊥
      go None small has = differ (sym is ∙ one_text-rows f option ∙ has)
      go (Some n) small has = read_of t None is (e, tries) n small has

  pub number_or_none : (r : Result (Option ℕ) E) → (one_text f option ≡ None → r ≡ Ok None)
      → ((t : Text) → one_text f option ≡ Some t → TriesOne G t r) → MayFind f option r
  number_or_none r none value = go (one_text f option) refl
    where
      go : (o : Option Text) → one_text f option ≡ o → MayFind f option r
      go None is = subst (MayFind f option) (sym (none is)) (sym (one_text-rows f option) ∙ is)
      go (Some t) is = tried_text t r is (value t is)

-- the same for a flag
abbrev FindsFlag : Found → Text → Option Bool → Type 0
FindsFlag f flag r = MatchOption r ((set : Bool) → HasFlag (rows_of f) flag set → ⊥) (HasFlag (rows_of f) flag)

module _ (E : Type 0) (f : Found) (flag : Text) where
  read_flag : (t : Text) (r : Option Bool) → one_text f flag ≡ Some t → ReadsOne {E = E} ParsesBool t r
      → FindsFlag f flag r
  read_flag t (Some true) is read = sym (one_text-rows f flag) ∙ is ∙ ap Some read
  read_flag t (Some false) is read = sym (one_text-rows f flag) ∙ is ∙ ap Some read
  read_flag t None is read = go
    where
      some_same : {x y : Text} → Some x ≡ Some y → x ≡ y
      some_same e = cc

      go : (set : Bool) → HasFlag (rows_of f) flag set → ⊥
      go true has = read.1.0 (some_same (sym is ∙ one_text-rows f flag ∙ has))
      go false has = read.1.1 (some_same (sym is ∙ one_text-rows f flag ∙ has))

  flag_found : (r : Option Bool) → (one_text f flag ≡ None → r ≡ None)
      → ((t : Text) → one_text f flag ≡ Some t → ReadsOne {E = E} ParsesBool t r) → FindsFlag f flag r
  flag_found r none value = go (one_text f flag) refl
    where
      differ : {x : Text} → Some x ≡ None → ⊥
      differ e = cc

      go : (o : Option Text) → one_text f flag ≡ o → FindsFlag f flag r
      go None is = subst (FindsFlag f flag) (sym (none is)) (λ set has. differ (sym has
          ∙ sym (one_text-rows f flag) ∙ is))
      go (Some t) is = read_flag t r is (value t is)

  pub flag_or_refused : (r : Option Bool) → (one_text f flag ≡ None → r ≡ None)
      → ((t : Text) → one_text f flag ≡ Some t → ReadsOne {E = E} ParsesBool t r)
      → MatchResult (ok_or r Refused) (HasFlag (rows_of f) flag)
      (λ fault. (fault ≡ Refused) × ((set : Bool) → HasFlag (rows_of f) flag set → ⊥))
  flag_or_refused r none value = go r (flag_found r none value)
    where
      go : (r : Option Bool) → FindsFlag f flag r → MatchResult (ok_or r Refused) (HasFlag (rows_of f) flag)
          (λ fault. (fault ≡ Refused) × ((set : Bool) → HasFlag (rows_of f) flag set → ⊥))
      go (Some set) h = h
      go None h = (refl, h)
