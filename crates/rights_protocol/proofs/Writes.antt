-- The entries that a site writes: ordinary ones, those that reclaim, and closing ones.
use Rattle.std.proofs.Common.{◌≡◌, ◌≢◌, ℕ, ◌≤◌, inl, inr, true, false, eqb, List, [], ◌∷◌, ◌++◌, Option, Some, None}
use Rattle.std.proofs.Common.{arith, refl, sym, subst}
use Rattle.std.specs.Prelude.{IfSome}
use Rattle.std.specs.List.{All, list_any}
use Rattle.std.proofs.lemmas.Bool.{cases_eq, eq-eqb, ne_eqb, both_ways}
use Rattle.std.proofs.lemmas.List.Elements.{All-nil, All-cons, All-head, All-tail}
use Rattle.rights_types.specs.Ranges.{IsSite}
use Rattle.rights_types.specs.Entries.{EntryValue, IsEntry}
use Rattle.rights_types.specs.Chains.{end, is_closed, IsChain, moves_of}
use Rattle.rights_types.specs.Moves.{IsMove, NamesWithin, is_close, lacks_own_place, closes_early}
use Rattle.rights_types.specs.Rights.{to, received, held, covers, rights_after}
use Rattle.rights_types.specs.declared.moves.Move.{Move}
use Rattle.rights_types.specs.declared.moves.Move.TheVariants.{Issue, Spend, Grant, Give, Close, CloseAt, TakeBack}
use Rattle.rights_types.proofs.Sums.{nothing_to, covers_both, rights_after_is, taken_back_is}
use Rattle.rights_protocol.specs.Lists.{IsSiteOf}
use Rattle.rights_protocol.specs.Retiring.{numbers_in, frontier, own_frontier, entry_at_end, takes_from}
use Rattle.rights_protocol.specs.Writing.{is_plain, MayAppend, MayInherit, heritage, closing_moves}
use Rattle.rights_protocol.proofs.Frontiers.{has_closed}
use Rattle.rights_protocol.proofs.Numbers.{is_frontier, number_at}

-- what is known of a site before it writes
pub record Ready (n s : ℕ) (log : List EntryValue) (applied : ℕ → List EntryValue) : Type 0 where
  pub some : 2 ≤ n
  pub few : n ≤ 16
  pub site : IsSiteOf n s
  pub chain : IsChain s log
  pub unclosed : is_closed log ≡ false
  pub chains : (o : ℕ) → IsChain o (applied o)
  pub itself : applied s ≡ []
  pub within : All (NamesWithin n) (moves_of log)
  pub covered : covers (received n s applied) (moves_of log) ≡ true

-- what is known of moves that it may write in one entry
pub record Writable (n s : ℕ) (log : List EntryValue) (applied : ℕ → List EntryValue) (ms : List Move) : Type 0 where
  pub is : IsEntry (entry_at_end s log ms)
  pub named : All (NamesWithin n) ms
  pub covered : covers (rights_after (received n s applied) (moves_of log)) ms ≡ true
  -- they give nothing to a site whose frontier it applied
  pub given : (c : ℕ) (numbers : List ℕ) → frontier (applied c) ≡ Some numbers → to c ms ≡ 0

-- the rights that a site holds are what its log leaves of what it received
pub held_is : (n s : ℕ) (log : List EntryValue) (applied : ℕ → List EntryValue) → All (NamesWithin n) (moves_of log)
    → covers (received n s applied) (moves_of log) ≡ true
    → held n s log applied ≡ rights_after (received n s applied) (moves_of log)
unfolding held
held_is n s log applied within covered =
    let ms = moves_of log in
    omega (arith, rights_after_is (received n s applied) ms covered, taken_back_is n ms within)

site_of : (n s : ℕ) → n ≤ 16 → IsSiteOf n s → IsSite s
site_of n s few is = (is.0, omega (arith, is.1))

-- ---- an ordinary entry

pub record Plain (o : ℕ) (ms : List Move) : Type 0 where
  pub open_moves : list_any is_close ms ≡ false
  pub places : list_any (lacks_own_place o) ms ≡ false
  pub early : closes_early ms ≡ false
  pub taking : (c : ℕ) → list_any (takes_from c) ms ≡ false

record PlainMove (o : ℕ) (m : Move) : Type 0 where
  pub open_move : is_close m ≡ false
  pub place : lacks_own_place o m ≡ false
  pub takes : (c : ℕ) → takes_from c m ≡ false

plain_move : (o : ℕ) (m : Move) → is_plain m ≡ true → PlainMove o m
plain_move o (Issue n) h = record { open_move = refl; place = refl; takes = λ c. refl }
plain_move o (Spend n) h = record { open_move = refl; place = refl; takes = λ c. refl }
plain_move o (Grant j n a) h = record { open_move = refl; place = refl; takes = λ c. refl }
plain_move o (Give j n) h = record { open_move = refl; place = refl; takes = λ c. refl }
plain_move o Close h = absurd cc
plain_move o (CloseAt f) h = absurd cc
plain_move o (TakeBack j n) h = absurd cc

early_cons : (m : Move) (ms : List Move) → is_close m ≡ false → closes_early ms ≡ false → closes_early (m ∷ ms) ≡ false
early_cons m [] one rest = refl
early_cons m (k ∷ ms) one rest = rw one rest

pub plain_moves : (o : ℕ) (ms : List Move) → All (λ m. is_plain m ≡ true) ms → Plain o ms
plain_moves o [] h = record { open_moves = refl; places = refl; early = refl; taking = λ c. refl }
plain_moves o (m ∷ ms) h =
    let one : PlainMove o m = plain_move o m (All-head (λ x. is_plain x ≡ true) m ms h) in
    let rest : Plain o ms = plain_moves o ms (All-tail (λ x. is_plain x ≡ true) m ms h) in
    record {
      open_moves = rw one.open_move rest.open_moves;
      places = rw one.place rest.places;
      early = early_cons m ms one.open_move rest.early;
      taking = λ c. rw (one.takes c) (rest.taking c);
    }

pub append_writable : (n s : ℕ) (log : List EntryValue) (applied : ℕ → List EntryValue) (ms : List Move)
    → Ready n s log applied → MayAppend n s log applied ms → Writable n s log applied ms
append_writable n s log applied ms k may =
    let plain : Plain s ms = plain_moves s ms may.plain in
    record {
      is = record {
        origin = site_of n s k.few k.site;
        some = may.some;
        few = may.few;
        number = omega (arith, may.fits);
        places = plain.places;
        closing = plain.early;
        others = may.others;
        moves = may.moves;
      };
      named = may.within;
      covered = subst (λ r. covers r ms ≡ true) (held_is n s log applied k.within k.covered) may.holds;
      given = λ c numbers h. nothing_to c ms (may.open_peers c (has_closed (applied c) numbers h));
    }

-- ---- an entry that reclaims

pub back_gives_none : (c o n : ℕ) → to c (TakeBack o n ∷ []) ≡ 0
unfolding to
back_gives_none c o n = refl

pub back_writable : (n s o amount : ℕ) (log : List EntryValue) (applied : ℕ → List EntryValue) → Ready n s log applied
    → IsSiteOf n o → s ≢ o → 1 ≤ amount → amount ≤ 1000000000000000000
    → end log ≤ 999999999 → Writable n s log applied (TakeBack o amount ∷ [])
back_writable n s o amount log applied k from differ low high fits =
    let other : eqb o s ≡ false = ne_eqb o s (λ e. differ (sym e)) in
    record {
      is = record {
        origin = site_of n s k.few k.site;
        some = omega arith;
        few = omega arith;
        number = omega arith;
        places = refl;
        closing = refl;
        others = rw other refl;
        moves = All-cons IsMove (TakeBack o amount) [] (site_of n o k.few from, (low, high)) (All-nil IsMove);
      };
      named = All-cons (NamesWithin n) (TakeBack o amount) [] from (All-nil (NamesWithin n));
      covered = covers_both (rights_after (received n s applied) (moves_of log)) (TakeBack o amount) []
          (omega arith) refl;
      given = λ c numbers h. back_gives_none c o amount;
    }

-- ---- a closing entry

pub record Closing (n s : ℕ) (log : List EntryValue) (applied : ℕ → List EntryValue) (ms : List Move) : Type 0 where
  pub may : Writable n s log applied ms
  pub numbers : numbers_in ms ≡ Some (own_frontier n applied)
  pub none_taken : (c : ℕ) → list_any (takes_from c) ms ≡ false

own_place : (n s : ℕ) (applied : ℕ → List EntryValue) → IsSiteOf n s → applied s ≡ []
    → lacks_own_place s (CloseAt (own_frontier n applied)) ≡ false
own_place n s applied site itself = rw (number_at n s applied site, itself) refl

closing_alone : (n s : ℕ) (log : List EntryValue) (applied : ℕ → List EntryValue) → Ready n s log applied
    → end log ≤ 999999998 → Closing n s log applied (CloseAt (own_frontier n applied) ∷ [])
closing_alone n s log applied k fits =
    let f : List ℕ = own_frontier n applied in
    record {
      may = record {
        is = record {
          origin = site_of n s k.few k.site;
          some = omega arith;
          few = omega arith;
          number = omega arith;
          places = rw (own_place n s applied k.site k.itself) refl;
          closing = refl;
          others = refl;
          moves = All-cons IsMove (CloseAt f) [] (is_frontier n applied k.some k.few k.chains) (All-nil IsMove);
        };
        named = All-cons (NamesWithin n) (CloseAt f) [] tt (All-nil (NamesWithin n));
        covered = covers_both (rights_after (received n s applied) (moves_of log)) (CloseAt f) [] (omega arith) refl;
        given = λ c numbers h. nothing_to c (CloseAt f ∷ []) refl;
      };
      numbers = refl;
      none_taken = λ c. refl;
    }

closing_gift : (n s heir amount : ℕ) (log : List EntryValue) (applied : ℕ → List EntryValue) → Ready n s log applied
    → end log ≤ 999999998 → MayInherit n s log applied heir → amount ≡ held n s log applied → 1 ≤ amount
    → Closing n s log applied (Give heir amount ∷ (CloseAt (own_frontier n applied) ∷ []))
closing_gift n s heir amount log applied k fits inherit is some =
    let f : List ℕ = own_frontier n applied in
    let r : ℕ = rights_after (received n s applied) (moves_of log) in
    let gift : Move = Give heir amount in
    let all : held n s log applied ≡ r = held_is n s log applied k.within k.covered in
    let other : eqb heir s ≡ false = ne_eqb heir s (λ e. inherit.differ (sym e)) in
    record {
      may = record {
        is = record {
          origin = site_of n s k.few k.site;
          some = omega arith;
          few = omega arith;
          number = omega arith;
          places = rw (own_place n s applied k.site k.itself) refl;
          closing = refl;
          others = rw other refl;
          moves = All-cons IsMove gift (CloseAt f ∷ []) (
            site_of n heir k.few inherit.site,
            (some, omega (arith, is, inherit.amount)),
          )
              (All-cons IsMove (CloseAt f) [] (is_frontier n applied k.some k.few k.chains) (All-nil IsMove));
        };
        named = All-cons (NamesWithin n) gift (CloseAt f ∷ []) inherit.site
            (All-cons (NamesWithin n) (CloseAt f) [] tt (All-nil (NamesWithin n)));
        covered = covers_both r gift (CloseAt f ∷ []) (omega (arith, is, all))
            (covers_both _ (CloseAt f) [] (omega arith) refl);
        given = λ c numbers h. nothing_to c (gift ∷ (CloseAt f ∷ []))
            (let closed : is_closed (applied c) ≡ true = has_closed (applied c) numbers h in
            let apart : heir ≢ c = λ e. both_ways (is_closed (applied c))
            (subst (λ k. is_closed (applied k) ≡ false) e inherit.unclosed) closed in
            let no : eqb heir c ≡ false = ne_eqb heir c apart in rw no refl);
      };
      numbers = refl;
      none_taken = λ c. refl;
    }

closing_heritage : (n s heir amount : ℕ) (log : List EntryValue) (applied : ℕ → List EntryValue) → Ready n s log applied
    → end log ≤ 999999998 → MayInherit n s log applied heir → amount ≡ held n s log applied
    → Closing n s log applied (heritage heir amount ++ CloseAt (own_frontier n applied) ∷ [])
closing_heritage n s heir amount log applied k fits inherit is =
    elim (cases_eq amount 0) [
      | inl e ↦ let none : eqb amount 0 ≡ true = eq-eqb amount 0 e in rw none (closing_alone n s log applied k fits)
      | inr ne ↦ let some : eqb amount 0 ≡ false
          = ne_eqb amount 0 ne in rw some
          (closing_gift n s heir amount log applied k fits inherit is (omega (arith, ne)))
    ]

pub closing_writable : (n s : ℕ) (heir : Option ℕ) (log : List EntryValue) (applied : ℕ → List EntryValue)
    → Ready n s log applied → end log ≤ 999999998 → IfSome heir (MayInherit n s log applied)
    → Closing n s log applied (closing_moves n s log applied heir)
closing_writable n s None log applied k fits inherit = closing_alone n s log applied k fits
closing_writable n s (Some heir) log applied k fits inherit
    = closing_heritage n s heir (held n s log applied) log applied k fits inherit refl
