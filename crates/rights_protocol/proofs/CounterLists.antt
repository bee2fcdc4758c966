-- The lists of a system of sites as a Bounded Counter, from the invariant.
use Rattle.std.proofs.Common.{◌≡◌, ◌≢◌, ℕ, ◌+◌, ◌-◌, ◌≤◌, Bool, true, false, eqb, List, [], ◌∷◌, arith, refl, sym, ap}
use Rattle.std.proofs.Common.{◌∙◌, subst}
use Rattle.std.specs.List.{All, list_any}
use Rattle.std.proofs.lemmas.Bool.{eq-eqb, ne_eqb}
use Rattle.rights_types.specs.Entries.{EntryValue, own, closes}
use Rattle.rights_types.specs.Chains.{ChainFrom, moves_of}
use Rattle.rights_types.specs.Moves.{NamesWithin, names}
use Rattle.rights_types.specs.Rights.{sum_sites, issued, spent, out, to, taken_back, back, received}
use Rattle.rights_types.specs.declared.moves.Move.{Move}
use Rattle.rights_types.proofs.SiteSums.{sum_same}
use Rattle.rights_types.proofs.Sums.{moves_of-nil, to-nil, nothing_to, out_is, taken_back_is}
use Rattle.rights_protocol.specs.Lists.{Lists, IsSiteOf, received_at, held_at, on_way}
use Rattle.rights_protocol.specs.Invariant.{Invariant}
use Rattle.rights_protocol.specs.Headline.{all_issued, all_spent}
use Rattle.rights_protocol.specs.BoundedCounter.{sum_others, incoming, outgoing, local_rights, all_created, value}
use Rattle.rights_protocol.specs.BoundedCounter.{IsSafe}
use Rattle.rights_protocol.specs.CounterOfLists.{counter_of, state_of, seen, state_at}
use Rattle.rights_protocol.specs.CounterLaws.{ListsCount}
use Rattle.rights_protocol.proofs.Frontiers.{to_one_more}
use Rattle.rights_protocol.proofs.Promises.{held_sum, way_is}
use Rattle.rights_protocol.proofs.Untouched.{untouched}
use Rattle.rights_protocol.proofs.OneSite.{one_site}
use Rattle.rights_protocol.proofs.CounterSums.{others_same, others_add, others_and_one}
use Rattle.rights_protocol.proofs.CounterRuns.{Covered, safe_of}

-- ---- the counter of some moves

pub own_cell : (moves : ℕ → List Move) (i : ℕ) → (counter_of moves).R i i ≡ issued (moves i)
own_cell moves i = let at : eqb i i ≡ true = eq-eqb i i refl in rw at refl

pub cell : (moves : ℕ → List Move) (i j : ℕ) → j ≢ i → (counter_of moves).R i j ≡ to j (moves i) - back j (moves i)
cell moves i j ne = let at : eqb j i ≡ false = ne_eqb j i ne in rw at refl

-- what a site gave to others, plus what it reclaimed
out_moved : (n s : ℕ) (moves : ℕ → List Move) → IsSiteOf n s → All (NamesWithin n) (moves s) → to s (moves s) ≡ 0
    → ((c : ℕ) → back c (moves s) ≤ to c (moves s))
    → outgoing n (counter_of moves) s + taken_back (moves s) ≡ out (moves s)
out_moved n s moves site within none given =
    let ms : List Move = moves s in
    let left : ℕ → ℕ = λ j. to j ms - back j ms in
    let regained : ℕ → ℕ = λ j. back j ms in
    let gave : ℕ → ℕ = λ j. to j ms in
    let is : outgoing n (counter_of moves) s ≡ sum_others n s left
    = others_same n s (λ j. (counter_of moves).R s j) left (λ j of ne. cell moves s j ne) in
    let both : sum_others n s gave ≡ sum_others n s (λ j. left j + regained j)
    = others_same n s gave (λ j. left j + regained j) (λ j of ne. omega (arith, given j)) in
    omega (
      arith,
      is,
      both,
      others_add n s left regained,
      others_and_one n s gave site,
      others_and_one n s regained site,
      none,
      given s,
      out_is n ms within,
      taken_back_is n ms within,
    )

-- ---- a site gives itself nothing

none_to_itself : (s : ℕ) (b : Bool) (n : ℕ) (es : List EntryValue) → ChainFrom s b n es → to s (moves_of es) ≡ 0
none_to_itself s b n [] c = ap (to s) moves_of-nil ∙ to-nil s
none_to_itself s b n (e ∷ es) c =
    let first : to s e.moves ≡ 0
    = nothing_to s e.moves (subst (λ (k : ℕ). list_any (names k) e.moves ≡ false) c.1 c.3.others) in
    omega (arith, to_one_more s e es, first, none_to_itself s (closes e) (own e) es c.4)

pub gives_itself_none : (w : Lists) (s : ℕ) → Invariant w → to s (moves_of (w.log s)) ≡ 0
gives_itself_none w s kept = none_to_itself s false 0 (w.log s) (kept.sites s).chain

-- ---- what is in transit

none_applied : (w : Lists) (s : ℕ) → Invariant w → to s (moves_of (w.applied s s)) ≡ 0
none_applied w s kept = ap (λ es. to s (moves_of es)) (kept.sites s).itself ∙ ap (to s) moves_of-nil ∙ to-nil s

none_to_come : (w : Lists) (s : ℕ) → Invariant w → IsSiteOf w.count s → on_way w s s ≡ 0
none_to_come w s kept among = omega (arith, way_is w s s kept among, gives_itself_none w s kept)

-- ---- one site

pub taken_given : (w : Lists) (s c : ℕ) → Invariant w → IsSiteOf w.count s
    → back c (moves_of (w.log s)) ≤ to c (moves_of (w.log s))
taken_given w s c kept among
    = (one_site w.count s (w.log s) (w.applied s) kept.some kept.few among (kept.sites s)).1.taken_given c

outgoing_is : (w : Lists) (s : ℕ) (moves : ℕ → List Move) → Invariant w → IsSiteOf w.count s
    → moves s ≡ moves_of (w.log s)
    → outgoing w.count (counter_of moves) s + taken_back (moves_of (w.log s)) ≡ out (moves_of (w.log s))
outgoing_is w s moves kept among e =
    let within : All (NamesWithin w.count) (moves s)
    = subst (All (NamesWithin w.count)) (sym e) (kept.sites s).within in
    let none : to s (moves s) ≡ 0 = ap (to s) e ∙ gives_itself_none w s kept in
    let given : (c : ℕ) → back c (moves s) ≤ to c (moves s)
    = λ c. subst (λ ms. back c ms ≤ to c ms) (sym e) (taken_given w s c kept among) in
    omega (arith, out_moved w.count s moves among within none given, ap taken_back e, ap out e)

-- what s holds, what it gave and what it consumed are what it created and received
pub held_parts : (w : Lists) (s : ℕ) (moves : ℕ → List Move) → Invariant w → IsSiteOf w.count s
    → moves s ≡ moves_of (w.log s)
    → held_at w s + (outgoing w.count (counter_of moves) s + (counter_of moves).U s)
    ≡ (counter_of moves).R s s + received_at w s
held_parts w s moves kept among e
    = omega (arith, outgoing_is w s moves kept among e, held_sum w s kept, own_cell moves s, ap issued e, ap spent e)

-- ---- by all logs

pub incoming_is : (w : Lists) (s : ℕ) → Invariant w → IsSiteOf w.count s
    → incoming w.count (state_of w) s ≡ received_at w s + sum_sites w.count (λ o. on_way w o s)
unfolding received
incoming_is w s kept among =
    let n : ℕ = w.count in
    let got : ℕ → ℕ = λ o. to s (moves_of (w.applied s o)) in
    let coming : ℕ → ℕ = λ o. on_way w o s in
    let is : incoming n (state_of w) s ≡ sum_others n s (λ o. got o + coming o) =
    others_same n s (λ o. (state_of w).R o s) (λ o. got o + coming o)
    (λ o of ne. omega (arith, cell (λ k. moves_of (w.log k)) o s (λ e. ne (sym e)), way_is w o s kept of)) in
    omega (
      arith,
      is,
      others_add n s got coming,
      others_and_one n s got among,
      others_and_one n s coming among,
      none_applied w s kept,
      none_to_come w s kept among,
    )

covered : (w : Lists) (s : ℕ) → Invariant w → IsSiteOf w.count s → Covered w.count (state_of w) s
covered w s kept among = omega (
  arith,
  held_parts w s (λ o. moves_of (w.log o)) kept among refl,
  incoming_is w s kept among,
)

pub has_rights : (w : Lists) (s : ℕ) → Invariant w → IsSiteOf w.count s
    → local_rights w.count (state_of w) s ≡ held_at w s + sum_sites w.count (λ o. on_way w o s)
has_rights w s kept among
    = omega (arith, held_parts w s (λ o. moves_of (w.log o)) kept among refl, incoming_is w s kept among)

-- ---- by what the site has

pub seen_own : (w : Lists) (s : ℕ) → moves_of (seen w s s) ≡ moves_of (w.log s)
seen_own w s = let at : eqb s s ≡ true = eq-eqb s s refl in rw at refl

pub seen_other : (w : Lists) (s o : ℕ) → o ≢ s → moves_of (seen w s o) ≡ moves_of (w.applied s o)
seen_other w s o ne = let at : eqb o s ≡ false = ne_eqb o s ne in rw at refl

seen_gift : (w : Lists) (s o : ℕ) → Invariant w → IsSiteOf w.count o → o ≢ s
    → (state_at w s).R o s ≡ to s (moves_of (w.applied s o))
seen_gift w s o kept among ne =
    let moves : ℕ → List Move = λ k. moves_of (seen w s k) in
    let is : (state_at w s).R o s ≡ to s (moves o) - back s (moves o) = cell moves o s (λ e. ne (sym e)) in
    let same : moves o ≡ moves_of (w.applied s o) = seen_other w s o ne in
    omega (arith, is, ap (to s) same, ap (back s) same, untouched w s o kept among)

pub seen_incoming : (w : Lists) (s : ℕ) → Invariant w → IsSiteOf w.count s
    → incoming w.count (state_at w s) s ≡ received_at w s
unfolding received
seen_incoming w s kept among =
    let n : ℕ = w.count in
    let got : ℕ → ℕ = λ o. to s (moves_of (w.applied s o)) in
    let is : incoming n (state_at w s) s ≡ sum_others n s got
    = others_same n s (λ o. (state_at w s).R o s) got (λ o of ne. seen_gift w s o kept of ne) in
    omega (arith, is, others_and_one n s got among, none_applied w s kept)

holds_rights : (w : Lists) (s : ℕ) → Invariant w → IsSiteOf w.count s
    → held_at w s ≡ local_rights w.count (state_at w s) s
holds_rights w s kept among
    = omega (arith, held_parts w s (λ o. moves_of (seen w s o)) kept among (seen_own w s), seen_incoming w s kept among)

-- ---- the whole

pub safe_lists : (w : Lists) → Invariant w → IsSafe w.count (state_of w)
safe_lists w kept = safe_of w.count (state_of w) (λ s among. covered w s kept among)

counts : (w : Lists) → Invariant w → value w.count (state_of w) + all_spent w ≡ all_issued w
counts w kept =
    let created : all_created w.count (state_of w) ≡ all_issued w =
    sum_same w.count (λ i. (state_of w).R i i) (λ i. issued (moves_of (w.log i)))
    (λ i low high. own_cell (λ o. moves_of (w.log o)) i) in
    omega (arith, created, (safe_lists w kept).not_negative)

pub kept_counts : (w : Lists) → Invariant w → ListsCount w
kept_counts w kept = record {
  safe = safe_lists w kept;
  taken_given = λ s among c. taken_given w s c kept among;
  rights = λ s among. record {
    holds = holds_rights w s kept among;
    has = has_rights w s kept among;
    no_more = omega (arith, holds_rights w s kept among, has_rights w s kept among);
  };
  counts = counts w kept;
}
