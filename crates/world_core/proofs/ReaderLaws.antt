-- The results of the readers of a world.
use Rattle.std.proofs.Common.{◌≡◌, ℕ, suc, ◌+◌, ◌-◌, ◌*◌, ◌<◌, ◌≤◌, false, List, [], length, drop, get_or, Some, None}
use Rattle.std.proofs.Common.{arith, refl, sym, ap, subst, ◌∙◌, add-one}
use Rattle.std.proofs.lemmas.Bool.{ne_eqb}
use Rattle.std.proofs.lemmas.Option.{slice_get_read}
use Rattle.std.proofs.Math.Seq.{drop-nil}
use Rattle.rights_types.specs.Entries.{EntryValue}
use Rattle.rights_types.specs.Chains.{IsChain, moves_of}
use Rattle.rights_types.specs.Places.{at_site}
use Rattle.rights_types.specs.Rights.{sum_sites, issued, spent, to, back, taken_back, received, held, way}
use Rattle.rights_types.proofs.Chains.{end_from-bound}
use Rattle.rights_types.proofs.Places.{at_site_past}
use Rattle.rights_types.proofs.SiteSums.{sum_bound, sum_fewer, sum_term, sum_same, sum_zero}
use Rattle.rights_types.proofs.Sums.{moves_of-nil, to-nil, issued-nil, spent-nil, taken_back-nil, log-issued}
use Rattle.rights_protocol.specs.Lists.{IsSiteOf, received_at}
use Rattle.rights_protocol.specs.Retirement.{Promised}
use Rattle.rights_protocol.proofs.Promises.{held_sum, way_is, kept_promises}
use Rattle.rights_book.specs.Books.{sites}
use Rattle.rights_book.specs.StandsFor.{StandsForApplied}
use Rattle.site_core.specs.Desks.{DeskValue, new_desk}
use Rattle.world_core.specs.Values.{LinkValue, PacketValue, WorldValue}
use Rattle.world_core.specs.Worlds.{count, desk, row, log, packet, list_of, applied, lists_of, held_by, on_way}
use Rattle.world_core.specs.Sound.{SiteSound, IsWorld}
use Rattle.world_core.proofs.IndexLaws.{none_at}

-- ---- what a desk says

-- a desk has applied what its site has
pub stands : (w : WorldValue) (s : ℕ) (d : DeskValue) → IsWorld w → IsSiteOf (count w) s → d ≡ desk w s
    → StandsForApplied (applied w s) d.ledger.book
stands w s d is among same =
    subst (λ (x : DeskValue). StandsForApplied (applied w s) x.ledger.book) (sym same)
    (is.sites s among).applied.in_book

-- and so it holds the rights of its site
pub held_value : (w : WorldValue) (s : ℕ) (d : DeskValue) → IsWorld w → IsSiteOf (count w) s → d ≡ desk w s
    → held (sites d.ledger.book) d.ledger.log.site d.ledger.log.entries (applied w s) ≡ held_by w s
held_value w s d is among same =
    let sound : SiteSound w s = is.sites s among in
    ap (λ (x : DeskValue). held (sites x.ledger.book) x.ledger.log.site x.ledger.log.entries (applied w s)) same
    ∙ ap (λ n. held n (desk w s).ledger.log.site (log w s) (applied w s)) sound.system
    ∙ ap (λ k. held (count w) k (log w s) (applied w s)) sound.me

pub received_value : (w : WorldValue) (s o : ℕ) (d : DeskValue) → IsWorld w → IsSiteOf (count w) s → d ≡ desk w s
    → to d.ledger.log.site (moves_of (applied w s o)) ≡ to s (moves_of (applied w s o))
received_value w s o d is among same =
    ap (λ (x : DeskValue). to x.ledger.log.site (moves_of (applied w s o))) same
    ∙ ap (λ k. to k (moves_of (applied w s o))) (is.sites s among).me

-- ---- a site that is not there

pub none_issued : issued (moves_of []) ≡ 0
none_issued = ap issued moves_of-nil ∙ issued-nil

pub none_spent : spent (moves_of []) ≡ 0
none_spent = ap spent moves_of-nil ∙ spent-nil

pub none_to : (s : ℕ) → to s (moves_of []) ≡ 0
none_to s = ap (to s) moves_of-nil ∙ to-nil s

pub none_applied : (w : WorldValue) (s o : ℕ) → IsWorld w → count w < s → applied w s o ≡ []
none_applied w s o is past =
    let f : LinkValue → List EntryValue = λ l. l.applied in
    let none : row w s ≡ [] = at_site_past w.links s [] (omega (arith, is.rows)) in
    ap (λ r. list_of f (at_site r o None)) none ∙ ap (list_of f) (none_at o None)

none_received : (w : WorldValue) (s : ℕ) → IsWorld w → count w < s → received_at (lists_of w) s ≡ 0
unfolding received
none_received w s is past =
    sum_same (count w) (λ o. to s (moves_of (applied w s o))) (λ o. 0)
    (λ o low high. ap (λ es. to s (moves_of es)) (none_applied w s o is past) ∙ none_to s)
    ∙ sum_zero (count w)

pub none_held : (w : WorldValue) (s : ℕ) → IsWorld w → count w < s → desk w s ≡ new_desk 0 0 → held_by w s ≡ 0
none_held w s is past none =
    let empty : moves_of (log w s) ≡ [] = ap (λ (d : DeskValue). moves_of d.ledger.log.entries) none ∙ moves_of-nil in
    omega (
      arith,
      held_sum (lists_of w) s is.kept,
      none_received w s is past,
      ap issued empty
          ∙ issued-nil,
      ap taken_back empty ∙ taken_back-nil,
    )

-- ---- rights in transit

-- what the desk of o gave to s was applied there, is in transit, or was reclaimed
pub way_left : (w : WorldValue) (o s : ℕ) (d : DeskValue) → IsWorld w → IsSiteOf (count w) o → d ≡ desk w o
    → to s (moves_of d.ledger.log.entries) ≡ (to s (moves_of (applied w s o)) + on_way w o s) + back s
    (moves_of d.ledger.log.entries)
way_left w o s d is among same =
    subst (λ (x : DeskValue). to s (moves_of x.ledger.log.entries) ≡ (to s (moves_of (applied w s o)) + on_way w o s) +
    back s (moves_of x.ledger.log.entries)) (sym same)
    (way_is (lists_of w) o s is.kept among)

pub none_on_way : (w : WorldValue) (o s : ℕ) → desk w o ≡ new_desk 0 0 → on_way w o s ≡ 0
unfolding way
none_on_way w o s none =
    let k : ℕ = length (applied w s o) in
    let empty : log w o ≡ [] = ap (λ (d : DeskValue). d.ledger.log.entries) none in
    let given : to s (moves_of (drop k (log w o))) ≡ 0 =
    ap (λ (es : List EntryValue). to s (moves_of (drop k es))) empty
    ∙ ap (λ es. to s (moves_of es)) (drop-nil {A = EntryValue} k) ∙ none_to s in
    omega (arith, given)

-- ---- sums

one_issued : (w : WorldValue) (s : ℕ) → IsWorld w → issued (moves_of (log w s)) ≤ 1000000000000000000
one_issued w s is =
    let chain : IsChain s (log w s) = (is.kept.sites s).chain in
    omega (arith, log-issued s (log w s) chain, end_from-bound s false 0 (log w s) chain (omega arith))

all_issued : (w : WorldValue) → IsWorld w → sum_sites (count w)
    (λ s. issued (moves_of (log w s))) ≤ 16000000000000000000
all_issued w is =
    let few : count w ≤ 16 = is.kept.few in
    let most : count w * 1000000000000000000 ≤ 16000000000000000000 = omega arith in
    omega (
      arith,
      sum_bound (count w) 1000000000000000000 (λ s. issued (moves_of (log w s))) (λ s. one_issued w s is),
      most,
    )

-- the next term of a sum of at most m fits
more_fits : (n k m : ℕ) (f : ℕ → ℕ) → k < n → sum_sites n f ≤ m → sum_sites k f + f (k + 1) ≤ m
more_fits n k m f lt le =
    let part : sum_sites (suc k) f ≤ sum_sites n f = sum_fewer n (suc k) f (omega arith) in
    rw add-one (omega (arith, part))

pub record SumsFit (w : WorldValue) (k : ℕ) : Type 0 where
  pub issued_fit : sum_sites k (λ s. issued (moves_of (log w s))) + issued
      (moves_of (log w (k + 1))) ≤ 16000000000000000000
  pub spent_fit : sum_sites k (λ s. spent (moves_of (log w s))) + spent
      (moves_of (log w (k + 1))) ≤ 16000000000000000000
  pub held_fit : sum_sites k (held_by w) + held_by w (k + 1) ≤ 16000000000000000000
  pub way_fit : sum_sites k (λ o. sum_sites (count w) (λ s. on_way w o s)) + sum_sites (count w)
      (λ s. on_way w (k + 1) s) ≤ 16000000000000000000

-- rights held, spent and in transit are the rights issued, so that no sum over the sites wraps
pub sums_fit : (w : WorldValue) (k : ℕ) → IsWorld w → k < count w → SumsFit w k
sums_fit w k is lt =
    let n : ℕ = count w in
    let most = all_issued w is in
    let whole : Promised (lists_of w) = kept_promises (lists_of w) is.kept in
    let equal = whole.headline.conserved in
    record {
      issued_fit = more_fits n k 16000000000000000000 (λ s. issued (moves_of (log w s))) lt most;
      spent_fit = more_fits n k 16000000000000000000 (λ s. spent (moves_of (log w s))) lt (omega (arith, equal, most));
      held_fit = more_fits n k 16000000000000000000 (held_by w) lt (omega (arith, equal, most));
      way_fit = more_fits n k 16000000000000000000 (λ o. sum_sites n (λ s. on_way w o s)) lt
          (omega (arith, equal, most));
    }

pub row_fits : (w : WorldValue) (o k : ℕ) → IsWorld w → IsSiteOf (count w) o → k < count w
    → sum_sites k (λ s. on_way w o s) + on_way w o (k + 1) ≤ 16000000000000000000
row_fits w o k is among lt =
    let n : ℕ = count w in
    let whole : Promised (lists_of w) = kept_promises (lists_of w) is.kept in
    let part = sum_term n o (λ j. sum_sites n (λ s. on_way w j s)) among.0 among.1 in
    more_fits n k 16000000000000000000 (λ s. on_way w o s) lt
    (omega (arith, part, whole.headline.conserved, all_issued w is))

-- ---- packets

-- the packet of a number is the one that its index reads
pub packet_read : (w : WorldValue) (number : ℕ) (p : PacketValue) → (number ≡ 0 → ⊥) → number ≤ length w.packets
    → p ≡ get_or w.packets (number - 1) p → packet w number ≡ Some p
packet_read w number p counted lt read =
    rw (ne_eqb number 0 counted) (slice_get_read w.packets (length w.packets) (number - 1) p refl
    (omega (arith, counted)) read)
