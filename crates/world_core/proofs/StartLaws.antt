-- The start satisfies the invariant of a world.
use Rattle.std.proofs.Common.{◌≡◌, ℕ, suc, zero, ◌≤◌, ◌⊎◌, inl, inr, Bool, true, false, cond, eqb, List, [], length}
use Rattle.std.proofs.Common.{map, arith, refl, sym, ap, ◌∙◌, subst, Option, Some, None}
use Rattle.std.specs.List.{All, range_with_len}
use Rattle.std.proofs.lemmas.Bool.{cases_lt, eq-eqb, ne_eqb}
use Rattle.std.proofs.lemmas.List.{length-replicate, get_or_past}
use Rattle.std.proofs.lemmas.List.FromFn.{get_or-map-range_with_len, length-map-range_with_len}
use Rattle.std.proofs.lemmas.List.Elements.{All-nil}
use Rattle.rights_types.specs.Entries.{EntryValue}
use Rattle.rights_types.specs.Chains.{IsChain, moves_of}
use Rattle.rights_types.specs.Places.{at_site}
use Rattle.rights_types.specs.declared.moves.Move.{Move}
use Rattle.rights_types.proofs.Chains.{not_in_nil}
use Rattle.rights_types.proofs.Sums.{moves_of-nil}
use Rattle.rights_protocol.specs.Lists.{IsSiteOf}
use Rattle.rights_protocol.specs.Changes.{Start}
use Rattle.rights_protocol.proofs.Steps.{start_kept}
use Rattle.rights_book.proofs.BookLaws.{new_is_book}
use Rattle.rights_book.proofs.StandLaws.{new_stands}
use Rattle.sub_buffer.proofs.Offers.{follows_new}
use Rattle.site_core.specs.Ledgers.{LedgerValue, HasApplied, new_ledger}
use Rattle.site_core.specs.Desks.{DeskValue, DeskSound, new_desk}
use Rattle.inbound.specs.Inbounds.{is_foreign}
use Rattle.site_core.proofs.LedgerLaws.{new_is_ledger}
use Rattle.site_core.proofs.Protocol.{none_applied}
use Rattle.world_core.specs.Values.{LinkValue}
use Rattle.world_core.specs.Worlds.{count, desk, log, row, link, list_of, applied, lists_of, new_link, link_to, new_row}
use Rattle.world_core.specs.Worlds.{start}
use Rattle.world_core.specs.Sound.{SiteSound, LinkSound, IsSent, IsWorld}
use Rattle.world_core.proofs.LinkKeeps.{same_lists}

-- ---- what is read at the start

-- the item of a site in a list that was made from the sites' numbers
made_at : {X : Type 0} (f : ℕ → X) (n s : ℕ) (d : X) → IsSiteOf n s → at_site (map f (range_with_len 1 n)) s d ≡ f s
made_at f n zero d site = absurd (omega (arith, site.0))
made_at f n (suc i) d site = get_or-map-range_with_len f 1 n i (suc i) d (omega (arith, site.1)) (omega arith)

-- and where there is no such site
past : {X : Type 0} (f : ℕ → X) (n s : ℕ) (d : X) → ¬ IsSiteOf n s → at_site (map f (range_with_len 1 n)) s d ≡ d
past f n zero d outside = refl
past f n (suc i) d outside = elim (cases_lt i n) [
  | inl lt ↦ absurd (outside (omega arith, omega (arith, lt)))
  | inr le ↦ get_or_past (map f (range_with_len 1 n)) i d (omega (arith, le, length-map-range_with_len f 1 n))
]

site_cases : (n s : ℕ) → IsSiteOf n s ⊎ ¬ IsSiteOf n s
site_cases n zero = inr (λ p. omega (arith, p.0))
site_cases n (suc i) = elim (cases_lt i n) [
  | inl lt ↦ inl (omega arith, omega (arith, lt))
  | inr le ↦ inr (λ p. omega (arith, le, p.1))
]

count_start : (n : ℕ) → count (start n) ≡ n
count_start n = length-map-range_with_len (λ s. new_desk s n) 1 n

desk_start : (n s : ℕ) → IsSiteOf n s → desk (start n) s ≡ new_desk s n
desk_start n s site = made_at (λ k. new_desk k n) n s (new_desk 0 0) site

log_start : (n s : ℕ) → log (start n) s ≡ []
log_start n s = elim (site_cases n s) [
  | inl site ↦ ap (λ (d : DeskValue). d.ledger.log.entries) (desk_start n s site)
  | inr outside ↦ ap (λ (d : DeskValue). d.ledger.log.entries) (past (λ k. new_desk k n) n s (new_desk 0 0) outside)
]

row_start : (n s : ℕ) → IsSiteOf n s → row (start n) s ≡ new_row n s
row_start n s site = made_at (new_row n) n s [] site

none_at : {X : Type 0} (o : ℕ) (d : X) → at_site [] o d ≡ d
none_at zero d = refl
none_at (suc i) d = refl

link_start : (n s o : ℕ) → IsSiteOf n s → IsSiteOf n o → link (start n) s o ≡ link_to n s o
link_start n s o site from = ap (λ r. at_site r o None) (row_start n s site) ∙ made_at (link_to n s) n o None from

-- a link is between two sites
link_cases : (n s o : ℕ) → (link (start n) s o ≡ None) ⊎ (IsSiteOf n s × IsSiteOf n o)
link_cases n s o = elim (site_cases n s) [
  | inl site ↦ elim (site_cases n o) [
    | inl from ↦ inr (site, from)
    | inr outside ↦ inl (ap (λ r. at_site r o None) (row_start n s site) ∙ past (link_to n s) n o None outside)
  ]
  | inr outside ↦ inl (ap (λ r. at_site r o None) (past (new_row n) n s [] outside) ∙ none_at o None)
]

-- and nothing has arrived from it
to_list : (n s o : ℕ) (list : LinkValue → List EntryValue) (itself : Bool) → list (new_link n s o) ≡ []
    → list_of list (cond itself None (Some (new_link n s o))) ≡ []
to_list n s o list true none = refl
to_list n s o list false none = none

list_start : (n s o : ℕ) (list : LinkValue → List EntryValue) → ((a b : ℕ) → list (new_link n a b) ≡ [])
    → list_of list (link (start n) s o) ≡ []
list_start n s o list none = elim (link_cases n s o) [
  | inl p ↦ ap (list_of list) p
  | inr p ↦ ap (list_of list) (link_start n s o p.0 p.1) ∙ to_list n s o list (eqb o s) (none s o)
]

-- ---- what is kept of it

start_applied : (n s : ℕ) → IsSiteOf n s → HasApplied (applied (start n) s) (desk (start n) s).ledger
start_applied n s site =
    let l : LedgerValue = new_ledger s n in
    let none : HasApplied (λ o. []) l = none_applied l refl (new_stands s n).of_applied in
    let same : applied (start n) s ≡ (λ o. []) =
    same_lists (λ o. []) (applied (start n) s) (λ o. list_start n s o (λ x. x.applied) (λ a b. refl)) in
    subst (λ (d : DeskValue). HasApplied (applied (start n) s) d.ledger) (sym (desk_start n s site))
    (subst (λ lists. HasApplied lists l) (sym same) none)

new_sound : (n s : ℕ) → 2 ≤ n → n ≤ 16 → IsSiteOf n s → DeskSound (new_desk s n)
new_sound n s some few site = record {
  ledger = new_is_ledger s (new_ledger s n) refl refl (new_stands s n).of_own;
  book = new_is_book s n some few site.0 site.1;
  idle = λ closed. refl;
}

start_site : (n s : ℕ) → 2 ≤ n → n ≤ 16 → IsSiteOf n s → SiteSound (start n) s
start_site n s some few site =
    let at : desk (start n) s ≡ new_desk s n = desk_start n s site in
    record {
      me = ap (λ (d : DeskValue). d.ledger.log.site) at;
      manager = ap (λ (d : DeskValue). d.manager.me) at;
      system = ap (λ (d : DeskValue). length d.ledger.book.peers) at ∙ length-replicate n _ ∙ sym (count_start n);
      sound = subst DeskSound (sym at) (new_sound n s some few site);
      applied = start_applied n s site;
      width = ap (λ (r : List (Option LinkValue)). length r) (row_start n s site)
          ∙ length-map-range_with_len (link_to n s) 1 n ∙ sym (count_start n);
      itself = link_start n s s site site ∙ ap (λ b. cond b None (Some (new_link n s s))) (eq-eqb s s refl);
      others = λ o among ne. (
        new_link n s o,
        link_start n s o site (subst (λ k. IsSiteOf k o) (count_start n) among)
            ∙ ap (λ b. cond b None (Some (new_link n s o))) (ne_eqb o s (λ e. ne (sym e))),
      );
    }

new_link_sound : (n s o : ℕ) → LinkSound (start n) s o (new_link n s o)
new_link_sound n s o = record {
  me = refl;
  origin = refl;
  system = sym (count_start n);
  settled = inr (λ (e, i, at). not_in_nil e i);
  follows = (follows_new s o (log (start n) o) (subst (IsChain o) (sym (log_start n o)) tt)).0;
}

to_sound : (n s o : ℕ) (l : LinkValue) (itself : Bool) → cond itself None (Some (new_link n s o)) ≡ Some l
    → LinkSound (start n) s o l
to_sound n s o l true at = absurd cc
to_sound n s o l false at = let same : new_link n s o ≡ l =
    cc in subst (LinkSound (start n) s o) same (new_link_sound n s o)

start_link : (n s o : ℕ) (l : LinkValue) → link (start n) s o ≡ Some l → LinkSound (start n) s o l
start_link n s o l at = elim (link_cases n s o) [
  | inl p ↦ absurd cc
  | inr p ↦ to_sound n s o l (eqb o s) (sym (link_start n s o p.0 p.1) ∙ at)
]

-- the lists are the protocol's at its start
pub start_lists : (n : ℕ) → 2 ≤ n → n ≤ 16 → Start n (lists_of (start n))
start_lists n some few = record {
  some = some;
  few = few;
  count = count_start n;
  log = log_start n;
  reached = λ s o. list_start n s o (λ l. l.reached) (λ a b. refl);
  put = λ s o. list_start n s o (λ l. l.put) (λ a b. refl);
  applied = λ s o. list_start n s o (λ l. l.applied) (λ a b. refl);
}

pub start_world : (n : ℕ) → 2 ≤ n → n ≤ 16 → IsWorld (start n)
start_world n some few = record {
  kept = start_kept n (lists_of (start n)) (start_lists n some few);
  rows = length-map-range_with_len (new_row n) 1 n ∙ sym (count_start n);
  sites = λ s site. start_site n s some few (subst (λ k. IsSiteOf k s) (count_start n) site);
  links = start_link n;
  native = λ s. subst (λ es. All (λ (m : Move). is_foreign (count (start n)) m ≡ false) (moves_of es))
      (sym (log_start n s)) (rw moves_of-nil (All-nil _));
  sent = All-nil (IsSent (start n));
}
