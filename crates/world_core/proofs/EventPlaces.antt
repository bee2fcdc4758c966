-- What is known of an event's sites, if the world does not refuse it, and what the code reads and writes there.
use Rattle.std.proofs.Common.{◌≡◌, ◌≢◌, ℕ, ◌+◌, Bool, true, false, cond, not, ◌&&◌, eqb, leb, List, [], length, get_or}
use Rattle.std.proofs.Common.{set, Option, Some, None, arith, refl, sym, ap, ◌∙◌, subst}
use Rattle.std.proofs.lemmas.List.{get_or_read}
use Rattle.std.proofs.lemmas.Bool.{and_parts, leb-true, eq-eqb}
use Rattle.rights_types.specs.Places.{set_site}
use Rattle.rights_types.proofs.Places.{at_site-index, set_site-index, set_site-at_site}
use Rattle.rights_protocol.specs.Lists.{IsSiteOf}
use Rattle.site_core.proofs.LedgerLaws.{no_cause}
use Rattle.site_core.specs.Desks.{DeskValue, new_desk}
use Rattle.world_core.specs.Values.{LinkValue, WorldValue}
use Rattle.world_core.specs.Worlds.{count, desk, with_desk, row, with_link}
use Rattle.world_core.specs.Faults.{is_site, site_fault, link_fault, place_fault, fault_of}
use Rattle.world_core.specs.declared.event.Event.{Event}
use Rattle.world_core.specs.declared.fault.WorldError.TheVariants.{Ended, NoSuchSite}

-- ---- places

-- no cause was found: neither this one nor one of the others
pub no_other : {E : Type 0} (b : Bool) (x : E) (others : Option E) → cond b others (Some x) ≡ None
    → (b ≡ true) × (others ≡ None)
no_other true x others h = (refl, h)
no_other false x others h = absurd cc

pub site_is : (w : WorldValue) (s : ℕ) → is_site w s ≡ true → IsSiteOf (count w) s
site_is w s h =
    let p = and_parts (leb 1 s) (leb s (count w)) h in
    (leb-true 1 s p.0, leb-true s (count w) p.1)

-- the site of an event is one of the world
pub site_known : (w : WorldValue) (s : ℕ) → site_fault w s ≡ None → IsSiteOf (count w) s
site_known w s h = site_is w s (no_other (is_site w s) NoSuchSite None h).0

not_equal : (s o : ℕ) → not (eqb s o) ≡ true → s ≢ o
not_equal s o h e =
    let same : eqb s o ≡ true = eq-eqb s o e in
    let bad : false ≡ true = rw same at h in
    absurd cc

-- .. and so are both ends of a link, which differ
pub link_known : (w : WorldValue) (s o : ℕ) → link_fault w s o ≡ None
    → IsSiteOf (count w) s × IsSiteOf (count w) o × (s ≢ o)
link_known w s o h =
    let known = (no_other (is_site w s && is_site w o && not (eqb s o)) NoSuchSite None h).0 in
    let a = and_parts (is_site w s && is_site w o) (not (eqb s o)) known in
    let b = and_parts (is_site w s) (is_site w o) a.0 in
    (site_is w s b.0, site_is w o b.1, not_equal s o a.1)

-- an event that is not refused is not refused because of its sites
pub place_known : {A : Type 0} (w : WorldValue) (event : Event A) → fault_of w event ≡ None → place_fault w event ≡ None
unfolding fault_of
place_known w event e = (no_cause w.ended Ended (place_fault w event) e).1

-- ---- the desk of an event

-- the world as the code leaves it, with another desk at an index
abbrev pub with_at : WorldValue → ℕ → DeskValue → WorldValue
with_at w i d = record w { desks = set w.desks i d }

-- a desk that is borrowed at an index of the world is that of the site, and a change of it is a change of the site's
-- desk
pub record Lent (there w : WorldValue) (i s : ℕ) (was : DeskValue) : Type 0 where
  pub is : was ≡ desk w s
  pub changed : (d : DeskValue) → with_at there i d ≡ with_desk w s d

pub lent : (there w : WorldValue) (i s : ℕ) (was : DeskValue) → there ≡ w → i + 1 ≡ s → IsSiteOf (count w) s
    → was ≡ get_or there.desks i was → Lent there w i s was
lent there w i s was same at known read =
    let here : was ≡ get_or w.desks i was = subst (λ (v : WorldValue). was ≡ get_or v.desks i was) same read in
    record {
      is = get_or_read w.desks i was (omega (arith, known.1)) here (new_desk 0 0)
          ∙ sym (at_site-index w.desks i s (new_desk 0 0) at);
      changed = λ d. ap (λ v. with_at v i d) same
          ∙ ap (λ (ds : List DeskValue). record w { desks = ds }) (sym (set_site-index w.desks i s d at));
    }

-- a desk that is as it was
pub unchanged : (there w : WorldValue) (i s : ℕ) (was d : DeskValue) → Lent there w i s was → d ≡ was
    → with_at there i d ≡ w
unchanged there w i s was d at same =
    at.changed d ∙ ap (λ x. with_desk w s x) (same ∙ at.is)
    ∙ ap (λ (ds : List DeskValue). record w { desks = ds }) (set_site-at_site w.desks s (new_desk 0 0))

-- ---- the links of an event

-- the world as the code leaves it, with another row of links at an index
abbrev pub with_row_at : WorldValue → ℕ → List (Option LinkValue) → WorldValue
with_row_at w i r = record w { links = set w.links i r }

-- a row that is borrowed at an index of the world is that of the site, and a change of it is a change of the site's row
pub record LentRow (there w : WorldValue) (i s : ℕ) (was : List (Option LinkValue)) : Type 0 where
  pub is : was ≡ row w s
  pub changed : (r : List (Option LinkValue)) → with_row_at there i r ≡ record w { links = set_site w.links s r }

pub lent_row : (there w : WorldValue) (i s : ℕ) (was : List (Option LinkValue)) → there ≡ w → i + 1 ≡ s
    → IsSiteOf (count w) s → length w.links ≡ count w → was ≡ get_or there.links i was → LentRow there w i s was
lent_row there w i s was same at known rows read =
    let here : was ≡ get_or w.links i was = subst (λ (v : WorldValue). was ≡ get_or v.links i was) same read in
    record {
      is = get_or_read w.links i was (omega (arith, known.1, rows)) here [] ∙ sym (at_site-index w.links i s [] at);
      changed = λ r. ap (λ v. with_row_at v i r) same
          ∙ ap (λ (ls : List (List (Option LinkValue))). record w { links = ls })
          (sym (set_site-index w.links i s r at));
    }

-- a row with another link
pub relinked : (there w : WorldValue) (i s o : ℕ) (was r : List (Option LinkValue)) (l : LinkValue)
    → LentRow there w i s was → r ≡ set_site was o (Some l) → with_row_at there i r ≡ with_link w s o l
relinked there w i s o was r l at change =
    let with_row : List (Option LinkValue) → WorldValue = λ x. record w { links = set_site w.links s x } in
    at.changed r ∙ ap with_row (change ∙ ap (λ x. set_site x o (Some l)) at.is)

-- a row that is as it was
pub row_unchanged : (there w : WorldValue) (i s : ℕ) (was r : List (Option LinkValue)) → LentRow there w i s was
    → r ≡ was
    → with_row_at there i r ≡ w
row_unchanged there w i s was r at same =
    let with_row : List (Option LinkValue) → WorldValue = λ x. record w { links = set_site w.links s x } in
    at.changed r ∙ ap with_row (same ∙ at.is)
    ∙ ap (λ (ls : List (List (Option LinkValue))). record w { links = ls }) (set_site-at_site w.links s [])
