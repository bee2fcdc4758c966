-- The items of a world's lists by their indexes, as the code reads them.
use Rattle.std.proofs.Common.{◌≡◌, ℕ, zero, suc, ◌+◌, ◌<◌, ◌≤◌, List, [], length, get_or, Option, Some, None, arith}
use Rattle.std.proofs.Common.{refl, sym, ap, ◌∙◌}
use Rattle.std.specs.Prelude.{◌≢◌, IfSome, IfNone}
use Rattle.std.specs.Borrow.{Bor}
use Rattle.std.specs.Option.{option_copied}
use Rattle.std.specs.Slice.{IsItemAt}
use Rattle.std.proofs.lemmas.List.{get_or_past, get_or_read}
use Rattle.rights_types.specs.Places.{at_site}
use Rattle.rights_types.proofs.Places.{at_site-index}
use Rattle.rights_protocol.specs.Lists.{IsSiteOf}
use Rattle.rights_book.specs.Books.{sites}
use Rattle.site_core.specs.Desks.{DeskValue, new_desk}
use Rattle.world_core.specs.Values.{LinkValue, WorldValue}
use Rattle.world_core.specs.Worlds.{count, desk, row, link}
use Rattle.world_core.specs.Sound.{SiteSound, LinkSound, IsWorld}

pub none_at : {X : Type 0} (o : ℕ) (d : X) → at_site [] o d ≡ d
none_at zero d = refl
none_at (suc i) d = refl

-- the item at an index is that of its site
pub at_place : {X : Type 0} (xs : List X) (i s : ℕ) (x d : X) → i + 1 ≡ s → i < length xs → x ≡ get_or xs i x
    → x ≡ at_site xs s d
at_place xs i s x d e lt is = get_or_read xs i x lt is d ∙ sym (at_site-index xs i s d e)

-- ---- desks

-- what is at the index of a site: its desk, or nothing past the last one
pub record DeskFound (w : WorldValue) (s : ℕ) (found : Option (Bor DeskValue)) : Type 0 where
  pub some : IfSome found (λ d. d.now ≡ desk w s)
  pub site : IfSome found (λ d. IsSiteOf (count w) s)
  pub none : IfNone found (desk w s ≡ new_desk 0 0)
  pub past : IfNone found (count w < s)

pub desk_found : (w : WorldValue) (i s : ℕ) (found : Option (Bor DeskValue)) → i + 1 ≡ s → IsItemAt w.desks i found
    → DeskFound w s found
desk_found w i s None e at =
    let past : count w ≤ i = at.3 in
    record {
      some = tt;
      site = tt;
      none = at_site-index w.desks i s (new_desk 0 0) e
          ∙ get_or_past w.desks i (new_desk 0 0) past;
      past = omega arith;
    }
desk_found w i s (Some d) e at =
    let lt : i < count w = at.3.0 in
    record {
      some = at_place w.desks i s d.now (new_desk 0 0) e lt at.1;
      site = (omega arith, omega arith);
      none = tt;
      past = tt;
    }

-- the desk of a site is of that site, in this system
pub desk_of : (w : WorldValue) (s : ℕ) (d : DeskValue) → IsWorld w → IsSiteOf (count w) s → d ≡ desk w s
    → (sites d.ledger.book ≡ count w) × (d.ledger.log.site ≡ s)
desk_of w s d is among same =
    let sound : SiteSound w s = is.sites s among in (
      ap (λ (x : DeskValue). sites x.ledger.book) same ∙ sound.system,
      ap (λ (x : DeskValue). x.ledger.log.site) same ∙ sound.me,
    )

-- ---- links

-- the link that is read in the row of a site
pub link_at : (w : WorldValue) (s o from : ℕ) (r : List (Option LinkValue)) (found : Option LinkValue) → r ≡ row w s
    → from ≡ o → found ≡ at_site r from None → found ≡ link w s o
link_at w s o from r found is same at = at ∙ ap (λ k. at_site r k None) same ∙ ap (λ x. at_site x o None) is

pub row_found : (w : WorldValue) (i s : ℕ) (r : Bor (List (Option LinkValue))) → i + 1 ≡ s → IsItemAt w.links i (Some r)
    → r.now ≡ row w s
row_found w i s r e at = at_place w.links i s r.now [] e at.3.0 at.1

pub no_row : (w : WorldValue) (i s o : ℕ) → i + 1 ≡ s → IsItemAt w.links i None → None ≡ link w s o
no_row w i s o e at =
    sym (ap (λ r. at_site r o None) (at_site-index w.links i s [] e ∙ get_or_past w.links i [] at.3) ∙ none_at o None)

-- a link of a world is sound, and there is one from each site to each other
pub link_sound : (w : WorldValue) (s o : ℕ) (found : Option (Bor LinkValue)) → IsWorld w
    → option_copied found ≡ link w s o → IfSome found (λ l. LinkSound w s o l.now)
link_sound w s o None is at = tt
link_sound w s o (Some l) is at = is.links s o l.now (sym at)

pub is_linked : (w : WorldValue) (s o : ℕ) → IsWorld w → IsSiteOf (count w) s → IsSiteOf (count w) o → s ≢ o
    → None ≡ link w s o → ⊥
is_linked w s o is a b differ none =
    let l = (is.sites s a).others o b differ in
    let there : link w s o ≡ Some l.0 = l.1 in
    absurd cc
