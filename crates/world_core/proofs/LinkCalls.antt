-- The results of a desk's and a link's calls, as events between two sites.
use Rattle.std.proofs.Common.{◌≡◌, ◌≢◌, inl, inr, ℕ, ◌+◌, ◌≤◌, Bool, false, List, [], ◌∷◌, ◌++◌, length, set, Option}
use Rattle.std.proofs.Common.{Some, None, Ok, arith, refl, sym, ap, ◌∙◌, subst}
use Rattle.std.specs.List.{slice_get}
use Rattle.std.proofs.lemmas.List.{append-nil, length-append}
use Rattle.std.proofs.lemmas.Option.{slice_get_cases}
use Rattle.rights_types.specs.Entries.{EntryValue, own}
use Rattle.rights_types.specs.Chains.{IsChain, IsPrefix}
use Rattle.rights_types.specs.Messages.{MessageValue, QueryValue}
use Rattle.rights_types.specs.Places.{at_site, set_site}
use Rattle.rights_types.proofs.Chains.{chain_right, prefix_chain}
use Rattle.rights_protocol.specs.Lists.{IsSiteOf}
use Rattle.rights_protocol.proofs.Links.{link_applies}
use Rattle.rights_book.specs.declared.account.Account.{Account}
use Rattle.rights_book.specs.Books.{sites, peer}
use Rattle.site_core.specs.Desks.{DeskValue}
use Rattle.site_core.specs.Faults.{has_closed}
use Rattle.site_core.specs.Ledgers.{owed_by, number_of_taking}
use Rattle.entry_codec.specs.Spelling.{LineOf}
use Rattle.site_core.specs.Calls.{DeskApplies}
use Rattle.inbound.specs.Inbounds.{QueryOf}
use Rattle.world_core.specs.Values.{LinkValue, PacketValue, WorldValue}
use Rattle.world_core.specs.Values.BodyValue.{Text}
use Rattle.world_core.specs.Worlds.{count, desk, log, row, link, with_packet, put, applied, with_desk, with_link}
use Rattle.world_core.specs.LinkEvents.{SendsIf, Asked, with_applied, TakesNext}
use Rattle.world_core.specs.Sound.{IsWorld, SiteSound}
use Rattle.world_core.specs.declared.reply.Reply.TheVariants.{Packet, Nothing}
use Rattle.world_core.proofs.EventPlaces.{Lent, with_at, LentRow, with_row_at, relinked}

-- ---- lines that are sent

-- a line that spells the message goes into a packet, which is the last
pub sends_line : (A : Type 0) {V : Type 0} (bytes : V → List ℕ) (there w : WorldValue) (s p n : ℕ)
    (m : Option MessageValue) (line : V) (text : List ℕ) (packet : PacketValue) (before after : List PacketValue)
    → there ≡ w → LineOf bytes m (Some line) → text ≡ bytes line
    → packet ≡ record { from = s; to = p; body = Text text } → before ≡ there.packets → n ≡ length before + 1
    → after ≡ before ++ packet ∷ [] → SendsIf {A = A} w s p m (Ok (Packet n)) (record there { packets = after })
sends_line A bytes there w s p n None line text packet before after same spells is made room number added =
    absurd spells
sends_line A bytes there w s p n (Some m) line text packet before after same spells is made room number added =
    let sent : PacketValue = record { from = s; to = p; body = Text (bytes line) } in
    let made_of : packet ≡ sent = made ∙ ap (λ t. record { from = s; to = p; body = Text t }) is in
    record {
      text = bytes line;
      spelled = spells;
      last = number ∙ ap (λ (ps : List PacketValue). length ps + 1) (room ∙ ap (λ (v : WorldValue). v.packets) same);
      left = ap (λ ps. record there { packets = ps }) (added ∙ ap (λ ps. ps ++ packet ∷ []) room
          ∙ ap (λ x. there.packets ++ x ∷ []) made_of) ∙ ap (λ v. with_packet v sent) same;
    }

-- if there is no line, there is no message
pub sends_none : (A : Type 0) {V : Type 0} (bytes : V → List ℕ) (w : WorldValue) (s p : ℕ) (m : Option MessageValue)
    → LineOf bytes m None → SendsIf {A = A} w s p m (Ok Nothing) w
sends_none A bytes w s p None none = refl
sends_none A bytes w s p (Some m) none = absurd none

-- ---- entries that are taken

-- the gap counts as asked for
pub asked : (there w : WorldValue) (j s o : ℕ) (again : Bool) (links left : List (Option LinkValue))
    (before after : LinkValue) (q : Option QueryValue)
    → LentRow there w j s links → at_site links o None ≡ Some before → QueryOf before.inbound again q after.inbound
    → after ≡ record before { inbound = after.inbound } → left ≡ set_site links o (Some after)
    → Asked w s o again q (with_row_at there j left)
asked there w j s o again links left before after q at is asks rest change = record {
  before = before;
  there = subst (λ r. at_site r o None ≡ Some before) at.is is;
  after = after.inbound;
  asks = asks;
  left = relinked there w j s o links left after at change ∙ ap (λ l. with_link w s o l) rest;
}

-- if no entry is next, all that was delivered was applied
pub all_applied : (xs ys : List EntryValue) → IsPrefix xs ys → slice_get ys (length xs) ≡ None → xs ≡ ys
all_applied xs ys ([], whole) none = sym (append-nil xs) ∙ whole
all_applied xs ys (e ∷ rest, whole) none =
    elim (slice_get_cases ys (length xs)).1 [
      | inl p ↦ let bad : Some p.0 ≡ None = sym p.2 ∙ none in absurd cc
      | inr p ↦ absurd (omega (arith, p.0, ap length whole, length-append xs (e ∷ rest)))
    ]

-- what a desk requires of the entry e of o that it is to apply
pub record CanApply (d : DeskValue) (o : ℕ) (e : EntryValue) : Type 0 where
  pub site : o ≤ sites d.ledger.book
  pub other : o ≢ d.ledger.log.site
  pub unclosed : (peer d.ledger.book o).log.closed ≡ false
  pub next : e.prev ≡ (peer d.ledger.book o).log.end

-- the next entry continues what was applied, which the desk's book represents
pub can_apply : (w : WorldValue) (s o : ℕ) (e : EntryValue) → IsWorld w → IsSiteOf (count w) s → IsSiteOf (count w) o
    → s ≢ o → slice_get (put w s o) (length (applied w s o)) ≡ Some e → CanApply (desk w s) o e
can_apply w s o e is here there other next =
    let sound : SiteSound w s = is.sites s here in
    let kept = is.kept.links s o in
    let more = link_applies (log w o) _ (put w s o) (applied w s o) e kept next in
    let chain : IsChain o (put w s o) =
    prefix_chain o (put w s o) (log w o) (kept.longest.rest, kept.longest.whole) (is.kept.sites o).chain in
    let longer : IsChain o (applied w s o ++ e ∷ []) =
    prefix_chain o (applied w s o ++ e ∷ []) (put w s o) more.begins chain in
    let last = chain_right o false 0 (applied w s o) (e ∷ []) longer in
    let sums = sound.applied.in_book.sums o in
    record {
      site = omega (arith, sound.system, there.1);
      other = λ same. other (sym (same ∙ sound.me));
      unclosed = ap (λ (a : Account). a.closed) sums ∙ last.0;
      next = last.2 ∙ sym (ap (λ (a : Account). a.end) sums);
    }

-- s takes the next entry of o: its desk applied it, and the link counts it
pub takes : (there w : WorldValue) (i j s o n : ℕ) (was d : DeskValue) (links left : List (Option LinkValue))
    (e : EntryValue) (back : Option ℕ)
    → Lent there w i s was → LentRow there w j s links
    → (before : LinkValue) × (at_site links o None ≡ Some before)
    × ((x : EntryValue) → slice_get before.put (length before.applied) ≡ Some x
    → left ≡ set_site links o (Some (with_applied before x)))
    → slice_get (put w s o) (length (applied w s o)) ≡ Some e → has_closed was ≡ false → n ≡ own e
    → DeskApplies was o e d
    → back ≡ number_of_taking (owed_by was.ledger o e) d.ledger.log
    → TakesNext w s o n back (record (with_at there i d) { links = set there.links j left })
takes there w i j s o n was d links left e back at row counted next unclosed number applies taken =
    let before = counted.0 in
    let is : link w s o ≡ Some before = subst (λ r. at_site r o None ≡ Some before) row.is counted.1 in
    let is_next : slice_get before.put (length before.applied) ≡ Some e = rw is at next in
    let change : WorldValue → WorldValue → WorldValue = λ ls v. record v { links = ls.links } in
    let counts = relinked there w j s o links left (with_applied before e) row (counted.2 e is_next) in
    record {
      before = before;
      there = is;
      unclosed = subst (λ x. has_closed x ≡ false) at.is unclosed;
      next = e;
      is_next = is_next;
      number_is = number;
      after = d;
      applies = subst (λ x. DeskApplies x o e d) at.is applies;
      back_is = subst (λ (x : DeskValue). back ≡ number_of_taking (owed_by x.ledger o e) d.ledger.log) at.is taken;
      left = ap (λ v. change (with_row_at there j left) v) (at.changed d)
          ∙ ap (λ ls. change ls (with_desk w s d)) counts;
    }
