-- A take preserves the invariant of the world: the site applies one more entry, and its desk may reclaim because of
-- it.
use Rattle.std.proofs.Common.{◌≡◌, ◌≢◌, ℕ, Bool, true, false, cond, eqb, inl, inr, List, [], ◌∷◌, ◌++◌, length, map}
use Rattle.std.proofs.Common.{Option, Some, None, Result, Ok, Err, refl, ap, sym, subst, ◌∙◌, arith, append-nil}
use Rattle.std.specs.List.{slice_get}
use Rattle.std.proofs.lemmas.Bool.{both_ways}
use Rattle.rights_types.specs.Entries.{EntryValue}
use Rattle.rights_types.specs.Chains.{IsChain, IsPrefix, is_closed, AddsEntry}
use Rattle.rights_types.specs.declared.moves.Move.{Move}
use Rattle.rights_types.specs.declared.moves.Move.TheVariants.{Issue, Spend, Grant, Give, Close, CloseAt, TakeBack}
use Rattle.rights_types.proofs.Chains.{chain_right}
use Rattle.rights_types.proofs.Places.{length-set_site}
use Rattle.rights_types.specs.Places.{set_site}
use Rattle.rights_protocol.specs.Lists.{IsSiteOf}
use Rattle.rights_protocol.specs.Retiring.{numbers_in, owed, entry_at_end, taking_back}
use Rattle.rights_protocol.specs.Changes.{Takes}
use Rattle.rights_protocol.specs.Changes.Change.{Take}
use Rattle.rights_protocol.specs.Invariant.{Invariant}
use Rattle.origin_log.specs.Logs.{LogValue}
use Rattle.rights_book.specs.Books.{BookValue, sites}
use Rattle.rights_book.specs.declared.account.Account.{Account}
use Rattle.transfer_manager.specs.Managers.{ManagerValue}
use Rattle.site_core.specs.Ledgers.{HasApplied, TakesBackIf, IsNextOf}
use Rattle.site_core.specs.Desks.{DeskValue, DeskSound, after_grant, after_grants}
use Rattle.site_core.specs.Calls.{DeskApplies}
use Rattle.site_core.specs.Faults.{has_closed}
use Rattle.site_core.proofs.Keeping.{ApplyKept, apply_kept}
use Rattle.world_core.specs.Values.{LinkValue, WorldValue}
use Rattle.world_core.specs.Worlds.{count, desk, with_desk, log, row, link, with_link, list_of, applied, lists_of}
use Rattle.world_core.specs.Faults.{link_fault}
use Rattle.world_core.specs.LinkEvents.{with_applied, TakesNext, TakeHappens}
use Rattle.world_core.specs.Sound.{SiteSound, LinkSound, IsWorld}
use Rattle.world_core.specs.declared.reply.Reply.{Reply}
use Rattle.world_core.specs.declared.reply.Reply.TheVariants.{Taken, TakenBack, Nothing}
use Rattle.world_core.specs.declared.fault.WorldError.{WorldError}
use Rattle.world_core.specs.declared.fault.WorldError.TheVariants.{OutOfMemory}
use Rattle.world_core.proofs.WorldGoesOn.{Leads, leads, WorldGoesOn, unchanged}
use Rattle.world_core.proofs.Native.{NativeLog, native_taking, native_push}
use Rattle.world_core.proofs.DeskKeeps.{desk_there, desk_elsewhere, same_count, LogsGoOn, link_goes_on, all_sent_go_on}
use Rattle.world_core.proofs.DeskKeeps.{DeskGoesOn, logs_longer, native_still, IsDeskOf, desks_still, each_desk}
use Rattle.world_core.proofs.LinkKeeps.{same_lists, link_cases, link_there, link_elsewhere, width_kept, list_kept}
use Rattle.world_core.proofs.SendKeeps.{Ends, ends_known}

-- ---- the desk that applied an entry

-- grants end asks, and do not change whose asks they are
same_asker : (me o : ℕ) (ms : List Move) (m : ManagerValue) → (after_grants me o ms m).me ≡ m.me
same_asker me o [] m = refl
same_asker me o (x ∷ xs) m = same_asker me o xs (after_grant me o x m) ∙ one x
  where
    given : (b : Bool) (k : ManagerValue) → k.me ≡ m.me → (cond b k m).me ≡ m.me
    given true k same = same
    given false k same = refl

    one : (x : Move) → (after_grant me o x m).me ≡ m.me
    one (Grant k n a) = given _ _ refl
    one (Issue n) = refl
    one (Spend n) = refl
    one (Give k n) = refl
    one Close = refl
    one (CloseAt f) = refl
    one (TakeBack k n) = refl

-- a reclaim does not change the sites
same_system : (none : Bool) (old : BookValue) (o n : ℕ) (new : BookValue) → TakesBackIf none old o n new
    → sites new ≡ sites old
same_system true old o n new h = ap (λ (b : BookValue). sites b) h
same_system false old o n new h = h.same_sites

-- a log with what was reclaimed from o
native_taken : (n s o amount : ℕ) (none : Bool) (es : List EntryValue) → IsSiteOf n o → NativeLog n es
    → NativeLog n (es ++ map (entry_at_end s es) (cond none [] ((TakeBack o amount ∷ []) ∷ [])))
native_taken n s o amount true es from before = subst (NativeLog n) (sym (append-nil es)) before
native_taken n s o amount false es from before =
    native_push n es (entry_at_end s es (TakeBack o amount ∷ [])) before (native_taking n o amount from)

-- the log of s after it applied the entry e of o
log_after : (w : WorldValue) (s o : ℕ) (e : EntryValue) (d : DeskValue) → IsWorld w → IsSiteOf (count w) s
    → DeskApplies (desk w s) o e d → d.ledger.log.entries ≡ log w s ++ taking_back s o (log w s) e
log_after w s o e d is site h =
    ap (λ (l : LogValue). l.entries) h.entry.log ∙ ap (λ j. log w s ++ taking_back j o (log w s) e) (is.sites s site).me

-- the log of a desk that applied an entry stays or grows
desk_applies : (w : WorldValue) (s o : ℕ) (e : EntryValue) (d : DeskValue) → IsWorld w → Ends w s o
    → DeskApplies (desk w s) o e d → DeskSound d → DeskGoesOn w s d
desk_applies w s o e d is ends h sound =
    let here : SiteSound w s = is.sites s ends.site in
    let wrote : d.ledger.log.entries ≡ log w s ++ taking_back s o (log w s) e = log_after w s o e d is ends.site h in
    let owes : ℕ = owed s o (log w s) (numbers_in e.moves) in
    record {
      own = record {
        me = ap (λ (l : LogValue). l.site) h.entry.log ∙ here.me;
        manager = ap (λ (x : DeskValue). x.manager.me) h.rest
            ∙ same_asker (desk w s).ledger.log.site o e.moves (desk w s).manager ∙ here.manager;
        system = h.entry.book.same_sites ∙ same_system _ _ o _ _ h.entry.taken ∙ here.system;
      };
      sound = sound;
      longer = (taking_back s o (log w s) e, sym wrote);
      native = subst (NativeLog (count w)) (sym wrote)
          (native_taken (count w) s o owes (eqb owes 0) (log w s) ends.from (is.native s));
    }

-- ---- the world after a take

-- s applied the entry e of o, which was the next delivered one on its link
record Applied (w : WorldValue) (s o : ℕ) (l : LinkValue) (e : EntryValue) (d : DeskValue) : Type 0 where
  ends : Ends w s o
  there : link w s o ≡ Some l
  unclosed : is_closed (log w s) ≡ false
  next : slice_get l.put (length l.applied) ≡ Some e
  desk : DeskApplies (desk w s) o e d

abbrev after : WorldValue → ℕ → ℕ → LinkValue → EntryValue → DeskValue → WorldValue
after w s o l e d = with_desk (with_link w s o (with_applied l e)) s d

-- one more entry of the log of o was applied at s, and none of any other log
adds : (w : WorldValue) (s o : ℕ) (l : LinkValue) (e : EntryValue) (d : DeskValue) → IsWorld w → Applied w s o l e d
    → AddsEntry (applied w s) o e (applied (after w s o l e d) s)
adds w s o l e d is h = record {
  there = ap (list_of (λ x. x.applied)) (link_there w s o (with_applied l e) is h.ends.site h.ends.from)
      ∙ ap (λ (es : List EntryValue). es ++ e ∷ []) (ap (list_of (λ x. x.applied)) (sym h.there));
  elsewhere = λ k ne. ap (list_of (λ x. x.applied))
      (link_elsewhere w s o s k (with_applied l e) is h.ends.site h.ends.from (inr ne));
}

-- the protocol's take
takes : (w : WorldValue) (s o : ℕ) (l : LinkValue) (e : EntryValue) (d : DeskValue) → IsWorld w → Applied w s o l e d
    → Takes (lists_of w) (lists_of (after w s o l e d)) s o
takes w s o l e d is h =
    let new : LinkValue = with_applied l e in
    let site : IsSiteOf (count w) s = h.ends.site in
    let from : IsSiteOf (count w) o = h.ends.from in
    let elsewhere = λ (k j : ℕ) (ne : k ≢ s). link_elsewhere w s o k j new is site from (inl ne) in
    record {
      site = site;
      from = from;
      differ = λ p. h.ends.differ (sym p);
      unclosed = h.unclosed;
      entry = e;
      next = subst
          (λ (x : Option LinkValue). slice_get (list_of (λ y. y.put) x) (length (list_of (λ y. y.applied) x)) ≡ Some e)
          (sym h.there) h.next;
      applied = adds w s o l e d is h;
      log = ap (λ (x : DeskValue). x.ledger.log.entries) (desk_there w s d site) ∙ log_after w s o e d is site h.desk;
      reached = λ k. list_kept w s o s k l new (λ x. x.reached) is site from h.there refl;
      put = λ k. list_kept w s o s k l new (λ x. x.put) is site from h.there refl;
      others = record {
        count = same_count w s d;
        sites = λ k ne. record {
          log = ap (λ (x : DeskValue). x.ledger.log.entries) (desk_elsewhere w s k d site ne);
          links = λ j. record {
            reached = ap (list_of (λ x. x.reached)) (elsewhere k j ne);
            put = ap (list_of (λ x. x.put)) (elsewhere k j ne);
            applied = ap (list_of (λ x. x.applied)) (elsewhere k j ne);
          };
        };
      };
    }

-- it was the next entry of o, which had not closed, as far as s had applied its log
is_next : (w : WorldValue) (s o : ℕ) (l : LinkValue) (e : EntryValue) (d : DeskValue) → IsWorld w
    → Applied w s o l e d → Invariant (lists_of (after w s o l e d)) → IsNextOf (desk w s).ledger.book o e
is_next w s o l e d is h kept =
    let here : SiteSound w s = is.sites s h.ends.site in
    let before : List EntryValue = applied w s o in
    let longer : IsChain o (before ++ e ∷ []) =
    subst (IsChain o) (adds w s o l e d is h).there ((kept.sites s).chains o) in
    let last = chain_right o false 0 before (e ∷ []) longer in
    let account = here.applied.in_book.sums o in
    let me : (desk w s).ledger.book.me ≡ s = here.sound.ledger.same_site ∙ here.me in
    record {
      site = (h.ends.from.0, omega (arith, h.ends.from.1, is.kept.few));
      high = omega (arith, h.ends.from.1, here.system);
      other = λ q. h.ends.differ (q ∙ me);
      unclosed = ap (λ (a : Account). a.closed) account ∙ last.0;
      next = last.2 ∙ sym (ap (λ (a : Account). a.end) account);
      moves = last.3.moves;
      number = last.3.number;
    }

-- so its desk is still sound, and what it applied is one entry more
desk_after : (w : WorldValue) (s o : ℕ) (l : LinkValue) (e : EntryValue) (d : DeskValue) → IsWorld w
    → (h : Applied w s o l e d) → Invariant (lists_of (after w s o l e d))
    → ApplyKept (desk w s).ledger o e h.desk.entry.between d.ledger
desk_after w s o l e d is h kept =
    let here : SiteSound w s = is.sites s h.ends.site in
    apply_kept (desk w s).ledger d.ledger o e here.sound.ledger here.sound.book (is_next w s o l e d is h kept)
    h.unclosed
    h.desk.entry

sound_after : (w : WorldValue) (s o : ℕ) (l : LinkValue) (e : EntryValue) (d : DeskValue) → IsWorld w
    → (h : Applied w s o l e d) → Invariant (lists_of (after w s o l e d)) → DeskSound d
sound_after w s o l e d is h kept =
    let k : ApplyKept (desk w s).ledger o e h.desk.entry.between d.ledger = desk_after w s o l e d is h kept in
    record { ledger = k.ledger; book = k.book; idle = λ closed. absurd (both_ways (has_closed d) k.unclosed closed) }

-- each site is still sound
site_after : (w : WorldValue) (s o : ℕ) (l : LinkValue) (e : EntryValue) (d : DeskValue) → IsWorld w
    → Applied w s o l e d → Invariant (lists_of (after w s o l e d)) → (k : ℕ) → IsSiteOf (count w) k
    → SiteSound (after w s o l e d) k
site_after w s o l e d is h kept k among =
    let new : WorldValue = after w s o l e d in
    let later : LinkValue = with_applied l e in
    let site : IsSiteOf (count w) s = h.ends.site in
    let from : IsSiteOf (count w) o = h.ends.from in
    let old : SiteSound w k = is.sites k among in
    let sound : DeskSound d = sound_after w s o l e d is h kept in
    let own : IsDeskOf (count w) k (desk new k) =
    desks_still w s d is site (desk_applies w s o e d is h.ends h.desk sound) k among in
    let here : HasApplied (applied new s) d.ledger =
    (desk_after w s o l e d is h kept).keeps.applied.all (applied w s) (applied new s) (is.sites s site).applied
    (adds w s o l e d is h)
    ((kept.sites s).chains o) in
    let others : (i : ℕ) → i ≢ s → IsSiteOf (count w) i → HasApplied (applied new i) (desk w i).ledger = λ i ne a.
    let same : applied new i ≡ applied w i =
    same_lists (applied w i) (applied new i)
    (λ j. ap (list_of (λ x. x.applied)) (link_elsewhere w s o i j later is site from (inl ne))) in
    subst (λ lists. HasApplied lists (desk w i).ledger) (sym same) (is.sites i a).applied in
    record {
      me = own.me;
      manager = own.manager;
      system = own.system ∙ sym (same_count w s d);
      sound = each_desk (λ i x. IsSiteOf (count w) i → DeskSound x) w s d site (λ _. sound)
          (λ i _ a. (is.sites i a).sound) k among;
      applied = each_desk (λ i x. IsSiteOf (count w) i → HasApplied (applied new i) x.ledger) w s d site (λ _. here)
          others k among;
      width = width_kept w s o k later is site ∙ old.width ∙ sym (same_count w s d);
      itself = elim (link_cases w s o k k later is site from) [
        | inl p ↦ absurd (h.ends.differ (sym p.1 ∙ p.0))
        | inr p ↦ p.1 ∙ old.itself
      ];
      others = λ j a ne. elim (link_cases w s o k j later is site from) [
        | inl p ↦ (later, p.2)
        | inr p ↦
            let other = old.others j (subst (λ n. IsSiteOf n j) (same_count w s d) a) ne in
            (other.0, p.1 ∙ other.1)
      ];
    }

-- a link of which more was applied is still sound
link_after : (w : WorldValue) (s o k j : ℕ) (l x : LinkValue) (e : EntryValue) → IsWorld w → IsSiteOf (count w) s
    → IsSiteOf (count w) o → link w s o ≡ Some l → link (with_link w s o (with_applied l e)) k j ≡ Some x
    → LinkSound w k j x
link_after w s o k j l x e is site from there at = elim (link_cases w s o k j (with_applied l e) is site from) [
  | inl p ↦
      let h : LinkSound w s o l = is.links s o l there in
      let later : LinkSound w s o (with_applied l e) =
      record { me = h.me; origin = h.origin; system = h.system; settled = h.settled; follows = h.follows } in
      let same : with_applied l e ≡ x = let both : Some (with_applied l e) ≡ Some x = sym p.2 ∙ at in cc in
      subst (λ i. LinkSound w i j x) (sym p.0)
      (subst (λ i. LinkSound w s i x) (sym p.1) (subst (LinkSound w s o) same later))
  | inr p ↦ is.links k j x (sym p.1 ∙ at)
]

-- so the invariant of the world holds
take_world : (w : WorldValue) (s o : ℕ) (l : LinkValue) (e : EntryValue) (d : DeskValue) → IsWorld w
    → Applied w s o l e d → WorldGoesOn w (after w s o l e d)
take_world w s o l e d is h =
    let new : WorldValue = after w s o l e d in
    let by : Leads w new = leads w new (Take s o) is (takes w s o l e d is h) in
    let next : DeskGoesOn w s d = desk_applies w s o e d is h.ends h.desk (sound_after w s o l e d is h by.kept) in
    let longer : (k : ℕ) → IsPrefix (log w k) (log new k) = logs_longer w s d h.ends.site next in
    let logs : LogsGoOn w new =
    record { same = same_count w s d; longer = longer; chains = λ k. (by.kept.sites k).chain } in
    record {
      is = record {
        kept = by.kept;
        rows = length-set_site w.links s (set_site (row w s) o (Some (with_applied l e))) ∙ is.rows
            ∙ sym (same_count w s d);
        sites = λ k among. site_after w s o l e d is h by.kept k (subst (λ n. IsSiteOf n k) (same_count w s d) among);
        links = λ k j x at. link_goes_on w new k j x logs
            (link_after w s o k j l x e is h.ends.site h.ends.from h.there at);
        native = native_still w s d is h.ends.site next;
        sent = all_sent_go_on w new w.packets logs is.sent;
      };
      refines = by.refines;
    }

-- a take that took an entry
takes_next : (old new : WorldValue) (s o number : ℕ) (back : Option ℕ) → IsWorld old → Ends old s o
    → TakesNext old s o number back new → WorldGoesOn old new
takes_next old new s o number back is ends h =
    let how : Applied old s o h.before h.next h.after = record {
      ends = ends;
      there = h.there;
      unclosed = h.unclosed;
      next = h.is_next;
      desk = h.applies;
    } in
    subst (WorldGoesOn old) (sym h.left) (take_world old s o h.before h.next h.after is how)

-- a take preserves the invariant of the world, whatever its result
pub take_keeps : {A : Type 0} (old new : WorldValue) (s o : ℕ) (outcome : Result (Reply A) WorldError) → IsWorld old
    → link_fault old s o ≡ None → TakeHappens old s o outcome new → WorldGoesOn old new
take_keeps old new s o (Ok (Taken number)) is known h =
    takes_next old new s o number None is (ends_known old s o known) h
take_keeps old new s o (Ok (TakenBack number back)) is known h =
    takes_next old new s o number (Some back) is (ends_known old s o known) h
take_keeps old new s o (Ok Nothing) is known h = subst (WorldGoesOn old) (sym h.1) (unchanged old is)
take_keeps old new s o (Err OutOfMemory) is known h = subst (WorldGoesOn old) (sym h.1) (unchanged old is)
take_keeps old new s o outcome is known h = absurd h
