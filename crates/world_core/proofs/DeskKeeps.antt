-- Events at a desk preserve the invariant of the world.
use Rattle.std.proofs.Common.{◌≡◌, ◌≢◌, ℕ, ◌≤◌, true, false, inl, inr, List, [], ◌∷◌, ◌++◌, length, Option, Some, None}
use Rattle.std.proofs.Common.{refl, ap, sym, subst, ◌∙◌, arith, append-nil}
use Rattle.std.specs.List.{All, Contains}
use Rattle.std.proofs.lemmas.Bool.{both_ways}
use Rattle.std.proofs.lemmas.List.{length-append}
use Rattle.std.proofs.lemmas.List.Elements.{All-head, All-weaker, Contains-append_left}
use Rattle.rights_types.specs.Entries.{EntryValue}
use Rattle.rights_types.specs.Chains.{end, is_closed, IsChain, IsPrefix}
use Rattle.rights_types.specs.Moves.{IsMove}
use Rattle.rights_types.specs.Messages.{AskValue, MessageValue}
use Rattle.rights_types.specs.Messages.MessageValue.{AnEntry, AQuery, AnAnswer, ABeat, AnAsk, ADenial, AHello}
use Rattle.rights_types.specs.declared.moves.Move.{Move}
use Rattle.rights_types.specs.declared.moves.Move.TheVariants.{Grant}
use Rattle.rights_types.proofs.Places.{at_set_site, length-set_site}
use Rattle.rights_types.proofs.Chains.{end_from-append, end_from-le, chain_right}
use Rattle.rights_protocol.specs.Lists.{IsSiteOf}
use Rattle.rights_protocol.specs.Retiring.{entry_at_end}
use Rattle.rights_protocol.specs.Writing.{MayAppend, MayClose, closing_moves}
use Rattle.rights_protocol.specs.Changes.{OthersStay, Stays}
use Rattle.rights_protocol.specs.Changes.Change.{Append, CloseSite, Nothing}
use Rattle.origin_log.specs.Logs.{LogValue, with_entry}
use Rattle.rights_book.specs.Books.{BookValue, sites, IsBook}
use Rattle.request_queue.specs.Queues.{QueueValue}
use Rattle.transfer_manager.specs.Managers.{ended}
use Rattle.transfer_manager.specs.declared.answer.AskAnswer.{AskAnswer}
use Rattle.transfer_manager.specs.declared.answer.AskAnswer.TheVariants.{Grant as Granted, Deny, RepeatedDeny, Repeated}
use Rattle.transfer_manager.specs.declared.answer.AskAnswer.TheVariants.{OldAsk}
use Rattle.sub_buffer.specs.Follows.{Follows}
use Rattle.sub_buffer.proofs.Growth.{follows_longer}
use Rattle.site_core.specs.Ledgers.{LedgerValue, HasApplied, SameApplied, IsWritable, WritesEntry, WritesClosing}
use Rattle.site_core.specs.Ledgers.{ClosesAs, closing_by}
use Rattle.site_core.specs.Calls.{next_push, published_if, after_publish, answer_of, DeskAnswers}
use Rattle.site_core.specs.Desks.{DeskValue, DeskSound, new_desk}
use Rattle.site_core.specs.Faults.{has_closed}
use Rattle.site_core.proofs.Keeping.{EntryKept, entry_kept, ClosingKept, closing_kept}
use Rattle.site_core.proofs.Tested.{CanClose, grant_writable}
use Rattle.world_core.specs.Values.{LinkValue, BodyValue, PacketValue, WorldValue}
use Rattle.world_core.specs.Values.BodyValue.{EntryAt, Text}
use Rattle.world_core.specs.Worlds.{count, desk, with_desk, log, applied, lists_of}
use Rattle.world_core.specs.Sound.{SiteSound, LinkSound, IsSaid, IsBody, IsSent, IsNative, IsWorld}
use Rattle.world_core.proofs.WorldGoesOn.{Leads, leads, WorldGoesOn}
use Rattle.world_core.proofs.Native.{NativeMove, NativeLog, native_append, native_closing, native_push}

-- ---- desks after one of them was changed

-- the desk that was changed, and the others
pub desk_there : (w : WorldValue) (s : ℕ) (d : DeskValue) → IsSiteOf (count w) s → desk (with_desk w s d) s ≡ d
desk_there w s d site =
    elim (at_set_site w.desks s s d (new_desk 0 0) site.0 site.1) [
      | inl p ↦ p.1
      | inr p ↦ absurd (p.0 refl)
    ]

pub desk_elsewhere : (w : WorldValue) (s k : ℕ) (d : DeskValue) → IsSiteOf (count w) s → k ≢ s
    → desk (with_desk w s d) k ≡ desk w k
desk_elsewhere w s k d site other =
    elim (at_set_site w.desks s k d (new_desk 0 0) site.0 site.1) [
      | inl p ↦ absurd (other p.0)
      | inr p ↦ p.1
    ]

-- what holds of all desks holds after one of them was changed
pub each_desk : (P : ℕ → DeskValue → Type 0) (w : WorldValue) (s : ℕ) (d : DeskValue) → IsSiteOf (count w) s → P s d
    → ((k : ℕ) → k ≢ s → P k (desk w k)) → (k : ℕ) → P k (desk (with_desk w s d) k)
each_desk P w s d site here others k =
    elim (at_set_site w.desks s k d (new_desk 0 0) site.0 site.1) [
      | inl p ↦ subst (P k) (sym p.1) (subst (λ j. P j d) (sym p.0) here)
      | inr p ↦ subst (P k) (sym p.1) (others k p.0)
    ]

-- there are as many desks
pub same_count : (w : WorldValue) (s : ℕ) (d : DeskValue) → count (with_desk w s d) ≡ count w
same_count w s d = length-set_site w.desks s d

-- ---- logs that go on

-- of the same sites, each log grows, and is still a chain
pub record LogsGoOn (old new : WorldValue) : Type 0 where
  pub same : count new ≡ count old
  pub longer : (o : ℕ) → IsPrefix (log old o) (log new o)
  pub chains : (o : ℕ) → IsChain o (log new o)

-- a link continues to follow the longer log
pub link_goes_on : (old new : WorldValue) (s o : ℕ) (l : LinkValue) → LogsGoOn old new → LinkSound old s o l
    → LinkSound new s o l
link_goes_on old new s o l logs h =
    let more : List EntryValue = (logs.longer o).0 in
    let whole : log old o ++ more ≡ log new o = (logs.longer o).1 in
    let chain : IsChain o (log old o ++ more) = subst (IsChain o) (sym whole) (logs.chains o) in
    let here : IsChain l.inbound.buffer.origin (log old o ++ more) =
    subst (λ j. IsChain j (log old o ++ more)) (sym h.origin) chain in
    record {
      me = h.me;
      origin = h.origin;
      system = h.system ∙ sym logs.same;
      settled = h.settled;
      follows = subst (λ es. Follows es l.reached l.put l.inbound.buffer) whole
          (follows_longer l.inbound.buffer (log old o) more l.reached l.put here h.follows);
    }

-- a log that grows ends no earlier
end_longer : (o : ℕ) (xs ys : List EntryValue) → IsChain o ys → IsPrefix xs ys → end xs ≤ end ys
end_longer o xs ys chain (more, whole) =
    let split : IsChain o (xs ++ more) = subst (IsChain o) (sym whole) chain in
    let ends : end ys ≡ end (xs ++ more) = ap end (sym whole) in
    omega (arith, ends, end_from-append 0 xs more, end_from-le o _ (end xs) more (chain_right o false 0 xs more split))

-- a message about a log may also be sent about the longer log
said_goes_on : (old new : WorldValue) (s p : ℕ) (m : MessageValue) → LogsGoOn old new → IsSaid old s p m
    → IsSaid new s p m
said_goes_on old new s p (AnEntry e) logs h = h
said_goes_on old new s p (AQuery q) logs h = h
said_goes_on old new s p (AnAnswer a) logs h =
    let more : List EntryValue = (logs.longer s).0 in
    let within : (e : EntryValue) → Contains (log old s) e → Contains (log new s) e =
    λ e i. subst (λ es. Contains es e) (logs.longer s).1 (Contains-append_left (log old s) more e i) in
    (h.0, h.1, All-weaker (Contains (log old s)) (Contains (log new s)) within a.entries h.2)
said_goes_on old new s p (ABeat b) logs h =
    (h.0, omega (arith, h.1, end_longer s (log old s) (log new s) (logs.chains s) (logs.longer s)))
said_goes_on old new s p (AnAsk a) logs h = h
said_goes_on old new s p (ADenial d) logs h = h
said_goes_on old new s p (AHello site) logs h = h

-- an entry is still at its index
body_goes_on : (old new : WorldValue) (s p : ℕ) (b : BodyValue) → LogsGoOn old new → IsBody old s p b → IsBody new s p b
body_goes_on old new s p (EntryAt place) logs h =
    let long : length (log new s) ≡ length (log old s ++ (logs.longer s).0) = ap length (sym (logs.longer s).1) in
    omega (arith, h, long, length-append (log old s) (logs.longer s).0)
body_goes_on old new s p (Text text) logs h = (h.0, h.1, said_goes_on old new s p h.0 logs h.2)

-- so packets that could be sent before can still be sent
pub sent_goes_on : (old new : WorldValue) (p : PacketValue) → LogsGoOn old new → IsSent old p → IsSent new p
sent_goes_on old new p logs h = record {
  from = subst (λ n. IsSiteOf n p.from) (sym logs.same) h.from;
  to = subst (λ n. IsSiteOf n p.to) (sym logs.same) h.to;
  differ = h.differ;
  said = body_goes_on old new p.from p.to p.body logs h.said;
}

pub all_sent_go_on : (old new : WorldValue) (ps : List PacketValue) → LogsGoOn old new → All (IsSent old) ps
    → All (IsSent new) ps
all_sent_go_on old new ps logs h = All-weaker (IsSent old) (IsSent new) (λ p x. sent_goes_on old new p logs x) ps h

-- ---- a desk that goes on with that of s

-- a desk of site k among n sites
pub record IsDeskOf (n k : ℕ) (d : DeskValue) : Type 0 where
  pub me : d.ledger.log.site ≡ k
  pub manager : d.manager.me ≡ k
  pub system : sites d.ledger.book ≡ n

-- a desk of s with its log, to which moves of this system may have been added
pub record DeskGoesOn (w : WorldValue) (s : ℕ) (d : DeskValue) : Type 0 where
  pub own : IsDeskOf (count w) s d
  pub sound : DeskSound d
  pub longer : IsPrefix (log w s) d.ledger.log.entries
  pub native : NativeLog (count w) d.ledger.log.entries

-- a log that did not change is a prefix of itself
longer_itself : (es : List EntryValue) → IsPrefix es es
longer_itself es = ([], append-nil es)

-- each log is a prefix of the new one
pub logs_longer : (w : WorldValue) (s : ℕ) (d : DeskValue) → IsSiteOf (count w) s → DeskGoesOn w s d → (o : ℕ)
    → IsPrefix (log w o) (log (with_desk w s d) o)
logs_longer w s d site next =
    each_desk (λ k x. IsPrefix (log w k) x.ledger.log.entries) w s d site next.longer (λ k _. longer_itself (log w k))

-- no log has moves that do not fit this system
pub native_still : (w : WorldValue) (s : ℕ) (d : DeskValue) → IsWorld w → IsSiteOf (count w) s → DeskGoesOn w s d
    → (k : ℕ) → IsNative (with_desk w s d) k
native_still w s d is site next k =
    subst (λ n. NativeLog n (log (with_desk w s d) k)) (sym (same_count w s d))
    (each_desk (λ k x. NativeLog (count w) x.ledger.log.entries) w s d site next.native (λ k _. is.native k) k)

-- each site still has its own desk
own_desk : (w : WorldValue) (k : ℕ) → IsWorld w → IsSiteOf (count w) k → IsDeskOf (count w) k (desk w k)
own_desk w k is among =
    let old : SiteSound w k = is.sites k among in record { me = old.me; manager = old.manager; system = old.system }

pub desks_still : (w : WorldValue) (s : ℕ) (d : DeskValue) → IsWorld w → IsSiteOf (count w) s → DeskGoesOn w s d
    → (k : ℕ) → IsSiteOf (count w) k → IsDeskOf (count w) k (desk (with_desk w s d) k)
desks_still w s d is site next =
    each_desk (λ k x. IsSiteOf (count w) k → IsDeskOf (count w) k x) w s d site (λ _. next.own)
    (λ k _ among. own_desk w k is among)

-- each site is still sound
site_still : (w : WorldValue) (s : ℕ) (d : DeskValue) → IsWorld w → IsSiteOf (count w) s → DeskGoesOn w s d
    → HasApplied (applied w s) d.ledger → (k : ℕ) → IsSiteOf (count w) k → SiteSound (with_desk w s d) k
site_still w s d is site next stands k among =
    let old : SiteSound w k = is.sites k among in
    let own : IsDeskOf (count w) k (desk (with_desk w s d) k) = desks_still w s d is site next k among in
    record {
      me = own.me;
      manager = own.manager;
      system = own.system ∙ sym (same_count w s d);
      sound = each_desk (λ k x. IsSiteOf (count w) k → DeskSound x) w s d site (λ _. next.sound)
          (λ k _ a. (is.sites k a).sound) k among;
      applied = each_desk (λ k x. IsSiteOf (count w) k → HasApplied (applied w k) x.ledger) w s d site (λ _. stands)
          (λ k _ a. (is.sites k a).applied) k among;
      width = old.width ∙ sym (same_count w s d);
      itself = old.itself;
      others = λ o from differ. old.others o (subst (λ n. IsSiteOf n o) (same_count w s d) from) differ;
    }

-- another desk of s whose log grows preserves the invariant of the world, if the protocol's part is preserved
pub desk_grows : (w : WorldValue) (s : ℕ) (d : DeskValue) → IsWorld w → IsSiteOf (count w) s → DeskGoesOn w s d
    → HasApplied (applied w s) d.ledger → Leads w (with_desk w s d) → WorldGoesOn w (with_desk w s d)
desk_grows w s d is site next stands by =
    let new : WorldValue = with_desk w s d in
    let logs : LogsGoOn w new =
    record { same = same_count w s d; longer = logs_longer w s d site next; chains = λ o. (by.kept.sites o).chain } in
    record {
      is = record {
        kept = by.kept;
        rows = is.rows ∙ sym (same_count w s d);
        sites = λ k among. site_still w s d is site next stands k (subst (λ n. IsSiteOf n k) (same_count w s d) among);
        links = λ k o l there. link_goes_on w new k o l logs (is.links k o l there);
        native = native_still w s d is site next;
        sent = all_sent_go_on w new w.packets logs is.sent;
      };
      refines = by.refines;
    }

-- ---- a desk with the same log and book

-- a log that is the same is a prefix of itself
same_longer : (w : WorldValue) (s : ℕ) (d : DeskValue) → d.ledger.log.entries ≡ log w s
    → IsPrefix (log w s) d.ledger.log.entries
same_longer w s d same = subst (IsPrefix (log w s)) (sym same) (longer_itself (log w s))

-- no list of the protocol changes
lists_stay : (w : WorldValue) (s : ℕ) (d : DeskValue) → IsSiteOf (count w) s → d.ledger.log.entries ≡ log w s
    → Stays (lists_of w) (lists_of (with_desk w s d))
lists_stay w s d site same = record {
  count = same_count w s d;
  sites = λ k. record {
    log = each_desk (λ j x. x.ledger.log.entries ≡ log w j) w s d site same (λ j _. refl) k;
    links = λ o. record { reached = refl; put = refl; applied = refl };
  };
}

-- a desk with this log and book, at which no spend waits if it has closed
still_sound : (old d : DeskValue) → DeskSound old → d.ledger.log.site ≡ old.ledger.log.site
    → d.ledger.log.entries ≡ old.ledger.log.entries → d.ledger.book ≡ old.ledger.book
    → (has_closed d ≡ true → d.queue.waiting ≡ []) → DeskSound d
still_sound old d is site entries book idle =
    record {
      ledger = record {
        same_site = ap (λ (b : BookValue). b.me) book ∙ is.ledger.same_site ∙ sym site;
        own = rw (entries, book) is.ledger.own;
        none_back = rw book is.ledger.none_back;
        room = rw (entries, book) is.ledger.room;
      };
      book = subst IsBook (sym book) is.book;
      idle = idle;
    }

-- nothing changed but the log's cursors, the waiting spends, the asks and the time
pub same_log : (w : WorldValue) (s : ℕ) (d : DeskValue) → IsWorld w → IsSiteOf (count w) s
    → d.ledger.log.site ≡ (desk w s).ledger.log.site → d.ledger.log.entries ≡ log w s
    → d.ledger.book ≡ (desk w s).ledger.book → d.manager.me ≡ (desk w s).manager.me
    → (has_closed (desk w s) ≡ true → d.queue.waiting ≡ []) → WorldGoesOn w (with_desk w s d)
same_log w s d is site me entries book manager idle =
    let here : SiteSound w s = is.sites s site in
    let next : DeskGoesOn w s d = record {
      own = record {
        me = me ∙ here.me;
        manager = manager ∙ here.manager;
        system = ap (λ (b : BookValue). sites b) book ∙ here.system;
      };
      sound = still_sound (desk w s) d here.sound me entries book (λ h. idle (ap is_closed (sym entries) ∙ h));
      longer = same_longer w s d entries;
      native = subst (NativeLog (count w)) (sym entries) (is.native s);
    } in
    let stands : HasApplied (applied w s) d.ledger =
    record { in_book = rw book here.applied.in_book; kept = rw (book, me, entries) here.applied.kept } in
    desk_grows w s d is site next stands
    (leads w (with_desk w s d) Nothing is (lists_stay w s d site entries))

-- nothing changed but the waiting spends, the asks and the time
pub same_ledger : (w : WorldValue) (s : ℕ) (d : DeskValue) → IsWorld w → IsSiteOf (count w) s
    → d.ledger ≡ (desk w s).ledger → d.manager.me ≡ (desk w s).manager.me
    → (has_closed (desk w s) ≡ true → d.queue.waiting ≡ []) → WorldGoesOn w (with_desk w s d)
same_ledger w s d is site same manager idle =
    same_log w s d is site (ap (λ (l : LedgerValue). l.log.site) same) (ap (λ (l : LedgerValue). l.log.entries) same)
    (ap (λ (l : LedgerValue). l.book) same) manager idle

-- .. nor the waiting spends
pub same_requests : (w : WorldValue) (s : ℕ) (d : DeskValue) → IsWorld w → IsSiteOf (count w) s
    → d.ledger ≡ (desk w s).ledger → d.manager.me ≡ (desk w s).manager.me → d.queue ≡ (desk w s).queue
    → WorldGoesOn w (with_desk w s d)
same_requests w s d is site same manager queue =
    same_ledger w s d is site same manager
    (λ h. ap (λ (q : QueueValue). q.waiting) queue ∙ (is.sites s site).sound.idle h)

-- a log with other cursors
record SameEntries (old new : LogValue) : Type 0 where
  pub site : new.site ≡ old.site
  pub entries : new.entries ≡ old.entries

-- publishing an entry writes none
publishes_same : (d : DeskValue) (p : ℕ) (push : Option MessageValue)
    → SameEntries d.ledger.log (published_if d.ledger.log p push)
publishes_same d p None = record { site = refl; entries = refl }
publishes_same d p (Some m) = record { site = refl; entries = refl }

-- s published its next entry for p
pub published : (w : WorldValue) (s p : ℕ) → IsWorld w → IsSiteOf (count w) s
    → WorldGoesOn w (with_desk w s (after_publish (desk w s) p))
published w s p is site =
    let same = publishes_same (desk w s) p (next_push (desk w s).ledger.log p) in
    same_log w s (after_publish (desk w s) p) is site same.site same.entries refl refl (is.sites s site).sound.idle

-- an ask of s ended
pub ask_denied : (w : WorldValue) (s j a : ℕ) → IsWorld w → IsSiteOf (count w) s
    → WorldGoesOn w (with_desk w s (record (desk w s) { manager = ended (desk w s).manager j a }))
ask_denied w s j a is site =
    same_requests w s (record (desk w s) { manager = ended (desk w s).manager j a }) is site refl refl refl

-- ---- a desk that wrote an entry

-- the desk of s wrote one entry of these moves, which fit this system
pub record Wrote (w : WorldValue) (s : ℕ) (ms : List Move) (d : DeskValue) : Type 0 where
  pub log : d.ledger.log ≡ with_entry (desk w s).ledger.log ms
  pub book : sites d.ledger.book ≡ sites (desk w s).ledger.book
  pub applied : SameApplied (desk w s).ledger d.ledger
  pub manager : d.manager.me ≡ (desk w s).manager.me
  pub sound : DeskSound d
  pub native : All (NativeMove (count w)) ms

abbrev entry_by : WorldValue → ℕ → List Move → EntryValue
entry_by w s ms = entry_at_end s (log w s) ms

-- that entry is at the end of the desk's log, under the number of s
entry_stands : (w : WorldValue) (s : ℕ) (ms : List Move) (d : DeskValue) → IsWorld w → IsSiteOf (count w) s
    → Wrote w s ms d → d.ledger.log.entries ≡ log w s ++ entry_by w s ms ∷ []
entry_stands w s ms d is site wrote =
    ap (λ (l : LogValue). l.entries) wrote.log ∙ ap (λ j. log w s ++ entry_at_end j (log w s) ms ∷ [])
    (is.sites s site).me

-- .. and at the end of the log of s in the world
log_there : (w : WorldValue) (s : ℕ) (ms : List Move) (d : DeskValue) → IsWorld w → IsSiteOf (count w) s
    → Wrote w s ms d → log (with_desk w s d) s ≡ log w s ++ entry_by w s ms ∷ []
log_there w s ms d is site wrote =
    ap (λ (x : DeskValue). x.ledger.log.entries) (desk_there w s d site) ∙ entry_stands w s ms d is site wrote

-- all lists of other sites stay
others_stay : (w : WorldValue) (s : ℕ) (d : DeskValue) → IsSiteOf (count w) s
    → OthersStay (lists_of w) (lists_of (with_desk w s d)) s
others_stay w s d site = record {
  count = same_count w s d;
  sites = λ k ne. record {
    log = ap (λ (x : DeskValue). x.ledger.log.entries) (desk_elsewhere w s k d site ne);
    links = λ o. record { reached = refl; put = refl; applied = refl };
  };
}

-- an entry preserves the invariant of the world, if the protocol's part is preserved
entry_keeps : (w : WorldValue) (s : ℕ) (ms : List Move) (d : DeskValue) → IsWorld w → IsSiteOf (count w) s
    → Wrote w s ms d → Leads w (with_desk w s d) → WorldGoesOn w (with_desk w s d)
entry_keeps w s ms d is site wrote by =
    let here : SiteSound w s = is.sites s site in
    let stands : d.ledger.log.entries ≡ log w s ++ entry_by w s ms ∷ [] = entry_stands w s ms d is site wrote in
    let next : DeskGoesOn w s d = record {
      own = record {
        me = ap (λ (l : LogValue). l.site) wrote.log ∙ here.me;
        manager = wrote.manager ∙ here.manager;
        system = wrote.book ∙ here.system;
      };
      sound = wrote.sound;
      longer = (entry_by w s ms ∷ [], sym stands);
      native = subst (NativeLog (count w)) (sym stands)
          (native_push (count w) (log w s) (entry_by w s ms) (is.native s) wrote.native);
    } in
    desk_grows w s d is site next (wrote.applied.all (applied w s) here.applied) by

-- an ordinary entry that neither log nor book refuses preserves the invariant of the world
pub wrote : (w : WorldValue) (s : ℕ) (ms : List Move) (d : DeskValue) → IsWorld w → IsSiteOf (count w) s
    → IsWritable (desk w s).ledger ms → WritesEntry (desk w s).ledger ms d.ledger
    → d.manager.me ≡ (desk w s).manager.me → WorldGoesOn w (with_desk w s d)
wrote w s ms d is site ok h manager =
    let here : SiteSound w s = is.sites s site in
    let kept : EntryKept (desk w s).ledger ms d.ledger =
    entry_kept (desk w s).ledger d.ledger ms here.sound.ledger here.sound.book ok h in
    let by_log : MayAppend (count w) (desk w s).ledger.log.site (log w s) (applied w s) ms =
    subst (λ n. MayAppend n (desk w s).ledger.log.site (log w s) (applied w s) ms) here.system
    (kept.keeps.may (applied w s) here.applied) in
    let may : MayAppend (count w) s (log w s) (applied w s) ms =
    subst (λ j. MayAppend (count w) j (log w s) (applied w s) ms) here.me by_log in
    let how : Wrote w s ms d = record {
      log = h.log;
      book = h.book.same_sites;
      applied = kept.keeps.applied;
      manager = manager;
      sound = record {
        ledger = kept.ledger;
        book = kept.book;
        idle = λ closed. absurd (both_ways (has_closed d) kept.unclosed closed);
      };
      native = native_append (count w) s (log w s) (applied w s) ms may;
    } in
    entry_keeps w s ms d is site how
    (leads w (with_desk w s d) (Append s ms) is (record {
      site = site;
      may = may;
      log = log_there w s ms d is site how;
      links = λ o. record { reached = refl; put = refl; applied = refl };
      others = others_stay w s d site;
    }))

-- s may close by a closing entry of the protocol's moves
record ClosesHere (w : WorldValue) (s : ℕ) (heir : Option ℕ) : Type 0 where
  may : MayClose (count w) s (log w s) (applied w s) heir
  moves : closing_by (desk w s).ledger.book heir ≡ closing_moves (count w) s (log w s) (applied w s) heir

-- the ledger closes as the protocol says, for any lists that it applied; so it does for those that s applied
closes_here : (w : WorldValue) (s : ℕ) (heir : Option ℕ) → IsWorld w → IsSiteOf (count w) s
    → ClosesAs (desk w s).ledger heir (applied w s) → ClosesHere w s heir
closes_here w s heir is site h =
    let here : SiteSound w s = is.sites s site in
    let me : ℕ = (desk w s).ledger.log.site in
    let by_log : MayClose (count w) me (log w s) (applied w s) heir =
    subst (λ n. MayClose n me (log w s) (applied w s) heir) here.system h.may in
    record {
      may = subst (λ j. MayClose (count w) j (log w s) (applied w s) heir) here.me by_log;
      moves = h.moves ∙ ap (λ n. closing_moves n me (log w s) (applied w s) heir) here.system
          ∙ ap (λ j. closing_moves (count w) j (log w s) (applied w s) heir) here.me;
    }

-- a closing entry preserves the invariant of the world, if the desk may close
pub closed : (w : WorldValue) (s : ℕ) (heir : Option ℕ) (d : DeskValue) → IsWorld w → IsSiteOf (count w) s
    → CanClose (desk w s) heir → WritesClosing (desk w s).ledger heir d.ledger
    → d.manager.me ≡ (desk w s).manager.me → d.queue ≡ (desk w s).queue → WorldGoesOn w (with_desk w s d)
closed w s heir d is site can h manager queue =
    let here : SiteSound w s = is.sites s site in
    let kept : ClosingKept (desk w s).ledger heir d.ledger =
    closing_kept (desk w s).ledger d.ledger heir here.sound.ledger here.sound.book can.unclosed can.inherits h in
    let by : ClosesHere w s heir = closes_here w s heir is site (kept.keeps.may (applied w s) here.applied) in
    let ms : List Move = closing_moves (count w) s (log w s) (applied w s) heir in
    let how : Wrote w s ms d = record {
      log = h.log ∙ ap (λ xs. with_entry (desk w s).ledger.log xs) by.moves;
      book = h.book.same_sites;
      applied = kept.keeps.applied;
      manager = manager;
      sound = record {
        ledger = kept.ledger;
        book = kept.book;
        idle = λ closed. ap (λ (q : QueueValue). q.waiting) queue ∙ can.idle;
      };
      native = native_closing (count w) s (log w s) (applied w s) heir by.may;
    } in
    entry_keeps w s ms d is site how
    (leads w (with_desk w s d) (CloseSite s heir) is (record {
      site = site;
      may = by.may;
      log = log_there w s ms d is site how;
      links = λ o. record { reached = refl; put = refl; applied = refl };
      others = others_stay w s d site;
    }))

-- ---- a desk that answered an ask

-- s answered an ask of another site as its desk answers asks: by an entry, or by none
pub answered : (w : WorldValue) (s : ℕ) (ask : AskValue) (answer : AskAnswer) (number : Option ℕ) (d : DeskValue)
    → IsWorld w → IsSiteOf (count w) s → IsSiteOf (count w) ask.asker → ask.asker ≢ s
    → answer_of (desk w s) ask ≡ answer → DeskAnswers (desk w s) ask answer number d → WorldGoesOn w (with_desk w s d)
answered w s ask (Granted n) number d is site from differ answers h =
    let here : SiteSound w s = is.sites s site in
    let ms : List Move = Grant ask.asker n ask.ask ∷ [] in
    let some : 1 ≤ n = (All-head IsMove (Grant ask.asker n ask.ask) [] h.0.moves).1.0 in
    let high : ask.asker ≤ sites (desk w s).ledger.book = omega (arith, from.1, here.system) in
    let me : (desk w s).ledger.book.me ≡ s = here.sound.ledger.same_site ∙ here.me in
    wrote w s ms d is site (grant_writable (desk w s) ask n answers some high (λ e. differ (e ∙ me))) h.0
    (ap (λ (x : DeskValue). x.manager.me) h.2)
answered w s ask Deny number d is site from differ answers h =
    same_requests w s d is site (ap (λ (x : DeskValue). x.ledger) h.1) (ap (λ (x : DeskValue). x.manager.me) h.1)
    (ap (λ (x : DeskValue). x.queue) h.1)
answered w s ask RepeatedDeny number d is site from differ answers h =
    same_requests w s d is site (ap (λ (x : DeskValue). x.ledger) h.1) (ap (λ (x : DeskValue). x.manager.me) h.1)
    (ap (λ (x : DeskValue). x.queue) h.1)
answered w s ask Repeated number d is site from differ answers h =
    same_requests w s d is site (ap (λ (x : DeskValue). x.ledger) h.1) (ap (λ (x : DeskValue). x.manager.me) h.1)
    (ap (λ (x : DeskValue). x.queue) h.1)
answered w s ask OldAsk number d is site from differ answers h =
    same_requests w s d is site (ap (λ (x : DeskValue). x.ledger) h.1) (ap (λ (x : DeskValue). x.manager.me) h.1)
    (ap (λ (x : DeskValue). x.queue) h.1)
