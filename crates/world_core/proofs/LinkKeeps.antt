-- Entries, beats and queries on a link preserve the invariant of the world.
use Rattle.std.proofs.Common.{◌≡◌, ◌≢◌, ℕ, ◌≤◌, ◌⊎◌, inl, inr, Bool, true, false, cond, List, [], ◌∷◌, ◌++◌, length}
use Rattle.std.proofs.Common.{arith, refl, sym, ap, ◌∙◌, subst, Option, Some, None}
use Rattle.std.specs.List.{All, Contains}
use Rattle.std.proofs.lemmas.Bool.{cases_eq}
use Rattle.std.proofs.lemmas.List.{append-nil}
use Rattle.std.proofs.lemmas.List.Elements.{All-head, All-tail}
use Rattle.rights_types.specs.Entries.{EntryValue}
use Rattle.rights_types.specs.Places.{at_site, set_site}
use Rattle.rights_types.specs.Chains.{end, IsChain, IsLongest, IsFull}
use Rattle.rights_types.specs.Messages.{QueryValue}
use Rattle.rights_types.proofs.Places.{at_set_site, length-set_site, set_site-at_site}
use Rattle.rights_protocol.specs.Lists.{IsSiteOf}
use Rattle.rights_protocol.specs.Changes.{LinkStays}
use Rattle.rights_protocol.specs.Changes.Change.{Offer, Nothing}
use Rattle.sub_buffer.specs.Buffers.{BufferValue, IsSettled, SamePair, told_of}
use Rattle.sub_buffer.specs.Follows.{Follows, reached_after}
use Rattle.sub_buffer.specs.Gaps.{asked_for}
use Rattle.sub_buffer.specs.Table.{after_beat}
use Rattle.sub_buffer.specs.declared.verdict.Verdict.{Verdict as BufferVerdict}
use Rattle.sub_buffer.specs.declared.verdict.Verdict.TheVariants.{Ready as IsReady, Held as IsHeld, Repeat as IsRepeat}
use Rattle.sub_buffer.specs.declared.verdict.Verdict.TheVariants.{AfterClose as IsAfterClose, Full as IsLost}
use Rattle.sub_buffer.proofs.Missing.{follows_asked}
use Rattle.sub_buffer.proofs.Offers.{follows_beat}
use Rattle.site_core.specs.Ledgers.{HasApplied}
use Rattle.world_core.specs.Values.{LinkValue, WorldValue}
use Rattle.world_core.specs.Worlds.{count, desk, log, row, link, with_link, list_of, reached, put, applied, lists_of}
use Rattle.world_core.specs.LinkEvents.{heard, Asked, LinkTakes, LinkTakesAll, EntriesArrive}
use Rattle.world_core.specs.Sound.{SiteSound, LinkSound, IsWorld}
use Rattle.world_core.specs.declared.reply.EntryVerdict.{EntryVerdict}
use Rattle.world_core.proofs.WorldGoesOn.{Leads, leads_nowhere, leads_on, leads, WorldGoesOn}
use Rattle.world_core.proofs.DeskKeeps.{LogsGoOn, link_goes_on, all_sent_go_on}

-- lists that are the same everywhere are the same function
pub same_lists : (old new : ℕ → List EntryValue) → ((o : ℕ) → new o ≡ old o) → new ≡ old
same_lists old new same = λ i o. same o i

-- if no desk changed, each log stays or grows
pub logs_stay : (old new : WorldValue) → IsWorld old → count new ≡ count old → ((o : ℕ) → log new o ≡ log old o)
    → LogsGoOn old new
logs_stay old new is sites same = record {
  same = sites;
  longer = λ o. ([], append-nil (log old o) ∙ sym (same o));
  chains = λ o. subst (IsChain o) (sym (same o)) (is.kept.sites o).chain;
}

-- ---- a link that is written

-- what is read after one link was written
pub link_cases : (w : WorldValue) (s o k j : ℕ) (l : LinkValue) → IsWorld w → IsSiteOf (count w) s
    → IsSiteOf (count w) o
    → ((k ≡ s) × (j ≡ o) × (link (with_link w s o l) k j ≡ Some l))
    ⊎ (((k ≢ s) ⊎ (j ≢ o)) × (link (with_link w s o l) k j ≡ link w k j))
link_cases w s o k j l is site from =
    let high : s ≤ length w.links = omega (arith, is.rows, site.1) in
    let wide : o ≤ length (row w s) = omega (arith, (is.sites s site).width, from.1) in
    elim (at_set_site w.links s k (set_site (row w s) o (Some l)) [] site.0 high) [
      | inl p ↦ elim (at_set_site (row w s) o j (Some l) None from.0 wide) [
        | inl q ↦ inl (p.0, q.0, ap (λ r. at_site r j None) p.1 ∙ q.1)
        | inr q ↦ inr (inr q.0, ap (λ r. at_site r j None) p.1 ∙ q.1 ∙ ap (λ i. link w i j) (sym p.0))
      ]
      | inr p ↦ inr (inl p.0, ap (λ r. at_site r j None) p.1)
    ]

pub link_there : (w : WorldValue) (s o : ℕ) (l : LinkValue) → IsWorld w → IsSiteOf (count w) s → IsSiteOf (count w) o
    → link (with_link w s o l) s o ≡ Some l
link_there w s o l is site from = elim (link_cases w s o s o l is site from) [
  | inl p ↦ p.2
  | inr p ↦ absurd (elim p.0 [
    | inl ne ↦ ne refl
    | inr ne ↦ ne refl
  ])
]

pub link_elsewhere : (w : WorldValue) (s o k j : ℕ) (l : LinkValue) → IsWorld w → IsSiteOf (count w) s
    → IsSiteOf (count w) o → (k ≢ s) ⊎ (j ≢ o)
    → link (with_link w s o l) k j ≡ link w k j
link_elsewhere w s o k j l is site from other = elim (link_cases w s o k j l is site from) [
  | inl p ↦ absurd (elim other [
    | inl ne ↦ ne p.0
    | inr ne ↦ ne p.1
  ])
  | inr p ↦ p.1
]

-- a link that is written back unchanged
pub link_again : (w : WorldValue) (s o : ℕ) (l : LinkValue) → link w s o ≡ Some l → with_link w s o l ≡ w
link_again w s o l there =
    let same : set_site (row w s) o (Some l) ≡ row w s =
    ap (λ x. set_site (row w s) o x) (sym there) ∙ set_site-at_site (row w s) o None in
    ap (λ (ls : List (List (Option LinkValue))). record w { links = ls })
    (ap (λ r. set_site w.links s r) same ∙ set_site-at_site w.links s [])

pub width_kept : (w : WorldValue) (s o k : ℕ) (l : LinkValue) → IsWorld w → IsSiteOf (count w) s
    → length (row (with_link w s o l) k) ≡ length (row w k)
width_kept w s o k l is site =
    let high : s ≤ length w.links = omega (arith, is.rows, site.1) in
    elim (at_set_site w.links s k (set_site (row w s) o (Some l)) [] site.0 high) [
      | inl p ↦
          ap (λ (r : List (Option LinkValue)). length r) p.1 ∙ length-set_site (row w s) o (Some l)
          ∙ ap (λ i. length (row w i)) (sym p.0)
      | inr p ↦ ap (λ (r : List (Option LinkValue)). length r) p.1
    ]

-- a list of a link that is the same in the link that is written
pub list_kept : (w : WorldValue) (s o k j : ℕ) (old new : LinkValue) (list : LinkValue → List EntryValue) → IsWorld w
    → IsSiteOf (count w) s → IsSiteOf (count w) o → link w s o ≡ Some old
    → list new ≡ list old → list_of list (link (with_link w s o new) k j) ≡ list_of list (link w k j)
list_kept w s o k j old new list is site from there same = elim (link_cases w s o k j new is site from) [
  | inl p ↦
      ap (list_of list) p.2 ∙ same ∙ ap (list_of list) (sym there) ∙ ap (λ i. list_of list (link w i o)) (sym p.0)
      ∙ ap (λ i. list_of list (link w k i)) (sym p.1)
  | inr p ↦ ap (list_of list) p.1
]

-- no site has a link to itself
pub ends_differ : (w : WorldValue) (s o : ℕ) (l : LinkValue) → IsWorld w → IsSiteOf (count w) s → link w s o ≡ Some l
    → s ≢ o
ends_differ w s o l is site there e =
    let none : link w s o ≡ None = subst (λ j. link w s j ≡ None) e (is.sites s site).itself in
    cc

-- a world with another link that is sound, of which the same was applied
pub link_keeps : (w : WorldValue) (s o : ℕ) (old new : LinkValue) → IsWorld w → IsSiteOf (count w) s
    → IsSiteOf (count w) o → link w s o ≡ Some old → LinkSound w s o new
    → new.applied ≡ old.applied → Leads w (with_link w s o new) → WorldGoesOn w (with_link w s o new)
link_keeps w s o old new is site from there sound same by =
    let later : WorldValue = with_link w s o new in
    let logs : LogsGoOn w later = logs_stay w later is refl (λ k. refl) in
    record {
      is = record {
        kept = by.kept;
        rows = length-set_site w.links s (set_site (row w s) o (Some new)) ∙ is.rows;
        sites = λ k among.
            let x : SiteSound w k = is.sites k among in
            let applies : applied later k ≡ applied w k =
            same_lists (applied w k) (applied later k)
            (λ j. list_kept w s o k j old new (λ l. l.applied) is site from there same) in
            record {
              me = x.me;
              manager = x.manager;
              system = x.system;
              sound = x.sound;
              applied = subst (λ lists. HasApplied lists (desk w k).ledger) (sym applies) x.applied;
              width = width_kept w s o k new is site ∙ x.width;
              itself = elim (link_cases w s o k k new is site from) [
                | inl p ↦ absurd (ends_differ w s o old is site there (sym p.0 ∙ p.1))
                | inr p ↦ p.1 ∙ x.itself
              ];
              others = λ j a ne. elim (link_cases w s o k j new is site from) [
                | inl p ↦ (new, p.2)
                | inr p ↦ let other = x.others j a ne in (other.0, p.1 ∙ other.1)
              ];
            };
        links = λ k j l at. elim (link_cases w s o k j new is site from) [
          | inl p ↦
              let e : new ≡ l = let both : Some new ≡ Some l = sym p.2 ∙ at in cc in
              subst (λ i. LinkSound later i j l) (sym p.0)
              (subst (λ i. LinkSound later s i l) (sym p.1)
              (subst (λ x. LinkSound later s o x) e (link_goes_on w later s o new logs sound)))
          | inr p ↦ link_goes_on w later k j l logs (is.links k j l (sym p.1 ∙ at))
        ];
        native = is.native;
        sent = all_sent_go_on w later w.packets logs is.sent;
      };
      refines = by.refines;
    }

-- a link whose lists stay the same
link_stays : (old new : WorldValue) (s o : ℕ) → link new s o ≡ link old s o
    → LinkStays (lists_of old) (lists_of new) s o
link_stays old new s o same = record {
  reached = ap (list_of (λ l. l.reached)) same;
  put = ap (list_of (λ l. l.put)) same;
  applied = ap (list_of (λ l. l.applied)) same;
}

-- a world whose links have other inbounds with the same lists
pub lists_keep : (w : WorldValue) (s o : ℕ) (old new : LinkValue) → IsWorld w → IsSiteOf (count w) s
    → IsSiteOf (count w) o → link w s o ≡ Some old → LinkSound w s o new
    → new.reached ≡ old.reached → new.put ≡ old.put → new.applied ≡ old.applied → WorldGoesOn w (with_link w s o new)
lists_keep w s o old new is site from there sound reaches puts applies =
    link_keeps w s o old new is site from there sound applies
    (leads w (with_link w s o new) Nothing is (record {
      count = refl;
      sites = λ k. record {
        log = refl;
        links = λ j. record {
          reached = list_kept w s o k j old new (λ l. l.reached) is site from there reaches;
          put = list_kept w s o k j old new (λ l. l.put) is site from there puts;
          applied = list_kept w s o k j old new (λ l. l.applied) is site from there applies;
        };
      };
    }))

-- ---- a beat

beat_same : (b : BufferValue) (n : ℕ) → IsSettled b → SamePair b (after_beat b n) × IsSettled (after_beat b n)
beat_same b n settled = beat b.closed
  where
    beat : (closed : Bool) → SamePair b (cond closed b (told_of b n)) × IsSettled (cond closed b (told_of b n))
    beat true = (record { me = refl; origin = refl }, settled)
    beat false = (record { me = refl; origin = refl }, settled)

pub beat_keeps : (w : WorldValue) (s o n : ℕ) (l : LinkValue) → IsWorld w → IsSiteOf (count w) s → IsSiteOf (count w) o
    → link w s o ≡ Some l → WorldGoesOn w (with_link w s o (heard l n))
beat_keeps w s o n l is site from there =
    let sound : LinkSound w s o l = is.links s o l there in
    let b : BufferValue = l.inbound.buffer in
    let beat = beat_same b n sound.settled in
    lists_keep w s o l (heard l n) is site from there (record {
      me = beat.0.me ∙ sound.me;
      origin = beat.0.origin ∙ sound.origin;
      system = sound.system;
      settled = beat.1;
      follows = follows_beat b n (log w o) l.reached l.put sound.follows;
    }) refl refl refl

-- ---- a query

asked_same : (b : BufferValue) (q : Option QueryValue) → IsSettled b
    → SamePair b (asked_for b q) × IsSettled (asked_for b q)
asked_same b None settled = (record { me = refl; origin = refl }, settled)
asked_same b (Some q) settled = (record { me = refl; origin = refl }, settled)

pub asked_keeps : (w new : WorldValue) (s o : ℕ) (again : Bool) (q : Option QueryValue) → IsWorld w
    → IsSiteOf (count w) s → IsSiteOf (count w) o → Asked w s o again q new → WorldGoesOn w new
asked_keeps w new s o again q is site from h =
    let l : LinkValue = h.before in
    let sound : LinkSound w s o l = is.links s o l h.there in
    let b : BufferValue = l.inbound.buffer in
    let asked = asked_same b q sound.settled in
    let asks : LinkValue = record l { inbound = record l.inbound { buffer = asked_for b q } } in
    let keeps = lists_keep w s o l asks is site from h.there (record {
      me = asked.0.me ∙ sound.me;
      origin = asked.0.origin ∙ sound.origin;
      system = sound.system;
      settled = asked.1;
      follows = follows_asked b q (log w o) l.reached l.put sound.follows;
    }) refl refl refl in
    subst (WorldGoesOn w) (sym (h.left ∙ ap (λ i. with_link w s o (record l { inbound = i })) h.asks.left)) keeps

-- ---- entries

-- the link of s to o is as good as this one
record Takes (w : WorldValue) (s o : ℕ) (l : LinkValue) : Type 0 where
  pub sound : LinkSound w s o l
  pub by : Leads w (with_link w s o l)

-- between two links of one pair, all other lists stay
record Between (w : WorldValue) (s o : ℕ) (old new : LinkValue) : Type 0 where
  pub here : (list : LinkValue → List EntryValue) → list_of list (link (with_link w s o old) s o) ≡ list old
  pub now : (list : LinkValue → List EntryValue) → list_of list (link (with_link w s o new) s o) ≡ list new
  pub others : (k j : ℕ) → (k ≢ s) ⊎ (j ≢ o)
      → LinkStays (lists_of (with_link w s o old)) (lists_of (with_link w s o new)) k j

between : (w : WorldValue) (s o : ℕ) (old new : LinkValue) → IsWorld w → IsSiteOf (count w) s → IsSiteOf (count w) o
    → Between w s o old new
between w s o old new is site from = record {
  here = λ list. ap (list_of list) (link_there w s o old is site from);
  now = λ list. ap (list_of list) (link_there w s o new is site from);
  others = λ k j other.
      link_stays (with_link w s o old) (with_link w s o new) k j
      (link_elsewhere w s o k j new is site from other ∙ sym (link_elsewhere w s o k j old is site from other));
}

-- it is the next one, or there is space to hold it
abbrev HasRoom : EntryValue → List EntryValue → List EntryValue → Type 0
HasRoom e came puts = (e.prev ≡ end puts) ⊎ (¬ IsFull came puts)

-- an entry reached the link
reach_kept : (w : WorldValue) (s o : ℕ) (old new : LinkValue) (e : EntryValue) → IsWorld w → IsSiteOf (count w) s
    → IsSiteOf (count w) o → s ≢ o → Contains (log w o) e
    → Leads w (with_link w s o old) → ¬ Contains old.reached e
    → HasRoom e old.reached old.put → new.reached ≡ old.reached ++ e ∷ []
    → IsLongest new.reached (log w o) new.put → new.applied ≡ old.applied → Leads w (with_link w s o new)
reach_kept w s o old new e is site from differ has by fresh room more longest same =
    let b : Between w s o old new = between w s o old new is site from in
    leads_on w (with_link w s o old) (with_link w s o new) (Offer s o e) by (record {
      site = site;
      from = from;
      differ = differ;
      sent = has;
      comes = inl (record {
        fresh = subst (λ es. ¬ Contains es e) (sym (b.here (λ l. l.reached))) fresh;
        room = subst (HasRoom e (reached (with_link w s o old) s o)) (sym (b.here (λ l. l.put)))
            (subst (λ es. HasRoom e es old.put) (sym (b.here (λ l. l.reached))) room);
        log = refl;
        reached = b.now (λ l. l.reached) ∙ more
            ∙ ap (λ (es : List EntryValue). es ++ e ∷ []) (sym (b.here (λ l. l.reached)));
        put = subst (λ es. IsLongest es (log w o) (put (with_link w s o new) s o)) (sym (b.now (λ l. l.reached)))
            (subst (λ es. IsLongest new.reached (log w o) es) (sym (b.now (λ l. l.put))) longest);
        applied = b.now (λ l. l.applied) ∙ same ∙ sym (b.here (λ l. l.applied));
        links = λ k ne. b.others s k (inr ne);
        others = record { count = refl; sites = λ k ne. record { log = refl; links = λ j. b.others k j (inl ne) } };
      });
    })

-- an entry did not reach the link
stay_kept : (w : WorldValue) (s o : ℕ) (old new : LinkValue) → IsWorld w → IsSiteOf (count w) s → IsSiteOf (count w) o
    → Leads w (with_link w s o old)
    → new.reached ≡ old.reached → new.put ≡ old.put → new.applied ≡ old.applied → Leads w (with_link w s o new)
stay_kept w s o old new is site from by reaches puts applies =
    let b : Between w s o old new = between w s o old new is site from in
    let here : LinkStays (lists_of (with_link w s o old)) (lists_of (with_link w s o new)) s o = record {
      reached = b.now (λ l. l.reached) ∙ reaches ∙ sym (b.here (λ l. l.reached));
      put = b.now (λ l. l.put) ∙ puts ∙ sym (b.here (λ l. l.put));
      applied = b.now (λ l. l.applied) ∙ applies ∙ sym (b.here (λ l. l.applied));
    } in
    leads_on w (with_link w s o old) (with_link w s o new) Nothing by (record {
      count = refl;
      sites = λ k. record {
        log = refl;
        links = λ j. elim (cases_eq k s) [
          | inl p ↦ elim (cases_eq j o) [
            | inl q ↦
                subst (λ i. LinkStays (lists_of (with_link w s o old)) (lists_of (with_link w s o new)) i j) (sym p)
                (subst (λ i. LinkStays (lists_of (with_link w s o old)) (lists_of (with_link w s o new)) s i)
                (sym q) here)
            | inr ne ↦ b.others k j (inr ne)
          ]
          | inr ne ↦ b.others k j (inl ne)
        ];
      };
    })

-- nothing was freed
none_freed : (put freed now : List EntryValue) → now ≡ put ++ freed → freed ≡ [] → now ≡ put
none_freed put freed now is none = is ∙ ap (λ (es : List EntryValue). put ++ es) none ∙ append-nil put

entry_kept : {A : Type 0} (w : WorldValue) (s o : ℕ) (old new : LinkValue) (e : EntryValue) (v : BufferVerdict A)
    (freed : List EntryValue) → IsWorld w → IsSiteOf (count w) s
    → IsSiteOf (count w) o → s ≢ o → Contains (log w o) e → Leads w (with_link w s o old)
    → LinkTakes (log w o) old e v freed new → Leads w (with_link w s o new)
entry_kept w s o old new e (IsReady x) freed is site from differ has by h =
    reach_kept w s o old new e is site from differ has by h.verdict.0 (inl h.verdict.1) h.reached h.longest
    (ap (λ (l : LinkValue). l.applied) h.rest)
entry_kept w s o old new e IsHeld freed is site from differ has by h =
    reach_kept w s o old new e is site from differ has by h.verdict.0 (inr h.verdict.2) h.reached h.longest
    (ap (λ (l : LinkValue). l.applied) h.rest)
entry_kept w s o old new e IsRepeat freed is site from differ has by h =
    stay_kept w s o old new is site from by h.reached (none_freed old.put freed new.put h.put h.buffer.frees)
    (ap (λ (l : LinkValue). l.applied) h.rest)
entry_kept w s o old new e IsLost freed is site from differ has by h =
    stay_kept w s o old new is site from by h.reached (none_freed old.put freed new.put h.put h.buffer.frees)
    (ap (λ (l : LinkValue). l.applied) h.rest)
entry_kept w s o old new e IsAfterClose freed is site from differ has by h = absurd h.verdict

entry_sound : {A : Type 0} (w : WorldValue) (s o : ℕ) (old new : LinkValue) (e : EntryValue) (v : BufferVerdict A)
    (freed : List EntryValue) → Contains (log w o) e → LinkSound w s o old
    → LinkTakes (log w o) old e v freed new → LinkSound w s o new
entry_sound w s o old new e v freed has sound h =
    let follows = (h.buffer.log (log w o) old.reached old.put has sound.follows).1 in
    record {
      me = h.buffer.pair.me ∙ sound.me;
      origin = h.buffer.pair.origin ∙ sound.origin;
      system = ap (λ (l : LinkValue). l.inbound.sites) h.rest ∙ sound.system;
      settled = h.buffer.settled;
      follows = subst (λ es. Follows (log w o) es new.put new.inbound.buffer) (sym h.reached)
          (subst (λ es. Follows (log w o) (reached_after old.reached e v) es new.inbound.buffer) (sym h.put) follows);
    }

-- entries of the log of o, one after another
all_taken : (A : Type 0) (w : WorldValue) (s o : ℕ) (old new : LinkValue) (entries : List EntryValue)
    (verdicts : List EntryVerdict) → IsWorld w → IsSiteOf (count w) s → IsSiteOf (count w) o
    → s ≢ o → All (Contains (log w o)) entries → LinkTakesAll A (log w o) old entries verdicts new → Takes w s o old
    → Takes w s o new × (new.applied ≡ old.applied)
all_taken A w s o old new [] verdicts is site from differ has h t =
    (subst (Takes w s o) (sym h.1) t, ap (λ (l : LinkValue). l.applied) h.1)
all_taken A w s o old new (e ∷ rest) verdicts is site from differ has (v, freed, mid, more, takes, later, told) t =
    let first : Contains (log w o) e = All-head (Contains (log w o)) e rest has in
    let now : Takes w s o mid = record {
      sound = entry_sound w s o old mid e v freed first t.sound takes;
      by = entry_kept w s o old mid e v freed is site from differ first t.by takes;
    } in
    let all =
    all_taken A w s o mid new rest more is site from differ (All-tail (Contains (log w o)) e rest has) later now in
    (all.0, all.1 ∙ ap (λ (l : LinkValue). l.applied) takes.rest)

pub entries_keep : (A : Type 0) (w new : WorldValue) (s o : ℕ) (entries : List EntryValue)
    (verdicts : List EntryVerdict)
    → IsWorld w → IsSiteOf (count w) s → IsSiteOf (count w) o
    → All (Contains (log w o)) entries → EntriesArrive A w s o entries verdicts new → WorldGoesOn w new
entries_keep A w new s o entries verdicts is site from has h =
    let differ : s ≢ o = ends_differ w s o h.before is site h.there in
    let all = all_taken A w s o h.before h.after entries verdicts is site from differ has h.takes (record {
      sound = is.links s o h.before h.there;
      by = subst (Leads w) (sym (link_again w s o h.before h.there)) (leads_nowhere w is);
    }) in
    subst (WorldGoesOn w) (sym h.left) (link_keeps w s o h.before h.after is site from h.there all.0.sound all.1
    all.0.by)
