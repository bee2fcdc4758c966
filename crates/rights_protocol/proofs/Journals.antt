-- Steps, syncs and crashes of sites that keep journals.
use Rattle.std.proofs.Common.{◌≡◌, ◌≢◌, ℕ, ◌≤◌, inl, inr, ◌==◌, Bool, true, false, cond, List, [], ◌∷◌, ◌++◌, refl, sym, ap}
use Rattle.std.proofs.Common.{◌∙◌, subst}
use Rattle.std.specs.List.{Contains}
use Rattle.std.proofs.lemmas.Bool.{cases_eq, eq-eqb, ne_eqb}
use Rattle.std.proofs.lemmas.List.{append-nil, append_assoc}
use Rattle.std.proofs.lemmas.List.Elements.{Contains-append_left}
use Rattle.rights_types.specs.Entries.{EntryValue}
use Rattle.rights_types.specs.Chains.{IsChain, IsPrefix}
use Rattle.rights_types.proofs.Chains.{chain_right}
use Rattle.rights_protocol.specs.Lists.{IsSiteOf}
use Rattle.rights_protocol.specs.Retiring.{entry_at_end, taking_back}
use Rattle.rights_protocol.specs.Writing.{closing_moves}
use Rattle.rights_protocol.specs.Invariant.{SiteInvariant}
use Rattle.rights_protocol.specs.Schedules.{SiteLists, SameLists, IsFresh, together, LocalChange, LocalStep, AllPromised}
use Rattle.rights_protocol.specs.Schedules.{IsCut, Turn, IsSent, TakesTurn, Schedule, AllFresh, FollowsProtocol}
use Rattle.rights_protocol.specs.Schedules.LocalChange.{Write, Apply, Retire, Other}
use Rattle.rights_protocol.specs.Crashes.{Record, with_applied, lists_after, lists_from, no_lists, lists_of, records_by}
use Rattle.rights_protocol.specs.Crashes.{IsFront, Site, journal, durables, IsNew, Event, site_of, Becomes, Happens}
use Rattle.rights_protocol.specs.Crashes.{Happen, AllNew, AreFronts, OutlivesCrashes, StaysDurable, DurableFollows}
use Rattle.rights_protocol.specs.Crashes.Record.{Wrote, Applied, Asked}
use Rattle.rights_protocol.specs.Crashes.Event.{Steps, Asks, Syncs, Crashes}
use Rattle.rights_protocol.proofs.Sites.{site_starts}
use Rattle.rights_protocol.proofs.Cuts.{local_keeps, any_cut, is_site}
use Rattle.rights_protocol.proofs.Interleavings.{next_begins, any_schedule}

-- ---- lists along a journal

pub lists_from-append : (s : ℕ) (l : SiteLists) (xs ys : List Record)
    → lists_from s l (xs ++ ys) ≡ lists_from s (lists_from s l xs) ys
lists_from-append s l [] ys = refl
lists_from-append s l (x ∷ xs) ys = lists_from-append s (lists_after s l x) xs ys

prefix_refl : (xs : List EntryValue) → IsPrefix xs xs
prefix_refl xs = ([], append-nil xs)

prefix_trans : (xs ys zs : List EntryValue) → IsPrefix xs ys → IsPrefix ys zs → IsPrefix xs zs
prefix_trans xs ys zs (a, p) (b, q)
    = (a ++ b, sym (append_assoc xs a b) ∙ ap (λ (es : List EntryValue). es ++ b) p ∙ q)

-- a record only adds to the lists
log_after : (s : ℕ) (l : SiteLists) (r : Record) → IsPrefix l.log (lists_after s l r).log
log_after s l (Wrote e) = (e ∷ [], refl)
log_after s l (Applied e) = (taking_back s e.origin l.log e, refl)
log_after s l (Asked a) = prefix_refl l.log

log_from : (s : ℕ) (l : SiteLists) (rs : List Record) → IsPrefix l.log (lists_from s l rs).log
log_from s l [] = prefix_refl l.log
log_from s l (r ∷ rs) =
    prefix_trans l.log (lists_after s l r).log (lists_from s (lists_after s l r) rs).log (log_after s l r)
    (log_from s (lists_after s l r) rs)

one_more : (b : Bool) (es : List EntryValue) (e : EntryValue) → IsPrefix es (cond b (es ++ e ∷ []) es)
one_more true es e = (e ∷ [], refl)
one_more false es e = prefix_refl es

applied_after : (s o : ℕ) (l : SiteLists) (r : Record) → IsPrefix (l.applied o) ((lists_after s l r).applied o)
applied_after s o l (Wrote e) = prefix_refl (l.applied o)
applied_after s o l (Applied e) = one_more (o == e.origin) (l.applied o) e
applied_after s o l (Asked a) = prefix_refl (l.applied o)

applied_from : (s o : ℕ) (l : SiteLists) (rs : List Record) → IsPrefix (l.applied o) ((lists_from s l rs).applied o)
applied_from s o l [] = prefix_refl (l.applied o)
applied_from s o l (r ∷ rs) =
    prefix_trans (l.applied o) ((lists_after s l r).applied o) ((lists_from s (lists_after s l r) rs).applied o)
    (applied_after s o l r)
    (applied_from s o (lists_after s l r) rs)

-- ---- fronts

front_refl : (xs : List Record) → IsFront xs xs
front_refl xs = ([], append-nil xs)

front_trans : (xs ys zs : List Record) → IsFront xs ys → IsFront ys zs → IsFront xs zs
front_trans xs ys zs (a, p) (b, q)
    = (a ++ b, sym (append_assoc xs a b) ∙ ap (λ (rs : List Record). rs ++ b) p ∙ q)

-- what a longer front stands for
front_lists : (s : ℕ) (xs ys : List Record) (front : IsFront xs ys)
    → lists_of s ys ≡ lists_from s (lists_of s xs) front.0
front_lists s xs ys front = ap (λ rs. lists_of s rs) (sym front.1) ∙ lists_from-append s no_lists xs front.0

pub front_log : (s : ℕ) (xs ys : List Record) → IsFront xs ys → IsPrefix (lists_of s xs).log (lists_of s ys).log
front_log s xs ys front =
    subst (λ (l : SiteLists). IsPrefix (lists_of s xs).log l.log) (sym (front_lists s xs ys front))
    (log_from s (lists_of s xs) front.0)

front_applied : (s o : ℕ) (xs ys : List Record) → IsFront xs ys
    → IsPrefix ((lists_of s xs).applied o) ((lists_of s ys).applied o)
front_applied s o xs ys front =
    subst (λ (l : SiteLists). IsPrefix ((lists_of s xs).applied o) (l.applied o)) (sym (front_lists s xs ys front))
    (applied_from s o (lists_of s xs) front.0)

nil_left : (xs ys : List Record) → xs ++ ys ≡ [] → xs ≡ []
nil_left [] ys h = refl
nil_left (x ∷ xs) ys h = absurd cc

-- ---- a journal that steps made

-- each record was made by a step of s from the lists before it, and what was applied had been sent by these sites
abbrev Made : ℕ → ℕ → (ℕ → SiteLists) → SiteLists → List Record → Type 0
Made n s sent l [] = Unit {0}
Made n s sent l (r ∷ rs) = (change : LocalChange) × LocalStep n s l change (lists_after s l r) × IsSent sent change
    × Made n s sent (lists_after s l r) rs

made_left : (n s : ℕ) (sent : ℕ → SiteLists) (l : SiteLists) (xs ys : List Record) → Made n s sent l (xs ++ ys)
    → Made n s sent l xs
made_left n s sent l [] ys m = tt
made_left n s sent l (x ∷ xs) ys m = (m.0, m.1, m.2, made_left n s sent (lists_after s l x) xs ys m.3)

made_right : (n s : ℕ) (sent : ℕ → SiteLists) (l : SiteLists) (xs ys : List Record) → Made n s sent l (xs ++ ys)
    → Made n s sent (lists_from s l xs) ys
made_right n s sent l [] ys m = m
made_right n s sent l (x ∷ xs) ys m = made_right n s sent (lists_after s l x) xs ys m.3

made_both : (n s : ℕ) (sent : ℕ → SiteLists) (l : SiteLists) (xs ys : List Record) → Made n s sent l xs
    → Made n s sent (lists_from s l xs) ys → Made n s sent l (xs ++ ys)
made_both n s sent l [] ys m k = k
made_both n s sent l (x ∷ xs) ys m k = (m.0, m.1, m.2, made_both n s sent (lists_after s l x) xs ys m.3 k)

sent_more : (old new : ℕ → SiteLists) → ((o : ℕ) → IsPrefix (old o).log (new o).log) → (change : LocalChange)
    → IsSent old change → IsSent new change
sent_more old new longer (Write ms) h = tt
sent_more old new longer (Apply o e) h =
    let p = longer o in
    subst (λ (es : List EntryValue). Contains es e) p.1 (Contains-append_left (old o).log p.0 e h)
sent_more old new longer (Retire heir) h = tt
sent_more old new longer Other h = tt

made_more : (n s : ℕ) (old new : ℕ → SiteLists) → ((o : ℕ) → IsPrefix (old o).log (new o).log)
    → (l : SiteLists) (rs : List Record) → Made n s old l rs → Made n s new l rs
made_more n s old new longer l [] m = tt
made_more n s old new longer l (r ∷ rs) m
    = (m.0, m.1, sent_more old new longer m.0 m.2, made_more n s old new longer (lists_after s l r) rs m.3)

-- such steps preserve the invariant of the site
made_keeps : (n s : ℕ) (sent : ℕ → SiteLists) (l : SiteLists) (rs : List Record) → 2 ≤ n → n ≤ 16 → IsSiteOf n s
    → SiteInvariant n s l.log l.applied → Made n s sent l rs
    → SiteInvariant n s (lists_from s l rs).log (lists_from s l rs).applied
made_keeps n s sent l [] some few site k m = k
made_keeps n s sent l (r ∷ rs) some few site k m =
    made_keeps n s sent (lists_after s l r) rs some few site
    (local_keeps n s l m.0 (lists_after s l r) some few site k m.1) m.3

-- what was applied of a log is a prefix of it
step_begins : (n s : ℕ) (sent : ℕ → SiteLists) (old : SiteLists) (change : LocalChange) (new : SiteLists)
    → ((o : ℕ) → IsChain o (sent o).log) → LocalStep n s old change new → IsSent sent change
    → ((o : ℕ) → IsPrefix (old.applied o) (sent o).log) → (o : ℕ) → IsPrefix (new.applied o) (sent o).log
step_begins n s sent old (Write ms) new chains step h begins o
    = subst (λ (es : List EntryValue). IsPrefix es (sent o).log) (sym (step.applied o)) (begins o)
step_begins n s sent old (Apply k e) new chains step h begins o = elim (cases_eq o k) [
  | inl p ↦
      let at : e.prev ≡ _ = (chain_right k false 0 (old.applied k) (e ∷ []) step.next).2 in
      subst (λ j. IsPrefix (new.applied j) (sent j).log) (sym p)
      (subst (λ (es : List EntryValue). IsPrefix es (sent k).log) (sym step.applied.there)
      (next_begins k (sent k).log (old.applied k) e (chains k) (begins k) h at))
  | inr ne ↦ subst (λ (es : List EntryValue). IsPrefix es (sent o).log) (sym (step.applied.elsewhere o ne)) (begins o)
]
step_begins n s sent old (Retire heir) new chains step h begins o
    = subst (λ (es : List EntryValue). IsPrefix es (sent o).log) (sym (step.applied o)) (begins o)
step_begins n s sent old Other new chains step h begins o
    = subst (λ (es : List EntryValue). IsPrefix es (sent o).log) (sym (step.applied o)) (begins o)

made_begins : (n s : ℕ) (sent : ℕ → SiteLists) (l : SiteLists) (rs : List Record)
    → ((o : ℕ) → IsChain o (sent o).log) → Made n s sent l rs → ((o : ℕ) → IsPrefix (l.applied o) (sent o).log)
    → (o : ℕ) → IsPrefix ((lists_from s l rs).applied o) (sent o).log
made_begins n s sent l [] chains m begins = begins
made_begins n s sent l (r ∷ rs) chains m begins =
    made_begins n s sent (lists_after s l r) rs chains m.3
    (step_begins n s sent l m.0 (lists_after s l r) chains m.1 m.2 begins)

-- ---- a step makes its record

-- it leads to the lists that its record stands for
pub step_lists : (n s : ℕ) (old : SiteLists) (change : LocalChange) (new : SiteLists) → LocalStep n s old change new
    → new ≡ lists_from s old (records_by n s old change)
step_lists n s old (Write ms) new step = λ i. record { log = step.log i; applied = λ o. step.applied o i }
step_lists n s old (Apply o e) new step =
    let of : e.origin ≡ o = (chain_right o false 0 (old.applied o) (e ∷ []) step.next).1 in
    let log : new.log ≡ old.log ++ taking_back s e.origin old.log e
    = step.log ∙ ap (λ k. old.log ++ taking_back s k old.log e) (sym of) in
    let applied : (k : ℕ) → new.applied k ≡ with_applied old.applied e k = λ k. elim (cases_eq k o) [
      | inl p ↦
          let here : with_applied old.applied e o ≡ old.applied o ++ e ∷ []
          = ap (λ b. cond b (old.applied o ++ e ∷ []) (old.applied o)) (eq-eqb o e.origin (sym of)) in
          subst (λ j. new.applied j ≡ with_applied old.applied e j) (sym p) (step.applied.there ∙ sym here)
      | inr ne ↦
          let there : with_applied old.applied e k ≡ old.applied k
          = ap (λ b. cond b (old.applied k ++ e ∷ []) (old.applied k)) (ne_eqb k e.origin (λ q. ne (q ∙ of))) in
          step.applied.elsewhere k ne ∙ sym there
    ] in
    λ i. record { log = log i; applied = λ k. applied k i }
step_lists n s old (Retire heir) new step = λ i. record { log = step.log i; applied = λ o. step.applied o i }
step_lists n s old Other new step = λ i. record { log = step.log i; applied = λ o. step.applied o i }

step_made : (n s : ℕ) (sent : ℕ → SiteLists) (old : SiteLists) (change : LocalChange) (new : SiteLists)
    → LocalStep n s old change new → IsSent sent change → Made n s sent old (records_by n s old change)
step_made n s sent old (Write ms) new step h = (
  Write ms,
  subst (λ (l : SiteLists). LocalStep n s old (Write ms) l) (step_lists n s old (Write ms) new step) step,
  h,
  tt,
)
step_made n s sent old (Apply o e) new step h = (
  Apply o e,
  subst (λ (l : SiteLists). LocalStep n s old (Apply o e) l) (step_lists n s old (Apply o e) new step) step,
  h,
  tt,
)
step_made n s sent old (Retire heir) new step h = (
  Retire heir,
  subst (λ (l : SiteLists). LocalStep n s old (Retire heir) l) (step_lists n s old (Retire heir) new step) step,
  h,
  tt,
)
step_made n s sent old Other new step h = tt

-- ---- what holds after any events

record Sound (n : ℕ) (sites : ℕ → Site) : Type 0 where
  pub lists : (s : ℕ) → (sites s).lists ≡ lists_of s (journal (sites s))
  pub made : (s : ℕ) → Made n s (durables sites) no_lists (journal (sites s))
  pub none : (s : ℕ) → ¬ IsSiteOf n s → journal (sites s) ≡ []

-- of the site of an event, if these logs were durable before it
record Goes (n s : ℕ) (sent : ℕ → SiteLists) (old new : Site) : Type 0 where
  pub lists : new.lists ≡ lists_of s (journal new)
  pub made : Made n s sent no_lists (journal new)
  pub longer : IsFront old.durable new.durable

-- a journal with more records at its end
appended : (s : ℕ) (old new : Site) (rs : List Record) → new.durable ≡ old.durable → new.pending ≡ old.pending ++ rs
    → journal new ≡ journal old ++ rs
appended s old new rs durable pending =
    (λ i. durable i ++ pending i) ∙ sym (append_assoc old.durable old.pending rs)

grown : (n s : ℕ) (sent : ℕ → SiteLists) (old new : Site) (rs : List Record)
    → old.lists ≡ lists_of s (journal old) → Made n s sent no_lists (journal old)
    → new.durable ≡ old.durable → new.pending ≡ old.pending ++ rs → new.lists ≡ lists_from s old.lists rs
    → Made n s sent old.lists rs
    → Goes n s sent old new
grown n s sent old new rs was made durable pending lists more =
    let whole : journal new ≡ journal old ++ rs = appended s old new rs durable pending in
    record {
      lists = lists ∙ ap (λ l. lists_from s l rs) was ∙ sym (lists_from-append s no_lists (journal old) rs)
          ∙ ap (λ xs. lists_of s xs) (sym whole);
      made = subst (λ xs. Made n s sent no_lists xs) (sym whole)
          (made_both n s sent no_lists (journal old) rs made (subst (λ l. Made n s sent l rs) was more));
      longer = subst (λ xs. IsFront old.durable xs) (sym durable) (front_refl old.durable);
    }

ask_made : (n s : ℕ) (sent : ℕ → SiteLists) (l : SiteLists) (r : Record) → lists_after s l r ≡ l
    → Made n s sent l (r ∷ [])
ask_made n s sent l r same
    = (Other, record { log = ap (λ (x : SiteLists). x.log) same; applied = λ o. ap (λ (x : SiteLists). x.applied o) same }, tt, tt)

goes : (n : ℕ) (sites : ℕ → Site) (event : Event) (new : Site) → Sound n sites → Becomes n sites event new
    → Goes n (site_of event) (durables sites) (sites (site_of event)) new
goes n sites (Steps s change) new k b =
    let old : Site = sites s in
    grown n s (durables sites) old new (records_by n s old.lists change) (k.lists s) (k.made s) b.durable b.pending
    (step_lists n s old.lists change new.lists b.step)
    (step_made n s (durables sites) old.lists change new.lists b.step b.told)
goes n sites (Asks s ask) new k b =
    let old : Site = sites s in
    grown n s (durables sites) old new (Asked ask ∷ []) (k.lists s) (k.made s) b.durable b.pending b.lists
    (ask_made n s (durables sites) old.lists (Asked ask) refl)
goes n sites (Syncs s) new k b =
    let old : Site = sites s in
    let same : journal new ≡ journal old =
    ap (λ xs. xs ++ new.pending) b.durable ∙ append_assoc old.durable b.front new.pending
    ∙ ap (λ xs. old.durable ++ xs) b.pending in
    record {
      lists = b.lists ∙ k.lists s ∙ ap (λ xs. lists_of s xs) (sym same);
      made = subst (λ xs. Made n s (durables sites) no_lists xs) (sym same) (k.made s);
      longer = (b.front, sym b.durable);
    }
goes n sites (Crashes s) new k b =
    let old : Site = sites s in
    let whole : journal new ≡ new.durable = ap (λ xs. new.durable ++ xs) b.pending ∙ append-nil new.durable in
    let before : journal old ≡ (old.durable ++ b.front) ++ b.lost =
    ap (λ xs. old.durable ++ xs) (sym b.was) ∙ sym (append_assoc old.durable b.front b.lost) in
    let made : Made n s (durables sites) no_lists (old.durable ++ b.front) =
    made_left n s (durables sites) no_lists (old.durable ++ b.front) b.lost
    (subst (λ xs. Made n s (durables sites) no_lists xs) before (k.made s)) in
    let lists : new.lists ≡ lists_of s new.durable
    = λ i. record { log = b.again.log i; applied = λ o. b.again.applied o i } in
    record {
      lists = lists ∙ ap (λ xs. lists_of s xs) (sym whole);
      made = subst (λ xs. Made n s (durables sites) no_lists xs) (sym (whole ∙ b.kept)) made;
      longer = (b.front, sym b.kept);
    }

-- what was durable at each site is so after an event
front_kept : (n : ℕ) (old : ℕ → Site) (event : Event) (new : ℕ → Site) → Happens n old event new
    → IsFront (old (site_of event)).durable (new (site_of event)).durable
    → (k : ℕ) → IsFront (old k).durable (new k).durable
front_kept n old event new h longer k = elim (cases_eq k (site_of event)) [
  | inl p ↦ subst (λ j. IsFront (old j).durable (new j).durable) (sym p) longer
  | inr ne ↦
      subst (λ (x : Site). IsFront (old k).durable x.durable) (sym (h.others k ne)) (front_refl (old k).durable)
]

sound_after : (n : ℕ) (old : ℕ → Site) (event : Event) (new : ℕ → Site) → Sound n old → Happens n old event new
    → Sound n new
sound_after n old event new k h =
    let s : ℕ = site_of event in
    let g : Goes n s (durables old) (old s) (new s) = goes n old event (new s) k h.becomes in
    let longer : (o : ℕ) → IsPrefix (durables old o).log (durables new o).log
    = λ o. front_log o (old o).durable (new o).durable (front_kept n old event new h g.longer o) in
    record {
      lists = λ j. elim (cases_eq j s) [
        | inl p ↦ subst (λ i. (new i).lists ≡ lists_of i (journal (new i))) (sym p) g.lists
        | inr ne ↦
            subst (λ (x : Site). x.lists ≡ lists_of j (journal x)) (sym (h.others j ne)) (k.lists j)
      ];
      made = λ j. elim (cases_eq j s) [
        | inl p ↦
            subst (λ i. Made n i (durables new) no_lists (journal (new i))) (sym p)
            (made_more n s (durables old) (durables new) longer no_lists (journal (new s)) g.made)
        | inr ne ↦
            subst (λ (x : Site). Made n j (durables new) no_lists (journal x)) (sym (h.others j ne))
            (made_more n j (durables old) (durables new) longer no_lists (journal (old j)) (k.made j))
      ];
      none = λ j out. elim (cases_eq j s) [
        | inl p ↦ absurd (out (subst (λ i. IsSiteOf n i) (sym p) h.site))
        | inr ne ↦ subst (λ (x : Site). journal x ≡ []) (sym (h.others j ne)) (k.none j out)
      ];
    }

sound_all : (n : ℕ) (old : ℕ → Site) (events : List Event) (new : ℕ → Site) → Sound n old → Happen n old events new
    → Sound n new
sound_all n old [] new k h = subst (λ (sites : ℕ → Site). Sound n sites) (λ i j. sym (h j) i) k
sound_all n old (event ∷ events) new k h
    = sound_all n h.0 events new (sound_after n old event h.0 k h.1) h.2

sound_start : (n : ℕ) (sites : ℕ → Site) → AllNew n sites → Sound n sites
sound_start n sites new =
    let empty : (s : ℕ) → journal (sites s) ≡ [] = λ s i. (new.each s).durable i ++ (new.each s).pending i in
    record {
      lists = λ s. (λ i. record {
        log = (new.each s).lists.log i;
        applied = λ o. (new.each s).lists.applied o i;
      }) ∙ ap (λ rs. lists_of s rs) (sym (empty s));
      made = λ s. subst (λ rs. Made n s (durables sites) no_lists rs) (sym (empty s)) tt;
      none = λ s out. empty s;
    }

-- ---- a cut through the journals

invariant_at : (n s : ℕ) (sent : ℕ → SiteLists) (rs : List Record) → 2 ≤ n → n ≤ 16 → IsSiteOf n s
    → Made n s sent no_lists rs → SiteInvariant n s (lists_of s rs).log (lists_of s rs).applied
invariant_at n s sent rs some few site m =
    made_keeps n s sent no_lists rs some few site (site_starts n s [] (λ o. []) refl (λ o. refl)) m

front_made : (n : ℕ) (sites : ℕ → Site) (s : ℕ) (front : List Record) → Sound n sites
    → IsFront front (journal (sites s)) → Made n s (durables sites) no_lists front
front_made n sites s front k (rest, p) =
    made_left n s (durables sites) no_lists front rest
    (subst (λ rs. Made n s (durables sites) no_lists rs) (sym p) (k.made s))

durable_chain : (n : ℕ) (sites : ℕ → Site) → 2 ≤ n → n ≤ 16 → Sound n sites → (o : ℕ)
    → IsChain o (durables sites o).log
durable_chain n sites some few k o = elim (is_site n o) [
  | inl site ↦
      (invariant_at n o (durables sites) (sites o).durable some few site
      (front_made n sites o (sites o).durable k ((sites o).pending, refl))).chain
  | inr out ↦
      subst (λ rs. IsChain o (lists_of o rs).log) (sym (nil_left (sites o).durable (sites o).pending (k.none o out))) tt
]

cut_of_fronts : (n : ℕ) (sites : ℕ → Site) (fronts : ℕ → List Record) → 2 ≤ n → n ≤ 16 → Sound n sites
    → AreFronts sites fronts → IsCut n (λ s. lists_of s (fronts s))
cut_of_fronts n sites fronts some few k are = record {
  some = some;
  few = few;
  kept = λ s site. invariant_at n s (durables sites) (fronts s) some few site
      (front_made n sites s (fronts s) k (are s).1);
  begins = λ s o site. prefix_trans ((lists_of s (fronts s)).applied o) (durables sites o).log (lists_of o (fronts o)).log
      (made_begins n s (durables sites) no_lists (fronts s) (durable_chain n sites some few k)
      (front_made n sites s (fronts s) k (are s).1) (λ j. ((durables sites j).log, refl)) o)
      (front_log o (sites o).durable (fronts o) (are o).0);
  others = λ s out.
      (let whole : List Record = (are s).1.0 in
      let none : fronts s ≡ [] = nil_left (fronts s) (are s).1.0 ((are s).1.1 ∙ k.none s out) in
      record {
        log = ap (λ rs. (lists_of s rs).log) none;
        applied = λ o. ap (λ rs. (lists_of s rs).applied o) none;
      });
}

pub any_crash : (n : ℕ) (start : ℕ → Site) (events : List Event) (now : ℕ → Site) → AllNew n start
    → Happen n start events now → OutlivesCrashes n now
any_crash n start events now new happen =
    let k : Sound n now = sound_all n start events now (sound_start n start new) happen in
    let mixed : (fronts : ℕ → List Record) → AreFronts now fronts
    → AllPromised (together n (λ s. lists_of s (fronts s))) =
    λ fronts are. any_cut n (λ s. lists_of s (fronts s)) (cut_of_fronts n now fronts new.some new.few k are) in
    let whole : AllPromised (together n (λ s. lists_of s (journal (now s)))) =
    mixed (λ s. journal (now s)) (λ s. (((now s).pending, refl), front_refl (journal (now s)))) in
    record {
      replayed = λ s. record {
        log = ap (λ (l : SiteLists). l.log) (k.lists s);
        applied = λ o. ap (λ (l : SiteLists). l.applied o) (k.lists s);
      };
      in_memory = subst (λ (sites : ℕ → SiteLists). AllPromised (together n sites)) (λ i s. sym (k.lists s) i) whole;
      on_disk = mixed (λ s. (now s).durable) (λ s. (front_refl (now s).durable, ((now s).pending, refl)));
      mixed = mixed;
    }

-- ---- for good

becomes_longer : (n : ℕ) (sites : ℕ → Site) (event : Event) (new : Site) → Becomes n sites event new
    → IsFront (sites (site_of event)).durable new.durable
becomes_longer n sites (Steps s change) new b
    = subst (λ rs. IsFront (sites s).durable rs) (sym b.durable) (front_refl (sites s).durable)
becomes_longer n sites (Asks s ask) new b
    = subst (λ rs. IsFront (sites s).durable rs) (sym b.durable) (front_refl (sites s).durable)
becomes_longer n sites (Syncs s) new b = (b.front, sym b.durable)
becomes_longer n sites (Crashes s) new b = (b.front, sym b.kept)

all_longer : (n : ℕ) (old : ℕ → Site) (events : List Event) (new : ℕ → Site) → Happen n old events new → (s : ℕ)
    → IsFront (old s).durable (new s).durable
all_longer n old [] new h s
    = subst (λ (x : Site). IsFront (old s).durable x.durable) (sym (h s)) (front_refl (old s).durable)
all_longer n old (event ∷ events) new h s =
    front_trans (old s).durable (h.0 s).durable (new s).durable
    (front_kept n old event h.0 h.1 (becomes_longer n old event (h.0 (site_of event)) h.1.becomes) s)
    (all_longer n h.0 events new h.2 s)

pub durable_for_good : (n : ℕ) (old : ℕ → Site) (events : List Event) (new : ℕ → Site) → Happen n old events new
    → (s : ℕ) → StaysDurable s (old s) (new s)
durable_for_good n old events new h s =
    let longer : IsFront (old s).durable (new s).durable = all_longer n old events new h s in
    record {
      records = longer;
      log = front_log s (old s).durable (new s).durable longer;
      applied = λ o. front_applied s o (old s).durable (new s).durable longer;
    }

-- ---- what is durable follows a schedule

-- these lists of all sites, with others of s
abbrev with_site : (ℕ → SiteLists) → ℕ → SiteLists → ℕ → SiteLists
with_site sites s l = λ k. cond (k == s) l (sites k)

at_it : (sites : ℕ → SiteLists) (s : ℕ) (l : SiteLists) → with_site sites s l s ≡ l
at_it sites s l = ap (λ b. cond b l (sites s)) (eq-eqb s s refl)

at_other : (sites : ℕ → SiteLists) (s : ℕ) (l : SiteLists) (k : ℕ) → k ≢ s → with_site sites s l k ≡ sites k
at_other sites s l k ne = ap (λ b. cond b l (sites k)) (ne_eqb k s ne)

same_lists : (old new : SiteLists) → new ≡ old → SameLists old new
same_lists old new same = record {
  log = ap (λ (l : SiteLists). l.log) same;
  applied = λ o. ap (λ (l : SiteLists). l.applied o) same;
}

-- one writer: what s applies was sent, if the lists of s itself are not asked for
sent_with : (n s : ℕ) (sites : ℕ → SiteLists) (l l2 : SiteLists) (change : LocalChange) → LocalStep n s l change l2
    → IsSent sites change → IsSent (with_site sites s l) change
sent_with n s sites l l2 (Write ms) step h = tt
sent_with n s sites l l2 (Apply o e) step h =
    subst (λ (x : SiteLists). Contains x.log e) (sym (at_other sites s l o (λ p. step.differ (sym p)))) h
sent_with n s sites l l2 (Retire heir) step h = tt
sent_with n s sites l l2 Other step h = tt

-- a schedule and a second one
abbrev Scheduled : ℕ → (ℕ → SiteLists) → (ℕ → SiteLists) → Type 0
Scheduled n old new = (turns : List Turn) × Schedule n old turns new

schedule_both : (n : ℕ) (old : ℕ → SiteLists) (xs : List Turn) (mid new : ℕ → SiteLists) → Schedule n old xs mid
    → Scheduled n mid new → Scheduled n old new
schedule_both n old [] mid new a b =
    let same : (k : ℕ) → old k ≡ mid k = λ k i. record { log = sym (a k).log i; applied = λ o. sym ((a k).applied o) i } in
    subst (λ (sites : ℕ → SiteLists). Scheduled n sites new) (λ i k. sym (same k) i) b
schedule_both n old (x ∷ xs) mid new a b =
    let rest = schedule_both n a.0 xs mid new a.2 b in
    (x ∷ rest.0, (a.0, a.1, rest.1))

-- the steps of one site
made_schedule : (n s : ℕ) (sites : ℕ → SiteLists) (l : SiteLists) (rs : List Record) → IsSiteOf n s
    → Made n s sites l rs → Scheduled n (with_site sites s l) (with_site sites s (lists_from s l rs))
made_schedule n s sites l [] site m
    = ([], λ k. same_lists (with_site sites s l k) (with_site sites s l k) refl)
made_schedule n s sites l (r ∷ rs) site m =
    let next : SiteLists = lists_after s l r in
    let rest = made_schedule n s sites next rs site m.3 in
    let step : LocalStep n s (with_site sites s l s) m.0 (with_site sites s next s) =
    subst (λ (x : SiteLists × SiteLists). LocalStep n s x.0 m.0 x.1)
    (λ i. (sym (at_it sites s l) i, sym (at_it sites s next) i)) m.1 in
    let turn : TakesTurn n (with_site sites s l) (record { site = s; change = m.0 }) (with_site sites s next) = record {
      site = site;
      step = step;
      sent = sent_with n s sites l next m.0 m.1 m.2;
      others = λ k ne. same_lists (with_site sites s l k) (with_site sites s next k)
          (at_other sites s next k ne ∙ sym (at_other sites s l k ne));
    } in
    (record { site = s; change = m.0 } ∷ rest.0, (with_site sites s next, turn, rest.1))

-- the records that an event makes durable
event_schedule : (n : ℕ) (old : ℕ → Site) (event : Event) (new : ℕ → Site) → Sound n old → Happens n old event new
    → Scheduled n (durables old) (durables new)
event_schedule n old event new k h =
    let s : ℕ = site_of event in
    let g : Goes n s (durables old) (old s) (new s) = goes n old event (new s) k h.becomes in
    let more : List Record = g.longer.0 in
    let l : SiteLists = durables old s in
    let parts : journal (new s) ≡ (old s).durable ++ (more ++ (new s).pending) =
    ap (λ xs. xs ++ (new s).pending) (sym g.longer.1) ∙ append_assoc (old s).durable more (new s).pending in
    let made : Made n s (durables old) l more =
    made_left n s (durables old) l more (new s).pending
    (made_right n s (durables old) no_lists (old s).durable (more ++ (new s).pending)
    (subst (λ xs. Made n s (durables old) no_lists xs) parts g.made)) in
    let run = made_schedule n s (durables old) l more h.site made in
    let before : (j : ℕ) → durables old j ≡ with_site (durables old) s l j = λ j. elim (cases_eq j s) [
      | inl p ↦ subst (λ i. durables old i ≡ with_site (durables old) s l i) (sym p) (sym (at_it (durables old) s l))
      | inr ne ↦ sym (at_other (durables old) s l j ne)
    ] in
    let last : SiteLists = lists_from s l more in
    let here : durables new s ≡ last = front_lists s (old s).durable (new s).durable g.longer in
    let after : (j : ℕ) → durables new j ≡ with_site (durables old) s last j = λ j. elim (cases_eq j s) [
      | inl p ↦ subst (λ i. durables new i ≡ with_site (durables old) s last i) (sym p)
          (here ∙ sym (at_it (durables old) s last))
      | inr ne ↦ ap (λ (x : Site). lists_of j x.durable) (h.others j ne) ∙ sym (at_other (durables old) s last j ne)
    ] in
    subst (λ (x : (ℕ → SiteLists) × (ℕ → SiteLists)). Scheduled n x.0 x.1)
    (λ i. ((λ j. sym (before j) i), (λ j. sym (after j) i))) run

all_schedule : (n : ℕ) (old : ℕ → Site) (events : List Event) (new : ℕ → Site) → Sound n old → Happen n old events new
    → Scheduled n (durables old) (durables new)
all_schedule n old [] new k h
    = ([], λ j. same_lists (durables old j) (durables new j) (ap (λ (x : Site). lists_of j x.durable) (h j)))
all_schedule n old (event ∷ events) new k h =
    let first = event_schedule n old event h.0 k h.1 in
    schedule_both n (durables old) first.0 (durables h.0) (durables new) first.1
    (all_schedule n h.0 events new (sound_after n old event h.0 k h.1) h.2)

durable_fresh : (n : ℕ) (sites : ℕ → Site) → AllNew n sites → AllFresh n (durables sites)
durable_fresh n sites new = record {
  some = new.some;
  few = new.few;
  each = λ s. record {
    log = ap (λ rs. (lists_of s rs).log) (new.each s).durable;
    applied = λ o. ap (λ rs. (lists_of s rs).applied o) (new.each s).durable;
  };
}

pub durable_schedule : (n : ℕ) (start : ℕ → Site) (events : List Event) (now : ℕ → Site) → AllNew n start
    → Happen n start events now → DurableFollows n start now
durable_schedule n start events now new happen =
    let run = all_schedule n start events now (sound_start n start new) happen in
    record {
      turns = run.0;
      schedule = run.1;
      follows = any_schedule n (durables start) run.0 (durables now) (durable_fresh n start new) run.1;
    }
