-- Each change preserves the invariant.
use Rattle.std.proofs.Common.{◌≡◌, ℕ, inl, inr, List, [], ◌∷◌, ◌++◌, Option, arith, refl, sym, ap, ◌∙◌, subst}
use Rattle.std.specs.List.{Contains}
use Rattle.std.proofs.lemmas.Bool.{cases_eq}
use Rattle.std.proofs.lemmas.List.{append-nil}
use Rattle.std.proofs.lemmas.List.Elements.{All-nil}
use Rattle.rights_types.specs.Entries.{EntryValue}
use Rattle.rights_types.specs.Chains.{IsChain, IsLongest}
use Rattle.rights_types.specs.declared.moves.Move.{Move}
use Rattle.rights_types.proofs.Chains.{prefix_chain}
use Rattle.rights_protocol.specs.Lists.{Lists}
use Rattle.rights_protocol.specs.Retiring.{entry_at_end, owed, numbers_in, taking_back}
use Rattle.rights_protocol.specs.Writing.{closing_moves}
use Rattle.rights_protocol.specs.Changes.{Change, LinkStays, Stays, OthersStay, Appends, Reaches, Offers, Takes, Closes}
use Rattle.rights_protocol.specs.Changes.{Step, Start}
use Rattle.rights_protocol.specs.Changes.Change.{Append, Offer, Take, CloseSite, Nothing}
use Rattle.rights_protocol.specs.Invariant.{SiteInvariant, LinkInvariant, Invariant}
use Rattle.rights_protocol.proofs.Takings.{taking_cases}
use Rattle.rights_protocol.proofs.Links.{link_grows, link_reaches, link_applies, applied_begins}
use Rattle.rights_protocol.proofs.Sites.{site_same, site_appends, site_closes, site_takes, site_starts}

-- ---- a link whose lists stay

same_link : (old new : Lists) (s o : ℕ) → Invariant old → LinkStays old new s o
    → LinkInvariant (old.log o) (new.reached s o) (new.put s o) (new.applied s o)
same_link old new s o kept stays = rw (stays.reached, stays.put, stays.applied) (kept.links s o)

pub stays_kept : (old new : Lists) → Invariant old → Stays old new → Invariant new
stays_kept old new kept stays = record {
  some = rw stays.count kept.some;
  few = rw stays.count kept.few;
  sites = λ s. rw stays.count
      (site_same old.count s (old.log s) (new.log s) (old.applied s) (new.applied s) (kept.sites s) (stays.sites s).log
      (λ o. ((stays.sites s).links o).applied));
  links = λ s o. rw (stays.sites o).log (same_link old new s o kept ((stays.sites s).links o));
}

-- ---- a change of one site

-- the invariant of a link to any site is preserved as the log of s grows
GoesOn : Lists → Lists → Type 0
GoesOn old new = (o : ℕ) (reached put applied : List EntryValue) → LinkInvariant (old.log o) reached put applied
    → LinkInvariant (new.log o) reached put applied

log_stays : (old new : Lists) (s : ℕ) → OthersStay old new s → new.log s ≡ old.log s → GoesOn old new
unfolding GoesOn
log_stays old new s others same o reached put applied k = elim (cases_eq o s) [
  | inl p ↦ let now : new.log o ≡ old.log o = subst (λ j. new.log j ≡ old.log j) (sym p) same in rw now k
  | inr ne ↦ rw (others.sites o ne).log k
]

log_grows : (old new : Lists) (s : ℕ) (e : EntryValue) → OthersStay old new s → new.log s ≡ old.log s ++ e ∷ []
    → IsChain s (new.log s) → GoesOn old new
unfolding GoesOn
log_grows old new s e others grown chain o reached put applied k = elim (cases_eq o s) [
  | inl p ↦ subst (λ j. LinkInvariant (new.log j) reached put applied) (sym p)
      (rw grown (link_grows s (old.log s) e reached put applied (subst (IsChain s) grown chain)
      (subst (λ j. LinkInvariant (old.log j) reached put applied) p k)))
  | inr ne ↦ rw (others.sites o ne).log k
]

-- the invariant of site s, and of each of its links
kept_by : (old new : Lists) (s : ℕ) → Invariant old → OthersStay old new s
    → SiteInvariant old.count s (new.log s) (new.applied s) → GoesOn old new
    → ((o : ℕ) → LinkInvariant (old.log o) (new.reached s o) (new.put s o) (new.applied s o)) → Invariant new
unfolding GoesOn
kept_by old new s kept others site goes_on links = record {
  some = rw others.count kept.some;
  few = rw others.count kept.few;
  sites = λ k. rw others.count (elim (cases_eq k s) [
    | inl p ↦ subst (λ j. SiteInvariant old.count j (new.log j) (new.applied j)) (sym p) site
    | inr ne ↦
        let stays = others.sites k ne in
        site_same old.count k (old.log k) (new.log k) (old.applied k) (new.applied k) (kept.sites k) stays.log
        (λ o. (stays.links o).applied)
  ]);
  links = λ k o. goes_on o (new.reached k o) (new.put k o) (new.applied k o) (elim (cases_eq k s) [
    | inl p ↦ subst (λ j. LinkInvariant (old.log o) (new.reached j o) (new.put j o) (new.applied j o)) (sym p) (links o)
    | inr ne ↦ same_link old new k o kept ((others.sites k ne).links o)
  ]);
}

-- the log of s grows by an entry, and its links stay
writes_kept : (old new : Lists) (s : ℕ) (e : EntryValue) → Invariant old → OthersStay old new s
    → new.log s ≡ old.log s ++ e ∷ [] → ((o : ℕ) → LinkStays old new s o)
    → SiteInvariant old.count s (old.log s ++ e ∷ []) (old.applied s) → Invariant new
writes_kept old new s e kept others grown links site =
    let here : SiteInvariant old.count s (new.log s) (new.applied s)
    = site_same old.count s (old.log s ++ e ∷ []) (new.log s) (old.applied s) (new.applied s) site grown
    (λ o. (links o).applied) in
    kept_by old new s kept others here (log_grows old new s e others grown here.chain)
    (λ o. same_link old new s o kept (links o))

appends_kept : (old new : Lists) (s : ℕ) (ms : List Move) → Invariant old → Appends old new s ms → Invariant new
appends_kept old new s ms kept step =
    writes_kept old new s (entry_at_end s (old.log s) ms) kept step.others step.log step.links
    (site_appends old.count s (old.log s) (old.applied s) ms kept.some kept.few step.site (kept.sites s) step.may)

closes_kept : (old new : Lists) (s : ℕ) (heir : Option ℕ) → Invariant old → Closes old new s heir → Invariant new
closes_kept old new s heir kept step =
    writes_kept old new s (entry_at_end s (old.log s) (closing_moves old.count s (old.log s) (old.applied s) heir)) kept
    step.others step.log step.links
    (site_closes old.count s (old.log s) (old.applied s) heir kept.some kept.few step.site (kept.sites s) step.may)

-- ---- an offer

reached_link : (old new : Lists) (s o : ℕ) (e : EntryValue) → Invariant old → Contains (old.log o) e
    → Reaches old new s o e → LinkInvariant (old.log o) (new.reached s o) (new.put s o) (new.applied s o)
reached_link old new s o e kept sent r =
    rw (r.reached, r.applied)
    (link_reaches o (old.log o) (old.reached s o) (old.put s o) (new.put s o) (old.applied s o) e (kept.sites o).chain
    (kept.links s o) sent r.fresh r.room
    (subst (λ set. IsLongest set (old.log o) (new.put s o)) r.reached r.put))

reaches_kept : (old new : Lists) (s o : ℕ) (e : EntryValue) → Invariant old → Contains (old.log o) e
    → Reaches old new s o e → Invariant new
reaches_kept old new s o e kept sent r =
    let same_applied : (k : ℕ) → new.applied s k ≡ old.applied s k = λ k. elim (cases_eq k o) [
      | inl p ↦ subst (λ j. new.applied s j ≡ old.applied s j) (sym p) r.applied
      | inr ne ↦ (r.links k ne).applied
    ] in
    kept_by old new s kept r.others (site_same old.count s (old.log s) (new.log s) (old.applied s) (new.applied s)
    (kept.sites s) r.log same_applied) (log_stays old new s r.others r.log)
    (λ k. elim (cases_eq k o) [
      | inl p ↦ subst (λ j. LinkInvariant (old.log j) (new.reached s j) (new.put s j) (new.applied s j)) (sym p)
          (reached_link old new s o e kept sent r)
      | inr ne ↦ same_link old new s k kept (r.links k ne)
    ])

offers_kept : (old new : Lists) (s o : ℕ) (e : EntryValue) → Invariant old → Offers old new s o e → Invariant new
offers_kept old new s o e kept offer = elim offer.comes [
  | inl r ↦ reaches_kept old new s o e kept offer.sent r
  | inr t ↦ stays_kept old new kept t.all
]

-- ---- a take

-- the next entry continues what was applied
pub next_chain : (old new : Lists) (s o : ℕ) → Invariant old → (step : Takes old new s o)
    → IsChain o (old.applied s o ++ step.entry ∷ [])
next_chain old new s o kept step =
    let longer = link_applies (old.log o) (old.reached s o) (old.put s o) (old.applied s o) step.entry
    (kept.links s o) step.next in
    prefix_chain o (old.applied s o ++ step.entry ∷ []) (old.log o)
    (applied_begins (old.log o) (old.reached s o) (old.put s o) (old.applied s o ++ step.entry ∷ []) longer)
    (kept.sites o).chain

taken_goes_on : (old new : Lists) (s o : ℕ) → (step : Takes old new s o) → IsChain s (new.log s) → GoesOn old new
taken_goes_on old new s o step chain
    = elim (taking_cases s o (old.log s) (owed s o (old.log s) (numbers_in step.entry.moves))) [
      | inl p ↦ log_stays old new s step.others (step.log ∙ ap (λ es. old.log s ++ es) p.1 ∙ append-nil (old.log s))
      | inr p ↦ log_grows old new s _ step.others (step.log ∙ ap (λ es. old.log s ++ es) p.1) chain
    ]

takes_kept : (old new : Lists) (s o : ℕ) → Invariant old → Takes old new s o → Invariant new
takes_kept old new s o kept step =
    let e : EntryValue = step.entry in
    let taken : SiteInvariant old.count s (old.log s ++ taking_back s o (old.log s) e) (new.applied s) =
    site_takes old.count s o (old.log s) (old.applied s) (new.applied s) e kept.some kept.few step.site step.from
    step.differ (kept.sites s) step.unclosed
    (next_chain old new s o kept step) step.applied in
    let site : SiteInvariant old.count s (new.log s) (new.applied s)
    = subst (λ es. SiteInvariant old.count s es (new.applied s)) (sym step.log) taken in
    kept_by old new s kept step.others site (taken_goes_on old new s o step site.chain)
    (λ k. elim (cases_eq k o) [
      | inl p ↦ subst (λ j. LinkInvariant (old.log j) (new.reached s j) (new.put s j) (new.applied s j)) (sym p)
          (rw (step.reached o, step.put o, step.applied.there)
          (link_applies (old.log o) (old.reached s o) (old.put s o) (old.applied s o) e (kept.links s o) step.next))
      | inr ne ↦ same_link old new s k kept
          (record { reached = step.reached k; put = step.put k; applied = step.applied.elsewhere k ne })
    ])

-- ---- any change, and the start

pub step_keeps : (old : Lists) (change : Change) (new : Lists) → Invariant old → Step old change new → Invariant new
step_keeps old (Append s ms) new kept step = appends_kept old new s ms kept step
step_keeps old (Offer s o e) new kept step = offers_kept old new s o e kept step
step_keeps old (Take s o) new kept step = takes_kept old new s o kept step
step_keeps old (CloseSite s heir) new kept step = closes_kept old new s heir kept step
step_keeps old Nothing new kept step = stays_kept old new kept step

none_longest : IsLongest [] [] []
none_longest = record { rest = []; whole = refl; inside = All-nil (Contains []); no_longer = tt }

pub start_kept : (n : ℕ) (w : Lists) → Start n w → Invariant w
start_kept n w start = record {
  some = omega (arith, start.count, start.some);
  few = omega (arith, start.count, start.few);
  sites = λ s. site_starts w.count s (w.log s) (w.applied s) (start.log s) (start.applied s);
  links = λ s o. rw (start.log o, start.reached s o, start.put s o, start.applied s o) (record {
    sent = All-nil (Contains []);
    once = λ i j d below within. absurd (omega (arith, within));
    longest = none_longest;
    held = omega arith;
    begins = ([], refl);
  });
}
