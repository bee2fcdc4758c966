-- An interleaving of the steps of all sites, as a run of the protocol.
use Rattle.std.proofs.Common.{◌≡◌, ◌≢◌, ℕ, ◌+◌, inl, inr, false, List, [], ◌∷◌, ◌++◌, length, Some, arith, refl, sym}
use Rattle.std.proofs.Common.{ap, ◌∙◌, subst}
use Rattle.std.specs.List.{Contains, slice_get}
use Rattle.std.proofs.lemmas.Bool.{cases_eq}
use Rattle.std.proofs.lemmas.List.{append_assoc, length_push, get_or_push}
use Rattle.std.proofs.lemmas.List.Elements.{Contains-append_cases}
use Rattle.std.proofs.lemmas.Option.{slice_get_read}
use Rattle.rights_types.specs.Entries.{EntryValue}
use Rattle.rights_types.specs.Chains.{end, closed_from, IsChain, IsPrefix, IsLongest}
use Rattle.rights_types.proofs.Chains.{chain_left, chain_right, not_before, next_entry}
use Rattle.rights_protocol.specs.Lists.{Lists, IsSiteOf}
use Rattle.rights_protocol.specs.Changes.{Change, Stays, OthersStay, Offers, Takes, Step, Runs, Start}
use Rattle.rights_protocol.specs.Changes.Change.{Append, Offer, Take, CloseSite, Nothing}
use Rattle.rights_protocol.specs.Invariant.{Invariant}
use Rattle.rights_protocol.specs.Schedules.{SiteLists, SameLists, together, LocalChange, AppliesNext, LocalStep}
use Rattle.rights_protocol.specs.Schedules.{AllPromised, Turn, IsSent, TakesTurn, Schedule, AllFresh, changes_by}
use Rattle.rights_protocol.specs.Schedules.{changes_of, AtEachMoment, FollowsProtocol}
use Rattle.rights_protocol.specs.Schedules.LocalChange.{Write, Apply, Retire, Other}
use Rattle.rights_protocol.proofs.Steps.{stays_kept, step_keeps, start_kept}
use Rattle.rights_protocol.proofs.Promises.{begins}
use Rattle.rights_protocol.proofs.Cuts.{front_longest, all_promised}

-- ---- changes that lead from lists to lists

-- the invariant is preserved, and whatever follows from the new lists follows from the old ones
record Lead (old : Lists) (changes : List Change) (new : Lists) : Type 0 where
  pub kept : Invariant new
  pub runs : (rest : List Change) (last : Lists) → Runs new rest last → Runs old (changes ++ rest) last

one_leads : (old : Lists) (change : Change) (new : Lists) → Invariant old → Step old change new
    → Lead old (change ∷ []) new
one_leads old change new kept step
    = record { kept = step_keeps old change new kept step; runs = λ rest last run. (new, step, run) }

two_lead : (old : Lists) (first : Change) (mid : Lists) (second : Change) (new : Lists) → Invariant old
    → Step old first mid → Step mid second new → Lead old (first ∷ (second ∷ [])) new
two_lead old first mid second new kept a b = record {
  kept = step_keeps mid second new (step_keeps old first mid kept a) b;
  runs = λ rest last run. (mid, a, (new, b, run));
}

-- ---- what stays

others_stay : (n s : ℕ) (old new : ℕ → SiteLists) → ((k : ℕ) → k ≢ s → SameLists (old k) (new k))
    → OthersStay (together n old) (together n new) s
others_stay n s old new others = record {
  count = refl;
  sites = λ k ne. record {
    log = (others k ne).log;
    links = λ o. record {
      reached = (others k ne).applied o;
      put = (others k ne).applied o;
      applied = (others k ne).applied o;
    };
  };
}

all_stay : (n : ℕ) (old new : ℕ → SiteLists) → ((k : ℕ) → SameLists (old k) (new k))
    → Stays (together n old) (together n new)
all_stay n old new same = record {
  count = refl;
  sites = λ k. record {
    log = (same k).log;
    links = λ o. record { reached = (same k).applied o; put = (same k).applied o; applied = (same k).applied o };
  };
}

-- ---- an apply: an offer, and then a take

-- between the two, the entry has reached the site, and is not applied
abbrev between : ℕ → (ℕ → SiteLists) → (ℕ → SiteLists) → Lists
between n old new = record {
  count = n;
  log = λ k. (old k).log;
  reached = λ k. (new k).applied;
  put = λ k. (new k).applied;
  applied = λ k. (old k).applied;
}

-- what s applied of the log of o, with the entry, is a prefix of that log
pub next_begins : (o : ℕ) (es front : List EntryValue) (e : EntryValue) → IsChain o es → IsPrefix front es → Contains es e
    → e.prev ≡ end front → IsPrefix (front ++ e ∷ []) es
next_begins o es front e c p sent at =
    let chain : IsChain o (front ++ p.0) = subst (IsChain o) (sym p.1) c in
    let in_rest : Contains p.0 e
    = elim (Contains-append_cases front p.0 e (subst (λ xs. Contains xs e) (sym p.1) sent)) [
      | inl h ↦ absurd (not_before o front e (chain_left o false 0 front p.0 chain) (omega (arith, at)) h)
      | inr h ↦ h
    ] in
    let first = next_entry o (closed_from false front) (end front) p.0 e (chain_right o false 0 front p.0 chain)
    in_rest at in
    (first.0, append_assoc front (e ∷ []) first.0 ∙ ap (λ (xs : List EntryValue). front ++ xs) first.1 ∙ p.1)

-- what is known where s applies the entry e of o
record Applying (n s o : ℕ) (e : EntryValue) (old new : ℕ → SiteLists) : Type 0 where
  pub site : IsSiteOf n s
  pub step : AppliesNext n s (old s) o e (new s)
  pub sent : Contains (old o).log e
  pub others : (k : ℕ) → k ≢ s → SameLists (old k) (new k)

offers : (n s o : ℕ) (e : EntryValue) (old new : ℕ → SiteLists) → Invariant (together n old) → Applying n s o e old new
    → Offers (together n old) (between n old new) s o e
offers n s o e old new kept a =
    let front : List EntryValue = (old s).applied o in
    let next = chain_right o false 0 front (e ∷ []) a.step.next in
    let at : e.prev ≡ end front = next.2 in
    let chain : IsChain o front = chain_left o false 0 front (e ∷ []) a.step.next in
    let long : IsPrefix (front ++ e ∷ []) (old o).log
    = next_begins o (old o).log front e (kept.sites o).chain (begins (together n old) s o kept) a.sent at in
    record {
      site = a.site;
      from = a.step.from;
      differ = a.step.differ;
      sent = a.sent;
      comes = inl (record {
        fresh = not_before o front e chain (omega (arith, at));
        room = inl at;
        log = refl;
        reached = a.step.applied.there;
        put = subst (λ es. IsLongest es (old o).log es) (sym a.step.applied.there)
            (front_longest o (old o).log (front ++ e ∷ []) (kept.sites o).chain long);
        applied = refl;
        links = λ k ne. record {
          reached = a.step.applied.elsewhere k ne;
          put = a.step.applied.elsewhere k ne;
          applied = refl;
        };
        others = record {
          count = refl;
          sites = λ k ne. record {
            log = refl;
            links = λ j. record {
              reached = (a.others k ne).applied j;
              put = (a.others k ne).applied j;
              applied = refl;
            };
          };
        };
      });
    }

takes : (n s o : ℕ) (e : EntryValue) (old new : ℕ → SiteLists) → Applying n s o e old new
    → Takes (between n old new) (together n new) s o
takes n s o e old new a =
    let front : List EntryValue = (old s).applied o in
    let last : slice_get (front ++ e ∷ []) (length front) ≡ Some e =
    slice_get_read (front ++ e ∷ []) (length front + 1) (length front) e (omega (arith, length_push front e))
    (omega arith) (sym (get_or_push front e e (length front) refl)) in
    record {
      site = a.site;
      from = a.step.from;
      differ = a.step.differ;
      unclosed = a.step.unclosed;
      entry = e;
      next = ap (λ (es : List EntryValue). slice_get es (length front)) a.step.applied.there ∙ last;
      applied = a.step.applied;
      log = a.step.log;
      reached = λ k. refl;
      put = λ k. refl;
      others = record {
        count = refl;
        sites = λ k ne. record {
          log = (a.others k ne).log;
          links = λ j. record { reached = refl; put = refl; applied = (a.others k ne).applied j };
        };
      };
    }

-- ---- a turn

by_turn : (n s : ℕ) (change : LocalChange) (old new : ℕ → SiteLists) → Invariant (together n old) → IsSiteOf n s
    → LocalStep n s (old s) change (new s) → IsSent old change
    → ((k : ℕ) → k ≢ s → SameLists (old k) (new k)) → Lead (together n old) (changes_by s change) (together n new)
by_turn n s (Write ms) old new kept site step sent others
    = one_leads (together n old) (Append s ms) (together n new) kept (record {
      site = site;
      may = step.may;
      log = step.log;
      links = λ o. record { reached = step.applied o; put = step.applied o; applied = step.applied o };
      others = others_stay n s old new others;
    })
by_turn n s (Apply o e) old new kept site step sent others =
    let a : Applying n s o e old new = record { site = site; step = step; sent = sent; others = others } in
    two_lead (together n old) (Offer s o e) (between n old new) (Take s o) (together n new) kept
    (offers n s o e old new kept a) (takes n s o e old new a)
by_turn n s (Retire heir) old new kept site step sent others
    = one_leads (together n old) (CloseSite s heir) (together n new) kept (record {
      site = site;
      may = step.may;
      log = step.log;
      links = λ o. record { reached = step.applied o; put = step.applied o; applied = step.applied o };
      others = others_stay n s old new others;
    })
by_turn n s Other old new kept site step sent others =
    one_leads (together n old) Nothing (together n new) kept (all_stay n old new (λ k. elim (cases_eq k s) [
      | inl p ↦ subst (λ j. SameLists (old j) (new j)) (sym p) step
      | inr ne ↦ others k ne
    ]))

-- ---- a schedule

schedule_runs : (n : ℕ) (old : ℕ → SiteLists) (turns : List Turn) (now : ℕ → SiteLists) → Invariant (together n old)
    → (schedule : Schedule n old turns now)
    → Runs (together n old) (changes_of turns) (together n now) × AtEachMoment AllPromised n old turns now schedule
schedule_runs n old [] now kept schedule =
    let same : Stays (together n old) (together n now) = all_stay n old now schedule in (
      same,
      (
        all_promised (together n old) kept,
        all_promised (together n now) (stays_kept (together n old) (together n now) kept same),
      ),
    )
schedule_runs n old (turn ∷ turns) now kept schedule =
    let mid : ℕ → SiteLists = schedule.0 in
    let step : TakesTurn n old turn mid = schedule.1 in
    let led : Lead (together n old) (changes_by turn.site turn.change) (together n mid)
    = by_turn n turn.site turn.change old mid kept step.site step.step step.sent step.others in
    let rest = schedule_runs n mid turns now led.kept schedule.2 in
    (led.runs (changes_of turns) (together n now) rest.0, (all_promised (together n old) kept, rest.1))

starts : (n : ℕ) (sites : ℕ → SiteLists) → AllFresh n sites → Start n (together n sites)
starts n sites fresh = record {
  some = fresh.some;
  few = fresh.few;
  count = refl;
  log = λ o. (fresh.each o).log;
  reached = λ s o. (fresh.each s).applied o;
  put = λ s o. (fresh.each s).applied o;
  applied = λ s o. (fresh.each s).applied o;
}

pub any_schedule : (n : ℕ) (start : ℕ → SiteLists) (turns : List Turn) (now : ℕ → SiteLists) → AllFresh n start
    → (schedule : Schedule n start turns now) → FollowsProtocol n start turns now schedule
any_schedule n start turns now fresh schedule =
    let at : Start n (together n start) = starts n start fresh in
    let all = schedule_runs n start turns now (start_kept n (together n start) at) schedule in
    record { from_start = at; run = all.0; promised = all.1 }
