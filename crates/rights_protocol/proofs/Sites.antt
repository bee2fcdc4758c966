-- Each step of one site preserves the invariant of that site. No other site's log is named.
use Rattle.std.proofs.Common.{◌≡◌, ◌≢◌, ℕ, ◌+◌, ◌-◌, ◌≤◌, inl, inr, Bool, true, false, cond, List, [], ◌∷◌, ◌++◌}
use Rattle.std.proofs.Common.{length, Option, Some, None, arith, refl, sym, ap, ◌∙◌, subst}
use Rattle.std.specs.List.{list_any, slice_get}
use Rattle.std.proofs.lemmas.Bool.{cases_eq, both_ways}
use Rattle.std.proofs.lemmas.List.{append-nil}
use Rattle.std.proofs.lemmas.List.Elements.{All-nil, All-append}
use Rattle.rights_types.specs.Entries.{EntryValue, closes}
use Rattle.rights_types.specs.Chains.{end, is_closed, IsChain, moves_of, AddsEntry}
use Rattle.rights_types.specs.Moves.{NamesWithin, is_close}
use Rattle.rights_types.specs.Rights.{to, received}
use Rattle.rights_types.specs.declared.moves.Move.{Move}
use Rattle.rights_types.specs.declared.moves.Move.TheVariants.{TakeBack}
use Rattle.rights_types.proofs.Chains.{chain_push, end-push, closed-push}
use Rattle.rights_types.proofs.Sums.{moves_of-nil, moves_of-push, covers-more, covers-append}
use Rattle.rights_protocol.specs.Lists.{IsSiteOf}
use Rattle.rights_protocol.specs.Retiring.{numbers_in, frontier, beyond, owed, own_frontier, entry_at_end, taking_back}
use Rattle.rights_protocol.specs.Retiring.{takings, one_taking}
use Rattle.rights_protocol.specs.Writing.{MayAppend, MayClose, closing_moves}
use Rattle.rights_protocol.specs.Invariant.{SiteInvariant, known_closed}
use Rattle.rights_protocol.proofs.Frontiers.{no_frontier, closes_by, frontier-push, front_open, owed_bound, owed_within}
use Rattle.rights_protocol.proofs.Takings.{taken_push, taken_now, none_beyond, placed_push, placed_now, taking_cases}
use Rattle.rights_protocol.proofs.Takings.{takes_it, takes_no_other, is_one_taking}
use Rattle.rights_protocol.proofs.Numbers.{frontier_kept, known_kept, known_risen, known_few, received_kept}
use Rattle.rights_protocol.proofs.Numbers.{received_risen}
use Rattle.rights_protocol.proofs.Writes.{Ready, Writable, Plain, plain_moves, append_writable, back_writable}
use Rattle.rights_protocol.proofs.Writes.{back_gives_none, Closing, closing_writable}

abbrev one_if : Bool → ℕ
one_if b = cond b 1 0

-- ---- nothing changes

pub site_same : (n s : ℕ) (log now : List EntryValue) (old new : ℕ → List EntryValue) → SiteInvariant n s log old
    → now ≡ log → ((o : ℕ) → new o ≡ old o) → SiteInvariant n s now new
site_same n s log now old new k e same = record {
  chain = rw e k.chain;
  chains = λ o. rw (same o) (k.chains o);
  itself = same s ∙ k.itself;
  within = rw e k.within;
  covered = rw (e, received_kept n s old new same) k.covered;
  closing = λ h. ap frontier e ∙ k.closing (subst (λ es. is_closed es ≡ true) e h)
      ∙ ap (λ fs. Some fs) (sym (frontier_kept n old new same));
  taken = λ c. rw (e, same c) (k.taken c);
  placed = λ c numbers place h at. rw e (k.placed c numbers place (sym (ap frontier (same c)) ∙ h) at);
  fits = λ h. rw (e, known_kept n old new same) (k.fits (sym (ap is_closed e) ∙ h));
}

-- ---- one more entry of the log

pub ready : (n s : ℕ) (log : List EntryValue) (applied : ℕ → List EntryValue) → 2 ≤ n → n ≤ 16 → IsSiteOf n s
    → is_closed log ≡ false → SiteInvariant n s log applied → Ready n s log applied
ready n s log applied some few site unclosed k = record {
  some = some;
  few = few;
  site = site;
  chain = k.chain;
  unclosed = unclosed;
  chains = k.chains;
  itself = k.itself;
  within = k.within;
  covered = k.covered;
}

-- what an entry of these moves has to satisfy, besides being one that the site may write
record Keeps (n s : ℕ) (log : List EntryValue) (applied : ℕ → List EntryValue) (ms : List Move) : Type 0 where
  pub closing : list_any is_close ms ≡ true → numbers_in ms ≡ Some (own_frontier n applied)
  pub taken : (c : ℕ) → takings c (log ++ entry_at_end s log ms ∷ [])
      ≡ one_taking c (owed s c (log ++ entry_at_end s log ms ∷ []) (frontier (applied c)))
  pub placed : (c : ℕ) (numbers : List ℕ) (place : ℕ) → frontier (applied c) ≡ Some numbers
      → slice_get numbers (s - 1) ≡ Some place
      → takings c (beyond place (log ++ entry_at_end s log ms ∷ [])) ≡ takings c (log ++ entry_at_end s log ms ∷ [])
  pub fits : list_any is_close ms ≡ false → end log + length ms ≤ 999999900 + known_closed n applied

site_writes : (n s : ℕ) (log : List EntryValue) (applied : ℕ → List EntryValue) (ms : List Move) → Ready n s log applied
    → Writable n s log applied ms → Keeps n s log applied ms
    → SiteInvariant n s (log ++ entry_at_end s log ms ∷ []) applied
site_writes n s log applied ms k may keeps =
    let e : EntryValue = entry_at_end s log ms in
    let moves : moves_of (log ++ e ∷ []) ≡ moves_of log ++ ms = moves_of-push log e in
    let ends : end (log ++ e ∷ []) ≡ end log + length ms = end-push log e in
    let closed : is_closed (log ++ e ∷ []) ≡ list_any is_close ms = closed-push false log e in
    record {
      chain = chain_push s false 0 log e k.chain k.unclosed refl refl may.is;
      chains = k.chains;
      itself = k.itself;
      within = rw moves (All-append (NamesWithin n) (moves_of log) ms k.within may.named);
      covered = rw moves (covers-append (received n s applied) (moves_of log) ms k.covered may.covered);
      closing = λ h. frontier-push log e ∙ keeps.closing (sym closed ∙ h);
      taken = keeps.taken;
      placed = keeps.placed;
      fits = λ h. omega (arith, ends, keeps.fits (sym closed ∙ h));
    }

pub site_appends : (n s : ℕ) (log : List EntryValue) (applied : ℕ → List EntryValue) (ms : List Move) → 2 ≤ n → n ≤ 16
    → IsSiteOf n s → SiteInvariant n s log applied → MayAppend n s log applied ms
    → SiteInvariant n s (log ++ entry_at_end s log ms ∷ []) applied
site_appends n s log applied ms some few site k may =
    let r : Ready n s log applied = ready n s log applied some few site may.unclosed k in
    let writable : Writable n s log applied ms = append_writable n s log applied ms r may in
    let plain : Plain s ms = plain_moves s ms may.plain in
    site_writes n s log applied ms r writable (record {
      closing = λ h. absurd (both_ways (list_any is_close ms) plain.open_moves h);
      taken = λ c. taken_push s c log (entry_at_end s log ms) (frontier (applied c)) (plain.taking c)
          (writable.given c) (k.taken c);
      placed = λ c numbers place h at. placed_push c place log (entry_at_end s log ms) (plain.taking c)
          (k.placed c numbers place h at);
      fits = λ _. omega (arith, may.fits);
    })

pub site_closes : (n s : ℕ) (log : List EntryValue) (applied : ℕ → List EntryValue) (heir : Option ℕ) → 2 ≤ n → n ≤ 16
    → IsSiteOf n s → SiteInvariant n s log applied → MayClose n s log applied heir
    → SiteInvariant n s (log ++ entry_at_end s log (closing_moves n s log applied heir) ∷ []) applied
site_closes n s log applied heir some few site k may =
    let ms : List Move = closing_moves n s log applied heir in
    let r : Ready n s log applied = ready n s log applied some few site may.unclosed k in
    let low : end log ≤ 999999998 = omega (arith, k.fits may.unclosed, known_few n s applied site k.itself) in
    let closing : Closing n s log applied ms = closing_writable n s heir log applied r low may.inherits in
    let shuts : list_any is_close ms ≡ true
    = closes_by (entry_at_end s log ms) (own_frontier n applied) closing.numbers in
    site_writes n s log applied ms r closing.may (record {
      closing = λ _. closing.numbers;
      taken = λ c. taken_push s c log (entry_at_end s log ms) (frontier (applied c)) (closing.none_taken c)
          (closing.may.given c) (k.taken c);
      placed = λ c numbers place h at. placed_push c place log (entry_at_end s log ms) (closing.none_taken c)
          (k.placed c numbers place h at);
      fits = λ h. absurd (both_ways (list_any is_close ms) h shuts);
    })

-- ---- a take

-- what is known where s takes the entry e of o, before it writes
record Taking (n s o : ℕ) (log : List EntryValue) (old new : ℕ → List EntryValue) (e : EntryValue) : Type 0 where
  pub ready : Ready n s log new
  pub none_before : takings o log ≡ []
  pub now : frontier (new o) ≡ numbers_in e.moves
  pub known : known_closed n new ≡ known_closed n old + one_if (closes e)

taking : (n s o : ℕ) (log : List EntryValue) (old new : ℕ → List EntryValue) (e : EntryValue)
    → SiteInvariant n s log old → Ready n s log old → IsSiteOf n o → s ≢ o → IsChain o (old o ++ e ∷ [])
    → AddsEntry old o e new
    → Taking n s o log old new e
taking n s o log old new e k r from differ chain step =
    let was_open : is_closed (old o) ≡ false = front_open o (old o) e [] chain in
    let more : received n s new ≡ received n s old + to s e.moves = received_risen n s o e old new from step in
    record {
      ready = record {
        some = r.some;
        few = r.few;
        site = r.site;
        chain = k.chain;
        unclosed = r.unclosed;
        chains = λ c. elim (cases_eq c o) [
          | inl p ↦ subst (λ j. IsChain j (new j)) (sym p) (rw step.there chain)
          | inr ne ↦ rw (step.elsewhere c ne) (k.chains c)
        ];
        itself = step.elsewhere s differ ∙ k.itself;
        within = k.within;
        covered = covers-more (received n s old) (received n s new) (moves_of log) (omega (arith, more)) k.covered;
      };
      none_before = k.taken o ∙ ap (λ f. one_taking o (owed s o log f)) (no_frontier (old o) was_open);
      now = ap frontier step.there ∙ frontier-push (old o) e;
      known = known_risen n o e old new from was_open step;
    }

-- if nothing is owed
takes_plain : (n s o : ℕ) (log : List EntryValue) (old new : ℕ → List EntryValue) (e : EntryValue)
    → SiteInvariant n s log old → Taking n s o log old new e → AddsEntry old o e new
    → owed s o log (numbers_in e.moves) ≡ 0 → SiteInvariant n s log new
takes_plain n s o log old new e k t step none =
    let owes : owed s o log (frontier (new o)) ≡ 0 = ap (owed s o log) t.now ∙ none in
    record {
      chain = k.chain;
      chains = t.ready.chains;
      itself = t.ready.itself;
      within = k.within;
      covered = t.ready.covered;
      closing = λ h. absurd (both_ways (is_closed log) t.ready.unclosed h);
      taken = λ c. elim (cases_eq c o) [
        | inl p ↦ subst (λ j. takings j log ≡ one_taking j (owed s j log (frontier (new j)))) (sym p) (t.none_before
            ∙ ap (one_taking o) (sym owes))
        | inr ne ↦ rw (step.elsewhere c ne) (k.taken c)
      ];
      placed = λ c numbers place h at. elim (cases_eq c o) [
        | inl p ↦ subst (λ j. takings j (beyond place log) ≡ takings j log) (sym p)
            (none_beyond o place log t.none_before ∙ sym t.none_before)
        | inr ne ↦ k.placed c numbers place (sym (ap frontier (step.elsewhere c ne)) ∙ h) at
      ];
      fits = λ h. omega (arith, k.fits h, t.known);
    }

-- if something is owed
takes_back : (n s o amount : ℕ) (log : List EntryValue) (old new : ℕ → List EntryValue) (e : EntryValue)
    → SiteInvariant n s log old → IsSiteOf n o → s ≢ o → Taking n s o log old new e → AddsEntry old o e new
    → amount ≡ owed s o log (numbers_in e.moves) → 1 ≤ amount → closes e ≡ true
    → SiteInvariant n s (log ++ entry_at_end s log (TakeBack o amount ∷ []) ∷ []) new
takes_back n s o amount log old new e k from differ t step is positive shut =
    let ms : List Move = TakeBack o amount ∷ [] in
    let v : EntryValue = entry_at_end s log ms in
    let one : one_if (closes e) ≡ 1 = ap one_if shut in
    let low : end log ≤ 999999999
    = omega (arith, k.fits t.ready.unclosed, known_few n s old t.ready.site k.itself, t.ready.few) in
    let bound : amount ≤ 1000000000000000000 = omega (arith, is, owed_bound s o s log (numbers_in e.moves) k.chain) in
    let owes : amount ≡ owed s o log (frontier (new o)) = is ∙ ap (owed s o log) (sym t.now) in
    site_writes n s log new ms t.ready (back_writable n s o amount log new t.ready from differ positive bound low)
    (record {
      closing = λ h. absurd cc;
      taken = λ c. elim (cases_eq c o) [
        | inl p ↦ subst (λ j. takings j (log ++ v ∷ []) ≡ one_taking j (owed s j (log ++ v ∷ []) (frontier (new j))))
            (sym p)
            (taken_now s o amount log v (frontier (new o)) t.none_before (back_gives_none o o amount)
            (takes_it o amount) (is_one_taking o amount positive) owes)
        | inr ne ↦ rw (step.elsewhere c ne)
            (taken_push s c log v (frontier (old c)) (takes_no_other c o amount ne)
            (λ numbers _. back_gives_none c o amount) (k.taken c))
      ];
      placed = λ c numbers place h at. elim (cases_eq c o) [
        | inl p ↦
            let by : numbers_in e.moves ≡ Some numbers = sym t.now ∙ ap (λ j. frontier (new j)) (sym p) ∙ h in
            let some : 1 ≤ owed s o log (Some numbers) = omega (arith, positive, is, ap (owed s o log) by) in
            subst (λ j. takings j (beyond place (log ++ v ∷ [])) ≡ takings j (log ++ v ∷ [])) (sym p)
            (placed_now o place log v t.none_before (owed_within s o s place log numbers k.chain at some))
        | inr ne ↦ placed_push c place log v (takes_no_other c o amount ne)
            (k.placed c numbers place (sym (ap frontier (step.elsewhere c ne)) ∙ h) at)
      ];
      fits = λ h. omega (arith, k.fits t.ready.unclosed, t.known, one);
    })

-- what is owed is owed by a frontier
owed_closes : (s o : ℕ) (es : List EntryValue) (e : EntryValue) (k : Option (List ℕ)) → numbers_in e.moves ≡ k
    → 1 ≤ owed s o es k → closes e ≡ true
owed_closes s o es e None h some = absurd (omega arith)
owed_closes s o es e (Some numbers) h some = closes_by e numbers h

pub site_takes : (n s o : ℕ) (log : List EntryValue) (old new : ℕ → List EntryValue) (e : EntryValue) → 2 ≤ n → n ≤ 16
    → IsSiteOf n s → IsSiteOf n o → s ≢ o → SiteInvariant n s log old → is_closed log ≡ false
    → IsChain o (old o ++ e ∷ []) → AddsEntry old o e new → SiteInvariant n s (log ++ taking_back s o log e) new
site_takes n s o log old new e some few site from differ k unclosed chain step =
    let amount : ℕ = owed s o log (numbers_in e.moves) in
    let t : Taking n s o log old new e
    = taking n s o log old new e k (ready n s log old some few site unclosed k) from differ chain step in
    elim (taking_cases s o log amount) [
      | inl p ↦
          let same : log ++ taking_back s o log e ≡ log = ap (λ es. log ++ es) p.1 ∙ append-nil log in
          subst (λ es. SiteInvariant n s es new) (sym same) (takes_plain n s o log old new e k t step p.0)
      | inr p ↦
          let grown : log ++ taking_back s o log e ≡ log ++ entry_at_end s log (TakeBack o amount ∷ []) ∷ []
          = ap (λ es. log ++ es) p.1 in
          subst (λ es. SiteInvariant n s es new) (sym grown)
          (takes_back n s o amount log old new e k from differ t step refl p.0
          (owed_closes s o log e (numbers_in e.moves) refl p.0))
    ]

-- ---- the start

pub site_starts : (n s : ℕ) (log : List EntryValue) (applied : ℕ → List EntryValue) → log ≡ []
    → ((o : ℕ) → applied o ≡ []) → SiteInvariant n s log applied
site_starts n s log applied empty none =
    let nothing : moves_of log ≡ [] = ap moves_of empty ∙ moves_of-nil in
    record {
      chain = rw empty tt;
      chains = λ o. rw (none o) tt;
      itself = none s;
      within = rw nothing (All-nil (NamesWithin n));
      covered = rw nothing refl;
      closing = λ h. absurd (both_ways (is_closed log) (ap is_closed empty) h);
      taken = λ c. rw (empty, none c) refl;
      placed = λ c numbers place h at. rw empty refl;
      fits = λ h. rw empty (omega arith);
    }
