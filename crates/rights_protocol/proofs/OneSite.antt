-- Each step of one site preserves the invariant of that site, which bounds what it holds, owes and writes.
use Rattle.std.proofs.Common.{◌≡◌, ℕ, ◌+◌, ◌≤◌, false, List, arith, ap, ◌∙◌}
use Rattle.rights_types.specs.Entries.{EntryValue}
use Rattle.rights_types.specs.Chains.{end, moves_of}
use Rattle.rights_types.specs.Rights.{out, to, taken_back, back, received, held}
use Rattle.rights_types.proofs.Chains.{end_from-bound}
use Rattle.rights_types.proofs.SiteSums.{sum_le}
use Rattle.rights_types.proofs.Sums.{rights_after_is, out_is, taken_back_is, log-issued}
use Rattle.rights_protocol.specs.Lists.{IsSiteOf}
use Rattle.rights_protocol.specs.Retiring.{frontier, owed}
use Rattle.rights_protocol.specs.Invariant.{SiteInvariant}
use Rattle.rights_protocol.specs.Laws.{SiteGoesOn, SiteBounds}
use Rattle.rights_protocol.proofs.Frontiers.{no_frontier, owed_less, owed_bound}
use Rattle.rights_protocol.proofs.Takings.{taken_is}
use Rattle.rights_protocol.proofs.Numbers.{known_few, received_bound}
use Rattle.rights_protocol.proofs.Writes.{held_is}
use Rattle.rights_protocol.proofs.Sites.{site_appends, site_takes, site_closes}

back_is : (n s c : ℕ) (log : List EntryValue) (applied : ℕ → List EntryValue) → SiteInvariant n s log applied
    → back c (moves_of log) ≡ owed s c log (frontier (applied c))
back_is n s c log applied k = taken_is c (owed s c log (frontier (applied c))) log (k.taken c)

-- no more is reclaimed from a site than was given to it
back_within : (n s c : ℕ) (log : List EntryValue) (applied : ℕ → List EntryValue) → SiteInvariant n s log applied
    → back c (moves_of log) ≤ to c (moves_of log)
back_within n s c log applied k = omega (arith, back_is n s c log applied k, owed_less s c log (frontier (applied c)))

-- what a site reclaimed it had given, so it holds at most what it received and issued
held_within : (n s : ℕ) (log : List EntryValue) (applied : ℕ → List EntryValue) → SiteInvariant n s log applied
    → held n s log applied ≤ received n s applied + 1000000000000000000
held_within n s log applied k =
    let ms = moves_of log in
    let ends : end log ≤ 1000000000 = end_from-bound s false 0 log k.chain (omega arith) in
    let back_out : taken_back ms ≤ out ms =
    omega (
      arith,
      taken_back_is n ms k.within,
      out_is n ms k.within,
      sum_le n (λ c. back c ms) (λ c. to c ms) (λ c low high. back_within n s c log applied k),
    ) in
    omega (
      arith,
      held_is n s log applied k.within k.covered,
      rights_after_is (received n s applied) ms k.covered,
      back_out,
      log-issued s log k.chain,
      ends,
    )

site_bounds : (n s : ℕ) (log : List EntryValue) (applied : ℕ → List EntryValue) → 2 ≤ n → n ≤ 16 → IsSiteOf n s
    → SiteInvariant n s log applied → SiteBounds n s log applied
site_bounds n s log applied some few site k =
    let received_few : received n s applied ≤ 15000000000000000000
    = received_bound n s applied few site k.itself k.chains in
    record {
      room = λ unclosed. omega (arith, k.fits unclosed, known_few n s applied site k.itself, few);
      taken = λ c. back_is n s c log applied k;
      none_taken = λ c unclosed. back_is n s c log applied k ∙ ap (owed s c log) (no_frontier (applied c) unclosed);
      taken_given = λ c. back_within n s c log applied k;
      owes_given = λ c numbers. owed_less s c log numbers;
      owes_total = λ c numbers. owed_bound s c s log numbers k.chain;
      received = received_few;
      holds = omega (arith, held_within n s log applied k, received_few);
    }

pub site_goes_on : (n s : ℕ) (log : List EntryValue) (applied : ℕ → List EntryValue) → 2 ≤ n → n ≤ 16 → IsSiteOf n s
    → SiteInvariant n s log applied → SiteGoesOn n s log applied
site_goes_on n s log applied some few site k = record {
  appends = λ ms may. site_appends n s log applied ms some few site k may;
  takes = λ o e now from differ unclosed chain step. site_takes n s o log applied now e some few site from differ k
      unclosed chain step;
  closes = λ heir may. site_closes n s log applied heir some few site k may;
}

pub one_site : (n s : ℕ) (log : List EntryValue) (applied : ℕ → List EntryValue) → 2 ≤ n → n ≤ 16 → IsSiteOf n s
    → SiteInvariant n s log applied → SiteGoesOn n s log applied × SiteBounds n s log applied
one_site n s log applied some few site k
    = (site_goes_on n s log applied some few site k, site_bounds n s log applied some few site k)
