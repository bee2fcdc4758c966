-- What a site applied reclaims nothing from it.
use Rattle.std.proofs.Common.{◌≡◌, ℕ, ◌+◌, List, ◌++◌, Option, Some, None, arith, refl, sym, ap, ◌∙◌, subst}
use Rattle.rights_types.specs.Entries.{EntryValue}
use Rattle.rights_types.specs.Chains.{end, IsChain, IsPrefix, moves_of}
use Rattle.rights_types.specs.Rights.{back}
use Rattle.rights_types.proofs.Sums.{moves_of-append, back-append}
use Rattle.rights_protocol.specs.Lists.{Lists, IsSiteOf}
use Rattle.rights_protocol.specs.Retiring.{frontier, beyond, owed, takings}
use Rattle.rights_protocol.specs.Invariant.{Invariant}
use Rattle.rights_protocol.proofs.Frontiers.{beyond_rest}
use Rattle.rights_protocol.proofs.Takings.{same_takings}
use Rattle.rights_protocol.proofs.Promises.{begins, place_is, back_is}

back_parts : (s : ℕ) (xs ys : List EntryValue)
    → back s (moves_of (xs ++ ys)) ≡ back s (moves_of xs) + back s (moves_of ys)
back_parts s xs ys = ap (back s) (moves_of-append xs ys) ∙ back-append s (moves_of xs) (moves_of ys)

-- What s applied of the log of o is a prefix of it. If o applied no closing entry of s, nothing in that log reclaims
-- anything from s; else only the entries that begin at its position in the frontier, which is the end of what s
-- applied.
by_frontier : (w : Lists) (s o : ℕ) (k : Option (List ℕ)) → Invariant w → IsSiteOf w.count o
    → frontier (w.applied o s) ≡ k → back s (moves_of (w.applied s o)) ≡ 0
by_frontier w s o None kept among h =
    let p : IsPrefix (w.applied s o) (w.log o) = begins w s o kept in
    let none : back s (moves_of (w.log o)) ≡ 0 = back_is w o s kept ∙ ap (owed o s (w.log o)) h in
    omega (arith, none, ap (λ es. back s (moves_of es)) p.1, back_parts s (w.applied s o) p.0)
by_frontier w s o (Some numbers) kept among h =
    let a : List EntryValue = w.applied s o in
    let p : IsPrefix a (w.log o) = begins w s o kept in
    let placed : takings s (beyond (end a) (w.log o)) ≡ takings s (w.log o)
    = (kept.sites o).placed s numbers (end a) h (place_is w o s numbers kept among h) in
    let rest : beyond (end a) (a ++ p.0) ≡ p.0
    = beyond_rest o a p.0 (subst (IsChain o) (sym p.1) (kept.sites o).chain) in
    let whole : takings s (beyond (end a) (a ++ p.0)) ≡ takings s (a ++ p.0)
    = subst (λ es. takings s (beyond (end a) es) ≡ takings s es) (sym p.1) placed in
    omega (arith, same_takings s p.0 (a ++ p.0) (sym (ap (takings s) rest) ∙ whole), back_parts s a p.0)

pub untouched : (w : Lists) (s o : ℕ) → Invariant w → IsSiteOf w.count o → back s (moves_of (w.applied s o)) ≡ 0
untouched w s o kept among = by_frontier w s o (frontier (w.applied o s)) kept among refl
