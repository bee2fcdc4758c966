-- The lines of a backlog that are written one after another.
use Rattle.std.proofs.Common.{◌≡◌, ℕ, ◌+◌, List, ◌∷◌, ◌++◌, length, Option, sym, ap, ◌∙◌, arith, append_assoc}
use Rattle.std.specs.Io.KnownBytes.{Appends}
use Rattle.std.proofs.KnownBytes.{Appends-trans}
use Rattle.log_lines.specs.Backlogs.{BacklogValue, joined}

-- one more line was taken
pub took_line : (all front line : List ℕ) (old new : BacklogValue) → all ≡ front ++ joined old.lines
    → old ≡ record new { lines = line ∷ new.lines } → all ≡ (front ++ line) ++ joined new.lines
took_line all front line old new h took =
    h ∙ ap (λ (b : BacklogValue). front ++ joined b.lines) took ∙ sym (append_assoc front line (joined new.lines))

-- it was the oldest of those that waited
pub one_fewer : (old new : BacklogValue) (line : List ℕ) → old ≡ record new { lines = line ∷ new.lines }
    → length old.lines ≡ length new.lines + 1
one_fewer old new line took = ap (λ (b : BacklogValue). length b.lines) took ∙ omega arith

pub same_count : (old new : BacklogValue) (line : List ℕ) → old ≡ record new { lines = line ∷ new.lines }
    → new.dropped ≡ old.dropped
same_count old new line took = sym (ap (λ (b : BacklogValue). b.dropped) took)

pub wrote_line : (a b c : Option (List ℕ)) (front line : List ℕ) → Appends a b front → Appends b c line
    → Appends a c (front ++ line)
wrote_line a b c front line h more = Appends-trans a b c front line h more
