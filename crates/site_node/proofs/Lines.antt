-- What a desk writes is the line of a message.
use Rattle.std.proofs.Common.{◌≡◌, ℕ, List, Option, Some, None, refl, subst}
use Rattle.rights_types.specs.Messages.{MessageValue}
use Rattle.entry_codec.specs.Pieces.{IsLine}
use Rattle.entry_codec.specs.Spelling.{Spells}
use Rattle.entry_codec.proofs.Lines.{is_line}
use Rattle.entry_codec.specs.Spelling.{LineOf}

of_some : {V : Type 0} (bytes : V → List ℕ) (due : Option MessageValue) (text : V) → LineOf bytes due (Some text)
    → (message : MessageValue) × (due ≡ Some message) × Spells message (bytes text)
of_some bytes None text h = absurd h
of_some bytes (Some m) text h = (m, refl, h)

-- a line is that of a message
pub spells : {V : Type 0} (bytes : V → List ℕ) (due : Option MessageValue) (sent : Option V) (text : V)
    → sent ≡ Some text → LineOf bytes due sent
    → (message : MessageValue) × (due ≡ Some message) × Spells message (bytes text)
spells bytes due sent text e h = of_some bytes due text (subst (λ s. LineOf bytes due s) e h)

pub line_sent : {V : Type 0} (bytes : V → List ℕ) (due : Option MessageValue) (sent : Option V) (text : V)
    → sent ≡ Some text → LineOf bytes due sent → IsLine (bytes text)
line_sent bytes due sent text e h = let s = spells bytes due sent text e h in is_line s.0 (bytes text) s.2

without : {V : Type 0} (bytes : V → List ℕ) (due : Option MessageValue) → LineOf bytes due None → due ≡ None
without bytes None h = refl
without bytes (Some m) h = absurd h

-- without a line there is no message
pub no_message : {V : Type 0} (bytes : V → List ℕ) (due : Option MessageValue) (sent : Option V) → sent ≡ None
    → LineOf bytes due sent → due ≡ None
no_message bytes due sent e h = without bytes due (subst (λ s. LineOf bytes due s) e h)
