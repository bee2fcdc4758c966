-- What one site may write, given its own log and what it applied of the others. No other site's lists are named: each
-- site decides by what it knows.
use Rattle.std.specs.Prelude.{◌≡◌, ◌≢◌, ℕ, ◌+◌, ◌≤◌, Bool, true, false, ◌==◌, List, [], ◌∷◌, ◌++◌, length, Option, Some}
use Rattle.std.specs.Prelude.{None, IfSome, if◌then◌else◌}
use Rattle.std.specs.List.{All, list_any}
use Rattle.rights_types.specs.Entries.{EntryValue}
use Rattle.rights_types.specs.Chains.{end, is_closed}
use Rattle.rights_types.specs.Moves.{IsMove, NamesWithin, names}
use Rattle.rights_types.specs.Rights.{covers, held}
use Rattle.rights_types.specs.declared.limits.TheConstants.{MAX_MOVES, MAX_AMOUNT, LAST_APPEND}
use Rattle.rights_types.specs.declared.moves.Move.{Move}
use Rattle.rights_types.specs.declared.moves.Move.TheVariants.{Issue, Spend, Grant, Give, CloseAt}
use Rattle.rights_protocol.specs.Lists.{IsSiteOf}
use Rattle.rights_protocol.specs.Retiring.{own_frontier}

-- a move of an ordinary entry: it issues, spends or gives
abbrev pub is_plain : Move → Bool
is_plain (Issue n) = true
is_plain (Spend n) = true
is_plain (Grant j n a) = true
is_plain (Give j n) = true
is_plain m = false

-- s may append an ordinary entry of these moves: it holds what they spend and give, in order, and gives nothing to
-- itself or to a site that it knows to be closed
pub record MayAppend (n s : ℕ) (log : List EntryValue) (applied : ℕ → List EntryValue) (ms : List Move) : Type 0 where
  pub unclosed : is_closed log ≡ false
  pub some : 1 ≤ length ms
  pub few : length ms ≤ MAX_MOVES
  pub moves : All IsMove ms
  pub plain : All (λ m. is_plain m ≡ true) ms
  pub within : All (NamesWithin n) ms
  pub others : list_any (names s) ms ≡ false
  pub open_peers : (c : ℕ) → is_closed (applied c) ≡ true → list_any (names c) ms ≡ false
  pub fits : end log + length ms ≤ LAST_APPEND
  pub holds : covers (held n s log applied) ms ≡ true

-- the heir is another site, not known by s to be closed, and one move can give it everything that s holds
pub record MayInherit (n s : ℕ) (log : List EntryValue) (applied : ℕ → List EntryValue) (heir : ℕ) : Type 0 where
  pub site : IsSiteOf n heir
  pub differ : s ≢ heir
  pub unclosed : is_closed (applied heir) ≡ false
  pub amount : held n s log applied ≤ MAX_AMOUNT

-- s may close, with this heir or none
pub record MayClose (n s : ℕ) (log : List EntryValue) (applied : ℕ → List EntryValue) (heir : Option ℕ) : Type 0 where
  pub unclosed : is_closed log ≡ false
  pub inherits : IfSome heir (MayInherit n s log applied)

-- what goes to the heir
abbrev pub heritage : ℕ → ℕ → List Move
heritage heir n = if n == 0 then [] else Give heir n ∷ []

-- the moves of a closing entry: everything that s holds goes to the heir, if there is one, and then comes the
-- frontier. Without an heir s keeps what it holds.
abbrev pub closing_moves : ℕ → ℕ → List EntryValue → (ℕ → List EntryValue) → Option ℕ → List Move
closing_moves n s log applied None = CloseAt (own_frontier n applied) ∷ []
closing_moves n s log applied (Some heir)
    = heritage heir (held n s log applied) ++ CloseAt (own_frontier n applied) ∷ []
