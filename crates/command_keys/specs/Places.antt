-- How the bytes of a key fill 64 places.
use Rattle.std.specs.Prelude.{◌≡◌, ℕ, ◌-◌, ◌≤◌, List, ◌++◌, length, drop, replicate}
use Rattle.command_keys.specs.declared.key.TheConstants.{MAX_KEY}

-- the places after the bytes are 0
pub record IsPadded (count : ℕ) (places : List ℕ) : Type 0 where
  pub whole : length places ≡ MAX_KEY
  pub within : count ≤ MAX_KEY
  pub zeros : drop count places ≡ replicate (MAX_KEY - count) 0

abbrev pub padded : List ℕ → List ℕ
padded text = text ++ replicate (MAX_KEY - length text) 0
