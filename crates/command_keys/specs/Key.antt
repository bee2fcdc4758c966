-- What the text of a key may be.
use Rattle.std.specs.Prelude.{◌≡◌, ℕ, ◌≤◌, Bool, true, false, not, ◌&&◌, ◌||◌, ◌==◌, nat_le, nat_lt, List, []}
use Rattle.std.specs.Prelude.{◌∷◌, length, Option, Some, None, if◌then◌else◌}
use Rattle.std.specs.List.{list_any}
use Rattle.std.specs.Str.{bytes_eq}
use Rattle.std.specs.Cmp.Lexicographic.{bytes_decides}
use mathlib.Core.Path.{ap}
use Rattle.command_keys.specs.declared.key.TheConstants.{MAX_KEY}

-- a byte of visible ASCII
abbrev pub is_visible : ℕ → Bool
is_visible b = nat_le 33 b && nat_le b 126

abbrev pub has_hidden_byte : List ℕ → Bool
has_hidden_byte text = list_any (λ b. not (is_visible b)) text

-- 1 to 64 of these
pub record IsKey (text : List ℕ) : Type 0 where
  pub some : 1 ≤ length text
  pub few : length text ≤ MAX_KEY
  pub visible : has_hidden_byte text ≡ false

-- the key that a text spells
abbrev pub key_in : List ℕ → Option (List ℕ)
key_in text =
    if length text == 0 || nat_lt MAX_KEY (length text) || has_hidden_byte text then None else Some text

-- keys that are equal are hashed alike
pub same_writes : (a b : List ℕ) → bytes_eq a b ≡ true → a ∷ [] ≡ b ∷ []
same_writes a b same = ap (λ (text : List ℕ). text ∷ []) ((bytes_decides a b).0 same)
