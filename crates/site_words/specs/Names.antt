-- The names that a system may have.
use Rattle.std.specs.Prelude.{ℕ, Bool, not, ◌&&◌, ◌||◌, ◌==◌, nat_le, nat_lt, List, length}
use Rattle.std.specs.List.{list_any}
use Rattle.site_words.specs.declared.name.TheConstants.{MAX_SYSTEM}

-- a digit, a letter or a hyphen
abbrev pub is_name_byte : ℕ → Bool
is_name_byte b =
    (nat_le 48 b && nat_le b 57) || (nat_le 65 b && nat_le b 90) || (nat_le 97 b && nat_le b 122) || (b == 45)

abbrev pub has_other_byte : List ℕ → Bool
has_other_byte text = list_any (λ b. not (is_name_byte b)) text

-- 1 to 32 of these
abbrev pub is_system_name : List ℕ → Bool
is_system_name text = not (length text == 0 || nat_lt MAX_SYSTEM (length text)) && not (has_other_byte text)
