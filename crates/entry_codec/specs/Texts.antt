-- The texts of a line's parts, as they are written one after another.
use Rattle.std.specs.Prelude.{ℕ, Bool, true, false, not, ◌==◌, List, [], ◌∷◌, ◌++◌, flat_map, decimal}
use Rattle.rights_types.specs.Entries.{EntryValue}
use Rattle.rights_types.specs.Messages.{AnswerValue}
use Rattle.entry_codec.specs.Spelling.{move_text, part_text, head_fields, answer_fields}
use Rattle.entry_codec.specs.declared.format.TheConstants.{CLOSE_AT_LETTER, FIELD_BREAK, PART_BREAK, VALUE_BREAK}
use Rattle.entry_codec.specs.Letters.{one_letter}

-- the text of each item, each after a separator
abbrev pub behind : {A : Type 0} → ℕ → (A → List ℕ) → List A → List ℕ
behind at text xs = flat_map (λ x. at ∷ text x) xs

abbrev pub frontier_text : List ℕ → List ℕ
frontier_text f = one_letter CLOSE_AT_LETTER ++ behind VALUE_BREAK decimal f

abbrev pub entry_head : EntryValue → List ℕ
entry_head e = part_text (head_fields e)

abbrev pub entry_text : EntryValue → List ℕ
entry_text e = entry_head e ++ behind FIELD_BREAK move_text e.moves

abbrev pub answer_head : AnswerValue → List ℕ
answer_head a = part_text (answer_fields a)

abbrev pub answer_text : AnswerValue → List ℕ
answer_text a = answer_head a ++ behind PART_BREAK entry_text a.entries

-- digits that some number has: at least one, and no leading zero except in `0`
abbrev pub is_canonical : List ℕ → Bool
is_canonical [] = false
is_canonical (x ∷ []) = true
is_canonical (x ∷ (y ∷ ys)) = not (x == 48)
