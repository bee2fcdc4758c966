-- Texts one after another, each preceded by a separator.
use Rattle.std.proofs.Common.{◌≡◌, ℕ, suc, ◌+◌, ◌<◌, ◌≤◌, List, [], ◌∷◌, ◌++◌, length, take, drop, get_or, map, refl}
use Rattle.std.proofs.Common.{sym, ap, ◌∙◌, arith, append_assoc, length-append}
use Rattle.std.specs.Prelude.{decimal}
use Rattle.std.specs.List.{join_with_byte}
use Rattle.std.proofs.lemmas.List.{append-nil, take_more, take-append-drop}
use Rattle.rights_types.specs.Entries.{EntryValue, own}
use Rattle.rights_types.specs.Messages.{AnswerValue, MessageValue}
use Rattle.rights_types.specs.Messages.MessageValue.{AnEntry}
use Rattle.entry_codec.specs.Spelling.{move_text, part_text, entry_fields, answer_fields, text_of, line}
use Rattle.entry_codec.specs.Texts.{behind, frontier_text, entry_text, answer_head, answer_text}

pub behind-append : {A : Type 0} (at : ℕ) (text : A → List ℕ) (xs ys : List A)
    → behind at text (xs ++ ys) ≡ behind at text xs ++ behind at text ys
behind-append at text [] ys = refl
behind-append at text (x ∷ xs) ys = ap (λ (t : List ℕ). (at ∷ text x) ++ t) (behind-append at text xs ys)
    ∙ sym (append_assoc (at ∷ text x) (behind at text xs) (behind at text ys))

pub behind_more : {A : Type 0} (at : ℕ) (text : A → List ℕ) (xs : List A) (i : ℕ) (d : A) → i < length xs
    → behind at text (take (i + 1) xs) ≡ behind at text (take i xs) ++ at ∷ text (get_or xs i d)
behind_more at text xs i d lt =
    ap (behind at text) (take_more xs i d lt) ∙ behind-append at text (take i xs) (get_or xs i d ∷ [])
    ∙ ap (λ (t : List ℕ). behind at text (take i xs) ++ t) (append-nil (at ∷ text (get_or xs i d)))

-- the room that the next one needs
pub behind_room : {A : Type 0} (at : ℕ) (text : A → List ℕ) (xs : List A) (i : ℕ) (d : A) → i < length xs
    → length (behind at text (take i xs)) + suc (length (text (get_or xs i d))) ≤ length (behind at text xs)
behind_room {A} at text xs i d lt =
    let more = ap length (behind_more at text xs i d lt)
    ∙ length-append (behind at text (take i xs)) (at ∷ text (get_or xs i d)) in
    let whole = ap (λ (ys : List A). length (behind at text ys)) (sym (take-append-drop (i + 1) xs))
    ∙ ap length (behind-append at text (take (i + 1) xs) (drop (i + 1) xs))
    ∙ length-append (behind at text (take (i + 1) xs)) (behind at text (drop (i + 1) xs)) in
    omega (arith, more, whole)

-- what a loop that puts one text after the other has put, one step on
pub one_more : {A : Type 0} (sep : ℕ) (text : A → List ℕ) (head : List ℕ) (xs : List A) (i : ℕ) (x : A) → i < length xs
    → x ≡ get_or xs i x
    → head ++ behind sep text (take (i + 1) xs) ≡ (head ++ behind sep text (take i xs)) ++ sep ∷ text x
one_more {A} sep text head xs i x lt is =
    let so_far = behind sep text (take i xs) in
    ap (λ (t : List ℕ). head ++ t) (behind_more sep text xs i x lt ∙ ap (λ (y : A). so_far ++ sep ∷ text y) (sym is))
    ∙ sym (append_assoc head so_far (sep ∷ text x))

-- and the next text follows its separator
pub then_put : (before so_far next : List ℕ) (sep : ℕ)
    → ((before ++ so_far) ++ sep ∷ []) ++ next ≡ before ++ (so_far ++ sep ∷ next)
then_put before so_far next sep = append_assoc (before ++ so_far) (sep ∷ []) next
    ∙ append_assoc before so_far (sep ∷ next)

-- a first text and others, joined
pub joined : {A : Type 0} (at : ℕ) (text : A → List ℕ) (x : List ℕ) (ys : List A)
    → join_with_byte at (x ∷ map text ys) ≡ x ++ behind at text ys
joined at text x [] = sym (append-nil x)
joined at text x (y ∷ ys) = ap (λ (t : List ℕ). x ++ at ∷ t) (joined at text (text y) ys)

pub frontier_text_is : (f : List ℕ) → join_with_byte 58 ((75 ∷ []) ∷ map decimal f) ≡ frontier_text f
frontier_text_is f = joined 58 decimal (75 ∷ []) f

pub entry_text_is : (e : EntryValue) → part_text (entry_fields e) ≡ entry_text e
entry_text_is e =
    let rest : List ℕ = behind 32 move_text e.moves in
    ap (λ (t : List ℕ). 69 ∷ 32 ∷ (decimal e.origin ++ 32 ∷ (decimal e.prev ++ 32 ∷ t)))
    (joined 32 move_text (decimal (own e)) e.moves) ∙ simp append_assoc refl

pub entry_line_is : (e : EntryValue) → line (AnEntry e) ≡ entry_text e ++ 10 ∷ []
entry_line_is e = ap (λ (t : List ℕ). t ++ 10 ∷ []) (entry_text_is e)

entries_text : (es : List EntryValue) → map part_text (map entry_fields es) ≡ map entry_text es
entries_text [] = refl
entries_text (e ∷ es) = ap (λ (t : List ℕ). t ∷ map part_text (map entry_fields es)) (entry_text_is e)
    ∙ ap (λ (ts : List (List ℕ)). entry_text e ∷ ts) (entries_text es)

pub answer_text_is : (a : AnswerValue)
    → join_with_byte 59 (map part_text (answer_fields a ∷ map entry_fields a.entries)) ≡ answer_text a
answer_text_is a = ap (λ (ts : List (List ℕ)). join_with_byte 59 (part_text (answer_fields a) ∷ ts))
    (entries_text a.entries) ∙ joined 59 entry_text (answer_head a) a.entries

-- in a loop that puts one text after the other there is room for the next
pub loop_room : {A : Type 0} (sep : ℕ)
    (text : A → List ℕ) (head : List ℕ) (xs ys : List A) (i : ℕ) (x : A) (start at size : ℕ) → ys ≡ xs → i < length ys
    → x ≡ get_or ys i x
    → at ≡ start + length (head ++ behind sep text (take i ys)) → start + length (head ++ behind sep text xs) ≤ size
    → at + suc (length (text x)) ≤ size
loop_room {A} sep text head xs ys i x start at size same lt is here room =
    let next = behind_room sep text ys i x lt in
    let item : length (text x) ≡ length (text (get_or ys i x)) = ap (λ (y : A). length (text y)) is in
    let all : length (behind sep text ys) ≡ length (behind sep text xs)
    = ap (λ (zs : List A). length (behind sep text zs)) same in
    omega (
      arith,
      next,
      item,
      all,
      here,
      room,
      length-append head (behind sep text (take i ys)),
      length-append head (behind sep text xs),
    )

pub line_length : (m : MessageValue) (text : List ℕ) (n : ℕ) → text_of m ≡ text → n ≡ length text
    → n + 1 ≡ length (line m)
line_length m text n is same = omega (arith, same, ap length is, length-append (text_of m) (10 ∷ []))
