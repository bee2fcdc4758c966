-- A line and its message: what is read is spelled so, and what is spelled so is read.
use Rattle.std.proofs.Common.{◌≡◌, ℕ, suc, ◌-◌, ◌≤◌, ◌<◌, Bool, true, false, not, ltb, eqb, List, [], ◌∷◌, ◌++◌, length}
use Rattle.std.proofs.Common.{take, drop, get_or, map, Option, Some, None, Result, Ok, Err, refl, sym, ap, subst, ◌∙◌}
use Rattle.std.proofs.Common.{arith, inl, inr, length-append, length-drop, drop-cons, append_assoc}
use Rattle.std.specs.Prelude.{◌==◌, codes, slice_index, is_some, IfOk}
use Rattle.std.specs.Borrow.{Bor}
use Rattle.std.specs.List.{join_with_byte}
use Rattle.std.specs.Str.{bytes_eq}
use Rattle.std.proofs.lemmas.Bool.{ne_eqb, eqb-true, eqb-false, le-ltb, not-true, not-false, and_parts}
use Rattle.std.proofs.lemmas.List.{append_cancel_right, nil_from_length, take_at, take-append-drop, length-map}
use Rattle.std.proofs.lemmas.List.Elements.{All-head, All-tail}
use Rattle.std.proofs.lemmas.List.Splits.{join_with_byte-slice_split}
use Rattle.std.proofs.Math.Seq.{get_or-append_seam}
use Rattle.rights_types.specs.declared.limits.TheConstants.{MAX_LINE}
use Rattle.rights_types.specs.Entries.{EntryValue}
use Rattle.rights_types.specs.Messages.{MessageValue, IsMessage}
use Rattle.rights_types.specs.Messages.MessageValue.{AnEntry, AQuery, AnAnswer, ABeat, AnAsk, ADenial, AHello}
use Rattle.entry_codec.specs.declared.fault.LineError.{LineError}
use Rattle.entry_codec.specs.declared.fault.LineError.TheVariants.{TooLong, NoEnd, BadKind, BadField, BadMove}
use Rattle.entry_codec.specs.declared.fault.LineError.TheVariants.{CountWrong, TrailingBytes, OutOfMemory}
use Rattle.entry_codec.specs.Parts.{split_at, parts_in, left, parts_left, ReadsAs, Gives}
use Rattle.entry_codec.specs.Spelling.{parts_of, part_text, text_of, line, Spells}
use Rattle.entry_codec.specs.Pieces.{pieces, IsLine}
use Rattle.entry_codec.specs.Reading.{fault_if, entry_of, push_of, answer_of, short_of, message_of, is_ended, reading}
use Rattle.entry_codec.specs.Reading.{has_entries, WantsRoom}
use Rattle.entry_codec.proofs.Bytes.{Lacks, are_parts, all_back, text_lacks_end}
use Rattle.entry_codec.proofs.MoveFields.{both_are, which}
use Rattle.entry_codec.proofs.Entries.{bind_ok, ok_is, past, IsNoWant, bind_no_want, test_no_want, entry_is}
use Rattle.entry_codec.proofs.Entries.{entry_again, entry_no_want}
use Rattle.entry_codec.proofs.ShortMessages.{AreParts, alone, with_letter, short_is, query_short, beat_short, ask_short}
use Rattle.entry_codec.proofs.ShortMessages.{denial_short, hello_short}
use Rattle.entry_codec.proofs.AnswerMessages.{answer_is, answer_again}
use Rattle.entry_codec.proofs.Cuts.{some_parts}
use Rattle.entry_codec.proofs.Pieces.{pieces_append, one_piece}
use Rattle.entry_codec.proofs.Room.{line_room}

-- ---- messages

push_is : (fields : List (List ℕ)) (others : List (List (List ℕ))) (m : MessageValue) → push_of fields others ≡ Ok m
    → AreParts ((codes "E" ∷ fields) ∷ others) m
unfolding push_of
push_is fields others m h =
    let a = bind_ok (entry_of 0 fields) _ m h in
    let k = past TrailingBytes (not (length others == 0)) _ m a.2 in
    let e = entry_is 0 fields a.0 a.1 in
    subst (AreParts ((codes "E" ∷ fields) ∷ others)) (ok_is (AnEntry a.0) m k.1) (both_are e.0 (alone others k.0), e.1)

pub push_again : (fields : List (List ℕ)) (others : List (List (List ℕ))) (e : EntryValue) → entry_of 0 fields ≡ Ok e
    → others ≡ [] → push_of fields others ≡ Ok (AnEntry e)
unfolding push_of
push_again fields others e h none = rw (h, none) refl

pub push_trails : (fields : List (List ℕ)) (others : List (List (List ℕ))) (e : EntryValue) → entry_of 0 fields ≡ Ok e
    → (length others == 0) ≡ false → push_of fields others ≡ Err TrailingBytes
unfolding push_of
push_trails fields others e h some = rw (h, some) refl

pub push_fails : (fields : List (List ℕ)) (others : List (List (List ℕ))) (e : LineError) → entry_of 0 fields ≡ Err e
    → push_of fields others ≡ Err e
unfolding push_of
push_fails fields others e h = rw h refl

pub push_no_want : (fields : List (List ℕ)) (others : List (List (List ℕ))) → IsNoWant (push_of fields others)
unfolding push_of
push_no_want fields others =
    bind_no_want (entry_of 0 fields) _ (entry_no_want 0 fields) (λ e.
    bind_no_want (fault_if TrailingBytes (not (length others == 0))) _
    (test_no_want TrailingBytes (not (length others == 0)) (λ same. absurd cc)) (λ _ same. absurd cc))

message_is : (parts : List (List (List ℕ))) (m : MessageValue) → message_of parts ≡ Ok m → AreParts parts m
unfolding message_of
message_is [] m h = absurd cc
message_is ([] ∷ others) m h = absurd cc
message_is ((letter ∷ fields) ∷ others) m h =
    elim (which (bytes_eq letter (codes "E")) (push_of fields others) _ (Ok m) h) [
      | inl y ↦ with_letter letter (codes "E") fields others m y.0 (push_is fields others m y.1)
      | inr n ↦ elim (which (bytes_eq letter (codes "A")) (answer_of fields others) (short_of letter fields others)
          (Ok m) n.1) [
            | inl y ↦ with_letter letter (codes "A") fields others m y.0 (answer_is fields others m y.1)
            | inr n ↦ short_is letter fields others m n.1
          ]
    ]

message_again : (m : MessageValue) → IsMessage m → message_of (parts_of m) ≡ Ok m
unfolding message_of
message_again (AnEntry e) h = push_again _ [] e (entry_again 0 e h) refl
message_again (AQuery q) h = query_short q h
message_again (AnAnswer a) h = answer_again a h
message_again (ABeat b) h = beat_short b h
message_again (AnAsk a) h = ask_short a h
message_again (ADenial d) h = denial_short d h
message_again (AHello s) h = hello_short s h

pub message_short : (letter : List ℕ) (fields : List (List ℕ)) (others : List (List (List ℕ)))
    → bytes_eq letter (codes "E") ≡ false → bytes_eq letter (codes "A") ≡ false
    → message_of ((letter ∷ fields) ∷ others) ≡ short_of letter fields others
unfolding message_of
message_short letter fields others a b = rw (a, b) refl

-- the first part of a line, and its letter
pub letter_first : (text first letter : List ℕ) (more rest : Option (Bor (List ℕ)))
    → split_at 59 text ≡ first ∷ left 59 more → split_at 32 first ≡ letter ∷ left 32 rest
    → parts_in text ≡ (letter ∷ left 32 rest) ∷ parts_left more
letter_first text first letter more rest whole part = ap (map (split_at 32)) whole ∙ both_are part refl

pub message_push : (letter : List ℕ) (fields : List (List ℕ)) (others : List (List (List ℕ)))
    → bytes_eq letter (codes "E") ≡ true → message_of ((letter ∷ fields) ∷ others) ≡ push_of fields others
unfolding message_of
message_push letter fields others a = rw a refl

pub message_answer : (letter : List ℕ) (fields : List (List ℕ)) (others : List (List (List ℕ)))
    → bytes_eq letter (codes "E") ≡ false → bytes_eq letter (codes "A") ≡ true
    → message_of ((letter ∷ fields) ∷ others) ≡ answer_of fields others
unfolding message_of
message_answer letter fields others a b = rw (a, b) refl

-- what a call that took memory answers after a fault
pub gives_fault : {X Y : Type 0} (view : X → Y) (e : LineError) (read : Result Y LineError) → read ≡ Err e
    → IsNoWant read → Gives view (Err e) read
gives_fault view TooLong read h none = h
gives_fault view NoEnd read h none = h
gives_fault view BadKind read h none = h
gives_fault view (BadField p) read h none = h
gives_fault view (BadMove p) read h none = h
gives_fault view CountWrong read h none = h
gives_fault view TrailingBytes read h none = h
gives_fault view OutOfMemory read h none = absurd (none h)

pub reads_gives : {X Y : Type 0} (view : X → Y) (r : Result X LineError) (read : Result Y LineError)
    → ReadsAs view r read → IsNoWant read → Gives view r read
reads_gives view (Ok x) read h none = h
reads_gives view (Err e) read h none = gives_fault view e read h none

-- a push has an entry, and an answer has entries
pub push_has : (fields : List (List ℕ)) (others : List (List (List ℕ))) (m : MessageValue)
    → push_of fields others ≡ Ok m → has_entries m ≡ true
unfolding push_of
push_has fields others m h =
    let a = bind_ok (entry_of 0 fields) _ m h in
    let k = past TrailingBytes (not (length others == 0)) _ m a.2 in
    ap has_entries (sym (ok_is (AnEntry a.0) m k.1))

-- a call on such a message may want memory, and one on any other may not
pub gives_wants : {X : Type 0} (view : X → MessageValue) (r : Result X LineError) (read : Result MessageValue LineError)
    → Gives view r read → ((m : MessageValue) → read ≡ Ok m → has_entries m ≡ true) → WantsRoom r read
gives_wants view (Ok x) read h has = tt
gives_wants view (Err TooLong) read h has = tt
gives_wants view (Err NoEnd) read h has = tt
gives_wants view (Err BadKind) read h has = tt
gives_wants view (Err (BadField p)) read h has = tt
gives_wants view (Err (BadMove p)) read h has = tt
gives_wants view (Err CountWrong) read h has = tt
gives_wants view (Err TrailingBytes) read h has = tt
gives_wants view (Err OutOfMemory) read h has = (h.0, h.1, has h.0 h.1)

pub reads_wants : {X : Type 0} (view : X → MessageValue) (r : Result X LineError) (read : Result MessageValue LineError)
    → ReadsAs view r read → IsNoWant read → WantsRoom r read
reads_wants view (Ok x) read h none = tt
reads_wants view (Err TooLong) read h none = tt
reads_wants view (Err NoEnd) read h none = tt
reads_wants view (Err BadKind) read h none = tt
reads_wants view (Err (BadField p)) read h none = tt
reads_wants view (Err (BadMove p)) read h none = tt
reads_wants view (Err CountWrong) read h none = tt
reads_wants view (Err TrailingBytes) read h none = tt
reads_wants view (Err OutOfMemory) read h none = absurd (none h)

-- the code's test for further parts agrees with the definition
pub no_others : (o : Option (Bor (List ℕ))) (r : Bool) → r ≡ is_some o → r ≡ false → map (split_at 32) (left 59 o) ≡ []
no_others None r h k = refl
no_others (Some x) r h k = absurd cc

pub some_others : (o : Option (Bor (List ℕ))) (r : Bool) → r ≡ is_some o → r ≡ true
    → (length (map (split_at 32) (left 59 o)) == 0) ≡ false
some_others None r h k = absurd cc
some_others (Some x) r h k =
    ne_eqb (length (map (split_at 32) (split_at 59 x.now))) 0
    (λ z. omega (arith, z, length-map (split_at 59 x.now) (split_at 32), some_parts 59 x.now))

-- ---- lines

texts_back : (texts : List (List ℕ)) → map part_text (map (split_at 32) texts) ≡ texts
texts_back [] = refl
texts_back (t ∷ texts) = both_are (join_with_byte-slice_split 32 t) (texts_back texts)

text_is : (text : List ℕ) (m : MessageValue) → message_of (parts_in text) ≡ Ok m → (text ≡ text_of m) × IsMessage m
text_is text m h =
    let found = message_is (parts_in text) m h in (
      sym (join_with_byte-slice_split 59 text)
          ∙ ap (join_with_byte 59) (sym (texts_back (split_at 59 text)) ∙ ap (map part_text) found.0),
      found.1,
    )

ended_is : (bytes : List ℕ) → is_ended bytes ≡ true → bytes ≡ take (length bytes - 1) bytes ++ 10 ∷ []
ended_is bytes h =
    let a = and_parts (not (length bytes == 0)) (slice_index bytes (length bytes - 1) == 10) h in
    let n : ℕ = length bytes - 1 in
    let some : length bytes ≡ 0 → ⊥ = eqb-false (length bytes) 0 (not-true (length bytes == 0) a.0) in
    let lt : n < length bytes = omega (arith, some) in
    let last : get_or bytes n 0 ≡ 10 = eqb-true (slice_index bytes n) 10 a.1 in
    let none : drop (suc n) bytes ≡ []
    = nil_from_length (drop (suc n) bytes) (omega (arith, length-drop (suc n) bytes)) in
    let back : drop n bytes ≡ 10 ∷ [] = drop-cons bytes n 0 lt ∙ both_are last none in
    sym (take-append-drop n bytes) ∙ ap (λ (t : List ℕ). take n bytes ++ t) back

pub reading_is : (text : List ℕ) (m : MessageValue) → reading text ≡ Ok m → Spells m text
unfolding reading
reading_is text m h =
    let a = past TooLong (ltb MAX_LINE (length text)) _ m h in
    let b = past NoEnd (not (is_ended text)) _ m a.1 in
    let found = text_is (take (length text - 1) text) m b.1 in
    (found.1, ended_is text (not-false (is_ended text) b.0) ∙ ap (λ (t : List ℕ). t ++ 10 ∷ []) found.0)

parts_again : (m : MessageValue) → IsMessage m → parts_in (text_of m) ≡ parts_of m
parts_again (AnEntry e) h = all_back _ _ (are_parts (AnEntry e) h)
parts_again (AQuery q) h = all_back _ _ (are_parts (AQuery q) h)
parts_again (AnAnswer a) h = all_back _ _ (are_parts (AnAnswer a) h)
parts_again (ABeat b) h = all_back _ _ (are_parts (ABeat b) h)
parts_again (AnAsk a) h = all_back _ _ (are_parts (AnAsk a) h)
parts_again (ADenial d) h = all_back _ _ (are_parts (ADenial d) h)
parts_again (AHello s) h = all_back _ _ (are_parts (AHello s) h)

-- a text with its line feed is read by its parts
reading_ended : (text : List ℕ) → length (text ++ 10 ∷ []) ≤ MAX_LINE
    → reading (text ++ 10 ∷ []) ≡ message_of (parts_in text)
unfolding reading
reading_ended text short =
    let few : ltb MAX_LINE (length (text ++ 10 ∷ [])) ≡ false = le-ltb MAX_LINE (length (text ++ 10 ∷ [])) short in
    let len : length (text ++ 10 ∷ []) - 1 ≡ length text = omega (arith, length-append text (10 ∷ [])) in
    let some : (length (text ++ 10 ∷ []) == 0) ≡ false
    = ne_eqb (length (text ++ 10 ∷ [])) 0 (λ z. omega (arith, z, length-append text (10 ∷ []))) in
    let last : get_or (text ++ 10 ∷ []) (length text) 0 ≡ 10 = get_or-append_seam text 10 [] 0 in
    rw (few, some, len, last, take_at text (10 ∷ []) (length text) refl) refl

pub reading_again : (m : MessageValue) → IsMessage m → reading (line m) ≡ Ok m
reading_again m h = reading_ended (text_of m) (line_room m h) ∙ ap message_of (parts_again m h) ∙ message_again m h

-- a text that reads as one entry after its letter is that message: it has no further part
pub one_entry : (text fields : List ℕ) (e : EntryValue) → text ≡ 69 ∷ 32 ∷ fields
    → entry_of 0 (split_at 32 fields) ≡ Ok e → message_of (parts_in text) ≡ Ok (AnEntry e)
one_entry text fields e is h =
    let found = entry_is 0 (split_at 32 fields) e h in
    let whole : text ≡ text_of (AnEntry e) = is ∙ sym (join_with_byte-slice_split 32 (69 ∷ 32 ∷ fields))
    ∙ ap part_text found.0 in
    ap (λ (t : List ℕ). message_of (parts_in t)) whole ∙ ap message_of (parts_again (AnEntry e) found.1)
    ∙ message_again (AnEntry e) found.1

-- ---- laws

pub is_found : {X : Type 0} (view : X → MessageValue) (text : List ℕ) (r : Result X LineError)
    → Gives view r (reading text) → IfOk r (λ m. Spells (view m) text)
is_found view text (Ok m) given = reading_is text (view m) given
is_found view text (Err e) given = tt

pub text_found : {X : Type 0} (view : X → MessageValue) (text : List ℕ) (r : Result X LineError)
    → Gives view r (reading (text ++ 10 ∷ [])) → IfOk r (λ m. text ≡ text_of (view m))
text_found view text (Ok m) given =
    append_cancel_right text (text_of (view m)) (10 ∷ []) (reading_is (text ++ 10 ∷ []) (view m) given).1
text_found view text (Err e) given = tt

pub is_once : (m n : MessageValue) (text : List ℕ) → Spells m text → Spells n text → m ≡ n
is_once m n text h k = ok_is m n (sym (reading_again m h.0) ∙ ap reading (sym h.1 ∙ k.1) ∙ reading_again n k.0)

-- if a text ends in its only line feed, nothing comes after its first one
first_end : (a b rest : List ℕ) → Lacks 10 b → a ++ 10 ∷ rest ≡ b ++ 10 ∷ [] → rest ≡ []
first_end [] [] rest h e = cc
first_end [] (y ∷ b) rest h e =
    let same : 10 ≡ y = cc in
    let other = All-head (λ (x : ℕ). eqb x 10 ≡ false) y b h in
    absurd (eqb-false y 10 other (sym same))
first_end (x ∷ a) [] rest h e =
    let none : a ++ 10 ∷ rest ≡ [] = cc in
    absurd (omega (arith, ap length none, length-append a (10 ∷ rest)))
first_end (x ∷ a) (y ∷ b) rest h e =
    let same : a ++ 10 ∷ rest ≡ b ++ 10 ∷ [] = cc in
    first_end a b rest (All-tail (λ (x : ℕ). eqb x 10 ≡ false) y b h) same

pub ends_first : (m n : MessageValue) (text rest : List ℕ) → Spells m text → Spells n (text ++ rest) → rest ≡ []
ends_first m n text rest h k =
    let whole : (text_of m ++ 10 ∷ []) ++ rest ≡ text_of n ++ 10 ∷ []
    = ap (λ (t : List ℕ). t ++ rest) (sym h.1) ∙ k.1 in
    first_end (text_of m) (text_of n) rest (text_lacks_end n k.0) (sym (append_assoc (text_of m) (10 ∷ []) rest)
    ∙ whole)

pub is_line : (m : MessageValue) (text : List ℕ) → Spells m text → IsLine text
is_line m text h =
    (text_of m, h.1, λ k d lt. eqb-false (get_or (text_of m) k d) 10 (text_lacks_end m h.0 k d lt))

-- a line is the first piece of what it begins
pub first_piece : (m : MessageValue) (rest : List ℕ) → IsMessage m → pieces (line m ++ rest) ≡ line m ∷ pieces rest
first_piece m rest h =
    let none = text_lacks_end m h in
    let p = one_piece [] (text_of m) (λ k lt. eqb-false (get_or (text_of m) k 0) 10 (none k 0 lt)) in
    pieces_append [] (line m) rest ∙ rw (p.0, p.1) refl
