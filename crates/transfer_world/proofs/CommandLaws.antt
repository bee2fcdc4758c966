-- The values of a line's words, and lines that are too long.
use Rattle.std.proofs.Common.{◌≡◌, ◌==◌, ℕ, ◌<◌, List, [], ◌∷◌, ◌++◌, length, true, Option, Some, None, Result, Ok, Err}
use Rattle.std.proofs.Common.{OnErr, refl, sym, ap, ◌∙◌, arith, take, ◌-◌, ◌≤◌, length-append, append_assoc, append-nil}
use Rattle.std.proofs.lemmas.Bool.{le-leb, lt-leb}
use Rattle.std.proofs.lemmas.List.{take_at}
use Rattle.std.specs.Option.{option_map}
use Rattle.std.specs.Borrow.{Bor}
use Rattle.rights_types.specs.declared.limits.TheConstants.{MAX_LINE}
use Rattle.rights_types.specs.declared.moves.Move.{Move}
use Rattle.entry_codec.specs.Moves.{◌>>=◌, move_of}
use Rattle.std.specs.List.{join_with_byte}
use Rattle.std.proofs.lemmas.List.Splits.{join_with_byte-slice_split}
use Rattle.line_streams.specs.Words.{words_of, words_left}
use Rattle.line_streams.proofs.WordLaws.{split_some}
use Rattle.transfer_world.specs.Commands.{word_in, moves_in, text_of, takes_memory, TakeMemory, command_in, command_of}
use Rattle.transfer_world.specs.declared.script.word.Word.{Word}

-- these moves, and then those
abbrev pub after_moves : List Move → Option (List Move) → Option (List Move)
after_moves done more = option_map (λ ms. done ++ ms) more

pub no_moves_before : (more : Option (List Move)) → more ≡ after_moves [] more
no_moves_before None = refl
no_moves_before (Some ms) = refl

one_more : (done : List Move) (m : Move) (more : Option (List Move))
    → after_moves done (more >>= (λ ms. Some (m ∷ ms))) ≡ after_moves (done ++ m ∷ []) more
one_more done m None = refl
one_more done m (Some ms) = ap Some (sym (append_assoc done (m ∷ []) ms))

-- one more word was read
pub moves_more : (all : Option (List Move)) (done : List Move) (left : Option (Bor (List ℕ))) (text : Bor (List ℕ))
    (word : List ℕ) (rest : Option (Bor (List ℕ))) (m : Move)
    → all ≡ after_moves done (moves_in (words_left left)) → left ≡ Some text
    → words_of text.now ≡ word ∷ words_left rest → Some m ≡ move_of word
    → all ≡ after_moves (done ++ m ∷ []) (moves_in (words_left rest))
moves_more all done left text word rest m h e w r = h ∙ rw (e, w, ← r) (one_more done m (moves_in (words_left rest)))

-- a word that is not a move
pub moves_none : (all : Option (List Move)) (done : List Move) (left : Option (Bor (List ℕ))) (text : Bor (List ℕ))
    (word : List ℕ) (rest : Option (Bor (List ℕ)))
    → all ≡ after_moves done (moves_in (words_left left)) → left ≡ Some text
    → words_of text.now ≡ word ∷ words_left rest → None ≡ move_of word
    → None ≡ all
moves_none all done left text word rest h e w r = sym (h ∙ rw (e, w, ← r) refl)

pub moves_all : (all : Option (List Move)) (done : List Move) (left : Option (Bor (List ℕ)))
    → all ≡ after_moves done (moves_in (words_left left)) → left ≡ None → Some done ≡ all
moves_all all done left h e = sym (h ∙ rw e (ap Some (append-nil done)))

pub fewer_words : (left : Option (Bor (List ℕ))) (text : Bor (List ℕ)) (word : List ℕ) (rest : Option (Bor (List ℕ)))
    → left ≡ Some text → words_of text.now ≡ word ∷ words_left rest
    → length (words_left rest) < length (words_left left)
fewer_words left text word rest e w = rw (e, w) (omega arith)

-- a text has at least one word: what is read of any words is read of it
pub text_whole : (text : Bor (List ℕ)) → text_of (words_of text.now) ≡ Some text.now
text_whole text =
    let words = split_some (λ (b : ℕ). b == 32) text.now in
    rw words.2 (ap Some (ap (join_with_byte 32) (sym words.2) ∙ join_with_byte-slice_split 32 text.now))

-- what takes memory by its word
pub take_memory : {X E : Type 0} (word : Word) (rest words : List (List ℕ)) (r : Result X E)
    → word_in words ≡ Some (word, rest) → OnErr r (takes_memory word ≡ true)
    → OnErr r (TakeMemory words)
take_memory word rest words (Ok x) is h = tt
take_memory word rest words (Err e) is h = ((word, rest), is, h)

module _ {A : Type 0} (line : List ℕ) where
  pub short_line : (text : List ℕ) → line ≡ text ++ 10 ∷ [] → length line ≤ MAX_LINE
      → command_of {A = A} line ≡ command_in text
  unfolding command_of
  short_line text ended short =
      let front : take (length line - 1) line ≡ text =
      ap (λ (l : List ℕ). take (length line - 1) l) ended
      ∙ take_at text (10 ∷ []) (length line - 1) (omega (arith, ap length ended, length-append text (10 ∷ []))) in
      rw (le-leb (length line) MAX_LINE short, front) refl

  pub long_line : MAX_LINE < length line → command_of {A = A} line ≡ None
  unfolding command_of
  long_line many = rw (lt-leb (length line) MAX_LINE many) refl
