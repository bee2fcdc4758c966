-- One more turn, and its note.
use Rattle.std.proofs.Common.{◌≡◌, inl, inr, List, [], ◌∷◌, ◌++◌, length, refl, subst, sym, ap, ◌∙◌, append_assoc, arith}
use Rattle.durability.specs.Counts.{CountsValue}
use Rattle.apply_lanes.specs.Kepts.{KeptValue, CountsAll}
use Rattle.desk_turns.specs.Noting.{IsNoted, NotesAll, AreNoted}

-- .. with nothing made
one_silent : (states : List KeptValue) (notes : List CountsValue) (old new : KeptValue)
    → AreNoted states notes → CountsAll new 0 → AreNoted (states ++ old ∷ new ∷ []) notes
one_silent [] notes old new all none = inl (none, all)
one_silent (k ∷ []) notes old new all none = absurd all
one_silent (k ∷ l ∷ states) notes old new (inl a) none = inl (a.0, one_silent states notes old new a.1 none)
one_silent (k ∷ l ∷ states) [] old new (inr a) none = absurd a
one_silent (k ∷ l ∷ states) (c ∷ []) old new (inr a) none = absurd a
one_silent (k ∷ l ∷ states) (c ∷ d ∷ notes) old new (inr a) none = inr (a.0, one_silent states notes old new a.1 none)

one_more : (states : List KeptValue) (notes : List CountsValue) (old new : KeptValue) (before after : CountsValue)
    → AreNoted states notes → IsNoted new after
    → AreNoted (states ++ old ∷ new ∷ []) (notes ++ before ∷ after ∷ [])
one_more [] [] old new before after all one = inr (one, refl)
one_more [] (c ∷ notes) old new before after all one = absurd (omega (arith, ap length all))
one_more (k ∷ []) notes old new before after all one = absurd all
one_more (k ∷ l ∷ states) notes old new before after (inl a) one = inl (a.0, one_more states notes old new before after a.1 one)
one_more (k ∷ l ∷ states) [] old new before after (inr a) one = absurd a
one_more (k ∷ l ∷ states) (c ∷ []) old new before after (inr a) one = absurd a
one_more (k ∷ l ∷ states) (c ∷ d ∷ notes) old new before after (inr a) one =
    inr (a.0, one_more states notes old new before after a.1 one)

-- the states of one more turn
turn : (was begun states : List KeptValue) (old new : KeptValue) → begun ≡ was ++ old ∷ [] → states ≡ begun ++ new ∷ []
    → was ++ old ∷ new ∷ [] ≡ states
turn was begun states old new first second =
    sym (append_assoc was (old ∷ []) (new ∷ [])) ∙ ap (λ (ks : List KeptValue). ks ++ new ∷ []) (sym first) ∙ sym second

pub notes_turn : (was begun states : List KeptValue) (had notes : List CountsValue) (old new : KeptValue)
    → AreNoted was had → begun ≡ was ++ old ∷ [] → states ≡ begun ++ new ∷ [] → NotesAll new had notes
    → AreNoted states notes
notes_turn was begun states had notes old new all first second (inl none) =
    subst (λ ks. AreNoted ks notes) (turn was begun states old new first second)
    (subst (λ cs. AreNoted (was ++ old ∷ new ∷ []) cs) (sym none.1) (one_silent was had old new all none.0))
notes_turn was begun states had notes old new all first second (inr note) =
    subst (λ ks. AreNoted ks notes) (turn was begun states old new first second)
    (subst (λ cs. AreNoted (was ++ old ∷ new ∷ []) cs) (sym note.one)
    (one_more was had old new note.before note.after all note.is_noted))
