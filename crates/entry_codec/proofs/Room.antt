-- No line is longer than 16,384 bytes, and none of one entry than 1,024.
use Rattle.std.proofs.Common.{◌≡◌, ℕ, suc, ◌+◌, ◌*◌, ◌≤◌, false, List, [], ◌∷◌, ◌++◌, length, ap, arith, length-append}
use Rattle.std.specs.Prelude.{decimal}
use Rattle.std.specs.List.{AllByRecursion}
use Rattle.std.proofs.lemmas.Bool.{or_parts}
use Rattle.std.proofs.lemmas.Fmt.{length-decimal-le}
use Rattle.std.proofs.lemmas.List.Elements.{recursion_from_All}
use Rattle.rights_types.specs.declared.limits.TheConstants.{MAX_LINE}
use Rattle.rights_types.specs.Ranges.{IsNumber}
use Rattle.rights_types.specs.Moves.{IsMove, is_close, closes_early}
use Rattle.rights_types.specs.declared.moves.Move.{Move}
use Rattle.rights_types.specs.declared.moves.Move.TheVariants.{Issue, Spend, Grant, Give, Close, CloseAt, TakeBack}
use Rattle.rights_types.specs.Entries.{EntryValue, IsEntry, own}
use Rattle.rights_types.specs.Messages.{MessageValue, AnswerValue, IsMessage, IsAnswer}
use Rattle.rights_types.specs.Messages.MessageValue.{AnEntry, AQuery, AnAnswer, ABeat, AnAsk, ADenial, AHello}
use Rattle.entry_codec.specs.Spelling.{move_text, text_of, line}
use Rattle.entry_codec.specs.Texts.{behind, entry_head, entry_text, answer_head, answer_text}
use Rattle.entry_codec.proofs.Behind.{frontier_text_is, entry_text_is, answer_text_is}

ten : (n : ℕ) → n ≤ 1000000000 → length (decimal n) ≤ 10
ten n h = length-decimal-le 10 n (omega arith) (omega (arith, h)) (omega (arith, h))

two_more : (a b : List ℕ) (x : ℕ) → length (a ++ x ∷ b) ≡ length a + suc (length b)
two_more a b x = length-append a (x ∷ b)

numbers_room : (ns : List ℕ) → AllByRecursion IsNumber ns → length (behind 58 decimal ns) ≤ 11 * length ns
numbers_room [] h = omega arith
numbers_room (n ∷ ns) h =
    omega (arith, ten n h.0, numbers_room ns h.1, length-append (58 ∷ decimal n) (behind 58 decimal ns))

move_room : (m : Move) → IsMove m → length (move_text m) ≤ 177
move_room (Issue n) h = omega (arith, ten n h.1)
move_room (Spend n) h = omega (arith, ten n h.1)
move_room (Grant j n a) h
    = omega (
      arith,
      ten j (omega (arith, h.0.1)),
      ten n h.1.1,
      ten a h.2.1,
      two_more (decimal j) (decimal n ++ 58 ∷ decimal a) 58,
      two_more (decimal n) (decimal a) 58,
    )
move_room (Give j n) h = omega (arith, ten j (omega (arith, h.0.1)), ten n h.1.1, two_more (decimal j) (decimal n) 58)
move_room Close h = omega arith
move_room (CloseAt f) h =
    omega (arith, ap length (frontier_text_is f), numbers_room f (recursion_from_All IsNumber f h.each), h.few)
move_room (TakeBack j n) h =
    omega (
      arith,
      ten j (omega (arith, h.0.1)),
      length-decimal-le 19 n (omega arith) (omega (arith, h.1.1))
          (omega (arith, h.1.1)),
      two_more (decimal j) (decimal n) 58,
    )

short_move : (m : Move) → IsMove m → is_close m ≡ false → length (move_text m) ≤ 34
short_move (Issue n) h k = omega (arith, ten n h.1)
short_move (Spend n) h k = omega (arith, ten n h.1)
short_move (Grant j n a) h k
    = omega (
      arith,
      ten j (omega (arith, h.0.1)),
      ten n h.1.1,
      ten a h.2.1,
      two_more (decimal j) (decimal n ++ 58 ∷ decimal a) 58,
      two_more (decimal n) (decimal a) 58,
    )
short_move (Give j n) h k
    = omega (arith, ten j (omega (arith, h.0.1)), ten n h.1.1, two_more (decimal j) (decimal n) 58)
short_move Close h k = absurd cc
short_move (CloseAt f) h k = absurd cc
short_move (TakeBack j n) h k =
    omega (
      arith,
      ten j (omega (arith, h.0.1)),
      length-decimal-le 19 n (omega arith) (omega (arith, h.1.1))
          (omega (arith, h.1.1)),
      two_more (decimal j) (decimal n) 58,
    )

moves_room : (ms : List Move) → AllByRecursion IsMove ms → closes_early ms ≡ false
    → length (behind 32 move_text ms) ≤ 35 * length ms + 143
moves_room [] h k = omega arith
moves_room (m ∷ []) h k = omega (arith, move_room m h.0, length-append (32 ∷ move_text m) [])
moves_room (m ∷ x ∷ ms) h k =
    let tests = or_parts (is_close m) (closes_early (x ∷ ms)) k in
    let rest = moves_room (x ∷ ms) h.1 tests.1 in
    omega (arith, short_move m h.0 tests.0, rest, length-append (32 ∷ move_text m) (behind 32 move_text (x ∷ ms)))

pub entry_room : (e : EntryValue) → IsEntry e → length (entry_text e) ≤ 737
entry_room e h =
    let number = h.number in
    let ms = moves_room e.moves (recursion_from_All IsMove e.moves h.moves) h.closing in
    let head = two_more (decimal e.origin) (decimal e.prev ++ 32 ∷ decimal (own e)) 32 in
    let rest = two_more (decimal e.prev) (decimal (own e)) 32 in
    omega (
      arith,
      length-append (entry_head e) (behind 32 move_text e.moves),
      head,
      rest,
      ten e.origin (omega (arith, h.origin.1)),
      ten e.prev (omega (arith, number)),
      ten (own e) number,
      ms,
      h.few,
    )

entries_room : (es : List EntryValue) → AllByRecursion IsEntry es → length (behind 59 entry_text es) ≤ 738 * length es
entries_room [] h = omega arith
entries_room (e ∷ es) h =
    omega (arith, entry_room e h.0, entries_room es h.1, length-append (59 ∷ entry_text e) (behind 59 entry_text es))

answer_room : (a : AnswerValue) → IsAnswer a → length (answer_text a) ≤ 12000
answer_room a h =
    let head = two_more (decimal a.origin) (decimal a.asker) 32 in
    omega (
      arith,
      length-append (answer_head a) (behind 59 entry_text a.entries),
      head,
      ten a.origin (omega (arith, h.origin.1)),
      ten a.asker (omega (arith, h.asker.1)),
      entries_room a.entries (recursion_from_All IsEntry a.entries h.entries),
      h.few,
    )

-- at most four numbers
short_room : (a b c d : ℕ) → a ≤ 1000000000 → b ≤ 1000000000 → c ≤ 1000000000 → d ≤ 1000000000
    → length (decimal a ++ 32 ∷ (decimal b ++ 32 ∷ (decimal c ++ 32 ∷ decimal d))) ≤ 43
short_room a b c d ha hb hc hd =
    omega (
      arith,
      ten a ha,
      ten b hb,
      ten c hc,
      ten d hd,
      two_more (decimal a) (decimal b ++ 32 ∷ (decimal c ++ 32 ∷ decimal d)) 32,
      two_more (decimal b) (decimal c ++ 32 ∷ decimal d) 32,
      two_more (decimal c) (decimal d) 32,
    )

text_room : (m : MessageValue) → IsMessage m → length (text_of m) ≤ 12000
text_room (AnEntry e) h = omega (arith, ap length (entry_text_is e), entry_room e h)
text_room (AQuery q) h = omega (
  arith,
  short_room q.asker q.origin q.first q.last (omega (arith, h.asker.1))
      (omega (arith, h.origin.1)) h.first h.last,
)
text_room (AnAnswer a) h = omega (arith, ap length (answer_text_is a), answer_room a h)
text_room (ABeat b) h = omega (
  arith,
  ten b.origin (omega (arith, h.origin.1)),
  ten b.number h.number,
  two_more (decimal b.origin) (decimal b.number) 32,
)
text_room (AnAsk a) h = omega (
  arith,
  short_room a.asker a.asked a.ask a.amount (omega (arith, h.asker.1))
      (omega (arith, h.asked.1)) h.ask.1 h.amount.1,
)
text_room (ADenial d) h =
    omega (
      arith,
      ten d.denier (omega (arith, h.denier.1)),
      ten d.asker (omega (arith, h.asker.1)),
      ten d.ask h.ask.1,
      two_more (decimal d.denier) (decimal d.asker ++ 32 ∷ decimal d.ask) 32,
      two_more (decimal d.asker) (decimal d.ask) 32,
    )
text_room (AHello s) h = omega (arith, ten s (omega (arith, h.1)))

pub line_room : (m : MessageValue) → IsMessage m → length (line m) ≤ MAX_LINE
line_room m h = omega (arith, text_room m h, length-append (text_of m) (10 ∷ []))
