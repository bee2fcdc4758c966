-- Packets as they are stored, if one is added or read.
use Rattle.std.proofs.Common.{◌≡◌, ℕ, ◌<◌, Bool, true, false, if◌then◌else◌, get_or, length, length-append, List, []}
use Rattle.std.proofs.Common.{◌∷◌, ◌++◌, ap, arith, refl, sym, subst, ◌∙◌}
use Rattle.std.specs.List.{All}
use Rattle.std.proofs.Math.Seq.{get_or-append_seam}
use Rattle.std.proofs.lemmas.List.{get_or_append_left, get_or-map, map-append}
use Rattle.std.proofs.lemmas.List.Elements.{All-head, All-tail, All-cons, All-nil, All-append, All-get_or}
use Rattle.world_core.specs.Values.{BodyValue, PacketValue}
use Rattle.world_core.specs.Values.BodyValue.{EntryAt, Text}
use Rattle.world_core.specs.Packets.{packet_in, packets_in, HasLine}
use Rattle.world_core.specs.declared.packets.Row.{Row}

-- ---- one more line

body_stays : (is_entry : Bool) (place : ℕ) (lines : List (List ℕ)) (line : List ℕ)
    → (is_entry ≡ false → place < length lines)
    → (if is_entry then EntryAt place else Text (get_or (lines ++ line ∷ []) place [])) ≡ (if is_entry then EntryAt
    place else Text (get_or lines place []))
body_stays true place lines line has = refl
body_stays false place lines line has =
    ap (λ text. Text text) (get_or_append_left lines (line ∷ []) [] place (has refl))

packet_stays : (lines : List (List ℕ)) (line : List ℕ) (row : Row) → HasLine lines row
    → packet_in (lines ++ line ∷ []) row ≡ packet_in lines row
packet_stays lines line row has =
    ap (λ (b : BodyValue). record { from = row.from; to = row.to; body = b })
    (body_stays row.is_entry row.place lines line has)

packets_stay : (lines : List (List ℕ)) (line : List ℕ) (rows : List Row) → All (HasLine lines) rows
    → packets_in (lines ++ line ∷ []) rows ≡ packets_in lines rows
packets_stay lines line [] all = refl
packets_stay lines line (row ∷ rows) all =
    ap (λ p. p ∷ packets_in (lines ++ line ∷ []) rows)
    (packet_stays lines line row (All-head (HasLine lines) row rows all))
    ∙ ap (λ ps. packet_in lines row ∷ ps) (packets_stay lines line rows (All-tail (HasLine lines) row rows all))

more_lines : (lines : List (List ℕ)) (line : List ℕ) (rows : List Row) → All (HasLine lines) rows
    → All (HasLine (lines ++ line ∷ [])) rows
more_lines lines line [] all = All-nil (HasLine (lines ++ line ∷ []))
more_lines lines line (row ∷ rows) all =
    All-cons (HasLine (lines ++ line ∷ [])) row rows
    (λ own. omega (arith, All-head (HasLine lines) row rows all own, length-append lines (line ∷ [])))
    (more_lines lines line rows (All-tail (HasLine lines) row rows all))

-- ---- what is added

one_row : (lines : List (List ℕ)) (rows : List Row) (row : Row) → All (HasLine lines) rows → HasLine lines row
    → All (HasLine lines) (rows ++ row ∷ [])
one_row lines rows row all has =
    All-append (HasLine lines) rows (row ∷ []) all (All-cons (HasLine lines) row [] has (All-nil (HasLine lines)))

-- a packet with an entry
pub entry_added : (lines after : List (List ℕ)) (rows more : List Row) (row : Row) → All (HasLine lines) rows
    → row.is_entry ≡ true → after ≡ lines → more ≡ rows ++ row ∷ []
    → (packets_in after more ≡ packets_in lines rows ++ record
    { from = row.from; to = row.to; body = EntryAt row.place } ∷ []) × All (HasLine after) more
entry_added lines after rows more row all entry same added = (
  rw (same, added) (map-append (packet_in lines) rows (row ∷ [])
      ∙ ap (λ (b : Bool). packets_in lines rows ++ record
      { from = row.from; to = row.to; body = if b then EntryAt row.place else Text (get_or lines row.place []) } ∷ [])
      entry),
  rw (same, added) (one_row lines rows row all (λ own. let bad : true ≡ false = sym entry ∙ own in absurd cc)),
)

-- a packet with a line of its own
pub line_added : (lines after : List (List ℕ)) (line : List ℕ) (rows more : List Row) (row : Row)
    → All (HasLine lines) rows → row.is_entry ≡ false → row.place ≡ length lines
    → after ≡ lines ++ line ∷ [] → more ≡ rows ++ row ∷ []
    → (packets_in after more ≡ packets_in lines rows ++ record { from = row.from; to = row.to; body = Text line } ∷ [])
    × All (HasLine after) more
line_added lines after line rows more row all own last longer added =
    let here : get_or (lines ++ line ∷ []) row.place [] ≡ line = ap (λ n. get_or (lines ++ line ∷ []) n []) last
    ∙ get_or-append_seam lines line [] [] in
    let body : (if row.is_entry then EntryAt row.place else Text (get_or (lines ++ line ∷ []) row.place [])) ≡ Text line
    =
    ap (λ (b : Bool). if b then EntryAt row.place else Text (get_or (lines ++ line ∷ []) row.place [])) own
    ∙ ap (λ text. Text text) here in (
      rw (longer, added) (map-append (packet_in (lines ++ line ∷ [])) rows (row ∷ [])
          ∙ ap (λ ps. ps ++ packet_in (lines ++ line ∷ []) row ∷ []) (packets_stay lines line rows all)
          ∙ ap (λ (b : BodyValue). packets_in lines rows ++ record { from = row.from; to = row.to; body = b } ∷ [])
          body),
      rw (longer, added) (one_row (lines ++ line ∷ []) rows row (more_lines lines line rows all)
          (λ _. omega (arith, last, length-append lines (line ∷ [])))),
    )

-- ---- what is read

-- the row at an index is that of the packet there, and has its line
pub row_at : (lines : List (List ℕ)) (rows : List Row) (i : ℕ) (row : Row) (d : PacketValue) → All (HasLine lines) rows
    → i < length rows → row ≡ get_or rows i row
    → (get_or (packets_in lines rows) i d ≡ packet_in lines row) × HasLine lines row
row_at lines rows i row d all within read = (
  get_or-map (packet_in lines) rows i row d within ∙ ap (packet_in lines) (sym read),
  subst (HasLine lines) (sym read) (All-get_or (HasLine lines) rows i row within all),
)
