-- The parts of a text, and the results of code that walks over them.
use Rattle.std.specs.Prelude.{◌≡◌, ℕ, List, [], map, Option, Some, None, Result, Ok, Err, ◌==◌}
use Rattle.std.specs.List.{slice_split}
use Rattle.std.specs.Borrow.{Bor}
use Rattle.entry_codec.specs.declared.fault.LineError.{LineError}
use Rattle.entry_codec.specs.declared.fault.LineError.TheVariants.{OutOfMemory}
use Rattle.entry_codec.specs.declared.format.TheConstants.{FIELD_BREAK, PART_BREAK, VALUE_BREAK}

-- the parts of a text that a byte separates
abbrev pub split_at : ℕ → List ℕ → List (List ℕ)
split_at at text = slice_split (λ b. b == at) text

-- a line's parts, each a list of fields
abbrev pub parts_in : List ℕ → List (List (List ℕ))
parts_in text = map (split_at FIELD_BREAK) (split_at PART_BREAK text)

-- the parts of what is left of a text
abbrev pub left : ℕ → Option (Bor (List ℕ)) → List (List ℕ)
left at None = []
left at (Some text) = split_at at text.now

abbrev pub fields_left : Option (Bor (List ℕ)) → List (List ℕ)
fields_left rest = left FIELD_BREAK rest

abbrev pub values_left : Option (Bor (List ℕ)) → List (List ℕ)
values_left rest = left VALUE_BREAK rest

-- a line's parts that are left, each a list of fields
abbrev pub parts_left : Option (Bor (List ℕ)) → List (List (List ℕ))
parts_left rest = map (split_at FIELD_BREAK) (left PART_BREAK rest)

-- the result of a call that never allocates, seen by view, is what reading gives
abbrev pub Finds : {X Y : Type 0} → (X → Y) → Option X → Option Y → Type 0
Finds view (Some x) read = read ≡ Some (view x)
Finds view None read = read ≡ None

abbrev pub ReadsAs : {X Y : Type 0} → (X → Y) → Result X LineError → Result Y LineError → Type 0
ReadsAs view (Ok x) read = read ≡ Ok (view x)
ReadsAs view (Err e) read = read ≡ Err e

-- the result of a call, seen by view, is what reading gives; lack of memory is possible only if reading gives a value
abbrev pub Gives : {X Y : Type 0} → (X → Y) → Result X LineError → Result Y LineError → Type 0
Gives view (Ok x) read = read ≡ Ok (view x)
Gives {X} {Y} view (Err OutOfMemory) read = (y : Y) × (read ≡ Ok y)
Gives view (Err e) read = read ≡ Err e

-- the result of a call that stops if memory is refused, so that it may miss a fault
abbrev pub Tells : {X Y : Type 0} → (X → Y) → Result X LineError → Result Y LineError → Type 0
Tells view (Ok x) read = read ≡ Ok (view x)
Tells view (Err OutOfMemory) read = Unit {0}
Tells view (Err e) read = read ≡ Err e
