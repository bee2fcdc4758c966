-- The first line of a connection, read byte by byte.
use Rattle.std.proofs.Common.{◌≡◌, ◌≢◌, ℕ, Bool, false, cond, eqb, List, [], ◌∷◌, ◌++◌, length, take, get_or, Option}
use Rattle.std.proofs.Common.{Some, Result, Ok, Err, IfSome, IsTrue, ◌⊎◌, refl, sym, ap, subst, ◌∙◌, arith, inl, inr}
use Rattle.std.proofs.Common.{length-append}
use Rattle.std.specs.Io.BufRead.{take_through}
use Rattle.std.specs.Io.KnownBytes.{Consumes}
use Rattle.std.proofs.lemmas.Bool.{cases_Bool}
use Rattle.std.proofs.lemmas.List.Elements.{All-nil, All-push}
use Rattle.std.proofs.Math.Seq.{get_or-append_seam}
use Rattle.rights_types.specs.Messages.{MessageValue}
use Rattle.rights_types.specs.Messages.MessageValue.{AHello}
use Rattle.rights_types.specs.Values.{value_of}
use Rattle.rights_types.specs.declared.message.Message.{Message}
use Rattle.entry_codec.specs.Cutter.{CutterView, Holds, IsFed, view_of}
use Rattle.entry_codec.specs.Cuts.{IsCut, IsGiven}
use Rattle.entry_codec.specs.Parts.{Gives}
use Rattle.entry_codec.specs.Pieces.{pieces, IsLine}
use Rattle.entry_codec.specs.Reading.{reading, has_entries, WantsRoom}
use Rattle.entry_codec.specs.Spelling.{Spells}
use Rattle.entry_codec.specs.declared.cutter.Cut.{Cut}
use Rattle.entry_codec.specs.declared.fault.LineError.{LineError}
use Rattle.entry_codec.specs.declared.fault.LineError.TheVariants.{TooLong, NoEnd, BadKind, BadField, BadMove}
use Rattle.entry_codec.specs.declared.fault.LineError.TheVariants.{CountWrong, TrailingBytes, OutOfMemory}
use Rattle.entry_codec.proofs.Lines.{is_line, reading_again}
use Rattle.entry_codec.proofs.Pieces.{no_piece, one_piece}
use Rattle.peer_links.specs.Links.{IsFedAll, IsOpen, ReadsHello}
use Rattle.peer_links.specs.declared.link.LinkFault.{LinkFault}
use Rattle.peer_links.specs.declared.link.LinkFault.TheVariants.{ReadFailed, WriteFailed, TooManyLines, NoHello}
use Rattle.peer_links.specs.declared.link.LinkFault.TheVariants.{LaneClosed, OutOfMemory as NoMemory}
use Rattle.peer_links.proofs.LineLaws.{not_finished, fed_kept, one_waits}

-- the byte that was read
pub byte_read : (a b : Option (List ℕ)) (o : Option ℕ) (x : ℕ) → o ≡ Some x
    → IfSome o (λ byte. Consumes a b (byte ∷ [])) → Consumes a b (x ∷ [])
byte_read a b o x is h = subst (λ (o : Option ℕ). IfSome o (λ byte. Consumes a b (byte ∷ []))) is h

pub open_none : IsOpen []
open_none = All-nil (λ (b : ℕ). b ≢ 10)

pub open_more : (text : List ℕ) (b : ℕ) → IsOpen text → b ≢ 10 → IsOpen (text ++ b ∷ [])
open_more text b all other = All-push (λ (b : ℕ). b ≢ 10) text b all other

pub line_ends : (text : List ℕ) (b : ℕ) → IsOpen text → b ≡ 10 → IsLine (text ++ b ∷ [])
line_ends text b all end = (text, ap (λ (x : ℕ). text ++ x ∷ []) end, all)

-- an unfinished line is not a whole line
open_no_line : (text : List ℕ) → IsOpen text → IsLine text → ⊥
open_no_line text all line =
    let long = ap length line.1 ∙ length-append line.0 (10 ∷ []) in
    let last : get_or text (length line.0) 0 ≡ 10 = ap (λ (l : List ℕ). get_or l (length line.0) 0) line.1
    ∙ get_or-append_seam line.0 10 [] 0 in
    all (length line.0) 0 (omega (arith, long)) last

pub open_no_hello : (text : List ℕ) → IsOpen text → (site : ℕ) → Spells (AHello site) text → ⊥
open_no_hello text all site h = open_no_line text all (is_line (AHello site) text h)

-- one more byte was taken
pub push_byte : (c new : CutterView) (text : List ℕ) (b taken : ℕ) → IsFed c text [] → IsOpen text
    → taken ≡ cond c.is_finished 0 (length (take_through 10 (b ∷ []))) → IsFed new (text ++ take taken (b ∷ [])) []
    → IsFed new (text ++ b ∷ []) []
push_byte c new text b taken h all count fed =
    let none : pieces text ≡ [] = (no_piece [] text (λ k low. all k 0 low)).0 in
    let unended = not_finished c text (subst (IsFed c text) (sym none) h) in
    let one : length (take_through 10 (b ∷ [])) ≡ 1
    = elim (cases_Bool (eqb b 10)) [ inl e ↦ rw e refl | inr e ↦ rw e refl ] in
    let all : taken ≡ 1 = count ∙ rw unended one in
    subst (λ (n : ℕ). IsFed new (text ++ take n (b ∷ [])) []) all fed

-- the line that was read is returned whole
pub given_whole : {A : Type 0} (mid new : CutterView) (text : List ℕ) (o : Option (Cut A)) (cut : Cut A) → IsLine text
    → IsFed mid text [] → o ≡ Some cut
    → IfSome o (λ cut. IsTrue mid.is_finished × (new ≡ view_of [])
    × ((piece : List ℕ) → Holds mid piece → IsCut piece cut))
    → IfSome o (λ cut. (stream : List ℕ) (given : List (List ℕ)) → IsFed mid stream given
    → IsGiven cut new stream given)
    → IsCut text cut × IsFedAll new text
given_whole {A} mid new text o cut line fed is one given =
    let one' : IsTrue mid.is_finished × (new ≡ view_of []) × ((piece : List ℕ) → Holds mid piece → IsCut piece cut) =
    subst (λ (x : Option (Cut A)). IfSome x (λ cut. IsTrue mid.is_finished × (new ≡ view_of [])
    × ((piece : List ℕ) → Holds mid piece → IsCut piece cut))) is one in
    let given' : (stream : List ℕ) (given : List (List ℕ)) → IsFed mid stream given → IsGiven cut new stream given =
    subst (λ (x : Option (Cut A)). IfSome x (λ cut. (stream : List ℕ) (given : List (List ℕ)) → IsFed mid stream given
    → IsGiven cut new stream given)) is given in
    let next = given' text [] fed in
    let all = fed_kept new [] text next.0 one'.1 next.2 in
    let whole : pieces text ≡ text ∷ [] =
    ap pieces line.1 ∙ (one_piece [] line.0 (λ k low. line.2 k 0 low)).0 ∙ ap (λ (l : List ℕ). l ∷ []) (sym line.1) in
    let same : next.0 ≡ text = ap (λ (l : List (List ℕ)). get_or l 0 []) (sym all.1 ∙ whole) in
    (subst (λ (piece : List ℕ). IsCut piece cut) same next.1, all.0)

-- so a line waits
pub line_waits : (mid : CutterView) (text : List ℕ) → IsLine text → IsFed mid text [] → mid.is_finished ≡ false → ⊥
line_waits mid text line fed unended = one_waits mid [] line.0 text (λ k low. line.2 k 0 low) line.1 fed unended

-- the result if the line was not read to its end
pub reads_hello_err : (text : List ℕ) (fault : LinkFault) → IsOpen text → (fault ≡ NoHello) ⊎ (fault ≡ ReadFailed)
    → ReadsHello text (Err fault)
reads_hello_err text NoHello all why = open_no_hello text all
reads_hello_err text ReadFailed all why = all
reads_hello_err text NoMemory all why = elim why [ inl e ↦ absurd cc | inr e ↦ absurd cc ]
reads_hello_err text WriteFailed all why = elim why [ inl e ↦ absurd cc | inr e ↦ absurd cc ]
reads_hello_err text TooManyLines all why = elim why [ inl e ↦ absurd cc | inr e ↦ absurd cc ]
reads_hello_err text LaneClosed all why = elim why [ inl e ↦ absurd cc | inr e ↦ absurd cc ]

abbrev has_entries_in : Result MessageValue LineError → Bool
has_entries_in (Ok m) = has_entries m
has_entries_in (Err e) = false

-- a line that does not read as a message names no site
pub not_read : {A : Type 0} (r : Result (Message A) LineError) (text : List ℕ) (site : ℕ)
    → ((m : Message A) → r ≡ Ok m → ⊥) → Spells (AHello site) text
    → Gives value_of r (Ok (AHello site)) → WantsRoom r (reading text) → ⊥
not_read (Ok m) text site other h gives room = other m refl
not_read (Err OutOfMemory) text site other h gives room =
    let read : reading text ≡ Ok (AHello site) = ap reading h.1 ∙ reading_again (AHello site) h.0 in
    let none : has_entries room.0 ≡ false = ap has_entries_in (sym room.1 ∙ read) in
    absurd cc
not_read (Err TooLong) text site other h gives room = absurd cc
not_read (Err NoEnd) text site other h gives room = absurd cc
not_read (Err BadKind) text site other h gives room = absurd cc
not_read (Err (BadField p)) text site other h gives room = absurd cc
not_read (Err (BadMove p)) text site other h gives room = absurd cc
not_read (Err CountWrong) text site other h gives room = absurd cc
not_read (Err TrailingBytes) text site other h gives room = absurd cc
