-- What was read from a connection, and what was written to it.
use Rattle.std.specs.Prelude.{◌≡◌, ◌≢◌, ℕ, ◌+◌, ◌<◌, ◌≤◌, ◌⊎◌, List, [], length, Option, Result, Ok, Err}
use Rattle.std.specs.List.{All}
use Rattle.std.specs.Io.KnownBytes.{Consumes, IsAtEnd}
use Rattle.rights_types.specs.Messages.MessageValue.{AHello}
use Rattle.rights_types.specs.declared.limits.TheConstants.{MAX_LINE as LONGEST}
use Rattle.entry_codec.specs.Pieces.{pieces, IsLine}
use Rattle.entry_codec.specs.Cutter.{CutterView, IsFed}
use Rattle.entry_codec.specs.Spelling.{Spells}
use Rattle.line_streams.specs.Counting.{Parted, still}
use Rattle.peer_links.specs.declared.lines.TheConstants.{LINE_END}
use Rattle.peer_links.specs.declared.link.LinkFault.{LinkFault}
use Rattle.peer_links.specs.declared.link.LinkFault.TheVariants.{ReadFailed, WriteFailed, TooManyLines, NoHello}
use Rattle.peer_links.specs.declared.link.LinkFault.TheVariants.{LaneClosed, OutOfMemory}
use Rattle.line_streams.specs.declared.limit.TheConstants.{LINE_LIMIT}

-- ---- the first line

-- no line feed
abbrev pub IsOpen : List ℕ → Type 0
IsOpen text = All (λ b. b ≢ LINE_END) text

-- no line feed but at the end
abbrev pub IsOneLine : List ℕ → Type 0
IsOneLine text = IsOpen text ⊎ IsLine text

-- the first line has no further bytes: it has ended, it is as long as a line may be, or the stream is at its end
abbrev pub HasEnded : List ℕ → Option (List ℕ) → Type 0
HasEnded text left = IsLine text ⊎ (length text ≡ LONGEST) ⊎ IsAtEnd left

-- the result of reading the first line of a connection, of which this text was read
abbrev pub ReadsHello : List ℕ → Result ℕ LinkFault → Type 0
ReadsHello text (Ok site) = Spells (AHello site) text
ReadsHello text (Err NoHello) = (site : ℕ) → Spells (AHello site) text → ⊥
ReadsHello text (Err ReadFailed) = IsOpen text
ReadsHello text (Err OutOfMemory) = IsLine text
ReadsHello text (Err fault) = ⊥

-- the first line was read to its line feed, or reading stopped before it
abbrev pub HasRead : List ℕ → Result (Unit {0}) LinkFault → CutterView → Type 0
HasRead text (Ok _) cutter = IsLine text × IsFed cutter text []
HasRead text (Err fault) cutter = IsOpen text × ((fault ≡ NoHello) ⊎ (fault ≡ ReadFailed))

-- ---- the lines after it

-- it took a stream, and returned all pieces of it
abbrev pub IsFedAll : CutterView → List ℕ → Type 0
IsFedAll cutter stream = IsFed cutter stream (pieces stream)

-- what was read from a connection
pub record LinkGave (given left : Option (List ℕ)) : Type 0 where
  pub chunks : List (List ℕ)
  pub input : List ℕ
  pub reads : Consumes given left input
  pub parted : Parted chunks input

-- the number of lines, plus the number of reads in which no line ends
abbrev pub counted : {given left : Option (List ℕ)} → LinkGave given left → ℕ
counted gave = length (pieces gave.input) + still gave.chunks

-- why a connection from which this was read was given up
abbrev pub LinkEnds : {given left : Option (List ℕ)} → LinkGave given left → Result (Unit {0}) LinkFault → Type 0
LinkEnds gave (Ok _) = counted gave < LINE_LIMIT
LinkEnds gave (Err ReadFailed) = counted gave < LINE_LIMIT
LinkEnds gave (Err TooManyLines) = LINE_LIMIT ≤ counted gave
LinkEnds gave (Err LaneClosed) = Unit {0}
LinkEnds gave (Err OutOfMemory) = Unit {0}
LinkEnds gave (Err WriteFailed) = ⊥
LinkEnds gave (Err NoHello) = ⊥

-- why a line ends its connection
abbrev pub IsOfIntake : LinkFault → Type 0
IsOfIntake fault = (fault ≡ LaneClosed) ⊎ (fault ≡ OutOfMemory)

-- why the lines that were read end their connection
abbrev pub MayFail : LinkFault → Type 0
MayFail fault = IsOfIntake fault ⊎ (fault ≡ TooManyLines)
