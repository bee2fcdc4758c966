-- Messages between sites, as plain data.
use Rattle.std.specs.Prelude.{◌≡◌, ◌≢◌, ℕ, ◌<◌, ◌≤◌, List, length, Result, Ok, Err, Some, None, nat_lt, ◌==◌}
use Rattle.std.specs.Prelude.{if◌then◌else◌, ◌||◌, not}
use Rattle.std.specs.List.{All, list_any}
use Rattle.rights_types.specs.Ranges.{IsSite, IsAmount, IsAskNumber, IsNumber}
use Rattle.rights_types.specs.Entries.{EntryValue, IsEntry}
use Rattle.rights_types.specs.declared.limits.TheConstants.{MAX_NUMBER, MAX_ANSWER}
use Rattle.rights_types.specs.declared.fault.TypeError.{TypeError}
use Rattle.rights_types.specs.declared.fault.TypeError.TheVariants.{BadSite, BadNumber, BadCount, SameSite}

-- the asker asks the origin for its numbers from first to last
pub record QueryValue : Type 0 where
  pub asker : ℕ
  pub origin : ℕ
  pub first : ℕ
  pub last : ℕ

-- entries of the origin, for the asker
pub record AnswerValue : Type 0 where
  pub origin : ℕ
  pub asker : ℕ
  pub entries : List EntryValue

-- the last number of the origin's log
pub record BeatValue : Type 0 where
  pub origin : ℕ
  pub number : ℕ

-- the asker asks for this amount of rights
pub record AskValue : Type 0 where
  pub asker : ℕ
  pub asked : ℕ
  pub ask : ℕ
  pub amount : ℕ

-- the denier denies that ask of the asker
pub record DenyValue : Type 0 where
  pub denier : ℕ
  pub asker : ℕ
  pub ask : ℕ

pub data MessageValue : Type 0 where
  AnEntry : EntryValue → MessageValue
  AQuery : QueryValue → MessageValue
  AnAnswer : AnswerValue → MessageValue
  ABeat : BeatValue → MessageValue
  AnAsk : AskValue → MessageValue
  ADenial : DenyValue → MessageValue
  AHello : ℕ → MessageValue

pub record IsQuery (q : QueryValue) : Type 0 where
  pub asker : IsSite q.asker
  pub origin : IsSite q.origin
  pub first : IsNumber q.first
  pub last : IsNumber q.last
  pub differ : q.origin ≢ q.asker

pub record IsAnswer (a : AnswerValue) : Type 0 where
  pub origin : IsSite a.origin
  pub asker : IsSite a.asker
  pub differ : a.asker ≢ a.origin
  pub few : length a.entries ≤ MAX_ANSWER
  pub entries : All IsEntry a.entries
  pub of_origin : All (λ (e : EntryValue). e.origin ≡ a.origin) a.entries

pub record IsBeat (b : BeatValue) : Type 0 where
  pub origin : IsSite b.origin
  pub number : IsNumber b.number

pub record IsAsk (a : AskValue) : Type 0 where
  pub asker : IsSite a.asker
  pub asked : IsSite a.asked
  pub differ : a.asked ≢ a.asker
  pub ask : IsAskNumber a.ask
  pub amount : IsAmount a.amount

pub record IsDenial (d : DenyValue) : Type 0 where
  pub denier : IsSite d.denier
  pub asker : IsSite d.asker
  pub differ : d.asker ≢ d.denier
  pub ask : IsAskNumber d.ask

-- a message within its limits
abbrev pub IsMessage : MessageValue → Type 0
IsMessage (AnEntry e) = IsEntry e
IsMessage (AQuery q) = IsQuery q
IsMessage (AnAnswer a) = IsAnswer a
IsMessage (ABeat b) = IsBeat b
IsMessage (AnAsk a) = IsAsk a
IsMessage (ADenial d) = IsDenial d
IsMessage (AHello s) = IsSite s

-- the result of constructing a query
abbrev pub QueryMade : QueryValue → Result QueryValue TypeError → Type 0
QueryMade q (Ok made) = IsQuery q × (made ≡ q)
QueryMade q (Err fault) = (if nat_lt MAX_NUMBER q.first || nat_lt MAX_NUMBER q.last then Some BadNumber
    else (if q.origin == q.asker then Some SameSite else None)) ≡ Some fault

-- the result of constructing an answer
abbrev pub AnswerMade : AnswerValue → Result AnswerValue TypeError → Type 0
AnswerMade a (Ok made) = IsAnswer a × (made ≡ a)
AnswerMade a (Err fault) = (if list_any (λ (e : EntryValue). not (e.origin == a.origin)) a.entries then Some BadSite
    else (if nat_lt MAX_ANSWER (length a.entries) then Some BadCount
    else (if a.asker == a.origin then Some SameSite else None))) ≡ Some fault

-- the result of constructing a beat
abbrev pub BeatMade : BeatValue → Result BeatValue TypeError → Type 0
BeatMade b (Ok made) = IsBeat b × (made ≡ b)
BeatMade b (Err fault) = (MAX_NUMBER < b.number) × (fault ≡ BadNumber)

-- the result of constructing an ask or a denial from values in their ranges
abbrev pub AskMade : AskValue → Result AskValue TypeError → Type 0
AskMade a (Ok made) = IsAsk a × (made ≡ a)
AskMade a (Err fault) = (a.asked ≡ a.asker) × (fault ≡ SameSite)

abbrev pub DenialMade : DenyValue → Result DenyValue TypeError → Type 0
DenialMade d (Ok made) = IsDenial d × (made ≡ d)
DenialMade d (Err fault) = (d.asker ≡ d.denier) × (fault ≡ SameSite)
