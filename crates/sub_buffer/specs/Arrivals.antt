-- Entries that arrive at a settled buffer, each with all that it frees.
use Rattle.std.specs.Prelude.{◌≡◌, ℕ, ◌+◌, ◌≤◌, List, [], ◌++◌, length, map, max, ◌∷◌}
use Rattle.std.specs.List.{Contains}
use Rattle.rights_types.specs.Entries.{EntryValue, own}
use Rattle.rights_types.specs.Chains.{ChainFrom, IsLongest}
use Rattle.rights_types.specs.declared.limits.TheConstants.{MAX_HELD}
use Rattle.sub_buffer.specs.Buffers.{BufferValue, IsSettled, SamePair}
use Rattle.sub_buffer.specs.Table.{OfferLeaves, PopsLeave, more_held}
use Rattle.sub_buffer.specs.Follows.{HasPut, Follows, put_after, SettledVerdict, reached_after}
use Rattle.sub_buffer.specs.declared.verdict.Verdict.{Verdict}
use Rattle.sub_buffer.specs.declared.verdict.Verdict.TheVariants.{Ready}

-- the verdicts on held entries that were freed
abbrev pub all_ready : {A : Type 0} → List EntryValue → List (Verdict A)
all_ready es = map (λ (e : EntryValue). Ready e) es

-- the held entries that became next were delivered, one after another
pub record Frees (old : BufferValue) (freed : List EntryValue) (new : BufferValue) : Type 0 where
  pub table : PopsLeave old freed new
  pub settled : IsSettled new
  pub pair : SamePair old new
  pub told : new.told ≡ old.told
  pub count : length freed + length new.held ≤ length old.held
  pub chain : (put : List EntryValue) → HasPut put old → HasPut (put ++ freed) new
  pub follows : (es set put : List EntryValue) → Follows es set put old → Follows es set (put ++ freed) new

-- only a Ready entry frees others
abbrev pub MayFree : {A : Type 0} → Verdict A → List EntryValue → Type 0
MayFree (Ready x) freed = Unit {0}
MayFree v freed = freed ≡ []

-- of an entry e of the log: its verdict v; with what it freed, put is the longest prefix of what reached the buffer
abbrev pub SettledArrival : {A : Type 0} → List EntryValue → List EntryValue → List EntryValue → EntryValue → Verdict A
    → List EntryValue → ℕ → BufferValue → Type 0
SettledArrival es set put e v freed told new =
    let later : List EntryValue = reached_after set e v in
    let longer : List EntryValue = put_after put v ++ freed in
    SettledVerdict set put e v × Follows es later longer new × IsLongest later es longer × (new.told ≡ max told (own e))

-- the verdict v on the entry e, and the held entries that e freed
pub record Arrives {A : Type 0} (old : BufferValue) (e : EntryValue) (v : Verdict A) (freed : List EntryValue)
    (new : BufferValue) : Type 0 where
  -- whatever came: the verdict is that of the table, and then each held entry that became next was delivered
  pub table : (mid : BufferValue) × OfferLeaves old e v mid × PopsLeave mid freed new
  pub settled : IsSettled new
  pub pair : SamePair old new
  pub count : length freed + length new.held ≤ length old.held + more_held v
  pub few : length new.held ≤ MAX_HELD
  pub frees : MayFree v freed
  pub chain : (put : List EntryValue) → HasPut put old → HasPut (put_after put v ++ freed) new
  -- if e is an entry of the log es, of which put was delivered
  pub log : (es set put : List EntryValue) → Contains es e → Follows es set put old
      → SettledArrival es set put e v freed old.told new

-- these are the next entries of the origin, one after another, and none is held
abbrev pub IsContinuedBy : BufferValue → List EntryValue → Type 0
IsContinuedBy b es = (b.held ≡ []) × ChainFrom b.origin b.closed b.last es

-- entries arrived one after another: to the verdicts before are added the verdict on each, and Ready for each held
-- entry that it freed
abbrev pub ArriveAll : {A : Type 0} → BufferValue → List (Verdict A) → List EntryValue → BufferValue
    → List (Verdict A) → Type 0
ArriveAll old before [] new after = (new ≡ old) × (after ≡ before)
ArriveAll {A} old before (e ∷ es) new after =
    (mid : BufferValue) × (between : List (Verdict A)) × (v : Verdict A) × (freed : List EntryValue)
    × (between ≡ before ++ v ∷ all_ready freed)
    × Arrives old e v freed mid × ArriveAll mid between es new after
