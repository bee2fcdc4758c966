-- A buffer compared with its origin's log. Here es is that log; set has the entries of it that reached the buffer,
-- that is, were offered and not answered Full, each listed once; and put has the entries that the buffer delivered.
use Rattle.std.specs.Prelude.{◌≡◌, ◌≢◌, ◌+◌, ◌≤◌, ◌⊎◌, ◌↔◌, List, [], ◌∷◌, ◌++◌, length, Option, Some, None, Result, Ok}
use Rattle.std.specs.Prelude.{Err}
use Rattle.std.specs.List.{All, Contains}
use Rattle.rights_types.specs.Entries.{EntryValue, own}
use Rattle.rights_types.specs.Chains.{end, is_closed, IsChain, IsPrefix, IsLongest, IsBeyond, IsFull}
use Rattle.sub_buffer.specs.Buffers.{BufferValue}
use Rattle.sub_buffer.specs.declared.verdict.Verdict.{Verdict}
use Rattle.sub_buffer.specs.declared.verdict.Verdict.TheVariants.{Ready, Held, Repeat, AfterClose, Full}

-- the entries that the buffer delivered are those of put: a chain whose end is the last number
pub record HasPut (put : List EntryValue) (b : BufferValue) : Type 0 where
  pub chain : IsChain b.origin put
  pub last : b.last ≡ end put
  pub closed : b.closed ≡ is_closed put

-- the buffer follows the log: put is a prefix of the log and within what reached the buffer, and the held entries are
-- those beyond it
pub record Follows (es set put : List EntryValue) (b : BufferValue) : Type 0 where
  pub log : IsChain b.origin es
  pub of_log : All (Contains es) set
  pub begins : IsPrefix put es
  pub came : All (Contains set) put
  pub has_put : HasPut put b
  pub held : (e : EntryValue) → Contains b.held e ↔ IsBeyond set put e
  pub count : length set ≡ length put + length b.held
  pub told : All (λ e. own e ≤ b.told) set

-- the delivered entries after a verdict
abbrev pub put_after : {A : Type 0} → List EntryValue → Verdict A → List EntryValue
put_after put (Ready x) = put ++ x ∷ []
put_after put v = put

-- ---- if put is the longest prefix, as in each buffer that is settled

-- the verdict on an entry e of the log
abbrev pub SettledVerdict : {A : Type 0} → List EntryValue → List EntryValue → EntryValue → Verdict A → Type 0
SettledVerdict set put e Repeat = Contains set e
SettledVerdict set put e (Ready x) = (¬ Contains set e) × (e.prev ≡ end put) × (x ≡ e)
SettledVerdict set put e Full = (¬ Contains set e) × (e.prev ≢ end put) × IsFull set put
SettledVerdict set put e Held = (¬ Contains set e) × (e.prev ≢ end put) × ¬ IsFull set put
SettledVerdict set put e AfterClose = ⊥

-- the entries that have reached the buffer after that verdict
abbrev pub reached_after : {A : Type 0} → List EntryValue → EntryValue → Verdict A → List EntryValue
reached_after set e (Ready x) = set ++ e ∷ []
reached_after set e Held = set ++ e ∷ []
reached_after set e v = set

-- after a verdict other than Ready, put is still the longest prefix
abbrev pub StaysLongest : {A : Type 0} → List EntryValue → List EntryValue → List EntryValue → Verdict A → Type 0
StaysLongest es set put (Ready x) = Unit {0}
StaysLongest es set put v = IsLongest set es put

-- an offer of an entry e of the log
abbrev pub SettledOffer : {A E : Type 0} → List EntryValue → List EntryValue → List EntryValue → EntryValue
    → Result (Verdict A) E → BufferValue → Type 0
SettledOffer es set put e (Err fault) new = ⊥
SettledOffer es set put e (Ok v) new =
    SettledVerdict set put e v × Follows es (reached_after set e v) (put_after put v) new
    × StaysLongest es (reached_after set e v) put v

-- ---- whether or not put is the longest prefix

-- later contains exactly what set contains, and e
abbrev pub Adds : List EntryValue → EntryValue → List EntryValue → Type 0
Adds set e later = (Contains set e × (later ≡ set)) ⊎ ((¬ Contains set e) × (later ≡ set ++ e ∷ []))

-- later contains what reached the buffer after a verdict on an entry e of the log
abbrev pub VerdictAdds : {A : Type 0} → List EntryValue → EntryValue → Verdict A → List EntryValue → Type 0
VerdictAdds set e Repeat later = Contains set e × (later ≡ set)
VerdictAdds set e (Ready x) later = (x ≡ e) × Adds set e later
VerdictAdds set e Full later = (¬ Contains set e) × (later ≡ set)
VerdictAdds set e Held later = (¬ Contains set e) × (later ≡ set ++ e ∷ [])
VerdictAdds set e AfterClose later = ⊥

-- an offer of an entry e of the log
abbrev pub OfferFollows : {A E : Type 0} → List EntryValue → List EntryValue → List EntryValue → EntryValue
    → Result (Verdict A) E → BufferValue → Type 0
OfferFollows es set put e (Err fault) new = ⊥
OfferFollows es set put e (Ok v) new = (later : List EntryValue) × VerdictAdds set e v later
    × Follows es later (put_after put v) new

-- the held entry that is returned is the next one of the log; none is returned exactly if put is the longest prefix
abbrev pub PopFollows : List EntryValue → List EntryValue → List EntryValue → Option EntryValue → BufferValue → Type 0
PopFollows es set put None new = IsLongest set es put × Follows es set put new
PopFollows es set put (Some e) new = (¬ IsLongest set es put) × IsBeyond set put e × (e.prev ≡ end put)
    × Follows es set (put ++ e ∷ []) new
