-- Which items may be on a lane, and in which order.
use Rattle.std.specs.Prelude.{◌≡◌, ℕ, Bool, true, false, List, [], ◌∷◌, ◌++◌, map}
use Rattle.rights_types.specs.Entries.{EntryValue, own, closes, IsEntry}
use Rattle.rights_types.specs.Chains.{IsChain}
use Rattle.thread_parts.specs.declared.item.Item.{Item}
use Rattle.thread_parts.specs.declared.item.Item.TheVariants.{Entry, End}

module _ {A : Type 0} where
  -- entries as items
  abbrev pub items_of : List EntryValue → List (Item A)
  items_of es = map (λ e. Entry e) es

  -- these items are these entries alone, in order: End is not among them
  abbrev pub AreEntries : List EntryValue → List (Item A) → Type 0
  AreEntries es items = items ≡ items_of es

  -- End is not among these items
  abbrev pub IsOpen : List (Item A) → Type 0
  IsOpen items = (es : List EntryValue) × AreEntries es items

  abbrev pub end_if : Bool → List (Item A)
  end_if true = End ∷ []
  end_if false = []

  -- a chain of entries, and at most one End, last
  abbrev pub IsItemChain : List (Item A) → Type 0
  IsItemChain items = (o : ℕ) × (es : List EntryValue) × (ended : Bool) × IsChain o es
      × (items ≡ items_of es ++ end_if ended)

  -- the entry continues the chain of these items, all of which are entries, and none of which closes it
  abbrev pub Continues : List (Item A) → EntryValue → Type 0
  Continues items e = (o : ℕ) × (es : List EntryValue) × AreEntries es items × IsChain o (es ++ e ∷ [])

  -- the item may come next after these, none of which is End: an entry continues their chain
  unfoldable pub MayCome : Item A → List (Item A) → Type 0
  MayCome (Entry e) items = Continues items e
  MayCome End items = IsOpen items

  -- `some` is a prefix of `all`
  abbrev pub StartsWith : List (Item A) → List (Item A) → Type 0
  StartsWith all some = (rest : List (Item A)) × (all ≡ some ++ rest)

  -- the last of these items is End
  abbrev pub IsEnded : List (Item A) → Type 0
  IsEnded items = (before : List (Item A)) × (items ≡ before ++ End ∷ [])

  -- what is known of a list whose last item is this one
  abbrev pub Leaves : Item A → List (Item A) → Type 0
  Leaves (Entry e) items = IsOpen items
  Leaves End items = IsEnded items

-- f may come next to e in a log
pub record Precedes (e f : EntryValue) : Type 0 where
  pub goes_on : closes e ≡ false
  pub origin : f.origin ≡ e.origin
  pub prev : f.prev ≡ own e
  pub valid : IsEntry f

-- e may be the first of a log
pub record MayBeFirst (e : EntryValue) : Type 0 where
  pub prev : e.prev ≡ 0
  pub valid : IsEntry e
