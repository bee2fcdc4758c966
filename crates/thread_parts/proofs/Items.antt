-- Laws of the items of a lane.
use Rattle.std.proofs.Common.{◌≡◌, ℕ, Bool, true, false, List, [], ◌∷◌, ◌++◌, refl, sym, ap, ◌∙◌, subst, append-nil}
use Rattle.rights_types.specs.Entries.{EntryValue}
use Rattle.rights_types.specs.Chains.{IsChain}
use Rattle.rights_types.proofs.Chains.{chain_left, chain_right, chain_push, closed-push, end-push}
use Rattle.thread_parts.specs.declared.item.Item.{Item}
use Rattle.thread_parts.specs.declared.item.Item.TheVariants.{Entry, End}
use Rattle.thread_parts.specs.Items.{items_of, IsOpen, end_if, IsItemChain, Continues, MayCome, IsEnded, Precedes}
use Rattle.thread_parts.specs.Items.{MayBeFirst, Leaves}

-- a chain continues with what follows its last entry
follows_on : (o : ℕ) (es : List EntryValue) (e f : EntryValue) → IsChain o (es ++ e ∷ []) → Precedes e f
    → IsChain o ((es ++ e ∷ []) ++ f ∷ [])
follows_on o es e f chain follows =
    let last = chain_right o false 0 es (e ∷ []) chain in
    chain_push o false 0 (es ++ e ∷ []) f chain (closed-push false es e ∙ follows.goes_on) (follows.origin ∙ last.1)
    (follows.prev ∙ sym (end-push es e)) follows.valid

module _ {A : Type 0} where
  pub items_of-push : (es : List EntryValue) (e : EntryValue)
      → items_of {A = A} (es ++ e ∷ []) ≡ items_of es ++ Entry e ∷ []
  items_of-push [] e = refl
  items_of-push (f ∷ es) e = ap (λ l. Entry f ∷ l) (items_of-push es e)

  pub open_push : (items : List (Item A)) (e : EntryValue) → IsOpen items → IsOpen (items ++ Entry e ∷ [])
  open_push items e free = (free.0 ++ e ∷ [], ap (λ l. l ++ Entry e ∷ []) free.1 ∙ sym (items_of-push free.0 e))

  -- items that an entry continues form a chain with it
  pub continued : (items : List (Item A)) (e : EntryValue) → Continues items e → IsItemChain (items ++ Entry e ∷ [])
  continued items e c = (
    c.0,
    c.1 ++ e ∷ [],
    false,
    c.3,
    ap (λ l. l ++ Entry e ∷ []) c.2 ∙ sym (items_of-push c.1 e)
        ∙ sym (append-nil (items_of (c.1 ++ e ∷ []))),
  )

  only_end : (x : Item A) (xs ys : List (Item A)) → x ∷ xs ++ ys ≡ End ∷ [] → x ∷ xs ≡ End ∷ []
  only_end x [] ys is = cc
  only_end x (y ∷ xs) ys is = absurd cc

  nothing_after : (before ys : List (Item A)) (es : List EntryValue) (b : Bool)
      → (before ++ End ∷ []) ++ ys ≡ items_of es ++ end_if b → ys ≡ []
  nothing_after [] ys [] true is = cc
  nothing_after [] ys [] false is = absurd cc
  nothing_after [] ys (e ∷ es) b is = absurd cc
  nothing_after (x ∷ []) ys [] true is = absurd cc
  nothing_after (x ∷ y ∷ before) ys [] true is = absurd cc
  nothing_after (x ∷ before) ys [] false is = absurd cc
  nothing_after (x ∷ before) ys (e ∷ es) b is = nothing_after before ys es b cc

  -- a list of entries alone has no End
  no_end : (items : List (Item A)) (es fs : List EntryValue) → items ≡ items_of es → items ≡ items_of fs ++ End ∷ [] → ⊥
  no_end items [] [] a b = cc
  no_end items [] (f ∷ fs) a b = cc
  no_end items (e ∷ es) [] a b = cc
  no_end items (e ∷ es) (f ∷ fs) a b = no_end (items_of es) es fs refl cc

  ended : (items : List (Item A)) (o : ℕ) (es : List EntryValue) (b : Bool) → IsChain o es
      → items ≡ items_of es ++ end_if b → IsOpen items → IsItemChain (items ++ End ∷ [])
  ended items o es false chain is free = (o, es, true, chain, ap (λ l. l ++ End ∷ []) (is ∙ append-nil (items_of es)))
  ended items o es true chain is free = absurd (no_end items free.0 es free.1 is)

  pub empty_chain : IsItemChain {A = A} []
  empty_chain = (0, [], false, tt, refl)

  -- a chain without End remains a chain with End added
  pub end_chain : (items : List (Item A)) → IsItemChain items → IsOpen items → IsItemChain (items ++ End ∷ [])
  end_chain items chain free = ended items chain.0 chain.1 chain.2 chain.3 chain.4 free

  -- a list of items that is a prefix of another
  front : (xs ys : List (Item A)) (es : List EntryValue) (b : Bool) → xs ++ ys ≡ items_of es ++ end_if b
      → (fs : List EntryValue) × (gs : List EntryValue) × (c : Bool) × (fs ++ gs ≡ es) × (xs ≡ items_of fs ++ end_if c)
  front [] ys es b is = ([], es, false, refl, refl)
  front (x ∷ xs) ys (e ∷ es) b is =
      let rest = front xs ys es b cc in
      (e ∷ rest.0, rest.1, rest.2, ap (λ l. e ∷ l) rest.3, cc)
  front (x ∷ xs) ys [] true is = ([], [], true, refl, only_end x xs ys is)
  front (x ∷ xs) ys [] false is = absurd cc

  -- a prefix of a chain is a chain
  pub front_chain : (xs ys : List (Item A)) → IsItemChain (xs ++ ys) → IsItemChain xs
  front_chain xs ys chain =
      let cut = front xs ys chain.1 chain.2 chain.4 in (
        chain.0,
        cut.0,
        cut.2,
        chain_left chain.0 false 0 cut.0 cut.1 (subst (IsChain chain.0) (sym cut.3) chain.3),
        cut.4,
      )

  -- nothing comes after End
  pub whole_at_end : (xs ys : List (Item A)) → IsItemChain (xs ++ ys) → IsEnded xs → ys ≡ []
  whole_at_end xs ys chain ended = nothing_after ended.0 ys chain.1 chain.2 (ap (λ l. l ++ ys) (sym ended.1) ∙ chain.4)

  -- after an entry that may come next, one that follows it may come next
  pub continues_on : (items : List (Item A)) (e f : EntryValue) → Continues items e → Precedes e f
      → Continues (items ++ Entry e ∷ []) f
  continues_on items e f c follows = (
    c.0,
    c.1 ++ e ∷ [],
    ap (λ l. l ++ Entry e ∷ []) c.2 ∙ sym (items_of-push c.1 e),
    follows_on c.0 c.1 e f c.3 follows,
  )

  -- the first entry of a log may come first
  pub begins_chain : (e : EntryValue) → MayBeFirst e → Continues {A = A} [] e
  begins_chain e first = (e.origin, [], refl, (refl, refl, first.prev, first.valid, tt))

  pub same_entries : (fs es : List EntryValue) (b : Bool) → items_of {A = A} fs ≡ items_of es ++ end_if b → fs ≡ es
  same_entries [] [] b is = refl
  same_entries [] (e ∷ es) b is = absurd cc
  same_entries (f ∷ fs) [] true is = absurd cc
  same_entries (f ∷ fs) [] false is = absurd cc
  same_entries (f ∷ fs) (e ∷ es) b is = let rest = same_entries fs es b cc in cc

  -- the last item of a chain could come next to those before it
  pub may_come : (items later : List (Item A)) (x : Item A) → later ≡ items ++ x ∷ [] → IsItemChain later → IsOpen items
      → MayCome x items
  unfolding MayCome
  may_come items later (Entry e) is chain free =
      let entries = items_of-push free.0 e ∙ ap (λ l. l ++ Entry e ∷ []) (sym free.1) ∙ sym is ∙ chain.4 in (
        chain.0,
        free.0,
        free.1,
        subst (IsChain chain.0) (sym (same_entries (free.0 ++ e ∷ []) chain.1 chain.2 entries)) chain.3,
      )
  may_come items later End is chain free = free

  -- what is known of items whose last one is this
  pub leaves : (items : List (Item A)) (x : Item A) → IsOpen items → Leaves x (items ++ x ∷ [])
  leaves items (Entry e) is_open = open_push items e is_open
  leaves items End is_open = (items, refl)
