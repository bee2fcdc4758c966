-- How a ring changes when a key of it becomes the newest.
use Rattle.std.proofs.Common.{◌≡◌, ℕ, suc, ◌+◌, ◌-◌, ◌<◌, ◌≤◌, Bool, true, false, cond, List, [], ◌∷◌, ◌++◌, length}
use Rattle.std.proofs.Common.{get_or, take, drop, reverse, remove, slice_get, Option, Some, None, IfSome, is_some, true≢false}
use Rattle.std.proofs.Common.{refl, sym, ap, ◌∙◌, subst, arith, append-nil}
use Rattle.std.specs.Prelude.{not, nat_lt, position}
use Rattle.std.specs.List.{insert}
use Rattle.std.specs.Map.{keys_of}
use Rattle.std.specs.Option.{option_map_or}
use Rattle.std.specs.Str.{bytes_eq}
use Rattle.std.specs.Cmp.Lexicographic.{bytes_decides}
use Rattle.std.proofs.Math.Seq.{drop-cons, take-append-add, drop-append-add}
use Rattle.std.proofs.lemmas.List.{reverse-append, append_assoc, take_all, take-append-drop, take-append-le}
use Rattle.std.proofs.lemmas.List.{drop-append-le, length-take-le, length-map, get_or-map, length-reverse, length-append}
use Rattle.std.proofs.lemmas.List.Edits.{length-remove}
use Rattle.std.proofs.lemmas.List.Elements.{filter-append}
use Rattle.std.proofs.lemmas.List.Sums.{sum_by-append, sum_by-take-drop}
use Rattle.std.proofs.lemmas.List.Quantifiers.{position-Some}
use Rattle.std.proofs.lemmas.Bool.{ltb-true, ltb-false, lt-ltb, le-ltb}
use Rattle.indexmap.specs.IndexMap.{insert_entry, move_index}
use Rattle.command_keys.specs.Last.{newest_of, newest_first, place_left, without}
use Rattle.command_keys.proofs.Lookups.{hits, hits-cons, hits-reverse}
use Rattle.command_keys.proofs.Distinct.{without_none}

-- ---- an entry that moves

module _ {X : Type 0} where
  turned_end : (xs ys : List X) (x : X) → reverse (xs ++ (ys ++ x ∷ [])) ≡ x ∷ reverse (xs ++ ys)
  turned_end xs ys x = ap reverse (sym (append_assoc xs ys (x ∷ []))) ∙ reverse-append (xs ++ ys) (x ∷ [])

  -- put behind the newest
  pub newest_at : (r : List X) (x : X) (p : ℕ) → p ≤ length r
      → newest_first (insert r p x) (p + 1) ≡ x ∷ newest_first r p
  newest_at r x p within =
      let front : List X = take p r in
      let back : List X = drop p r in
      let long : length front + 1 ≡ p + 1 = ap (λ n. n + 1) (length-take-le p r within) in
      let taken : take (p + 1) (front ++ x ∷ back) ≡ front ++ x ∷ []
      = ap (λ n. take n (front ++ x ∷ back)) (sym long) ∙ take-append-add front (x ∷ back) 1 in
      let dropped : drop (p + 1) (front ++ x ∷ back) ≡ back
      = ap (λ n. drop n (front ++ x ∷ back)) (sym long) ∙ drop-append-add front (x ∷ back) 1 in
      (λ i. reverse (dropped i ++ taken i)) ∙ turned_end back front x

  by_place : (es new : List X) (r : Option X) (i to place left : ℕ)
      → new ≡ option_map_or (λ x. insert (remove es i) to x) r es
      → ((x : X) → newest_first (insert (remove es i) to x) place ≡ x ∷ newest_first (remove es i) left)
      → IfSome r (λ e. newest_first new place ≡ e ∷ newest_first (remove es i) left)
  by_place es new None i to place left is newest = tt
  by_place es new (Some x) i to place left is newest = ap (λ xs. newest_first xs place) is ∙ newest x

  abbrev pub MadeNewest : List X → List X → ℕ → ℕ → ℕ → Type 0
  MadeNewest es new i oldest place =
      IfSome (slice_get es i) (λ e. newest_first new place ≡ e ∷ newest_first (remove es i) (place_left oldest i))

  -- before the oldest
  pub moved_front : (es new : List X) (i oldest : ℕ) → i < length es → oldest < length es → i < oldest
      → new ≡ move_index es i (oldest - 1) → MadeNewest es new i oldest oldest
  moved_front es new i oldest within ring below is =
      let r : List X = remove es i in
      let left : place_left oldest i ≡ oldest - 1 = ap (λ b. cond b (oldest - 1) oldest) (less_is i oldest below) in
      let next : oldest - 1 + 1 ≡ oldest = omega (arith, below) in
      by_place es new (slice_get es i) i (oldest - 1) oldest (place_left oldest i) is
      (λ x. ap (λ n. newest_first (insert r (oldest - 1) x) n) (sym next)
      ∙ newest_at r x (oldest - 1) (omega (arith, length-remove es i within, ring))
      ∙ ap (λ n. x ∷ newest_first r n) (sym left))
    where
      less_is : (a b : ℕ) → a < b → nat_lt a b ≡ true
      less_is a b h = lt-ltb a b h

  -- behind it, which is then the place before the next oldest
  pub moved_between : (es new : List X) (i oldest : ℕ) → i < length es → oldest < length es → oldest ≤ i
      → new ≡ move_index es i oldest → MadeNewest es new i oldest (oldest + 1)
  moved_between es new i oldest within ring above is =
      let left : place_left oldest i ≡ oldest = ap (λ b. cond b (oldest - 1) oldest) (le-ltb i oldest above) in
      by_place es new (slice_get es i) i oldest (oldest + 1) (place_left oldest i) is
      (λ x. newest_at (remove es i) x oldest (omega (arith, length-remove es i within, ring))
      ∙ ap (λ n. x ∷ newest_first (remove es i) n) (sym left))

-- ---- a ring without one of its keys

module _ {V : Type 0} (q : List ℕ) where
  -- the entry of a key, and those before and behind it, which have other keys
  pub record Split (es : List (List ℕ × V)) (i : ℕ) : Type 0 where
    pub front : List (List ℕ × V)
    pub item : List ℕ × V
    pub back : List (List ℕ × V)
    pub whole : es ≡ front ++ item ∷ back
    pub at : length front ≡ i
    pub same : bytes_eq q item.0 ≡ true
    pub none_front : hits (bytes_eq q) front ≡ 0
    pub none_back : hits (bytes_eq q) back ≡ 0

  hits-append : (xs ys : List (List ℕ × V)) → hits (bytes_eq q) (xs ++ ys) ≡ hits (bytes_eq q) xs + hits (bytes_eq q) ys
  hits-append xs ys = sum_by-append (λ e. cond (bytes_eq q e.0) 1 0) xs ys

  pub split_at : (es : List (List ℕ × V)) (i : ℕ) (d : List ℕ × V) → position (bytes_eq q) (keys_of es) ≡ Some i
      → hits (bytes_eq q) es ≤ 1 → Split es i
  split_at es i d found few =
      let p = position-Some (bytes_eq q) (keys_of es) i d.0 found in
      let within : i < length es = omega (arith, p.0, length-map es (λ (e : List ℕ × V). e.0)) in
      let x : List ℕ × V = get_or es i d in
      let key : get_or (keys_of es) i d.0 ≡ x.0 = get_or-map (λ (e : List ℕ × V). e.0) es i d d.0 within in
      let same : bytes_eq q x.0 ≡ true = ap (bytes_eq q) (sym key) ∙ p.1 in
      let whole : es ≡ take i es ++ x ∷ drop (suc i) es
      = sym (take-append-drop i es) ∙ ap (λ xs. take i es ++ xs) (drop-cons es i d within) in
      let sum = ap (hits (bytes_eq q)) whole ∙ hits-append (take i es) (x ∷ drop (suc i) es) in
      let one = hits-cons (bytes_eq q) x (drop (suc i) es)
      ∙ ap (λ (b : Bool). cond b 1 0 + hits (bytes_eq q) (drop (suc i) es)) same in
      record {
        front = take i es;
        item = x;
        back = drop (suc i) es;
        whole = whole;
        at = length-take-le i es (omega (arith, within));
        same = same;
        none_front = omega (arith, sum, one, few);
        none_back = omega (arith, sum, one, few);
      }

  -- the entry that is found gets the new value
  by_entry : (e : List ℕ × V) (es : List (List ℕ × V)) (v : V) (b : Bool) → bytes_eq q e.0 ≡ b
      → insert_entry bytes_eq (e ∷ es) q v ≡ cond b ((e.0, v) ∷ es) (e ∷ insert_entry bytes_eq es q v)
  by_entry e es v b is = ap (λ (c : Bool). cond c ((e.0, v) ∷ es) (e ∷ insert_entry bytes_eq es q v)) is

  off : (e : List ℕ × V) (es : List (List ℕ × V)) (b : Bool) → bytes_eq q e.0 ≡ b → hits (bytes_eq q) (e ∷ es) ≡ 0
      → (bytes_eq q e.0 ≡ false) × (hits (bytes_eq q) es ≡ 0)
  off e es true is none = absurd (omega (
    arith,
    none,
    hits-cons (bytes_eq q) e es
        ∙ ap (λ (c : Bool). cond c 1 0 + hits (bytes_eq q) es) is,
  ))
  off e es false is none = (
    is,
    omega (arith, none, hits-cons (bytes_eq q) e es ∙ ap (λ (c : Bool). cond c 1 0 + hits (bytes_eq q) es) is),
  )

  pub inserted : (front back : List (List ℕ × V)) (x : List ℕ × V) (v : V) → bytes_eq q x.0 ≡ true
      → hits (bytes_eq q) front ≡ 0 → insert_entry bytes_eq (front ++ x ∷ back) q v ≡ front ++ (q, v) ∷ back
  inserted [] back x v same none =
      by_entry x back v true same ∙ ap (λ (k : List ℕ). (k, v) ∷ back) (sym ((bytes_decides q x.0).0 same))
  inserted (e ∷ front) back x v same none =
      let other = off e front (bytes_eq q e.0) refl none in
      by_entry e (front ++ x ∷ back) v false other.0
      ∙ ap (λ xs. e ∷ xs) (inserted front back x v same other.1)

  -- in the middle of a list that is turned round
  without_middle : (c d : List (List ℕ × V)) (x : List ℕ × V) → bytes_eq q x.0 ≡ true → hits (bytes_eq q) c ≡ 0
      → hits (bytes_eq q) d ≡ 0 → without q (reverse (c ++ x ∷ d)) ≡ reverse (c ++ d)
  without_middle c d x same none none_behind =
      let test : List ℕ × V → Bool = λ e. not (bytes_eq q e.0) in
      let kept_c : without q (reverse c) ≡ reverse c
      = without_none q (reverse c) (hits-reverse (bytes_eq q) c ∙ none) in
      let kept_d : without q (reverse d) ≡ reverse d
      = without_none q (reverse d) (hits-reverse (bytes_eq q) d ∙ none_behind) in
      let out : without q (x ∷ []) ≡ [] = ap (λ (b : Bool). cond (not b) (x ∷ []) []) same in
      ap (without q) (reverse-append c (x ∷ d) ∙ ap (λ xs. xs ++ reverse c) (reverse-append (x ∷ []) d))
      ∙ filter-append test (reverse d ++ x ∷ []) (reverse c)
      ∙ (λ i. filter-append test (reverse d) (x ∷ []) i ++ kept_c i)
      ∙ (λ i. (kept_d i ++ out i) ++ reverse c)
      ∙ ap (λ xs. xs ++ reverse c) (append-nil (reverse d)) ∙ sym (reverse-append c d)

  part_none : (xs : List (List ℕ × V)) (n : ℕ) → hits (bytes_eq q) xs ≡ 0
      → (hits (bytes_eq q) (take n xs) ≡ 0) × (hits (bytes_eq q) (drop n xs) ≡ 0)
  part_none xs n none =
      let sum = sum_by-take-drop (λ e. cond (bytes_eq q e.0) 1 0) xs n in
      (omega (arith, sum, none), omega (arith, sum, none))

  both_none : (xs ys : List (List ℕ × V)) → hits (bytes_eq q) xs ≡ 0 → hits (bytes_eq q) ys ≡ 0
      → hits (bytes_eq q) (xs ++ ys) ≡ 0
  both_none xs ys none other = hits-append xs ys ∙ omega (arith, none, other)

  -- the oldest stands behind the key
  behind : (a b : List (List ℕ × V)) (x : List ℕ × V) (m : ℕ) → bytes_eq q x.0 ≡ true → hits (bytes_eq q) a ≡ 0
      → hits (bytes_eq q) b ≡ 0
      → newest_first (a ++ b) (length a + m) ≡ without q (newest_first (a ++ x ∷ b) (length a + suc m))
  behind a b x m same none_a none_b =
      let c : List (List ℕ × V) = drop m b ++ a in
      let d : List (List ℕ × V) = take m b in
      let parts = part_none b m none_b in
      (λ i. reverse (drop-append-add a b m i ++ take-append-add a b m i))
      ∙ ap reverse (sym (append_assoc (drop m b) a d))
      ∙ sym (without_middle c d x same (both_none (drop m b) a parts.1 none_a) parts.0)
      ∙ ap (λ xs. without q (reverse xs)) (append_assoc (drop m b) a (x ∷ d))
      ∙ sym (λ i. without q (reverse (drop-append-add a (x ∷ b) (suc m) i ++ take-append-add a (x ∷ b) (suc m) i)))

  -- .. or before it, or is it
  before : (a b : List (List ℕ × V)) (x : List ℕ × V) (oldest : ℕ) → bytes_eq q x.0 ≡ true → hits (bytes_eq q) a ≡ 0
      → hits (bytes_eq q) b ≡ 0 → oldest ≤ length a
      → newest_first (a ++ b) oldest ≡ without q (newest_first (a ++ x ∷ b) oldest)
  before a b x oldest same none_a none_b within =
      let c : List (List ℕ × V) = drop oldest a in
      let t : List (List ℕ × V) = take oldest a in
      let parts = part_none a oldest none_a in
      (λ i. reverse (drop-append-le oldest a b within i ++ take-append-le oldest a b within i))
      ∙ ap reverse (append_assoc c b t)
      ∙ sym (without_middle c (b ++ t) x same parts.1 (both_none b t none_b parts.0))
      ∙ ap (λ xs. without q (reverse xs)) (sym (append_assoc c (x ∷ b) t))
      ∙ sym (λ i. without q (reverse (drop-append-le oldest a (x ∷ b) within i ++ take-append-le oldest a (x ∷ b) within i)))

  by_left : (a b : List (List ℕ × V)) (x : List ℕ × V) (oldest : ℕ) (below : Bool) → nat_lt (length a) oldest ≡ below
      → bytes_eq q x.0 ≡ true → hits (bytes_eq q) a ≡ 0 → hits (bytes_eq q) b ≡ 0
      → newest_first (a ++ b) (cond below (oldest - 1) oldest) ≡ without q (newest_first (a ++ x ∷ b) oldest)
  by_left a b x oldest true is same none_a none_b =
      let less : length a < oldest = ltb-true (length a) oldest is in
      let m : ℕ = oldest - 1 - length a in
      let left : oldest - 1 ≡ length a + m = omega (arith, less) in
      let now : length a + suc m ≡ oldest = omega (arith, less) in
      ap (newest_first (a ++ b)) left ∙ behind a b x m same none_a none_b
      ∙ ap (λ n. without q (newest_first (a ++ x ∷ b) n)) now
  by_left a b x oldest false is same none_a none_b =
      before a b x oldest same none_a none_b (ltb-false (length a) oldest is)

  pub left_without : (a b : List (List ℕ × V)) (x : List ℕ × V) (oldest : ℕ) → bytes_eq q x.0 ≡ true
      → hits (bytes_eq q) a ≡ 0 → hits (bytes_eq q) b ≡ 0
      → newest_first (a ++ b) (place_left oldest (length a)) ≡ without q (newest_first (a ++ x ∷ b) oldest)
  left_without a b x oldest same none_a none_b =
      by_left a b x oldest (nat_lt (length a) oldest) refl same none_a none_b

  shown : (front back : List (List ℕ × V)) (e : List ℕ × V) → slice_get (front ++ e ∷ back) (length front) ≡ Some e
  shown [] back e = refl
  shown (f ∷ front) back e = shown front back e

  taken_out : (front back : List (List ℕ × V)) (e : List ℕ × V) → remove (front ++ e ∷ back) (length front) ≡ front ++ back
  taken_out [] back e = refl
  taken_out (f ∷ front) back e = ap (λ xs. f ∷ xs) (taken_out front back e)

  length-turned : (es : List (List ℕ × V)) (n : ℕ) → length (newest_first es n) ≡ length es
  length-turned es n =
      length-reverse (drop n es ++ take n es) ∙ length-append (drop n es) (take n es)
      ∙ omega (arith, length-append (take n es) (drop n es), ap length (take-append-drop n es))

  same_length : (front back : List (List ℕ × V)) (e f : List ℕ × V) → length (front ++ e ∷ back) ≡ length (front ++ f ∷ back)
  same_length front back e f = length-append front (e ∷ back) ∙ sym (length-append front (f ∷ back))

  -- the new entry of a key, and the others in their order
  pub renewed : (es now new : List (List ℕ × V)) (v : V) (i oldest place cap : ℕ) (s : Split es i)
      → now ≡ insert_entry bytes_eq es q v → length es ≤ cap → length new ≡ length now
      → MadeNewest now new i oldest place
      → newest_first new place ≡ newest_of cap ((q, v) ∷ without q (newest_first es oldest))
  renewed es now new v i oldest place cap s is few many made =
      let e : List ℕ × V = (q, v) in
      let rest : List (List ℕ × V) = without q (newest_first es oldest) in
      let placed : now ≡ s.front ++ e ∷ s.back
      = is ∙ ap (λ xs. insert_entry bytes_eq xs q v) s.whole ∙ inserted s.front s.back s.item v s.same s.none_front in
      let at_place : slice_get now i ≡ Some e
      = (λ j. slice_get (placed j) (sym s.at j)) ∙ shown s.front s.back e in
      let newest : newest_first new place ≡ e ∷ newest_first (remove now i) (place_left oldest i)
      = subst (λ r. IfSome r (λ f. newest_first new place ≡ f ∷ newest_first (remove now i) (place_left oldest i))) at_place made in
      let whole : newest_first new place ≡ e ∷ rest
      = newest
      ∙ (λ j. e ∷ newest_first (remove (placed j) (sym s.at j)) (place_left oldest (sym s.at j)))
      ∙ ap (λ xs. e ∷ newest_first xs (place_left oldest (length s.front))) (taken_out s.front s.back e)
      ∙ ap (λ xs. e ∷ xs) (left_without s.front s.back s.item oldest s.same s.none_front s.none_back)
      ∙ ap (λ xs. e ∷ without q (newest_first xs oldest)) (sym s.whole) in
      let long : length (e ∷ rest) ≡ length es
      = ap length (sym whole) ∙ length-turned new place ∙ many ∙ ap length placed
      ∙ same_length s.front s.back e s.item ∙ ap length (sym s.whole) in
      whole ∙ sym (take_all cap (e ∷ rest) (omega (arith, long, few)))

-- a key at no place has no value
pub none_found : {X : Type 0} (r : Option ℕ) (o : Option X) → is_some r ≡ is_some o → r ≡ None → o ≡ None
none_found r None same none = refl
none_found r (Some x) same none = absurd (true≢false (sym same ∙ ap is_some none))
