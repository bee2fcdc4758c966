-- The other sites, and the words that name them.
use Rattle.std.proofs.Common.{◌≡◌, ◌≢◌, ◌∙◌, ◌==◌, ◌<◌, ◌≤◌, ◌+◌, ◌++◌, ℕ, Bool, true, false, zero, suc, List, [], ◌∷◌}
use Rattle.std.proofs.Common.{length, map, refl, sym, ap, ap₂, subst, arith, get_or, ◌^◌, Bor, Option, Some, None, inl, inr}
use Rattle.std.proofs.Common.{true≢false}
use Rattle.std.specs.Prelude.{◌⊎◌, decimal}
use Rattle.std.proofs.lemmas.Str.Pattern.{IsSplitOnceResult, split_after}
use Rattle.entry_codec.proofs.Bytes.{decimal_lacks}
use Rattle.std.specs.List.{All, Contains, slice_index_or}
use Rattle.std.proofs.lemmas.Bool.{eq-eqb, eqb-false, eqb-true, ne_eqb}
use Rattle.std.proofs.lemmas.List.{get_or-map, get_or_append_left, length-map, length_push, map_push}
use Rattle.std.proofs.lemmas.List.Elements.{All-push, Contains-push}
use Rattle.clap.specs.Walk.{Text, texts}
use Rattle.site_words.specs.Settings.{HasValues, IsNamed, IsSettings, Lacks, Options, Peer, Settings, others, peer_word}

-- `=` is not a digit
pub no_break : (n : ℕ) → n < 2 ^ 64 → (i : ℕ) → i < length (decimal n) → get_or (decimal n) i 0 ≢ 61
no_break n fits i lt e =
    let lacks = decimal_lacks 61 n (inr (omega arith, omega arith)) fits i 0 lt in
    let bad : true ≡ false = rw e at lacks in
    true≢false bad

-- a word with no `=` names no peer
pub unsplit : (site : ℕ) (word address : Text) → site < 2 ^ 64 → IsSplitOnceResult 61 word None
    → word ≢ decimal site ++ 61 ∷ address
unsplit site word address fits cases same
    = split_after 61 word (decimal site) address None cases (omega arith) same (no_break site fits)

-- a word that names a peer is its number up to the first `=`
pub split_number : (site : ℕ) (word address : Text) (number rest : Bor Text) → site < 2 ^ 64
    → IsSplitOnceResult 61 word (Some (number, rest))
    → word ≡ decimal site ++ 61 ∷ address → number.now ≡ decimal site
split_number site word address number rest fits cases same =
    (split_after 61 word (decimal site) address (Some (number, rest)) cases (omega arith) same (no_break site fits)).0

contains_before : (xs : List ℕ) (x y : ℕ) → Contains xs y → Contains (xs ++ x ∷ []) y
contains_before xs x y has
    = (has.0, omega (arith, has.1, length_push xs x), get_or_append_left xs (x ∷ []) y has.0 has.1 ∙ has.2)

-- each site but this one is among the others
pub others_contains : (id n site : ℕ) → 1 ≤ site → site ≤ n → site ≢ id → Contains (others id n) site
others_contains id zero site one le other = absurd (omega arith)
others_contains id (suc n) site one le other =
    go (suc n == id) (site == suc n) refl refl (λ below. others_contains id n site one below other)
  where
    go : (own last : Bool) → (suc n == id) ≡ own → (site == suc n) ≡ last → (site ≤ n → Contains (others id n) site)
        → Contains (others id (suc n)) site
    go true true e f before = absurd (other (eqb-true site (suc n) f ∙ eqb-true (suc n) id e))
    go true false e f before =
        let apart = eqb-false site (suc n) f in
        rw e (before (omega (arith, apart)))
    go false true e f before =
        let is : site ≡ suc n = eqb-true site (suc n) f in
        rw (e, is) (Contains-push (others id n) (suc n))
    go false false e f before =
        let apart = eqb-false site (suc n) f in
        rw e (contains_before (others id n) (suc n) site (before (omega (arith, apart))))

-- the peers so far are the others up to a site, each named by a word
abbrev pub AreUpTo : List Text → ℕ → ℕ → List Peer → Type 0
AreUpTo words id n ps = (map (λ p. p.site) ps ≡ others id n) × All (IsNamed words) ps

-- and up to the next, which is this one
pub own_passed : (words : List Text) (id n : ℕ) (ps : List Peer) → n + 1 ≡ id → AreUpTo words id n ps
    → AreUpTo words id (n + 1) ps
own_passed words id n ps own before =
    let next : suc n ≡ n + 1 = omega arith in
    let e : (suc n == id) ≡ true = eq-eqb (suc n) id (next ∙ own) in
    let more : map (λ p. p.site) ps ≡ others id (suc n) = rw e before.0 in
    (subst (λ k. map (λ (p : Peer). p.site) ps ≡ others id k) next more, before.1)

-- or another one
pub peer_added : (words : List Text) (id n : ℕ) (ps qs : List Peer) (p : Peer) → qs ≡ ps ++ p ∷ [] → n + 1 ≢ id
    → p.site ≡ n + 1
    → IsNamed words p → AreUpTo words id n ps → AreUpTo words id (n + 1) qs
peer_added words id n ps qs p grown other site named before =
    let next : suc n ≡ n + 1 = omega arith in
    let e : (suc n == id) ≡ false = ne_eqb (suc n) id (λ own. other (sym next ∙ own)) in
    let listed : map (λ p. p.site) (ps ++ p ∷ []) ≡ others id n ++ suc n ∷ [] =
    map_push (λ (p : Peer). p.site) ps p ∙ ap₂ (λ (xs : List ℕ) (x : ℕ). xs ++ x ∷ []) before.0 (site ∙ sym next) in
    let more : map (λ p. p.site) (ps ++ p ∷ []) ≡ others id (suc n) = rw e listed in
    let both : AreUpTo words id (n + 1) (ps ++ p ∷ []) = (
      subst (λ k. map (λ (p : Peer). p.site) (ps ++ p ∷ []) ≡ others id k) next more,
      All-push (IsNamed words) ps p before.1 named,
    ) in
    subst (AreUpTo words id (n + 1)) (sym grown) both

pub up_to : (i k : ℕ) → k < i + 1 → (k < i) ⊎ (k ≡ i)
up_to i k lt = go (k == i) refl
  where
    go : (here : Bool) → (k == i) ≡ here → (k < i) ⊎ (k ≡ i)
    go true e = inr (eqb-true k i e)
    go false e = let apart = eqb-false k i e in inl (omega (arith, lt, apart))

-- one more word names no peer of this site
pub one_more : (words : List (Bor Text)) (i site : ℕ) (d : Bor Text) → i < length words
    → ((p : Peer) (k : ℕ) → p.site ≡ site → k < i → slice_index_or (texts words) k (peer_word p) ≢ peer_word p)
    → ((address : Text) → (slice_index_or words i d).now ≢ peer_word (record { site = site; address = address }))
    → (p : Peer) (k : ℕ) → p.site ≡ site → k < i + 1 → slice_index_or (texts words) k (peer_word p) ≢ peer_word p
one_more words i site d within before here p k same lt named = elim (up_to i k lt) [
  | inl below ↦ before p k same below named
  | inr is ↦
      let read : slice_index_or (texts words) i (peer_word p) ≡ peer_word p
      = subst (λ n. slice_index_or (texts words) n (peer_word p) ≡ peer_word p) is named in
      here p.address (sym (get_or-map (λ (s : Bor Text). s.now) words i d (peer_word p) within) ∙ read
      ∙ ap (λ (n : ℕ). decimal n ++ 61 ∷ p.address) same)
]

pub no_peer : Peer
no_peer = record { site = 0; address = [] }

-- if no word names one of the others, no settings have these values
pub lacking : (id sites : ℕ) (listen : Option Text) (words froms : List Text) (options : Options)
    → Lacks id sites words
    → (s : Settings) → IsSettings s → HasValues id sites listen words froms options s → ⊥
lacking id sites listen words froms options lacks s valid has =
    let k = lacks.1.0 in
    let peer : Peer = slice_index_or s.peers k no_peer in
    let listed : map (λ p. p.site) s.peers ≡ others id sites = rw (← has.same_id, ← has.same_sites) valid.peers in
    let within : k < length s.peers
    = omega (arith, lacks.1.1, ap length listed, length-map s.peers (λ (p : Peer). p.site)) in
    let site : peer.site ≡ lacks.0 =
    sym (get_or-map (λ (p : Peer). p.site) s.peers k no_peer lacks.0 within)
    ∙ ap (λ (l : List ℕ). get_or l k lacks.0) listed ∙ lacks.1.2 in
    let named : IsNamed words peer = has.names.each k no_peer within in
    lacks.2 peer.address (subst (λ n. IsNamed words (record { site = n; address = peer.address })) site named)
