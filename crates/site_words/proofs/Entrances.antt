-- The words that name entrances.
use Rattle.std.proofs.Common.{◌≡◌, ◌≢◌, ◌∙◌, ◌<◌, ◌≤◌, ◌^◌, ◌++◌, ◌+◌, ◌==◌, ℕ, zero, suc, Bool, true, false, List, [], ◌∷◌}
use Rattle.std.proofs.Common.{length, map, take, refl, sym, ap, ap₂, subst, arith, get_or, Bor, inl, inr, true≢false}
use Rattle.std.specs.Prelude.{◌||◌, decimal}
use Rattle.std.specs.List.{slice_index_or}
use Rattle.std.proofs.Math.Seq.{get_or-append_seam, take-append_seam}
use Rattle.std.proofs.lemmas.Bool.{eq-eqb, eqb-true}
use Rattle.std.proofs.lemmas.Fmt.{decimal_injective}
use Rattle.std.proofs.lemmas.List.{get_or-map, get_or-take, get_or_append_left, length-map, length-take-le}
use Rattle.std.proofs.lemmas.List.{length_push, map_push, take_all, take_at, take_more}
use Rattle.std.proofs.lemmas.List.Elements.{All-push}
use Rattle.clap.specs.Walk.{Text, texts}
use Rattle.site_words.specs.Settings.{AreApart, AreEntrances, IsOther, Peer, has_entrance, peer_word}
use Rattle.site_words.proofs.Peers.{no_break, no_peer, up_to}

-- the number of a word is not shorter than that of the same word
not_shorter : (m n : ℕ) (a b : Text) → n < 2 ^ 64 → decimal m ++ 61 ∷ a ≡ decimal n ++ 61 ∷ b
    → length (decimal m) < length (decimal n) → ⊥
not_shorter m n a b fits same less =
    no_break n fits (length (decimal m)) less (sym (get_or_append_left (decimal n) (61 ∷ b) 0 (length (decimal m)) less)
    ∙ ap (λ (t : Text). get_or t (length (decimal m)) 0) (sym same) ∙ get_or-append_seam (decimal m) 61 a 0)

-- a word names one number
number_once : (m n : ℕ) (a b : Text) → m < 2 ^ 64 → n < 2 ^ 64 → decimal m ++ 61 ∷ a ≡ decimal n ++ 61 ∷ b → m ≡ n
number_once m n a b small fits same =
    let one = not_shorter m n a b fits same in
    let two = not_shorter n m b a small (sym same) in
    let as_long : length (decimal n) ≡ length (decimal m) = omega (arith, one, two) in
    let fronts : decimal m ≡ decimal n = sym (take-append_seam (decimal m) (61 ∷ a))
    ∙ ap (take (length (decimal m))) same ∙ take_at (decimal n) (61 ∷ b) (length (decimal m)) as_long in
    decimal_injective m n small fits fronts

site_once : (sites : ℕ) (p q : Peer) → sites < 2 ^ 64 → p.site ≤ sites → q.site ≤ sites → peer_word p ≡ peer_word q
    → p.site ≡ q.site
site_once sites p q small one two same =
    number_once p.site q.site p.address q.address (omega (arith, small, one)) (omega (arith, small, two)) same

-- the words are those of the peers, one after another
word_at : (words : List (Bor Text)) (ps : List Peer) (k : ℕ) (d : Bor Text) → map peer_word ps ≡ texts words
    → k < length words
    → (k < length ps) × ((slice_index_or words k d).now ≡ peer_word (slice_index_or ps k no_peer))
word_at words ps k d listed within =
    let many : length ps ≡ length words = sym (length-map ps peer_word) ∙ ap length listed
    ∙ length-map words (λ (s : Bor Text). s.now) in
    let lt : k < length ps = omega (arith, many, within) in
    let p = slice_index_or ps k no_peer in (
      lt,
      sym (get_or-map (λ (s : Bor Text). s.now) words k d (peer_word p) within)
          ∙ ap (λ (l : List Text). get_or l k (peer_word p)) (sym listed)
          ∙ get_or-map peer_word ps k no_peer (peer_word p) lt,
    )

-- a word that names no other site is none of entrances
pub no_entrance : (id sites : ℕ) (words : List (Bor Text)) (i : ℕ) (d : Bor Text) → i < length words
    → ((p : Peer) → IsOther id sites p.site → (slice_index_or words i d).now ≡ peer_word p → ⊥)
    → (ps : List Peer) → AreEntrances id sites ps → map peer_word ps ≡ texts words → ⊥
no_entrance id sites words i d within none ps valid listed =
    let at = word_at words ps i d listed within in
    none (slice_index_or ps i no_peer) (valid.others i no_peer at.0) at.1

found_in : (site : ℕ) (ps : List Peer) → has_entrance site ps ≡ true
    → (k : ℕ) × (k < length ps) × ((slice_index_or ps k no_peer).site ≡ site)
found_in site [] has = absurd (true≢false (sym has))
found_in site (p ∷ ps) has = go (p.site == site) refl (λ more. found_in site ps more)
  where
    go : (here : Bool) → (p.site == site) ≡ here
        → (has_entrance site ps ≡ true → (k : ℕ) × (k < length ps) × ((slice_index_or ps k no_peer).site ≡ site))
        → (k : ℕ) × (k < length (p ∷ ps)) × ((slice_index_or (p ∷ ps) k no_peer).site ≡ site)
    go true e behind = (0, omega arith, eqb-true p.site site e)
    go false e behind =
        let rest = behind (sym (ap (λ (b : Bool). b || has_entrance site ps) e) ∙ has) in
        (suc rest.0, omega (arith, rest.1), rest.2)

below : (a b : Bool) → (a || b) ≡ false → b ≡ false
below true b e = absurd (true≢false e)
below false b e = e

not_in : (site : ℕ) (ps : List Peer) → has_entrance site ps ≡ false → (k : ℕ) (d : Peer) → k < length ps
    → (slice_index_or ps k d).site ≢ site
not_in site [] none k d lt same = absurd (omega (arith, lt))
not_in site (p ∷ ps) none zero d lt same =
    true≢false (sym (ap (λ (b : Bool). b || has_entrance site ps) (eq-eqb p.site site same)) ∙ none)
not_in site (p ∷ ps) none (suc k) d lt same
    = not_in site ps (below (p.site == site) (has_entrance site ps) none) k d (omega (arith, lt)) same

-- the words before another one, and those of their peers
many_before : (words : List (Bor Text)) (i : ℕ) (ps : List Peer) → i < length words
    → map peer_word ps ≡ texts (take i words) → length ps ≡ i
many_before words i ps within listed =
    sym (length-map ps peer_word) ∙ ap length listed ∙ length-map (take i words) (λ (s : Bor Text). s.now)
    ∙ length-take-le i words (omega (arith, within))

-- two words that name one site are not those of entrances
pub twice : (id sites : ℕ) (words : List (Bor Text)) (i : ℕ) (d : Bor Text) (es : List Peer) (q : Peer)
    → sites < 2 ^ 64 → i < length words → map peer_word es ≡ texts (take i words) → AreEntrances id sites es
    → IsOther id sites q.site → (slice_index_or words i d).now ≡ peer_word q → has_entrance q.site es ≡ true
    → (ps : List Peer) → AreEntrances id sites ps → map peer_word ps ≡ texts words → ⊥
twice id sites words i d es q small within listed before other named has ps valid all =
    let first = found_in q.site es has in
    let k = first.0 in
    let many = many_before words i es within listed in
    let earlier : k < i = omega (arith, many, first.1) in
    let mine = word_at (take i words) es k d listed
    (omega (arith, earlier, length-take-le i words (omega (arith, within)))) in
    let one = word_at words ps k d all (omega (arith, earlier, within)) in
    let two = word_at words ps i d all within in
    let p = slice_index_or ps k no_peer in
    let r = slice_index_or ps i no_peer in
    let e = slice_index_or es k no_peer in
    let same_word : peer_word p ≡ peer_word e = sym one.1
    ∙ ap (λ (s : Bor Text). s.now) (sym (get_or-take i words k d earlier)) ∙ mine.1 in
    let at_first : p.site ≡ e.site = site_once sites p e small (valid.others k no_peer one.0).most
    (before.others k no_peer first.1).most same_word in
    let at_second : r.site ≡ q.site = site_once sites r q small (valid.others i no_peer two.0).most other.most
    (sym two.1 ∙ named) in
    valid.apart k i no_peer earlier two.0 (at_first ∙ first.2 ∙ sym at_second)

apart_added : (es : List Peer) (q : Peer) → AreApart es → has_entrance q.site es ≡ false → AreApart (es ++ q ∷ [])
apart_added es q apart none i j d less lt same =
    let first : (at : i < length es) → get_or (es ++ q ∷ []) i d ≡ get_or es i d
    = λ at. get_or_append_left es (q ∷ []) d i at in
    elim (up_to (length es) j (omega (arith, lt, length_push es q))) [
      | inl inside ↦
          let second = get_or_append_left es (q ∷ []) d j inside in
          apart i j d less inside (sym (ap (λ (p : Peer). p.site) (first (omega (arith, less, inside)))) ∙ same
          ∙ ap (λ (p : Peer). p.site) second)
      | inr is ↦
          let second : get_or (es ++ q ∷ []) j d ≡ q
          = ap (λ (n : ℕ). get_or (es ++ q ∷ []) n d) is ∙ get_or-append_seam es q [] d in
          not_in q.site es none i d (omega (arith, less, is))
          (sym (ap (λ (p : Peer). p.site) (first (omega (arith, less, is)))) ∙ same ∙ ap (λ (p : Peer). p.site) second)
    ]

-- the entrances that the first words name
abbrev pub AreNamed : ℕ → ℕ → List (Bor Text) → List Peer → Type 0
AreNamed id sites words ps = (map peer_word ps ≡ texts words) × AreEntrances id sites ps

pub none_named : (id sites : ℕ) (words : List (Bor Text)) (ps : List Peer) → ps ≡ [] → AreNamed id sites (take 0 words) ps
none_named id sites words ps none =
    let valid : AreEntrances id sites [] = record {
      others = λ k d lt. absurd (omega (arith, lt));
      apart = λ i j p less lt. absurd (omega (arith, lt));
    } in
    (ap (map peer_word) none, subst (AreEntrances id sites) (sym none) valid)

pub one_named : (id sites : ℕ) (words : List (Bor Text)) (i : ℕ) (d : Bor Text) (es fs : List Peer) (q : Peer)
    (site : ℕ) (address : Text)
    → i < length words → fs ≡ es ++ q ∷ [] → q.site ≡ site → q.address ≡ address
    → AreNamed id sites (take i words) es → IsOther id sites site
    → (slice_index_or words i d).now ≡ peer_word (record { site = site; address = address })
    → has_entrance site es ≡ false
    → AreNamed id sites (take (i + 1) words) fs
one_named id sites words i d es fs q site address within grown its_site its_address before other named none =
    let word_is : (slice_index_or words i d).now ≡ peer_word q = named
    ∙ sym (ap₂ (λ (n : ℕ) (a : Text). decimal n ++ 61 ∷ a) its_site its_address) in
    let is_other : IsOther id sites q.site = subst (IsOther id sites) (sym its_site) other in
    let is_first : has_entrance q.site es ≡ false = ap (λ (n : ℕ). has_entrance n es) its_site ∙ none in
    let listed : map peer_word fs ≡ texts (take (i + 1) words) = ap (map peer_word) grown ∙ map_push peer_word es q
    ∙ ap₂ (λ (xs : List Text) (x : Text). xs ++ x ∷ []) before.0 (sym word_is)
    ∙ sym (map_push (λ (s : Bor Text). s.now) (take i words) (get_or words i d))
    ∙ ap (λ (ws : List (Bor Text)). texts ws) (sym (take_more words i d within)) in
    let valid : AreEntrances id sites (es ++ q ∷ []) = record {
      others = All-push (λ (p : Peer). IsOther id sites p.site) es q before.1.others is_other;
      apart = apart_added es q before.1.apart is_first;
    } in
    (listed, subst (AreEntrances id sites) (sym grown) valid)

pub all_named : (id sites : ℕ) (words : List (Bor Text)) (i : ℕ) (es : List Peer) → length words ≤ i
    → AreNamed id sites (take i words) es → AreEntrances id sites es × (map peer_word es ≡ texts words)
all_named id sites words i es past named =
    (named.1, named.0 ∙ ap (λ (ws : List (Bor Text)). texts ws) (take_all i words past))
