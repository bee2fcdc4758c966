-- A log that grows.
use Rattle.std.proofs.Common.{◌≡◌, ℕ, List, [], ◌∷◌, ◌++◌, ap, ◌∙◌, sym, arith, refl, subst}
use Rattle.std.specs.List.{All, Contains}
use Rattle.std.proofs.lemmas.List.{append_assoc}
use Rattle.std.proofs.lemmas.List.Elements.{All-weaker, All-contains, Contains-append_left}
use Rattle.rights_types.specs.Entries.{EntryValue}
use Rattle.rights_types.specs.Chains.{IsChain, IsLongest, HeadNotIn}
use Rattle.rights_types.proofs.Chains.{chain_left, chain_right, not_before}
use Rattle.sub_buffer.specs.Buffers.{BufferValue}
use Rattle.sub_buffer.specs.Follows.{Follows}

within_longer : (es more set : List EntryValue) → All (Contains es) set → All (Contains (es ++ more)) set
within_longer es more set within
    = All-weaker (Contains es) (Contains (es ++ more)) (λ x i. Contains-append_left es more x i) set within

pub follows_longer : (b : BufferValue) (es more set put : List EntryValue) → IsChain b.origin (es ++ more)
    → Follows es set put b → Follows (es ++ more) set put b
follows_longer b es more set put c f = record {
  log = c;
  of_log = within_longer es more set f.of_log;
  begins = (f.begins.0 ++ more, sym (append_assoc put f.begins.0 more) ∙ ap (λ xs. xs ++ more) f.begins.1);
  came = f.came;
  has_put = f.has_put;
  held = f.held;
  count = f.count;
  told = f.told;
}

pub longest_stays : (o : ℕ) (es more set put : List EntryValue) → IsChain o (es ++ more) → All (Contains es) set
    → IsLongest set es put → IsLongest set (es ++ more) put
longest_stays o es more set put c within long = record {
  rest = long.rest ++ more;
  whole = sym (append_assoc put long.rest more) ∙ ap (λ xs. xs ++ more) long.whole;
  inside = long.inside;
  no_longer = no_longer long.rest long.no_longer;
}
  where
    -- what is new in the log begins at its old end or later
    unheard : (xs : List EntryValue) → es ++ more ≡ es ++ xs → HeadNotIn set xs
    unheard [] is = tt
    unheard (x ∷ xs) is = λ i.
        not_before o es x (chain_left o _ _ es more c)
        (omega (arith, (chain_right o _ _ es (x ∷ xs) (subst (IsChain o) is c)).2))
        (All-contains (Contains es) set x within i)

    no_longer : (rest : List EntryValue) → HeadNotIn set rest → HeadNotIn set (rest ++ more)
    no_longer [] none = unheard more refl
    no_longer (x ∷ xs) none = none
