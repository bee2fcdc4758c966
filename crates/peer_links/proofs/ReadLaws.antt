-- What was read from a connection, read by read, and the effect of its lines.
use Rattle.std.proofs.Common.{◌≡◌, ℕ, ◌+◌, ◌<◌, ◌≤◌, List, [], ◌∷◌, ◌++◌, length, take, drop, Option, Some, None}
use Rattle.std.proofs.Common.{Err, IfNone, refl, sym, ap, subst, ◌∙◌, arith, inl, inr, append-nil}
use Rattle.std.proofs.Common.{append_assoc, length-append, length-drop}
use Rattle.std.specs.Io.KnownBytes.{Consumes, Keeps}
use Rattle.std.proofs.KnownBytes.{Consumes-nil, Consumes-kept, Consumes-trans}
use Rattle.std.proofs.lemmas.List.{take_all}
use Rattle.entry_codec.specs.Cutter.{CutterView}
use Rattle.entry_codec.specs.Pieces.{pieces}
use Rattle.line_streams.specs.Counting.{counts_for, still}
use Rattle.line_streams.proofs.CountLaws.{none_parted, parted_more, counted_more, lines_both}
use Rattle.line_streams.proofs.WriteLaws.{take_both}
use Rattle.peer_links.specs.Lines.{IsGivenFor}
use Rattle.peer_links.specs.Links.{IsFedAll, LinkGave, LinkEnds, MayFail, counted}
use Rattle.peer_links.specs.declared.lines.Piece.{Piece}
use Rattle.peer_links.specs.declared.link.LinkFault.{LinkFault}
use Rattle.peer_links.specs.declared.link.LinkFault.TheVariants.{ReadFailed, WriteFailed, TooManyLines, NoHello}
use Rattle.peer_links.specs.declared.link.LinkFault.TheVariants.{LaneClosed, OutOfMemory}
use Rattle.line_streams.specs.declared.limit.TheConstants.{LINE_LIMIT}

pub gave_none : (a : Option (List ℕ)) → (gave : LinkGave a a) × (0 ≡ counted gave) × (gave.input ≡ [])
gave_none a = (record { chunks = []; input = []; reads = Consumes-nil a; parted = none_parted }, refl, refl)

-- one more read
pub gave_more : (a b c : Option (List ℕ)) (gave : LinkGave a b) (old : ℕ) → old ≡ counted gave → (bytes : List ℕ)
    → 0 < length bytes → Consumes b c bytes
    → (new : LinkGave a c) × (counted new ≡ old + counts_for bytes) × (new.input ≡ gave.input ++ bytes)
    × (still new.chunks ≡ still gave.chunks + still (bytes ∷ []))
gave_more a b c gave old count bytes some read = (
  record {
    chunks = gave.chunks ++ bytes ∷ [];
    input = gave.input ++ bytes;
    reads = Consumes-trans a b c gave.input bytes gave.reads read;
    parted = parted_more gave.chunks gave.input bytes gave.parted some;
  },
  omega (arith, count, counted_more gave.chunks gave.input bytes),
  refl,
  omega (arith, counted_more gave.chunks gave.input bytes, lines_both gave.input bytes),
)

-- nothing more
pub gave_same : (a b c : Option (List ℕ)) (gave : LinkGave a b) → Consumes b c []
    → (new : LinkGave a c) × (counted new ≡ counted gave) × (new.input ≡ gave.input)
gave_same a b c gave read = (
  record {
    chunks = gave.chunks;
    input = gave.input;
    reads = subst (Consumes a c) (append-nil gave.input) (Consumes-trans a b c gave.input [] gave.reads read);
    parted = gave.parted;
  },
  refl,
  refl,
)

pub kept_none : (a b : Option (List ℕ)) → Keeps a b → Consumes a b []
kept_none a b h = Consumes-kept a a b [] (Consumes-nil a) h

-- why the lines of a block end their connection
pub ends_block : {a b : Option (List ℕ)} (gave : LinkGave a b) (fault : LinkFault) → MayFail fault
    → (fault ≡ TooManyLines → LINE_LIMIT ≤ counted gave) → LinkEnds gave (Err fault)
ends_block gave LaneClosed may many = tt
ends_block gave OutOfMemory may many = tt
ends_block gave TooManyLines may many = many refl
ends_block gave ReadFailed may many
    = elim may [ inl i ↦ elim i [ inl e ↦ absurd cc | inr e ↦ absurd cc ] | inr e ↦ absurd cc ]
ends_block gave WriteFailed may many
    = elim may [ inl i ↦ elim i [ inl e ↦ absurd cc | inr e ↦ absurd cc ] | inr e ↦ absurd cc ]
ends_block gave NoHello may many
    = elim may [ inl i ↦ elim i [ inl e ↦ absurd cc | inr e ↦ absurd cc ] | inr e ↦ absurd cc ]

-- ---- the pieces of one read

one_ended : {A : Type 0} (o : Option (Piece A)) (p : Piece A) (ended : List (List ℕ)) → o ≡ Some p → IsGivenFor o ended
    → length ended ≡ 1
one_ended {A} o p ended is h =
    let h' : IsGivenFor (Some p) ended = subst (λ (o : Option (Piece A)). IsGivenFor o ended) is h in
    ap length h'.2

pub none_ended : {A : Type 0} (o : Option (Piece A)) (ended : List (List ℕ)) → ((p : Piece A) → o ≡ Some p → ⊥)
    → IsGivenFor o ended → ended ≡ []
none_ended (Some p) ended other h = absurd (other p refl)
none_ended None ended other h = h

-- the bytes up to an offset were taken, and then the next ones
module _ (bytes rest : List ℕ) (at n : ℕ) (e : rest ≡ drop at bytes) where
  pub next_taken : take (at + n) bytes ≡ take at bytes ++ take n rest
  next_taken = take_both at n bytes ∙ ap (λ (l : List ℕ). take at bytes ++ take n l) (sym e)

  -- all of them, if no piece ended
  pub all_taken : {A : Type 0} (o : Option (Piece A)) → ((p : Piece A) → o ≡ Some p → ⊥) → IfNone o (n ≡ length rest)
      → at ≤ length bytes → take (at + n) bytes ≡ bytes
  all_taken (Some p) other all within = absurd (other p refl)
  all_taken None other all within
      = take_all (at + n) bytes (omega (arith, all, ap length e, length-drop at bytes, within))

  module _ (old mid : CutterView) (before : (stream : List ℕ) → IsFedAll old stream
      → IsFedAll mid (stream ++ take at bytes)) where
    pub fed_more : (new : CutterView) → ((stream : List ℕ) → IsFedAll mid stream → IsFedAll new (stream ++ take n rest))
        → (stream : List ℕ) → IsFedAll old stream
        → IsFedAll new (stream ++ take (at + n) bytes)
    fed_more new next stream h =
        subst (IsFedAll new) (append_assoc stream (take at bytes) (take n rest)
        ∙ ap (λ (l : List ℕ). stream ++ l) (sym next_taken)) (next (stream ++ take at bytes) (before stream h))

    pub fed_all : {A : Type 0} (o : Option (Piece A)) → ((p : Piece A) → o ≡ Some p → ⊥) → IfNone o (n ≡ length rest)
        → at ≤ length bytes
        → (new : CutterView) → ((stream : List ℕ) → IsFedAll mid stream → IsFedAll new (stream ++ take n rest))
        → (stream : List ℕ) → IsFedAll old stream → IsFedAll new (stream ++ bytes)
    fed_all o other all within new next stream h =
        subst (λ (l : List ℕ). IsFedAll new (stream ++ l)) (all_taken o other all within) (fed_more new next stream h)

    module _ {A : Type 0} (o : Option (Piece A)) (fed : (stream : List ℕ) × IsFedAll old stream)
        (given : (stream : List ℕ) → IsFedAll mid stream → (ended : List (List ℕ)) × IsGivenFor o ended
        × (pieces (stream ++ take n rest) ≡ pieces stream ++ ended)) where
      ended : (ended : List (List ℕ)) × IsGivenFor o ended
          × (length (pieces (take (at + n) bytes)) ≡ length (pieces (take at bytes)) + length ended)
      ended =
          let front : List ℕ = fed.0 ++ take at bytes in
          let g = given front (before fed.0 fed.1) in
          let both = ap length g.2 in
          let split = ap (λ (l : List ℕ). length (pieces l)) next_taken in (
            g.0,
            g.1,
            omega (
              arith,
              both,
              split,
              lines_both front (take n rest),
              lines_both (take at bytes) (take n rest),
              length-append (pieces front) g.0,
            ),
          )

      pub one_line : (p : Piece A) → o ≡ Some p
          → length (pieces (take (at + n) bytes)) ≡ length (pieces (take at bytes)) + 1
      one_line p is = omega (arith, ended.2, one_ended o p ended.0 is ended.1)

      pub no_line : ((p : Piece A) → o ≡ Some p → ⊥) → IfNone o (n ≡ length rest) → at ≤ length bytes
          → length (pieces bytes) ≡ length (pieces (take at bytes))
      no_line other all within =
          omega (
            arith,
            ended.2,
            ap length (none_ended o ended.0 other ended.1),
            ap (λ (l : List ℕ). length (pieces l)) (all_taken o other all within),
          )
