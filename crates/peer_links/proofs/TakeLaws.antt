-- The effect of the lines of a connection, one after another.
use Rattle.std.proofs.Common.{◌≡◌, ◌≢◌, ℕ, ◌+◌, ◌≤◌, Bool, List, [], ◌∷◌, ◌++◌, length, take, drop, Vec, Option, Some}
use Rattle.std.proofs.Common.{None, Result, Ok, Err, IfNone, refl, sym, ap, subst, ◌∙◌, arith, inl, inr}
use Rattle.std.proofs.Common.{append-nil, append_assoc, length-append}
use Rattle.std.specs.Prelude.{IsSome}
use Rattle.std.proofs.lemmas.List.{append_cancel_left, take-append-drop}
use Rattle.rights_types.specs.Messages.{QueryValue}
use Rattle.rights_types.specs.Messages.MessageValue.{AQuery}
use Rattle.rights_types.specs.declared.fault.OutOfMemory.{OutOfMemory as Want}
use Rattle.entry_codec.specs.Pieces.{pieces, pieces_after, unfinished}
use Rattle.memchr.specs.Find.{IsFirstByte, is_byte}
use Rattle.entry_codec.proofs.Pieces.{pieces_append, rest_append, one_piece}
use Rattle.entry_codec.specs.Cutter.{CutterView}
use Rattle.line_streams.proofs.CountLaws.{lines_both}
use Rattle.link_intake.specs.Intakes.{IntakeValue}
use Rattle.peer_links.specs.Links.{IsFedAll, IsOfIntake}
use Rattle.peer_links.specs.Ports.{Heard}
use Rattle.peer_links.specs.Turns.{InTurn}
use Rattle.peer_links.proofs.LineLaws.{found_end}
use Rattle.peer_links.proofs.ReadLaws.{next_taken, all_taken, none_ended}
use Rattle.peer_links.proofs.TurnLaws.{turn_one, turns_both}
use Rattle.link_intake.specs.declared.desk_message.DeskMessage.{DeskMessage}
use Rattle.entry_codec.specs.Spelling.{Spells}
use Rattle.inbound.specs.Inbounds.{IsWritten}
use Rattle.std.specs.Borrow.{Bor}
use Rattle.rights_types.specs.declared.limits.TheConstants.{MAX_LINE}
use Rattle.sub_buffer.specs.Gaps.{GapOf, StateOf}
use Rattle.sub_buffer.specs.declared.buffer.State.{State}
use Rattle.peer_links.specs.Lines.{IsPiece, IsGivenFor}
use Rattle.peer_links.specs.declared.lines.Piece.{Piece}
use Rattle.peer_links.specs.declared.lines.Piece.TheVariants.{Borrowed, Owned, Long}
use Rattle.peer_links.specs.Ports.Heard.{AMessage, ALine, AState}
use Rattle.peer_links.specs.Takes.{HearsMessage, HearsQuery, as_fault, AsksGap, HandsOver, TakesLine, TakesOrSkips}
use Rattle.peer_links.specs.Takes.{pieces_behind, TakesPiece, Takes, Breaks, Stops, TakesTo}
use Rattle.peer_links.specs.declared.link.LinkFault.{LinkFault}
use Rattle.peer_links.specs.declared.link.LinkFault.TheVariants.{ReadFailed, WriteFailed, TooManyLines, NoHello}
use Rattle.peer_links.specs.declared.link.LinkFault.TheVariants.{LaneClosed, OutOfMemory}

-- ---- the pieces after a stream

pub behind_none : (stream : List ℕ) → pieces_behind stream [] ≡ []
behind_none stream = refl

pub behind_both : (stream a b : List ℕ)
    → pieces_behind stream (a ++ b) ≡ pieces_behind stream a ++ pieces_behind (stream ++ a) b
behind_both stream a b =
    pieces_append (unfinished stream) a b
    ∙ ap (λ (front : List ℕ). pieces_behind stream a ++ pieces_after front b) (sym (rest_append [] stream a))

-- the pieces that were returned are these
pub behind_given : (stream bytes : List ℕ) (given : List (List ℕ)) → pieces (stream ++ bytes) ≡ pieces stream ++ given
    → pieces_behind stream bytes ≡ given
behind_given stream bytes given h = append_cancel_left (pieces stream) _ _ (sym (pieces_append [] stream bytes) ∙ h)

-- as many as end in the bytes alone
pub behind_count : (stream bytes : List ℕ) → length (pieces_behind stream bytes) ≡ length (pieces bytes)
behind_count stream bytes =
    omega (
      arith,
      ap length (pieces_append [] stream bytes),
      length-append (pieces stream) (pieces_behind stream bytes),
      lines_both stream bytes,
    )

-- ---- what a port receives

-- the query, and its line
heard_line : {X : Type 0} (q : Option QueryValue) (query : QueryValue) (line : Vec ℕ X)
    → IsWritten (λ (l : Vec ℕ X). l.items) q (Some (query, line))
    → Spells (AQuery query) line.items × HearsQuery q (Ok tt) (ALine line.items ∷ [])
heard_line (Some q) query line h
    = (subst (λ (x : QueryValue). Spells (AQuery x) line.items) (sym h.0) h.1, (line.items, h.1, refl))
heard_line None query line h = absurd h

pub query_heard : {X : Type 0} (q : Option QueryValue) (o : Option (QueryValue × Vec ℕ X)) (query : QueryValue)
    (line : Vec ℕ X) → o ≡ Some (query, line) → IsWritten (λ (l : Vec ℕ X). l.items) q o
    → Spells (AQuery query) line.items × HearsQuery q (Ok tt) (ALine line.items ∷ [])
query_heard {X} q o query line is h
    = heard_line q query line (subst (IsWritten (λ (l : Vec ℕ X). l.items) q) is h)

-- there is no memory for it
pub query_lacks : (q : Option QueryValue) (asked : Result (Unit {0}) Want) (e : Want) → asked ≡ Err e → IsSome q
    → HearsQuery q asked []
query_lacks q (Ok x) e same h = absurd cc
query_lacks None (Err e) f same h = absurd cc
query_lacks (Some q) (Err e) f same h = refl

module _ {A S : Type 0} (hears : S → Heard → S → Type 0) (old : S) where
  -- there is no memory for the message
  pub hands_lacks : (i : IntakeValue A) (m : Option DeskMessage) (again : Bool) (e : Want) (new : S)
      → HearsMessage hears old m (Err e) new → (heard : List Heard) × HandsOver i m again (Err OutOfMemory) heard i
      × InTurn hears old heard new
  hands_lacks i None again e new h = absurd cc h.0
  hands_lacks i (Some m) again e new h
      = (AMessage m (Err e) ∷ [], (Err e, [], refl, (refl, refl, refl)), (new, h, refl))

  -- then the gap is queried
  pub hands_on : (i after : IntakeValue A) (m : Option DeskMessage) (again known : Bool) (u : Unit {0}) (mid new : S)
      (asked : Result (Unit {0}) Want)
      → HearsMessage hears old m (Ok u) mid → known ≡ again
      → (heard : List Heard) × AsksGap i known asked heard after × InTurn hears mid heard new
      → (heard : List Heard) × HandsOver i m again (as_fault asked) heard after × InTurn hears old heard new
  hands_on i after None again known u mid new asked h same k = (
    k.0,
    (asked, subst (λ (b : Bool). AsksGap i b asked k.0 after) same k.1, refl),
    subst (λ (s : S). InTurn hears s k.0 new) h.1 k.2,
  )
  hands_on i after (Some m) again known u mid new asked h same k = (
    AMessage m (Ok u) ∷ k.0,
    (Ok u, k.0, refl, (asked, subst (λ (b : Bool). AsksGap i b asked k.0 after) same k.1, refl)),
    (mid, h, k.2),
  )

  -- a piece is skipped
  pub skipped : (i : IntakeValue A) {X : Type 0} (piece : Piece X) (text : List ℕ) → piece ≡ Long → IsPiece piece text
      → (told : List Heard) × TakesOrSkips i text (Ok tt) told i × InTurn hears old told old
  skipped i {X} piece text is h = ([], inr (subst (λ (p : Piece X). IsPiece p text) is h, refl, refl, refl), refl)

  -- a piece is taken as a line
  pub as_line : (i after : IntakeValue A) (line text : List ℕ) (result : Result (Unit {0}) LinkFault) (new : S)
      → (line ≡ text) × (length text ≤ MAX_LINE)
      → (told : List Heard) × TakesLine i line result told after × InTurn hears old told new
      → (told : List Heard) × TakesOrSkips i text result told after × InTurn hears old told new
  as_line i after line text result new is h =
      (h.0, inl (is.1, subst (λ (t : List ℕ). TakesLine i t result h.0 after) is.0 h.1), h.2)

  -- and the state of the intake is reported
  pub shown : (i after : IntakeValue A) (text : List ℕ) (result : Result (Unit {0}) LinkFault) (mid new : S)
      (state : State) (held : ℕ)
      → (told : List Heard) × TakesOrSkips i text result told after × InTurn hears old told mid
      → (gap : Option QueryValue) × GapOf after.inbound.buffer gap × StateOf gap state
      → held ≡ length after.inbound.buffer.held → hears mid (AState state held) new
      → (heard : List Heard) × TakesPiece i text result heard after × InTurn hears old heard new
  shown i after text result mid new state held h gap is k =
      let last : Heard = AState state held in (
        h.0 ++ last ∷ [],
        record {
          told = h.0;
          shown = last;
          takes = h.1;
          shows = (gap.0, state, gap.1, gap.2, ap (AState state) is);
          whole = refl;
        },
        turns_both hears old mid new h.0 (last ∷ []) h.2 (turn_one hears mid last new k),
      )

pub is_borrowed : {X : Type 0} (piece : Piece X) (line : Bor (List ℕ)) (text : List ℕ) → piece ≡ Borrowed line
    → IsPiece piece text → (line.now ≡ text) × (length text ≤ MAX_LINE)
is_borrowed {X} piece line text is h = subst (λ (p : Piece X). IsPiece p text) is h

pub is_owned : {X : Type 0} (piece : Piece X) (line : Vec ℕ X) (text : List ℕ) → piece ≡ Owned line → IsPiece piece text
    → (line.items ≡ text) × (length text ≤ MAX_LINE)
is_owned {X} piece line text is h = subst (λ (p : Piece X). IsPiece p text) is h

-- ---- what an intake takes

module _ {A : Type 0} where
  pub takes_both : (old mid new : IntakeValue A) (a b : List (List ℕ)) (h k : List Heard)
      → Takes old a h mid → Takes mid b k new → Takes old (a ++ b) (h ++ k) new
  takes_both old mid new [] b h k x y =
      subst (λ (l : List Heard). Takes old b (l ++ k) new) (sym x.0)
      (subst (λ (i : IntakeValue A). Takes i b k new) x.1 y)
  takes_both old mid new (piece ∷ a) b h k x y = (
    x.0,
    x.1,
    x.2 ++ k,
    x.3,
    takes_both x.0 mid new a b x.2 k x.4 y,
    ap (λ (l : List Heard). l ++ k) x.5
        ∙ append_assoc x.1 x.2 k,
  )

  pub takes_one : (old new : IntakeValue A) (piece : List ℕ) (heard : List Heard)
      → TakesPiece old piece (Ok tt) heard new → Takes old (piece ∷ []) heard new
  takes_one old new piece heard h = (new, heard, [], h, (refl, refl), sym (append-nil heard))

  pub breaks_one : (old mid new : IntakeValue A) (front : List (List ℕ)) (last : List ℕ) (fault : LinkFault)
      (h k : List Heard)
      → Takes old front h mid → TakesPiece mid last (Err fault) k new
      → Breaks old (front ++ last ∷ []) fault (h ++ k) new
  breaks_one old mid new front last fault h k x y =
      record {
        front = front;
        last = last;
        cut = refl;
        mid = mid;
        first = h;
        rest = k;
        takes = x;
        breaks = y;
        whole = refl;
      }

  pub breaks_after : (old mid new : IntakeValue A) (a b : List (List ℕ)) (fault : LinkFault) (h k : List Heard)
      → Takes old a h mid → Breaks mid b fault k new → Breaks old (a ++ b) fault (h ++ k) new
  breaks_after old mid new a b fault h k x y = record {
    front = a ++ y.front;
    last = y.last;
    cut = ap (λ (l : List (List ℕ)). a ++ l) y.cut ∙ sym (append_assoc a y.front (y.last ∷ []));
    mid = y.mid;
    first = h ++ y.first;
    rest = y.rest;
    takes = takes_both old mid y.mid a y.front h y.first x y.takes;
    breaks = y.breaks;
    whole = ap (λ (l : List Heard). h ++ l) y.whole ∙ sym (append_assoc h y.first y.rest);
  }

  -- a piece that fails ends it
  pub stops_one : (n : ℕ) (old new : IntakeValue A) (pieces rest : List (List ℕ)) (fault : LinkFault)
      (heard : List Heard)
      → IsOfIntake fault → Breaks old pieces fault heard new → Stops n old pieces rest fault heard new
  stops_one n old new pieces rest LaneClosed heard may h = h
  stops_one n old new pieces rest OutOfMemory heard may h = inr h
  stops_one n old new pieces rest TooManyLines heard may h = elim may [ inl e ↦ absurd cc | inr e ↦ absurd cc ]
  stops_one n old new pieces rest ReadFailed heard may h = elim may [ inl e ↦ absurd cc | inr e ↦ absurd cc ]
  stops_one n old new pieces rest WriteFailed heard may h = elim may [ inl e ↦ absurd cc | inr e ↦ absurd cc ]
  stops_one n old new pieces rest NoHello heard may h = elim may [ inl e ↦ absurd cc | inr e ↦ absurd cc ]

  stops_after : (n j : ℕ) (old mid new : IntakeValue A) (a b rest : List (List ℕ)) (fault : LinkFault)
      (h k : List Heard)
      → j ≡ n + length a → Takes old a h mid → Stops j mid b rest fault k new
      → Stops n old (a ++ b) rest fault (h ++ k) new
  stops_after n j old mid new a b rest LaneClosed h k e x y = breaks_after old mid new a b LaneClosed h k x y
  stops_after n j old mid new a b rest OutOfMemory h k e x y = elim y [
    | inl y ↦ inl (takes_both old mid new a b h k x y.0, y.1)
    | inr y ↦ inr (breaks_after old mid new a b OutOfMemory h k x y)
  ]
  stops_after n j old mid new a b rest TooManyLines h k e x y
      = (takes_both old mid new a b h k x y.0, omega (arith, e, y.1, length-append a b))
  stops_after n j old mid new a b rest ReadFailed h k e x y = absurd y
  stops_after n j old mid new a b rest WriteFailed h k e x y = absurd y
  stops_after n j old mid new a b rest NoHello h k e x y = absurd y

  -- a prefix of these was taken before the fault
  pub to_stop : (n : ℕ) (old new : IntakeValue A) (front rest all : List (List ℕ)) (fault : LinkFault)
      (heard : List Heard)
      → all ≡ front ++ rest → Stops n old front rest fault heard new → TakesTo n old all (Err fault) heard new
  to_stop n old new front rest all LaneClosed heard e h = (front, rest, sym e, h)
  to_stop n old new front rest all OutOfMemory heard e h = (front, rest, sym e, h)
  to_stop n old new front rest all TooManyLines heard e h = (front, rest, sym e, h)
  to_stop n old new front rest all ReadFailed heard e h = absurd h
  to_stop n old new front rest all WriteFailed heard e h = absurd h
  to_stop n old new front rest all NoHello heard e h = absurd h

  -- this number more
  pub to_after : (n j : ℕ) (old mid new : IntakeValue A) (a b : List (List ℕ)) (result : Result (Unit {0}) LinkFault)
      (h k : List Heard)
      → j ≡ n + length a → Takes old a h mid → TakesTo j mid b result k new → TakesTo n old (a ++ b) result (h ++ k) new
  to_after n j old mid new a b (Ok u) h k e x y = takes_both old mid new a b h k x y
  to_after n j old mid new a b (Err ReadFailed) h k e x y = takes_both old mid new a b h k x y
  to_after n j old mid new a b (Err LaneClosed) h k e x y = (
    a ++ y.0,
    y.1,
    append_assoc a y.0 y.1
        ∙ ap (λ (l : List (List ℕ)). a ++ l) y.2,
    stops_after n j old mid new a y.0 y.1 LaneClosed h k e x y.3,
  )
  to_after n j old mid new a b (Err OutOfMemory) h k e x y = (
    a ++ y.0,
    y.1,
    append_assoc a y.0 y.1
        ∙ ap (λ (l : List (List ℕ)). a ++ l) y.2,
    stops_after n j old mid new a y.0 y.1 OutOfMemory h k e x y.3,
  )
  to_after n j old mid new a b (Err TooManyLines) h k e x y = (
    a ++ y.0,
    y.1,
    append_assoc a y.0 y.1
        ∙ ap (λ (l : List (List ℕ)). a ++ l) y.2,
    stops_after n j old mid new a y.0 y.1 TooManyLines h k e x y.3,
  )
  to_after n j old mid new a b (Err WriteFailed) h k e x y = (
    a ++ y.0,
    y.1,
    append_assoc a y.0 y.1
        ∙ ap (λ (l : List (List ℕ)). a ++ l) y.2,
    stops_after n j old mid new a y.0 y.1 WriteFailed h k e x y.3,
  )
  to_after n j old mid new a b (Err NoHello) h k e x y = (
    a ++ y.0,
    y.1,
    append_assoc a y.0 y.1
        ∙ ap (λ (l : List (List ℕ)). a ++ l) y.2,
    stops_after n j old mid new a y.0 y.1 NoHello h k e x y.3,
  )

-- ---- the effect of both

module _ {A S : Type 0}
    (hears : S → Heard → S → Type 0) (old i new : IntakeValue A) (first mid last : S) (front : List (List ℕ))
    (before : (heard : List Heard) × Takes old front heard i × InTurn hears first heard mid) where
  -- one more piece
  pub more_taken : (text : List ℕ) (u : Unit {0})
      → (heard : List Heard) × TakesPiece i text (Ok u) heard new × InTurn hears mid heard last
      → (heard : List Heard) × Takes old (front ++ text ∷ []) heard new × InTurn hears first heard last
  more_taken text u h = (
    before.0 ++ h.0,
    takes_both old i new front (text ∷ []) before.0 h.0 before.1 (takes_one i new text h.0 h.1),
    turns_both hears first mid last before.0 h.0 before.2 h.2,
  )

  -- one that fails
  pub one_breaks : (n : ℕ) (text : List ℕ) (rest all : List (List ℕ)) (fault : LinkFault)
      → IsOfIntake fault → all ≡ (front ++ text ∷ []) ++ rest
      → (heard : List Heard) × TakesPiece i text (Err fault) heard new × InTurn hears mid heard last
      → (heard : List Heard) × TakesTo n old all (Err fault) heard new × InTurn hears first heard last
  one_breaks n text rest all fault may cut h =
      let breaks = breaks_one old i new front text fault before.0 h.0 before.1 h.1 in (
        before.0 ++ h.0,
        to_stop n old new _ rest all fault _ cut (stops_one n old new _ rest fault _ may breaks),
        turns_both hears first mid last before.0 h.0 before.2 h.2,
      )

  -- one more block
  pub block_taken : (n j : ℕ) (more all : List (List ℕ)) (result : Result (Unit {0}) LinkFault) → j ≡ n + length front
      → all ≡ front ++ more
      → (heard : List Heard) × TakesTo j i more result heard new × InTurn hears mid heard last
      → (heard : List Heard) × TakesTo n old all result heard new × InTurn hears first heard last
  block_taken n j more all result e is h = (
    before.0 ++ h.0,
    subst (λ (l : List (List ℕ)). TakesTo n old l result (before.0 ++ h.0) new) (sym is)
        (to_after n j old i new front more result before.0 h.0 e before.1 h.1),
    turns_both hears first mid last before.0 h.0 before.2 h.2,
  )

-- ---- the pieces of one read

-- a prefix of its bytes ends a prefix of its pieces
pub front_behind : (stream bytes : List ℕ) (at : ℕ)
    → pieces_behind stream bytes ≡ pieces_behind stream (take at bytes) ++ pieces_behind (stream ++ take at bytes)
    (drop at bytes)
front_behind stream bytes at =
    ap (pieces_behind stream) (sym (take-append-drop at bytes)) ∙ behind_both stream (take at bytes) (drop at bytes)

-- a line feed in these bytes ends a piece
pub ends_piece : (stream bytes : List ℕ) (n : ℕ) → IsFirstByte (is_byte 10) bytes (Some n)
    → pieces_behind stream bytes ≢ []
ends_piece stream bytes n found none =
    let end = found_end bytes n found in
    let one = one_piece (unfinished stream) (take n bytes) end.1 in
    let front : pieces_behind stream (take (n + 1) bytes) ≡ ((unfinished stream ++ take n bytes) ++ 10 ∷ []) ∷ []
    = ap (pieces_behind stream) end.2 ∙ one.0 in
    let whole = sym none ∙ front_behind stream bytes (n + 1) in
    omega (
      arith,
      ap length whole,
      length-append (pieces_behind stream (take (n + 1) bytes))
          (pieces_behind (stream ++ take (n + 1) bytes) (drop (n + 1) bytes)),
      ap length front,
    )

-- the bytes up to an offset were taken, and then the next ones
module _ (bytes rest : List ℕ) (at n : ℕ) (e : rest ≡ drop at bytes) (old mid : CutterView) (before : (stream : List ℕ)
    → IsFedAll old stream → IsFedAll mid (stream ++ take at bytes))
    {X : Type 0} (o : Option (Piece X)) (stream : List ℕ) (h : IsFedAll old stream)
    (given : (stream : List ℕ) → IsFedAll mid stream → (ended : List (List ℕ)) × IsGivenFor o ended
    × (pieces (stream ++ take n rest) ≡ pieces stream ++ ended)) where
  behind_next : (ended : List (List ℕ)) × IsGivenFor o ended
      × (pieces_behind stream (take (at + n) bytes) ≡ pieces_behind stream (take at bytes) ++ ended)
  behind_next =
      let g = given (stream ++ take at bytes) (before stream h) in (
        g.0,
        g.1,
        ap (pieces_behind stream) (next_taken bytes rest at n e) ∙ behind_both stream (take at bytes) (take n rest)
            ∙ ap (λ (l : List (List ℕ)). pieces_behind stream (take at bytes) ++ l)
            (behind_given (stream ++ take at bytes) (take n rest) g.0 g.2),
      )

  -- a piece ended, and others follow it
  pub next_text : (p : Piece X) → o ≡ Some p
      → (text : List ℕ) × IsPiece p text
      × (pieces_behind stream (take (at + n) bytes) ≡ pieces_behind stream (take at bytes) ++ text ∷ [])
      × (pieces_behind stream bytes ≡ (pieces_behind stream (take at bytes) ++ text ∷ [])
      ++ pieces_behind (stream ++ take (at + n) bytes) (drop (at + n) bytes))
  next_text p is =
      let one : IsGivenFor (Some p) behind_next.0
      = subst (λ (o : Option (Piece X)). IsGivenFor o behind_next.0) is behind_next.1 in
      let here = behind_next.2 ∙ ap (λ (l : List (List ℕ)). pieces_behind stream (take at bytes) ++ l) one.2 in (
        one.0,
        one.1,
        here,
        front_behind stream bytes (at + n)
            ∙ ap (λ (l : List (List ℕ)). l ++ pieces_behind (stream ++ take (at + n) bytes) (drop (at + n) bytes)) here,
      )

  pub next_none : ((p : Piece X) → o ≡ Some p → ⊥) → IfNone o (n ≡ length rest) → at ≤ length bytes
      → pieces_behind stream (take at bytes) ≡ pieces_behind stream bytes
  next_none other all within =
      sym (append-nil _) ∙ ap (λ (l : List (List ℕ)). pieces_behind stream (take at bytes) ++ l)
      (sym (none_ended o behind_next.0 other behind_next.1))
      ∙ sym behind_next.2 ∙ ap (pieces_behind stream) (all_taken bytes rest at n e o other all within)
