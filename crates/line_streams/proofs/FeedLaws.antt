-- What taking bytes does to a conversation.
use Rattle.std.proofs.Common.{◌≡◌, ℕ, ◌+◌, ◌-◌, ◌<◌, ◌≤◌, List, [], ◌∷◌, ◌++◌, length, length-drop, take, drop, ap, ◌∙◌}
use Rattle.std.proofs.Common.{sym, subst, arith, Option, Some, append-nil, append_assoc, take-append-drop}
use Rattle.std.specs.Io.KnownBytes.{Appends}
use Rattle.std.proofs.KnownBytes.{Appends-trans}
use Rattle.std.proofs.lemmas.List.{take_rest}
use Rattle.memchr.specs.Find.{IsFirstByte, is_byte}
use Rattle.rights_types.specs.declared.limits.TheConstants.{MAX_LINE}
use Rattle.entry_codec.specs.Pieces.{pieces, unfinished, pieces_after}
use Rattle.entry_codec.proofs.Pieces.{pieces_append, rest_append, HasNoEnd, no_piece, one_piece}
use Rattle.line_streams.specs.Waiting.{Waiting}
use Rattle.line_streams.specs.Handling.{Answering, LinesGet, LineGets}
use Rattle.line_streams.specs.Going.{Talked, Going, Stopped, Closed}
use Rattle.line_streams.specs.declared.handler.Goes.TheVariants.{On, Ends}
use Rattle.line_streams.proofs.CarryLaws.{carry_more}
use Rattle.line_streams.proofs.LineLaws.{lines_append, lines_one}
use Rattle.line_streams.proofs.CutLaws.{cut_found, cut_none}

-- what is left after a proper prefix
pub more_left : (n : ℕ) (xs : List ℕ) → n < length xs → 0 < length (drop n xs)
more_left n xs short = simp length-drop (omega (arith, short))

module _ {S : Type 0} (answers : Answering S) (start : S) (input : List ℕ) (state : S) (held now : Option (List ℕ))
    (waits : Waiting) (carry : List ℕ) (h : Going answers start input state held now waits carry) where
  -- the lines of the input, once the current line has ended
  line_ended : (text : List ℕ) → HasNoEnd text
      → pieces (input ++ (text ++ 10 ∷ [])) ≡ pieces input ++ ((unfinished input ++ text) ++ 10 ∷ []) ∷ []
  line_ended text none = pieces_append [] input (text ++ 10 ∷ [])
      ∙ ap (λ (l : List (List ℕ)). pieces input ++ l) ((one_piece (unfinished input) text none).0)

  -- a line was replied to
  pub going_line : (text : List ℕ) (new : S) (waits' : Waiting) (carry' : List ℕ) → HasNoEnd text
      → LineGets answers On state ((unfinished input ++ text) ++ 10 ∷ []) new waits waits' → carry' ≡ []
      → Going answers start (input ++ (text ++ 10 ∷ [])) new held now waits' carry'
  going_line text new waits' carry' none ends empty =
      let line : List ℕ = (unfinished input ++ text) ++ 10 ∷ [] in
      let reply : List ℕ = ends.0 ++ 10 ∷ [] in
      let rest : unfinished (input ++ (text ++ 10 ∷ [])) ≡ [] = rest_append [] input (text ++ 10 ∷ [])
      ∙ (one_piece (unfinished input) text none).1 in
      let answered = lines_append answers start state new (pieces input)
      (line ∷ []) h.talked.replies reply h.talked.answered (lines_one answers state new line ends.0 ends.1) in
      record {
        talked = record {
          replies = h.talked.replies ++ reply;
          written = h.talked.written;
          answered = subst (λ (l : List (List ℕ)). LinesGet answers start l (h.talked.replies ++ reply) new)
              (sym (line_ended text none)) answered;
          writes = h.talked.writes;
          rest = ap (λ (l : List ℕ). l ++ reply) h.talked.rest ∙ append_assoc h.talked.written waits.whole reply
              ∙ ap (λ (l : List ℕ). h.talked.written ++ l) (sym ends.2.whole);
        };
        ready = ends.2.part;
        carried = empty ∙ sym (ap (take MAX_LINE) rest);
      }

  -- a line ended the conversation
  pub closed_line : (text more : List ℕ) (new : S) (waits' : Waiting) → HasNoEnd text
      → LineGets answers Ends state ((unfinished input ++ text) ++ 10 ∷ []) new waits waits'
      → Closed answers start (pieces ((input ++ (text ++ 10 ∷ [])) ++ more)) new held now waits'.whole
  closed_line text more new waits' none ends = record {
    lines = pieces input;
    state = state;
    talked = subst (Talked answers start (pieces input) state held now) (sym ends.1) h.talked;
    ended = record {
      line = (unfinished input ++ text) ++ 10 ∷ [];
      next = (
        pieces_after (unfinished (input ++ (text ++ 10 ∷ []))) more,
        pieces_append [] (input ++ (text ++ 10 ∷ [])) more
            ∙ ap (λ (l : List (List ℕ)). l ++ pieces_after (unfinished (input ++ (text ++ 10 ∷ []))) more)
            (line_ended text none),
      );
      ends = ends.0;
    };
  }

  -- no line ended
  pub going_none : (text carry' : List ℕ) → HasNoEnd text → carry' ≡ take MAX_LINE (carry ++ text)
      → Going answers start (input ++ text) state held now waits carry'
  going_none text carry' none more =
      let p = no_piece (unfinished input) text none in
      let lines : pieces (input ++ text) ≡ pieces input = pieces_append [] input text
      ∙ ap (λ (l : List (List ℕ)). pieces input ++ l) p.0 ∙ append-nil (pieces input) in
      let rest : unfinished (input ++ text) ≡ unfinished input ++ text = rest_append [] input text ∙ p.1 in
      record {
        talked = subst (λ (l : List (List ℕ)). Talked answers start l state held now waits.whole) (sym lines) h.talked;
        ready = h.ready;
        carried = more ∙ ap (λ (l : List ℕ). take MAX_LINE (l ++ text)) h.carried
            ∙ carry_more MAX_LINE (unfinished input) text ∙ ap (take MAX_LINE) (sym rest);
      }

  -- some of what waited was written
  pub going_written : (after : Option (List ℕ)) (waits' : Waiting) (text : List ℕ) → Appends now after text
      → waits.whole ≡ text ++ waits'.whole → waits'.part ≡ [] → Going answers start input state held after waits' carry
  going_written after waits' text writes e ready = record {
    talked = record {
      replies = h.talked.replies;
      written = h.talked.written ++ text;
      answered = h.talked.answered;
      writes = Appends-trans held now after h.talked.written text h.talked.writes writes;
      rest = h.talked.rest ∙ ap (λ (l : List ℕ). h.talked.written ++ l) e
          ∙ sym (append_assoc h.talked.written text waits'.whole);
    };
    ready = ready;
    carried = h.carried;
  }

  -- a stop before what came after
  pub stopped_here : (leaves : S → Type 0) → leaves state → (more whole : List ℕ) → whole ≡ waits.whole
      → Stopped answers start (pieces (input ++ more)) leaves held now whole
  stopped_here leaves left more whole e = record {
    lines = pieces input;
    state = state;
    front = (pieces_after (unfinished input) more, pieces_append [] input more);
    talked = subst (Talked answers start (pieces input) state held now) (sym e) h.talked;
    left = left;
  }

  -- some of what waited was written, if a write failed
  pub talked_front : (after : Option (List ℕ)) (n : ℕ) → Appends now after (take n waits.whole)
      → Talked answers start (pieces input) state held after (drop n waits.whole)
  talked_front after n writes = record {
    replies = h.talked.replies;
    written = h.talked.written ++ take n waits.whole;
    answered = h.talked.answered;
    writes = Appends-trans held now after h.talked.written (take n waits.whole) h.talked.writes writes;
    rest = h.talked.rest ∙ ap (λ (l : List ℕ). h.talked.written ++ l) (sym (take-append-drop n waits.whole))
        ∙ sym (append_assoc h.talked.written (take n waits.whole) (drop n waits.whole));
  }

  -- a stop at a failed write
  pub stopped_write : (leaves : S → Type 0) → leaves state → (more : List ℕ) (after : Option (List ℕ)) (n : ℕ)
      → n < length waits.whole → Appends now after (take n waits.whole)
      → (rest : List ℕ) × (0 < length rest) × Stopped answers start (pieces (input ++ more)) leaves held after rest
  stopped_write leaves left more after n short writes = (
    drop n waits.whole,
    more_left n waits.whole short,
    record {
      lines = pieces input;
      state = state;
      front = (pieces_after (unfinished input) more, pieces_append [] input more);
      talked = talked_front after n writes;
      left = left;
    },
  )

-- some of these bytes are taken
module _ {S : Type 0} (answers : Answering S) (start : S) (input bytes : List ℕ) (at : ℕ) (state : S)
    (held now : Option (List ℕ)) (waits : Waiting) (carry : List ℕ)
    (h : Going answers start (input ++ take at bytes) state held now waits carry) where
  all_bytes : input ++ bytes ≡ (input ++ take at bytes) ++ drop at bytes
  all_bytes = sym (append_assoc input (take at bytes) (drop at bytes)
      ∙ ap (λ (l : List ℕ). input ++ l) (take-append-drop at bytes))

  line_bytes : (n : ℕ) → take (at + (n + 1)) bytes ≡ take at bytes ++ (take n (drop at bytes) ++ 10 ∷ [])
      → (input ++ take at bytes) ++ (take n (drop at bytes) ++ 10 ∷ []) ≡ input ++ take (at + (n + 1)) bytes
  line_bytes n cut = append_assoc input (take at bytes) (take n (drop at bytes) ++ 10 ∷ [])
      ∙ ap (λ (l : List ℕ). input ++ l) (sym cut)

  pub going_next : (n : ℕ) (new : S) (waits' : Waiting) (carry' : List ℕ) → at ≤ length bytes
      → IsFirstByte (is_byte 10) (take (length bytes - at) (drop at bytes)) (Some n)
      → ((front : List ℕ) → carry ≡ take MAX_LINE front
      → LineGets answers On state ((front ++ take ((at + n) - at) (drop at bytes)) ++ 10 ∷ []) new waits waits')
      → carry' ≡ []
      → Going answers start (input ++ take (at + (n + 1)) bytes) new held now waits' carry'
  going_next n new waits' carry' within found ends empty =
      let front : List ℕ = unfinished (input ++ take at bytes) in
      let cut = cut_found bytes at n within found in
      let same : (at + n) - at ≡ n = omega arith in
      let line = subst (λ (k : ℕ). LineGets answers On state ((front ++ take k (drop at bytes)) ++ 10 ∷ []) new waits
      waits') same (ends front h.carried) in
      let next = going_line answers start (input ++ take at bytes) state held now waits carry h
      (take n (drop at bytes)) new waits' carry' cut.1 line empty in
      subst (λ (l : List ℕ). Going answers start l new held now waits' carry') (line_bytes n cut.2) next

  pub closed_next : (n : ℕ) (new : S) (waits' : Waiting) → at ≤ length bytes
      → IsFirstByte (is_byte 10) (take (length bytes - at) (drop at bytes)) (Some n)
      → ((front : List ℕ) → carry ≡ take MAX_LINE front
      → LineGets answers Ends state ((front ++ take ((at + n) - at) (drop at bytes)) ++ 10 ∷ []) new waits waits')
      → Closed answers start (pieces (input ++ bytes)) new held now waits'.whole
  closed_next n new waits' within found ends =
      let front : List ℕ = unfinished (input ++ take at bytes) in
      let cut = cut_found bytes at n within found in
      let same : (at + n) - at ≡ n = omega arith in
      let line = subst (λ (k : ℕ). LineGets answers Ends state ((front ++ take k (drop at bytes)) ++ 10 ∷ []) new waits
      waits') same (ends front h.carried) in
      let rest : List ℕ = drop (at + (n + 1)) bytes in
      let closed = closed_line answers start (input ++ take at bytes) state held now waits carry h
      (take n (drop at bytes)) rest new waits' cut.1 line in
      let whole : ((input ++ take at bytes) ++ (take n (drop at bytes) ++ 10 ∷ [])) ++ rest ≡ input ++ bytes =
      ap (λ (l : List ℕ). l ++ rest) (line_bytes n cut.2) ∙ append_assoc input (take (at + (n + 1)) bytes) rest
      ∙ ap (λ (l : List ℕ). input ++ l) (take-append-drop (at + (n + 1)) bytes) in
      subst (λ (l : List ℕ). Closed answers start (pieces l) new held now waits'.whole) whole closed

  pub going_end : (r : Option ℕ) (carry' : List ℕ) → ((n : ℕ) → r ≡ Some n → ⊥)
      → IsFirstByte (is_byte 10) (take (length bytes - at) (drop at bytes)) r
      → carry' ≡ take MAX_LINE (carry ++ take (length bytes - at) (drop at bytes))
      → Going answers start (input ++ bytes) state held now waits carry'
  going_end r carry' other found more =
      subst (λ (l : List ℕ). Going answers start l state held now waits carry') (sym all_bytes)
      (going_none answers start (input ++ take at bytes) state held now waits carry h (drop at bytes) carry'
      (cut_none bytes at r other found) (rw take_rest at more))

  pub stopped_in : (leaves : S → Type 0) → leaves state → (whole : List ℕ) → whole ≡ waits.whole
      → Stopped answers start (pieces (input ++ bytes)) leaves held now whole
  stopped_in leaves left whole e =
      subst (λ (l : List ℕ). Stopped answers start (pieces l) leaves held now whole) (sym all_bytes)
      (stopped_here answers start (input ++ take at bytes) state held now waits carry h leaves left
      (drop at bytes) whole e)

  pub stopped_in_write : (leaves : S → Type 0) → leaves state → (after : Option (List ℕ)) (n : ℕ)
      → n < length waits.whole → Appends now after (take n waits.whole)
      → (rest : List ℕ) × (0 < length rest) × Stopped answers start (pieces (input ++ bytes)) leaves held after rest
  stopped_in_write leaves left after n short writes =
      let stop = stopped_write answers start (input ++ take at bytes) state held now waits carry h leaves left
      (drop at bytes) after n short writes in (
        stop.0,
        stop.1,
        subst (λ (l : List ℕ). Stopped answers start (pieces l) leaves held after stop.0)
            (sym all_bytes) stop.2,
      )
