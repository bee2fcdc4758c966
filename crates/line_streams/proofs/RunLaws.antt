-- The result of reading to the end, and the last write.
use Rattle.std.proofs.Common.{◌≡◌, ℕ, ◌+◌, ◌<◌, ◌≤◌, ◌⊎◌, inl, inr, List, [], ◌∷◌, ◌++◌, length, length-append, take}
use Rattle.std.proofs.Common.{drop, refl, ap, ◌∙◌, sym, subst, arith, Option, Result, Ok, Err, append-nil, append_assoc}
use Rattle.std.proofs.Common.{take-append-drop}
use Rattle.std.specs.Io.KnownBytes.{Appends, Consumes}
use Rattle.std.proofs.KnownBytes.{Appends-trans, Appends-nil, Consumes-nil, Consumes-trans}
use Rattle.entry_codec.specs.Pieces.{pieces, unfinished, pieces_after}
use Rattle.entry_codec.proofs.Pieces.{pieces_append}
use Rattle.line_streams.specs.Fronts.{FallsShort}
use Rattle.line_streams.specs.Counting.{still, Parted}
use Rattle.line_streams.specs.Waiting.{Waiting, IsEmpty}
use Rattle.line_streams.specs.Handling.{Answering}
use Rattle.line_streams.specs.Talk.{last_line, lines_of, Talk, EndsBy, Leaves, BeginsWith, GoesBeyond, IsEnded}
use Rattle.line_streams.specs.Going.{Talked, Going, IsNew, Stopped, Closed, Fails, Fed, Ran}
use Rattle.line_streams.specs.declared.fault.ConversationError.{ConversationError}
use Rattle.line_streams.specs.declared.fault.ConversationError.TheVariants.{ReadFailed, WriteFailed, OutOfMemory}
use Rattle.line_streams.specs.declared.fault.ConversationError.TheVariants.{TooManyLines}
use Rattle.line_streams.specs.declared.handler.Goes.TheVariants.{On, Ends}
use Rattle.line_streams.specs.declared.handler.EndedBy.{EndedBy}
use Rattle.line_streams.specs.declared.handler.EndedBy.TheVariants.{Input, Handler}
use Rattle.line_streams.proofs.CountLaws.{none_parted}
use Rattle.line_streams.proofs.FeedLaws.{going_written, talked_front, more_left}

last_some : (front : List ℕ) → 0 < length front → last_line front ≡ pieces_after front (10 ∷ [])
last_some [] h = absurd (omega arith)
last_some (x ∷ xs) h = refl

one_last : (front : List ℕ) → 0 < length front → length (last_line front) ≡ 1
one_last [] h = absurd (omega arith)
one_last (x ∷ xs) h = refl

-- an unfinished line is ended
pub all_lines : (input : List ℕ) → 0 < length (unfinished input) → lines_of input ≡ pieces (input ++ 10 ∷ [])
all_lines input some = ap (λ (l : List (List ℕ)). pieces input ++ l) (last_some (unfinished input) some)
    ∙ sym (pieces_append [] input (10 ∷ []))

pub all_ended : (input : List ℕ) → unfinished input ≡ [] → lines_of input ≡ pieces input
all_ended input none = ap (λ (l : List ℕ). pieces input ++ last_line l) none ∙ append-nil (pieces input)

-- an unfinished line is one more line
pub last_counted : (input : List ℕ) → 0 < length (unfinished input)
    → length (lines_of input) ≡ length (pieces input) + 1
last_counted input some = length-append (pieces input) (last_line (unfinished input))
    ∙ ap (λ (n : ℕ). length (pieces input) + n) (one_last (unfinished input) some)

some_counted : (input : List ℕ) → length (pieces input) ≤ length (lines_of input)
some_counted input = omega (arith, length-append (pieces input) (last_line (unfinished input)))

-- a read that gave nothing
pub reads_end : (given left after : Option (List ℕ)) (input bytes : List ℕ) → Consumes given left input
    → Consumes left after bytes → bytes ≡ [] → Consumes given after input
reads_end given left after input bytes p q e
    = subst (Consumes given after) (ap (λ (l : List ℕ). input ++ l) e
    ∙ append-nil input) (Consumes-trans given left after input bytes p q)

begins_more : {X : Type 0} (all more front : List X) → BeginsWith all front → BeginsWith (all ++ more) front
begins_more all more front h = (h.0 ++ more, ap (λ l. l ++ more) h.1 ∙ append_assoc front h.0 more)

begins_before : {X : Type 0} (all front : List X) (x : X) → BeginsWith all (front ++ x ∷ []) → BeginsWith all front
begins_before all front x h = (x ∷ h.0, h.1 ∙ append_assoc front (x ∷ []) h.0)

module _ {S : Type 0} (answers : Answering S) (fails : S → S → Type 0) (start : S) where
  pub going_new : (held : Option (List ℕ)) (waits : Waiting) (carry : List ℕ) (count : ℕ) → IsNew waits carry count
      → Going answers start [] start held held waits carry
  going_new held waits carry count h = record {
    talked = record {
      replies = [];
      written = [];
      answered = (refl, refl);
      writes = Appends-nil held;
      rest = sym h.0.whole;
    };
    ready = h.0.part;
    carried = h.1;
  }

  -- all that waited was written
  pub going_all : (input : List ℕ) (state : S) (held now after : Option (List ℕ)) (waits waits' : Waiting)
      (carry : List ℕ) → Going answers start input state held now waits carry
      → Appends now after waits.whole → IsEmpty waits' → Going answers start input state held after waits' carry
  going_all input state held now after waits waits' carry h writes none =
      going_written answers start input state held now waits carry h after waits' waits.whole writes
      (sym (append-nil waits.whole) ∙ ap (λ (l : List ℕ). waits.whole ++ l) (sym none.whole)) none.part

  -- some of it was, if a write failed
  pub ran_written : (chunks : List (List ℕ)) (input : List ℕ) (state : S) (held now after : Option (List ℕ))
      (waits : Waiting) (carry rest : List ℕ) → Going answers start input state held now waits carry
      → FallsShort now after waits.whole → Ran answers fails start chunks input held after (Err WriteFailed) state rest
  ran_written chunks input state held now after waits carry rest h part = (
    drop part.0 waits.whole,
    more_left part.0 waits.whole part.1,
    record {
      lines = pieces input;
      state = state;
      front = (last_line (unfinished input), refl);
      talked = talked_front answers start input state held now waits carry h after part.0 part.2;
      left = refl;
    },
  )

  -- a handler that cannot go on
  pub ran_stopped : (chunks : List (List ℕ)) (input : List ℕ) (state : S) (held now : Option (List ℕ)) (waits : Waiting)
      (carry : List ℕ) → Going answers start input state held now waits carry
      → Ran answers fails start chunks input held now (Err OutOfMemory) state waits.whole
  ran_stopped chunks input state held now waits carry h = record {
    lines = pieces input;
    state = state;
    front = (last_line (unfinished input), refl);
    talked = h.talked;
    left = inl refl;
  }

  -- a stop among the lines that ended is one among all lines
  stopped_more : (all more : List (List ℕ)) (leaves : S → Type 0) (held now : Option (List ℕ)) (waits : List ℕ)
      → Stopped answers start all leaves held now waits → Stopped answers start (all ++ more) leaves held now waits
  stopped_more all more leaves held now waits st = record {
    lines = st.lines;
    state = st.state;
    front = begins_more all more st.lines st.front;
    talked = st.talked;
    left = st.left;
  }

  closed_more : (all more : List (List ℕ)) (after : S) (held now : Option (List ℕ)) (waits : List ℕ)
      → Closed answers start all after held now waits → Closed answers start (all ++ more) after held now waits
  closed_more all more after held now waits cl = record {
    lines = cl.lines;
    state = cl.state;
    talked = cl.talked;
    ended = record {
      line = cl.ended.line;
      next = begins_more all more (cl.lines ++ cl.ended.line ∷ []) cl.ended.next;
      ends = cl.ended.ends;
    };
  }

  module _ (chunks : List (List ℕ)) (input : List ℕ) (after : S) (held now : Option (List ℕ)) (waits : Waiting)
      (carry : List ℕ) where
    -- a fault while bytes were taken
    pub ran_err : (fault : ConversationError) → Fed answers fails start input held now (Err fault) after waits carry
        → (fault ≡ TooManyLines → 1000000000 ≤ length (pieces input) + still chunks)
        → Ran answers fails start chunks input held now (Err fault) after waits.whole
    ran_err ReadFailed fed many = absurd fed
    ran_err WriteFailed fed many
        = (
          fed.0,
          fed.1,
          stopped_more (pieces input) (last_line (unfinished input)) (λ state. after
              ≡ state) held now fed.0 fed.2,
        )
    ran_err OutOfMemory fed many
        = stopped_more (pieces input) (last_line (unfinished input)) (Fails fails after) held now waits.whole fed
    ran_err TooManyLines fed many
        = (
          stopped_more (pieces input) (last_line (unfinished input)) (λ state. after ≡ state) held now waits.whole fed,
          omega (arith, many refl, some_counted input),
        )

    -- a line ended the conversation
    pub ran_closed : Fed answers fails start input held now (Ok Ends) after waits carry
        → Ran answers fails start chunks input held now (Ok Handler) after waits.whole
    ran_closed fed = closed_more (pieces input) (last_line (unfinished input)) after held now waits.whole fed

    pub ran_end : Going answers start input after held now waits carry → unfinished input ≡ []
        → length (pieces input) + still chunks < 1000000000
        → Ran answers fails start chunks input held now (Ok Input) after waits.whole
    ran_end h none few = (
      subst (λ (l : List (List ℕ)). Talked answers start l after held now waits.whole)
          (sym (all_ended input none)) h.talked,
      omega (arith, few, ap length (all_ended input none)),
    )

    -- the line feed that an unfinished line gets
    pub last_on : 0 < length (unfinished input)
        → Fed answers fails start (input ++ 10 ∷ []) held now (Ok On) after waits carry
        → (length (pieces input) + still chunks) + 1 < 1000000000
        → Ran answers fails start chunks input held now (Ok Input) after waits.whole
    last_on some fed few = (
      subst (λ (l : List (List ℕ)). Talked answers start l after held now waits.whole)
          (sym (all_lines input some)) fed.talked,
      omega (arith, few, last_counted input some),
    )

    pub last_closed : 0 < length (unfinished input)
        → Fed answers fails start (input ++ 10 ∷ []) held now (Ok Ends) after waits carry
        → Ran answers fails start chunks input held now (Ok Handler) after waits.whole
    last_closed some fed = subst (λ (l : List (List ℕ)). Closed answers start l after held now waits.whole)
        (sym (all_lines input some)) fed

    pub last_err : (fault : ConversationError) → 0 < length (unfinished input)
        → Fed answers fails start (input ++ 10 ∷ []) held now (Err fault) after waits carry
        → (fault ≡ TooManyLines → 1000000000 ≤ (length (pieces input) + still chunks) + 1)
        → Ran answers fails start chunks input held now (Err fault) after waits.whole
    last_err ReadFailed some fed many = absurd fed
    last_err WriteFailed some fed many
        = (
          fed.0,
          fed.1,
          subst (λ (l : List (List ℕ)). Stopped answers start l (λ state. after ≡ state) held now fed.0)
              (sym (all_lines input some)) fed.2,
        )
    last_err OutOfMemory some fed many
        = subst (λ (l : List (List ℕ)). Stopped answers start l (Fails fails after) held now waits.whole)
        (sym (all_lines input some)) fed
    last_err TooManyLines some fed many = (
      subst (λ (l : List (List ℕ)). Stopped answers start l (λ state. after ≡ state) held now waits.whole)
          (sym (all_lines input some)) fed,
      omega (arith, many refl, last_counted input some),
    )

  -- how a conversation ended
  abbrev pub EndedAs : (given left held holds : Option (List ℕ)) → Result EndedBy ConversationError → S → Type 0
  EndedAs given left held holds result after = (talk : Talk answers start given left held holds) × EndsBy result talk
      × Leaves fails result talk after

  pub nothing_ran : (given held : Option (List ℕ)) → EndedAs given given held held (Err OutOfMemory) start
  nothing_ran given held = (
    record {
      chunks = [];
      input = [];
      lines = [];
      replies = [];
      text = [];
      state = start;
      reads = Consumes-nil given;
      parted = none_parted;
      answered = (refl, refl);
      writes = Appends-nil held;
    },
    (([], refl), refl),
    inl refl,
  )

  module _ (chunks : List (List ℕ)) (input : List ℕ) (given left held now after : Option (List ℕ))
      (reads : Consumes given left input) (parted : Parted chunks input) (lines : List (List ℕ)) (state : S)
      (waits : List ℕ) (t : Talked answers start lines state held now waits) where
    -- what waited was written
    pub talk_whole : Appends now after waits → Talk answers start given left held after
    talk_whole writes = record {
      chunks = chunks;
      input = input;
      lines = lines;
      replies = t.replies;
      text = t.written ++ waits;
      state = state;
      reads = reads;
      parted = parted;
      answered = t.answered;
      writes = Appends-trans held now after t.written waits t.writes writes;
    }

    -- some of it was
    pub talk_part : (n : ℕ) → Appends now after (take n waits) → Talk answers start given left held after
    talk_part n writes = record {
      chunks = chunks;
      input = input;
      lines = lines;
      replies = t.replies;
      text = t.written ++ take n waits;
      state = state;
      reads = reads;
      parted = parted;
      answered = t.answered;
      writes = Appends-trans held now after t.written (take n waits) t.writes writes;
    }

    part_begins : (n : ℕ) → n < length waits → GoesBeyond t.replies (t.written ++ take n waits)
    part_begins n short = (
      drop n waits,
      more_left n waits short,
      t.rest
          ∙ ap (λ (l : List ℕ). t.written ++ l) (sym (take-append-drop n waits))
          ∙ sym (append_assoc t.written (take n waits) (drop n waits)),
    )

    pub cut_short : (n : ℕ) → n < length waits → Appends now after (take n waits) → BeginsWith (lines_of input) lines
        → (end : S) → (end ≡ state) ⊎ fails state end ⊎ IsEnded answers (lines_of input) lines state end
        → EndedAs given left held after (Err WriteFailed) end
    unfolding talk_part
    cut_short n short writes front end leaves = (talk_part n writes, (front, part_begins n short), leaves)

  module _ (chunks : List (List ℕ)) (input : List ℕ) (given left held now after : Option (List ℕ))
      (reads : Consumes given left input) (parted : Parted chunks input) (waits : List ℕ) (end : S) where
    -- the last write took all
    pub ends_whole : (result : Result EndedBy ConversationError)
        → Ran answers fails start chunks input held now result end waits → (result ≡ Err WriteFailed → ⊥)
        → Appends now after waits → EndedAs given left held after result end
    unfolding talk_whole
    ends_whole (Ok Input) ran other writes
        = (
          talk_whole chunks input given left held now after reads parted (lines_of input) end waits ran.0 writes,
          (refl, sym ran.0.rest, ran.1),
          refl,
        )
    ends_whole (Ok Handler) ran other writes
        = (
          talk_whole chunks input given left held now after reads parted ran.lines ran.state waits ran.talked writes,
          (begins_before (lines_of input) ran.lines ran.ended.line ran.ended.next, sym ran.talked.rest),
          ran.ended,
        )
    ends_whole (Err ReadFailed) ran other writes
        = (
          talk_whole chunks input given left held now after reads parted (pieces input) end waits ran.0 writes,
          (refl, sym ran.0.rest, ran.1),
          refl,
        )
    ends_whole (Err WriteFailed) ran other writes = absurd (other refl)
    ends_whole (Err OutOfMemory) ran other writes
        = (
          talk_whole chunks input given left held now after reads parted ran.lines ran.state waits ran.talked writes,
          (ran.front, sym ran.talked.rest),
          ran.left,
        )
    ends_whole (Err TooManyLines) ran other writes
        = (
          talk_whole chunks input given left held now after reads parted ran.0.lines ran.0.state waits ran.0.talked
              writes,
          (ran.0.front, sym ran.0.talked.rest, ran.1),
          ran.0.left,
        )

    -- the last write failed
    pub ends_cut : (result : Result EndedBy ConversationError) (n : ℕ) → n < length waits
        → Ran answers fails start chunks input held now result end waits → (result ≡ Err WriteFailed → ⊥)
        → Appends now after (take n waits)
        → EndedAs given left held after (Err WriteFailed) end
    ends_cut (Ok Input) n short ran other writes
        = cut_short chunks input given left held now after reads parted (lines_of input) end waits ran.0 n short writes
        ([], sym (append-nil (lines_of input))) end (inl refl)
    ends_cut (Ok Handler) n short ran other writes =
        cut_short chunks input given left held now after reads parted ran.lines ran.state waits ran.talked n short
        writes (begins_before (lines_of input) ran.lines ran.ended.line ran.ended.next) end (inr (inr ran.ended))
    ends_cut (Err ReadFailed) n short ran other writes
        = cut_short chunks input given left held now after reads parted (pieces input) end waits ran.0 n short writes
        (last_line (unfinished input), refl) end (inl refl)
    ends_cut (Err WriteFailed) n short ran other writes = absurd (other refl)
    ends_cut (Err OutOfMemory) n short ran other writes =
        cut_short chunks input given left held now after reads parted ran.lines ran.state waits ran.talked n short
        writes ran.front end (elim ran.left [ inl same ↦ inl same | inr failed ↦ inr (inl failed) ])
    ends_cut (Err TooManyLines) n short ran other writes
        = cut_short chunks input given left held now after reads parted ran.0.lines ran.0.state waits ran.0.talked n
        short writes ran.0.front end (inl ran.0.left)

  -- an earlier write failed
  pub ends_failed : (chunks : List (List ℕ)) (input : List ℕ) (given left held now : Option (List ℕ))
      → Consumes given left input → Parted chunks input
      → (waits : List ℕ) (end : S) (result : Result EndedBy ConversationError)
      → result ≡ Err WriteFailed → Ran answers fails start chunks input held now result end waits
      → EndedAs given left held now result end
  ends_failed chunks input given left held now reads parted waits end (Ok Input) e ran = absurd cc
  ends_failed chunks input given left held now reads parted waits end (Ok Handler) e ran = absurd cc
  ends_failed chunks input given left held now reads parted waits end (Err ReadFailed) e ran = absurd cc
  ends_failed chunks input given left held now reads parted waits end (Err WriteFailed) e ran =
      cut_short chunks input given left held now now reads parted ran.2.lines ran.2.state ran.0 ran.2.talked 0 ran.1
      (Appends-nil now) ran.2.front end (inl ran.2.left)
  ends_failed chunks input given left held now reads parted waits end (Err OutOfMemory) e ran = absurd cc
  ends_failed chunks input given left held now reads parted waits end (Err TooManyLines) e ran = absurd cc
