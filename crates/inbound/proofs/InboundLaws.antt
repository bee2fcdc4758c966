-- The effect of arriving entries on an inbound, and its gap.
use Rattle.std.proofs.Common.{◌≡◌, ◌≤◌, Bool, eqb, not, length, List, [], ◌∷◌, ◌++◌, Option, None, refl, ap, sym, subst}
use Rattle.std.proofs.Common.{◌∙◌}
use Rattle.std.specs.List.{All}
use Rattle.std.proofs.lemmas.Bool.{eqb-true, not-false}
use Rattle.std.proofs.lemmas.List.{append-nil, append_assoc}
use Rattle.rights_types.specs.Entries.{EntryValue}
use Rattle.rights_types.specs.Messages.{AnswerValue, IsAnswer, MessageValue, QueryValue}
use Rattle.rights_types.specs.Messages.MessageValue.{AnAnswer}
use Rattle.sub_buffer.specs.Buffers.{BufferValue, IsSettled, SamePair}
use Rattle.sub_buffer.specs.Follows.{HasPut, Follows, put_after}
use Rattle.sub_buffer.specs.Arrivals.{all_ready, Arrives, ArriveAll}
use Rattle.sub_buffer.specs.Gaps.{GapOf, GapIs, asked_for}
use Rattle.sub_buffer.specs.declared.verdict.Verdict.{Verdict}
use Rattle.sub_buffer.specs.declared.verdict.Verdict.TheVariants.{Ready, Held, Repeat, AfterClose, Full}
use Rattle.sub_buffer.proofs.Offers.{settled_longest}
use Rattle.sub_buffer.proofs.Missing.{gap_is}
use Rattle.inbound.specs.Inbounds.{InboundValue, IsInbound, message_fault, sender, ready_in, EntriesCome, Asks}
use Rattle.inbound.specs.Inbounds.{QueryOf}
use Rattle.rights_book.proofs.CheckLaws.{no_cause}

-- ---- whose entries they are

-- a message without a fault is the origin's
pub from_origin : (i : InboundValue) (m : MessageValue) → message_fault i m ≡ None → sender m ≡ i.buffer.origin
from_origin i m h = eqb-true (sender m) i.buffer.origin
    (not-false _ (no_cause (not (eqb (sender m) i.buffer.origin)) _ _ h).0)

pub all_from_origin : (i : InboundValue) (a : AnswerValue) → IsAnswer a → message_fault i (AnAnswer a) ≡ None
    → All (λ (e : EntryValue). e.origin ≡ i.buffer.origin) a.entries
all_from_origin i a is h = rw (← from_origin i (AnAnswer a) h) is.of_origin

-- ---- the entries that were answered Ready

ready_in-append : {A : Type 0} (us vs : List (Verdict A)) → ready_in (us ++ vs) ≡ ready_in us ++ ready_in vs
ready_in-append [] vs = refl
ready_in-append (Ready e ∷ us) vs = ap (λ (es : List EntryValue). e ∷ es) (ready_in-append us vs)
ready_in-append (Held ∷ us) vs = ready_in-append us vs
ready_in-append (Repeat ∷ us) vs = ready_in-append us vs
ready_in-append (AfterClose ∷ us) vs = ready_in-append us vs
ready_in-append (Full ∷ us) vs = ready_in-append us vs

ready_in-freed : (A : Type 0) (freed : List EntryValue) → ready_in (all_ready {A = A} freed) ≡ freed
ready_in-freed A [] = refl
ready_in-freed A (e ∷ es) = ap (λ (xs : List EntryValue). e ∷ xs) (ready_in-freed A es)

-- what one arrival delivered
put_one : {A : Type 0} (put : List EntryValue) (v : Verdict A) (freed : List EntryValue)
    → put ++ ready_in (v ∷ all_ready freed) ≡ put_after put v ++ freed
put_one {A} put (Ready e) freed = ap (λ (xs : List EntryValue). put ++ e ∷ xs) (ready_in-freed A freed)
    ∙ sym (append_assoc put (e ∷ []) freed)
put_one {A} put Held freed = ap (λ (xs : List EntryValue). put ++ xs) (ready_in-freed A freed)
put_one {A} put Repeat freed = ap (λ (xs : List EntryValue). put ++ xs) (ready_in-freed A freed)
put_one {A} put AfterClose freed = ap (λ (xs : List EntryValue). put ++ xs) (ready_in-freed A freed)
put_one {A} put Full freed = ap (λ (xs : List EntryValue). put ++ xs) (ready_in-freed A freed)

pub arrival_chain : {A : Type 0} (old new : BufferValue) (e : EntryValue) (v : Verdict A) (freed : List EntryValue)
    → Arrives old e v freed new
    → (put : List EntryValue) → HasPut put old → HasPut (put ++ ready_in (v ∷ all_ready freed)) new
arrival_chain old new e v freed h put d = subst (λ xs. HasPut xs new) (sym (put_one put v freed)) (h.chain put d)

-- what is appended to the verdicts before continues the chain
chain_behind : {A : Type 0} (es : List EntryValue) (old new : BufferValue) (before after : List (Verdict A))
    → ArriveAll old before es new after
    → (put : List EntryValue) → HasPut (put ++ ready_in before) old → HasPut (put ++ ready_in after) new
chain_behind [] old new before after h put d
    = subst (λ vs. HasPut (put ++ ready_in vs) new) (sym h.1) (subst (HasPut (put ++ ready_in before)) (sym h.0) d)
chain_behind {A} (e ∷ es) old new before after (mid, between, v, freed, is, arrived, rest) put d =
    let more : List EntryValue = ready_in (v ∷ all_ready {A = A} freed) in
    let all : put ++ ready_in between ≡ (put ++ ready_in before) ++ more =
    ap (λ vs. put ++ ready_in vs) is ∙ ap (λ xs. put ++ xs) (ready_in-append before (v ∷ all_ready freed))
    ∙ sym (append_assoc put (ready_in before) more) in
    chain_behind es mid new between after rest put
    (subst (λ xs. HasPut xs mid) (sym all) (arrival_chain old mid e v freed arrived (put ++ ready_in before) d))

pub arrivals_chain : {A : Type 0} (es : List EntryValue) (old new : BufferValue) (verdicts : List (Verdict A))
    → ArriveAll old [] es new verdicts
    → (put : List EntryValue) → HasPut put old → HasPut (put ++ ready_in verdicts) new
arrivals_chain es old new verdicts h put d
    = chain_behind es old new [] verdicts h put (subst (λ xs. HasPut xs old) (sym (append-nil put)) d)

-- the buffer stays that of the two sites
pub arrivals_pair : {A : Type 0} (es : List EntryValue) (old new : BufferValue) (before after : List (Verdict A))
    → ArriveAll old before es new after → SamePair old new
arrivals_pair [] old new before after h = subst (SamePair old) (sym h.0) (record { me = refl; origin = refl })
arrivals_pair (e ∷ es) old new before after (mid, between, v, freed, is, arrived, rest) =
    let p : SamePair mid new = arrivals_pair es mid new between after rest in
    record { me = p.me ∙ arrived.pair.me; origin = p.origin ∙ arrived.pair.origin }

-- an inbound's buffer stays settled, and that of the two sites
pub inbound_after : {A : Type 0} (i : InboundValue) (es : List EntryValue) (new : BufferValue)
    (before after : List (Verdict A)) → IsInbound i → ArriveAll i.buffer before es new after → IsSettled new
    → IsInbound (record i { buffer = new })
inbound_after i es new before after is h settled =
    let p = arrivals_pair es i.buffer new before after h in
    record {
      some = is.some;
      few = is.few;
      me = subst (λ n. n ≤ i.sites) (sym p.me) is.me;
      origin = subst (λ n. n ≤ i.sites) (sym p.origin) is.origin;
      settled = settled;
    }

pub entries_come : {A : Type 0} (old : InboundValue) (es : List EntryValue) (new : BufferValue)
    (verdicts : List (Verdict A)) → ArriveAll old.buffer [] es new verdicts → length verdicts ≤ 94
    → EntriesCome old es verdicts (record old { buffer = new })
entries_come old es new verdicts h few = record {
  arrive = h;
  chain = arrivals_chain es old.buffer new verdicts h;
  few = few;
  rest = refl;
}

pub entry_comes : {A : Type 0} (old : InboundValue) (e : EntryValue) (new : BufferValue)
    (before verdicts : List (Verdict A)) (v : Verdict A) (freed : List EntryValue) → before ≡ []
    → verdicts ≡ before ++ v ∷ all_ready freed → Arrives old.buffer e v freed new → length verdicts ≤ 94
    → EntriesCome old (e ∷ []) verdicts (record old { buffer = new })
entry_comes old e new before verdicts v freed none is h few =
    entries_come old (e ∷ []) new verdicts (
      new,
      verdicts,
      v,
      freed,
      is
          ∙ ap (λ vs. vs ++ v ∷ all_ready freed) none,
      h,
      (refl, refl),
    ) few

-- ---- the gap

-- the gap of a settled buffer, by any log that it follows
pub gap_by_log : (b : BufferValue) (gap : Option QueryValue) → IsSettled b → GapOf b gap
    → (es set put : List EntryValue) → Follows es set put b → GapIs b.me b.origin set put b.told gap
gap_by_log b gap settled h es set put f = gap_is b gap h es set put f (settled_longest b es set put f settled)

pub query_of : (old : InboundValue) (again : Bool) (gap q : Option QueryValue) (new : BufferValue)
    → IsSettled old.buffer → GapOf old.buffer gap → Asks again gap old.buffer.asked q
    → new ≡ asked_for old.buffer q → QueryOf old again q (record old { buffer = new })
query_of old again gap q new settled h asks is = record {
  gap = gap;
  by_table = h;
  by_log = gap_by_log old.buffer gap settled h;
  asks = asks;
  left = ap (λ (b : BufferValue). record old { buffer = b }) is;
}
