-- The lines of records and of keys are read back.
use Rattle.std.proofs.Common.{◌≡◌, ◌≢◌, ◌∙◌, ℕ, Bool, true, false, List, [], ◌∷◌, ◌++◌, length, reverse}
use Rattle.std.proofs.Common.{Option, Some, None, Result, Ok, refl, sym, ap, subst, arith}
use Rattle.std.specs.Prelude.{◌==◌, if◌then◌else◌}
use Rattle.std.specs.List.{All, Contains}
use Rattle.std.proofs.Math.Seq.{drop-append_seam}
use Rattle.std.proofs.lemmas.Bool.{eq-eqb, ne_eqb}
use Rattle.std.proofs.lemmas.List.{append-nil, append_assoc, reverse-append}
use Rattle.std.proofs.lemmas.List.Elements.{All-nil, All-cons, All-head, All-tail, All-drop, Contains-append_left, Contains-push}
use Rattle.rights_types.specs.Entries.{EntryValue}
use Rattle.rights_types.specs.Messages.{MessageValue, IsMessage}
use Rattle.rights_types.specs.Chains.{IsChain}
use Rattle.rights_types.proofs.Chains.{is_entry, not_in_nil}
use Rattle.rights_protocol.specs.Crashes.{Record, lists_after, lists_from, with_applied}
use Rattle.rights_protocol.specs.Crashes.Record.{Wrote, Applied, Asked}
use Rattle.rights_protocol.specs.Retiring.{taking_back}
use Rattle.rights_protocol.specs.Schedules.{SiteLists}
use Rattle.entry_codec.specs.declared.fault.LineError.{LineError}
use Rattle.entry_codec.proofs.Lines.{reading_again}
use Rattle.line_streams.specs.Words.{words_of}
use Rattle.site_core.specs.Replaying.{record_of}
use Rattle.site_records.specs.Openings.{tickets_in}
use Rattle.site_records.specs.KeyRecords.{key_text, key_record_in, keys_in, just as just_key}
use Rattle.site_records.specs.Restores.{message_in, just, step_by, step_in, steps_in}
use Rattle.site_records.proofs.KeyLaws.{keys_read_back}
use Rattle.apply_lanes.specs.Recorders.{message_of, record_text, texts_of, key_lines}
use Rattle.desk_turns.specs.JournalLines.{FitsIfAsk, IsKeyRecord}

-- ---- the records of a site are entries and asks

-- its message reads back as this record
pub record Good (s : ℕ) (r : Record) : Type 0 where
  pub message : IsMessage (message_of r)
  pub same : record_of s (message_of r) ≡ Some r

pub log_from : (s : ℕ) (lists : SiteLists) (rs : List Record)
    → (more : List EntryValue) × ((lists_from s lists rs).log ≡ lists.log ++ more)
log_from s lists [] = ([], sym (append-nil lists.log))
log_from s lists (Wrote e ∷ rs) =
    let rest = log_from s (lists_after s lists (Wrote e)) rs in
    (e ∷ rest.0, rest.1 ∙ append_assoc lists.log (e ∷ []) rest.0)
log_from s lists (Applied e ∷ rs) =
    let rest = log_from s (lists_after s lists (Applied e)) rs in
    let back = taking_back s e.origin lists.log e in
    (back ++ rest.0, rest.1 ∙ append_assoc lists.log back rest.0)
log_from s lists (Asked a ∷ rs) = log_from s lists rs

one_applied : (b : Bool) (es : List EntryValue) (e : EntryValue)
    → (more : List EntryValue) × ((if b then es ++ e ∷ [] else es) ≡ es ++ more)
one_applied true es e = (e ∷ [], refl)
one_applied false es e = ([], sym (append-nil es))

applied_from : (s : ℕ) (lists : SiteLists) (rs : List Record) (o : ℕ)
    → (more : List EntryValue) × ((lists_from s lists rs).applied o ≡ lists.applied o ++ more)
applied_from s lists [] o = ([], sym (append-nil (lists.applied o)))
applied_from s lists (Wrote e ∷ rs) o = applied_from s (lists_after s lists (Wrote e)) rs o
applied_from s lists (Applied e ∷ rs) o =
    let rest = applied_from s (lists_after s lists (Applied e)) rs o in
    let one = one_applied (o == e.origin) (lists.applied o) e in
    (one.0 ++ rest.0, rest.1 ∙ ap (λ es. es ++ rest.0) one.1 ∙ append_assoc (lists.applied o) one.0 rest.0)
applied_from s lists (Asked a ∷ rs) o = applied_from s lists rs o

module _ (s : ℕ) (last : SiteLists) (chain : IsChain s last.log) (chains : (o : ℕ) → IsChain o (last.applied o))
    (itself : last.applied s ≡ []) where
  wrote_good : (lists : SiteLists) (rs : List Record) (e : EntryValue) → last ≡ lists_from s lists (Wrote e ∷ rs)
      → Good s (Wrote e)
  wrote_good lists rs e same =
      let grown = log_from s (lists_after s lists (Wrote e)) rs in
      let there : Contains last.log e = subst (λ es. Contains es e) (sym (ap (λ (l : SiteLists). l.log) same ∙ grown.1))
      (Contains-append_left (lists.log ++ e ∷ []) grown.0 e (Contains-push lists.log e)) in
      let is = is_entry s false 0 last.log e chain there in
      record { message = is.0; same = rw (eq-eqb e.origin s is.1) refl }

  applied_there : (lists : SiteLists) (e : EntryValue) → with_applied lists.applied e e.origin ≡ lists.applied e.origin ++ e ∷ []
  applied_there lists e = rw (eq-eqb e.origin e.origin refl) refl

  applied_good : (lists : SiteLists) (rs : List Record) (e : EntryValue) → last ≡ lists_from s lists (Applied e ∷ rs)
      → Good s (Applied e)
  applied_good lists rs e same =
      let o : ℕ = e.origin in
      let grown = applied_from s (lists_after s lists (Applied e)) rs o in
      let there : Contains (last.applied o) e = subst (λ es. Contains es e)
      (sym (ap (λ (l : SiteLists). l.applied o) same ∙ grown.1 ∙ ap (λ es. es ++ grown.0) (applied_there lists e)))
      (Contains-append_left (lists.applied o ++ e ∷ []) grown.0 e (Contains-push (lists.applied o) e)) in
      let is = is_entry o false 0 (last.applied o) e (chains o) there in
      let other : o ≢ s = λ q. not_in_nil e (subst (λ es. Contains es e) (ap last.applied q ∙ itself) there) in
      record { message = is.0; same = rw (ne_eqb o s other) refl }

  pub all_good : (lists : SiteLists) (rs : List Record) → last ≡ lists_from s lists rs → All FitsIfAsk rs → All (Good s) rs
  all_good lists [] same fits = All-nil (Good s)
  all_good lists (Wrote e ∷ rs) same fits =
      All-cons (Good s) (Wrote e) rs (wrote_good lists rs e same)
      (all_good (lists_after s lists (Wrote e)) rs same (All-tail FitsIfAsk (Wrote e) rs fits))
  all_good lists (Applied e ∷ rs) same fits =
      All-cons (Good s) (Applied e) rs (applied_good lists rs e same)
      (all_good (lists_after s lists (Applied e)) rs same (All-tail FitsIfAsk (Applied e) rs fits))
  all_good lists (Asked a ∷ rs) same fits =
      All-cons (Good s) (Asked a) rs (record { message = All-head FitsIfAsk (Asked a) rs fits; same = refl })
      (all_good lists rs same (All-tail FitsIfAsk (Asked a) rs fits))

-- ---- a line

-- the step of a line, by what it spells
pub step_of : (s : ℕ) (text : List ℕ) (t : Option ℕ) (k : Option (List ℕ × ℕ)) (read : Result MessageValue LineError)
    → tickets_in (words_of text) ≡ t → key_record_in (words_of text) ≡ k → message_in text ≡ read
    → step_in s text ≡ step_by s t k read
step_of s text t k read a b c =
    ap (λ x. step_by s x (key_record_in (words_of text)) (message_in text)) a ∙ ap (λ x. step_by s t x (message_in text)) b
    ∙ ap (λ x. step_by s t k x) c

-- a record is neither tickets nor a key
record IsNeither (text : List ℕ) : Type 0 where
  tickets : tickets_in (words_of text) ≡ None
  key : key_record_in (words_of text) ≡ None

neither : (r : Record) → IsNeither (record_text r)
neither (Wrote e) = record { tickets = refl; key = refl }
neither (Applied e) = record { tickets = refl; key = refl }
neither (Asked a) = record { tickets = refl; key = refl }

text_says : (s : ℕ) (r : Record) → Good s r → step_in s (record_text r) ≡ r ∷ []
text_says s r good =
    step_of s (record_text r) None None (Ok (message_of r)) (neither r).tickets (neither r).key
    (reading_again (message_of r) good.message) ∙ ap just good.same

pub texts_say : (s : ℕ) (rs : List Record) → All (Good s) rs → steps_in s (texts_of rs) ≡ rs
texts_say s [] good = refl
texts_say s (r ∷ rs) good =
    (λ i. text_says s r (All-head (Good s) r rs good) i ++ texts_say s rs (All-tail (Good s) r rs good) i)

pub texts_no_keys : (rs : List Record) → keys_in (texts_of rs) ≡ []
texts_no_keys [] = refl
texts_no_keys (r ∷ rs) = λ i. texts_no_keys rs i ++ just_key ((neither r).key i)

-- ---- the line of a key

key_said : (e : List ℕ × ℕ) → IsKeyRecord e → key_record_in (words_of (key_text e.0 e.1)) ≡ Some e
key_said e is = (keys_read_back e.0 e.1 is.key (omega (arith, is.some)) (omega (arith, is.within))).read

key_no_step : (s : ℕ) (e : List ℕ × ℕ) → IsKeyRecord e → step_in s (key_text e.0 e.1) ≡ []
key_no_step s e is =
    let text : List ℕ = key_text e.0 e.1 in
    step_of s text None (Some e) (message_in text) refl (key_said e is) refl

pub keys_no_steps : (s : ℕ) (keys : List (List ℕ × ℕ)) → All IsKeyRecord keys → steps_in s (key_lines keys) ≡ []
keys_no_steps s [] are = refl
keys_no_steps s (e ∷ keys) are =
    (λ i. key_no_step s e (All-head IsKeyRecord e keys are) i ++ keys_no_steps s keys (All-tail IsKeyRecord e keys are) i)

pub keys_said : (keys : List (List ℕ × ℕ)) → All IsKeyRecord keys → keys_in (key_lines keys) ≡ reverse keys
keys_said [] are = refl
keys_said (e ∷ keys) are =
    (λ i. keys_said keys (All-tail IsKeyRecord e keys are) i ++ just_key (key_said e (All-head IsKeyRecord e keys are) i))
    ∙ sym (reverse-append (e ∷ []) keys)

-- ---- more lines

pub steps_in-append : (s : ℕ) (xs ys : List (List ℕ)) → steps_in s (xs ++ ys) ≡ steps_in s xs ++ steps_in s ys
steps_in-append s [] ys = refl
steps_in-append s (x ∷ xs) ys =
    ap (λ rs. step_in s x ++ rs) (steps_in-append s xs ys) ∙ sym (append_assoc (step_in s x) (steps_in s xs) (steps_in s ys))

pub keys_in-append : (xs ys : List (List ℕ)) → keys_in (xs ++ ys) ≡ keys_in ys ++ keys_in xs
keys_in-append [] ys = sym (append-nil (keys_in ys))
keys_in-append (x ∷ xs) ys =
    let one = just_key (key_record_in (words_of x)) in
    ap (λ ks. ks ++ one) (keys_in-append xs ys) ∙ append_assoc (keys_in ys) (keys_in xs) one

pub All-right : {X : Type 0} (P : X → Type 0) (xs ys : List X) → All P (xs ++ ys) → All P ys
All-right P xs ys h = subst (All P) (drop-append_seam xs ys) (All-drop P (length xs) (xs ++ ys) h)
