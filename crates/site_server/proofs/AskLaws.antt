-- Lines that were handed over are read back, but for asks, which change no list and say no key.
use Rattle.std.proofs.Common.{◌≡◌, ◌∙◌, ℕ, List, [], ◌∷◌, ◌++◌, reverse, None, Result, Ok, Err}
use Rattle.std.proofs.Common.{refl, sym, ap, subst, arith}
use Rattle.std.specs.List.{All}
use Rattle.std.proofs.lemmas.List.{append-nil}
use Rattle.std.proofs.lemmas.List.Elements.{All-nil, All-cons, All-head, All-tail}
use Rattle.rights_types.specs.Chains.{IsChain}
use Rattle.rights_types.specs.Messages.{AskValue, MessageValue}
use Rattle.rights_types.specs.Messages.MessageValue.{AnEntry, AQuery, AnAnswer, ABeat, AnAsk, ADenial, AHello}
use Rattle.rights_protocol.specs.Crashes.{Record, lists_after, lists_from, lists_of, no_lists}
use Rattle.rights_protocol.specs.Crashes.Record.{Wrote, Applied, Asked}
use Rattle.rights_protocol.specs.Schedules.{SiteLists}
use Rattle.entry_codec.specs.Spelling.{line}
use Rattle.entry_codec.specs.declared.fault.LineError.{LineError}
use Rattle.entry_codec.proofs.Lines.{reading_is}
use Rattle.site_core.specs.Replaying.{record_of}
use Rattle.site_records.specs.KeyRecords.{keys_in}
use Rattle.site_records.specs.Restores.{just, message_in, step_by, step_in, steps_in}
use Rattle.apply_lanes.specs.Names.{DeskId}
use Rattle.apply_lanes.specs.Kepts.{KeptValue, IsKept}
use Rattle.apply_lanes.specs.Recorders.{IsHanded, record_text, texts_of, key_lines}
use Rattle.apply_lanes.proofs.StepLaws.{protocol_of}
use Rattle.desk_turns.specs.JournalLines.{FitsIfAsk, IsKeyRecord}
use Rattle.desk_turns.proofs.RecordTexts.{Good, all_good, step_of, texts_say, texts_no_keys, keys_no_steps, keys_said}
use Rattle.desk_turns.proofs.RecordTexts.{steps_in-append, keys_in-append, All-right}

-- the entries that were written and applied
abbrev pub no_asks : List Record → List Record
no_asks [] = []
no_asks (Wrote e ∷ rs) = Wrote e ∷ no_asks rs
no_asks (Applied e ∷ rs) = Applied e ∷ no_asks rs
no_asks (Asked a ∷ rs) = no_asks rs

pub no_asks-append : (rs more : List Record) → no_asks (rs ++ more) ≡ no_asks rs ++ no_asks more
no_asks-append [] more = refl
no_asks-append (Wrote e ∷ rs) more = ap (λ xs. Wrote e ∷ xs) (no_asks-append rs more)
no_asks-append (Applied e ∷ rs) more = ap (λ xs. Applied e ∷ xs) (no_asks-append rs more)
no_asks-append (Asked a ∷ rs) more = no_asks-append rs more

pub lists_no_asks : (s : ℕ) (lists : SiteLists) (rs : List Record) → lists_from s lists (no_asks rs) ≡ lists_from s lists rs
lists_no_asks s lists [] = refl
lists_no_asks s lists (Wrote e ∷ rs) = lists_no_asks s (lists_after s lists (Wrote e)) rs
lists_no_asks s lists (Applied e ∷ rs) = lists_no_asks s (lists_after s lists (Applied e)) rs
lists_no_asks s lists (Asked a ∷ rs) = lists_no_asks s lists rs

no_asks_fit : (rs : List Record) → All FitsIfAsk (no_asks rs)
no_asks_fit [] = All-nil FitsIfAsk
no_asks_fit (Wrote e ∷ rs) = All-cons FitsIfAsk (Wrote e) (no_asks rs) tt (no_asks_fit rs)
no_asks_fit (Applied e ∷ rs) = All-cons FitsIfAsk (Applied e) (no_asks rs) tt (no_asks_fit rs)
no_asks_fit (Asked a ∷ rs) = no_asks_fit rs

-- ---- the line of an ask is that of no entry

abbrev first_byte : List ℕ → ℕ
first_byte [] = 0
first_byte (byte ∷ text) = byte

ask_kind : (s : ℕ) (a : AskValue) (m : MessageValue) → line (AnAsk a) ≡ line m → no_asks (just (record_of s m)) ≡ []
ask_kind s a (AnEntry e) same = absurd (let byte = ap first_byte same in omega (arith, byte))
ask_kind s a (AQuery q) same = refl
ask_kind s a (AnAnswer b) same = refl
ask_kind s a (ABeat b) same = refl
ask_kind s a (AnAsk b) same = refl
ask_kind s a (ADenial d) same = refl
ask_kind s a (AHello n) same = refl

ask_read : (s : ℕ) (a : AskValue) (read : Result MessageValue LineError) → message_in (record_text (Asked a)) ≡ read
    → no_asks (step_by s None None read) ≡ []
ask_read s a (Err fault) is = refl
ask_read s a (Ok m) is = ask_kind s a m (reading_is (line (AnAsk a)) m is).1

ask_step : (s : ℕ) (a : AskValue) → no_asks (step_in s (record_text (Asked a))) ≡ []
ask_step s a =
    let text : List ℕ = record_text (Asked a) in
    ap no_asks (step_of s text None None (message_in text) refl refl refl) ∙ ask_read s a (message_in text) refl

-- ---- what is handed over

one_says : (s : ℕ) (r : Record) → Good s r → step_in s (record_text r) ≡ r ∷ []
one_says s r good =
    sym (append-nil (step_in s (record_text r))) ∙ texts_say s (r ∷ []) (All-cons (Good s) r [] good (All-nil (Good s)))

texts_say_entries : (s : ℕ) (rs : List Record) → All (Good s) (no_asks rs) → no_asks (steps_in s (texts_of rs)) ≡ no_asks rs
texts_say_entries s [] good = refl
texts_say_entries s (Wrote e ∷ rs) good =
    no_asks-append (step_in s (record_text (Wrote e))) (steps_in s (texts_of rs))
    ∙ (λ i. no_asks (one_says s (Wrote e) (All-head (Good s) (Wrote e) (no_asks rs) good) i)
    ++ texts_say_entries s rs (All-tail (Good s) (Wrote e) (no_asks rs) good) i)
texts_say_entries s (Applied e ∷ rs) good =
    no_asks-append (step_in s (record_text (Applied e))) (steps_in s (texts_of rs))
    ∙ (λ i. no_asks (one_says s (Applied e) (All-head (Good s) (Applied e) (no_asks rs) good) i)
    ++ texts_say_entries s rs (All-tail (Good s) (Applied e) (no_asks rs) good) i)
texts_say_entries s (Asked a ∷ rs) good =
    no_asks-append (step_in s (record_text (Asked a))) (steps_in s (texts_of rs))
    ∙ (λ i. ask_step s a i ++ texts_say_entries s rs good i)

entries_good : (id : DeskId) (k : KeptValue) → IsKept id k → All (Good id.site) (no_asks k.records)
entries_good id k is =
    let p = protocol_of id k is in
    all_good id.site (lists_of id.site k.records) (subst (IsChain id.site) is.protocol.log p.chain) p.chains p.itself
    no_lists (no_asks k.records) (sym (lists_no_asks id.site no_lists k.records)) (no_asks_fit k.records)

-- all entries, in order, and all keys
pub record SaysEntries (s : ℕ) (records : List Record) (keys : List (List ℕ × ℕ)) (lines : List (List ℕ)) : Type 0 where
  pub steps : no_asks (steps_in s lines) ≡ no_asks records
  pub said : keys_in lines ≡ reverse keys

pub handed_says : (id : DeskId) (k : KeptValue) (lines : List (List ℕ)) → IsKept id k → All IsKeyRecord k.keys.unrecorded
    → (h : IsHanded k.handed k.records k.keys.unrecorded lines)
    → SaysEntries id.site h.records.rest k.keys.unrecorded lines
handed_says id k lines is keys h =
    let s : ℕ = id.site in
    let rest : List Record = h.records.rest in
    let un = k.keys.unrecorded in
    let good : All (Good s) (no_asks rest) = All-right (Good s) (no_asks k.handed) (no_asks rest)
    (subst (All (Good s)) (ap no_asks (sym h.records.whole) ∙ no_asks-append k.handed rest) (entries_good id k is)) in
    let lines_are : lines ≡ texts_of rest ++ key_lines un = h.whole ∙ ap (λ ls. ls ++ key_lines un) h.records.spelled in
    record {
      steps = ap (λ ls. no_asks (steps_in s ls)) lines_are
          ∙ ap no_asks (steps_in-append s (texts_of rest) (key_lines un)
          ∙ ap (λ rs. steps_in s (texts_of rest) ++ rs) (keys_no_steps s un keys) ∙ append-nil (steps_in s (texts_of rest)))
          ∙ texts_say_entries s rest good;
      said = ap keys_in lines_are ∙ keys_in-append (texts_of rest) (key_lines un)
          ∙ (λ i. keys_said un keys i ++ texts_no_keys rest i) ∙ append-nil (reverse un);
    }
