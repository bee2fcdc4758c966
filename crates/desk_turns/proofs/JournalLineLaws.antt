-- What is handed over is read back.
use Rattle.std.proofs.Common.{◌≡◌, ◌∙◌, ℕ, List, ◌++◌, reverse, refl, sym, ap, subst}
use Rattle.std.specs.List.{All}
use Rattle.std.proofs.lemmas.List.{append-nil}
use Rattle.rights_protocol.specs.Crashes.{Record, lists_of, no_lists}
use Rattle.rights_types.specs.Chains.{IsChain}
use Rattle.site_records.specs.KeyRecords.{keys_in}
use Rattle.site_records.specs.Restores.{steps_in}
use Rattle.apply_lanes.specs.Names.{DeskId}
use Rattle.apply_lanes.specs.Kepts.{KeptValue, IsKept}
use Rattle.apply_lanes.specs.Recorders.{texts_of, key_lines}
use Rattle.apply_lanes.proofs.StepLaws.{protocol_of}
use Rattle.desk_turns.specs.JournalLines.{FitsIfAsk, HandedReadsBack}
use Rattle.desk_turns.proofs.RecordTexts.{Good, all_good, texts_say, texts_no_keys, keys_no_steps, keys_said, steps_in-append}
use Rattle.desk_turns.proofs.RecordTexts.{keys_in-append, All-right}

records_good : (id : DeskId) (k : KeptValue) → IsKept id k → All FitsIfAsk k.records → All (Good id.site) k.records
records_good id k is fits =
    let p = protocol_of id k is in
    all_good id.site (lists_of id.site k.records) (subst (IsChain id.site) is.protocol.log p.chain) p.chains p.itself
    no_lists k.records refl fits

pub handed_reads_back : HandedReadsBack
handed_reads_back id k lines is fits keys h =
    let s : ℕ = id.site in
    let rest : List Record = h.records.rest in
    let un = k.keys.unrecorded in
    let good : All (Good s) rest = All-right (Good s) k.handed rest
    (subst (All (Good s)) (sym h.records.whole) (records_good id k is fits)) in
    let lines_are : lines ≡ texts_of rest ++ key_lines un = h.whole ∙ ap (λ ls. ls ++ key_lines un) h.records.spelled in
    record {
      steps = ap (steps_in s) lines_are ∙ steps_in-append s (texts_of rest) (key_lines un)
          ∙ (λ i. texts_say s rest good i ++ keys_no_steps s un keys i) ∙ append-nil rest;
      said = ap keys_in lines_are ∙ keys_in-append (texts_of rest) (key_lines un)
          ∙ (λ i. keys_said un keys i ++ texts_no_keys rest i) ∙ append-nil (reverse un);
    }
