use Rattle.std.proofs.Common.{Ok, ap, sym, ◌∙◌, Vec}
use Rattle.std.proofs.lemmas.Result.{err_from_is_err_and}
use Rattle.rights_types.specs.Entries.{EntryValue}
use Rattle.rights_types.specs.Messages.{AnswerValue}
use Rattle.rights_types.specs.Messages.MessageValue.{AnAnswer}
use Rattle.entry_codec.specs.Parts.{left, parts_left}
use Rattle.entry_codec.proofs.AnswerMessages.{sites_are, answer_entries_are, made_answer, answer_sites_fail}
use Rattle.entry_codec.proofs.AnswerMessages.{answer_refused, answer_done, answer_no_want}
use Rattle.entry_codec.proofs.Lines.{gives_fault}
use Rattle.entry_codec.proofs.answer.answer_in.Goals as goal

pub returns-in_err-origin : goal.returns-in_err-origin
returns-in_err-origin g c =
    let p = err_from_is_err_and c.from_residual.result c.from_residual.ensures.1 in
    let fields = left 32 c.args.fields in
    let others = parts_left c.args.others in
    rw (p.1, p.2) (gives_fault (λ (a : AnswerValue). AnAnswer a) c.in_err-origin.field-0.0 _
    (answer_sites_fail fields others c.in_err-origin.field-0.0 c.in_err-origin.ensures.sites)
    (answer_no_want fields others))

pub returns-in_err-entries : goal.returns-in_err-entries
returns-in_err-entries g c =
    let p = err_from_is_err_and c.from_residual-in_err-entries.result c.from_residual-in_err-entries.ensures.1 in
    rw (p.1, p.2) (answer_refused (λ (a : AnswerValue). AnAnswer a) (λ (v : Vec EntryValue g.row.A.Denot). v.items)
    (left 32 c.args.fields) (parts_left c.args.others) (c.in_ok-origin.origin, c.in_ok-origin.asker)
    c.in_err-entries.field-0.0 c.in_ok-origin.ensures.sites c.in_err-entries.ensures)

pub known-requires : goal.known-requires
known-requires g c =
    let o = c.in_ok-origin.origin in
    let s = c.in_ok-origin.asker in
    let es = c.in_ok-entries.entries.items in
    let sites = sites_are (left 32 c.args.fields) (o, s) c.in_ok-origin.ensures.sites in
    let entries = answer_entries_are o (parts_left c.args.others) es sites.origin c.in_ok-entries.ensures in
    rw (c.known-origin.ensures, c.known-asker.ensures)
    (made_answer (o, s) (left 32 c.args.fields) (parts_left c.args.others) es sites entries)

pub returns : goal.returns
returns g c =
    let is = rw (c.known-origin.ensures, c.known-asker.ensures) at c.known.ensures in
    answer_done (left 32 c.args.fields) (parts_left c.args.others) (c.in_ok-origin.origin, c.in_ok-origin.asker)
    c.in_ok-entries.entries.items c.in_ok-origin.ensures.sites c.in_ok-entries.ensures
    ∙ ap (λ (a : AnswerValue). Ok (AnAnswer a)) (sym is)
