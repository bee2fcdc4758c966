use Rattle.std.proofs.Common.{◌∙◌, append_assoc, codes}
use Rattle.std.specs.Prelude.{decimal}
use Rattle.std.proofs.lemmas.Result.{on_ok_weaker}
use Rattle.journal_check.specs.Texts.{refused_number}
use Rattle.journal_check.proofs.json.put_refused_number.Goals as goal

pub returns-clause-ok : goal.returns-clause-ok
unfolding refused_number
returns-clause-ok c =
    let apart = append_assoc c.args.out.now.part (codes ",\"refused\":") (decimal c.args.number) in
    on_ok_weaker c.put_field.result (λ added. added ∙ apart) c.put_field.ensures.ok
