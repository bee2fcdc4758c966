use Rattle.std.proofs.Common.{◌∙◌, append_assoc, codes}
use Rattle.std.specs.Prelude.{decimal}
use Rattle.std.proofs.lemmas.Result.{on_ok_weaker}
use Rattle.journal_check.proofs.texts.put_damage.Goals as goal

pub returns-clause-ok : goal.returns-clause-ok
returns-clause-ok c =
    let apart = append_assoc c.args.out.now.part (codes "damage at byte ") (decimal c.args.at_byte) in
    on_ok_weaker c.put_field.result (λ added. added ∙ apart) c.put_field.ensures.ok
