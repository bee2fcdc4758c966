use Rattle.std.proofs.Common.{sym, ap, ◌∙◌, arith}
use Rattle.rights_book.specs.Books.{BookValue, account}
use Rattle.rights_book.specs.declared.account.Account.{Account}
use Rattle.rights_book.proofs.CallLaws.{back_left, own_account}
use Rattle.parts_tests.proofs.tests.book.calls.write.Goals as goal

pub own-requires-clause-back : goal.own-requires-clause-back
own-requires-clause-back g c =
    back_left c.args.book.now c.args.moves.now c.all_in_range.ensures
    (λ j low high. c.loop-index.invariant j low (omega arith))

pub own-requires-clause-unclosed : goal.own-requires-clause-unclosed
own-requires-clause-unclosed g c =
    let b : BookValue = c.args.book.now in
    ap (λ (a : Account). a.closed) (sym (own_account b)) ∙ ap (λ k. (account b k).closed) (sym c.me-me.ensures.value)
    ∙ sym c.if-closed.ensures.value
