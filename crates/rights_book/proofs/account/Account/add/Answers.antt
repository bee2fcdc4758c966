use Rattle.std.proofs.Common.{◌≡◌, ◌+◌, [], drop, sym, ap, ◌∙◌, arith}
use Rattle.std.proofs.lemmas.List.{drop_all}
use Rattle.rights_book.specs.Accounts.{with_moves}
use Rattle.rights_book.specs.declared.account.Account.{Account}
use Rattle.rights_types.proofs.Sums.{next_move}
use Rattle.rights_book.proofs.AccountLaws.{with_moves-cons, with_moves-nil}
use Rattle.rights_book.proofs.account.Account.add.Goals as goal

pub loop-m-preserved : goal.loop-m-preserved
loop-m-preserved c =
    let ms = c.args.moves.now in
    let m = c.m-item.result in
    let a = c.loop-m.self in
    let rest = drop (c.loop-m.m-index + 1) ms in
    let next = next_move ms c.loop-m.m-index m c.loop-m-test.true c.m-item.is in
    record {
      added = ap (λ (x : Account). with_moves x rest) c.add_move.ensures.added ∙ with_moves-cons a m rest
          ∙ ap (with_moves a) (sym next) ∙ c.loop-m.invariant.added;
      valid = c.add_move.ensures.valid;
      end = omega (arith, ap (λ (x : Account). x.end) c.add_move.ensures.added, c.loop-m.invariant.end);
    }

pub returns : goal.returns
returns c =
    let ms = c.args.moves.now in
    let none : drop c.loop-m.m-index ms ≡ [] = drop_all c.loop-m.m-index ms c.loop-m-test.false in
    record {
      added = sym (with_moves-nil c.loop-m.self) ∙ ap (with_moves c.loop-m.self) (sym none) ∙ c.loop-m.invariant.added;
      valid = c.loop-m.invariant.valid;
    }
