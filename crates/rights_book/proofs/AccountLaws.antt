-- Accounts, and the moves that are added to them.
use Rattle.std.proofs.Common.{◌≡◌, ℕ, ◌+◌, Bool, true, false, List, [], ◌∷◌, ◌++◌, refl, sym, ap, ◌∙◌, arith}
use Rattle.std.specs.Prelude.{◌||◌}
use Rattle.std.specs.List.{list_any}
use Rattle.rights_types.specs.Entries.{EntryValue}
use Rattle.rights_types.specs.Chains.{moves_of}
use Rattle.rights_types.specs.Moves.{is_close}
use Rattle.rights_types.specs.Rights.{issued, spent, out, taken_back}
use Rattle.rights_types.specs.declared.moves.Move.{Move}
use Rattle.rights_types.proofs.Chains.{end-push, closed-push}
use Rattle.rights_types.proofs.Sums.{moves_of-nil, moves_of-push, issued-append, spent-append, out-append}
use Rattle.rights_types.proofs.Sums.{taken_back-append, issued-cons, spent-cons, out-cons, taken_back-cons, issued-nil}
use Rattle.rights_types.proofs.Sums.{spent-nil, out-nil, taken_back-nil}
use Rattle.rights_book.specs.Accounts.{no_account, account_of, with_move, with_moves}
use Rattle.rights_book.specs.declared.account.Account.{Account}

or_later : (a b c : Bool) → ((a || b) || c) ≡ (a || (b || c))
or_later true b c = refl
or_later false b c = refl

or_false : (a : Bool) → (a || false) ≡ a
or_false true = refl
or_false false = refl

-- an account has the sums of its log
abbrev made : ℕ → ℕ → ℕ → ℕ → ℕ → Bool → Account
made n i s g b c = record { end = n; issued = i; spent = s; given = g; back = b; closed = c }

same_account : (x y : Account) → x.end ≡ y.end → x.issued ≡ y.issued → x.spent ≡ y.spent → x.given ≡ y.given
    → x.back ≡ y.back → x.closed ≡ y.closed → x ≡ y
same_account x y n i s g b c =
    ap (λ k. made k x.issued x.spent x.given x.back x.closed) n
    ∙ ap (λ k. made y.end k x.spent x.given x.back x.closed) i
    ∙ ap (λ k. made y.end y.issued k x.given x.back x.closed) s
    ∙ ap (λ k. made y.end y.issued y.spent k x.back x.closed) g
    ∙ ap (λ k. made y.end y.issued y.spent y.given k x.closed) b
    ∙ ap (λ k. made y.end y.issued y.spent y.given y.back k) c

-- one move, and then the others
pub with_moves-cons : (a : Account) (m : Move) (ms : List Move) → with_moves (with_move a m) ms ≡ with_moves a (m ∷ ms)
with_moves-cons a m ms =
    same_account (with_moves (with_move a m) ms) (with_moves a (m ∷ ms)) (omega arith) (omega (arith, issued-cons m ms))
    (omega (arith, spent-cons m ms))
    (omega (arith, out-cons m ms)) (omega (arith, taken_back-cons m ms))
    (or_later a.closed (is_close m) (list_any is_close ms))

pub with_moves-nil : (a : Account) → with_moves a [] ≡ a
with_moves-nil a =
    same_account (with_moves a []) a (omega arith) (omega (arith, issued-nil)) (omega (arith, spent-nil))
    (omega (arith, out-nil)) (omega (arith, taken_back-nil)) (or_false a.closed)

pub account_of-nil : account_of [] ≡ no_account
account_of-nil =
    same_account (account_of []) no_account refl (rw moves_of-nil issued-nil) (rw moves_of-nil spent-nil)
    (rw moves_of-nil out-nil) (rw moves_of-nil taken_back-nil) refl

-- the account of a log with one more entry, which follows its end
pub account_of-push : (es : List EntryValue) (e : EntryValue) (a : Account) → a ≡ account_of es → e.prev ≡ a.end
    → a.closed ≡ false
    → with_moves a e.moves ≡ account_of (es ++ e ∷ [])
account_of-push es e a is next unclosed =
    let ms : List Move = moves_of es in
    let pushed = moves_of-push es e in
    same_account (with_moves a e.moves) (account_of (es ++ e ∷ []))
    (omega (arith, next, end-push es e))
    (rw pushed (ap (λ (b : Account). b.issued + issued e.moves) is ∙ sym (issued-append ms e.moves)))
    (rw pushed (ap (λ (b : Account). b.spent + spent e.moves) is ∙ sym (spent-append ms e.moves)))
    (rw pushed (ap (λ (b : Account). b.given + out e.moves) is ∙ sym (out-append ms e.moves)))
    (rw pushed (ap (λ (b : Account). b.back + taken_back e.moves) is ∙ sym (taken_back-append ms e.moves)))
    (rw unclosed (sym (closed-push false es e)))
