use Rattle.std.proofs.Common.{ap, ◌∙◌}
use Rattle.entry_codec.specs.Moves.{◌>>=◌}
use Rattle.entry_codec.proofs.FirstMoves.{give_none, give_first, gave}
use Rattle.entry_codec.proofs.moves.first_give.Goals as goal

pub returns-in_err-peer : goal.returns-in_err-peer
returns-in_err-peer c = rw c.from_residual.ensures (give_none c.args.values.now c.in_err-peer.ensures.value)

pub returns-in_err-amount : goal.returns-in_err-amount
returns-in_err-amount c =
    rw c.from_residual-in_err-amount.ensures
    (give_first c.args.values.now c.in_ok-peer.peer c.in_ok-peer.rest c.in_ok-peer.ensures.value
    ∙ ap (λ o. o >>= gave c.in_ok-peer.peer) c.in_err-amount.ensures.value)

pub returns : goal.returns
returns c =
    rw (c.known.ensures, c.known-2.ensures)
    (give_first c.args.values.now c.in_ok-peer.peer c.in_ok-peer.rest c.in_ok-peer.ensures.value
    ∙ ap (λ o. o >>= gave c.in_ok-peer.peer) c.in_ok-amount.ensures.value)
