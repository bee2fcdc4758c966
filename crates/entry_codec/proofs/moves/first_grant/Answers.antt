use Rattle.std.proofs.Common.{ap, ◌∙◌}
use Rattle.entry_codec.specs.Moves.{◌>>=◌}
use Rattle.entry_codec.proofs.FirstMoves.{grant_none, grant_peer, grant_first, granted}
use Rattle.entry_codec.proofs.moves.first_grant.Goals as goal

pub returns-in_err-peer : goal.returns-in_err-peer
returns-in_err-peer c = rw c.from_residual.ensures (grant_none c.args.values.now c.in_err-peer.ensures.value)

pub returns-in_err-amount : goal.returns-in_err-amount
returns-in_err-amount c =
    rw c.from_residual-in_err-amount.ensures
    (grant_peer c.args.values.now c.in_ok-peer.peer c.in_ok-peer.rest c.in_ok-peer.ensures.value
    c.in_err-amount.ensures.value)

pub returns-in_err-ask : goal.returns-in_err-ask
returns-in_err-ask c =
    let j = c.in_ok-peer.peer in
    let n = c.in_ok-amount.amount in
    rw c.from_residual-in_err-ask.ensures
    (grant_first c.args.values.now j n c.in_ok-peer.rest c.in_ok-amount.rest c.in_ok-peer.ensures.value
    c.in_ok-amount.ensures.value
    ∙ ap (λ o. o >>= granted j n) c.in_err-ask.ensures.value)

pub returns : goal.returns
returns c =
    let j = c.in_ok-peer.peer in
    let n = c.in_ok-amount.amount in
    rw (c.known.ensures, c.known-2.ensures, c.known-3.ensures)
    (grant_first c.args.values.now j n c.in_ok-peer.rest c.in_ok-amount.rest c.in_ok-peer.ensures.value
    c.in_ok-amount.ensures.value
    ∙ ap (λ o. o >>= granted j n) c.in_ok-ask.ensures.value)
