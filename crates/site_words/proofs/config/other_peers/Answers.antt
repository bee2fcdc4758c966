use Rattle.std.proofs.Common.{◌+◌, sym, subst, arith, string_bytes}
use Rattle.std.proofs.lemmas.Result.{err_from_is_err_and}
use Rattle.clap.specs.Walk.{texts}
use Rattle.site_words.specs.Settings.{IsNamed}
use Rattle.site_words.proofs.Peers.{others_contains, peer_added}
use Rattle.site_words.proofs.config.other_peers.Goals as goal

pub returns-in_err-address : goal.returns-in_err-address
returns-in_err-address c =
    let p = err_from_is_err_and c.from_residual.result c.from_residual.ensures.1 in
    rw p.1 (λ refused. (
      c.loop-index.index + 1,
      others_contains c.args.id c.args.sites (c.loop-index.index + 1) (omega arith) (omega arith) c.if-number-id.false,
      rw c.in_err-address.ensures.ok_part at c.address_among.ensures,
    ))

pub loop-index-preserved : goal.loop-index-preserved
loop-index-preserved c =
    let words = texts c.args.words.now in
    let address = string_bytes c.in_ok-from_str.field-0 in
    let found : IsNamed words (record { site = c.loop-index.index + 1; address = c.in_ok-address.address.now }) =
    rw c.in_ok-address.ensures.ok_part at c.address_among.ensures in
    let kept : IsNamed words (record { site = c.loop-index.index + 1; address = address }) =
    subst (λ a. IsNamed words (record { site = c.loop-index.index + 1; address = a }))
    (sym c.in_ok-from_str.ensures.ok) found in
    let named : IsNamed words (record { site = c.known.result; address = address }) =
    subst (λ n. IsNamed words (record { site = n; address = address })) (sym c.known.ensures) kept in
    peer_added words c.args.id c.loop-index.index c.loop-index.peers.items c.push.new.self.items _
    c.in_ok-push.ensures.items
    c.if-number-id.false c.known.ensures named c.loop-index.invariant
