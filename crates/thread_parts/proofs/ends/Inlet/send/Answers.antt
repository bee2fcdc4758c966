use Rattle.std.proofs.Common.{[], ◌∷◌, ◌++◌, subst, sym, ◌∙◌}
use Rattle.thread_parts.specs.Ends.{InletValue}
use Rattle.thread_parts.specs.Items.{IsItemChain}
use Rattle.thread_parts.specs.declared.item.Item.{Item}
use Rattle.thread_parts.proofs.ends.Inlet.send.Goals as goal

pub send_ready-requires : goal.send_ready-requires
send_ready-requires g c =
    let same = sym (c.is_cut.ensures ∙ c.loop.invariant.1) in
    let item = sym c.loop.invariant.0 in
    subst (λ (x : InletValue _ × Item _). IsItemChain x.0.put → IsItemChain (x.0.put ++ x.1 ∷ []))
    (λ i. (same i, item i)) c.requires
