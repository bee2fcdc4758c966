use Rattle.std.proofs.Common.{[], ◌∷◌, ◌++◌, subst, sym}
use Rattle.thread_parts.specs.Ends.{InletValue}
use Rattle.thread_parts.specs.Items.{IsItemChain}
use Rattle.thread_parts.proofs.ends.Inlet.send_ready.Goals as goal

pub push-requires : goal.push-requires
push-requires g c =
    let longer = subst (λ (v : InletValue _). IsItemChain v.put → IsItemChain (v.put ++ c.args.item ∷ []))
    (sym c.self.view_is) c.requires in
    longer c.self.invariant
