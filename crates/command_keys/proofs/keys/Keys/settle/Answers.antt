use Rattle.std.proofs.Common.{◌≡◌, ◌∙◌, ap, arith, sym, suc, length, List}
use Rattle.std.proofs.lemmas.List.Edits.{length-remove}
use Rattle.std.proofs.lemmas.Option.{slice_get_within}
use Rattle.command_keys.specs.Keys.{KeysValue}
use Rattle.command_keys.specs.declared.outcome.Waiting.{Waiting}
use Rattle.command_keys.proofs.Gone.{one_gone, none_gone}
use Rattle.command_keys.proofs.keys.Keys.settle.Goals as goal

pub spends-preserved : goal.spends-preserved
spends-preserved g c =
    let same : c.deref.result.now ≡ c.spends.self.waiting
    = c.deref.ensures.value ∙ ap (λ (k : KeysValue). k.waiting) c.self.view_is in
    let e = c.expire_at.ensures in
    let within = slice_get_within c.spends.self.waiting c.in-Some.index e.spend e.found in
    let fewer = length-remove c.spends.self.waiting c.in-Some.index within in
    let left = ap (λ (ws : List Waiting). length ws) e.others in (
      (
        suc c.spends.invariant.0.0,
        (
          c.spends.self,
          c.spends.invariant.0.1,
          one_gone c.args.requests.now
              c.deref.result.now c.spends.self c.in-Some.index c.expire_at.new.self same c.in-Some.ensures e,
        ),
      ),
      omega (arith, c.spends.invariant.1, fewer, left),
    )

pub returns-clause-settles : goal.returns-clause-settles
returns-clause-settles g c =
    let same : c.deref.result.now ≡ c.spends.self.waiting
    = c.deref.ensures.value ∙ ap (λ (k : KeysValue). k.waiting) c.self.view_is in
    record {
      count = c.spends.invariant.0.0;
      expire = c.spends.invariant.0.1;
      rest = none_gone c.args.requests.now c.deref.result.now c.spends.self same (sym c.in_default.is ∙ c.index_of_gone.ensures);
    }
