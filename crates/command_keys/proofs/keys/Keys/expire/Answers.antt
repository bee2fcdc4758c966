use Rattle.std.proofs.Common.{◌≡◌, ◌∙◌, [], ap}
use Rattle.command_keys.specs.Keys.{KeysValue}
use Rattle.command_keys.specs.declared.outcome.Waiting.{Waiting}
use Rattle.command_keys.proofs.Changes.{place_found}
use Rattle.command_keys.proofs.keys.Keys.expire.Goals as goal

pub expire_at-requires : goal.expire_at-requires
expire_at-requires g c =
    let none : Waiting = record { key = []; ticket = 0; amount = 0 } in
    let same : c.deref.result.now ≡ c.args.self.now.waiting
    = c.deref.ensures.value ∙ ap (λ (k : KeysValue). k.waiting) c.self.view_is in
    (place_found c.args.ticket c.deref.result.now c.args.self.now.waiting c.in-Some.index none same c.in-Some.ensures).1

pub returns-in-Some : goal.returns-in-Some
returns-in-Some g c =
    let none : Waiting = record { key = []; ticket = 0; amount = 0 } in
    let same : c.deref.result.now ≡ c.args.self.now.waiting
    = c.deref.ensures.value ∙ ap (λ (k : KeysValue). k.waiting) c.self.view_is in
    let place = place_found c.args.ticket c.deref.result.now c.args.self.now.waiting c.in-Some.index none same
    c.in-Some.ensures in
    rw place.0 c.expire_at.ensures
