use Rattle.std.proofs.Common.{◌≡◌, ℕ, List, Result, Ok, sym, ap, refl, subst, ◌∙◌, arith}
use Rattle.transfer_manager.specs.declared.answer.AskAnswer.{AskAnswer}
use Rattle.transfer_manager.specs.declared.answer.AskAnswer.TheVariants.{Grant, Repeated, OldAsk}
use Rattle.entry_codec.specs.Spelling.{LineOf}
use Rattle.site_core.specs.Calls.{denial_of, DeskAnswers}
use Rattle.world_core.specs.Values.{PacketValue, WorldValue}
use Rattle.world_core.specs.Values.BodyValue.{Text}
use Rattle.world_core.specs.Worlds.{with_desk}
use Rattle.world_core.specs.Bodies.{world_of}
use Rattle.world_core.specs.LinkEvents.{AskComesBy, AskComes}
use Rattle.world_core.specs.declared.fault.WorldError.{WorldError}
use Rattle.world_core.specs.declared.reply.Reply.{Reply}
use Rattle.world_core.specs.declared.reply.Reply.TheVariants.{Granted, Denied, GrantedBefore, Old}
use Rattle.world_core.proofs.EventPlaces.{Lent, lent, with_at}
use Rattle.world_core.proofs.IndexLaws.{desk_of}
use Rattle.world_core.proofs.LinkCalls.{sends_line}
use Rattle.world_core.proofs.MessageLaws.{with_desk_at, desk_same, answered, grants, denies, wants_memory}
use Rattle.world_core.proofs.system.System.ask_comes.Given as given
use Rattle.world_core.proofs.system.System.ask_comes.Goals as goal
use Rattle.world_core.proofs.system.System.ask_comes.Goals.{After-index_mut, In_ok-reply}

-- the desk that is borrowed is that of the site
lent_desk : (g : given.Over) (c : goal.After-index_mut g)
    → Lent (world_of c.self.inside) c.args.self.now c.index.result c.args.site c.index_mut.result.now
lent_desk g c =
    lent _ c.args.self.now _ _ _ c.self.view_is c.index.ensures.value c.requires.site c.index_mut.ensures.value

pub on_ask-requires-clause-site : goal.on_ask-requires-clause-site
on_ask-requires-clause-site g c =
    let at = lent_desk g (goal.at.on_ask-requires-clause-site g c).After-index_mut in
    let is = desk_of c.args.self.now c.args.site _ c.requires.kept c.requires.site at.is in
    omega (arith, is.0, c.requires.asker.1)

pub on_ask-requires-clause-mine : goal.on_ask-requires-clause-mine
on_ask-requires-clause-mine g c =
    let at = lent_desk g (goal.at.on_ask-requires-clause-mine g c).After-index_mut in
    c.requires.asked ∙ sym (desk_of c.args.self.now c.args.site _ c.requires.kept c.requires.site at.is).1

pub returns-in_err-reply : goal.returns-in_err-reply
returns-in_err-reply g c =
    let at = lent_desk g (goal.at.returns-in_err-reply g c).After-index_mut in
    wants_memory g.row.A.Denot c.args.self.now c.args.site c.args.ask.now _ _ c.from_residual-in_err-reply.ensures.1
    (desk_same _ _ _ _ _ c.on_ask.new.self _ at c.in_err-reply.ensures.err c.in_ok-reserve_line.ensures.items)

pub returns-in-Grant-Some-default : goal.returns-in-Grant-Some-default
returns-in-Grant-Some-default g c =
    let at = lent_desk g (goal.at.returns-in-Grant-Some-default g c).After-index_mut in
    let arm = c.in-Grant-Some-default in
    let was = c.index_mut.result.now in
    let ask = c.args.ask.now in
    let d = c.on_ask.new.self in
    let left = subst (λ x. DeskAnswers was ask x c.in_ok-reply.reply.number d) arm.is-0 c.in_ok-reply.ensures.ok in
    let told = subst (λ n. DeskAnswers was ask (Grant arm.field-0-0) n d) arm.is-1 left in
    answered g.row.A.Denot _ c.args.self.now _ _ _ ask (Grant arm.field-0-0) (Ok (Granted arm.number)) _ at
    (sym arm.is-0 ∙ c.in_ok-reply.ensures.answer)
    (grants g.row.A.Denot _ _ _ _ _ d ask _ _ _ at told c.in_ok-reserve_line.ensures.items)

pub returns-in-Deny-default-Some : goal.returns-in-Deny-default-Some
returns-in-Deny-default-Some g c =
    let at = lent_desk g (goal.at.returns-in-Deny-default-Some g c).After-index_mut in
    let w = c.args.self.now in
    let site = c.args.site in
    let ask = c.args.ask.now in
    let d = c.on_ask.new.self in
    let text = c.in-Deny-default-Some.line in
    let answer = c.in_ok-reply.reply.answer in
    let line =
    subst (λ l. LineOf (λ (t : List ℕ). t) (denial_of ask answer) l) c.in-Deny-default-Some.is-2
    c.in_ok-reply.ensures.line in
    let packet : PacketValue = record { from = site; to = c.asker.result; body = Text text } in
    let made : packet ≡ record { from = site; to = ask.asker; body = Text text } =
    ap (λ (k : ℕ). record { from = site; to = k; body = Text text }) c.asker.ensures.value in
    let sent =
    sends_line g.row.A.Denot (λ (t : List ℕ). t) (with_at (world_of c.self.inside) c.index.result d)
    (with_desk w site d)
    site ask.asker c.add_line-number.result (denial_of ask answer) text text packet c.reserve_line.new.self.items
    c.add_line-number.new.self.items (at.changed d) line refl made c.in_ok-reserve_line.ensures.items
    c.add_line-number.ensures.number c.add_line-number.ensures.added in
    answered g.row.A.Denot _ w _ _ _ ask answer (Ok (Denied c.add_line-number.result)) _ at
    c.in_ok-reply.ensures.answer
    (denies g.row.A.Denot _ w _ _ _ d ask answer c.in_ok-reply.reply.number _ _ at c.in_ok-reply.ensures.ok sent)

-- an answer that leaves the desk as it was
answers_again : (g : given.Over) (c : goal.In_ok-reply g) (answer : AskAnswer)
    (outcome : Result (Reply g.row.A.Denot) WorldError)
    → ((new : WorldValue) → new ≡ c.args.self.now
    → AskComesBy answer c.args.self.now c.args.site c.args.ask.now outcome new)
    → c.in_ok-reply.reply.answer ≡ answer → c.on_ask.new.self ≡ c.index_mut.result.now
    → Lent (world_of c.self.inside) c.args.self.now c.index.result c.args.site c.index_mut.result.now
    → AskComes c.args.self.now c.args.site c.args.ask.now outcome
    (with_desk_at (world_of c.self.inside) c.index.result c.on_ask.new.self c.reserve_line.new.self.items)
answers_again g c answer outcome comes is same at =
    answered g.row.A.Denot _ c.args.self.now _ _ _ c.args.ask.now answer outcome _ at
    (sym is ∙ c.in_ok-reply.ensures.answer)
    (comes _ (desk_same _ _ _ _ _ c.on_ask.new.self _ at same c.in_ok-reserve_line.ensures.items))

pub returns-in-Repeated-default-default : goal.returns-in-Repeated-default-default
returns-in-Repeated-default-default g c =
    let at = goal.at.returns-in-Repeated-default-default g c in
    let is = c.in-Repeated-default-default.is-0 in
    let left = rw is at c.in_ok-reply.ensures.ok in
    answers_again g at.In_ok-reply Repeated (Ok GrantedBefore) (λ _ h. h) is left.1 (lent_desk g at.After-index_mut)

pub returns-in-OldAsk-default-default : goal.returns-in-OldAsk-default-default
returns-in-OldAsk-default-default g c =
    let at = goal.at.returns-in-OldAsk-default-default g c in
    let is = c.in-OldAsk-default-default.is-0 in
    let left = rw is at c.in_ok-reply.ensures.ok in
    answers_again g at.In_ok-reply OldAsk (Ok Old) (λ _ h. h) is left.1 (lent_desk g at.After-index_mut)
