use Rattle.std.proofs.Common.{◌≡◌, ◌∙◌, Some, sym, subst}
use Rattle.std.specs.List.{All}
use Rattle.std.proofs.lemmas.Result.{IfOk-weaker}
use Rattle.rights_types.specs.Entries.{EntryValue}
use Rattle.world_core.specs.Values.{LinkValue}
use Rattle.world_core.proofs.LinksLaws.{lends, is_there}
use Rattle.world_core.proofs.links.Links.take_answer.Goals as goal

pub take_answer-requires-clause-origin : goal.take_answer-requires-clause-origin
take_answer-requires-clause-origin g c =
    let there = c.requires.there in
    let at = lends _ c.args.self.now _ _ _ _ c.self.view_is c.index.ensures.value (is_there _ there.0 there.1)
    c.index_mut.ensures.value c.in-Some.is in
    let both : Some there.0 ≡ Some c.in-Some.link = sym there.1 ∙ at.is in
    let same : there.0 ≡ c.in-Some.link = cc in
    subst (λ (l : LinkValue). All (λ (e : EntryValue). e.origin ≡ l.inbound.buffer.origin) c.args.entries.items) same
    there.2

pub returns-clause-ok : goal.returns-clause-ok
returns-clause-ok g c =
    let there = c.requires.there in
    let at = lends _ c.args.self.now _ _ _ _ c.self.view_is c.index.ensures.value (is_there _ there.0 there.1)
    c.index_mut.ensures.value c.in-Some.is in
    IfOk-weaker c.take_answer.result _ _
    (λ verdicts takes. (c.in-Some.link, c.take_answer.new.self, at.is, at.changed _, takes))
    c.take_answer.ensures.ok
