use Rattle.std.proofs.Common.{◌≡◌, List, [], ◌∷◌, Result, Ok, sym, subst, arith}
use Rattle.std.specs.List.{All, Contains}
use Rattle.std.proofs.lemmas.List.Elements.{All-nil, All-cons, All-head}
use Rattle.rights_types.specs.Entries.{EntryValue}
use Rattle.rights_types.specs.Values.{value_of}
use Rattle.rights_types.specs.declared.message.Message.{Message}
use Rattle.rights_types.specs.declared.message.Message.TheVariants.{Push, Answer, Ask, Deny, Hello}
use Rattle.rights_protocol.specs.Lists.{IsSiteOf}
use Rattle.world_core.specs.Values.{WorldValue}
use Rattle.world_core.specs.Worlds.{count, log}
use Rattle.world_core.specs.Bodies.{world_of}
use Rattle.world_core.specs.LinkEvents.{EntriesCome, MessageComes}
use Rattle.world_core.specs.Sound.{MayCome}
use Rattle.world_core.specs.declared.fault.WorldError.{WorldError}
use Rattle.world_core.specs.declared.reply.Reply.{Reply}
use Rattle.world_core.specs.declared.reply.Reply.TheVariants.{Verdicts, HeardBeat, Noted}
use Rattle.world_core.proofs.EventPlaces.{lent, lent_row, with_row_at}
use Rattle.world_core.proofs.IndexLaws.{desk_of}
use Rattle.world_core.proofs.MessageLaws.{entries_fit, entries_arrive, link_there, beat_comes, denial_comes}
use Rattle.world_core.proofs.system.System.message_comes.Given as given
use Rattle.world_core.proofs.system.System.message_comes.Goals as goal
use Rattle.world_core.proofs.system.System.message_comes.Goals.{Start}

-- what an arm knows of the message that it matched
may_come : (g : given.Over) (c : goal.Start g) (m : Message g.row.A.Denot) → c.args.message ≡ m
    → MayCome c.args.self.now c.args.from c.args.site (value_of m)
may_come g c m is = subst (λ x. MayCome c.args.self.now c.args.from c.args.site (value_of x)) is c.requires.may

-- .. and what it has to show of the whole message
comes : (g : given.Over) (c : goal.Start g) (m : Message g.row.A.Denot)
    (outcome : Result (Reply g.row.A.Denot) WorldError) (new : WorldValue) → c.args.message ≡ m
    → MessageComes c.args.self.now c.args.site c.args.from (value_of m) outcome new
    → MessageComes c.args.self.now c.args.site c.args.from (value_of c.args.message) outcome new
comes g c m outcome new is h =
    subst (λ x. MessageComes c.args.self.now c.args.site c.args.from (value_of x) outcome new) (sym is) h

pub take_entry-requires : goal.take_entry-requires
take_entry-requires g c =
    let at =
    lent_row _ c.args.self.now _ _ _ c.self.view_is c.index.ensures.value c.requires.site c.requires.kept.rows
    c.index_mut-links.ensures.value in
    let may = may_come g (goal.at.take_entry-requires g c).Start (Push c.in-Push.entry) c.in-Push.is in
    let is_logged = Contains (log c.args.self.now c.args.from) in
    let logged = All-cons is_logged c.in-Push.entry [] may (All-nil is_logged) in
    let fit =
    entries_fit _ c.args.self.now _ _ c.args.from _ (c.in-Push.entry ∷ []) c.requires.kept c.requires.site
    c.requires.from
    c.requires.differ at logged in
    record {
      there = (
        fit.0,
        fit.1,
        All-head (λ (e : EntryValue). e.origin ≡ fit.0.inbound.buffer.origin)
            c.in-Push.entry [] fit.2,
      );
    }

pub take_answer-requires : goal.take_answer-requires
take_answer-requires g c =
    let at =
    lent_row _ c.args.self.now _ _ _ c.self-in-Answer.view_is c.index-in-Answer.ensures.value c.requires.site
    c.requires.kept.rows c.index_mut-links-in-Answer.ensures.value in
    let may = may_come g (goal.at.take_answer-requires g c).Start (Answer c.in-Answer.answer) c.in-Answer.is in
    let logged = subst (All (Contains (log c.args.self.now c.args.from))) (sym c.into_entries-entries.ensures.value)
    may.2 in
    let fit =
    entries_fit _ c.args.self.now _ _ c.args.from _ c.into_entries-entries.result.items c.requires.kept c.requires.site
    c.requires.from c.requires.differ at logged in
    record { there = (fit.0, fit.1, fit.2); few = c.into_entries-entries.ensures.few }

pub hear-requires : goal.hear-requires
hear-requires g c =
    let at =
    lent_row _ c.args.self.now _ _ _ c.self-in-Beat.view_is c.index-in-Beat.ensures.value c.requires.site
    c.requires.kept.rows c.index_mut.ensures.value in
    let valid = c.number.ensures.valid.number in
    record {
      there = link_there _ c.args.self.now _ _ c.args.from _ c.requires.kept c.requires.site c.requires.from
          c.requires.differ at;
      number = omega (arith, valid, c.number.ensures.value);
    }

pub ask_comes-requires : goal.ask_comes-requires
ask_comes-requires g c =
    let may = may_come g (goal.at.ask_comes-requires g c).Start (Ask c.in-Ask.ask) c.in-Ask.is in
    record {
      kept = c.requires.kept;
      site = c.requires.site;
      asker = subst (IsSiteOf (count c.args.self.now)) (sym may.0) c.requires.from;
      asked = may.1;
    }

pub on_deny-requires : goal.on_deny-requires
on_deny-requires g c =
    let may = may_come g (goal.at.on_deny-requires g c).Start (Deny c.in-Deny.deny) c.in-Deny.is in
    let at =
    lent _ c.args.self.now _ _ _ c.self-in-Deny.view_is c.index-in-Deny.ensures.value c.requires.site
    c.index_mut-in-Deny.ensures.value in
    let is = desk_of c.args.self.now c.args.site _ c.requires.kept c.requires.site at.is in
    record { site = omega (arith, is.0, may.0, c.denier.ensures.value, c.requires.from.1) }

pub unreachable-requires : goal.unreachable-requires
unreachable-requires g c = may_come g (goal.at.unreachable-requires g c).Start (Hello c.in-Hello.field-0) c.in-Hello.is

pub returns-in_ok-verdicts-in-Push : goal.returns-in_ok-verdicts-in-Push
returns-in_ok-verdicts-in-Push g c =
    let start = (goal.at.returns-in_ok-verdicts-in-Push g c).Start in
    let w = c.args.self.now in
    let at =
    lent_row _ w _ _ _ c.self.view_is c.index.ensures.value c.requires.site c.requires.kept.rows
    c.index_mut-links.ensures.value in
    let may = may_come g start (Push c.in-Push.entry) c.in-Push.is in
    let verdicts = c.in_ok-verdicts-in-Push.verdicts in
    let t = c.in_ok-verdicts-in-Push.ensures.ok in
    comes g start (Push c.in-Push.entry) (Ok (Verdicts verdicts)) _ c.in-Push.is
    (entries_arrive g.row.A.Denot _ w _ _ c.args.from _ c.take_entry.new.self t.0 t.1 (c.in-Push.entry ∷ []) verdicts
    c.requires.kept at t.2 t.3 (t.4 (log w c.args.from) may))

pub returns-in_ok-verdicts-in-Answer : goal.returns-in_ok-verdicts-in-Answer
returns-in_ok-verdicts-in-Answer g c =
    let start = (goal.at.returns-in_ok-verdicts-in-Answer g c).Start in
    let w = c.args.self.now in
    let at =
    lent_row _ w _ _ _ c.self-in-Answer.view_is c.index-in-Answer.ensures.value c.requires.site c.requires.kept.rows
    c.index_mut-links-in-Answer.ensures.value in
    let may = may_come g start (Answer c.in-Answer.answer) c.in-Answer.is in
    let same = c.into_entries-entries.ensures.value in
    let logged = subst (All (Contains (log w c.args.from))) (sym same) may.2 in
    let verdicts = c.in_ok-verdicts-in-Answer.verdicts in
    let t = c.in_ok-verdicts-in-Answer.ensures.ok in
    let come =
    entries_arrive g.row.A.Denot _ w _ _ c.args.from _ c.take_answer.new.self t.0 t.1
    c.into_entries-entries.result.items
    verdicts c.requires.kept at t.2 t.3 (t.4 (log w c.args.from) logged) in
    let left = with_row_at (world_of c.self-in-Answer.inside) c.index-in-Answer.result c.take_answer.new.self in
    comes g start (Answer c.in-Answer.answer) (Ok (Verdicts verdicts)) _ c.in-Answer.is
    (subst (λ (es : List EntryValue). EntriesCome {A = g.row.A.Denot} w c.args.site c.args.from es
    (Ok (Verdicts verdicts))
    left) same come)

pub returns-in-Query : goal.returns-in-Query
returns-in-Query g c = comes g (goal.at.returns-in-Query g c).Start _ _ _ c.in-Query.is c.query_comes.ensures

pub returns-in-Ask : goal.returns-in-Ask
returns-in-Ask g c = comes g (goal.at.returns-in-Ask g c).Start _ _ _ c.in-Ask.is c.ask_comes.ensures

pub returns-in-Beat : goal.returns-in-Beat
returns-in-Beat g c =
    let at =
    lent_row _ c.args.self.now _ _ _ c.self-in-Beat.view_is c.index-in-Beat.ensures.value c.requires.site
    c.requires.kept.rows c.index_mut.ensures.value in
    let h = c.hear.ensures in
    comes g (goal.at.returns-in-Beat g c).Start _ (Ok HeardBeat) _ c.in-Beat.is
    (beat_comes g.row.A.Denot _ _ _ _ c.args.from c.in-Beat.beat.number c.number.result _ c.hear.new.self h.0 at
    c.number.ensures.value h.1 h.2)

pub returns-in-Deny : goal.returns-in-Deny
returns-in-Deny g c =
    let at =
    lent _ c.args.self.now _ _ _ c.self-in-Deny.view_is c.index-in-Deny.ensures.value c.requires.site
    c.index_mut-in-Deny.ensures.value in
    comes g (goal.at.returns-in-Deny g c).Start _ (Ok Noted) _ c.in-Deny.is
    (denial_comes g.row.A.Denot _ _ _ _ c.denier.result c.ask.result _ c.on_deny.new.self c.in-Deny.deny at
    c.denier.ensures.value c.ask.ensures.value c.on_deny.ensures)
