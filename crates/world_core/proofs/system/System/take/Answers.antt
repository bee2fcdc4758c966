use Rattle.std.proofs.Common.{◌≡◌, true, false, Some, None, inl, ap, sym, subst, refl, ◌∙◌, length}
use Rattle.std.specs.List.{slice_get}
use Rattle.std.proofs.lemmas.Result.{err_from_is_err_and}
use Rattle.rights_types.specs.Chains.{is_closed}
use Rattle.origin_log.specs.Logs.{LogValue}
use Rattle.site_core.specs.Faults.{has_closed}
use Rattle.world_core.specs.Bodies.{world_of}
use Rattle.world_core.specs.Worlds.{log, put, applied}
use Rattle.world_core.specs.LinkEvents.{TakesClosing}
use Rattle.world_core.proofs.EventPlaces.{link_known, Lent, lent, unchanged, LentRow, lent_row}
use Rattle.world_core.proofs.LinkCalls.{all_applied, CanApply, can_apply, takes}
use Rattle.world_core.proofs.system.System.take.Given as given
use Rattle.world_core.proofs.system.System.take.Goals as goal
use Rattle.world_core.proofs.system.System.take.Goals.{After-index_mut-desk, After-index-3, After-own-number, in-None}
use Rattle.world_core.proofs.system.System.take.Goals.{in-Some-back}

-- the desk that is borrowed is that of the site
lent_desk : (g : given.Over) (c : goal.After-index_mut-desk g)
    → Lent (world_of c.self.inside) c.args.self.now c.index.result c.args.site c.index_mut-desk.result.now
lent_desk g c =
    lent _ c.args.self.now _ _ _ c.self.view_is c.index.ensures.value
    (link_known c.args.self.now c.args.site c.args.origin c.requires.place).0 c.index_mut-desk.ensures.value

-- .. and so are the links from which the next entry is read
lent_links : (g : given.Over) (c : goal.After-index-3 g)
    → LentRow (world_of c.self.inside) c.args.self.now c.index-2.result c.args.site c.index-3.result.now
lent_links g c =
    lent_row _ c.args.self.now _ _ _ c.self.view_is c.index-2.ensures.value
    (link_known c.args.self.now c.args.site c.args.origin c.requires.place).0 c.requires.kept.rows c.index-3.ensures

pub returns-in_default : goal.returns-in_default
returns-in_default g c =
    let at = goal.at.returns-in_default g c in
    let w = c.args.self.now in
    let links = (lent_links g at.After-index-3).is in
    let none : slice_get (put w c.args.site c.args.origin) (length (applied w c.args.site c.args.origin)) ≡ None =
    sym (rw (c.in_default.is, links) at c.next.ensures) in
    let begins = (c.requires.kept.kept.links c.args.site c.args.origin).begins in
    (inl (all_applied _ _ begins none), unchanged _ w _ _ _ _ (lent_desk g at.After-index_mut-desk) refl)

-- the entry that was read is the next one
is_next : (g : given.Over) (c : goal.After-own-number g)
    → LentRow (world_of c.self.inside) c.args.self.now c.index-2.result c.args.site c.index-3.result.now
    → slice_get (put c.args.self.now c.args.site c.args.origin)
    (length (applied c.args.self.now c.args.site c.args.origin)) ≡ Some c.in-Some.entry.now
is_next g c links = sym (rw (c.in-Some.is, links.is) at c.next.ensures)

-- the desk has not closed
is_open : (g : given.Over) (c : goal.After-own-number g) → has_closed c.index_mut-desk.result.now ≡ false
is_open g c = ap (λ (l : LogValue). is_closed l.entries) (sym c.log.ensures.value) ∙ sym c.if-closed.ensures

pub apply-requires : goal.apply-requires
apply-requires g c =
    let at = goal.at.apply-requires g c in
    let w = c.args.self.now in
    let known = link_known w c.args.site c.args.origin c.requires.place in
    let next = is_next g at.After-own-number (lent_links g at.After-index-3) in
    let ready : CanApply c.index_mut-desk.result.now c.args.origin c.in-Some.entry.now =
    subst (λ d. CanApply d c.args.origin c.in-Some.entry.now) (sym (lent_desk g at.After-index_mut-desk).is)
    (can_apply w _ _ _ c.requires.kept known.0 known.1 known.2 next) in
    record {
      site = ready.site;
      other = ready.other;
      unclosed = ready.unclosed;
      next = ready.next;
      «open» = is_open g at.After-own-number;
    }

pub returns-in_err-back : goal.returns-in_err-back
returns-in_err-back g c =
    let at = goal.at.returns-in_err-back g c in
    let w = c.args.self.now in
    let desk = lent_desk g at.After-index_mut-desk in
    let next = is_next g at.After-own-number (lent_links g at.After-index-3) in
    let opened : is_closed (log w c.args.site) ≡ false =
    subst (λ d. has_closed d ≡ false) desk.is (is_open g at.After-own-number) in
    let closing : TakesClosing w c.args.site c.args.origin = (
      opened,
      c.in-Some.entry.now,
      next,
      λ none. (let bad : false ≡ true = c.in_err-back.ensures.memory none in
          absurd cc),
    ) in
    let err = err_from_is_err_and c.from_residual.result c.from_residual.ensures.1 in
    rw (err.1, err.2) (closing, unchanged _ w _ _ _ c.apply.new.self desk c.in_err-back.ensures.err)

pub returns : goal.returns
returns g c =
    let at = goal.at.returns g c in
    let w = c.args.self.now in
    let known = link_known w c.args.site c.args.origin c.requires.place in
    let desk = lent_desk g at.After-index_mut-desk in
    let next = is_next g at.After-own-number (lent_links g at.After-index-3) in
    let links =
    lent_row _ w _ _ _ c.self.view_is c.index-4.ensures.value known.0 c.requires.kept.rows c.index_mut.ensures.value in
    let taken = takes _ w _ _ _ _ c.own-number.result _ c.apply.new.self _ c.apply_next.new.self _ c.in_ok-back.back
    desk links c.apply_next.ensures next (is_open g at.After-own-number)
    c.own-number.ensures.value c.in_ok-back.ensures.ok c.in_ok-back.ensures.number in
    elim c.match-back.branch [
      | in-None b ↦ rw b.result-is (rw b.in-None.is at taken)
      | in-Some-back b ↦ rw b.result-is (rw b.in-Some-back.is at taken)
    ]
