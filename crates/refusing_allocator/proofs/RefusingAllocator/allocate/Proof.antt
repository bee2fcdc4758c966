-- It calls `refuses_next`, and on `false` returns what the inner allocator returns.
use Rattle.std.proofs.Common.{◌≡◌, Bool, true, false, [], ◌∷◌, Ok, Err, refl, w64}
use Rattle.std.proofs.VecSteps.Shapes.{after}
use Rattle.std.proofs.raw_atomic.Walks.{proved}
use base.Fml.{ftrue, flft}
use contract.BorrowLft.{◌⊑◌, ⊑_trans}
use contract.Monad.{fact}
use contract.Running.{tables}
use denote.Builtin.{usize}
use denote.Exit.{yes}
use denote.Plain.{uint_vals, uint_Tells}
use denote.RattleType.{owns}
use denote.RawPtr.{block_ptr}
use denote.Ref.{shr_vals}
use denote.Signature.{plain, types_at}
use denote.Steps.{heard, nothing}
use denote.Triple.Call.{calls_at}
use denote.Triple.Clauses.{Ended}
use denote.Triple.Table.{framed}
use denote.Triple.Walked.{Stays, Goes-dropped, ends_at, stay_dropped, walk_of}
use mir.MapTy.{inst_fn}
use mir.Val.{vbool, vint}
use prog.Memory.{align, capped, size}
use types.ByLocal.{alloc_all, env, free_all, get, lands_as, look_at, pass_all, sets, through}
use types.Kit.{‵, raw, prop, at_ret, Sq, ◌⊛◌, some, later, given, ◌$◌, ◌∵◌, !, qed, done, move, keep, use0, use1, use2}
use types.Kit.{split, join, fsplit, fjoin, pick, learn, await, suffices, group}
use types.Part.{agg}
use types.Run.{addr, and_then, branches, enter, exec, first, fld, lit, no_more, returns, returns_within, skips, stop}
use Rattle.std.proofs.alloc.Calls.{Al, Answer, Answer-Ok, Answer-err, Answer-typed, Answered, Takes, Takes-gives}
use Rattle.std.proofs.alloc.Calls.{Takes-goes, answer_val, answers, at_takes}
use Rattle.refusing_allocator.proofs.Parts.{Asked, Asked-gives, Asked-goes, asking, handle, inner_at, left_at, picked}
use Rattle.refusing_allocator.proofs.Parts.{shows_fields}
use Rattle.refusing_allocator.proofs.refuses_next.Met as asked
use Rattle.refusing_allocator.specs.contracts.RefusingAllocator.allocate as f
use Rattle.refusing_allocator.proofs.RefusingAllocator.allocate.Statement.{statement}
use Rattle.refusing_allocator.proofs.RefusingAllocator.allocate.Code as code

module _ (Z : Al) where
  abbrev ended : Ended
  ended = f.ended Z.row Z.g Z.d Z.drops

  abbrev stayed : Stays ended.signature.params ended.kept
  stayed = (stay_dropped _ yes, (stay_dropped _ yes, (stay_dropped _ yes, tt)))

pub allocate_spec : {M : Type 1} → statement M
allocate_spec 𝓤 𝓛 𝓜 𝓡 wired Y L g d d' met _ =
    let Z : Al = record { row = Y; laws = L; g = g; d = d; drops = d' } in
    let c = f.clauses Y g d d' 𝓛 𝓜.mem 𝓡.returns in let W = walk_of 𝓛 (ended Z) (stayed Z) c in let 𝓣
    = tables 𝓤 𝓛.H 𝓜 𝓡 𝓡.env in
    let word = Goes-dropped 𝓛 2 (plain (λ _. usize)) yes (λ κs x w. refl) in let here
    = inst_fn (picked Z) code.function in
    proved 𝓛 (ended Z) (stayed Z) c 𝓜 𝓡 (Goes-dropped 𝓛 2 (handle Z) yes (λ κs x w. refl), (word, (word, tt)))
    (f.Key.name (picked Z)) here (code.unfolded 𝓤 𝓛.H 𝓜 𝓡 wired (Y, tt) d d')
    (λ κs. (shr_vals, (uint_vals w64, (uint_vals w64, tt))))
    (λ κs. ((λ r vs s. s.0), (uint_Tells w64, (uint_Tells w64, tt))))
    (λ κs qs bounds a τ are.
    let κ = κs.0 in let r = a.0 in let p = r.ref_ptr in let h = r.now.inner in let bytes
    = a.1.0 in let aligned = a.1.1.0 in
    let y : W.Ghost = (
      (
        κs,
        qs,
        bounds,
        (r, (bytes, (aligned, tt))),
        (shr_vals r, (vint w64 bytes ∷ [], (vint w64 aligned ∷ [], tt))),
      ),
      τ,
    ) in
    let Next = Asked 𝓛 𝓜.mem 𝓡.returns in let next = asking 𝓛 𝓜.mem 𝓡.returns κ qs.0 (left_at Z p) r.now.left in
    let Taken = Takes Z 𝓛 𝓜.mem 𝓡.returns in let taking
    = at_takes Z 𝓛 𝓜.mem 𝓡.returns κ qs.0 (inner_at Z p) h bytes aligned τ in
    -- the end of both paths that return `Err`, from the two tokens
    let none : Sq 𝓛 (‵ (flft κ qs.0) ∷ (‵ (flft κs.1.0 qs.1.0) ⊛ ‵ ftrue) ∷ [])
    (prop (W.post y (answer_val false 0 0))) =
    suffices ! _ (ends_at 𝓛 (ended Z) (stayed Z) c y (answer_val false 0 0) (Err (record {})) (tt, (tt, (tt, tt)))
    (tt, (tt, (tt, tt)))) $
    join ! $ nothing ! $ use0 𝓛 (‵ (Answer.own_val (Err (record {})) (answer_val false 0 0 ∷ []))) (Answer-err 𝓛) $
    nothing ! $ nothing ! $ fjoin ! $ nothing ! $ fjoin ! $ nothing ! $ fjoin ! $ move !
    (3 ∷ 0 ∷ 1 ∷ 2 ∷ []) $ group ! 3 $ done ! in
    qed 𝓛 (((‵ (flft κ qs.0) ⊛ ‵ (flft κs.1.0 qs.1.0) ⊛ ‵ ftrue) ⊛ ‵
    (owns (types_at (ended Z).signature.params κs) a y.0.4))
    ∷ (raw (fact 𝓤 (κs.1.0 ⊑ Y.lives)) ⊛ raw (fact 𝓤 ((capped (size τ) ≡ bytes) × (capped (align τ) ≡ aligned)))) ∷ [])
    ∵
    move ! (1 ∷ []) $ split ! $ heard ! _ (λ le. heard ! _ (λ said.
    split ! $ split ! $ move ! (2 ∷ []) $ fsplit ! $ fsplit ! $ move ! (1 ∷ []) $ shows_fields Z ! κ p r.now $
    -- [the `&` to the inner allocator; the `&` to the count; two parts of the parameters; two tokens]
    keep ! (1 ∷ 4 ∷ 0 ∷ 5 ∷ []) $ use2 𝓛 (raw (Next.pre next))
    (Asked-goes 𝓛 𝓜.mem 𝓡.returns κ qs.0 (left_at Z p) r.now.left) $
    enter ! _ _ _ _ _ $ alloc_all !
    (λ l. pass_all ! refl (
      (tt, tt),
      ((tt, record { fits = are.1.0.1 }), ((tt, record { fits = are.1.1.0.1 }), tt)),
    ) $
    sets ! (addr ! (through ! refl (fld ! refl (stop !)))) refl (tt, tt) $
    calls_at ! (framed 𝓤 𝓛.H 𝓜 𝓣) Next
    (asked.met 𝓤 𝓛 𝓜 𝓡 (code.calls-refusing_allocator::refuses_next 𝓡.env wired)) next
    (and_then ! (get ! refl) (no_more !)) (λ u.
    use1 𝓛 (later (some (λ (t : Bool). given (u ≡ vbool t) (‵ (flft κ qs.0)))))
    (Asked-gives 𝓛 𝓜.mem 𝓡.returns κ qs.0 (left_at Z p) r.now.left u) $ await ! tt $
    pick ! (λ t. learn ! (λ is. lands_as ! is refl (tt, tt) $
    -- [a token; the `&` to the inner allocator; a token]
    first ! $ branches ! (get ! refl)
    (λ refused. sets ! (agg ! (no_more !)) refl (tt, tt) $
    sets ! (agg ! (and_then ! (lit ! tt) (and_then ! (get ! refl) (no_more !)))) refl (Answer-typed false 0 0) $
    returns_within ! (W.post y) refl (look_at ! 0 refl) $ free_all ! refl $ keep ! (0 ∷ 2 ∷ []) $ none)
    (λ granted. skips ! $ exec ! 𝓣.C 𝓣.Λ (env here.locals l) (after 3 here.body) (at_ret _ (W.post y)) $
    sets ! (addr ! (through ! refl (fld ! refl (stop !)))) refl (tt, tt) $ move ! (1 ∷ 0 ∷ []) $
    use2 𝓛 (raw (Taken.pre taking)) (Takes-goes Z 𝓛 𝓜.mem 𝓡.returns κ qs.0 (inner_at Z p) h
    (⊑_trans κ κs.1.0 Y.lives bounds.0 le) bytes aligned τ said.0 said.1 are.1.0.1 are.1.1.0.1) $
    calls_at ! (framed 𝓤 𝓛.H 𝓜 𝓣) Taken (met.allocate d') taking
    (and_then ! (get ! refl) (and_then ! (get ! refl) (and_then ! (get ! refl) (no_more !)))) (λ v.
    use1 𝓛 (later (raw (Answered Z 𝓛 𝓜.mem 𝓡.returns h τ v) ⊛ ‵ (flft κ qs.0)))
    (Takes-gives Z 𝓛 𝓜.mem 𝓡.returns κ qs.0 (inner_at Z p) h bytes aligned τ v) $
    await ! tt $ split ! $ answers Z ! 𝓜.mem 𝓡.returns h τ v
    (λ b o e. fjoin ! $ lands_as ! e refl (Answer-typed true b o) $ returns ! (look_at ! 0 refl) $ free_all ! refl $
    suffices ! _ (ends_at 𝓛 (ended Z) (stayed Z) c y (answer_val true b o) (Ok (block_ptr b o)) (tt, (tt, (tt, tt)))
    (tt, (tt, (tt, tt)))) $
    use0 𝓛 (‵ (Answer.own_val (Ok (block_ptr b o)) (answer_val true b o ∷ []))) (Answer-Ok 𝓛 b o) $
    -- [the result; the block with the right to free it; two tokens]
    nothing ! $ nothing ! $ fjoin ! $ nothing ! $ fjoin ! $ nothing ! $ fjoin ! $ move !
    (3 ∷ 4 ∷ []) $ join ! $ group ! 3 $ done !)
    (λ e. lands_as ! e refl (Answer-typed false 0 0) $ returns ! (look_at ! 0 refl) $ free_all ! refl $ none))))))))))
