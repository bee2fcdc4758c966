-- It gives the block back to the inner allocator, and leaves the count alone.
use Rattle.std.proofs.Common.{◌≡◌, [], ◌∷◌, refl, w64}
use Rattle.std.proofs.raw_atomic.Walks.{proved}
use base.Logic.{fst∗, never}
use base.Fml.{Fml, ftrue, fsep, flft}
use contract.BorrowLft.{◌⊑◌, ⊑_trans}
use contract.Monad.{fact}
use contract.Running.{tables}
use denote.Builtin.{usize, RawPtr}
use denote.Exit.{yes}
use denote.Plain.{uint_vals, uint_Tells}
use denote.RattleType.{owns}
use denote.RawPtr.{Ptr, block_ptr, null_ptr, in_a_block, room_for, rawptr_vals, rawptr_Tells}
use denote.Ref.{shr_vals}
use denote.Signature.{plain, types_at}
use denote.Steps.{heard, nothing}
use denote.Triple.Call.{calls_at}
use denote.Triple.Clauses.{Ended}
use denote.Triple.Table.{framed}
use denote.Triple.Walked.{Stays, Goes-dropped, ends_at, stay_dropped, walk_of}
use mir.MapTy.{inst_fn}
use mir.Val.{vint, vunit}
use prog.Memory.{align, capped, size}
use prog.Wp.{WpFn}
use types.ByLocal.{alloc_all, free_all, get, lands_as, look_at, pass_all, sets, through}
use types.Kit.{‵, raw, prop, ◌⊛◌, later, given, ◌$◌, ◌∵◌, !, qed, done, move, keep, use1, split, split3, join, fsplit}
use types.Kit.{fjoin, feq_i, learn, await, regoal, suffices, group}
use types.Logic.{sem}
use types.Run.{addr, and_then, enter, fld, no_more, of_opd, returns, stop, unit_lit}
use Rattle.std.proofs.alloc.Calls.{Al, token, Gives, at_gives, Gives-goes, Gives-Gives}
use Rattle.refusing_allocator.proofs.Parts.{handle, inner_at, picked, shows_fields}
use Rattle.refusing_allocator.specs.contracts.RefusingAllocator.deallocate as f
use Rattle.refusing_allocator.proofs.RefusingAllocator.deallocate.Statement.{statement}
use Rattle.refusing_allocator.proofs.RefusingAllocator.deallocate.Code as code

module _ (Z : Al) where
  abbrev ended : Ended
  ended = f.ended Z.row Z.g Z.d Z.drops

  abbrev stayed : Stays ended.signature.params ended.kept
  stayed = (stay_dropped _ yes, (stay_dropped _ yes, (stay_dropped _ yes, (stay_dropped _ yes, tt))))

pub deallocate_spec : {M : Type 1} → statement M
deallocate_spec 𝓤 𝓛 𝓜 𝓡 wired Y L g d d' met _ =
    let Z : Al = record { row = Y; laws = L; g = g; d = d; drops = d' } in
    let c = f.clauses Y g d d' 𝓛 𝓜.mem 𝓡.returns in let W = walk_of 𝓛 (ended Z) (stayed Z) c in let 𝓣
    = tables 𝓤 𝓛.H 𝓜 𝓡 𝓡.env in
    let word = Goes-dropped 𝓛 2 (plain (λ _. usize)) yes (λ κs x w. refl) in
    proved 𝓛 (ended Z) (stayed Z) c 𝓜 𝓡 (
      Goes-dropped 𝓛 2 (handle Z) yes (λ κs x w. refl),
      (Goes-dropped 𝓛 2 (plain (λ _. RawPtr)) yes (λ κs x w. refl), (word, (word, tt))),
    )
    (f.Key.name (picked Z)) (inst_fn (picked Z) code.function) (code.unfolded 𝓤 𝓛.H 𝓜 𝓡 wired (Y, tt) d d')
    (λ κs. (shr_vals, (rawptr_vals, (uint_vals w64, (uint_vals w64, tt)))))
    (λ κs. ((λ r vs s. s.0), (rawptr_Tells, (uint_Tells w64, (uint_Tells w64, tt)))))
    (λ κs qs bounds a τ are.
    let κ = κs.0 in let r = a.0 in let p = r.ref_ptr in let h = r.now.inner in let bytes = a.1.1.0 in let aligned
    = a.1.1.1.0 in
    let Owned : Ptr → Fml = λ x. fsep (room_for τ x) (token Z h τ x) in
    let y : Ptr → W.Ghost = λ x. (
      (
        κs,
        qs,
        bounds,
        (r, (x, (bytes, (aligned, tt)))),
        (shr_vals r, (rawptr_vals x, (vint w64 bytes ∷ [], (vint w64 aligned ∷ [], tt)))),
      ),
      τ,
    ) in
    let Given = Gives Z 𝓛 𝓜.mem 𝓡.returns in
    qed 𝓛 (((‵ (flft κ qs.0) ⊛ ‵ (flft κs.1.0 qs.1.0) ⊛ ‵ ftrue) ⊛ ‵
    (owns (types_at (ended Z).signature.params κs) a (y a.1.0).0.4))
    ∷ (raw (fact 𝓤 (κs.1.0 ⊑ Y.lives)) ⊛ raw (fact 𝓤 ((capped (size τ) ≡ bytes) × (capped (align τ) ≡ aligned))) ⊛ ‵
    (Owned a.1.0)) ∷ []) ∵
    move ! (1 ∷ []) $ split3 ! $ heard ! _ (λ le. heard ! _ (λ said.
    in_a_block ! a.1.0 Owned (fst∗ 𝓤 (never 𝓤) (sem 𝓛 (token Z h τ null_ptr))) (λ b o at.
    regoal ! (λ x. prop (WpFn 𝓤 𝓛.H 𝓣.C 𝓣.Λ (inst_fn (picked Z) code.function) (W.args (y x)) (W.post (y x)))) at refl $
    let z : Given.Ghost = at_gives Z 𝓛 𝓜.mem 𝓡.returns κ qs.0 (inner_at Z p) h b o bytes aligned τ in
    fsplit ! $ move ! (2 ∷ []) $ split ! $ split ! $ move ! (2 ∷ []) $ fsplit ! $ fsplit ! $ move !
    (1 ∷ []) $ shows_fields Z ! κ p r.now $
    -- [the `&` to the inner allocator; the count; two parts of the parameters; two tokens; the block; the right to free
    -- it]
    keep ! (6 ∷ 7 ∷ 0 ∷ 4 ∷ 5 ∷ []) $ group ! 4 $
    use1 𝓛 (raw (Given.pre z)) (Gives-goes Z 𝓛 𝓜.mem 𝓡.returns κ qs.0 (inner_at Z p) h
    (⊑_trans κ κs.1.0 Y.lives bounds.0 le) b o bytes aligned τ said.0 said.1 are.1.1.0.1 are.1.1.1.0.1) $
    enter ! _ _ _ _ _ $ alloc_all !
    (λ l. pass_all ! refl (
      (tt, tt),
      ((tt, tt), ((tt, record { fits = are.1.1.0.1 }), ((tt, record { fits = are.1.1.1.0.1 }), tt))),
    ) $
    sets ! (addr ! (through ! refl (fld ! refl (stop !)))) refl (tt, tt) $
    calls_at ! (framed 𝓤 𝓛.H 𝓜 𝓣) Given (met.deallocate d') z
    (and_then ! (get ! refl) (and_then ! (get ! refl) (and_then ! (get ! refl) (and_then ! (get ! refl) (no_more !)))))
    (λ v.
    use1 𝓛 (later (given (v ≡ vunit) (‵ (flft κ qs.0))))
    (Gives-Gives Z 𝓛 𝓜.mem 𝓡.returns κ qs.0 (inner_at Z p) h b o bytes aligned τ v) $
    await ! tt $ learn ! (λ is_unit. lands_as ! is_unit refl (tt, tt) $ sets ! (of_opd ! (unit_lit !)) refl
    (tt, tt) $ returns ! (look_at ! 0 refl) $ free_all ! refl $
    suffices ! _ (ends_at 𝓛 (ended Z) (stayed Z) c (y (block_ptr b o)) vunit tt (tt, (tt, (tt, (tt, tt))))
    (tt, (tt, (tt, (tt, tt))))) $
    -- [two tokens]
    join ! $ nothing ! $ feq_i ! _ (vunit ∷ []) _ refl $ nothing ! $ nothing ! $ fjoin ! $ nothing ! $ fjoin ! $ nothing
    ! $ fjoin ! $ nothing ! $ fjoin ! $
    move ! (3 ∷ 0 ∷ 1 ∷ 2 ∷ []) $ group ! 3 $ done !)))))))
