-- What the walks of `allocate` and `deallocate` share.
--     Whole, Left               the row of a `Refusing` over the allocator Z, and that of its field `left`
--     picked, handle            the arguments that stand for the type parameter, and the parameter `self`
--     inner_at, left_at         where a `Refusing` at a place has its fields
--     shows_fields              a step: of a `&` to it, a `&` to each field
--     Asked, asking             the contract of `refuses_next`, and what a call of it picks
--     Asked-goes, Asked-gives   what the call is handed, and what it gives: its lifetime's token, and a `bool`
use Rattle.std.proofs.Common.{◌≡◌, ℕ, ◌+◌, Bool, List, [], ◌∷◌, refl, ap}
use seplogic.Ra.Ura.{Ura}
use mir.Syntax.{Args, a_type, dnil, dcons}
use mir.Val.{Val, vbool, vptr}
use base.Logic.{SProp, ent, sep, ex, guard, id⊢}
use base.Fml.{Lft, Share, ftrue, flft}
use prog.Memory.{Memory, size, align, up}
use prog.Routine.{Routine}
use types.Logic.{Logic, sem}
use types.Kit.{Item, Goal, Step, step, ‵, raw, ◌⊛◌, some, later, ◌$◌, ◌∵◌, !, qed, done, keep, move, drop, use1, split}
use types.Kit.{join, fsplit, fjoin, feq_i, feq_l}
use types.Kit.{pick, check, show, await, updating, now as at_once}
use contract.Monad.{Fun}
use denote.Builtin.{bool, u64, RefOf}
use denote.Memory.{hidden_shr}
use denote.Opens.{unhide}
use denote.Param.{bounded, param}
use denote.RattleType.{RattleType}
use denote.Signature.{Slot, plain}
use denote.Steps.{nothing, only}
use denote.Triple.Clauses.{lasts}
use denote.Triple.Statement.{Contract}
use denote.Triple.Spec.{triple_of}
use Rattle.std.proofs.alloc.Calls.{Al, α, seen}
use Rattle.std.specs.contracts.cell.Cell
use Rattle.std.specs.contracts.option.Option
use Rattle.refusing_allocator.specs.contracts.Refusing
use Rattle.refusing_allocator.specs.contracts.refuses_next

abbrev pub Left : RattleType
Left = Cell.the_row (Option.the_row u64)

module _ (Z : Al) where
  abbrev pub Whole : RattleType
  Whole = Refusing.the_row (param 0 Z.row)

  abbrev pub picked : Args
  picked = bounded (a_type ∷ []) (Z.row, tt) (dcons Z.d (dcons Z.drops dnil))

  abbrev pub handle : Slot 2
  handle = RefOf (0 ∷ []) tt (plain (λ _. Whole)) (λ _. tt)

  abbrev pub inner_at : ℕ × ℕ → ℕ × ℕ
  inner_at p = (p.0, p.1 + up (align (α Z)) 0)

  abbrev pub left_at : ℕ × ℕ → ℕ × ℕ
  left_at p = (p.0, p.1 + up 8 (up (align (α Z)) 0 + size (α Z)))

  module _ {M : Type 1} {𝓤 : Ura M} {𝓛 : Logic 𝓤} {K : Type 0} {Γ : List (Item 𝓤)} {G : Goal 𝓤 𝓛.H} where
    pub shows_fields : K → (κ : Lft) (p : ℕ × ℕ) (h : Whole.Denot)
        → Step K 𝓛 (‵ (seen Z κ (inner_at p) h.inner) ∷ ‵ (hidden_shr Left κ h.left (left_at p).0 (left_at p).1) ∷ Γ) G
        (‵ (hidden_shr Whole κ h p.0 p.1) ∷ Γ) G
    shows_fields t κ p h = step (λ next.
        unhide t $ fsplit t $ fsplit t $ use1 𝓛 (‵ (seen Z κ (inner_at p) h.inner)) (id⊢ 𝓤 _) $
        -- [the first field; the other fields; the gaps between fields]
        move t (2 ∷ []) $ drop t $ move t (1 ∷ []) $ fsplit t $
        use1 𝓛 (‵ (hidden_shr Left κ h.left (left_at p).0 (left_at p).1)) (id⊢ 𝓤 _) $ move t (1 ∷ []) $ drop t $ move t
        (1 ∷ []) $ next)

module _ {M : Type 1} {𝓤 : Ura M} (𝓛 : Logic 𝓤) (at_mem : Memory → SProp 𝓤) (run : Routine → Fun 𝓤) where
  open 𝓛 use {H, A}

  abbrev pub Asked : Contract 𝓤
  Asked = triple_of 𝓛 refuses_next.signature (refuses_next.spec 𝓛 at_mem run)

  module _ (κ : Lft) (q : Share) (p : ℕ × ℕ) (n : Left.Denot) where
    abbrev pub asking : Asked.Ghost
    asking = (((κ, tt), (q, tt), tt, (record { ref_ptr = p; now = n }, tt), (vptr p.0 p.1 ∷ [], tt)), tt)

    pub Asked-goes : ent 𝓤 (sep 𝓤 (sem 𝓛 (hidden_shr Left κ n p.0 p.1)) (A.lft κ q)) (Asked.pre asking)
    Asked-goes = qed 𝓛 (‵ (hidden_shr Left κ n p.0 p.1) ∷ ‵ (flft κ q) ∷ []) ∵
        feq_i ! (List Val) (vptr p.0 p.1 ∷ []) (vptr p.0 p.1 ∷ []) refl $ fjoin ! $ nothing ! $ move !
        (1 ∷ []) $ fjoin ! $
        nothing ! $ move ! (2 ∷ []) $ join ! $ join ! $ nothing ! $ move ! (1 ∷ []) $ join ! $ done !

    pub Asked-gives : (v : Val)
        → ent 𝓤 (Asked.post asking v) (H.⇛ (ex 𝓤 (λ (t : Bool). guard 𝓤 (v ≡ vbool t) (A.lft κ q))))
    Asked-gives v = qed 𝓛 (raw (Asked.post asking v) ∷ []) ∵ updating ! $
        use1 𝓛 (later (some (λ (t : Bool). ((‵ (flft κ q) ⊛ ‵ ftrue) ⊛ ‵ (bool.own_val t (v ∷ [])))
        ⊛ some (λ (ws : Unit {0} × Unit {0}). ‵ (lasts refuses_next.ended (κ, tt) asking.0.3 ws) ⊛ ‵ ftrue))))
        (id⊢ 𝓤 _) $ await ! tt $
        pick ! (λ t. split ! $ split ! $ move ! (1 ∷ []) $ feq_l ! (λ e. split ! $ at_once ! $
        show ! (λ (x : Bool). guard 𝓤 (v ≡ vbool x) (A.lft κ q)) t $ check ! (ap only e) $ keep ! (0 ∷ []) $ done !))
