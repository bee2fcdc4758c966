-- The replies to lines, one after another.
use Rattle.std.proofs.Common.{◌≡◌, ℕ, List, [], ◌∷◌, ◌++◌, Some, refl, ap, ◌∙◌, sym, subst, append_assoc, append-nil}
use Rattle.line_streams.specs.Handling.{Answering, LinesGet}
use Rattle.line_streams.specs.declared.handler.Goes.{Goes}
use Rattle.line_streams.specs.declared.handler.Goes.TheVariants.{On, Ends}

module _ {S : Type 0} (answers : Answering S) where
  pub lines_append : (old mid new : S) (lines more : List (List ℕ)) (text rest : List ℕ)
      → LinesGet answers old lines text mid → LinesGet answers mid more rest new
      → LinesGet answers old (lines ++ more) (text ++ rest) new
  lines_append old mid new [] more text rest p q = rw (p.0) (subst (λ (s : S). LinesGet answers s more rest new) p.1 q)
  lines_append old mid new (line ∷ lines) more text rest p q = (
    p.0,
    p.1,
    p.2 ++ rest,
    p.3,
    lines_append p.1 mid new lines more p.2 rest p.4 q,
    ap (λ (l : List ℕ). l ++ rest) p.5 ∙ append_assoc (p.0 ++ 10 ∷ []) p.2 rest,
  )

  pub lines_one : (old new : S) (line reply : List ℕ) → answers old line (Some reply) new
      → LinesGet answers old (line ∷ []) (reply ++ 10 ∷ []) new
  lines_one old new line reply a = (reply, new, [], a, (refl, refl), sym (append-nil (reply ++ 10 ∷ [])))

-- a line that did not end the conversation
pub goes_on : (goes : Goes) → (goes ≡ Ends → ⊥) → goes ≡ On
goes_on On other = refl
goes_on Ends other = absurd (other refl)
