-- A check of a journal that is asked for, or refused.
use Rattle.std.proofs.Common.{◌≡◌, ◌∙◌, List, Result, Err, refl, sym, ap, subst}
use Rattle.std.specs.Prelude.{IsErrAnd}
use Rattle.std.proofs.lemmas.Result.{err_from_is_err_and}
use Rattle.clap.specs.Walk.{Row}
use Rattle.site_words.specs.Checks.{Check, IsAskedBy, IsCheckBy}
use Rattle.site_words.specs.declared.words.WordsFault.{WordsFault}
use Rattle.site_words.specs.declared.words.WordsFault.TheVariants.{OutOfMemory, Refused}

none_asked : (rows : List Row) (fault : WordsFault) → (fault ≡ Refused → (c : Check) → IsAskedBy rows c → ⊥)
    → IsCheckBy rows (Err fault)
none_asked rows Refused none = none refl
none_asked rows OutOfMemory none = tt

-- a refusal that `?` returns is right if there is no such check
pub check_refused_on : (rows : List Row) (r : Result Check WordsFault) (fault : WordsFault)
    → IsErrAnd r (λ e. e ≡ fault) → (fault ≡ Refused → (c : Check) → IsAskedBy rows c → ⊥) → IsCheckBy rows r
check_refused_on rows r fault err none =
    let p = err_from_is_err_and r err in
    subst (IsCheckBy rows) (sym (p.1 ∙ ap Err p.2)) (none_asked rows fault none)
