-- The kinds of error that clap gives for the words are those of what they ask for.
use Rattle.std.proofs.Common.{◌≢◌, ◌≡◌, ◌∙◌, ◌==◌, ◌||◌, ℕ, Bool, cond, codes, true, false, zero, suc, refl, sym, ap}
use Rattle.std.proofs.Common.{ap₂, subst, arith, List, [], ◌∷◌, length, Option, Result, Ok, Err, inl, inr, ⊎_elim, Some}
use Rattle.std.proofs.Common.{None, is_some, true≢false}
use Rattle.std.specs.Prelude.{⊤, option_and_then, option_map, slice_get}
use Rattle.std.specs.List.{list_all}
use Rattle.std.specs.Option.{option_map_or}
use Rattle.std.specs.Str.{bytes_eq, chars}
use Rattle.std.proofs.lemmas.Slice.Eq.{bytes_eq-Decides}
use Rattle.std.proofs.lemmas.Bool.{and_parts, eqb-true}
use Rattle.std.proofs.lemmas.Bool.Decides.{nat_tests}
use Rattle.clap.specs.Lexer.{has_byte, long_of, name_and_value, short_of}
use Rattle.clap.specs.Walk.{Row, finished, settled, walk, Names, Rule, Text, Walk, idle, long_or_other, nothing_held}
use Rattle.clap.specs.Walk.{short_or_plain, plain, subcommand_met, subcommand_or_other, walk_from}
use Rattle.clap.specs.Simple.{App, HasMatchesOf, Shape, built, entered, is_simple, names_of, subcommand_of}
use Rattle.clap.specs.Simple.{subcommand_rows_of}
use Rattle.clap.specs.declared.parser.matches.ArgMatches.{ArgMatches}
use Rattle.clap.specs.Kinds.{HasKind, IsAmong, Kinds, or_else}
use Rattle.clap.specs.Values.{kind_of}
use Rattle.clap.specs.Faults.{bundle_fault, stray_fault, check_fault, defaults_fault, entered_fault, fault_of}
use Rattle.clap.specs.Faults.{is_simple_and_free, flag_word_fault, flags_fault, level_fault, other_fault, settle_fault}
use Rattle.clap.specs.Faults.{step_fault, turn_fault, walk_fault}
use Rattle.clap.specs.declared.error.Error.{Error}
use Rattle.clap.specs.declared.error.kind.ErrorKind.{ErrorKind}
use Rattle.clap.specs.declared.error.kind.ErrorKind.TheVariants as kind
use Rattle.clap.proofs.CutLemmas.{Lacks}
use Rattle.clap.proofs.FaultLemmas.{fault_ends, stopped_fault}
use Rattle.clap.proofs.LexerLemmas.{name_and_value-without}
use Rattle.clap.proofs.OnLiterals.{clap_on_literals}
use Rattle.clap.proofs.WalkLemmas.{bundle_ends, walk_stopped}
use Rattle.site_words.specs.Asked.{Asked, asked_behind_dashes, asked_behind_sim, asked_of_check, asked_of_clap}
use Rattle.site_words.specs.Asked.{asked_of_site, asks_for_help, help, journal, nothing, script, site, version}
use Rattle.site_words.specs.CommandLine.{app}
use Rattle.site_words.specs.Words.{AnswersMet, ChecksBy, MayAnswer, MayRefuse, RunsBy, WantsHelp, is_refusal}
use Rattle.site_words.specs.declared.words.Command.{Command}
use Rattle.site_words.specs.declared.words.Command.TheVariants.{Sim, Run, CheckJournal, Help, Version}
use Rattle.site_words.specs.declared.words.WordsFault.{WordsFault}
use Rattle.site_words.specs.declared.words.WordsFault.TheVariants.{OutOfMemory, Refused}

-- ---- what was asked for, by the kinds of error

abbrev AreRefusals : Kinds → Type 0
AreRefusals [] = ⊥
AreRefusals (k ∷ ks) = list_all is_refusal (k ∷ ks) ≡ true

abbrev pub FaultsAs : Asked → Kinds → Type 0
FaultsAs script kinds = kinds ≡ []
FaultsAs (site known rows) kinds = kinds ≡ known
FaultsAs (journal known rows) kinds = kinds ≡ known
FaultsAs help kinds = kinds ≡ kind.DisplayHelp ∷ []
FaultsAs version kinds = ⊥
FaultsAs nothing kinds = AreRefusals kinds

abbrev help_or_nothing : Bool → Asked
help_or_nothing asks = cond asks help nothing

-- a step that fails decides, whatever follows
first_decides : (asks : Bool) (first next : Kinds) → FaultsAs (help_or_nothing asks) first
    → FaultsAs (help_or_nothing asks) (or_else first next)
first_decides true first next h = ap (λ k. or_else k next) h
first_decides false [] next h = absurd h
first_decides false (k ∷ ks) next h = h

-- ---- `--help`

or_parts : (a b : Bool) → (a || b) ≡ false → (a ≡ false) × (b ≡ false)
or_parts true b h = absurd (true≢false h)
or_parts false b h = (refl, h)

abbrev is_long_help : Option (Text × Option Text) → Bool
is_long_help None = false
is_long_help (Some (name, None)) = bytes_eq (codes "help") name
is_long_help (Some (name, Some v)) = false

lacks : (c : ℕ) (xs : List ℕ) → has_byte c xs ≡ false → Lacks c xs
lacks c [] none i lt = absurd (omega arith)
lacks c (x ∷ xs) none zero lt = let parts = or_parts (x == c) (has_byte c xs) none in grind (arith, nat_tests)
lacks c (x ∷ xs) none (suc i) lt = lacks c xs (or_parts (x == c) (has_byte c xs) none).1 i (omega arith)

-- a text in which clap sees the flag `help` with no value
whole_name : (text : Text) (has : Bool) → has_byte 61 text ≡ has → is_long_help (Some (name_and_value text)) ≡ true
    → text ≡ codes "help"
whole_name text true has asks =
    let bad : false ≡ true = rw has at asks in
    absurd (true≢false (sym bad))
whole_name text false has asks =
    let split = name_and_value-without text (lacks 61 text has) in
    let named : bytes_eq (codes "help") text ≡ true = rw split at asks in
    sym ((bytes_eq-Decides (codes "help") text).0 named)

long_help_behind : (first second : Bool) (x y : ℕ) (rest : Text) → (x == 45) ≡ first → (y == 45) ≡ second
    → is_long_help (long_of (x ∷ y ∷ rest)) ≡ true → x ∷ y ∷ rest ≡ codes "--help"
long_help_behind false second x y rest e f asks =
    let bad : false ≡ true = rw e at asks in
    absurd (true≢false (sym bad))
long_help_behind true false x y rest e f asks =
    let bad : false ≡ true = rw (e, f) at asks in
    absurd (true≢false (sym bad))
long_help_behind true true x y [] e f asks =
    let bad : false ≡ true = rw (e, f) at asks in
    absurd (true≢false (sym bad))
long_help_behind true true x y (z ∷ rest) e f asks =
    let name : z ∷ rest ≡ codes "help" = whole_name (z ∷ rest) (has_byte 61 (z ∷ rest)) refl (rw (e, f) at asks) in
    let first : x ≡ 45 = eqb-true x 45 e in
    let second : y ≡ 45 = eqb-true y 45 f in
    cc

long_help_is : (word : Text) → is_long_help (long_of word) ≡ true → word ≡ codes "--help"
long_help_is [] asks = absurd (true≢false (sym asks))
long_help_is (x ∷ []) asks = go (x == 45) refl
  where
    go : (first : Bool) → (x == 45) ≡ first → x ∷ [] ≡ codes "--help"
    go true e =
        let bad : false ≡ true = rw e at asks in
        absurd (true≢false (sym bad))
    go false e =
        let bad : false ≡ true = rw e at asks in
        absurd (true≢false (sym bad))
long_help_is (x ∷ y ∷ rest) asks = long_help_behind (x == 45) (y == 45) x y rest refl refl asks

-- `--help` is the only word in which clap sees the flag `help` with no value
long_help : (word : Text) → bytes_eq word (codes "--help") ≡ is_long_help (long_of word)
long_help word = go (bytes_eq word (codes "--help")) (is_long_help (long_of word)) refl refl
  where
    go : (same asks : Bool) → bytes_eq word (codes "--help") ≡ same → is_long_help (long_of word) ≡ asks → same ≡ asks
    go true true e f = refl
    go false false e f = refl
    go true false e f =
        let is : word ≡ codes "--help" = (bytes_eq-Decides word (codes "--help")).0 e in
        let bad : true ≡ false = rw is at f in
        absurd (true≢false bad)
    go false true e f =
        let bad : true ≡ false = rw (long_help_is word f) at e in
        absurd (true≢false bad)

-- a word that begins `--` has no short flags
no_short_flags : (word : Text) (p : Text × Option Text) → long_of word ≡ Some p → short_of word ≡ None
no_short_flags [] p long = refl
no_short_flags (x ∷ []) p long = go (x == 45) refl
  where
    go : (first : Bool) → (x == 45) ≡ first → short_of (x ∷ []) ≡ None
    go true e = rw e refl
    go false e = rw e refl
no_short_flags (x ∷ y ∷ rest) p long = go (x == 45) (y == 45) refl refl
  where
    go : (first second : Bool) → (x == 45) ≡ first → (y == 45) ≡ second → short_of (x ∷ y ∷ rest) ≡ None
    go false second e f = rw e refl
    go true true e f = rw (e, f) refl
    go true false e f =
        let bad : None ≡ Some p = rw (e, f) at long in
        cc

-- ---- a word at the beginning of a level

-- the program and its commands differ in name, in having commands below, and in requiring one
abbrev level : Text → Bool → Bool → Shape
level name is_leaf subcommand_required = record (built app).top {
  name = name;
  is_leaf = is_leaf;
  subcommand_required = subcommand_required;
}

abbrev rules : List Rule
rules = (built app).top.rules

strays : (name : Text) (is_leaf required : Bool) → AreRefusals (stray_fault (level name is_leaf required))
strays name true required = refl
strays name false required = refl

-- the kinds of a word with these long and short flags
abbrev long_turn : Shape → Option (Text × Option Text) → Text → Kinds
long_turn s long word = let met = long_or_other rules idle word long nothing_held in
    or_else (flag_word_fault rules false long word nothing_held) (step_fault s 1 met.0 met.1)

abbrev flags_kinds : Option Text → Kinds
flags_kinds short = option_map_or (λ flags. bundle_fault rules false flags nothing_held) short []

abbrev short_turn : Shape → Option Text → Text → Kinds
short_turn s short word = let met = short_or_plain rules idle word short nothing_held in
    or_else (flags_kinds short) (step_fault s 1 met.0 met.1)

abbrev first_of_flags : Option Text → Option ℕ
first_of_flags = option_and_then (λ flags. slice_get (chars flags) 0)

no_first : (flag : ℕ) → slice_get (chars []) 0 ≡ Some flag → ⊥
unfolding chars
no_first flag e = cc

module _ (name : Text) (is_leaf required : Bool) (word : Text) where
  abbrev here : Shape
  here = level name is_leaf required

  long_asks : (named : Bool) (long : Text) (v : Option Text) → bytes_eq (codes "help") long ≡ named
      → FaultsAs (help_or_nothing (is_long_help (Some (long, v)) || false)) (long_turn here (Some (long, v)) word)
  long_asks true long None e = rw e refl
  long_asks true long (Some v) e = rw e refl
  long_asks false long None e = rw e refl
  long_asks false long (Some v) e = rw e refl

  -- a bundle whose first flag is read: it is the flag for help, or an unknown one
  first_flag_asks : (flag : ℕ) (is_h : Bool) (f : ℕ) (fs : List ℕ) → (104 == flag) ≡ is_h
      → slice_get (chars (f ∷ fs)) 0 ≡ Some flag
      → FaultsAs (help_or_nothing is_h) (short_turn here (Some (f ∷ fs)) word)
  unfolding flags_fault
  first_flag_asks flag true f fs h first = rw (first, h) refl
  first_flag_asks flag false f fs h first = rw (first, h) refl

  short_asks : (short : Option Text)
      → FaultsAs (help_or_nothing (option_map_or (λ flag. 104 == flag) (first_of_flags short) false))
      (short_turn here short word)
  short_asks None = strays name is_leaf required
  short_asks (Some flags) = by_first flags (slice_get (chars flags) 0) refl
    where
      by_first : (flags : Text) (first : Option ℕ) → slice_get (chars flags) 0 ≡ first
          → FaultsAs (help_or_nothing (option_map_or (λ flag. 104 == flag) (slice_get (chars flags) 0) false))
          (short_turn here (Some flags) word)
      by_first flags None e =
          rw (
            e,
            sym (fault_ends rules false (length flags) flags 0 nothing_held (sym e)),
            sym (bundle_ends rules (length flags) flags 0 plain nothing_held (sym e)),
          ) (strays name is_leaf required)
      by_first [] (Some flag) e = absurd (no_first flag e)
      by_first (f ∷ fs) (Some flag) e = rw e (first_flag_asks flag (104 == flag) f fs refl e)

  -- a word that is not a command and does not end the flags
  abbrev turn : Option Text → Kinds
  turn subcommand = let met = subcommand_or_other rules subcommand idle 1 word nothing_held in
      or_else (other_fault here subcommand word nothing_held) (step_fault here 1 met.0 met.1)

  word_asks : bytes_eq word (codes "--") ≡ false → FaultsAs (help_or_nothing (asks_for_help word)) (turn None)
  word_asks no_dashes = go (long_of word) refl
    where
      go : (long : Option (Text × Option Text)) → long_of word ≡ long
          → FaultsAs (help_or_nothing (asks_for_help word)) (turn None)
      go (Some (long, v)) e =
          rw (no_dashes, long_help word, no_short_flags word (long, v) e, e)
          (long_asks (bytes_eq (codes "help") long) long v refl)
      go None e = rw (no_dashes, long_help word, e) (short_asks (short_of word))

  -- and so of the level that it begins
  level_asks : (names : Names) (rest : List Text) (has_subcommand : Bool) (below : Kinds) (asks : Bool)
      → FaultsAs (help_or_nothing asks) (turn_fault here names (walk_from nothing_held) word)
      → FaultsAs (help_or_nothing asks) (level_fault here names nothing_held (word ∷ rest) has_subcommand below)
  unfolding walk_fault
  level_asks names rest has_subcommand below asks h = first_decides asks _ _ (first_decides asks _ _ h)

-- ---- the words behind `sim`

sim : Shape
sim = level (codes "sim") true false

behind_dashes : (rest : List Text)
    → FaultsAs (asked_behind_sim (codes "--" ∷ rest)) (level_fault sim [] nothing_held (codes "--" ∷ rest) false [])
unfolding clap_on_literals sim
behind_dashes [] = refl
behind_dashes (word ∷ rest) = refl

behind_sim : (words : List Text) → FaultsAs (asked_behind_sim words) (level_fault sim [] nothing_held words false [])
unfolding clap_on_literals sim
behind_sim [] = refl
behind_sim (word ∷ rest) = go (bytes_eq word (codes "--")) refl
  where
    go : (ends : Bool) → bytes_eq word (codes "--") ≡ ends
        → FaultsAs (asked_behind_sim (word ∷ rest)) (level_fault sim [] nothing_held (word ∷ rest) false [])
    go true e =
        let is : word ≡ codes "--" = (bytes_eq-Decides word (codes "--")).0 e in
        subst (λ w. FaultsAs (asked_behind_sim (w ∷ rest)) (level_fault sim [] nothing_held (w ∷ rest) false []))
        (sym is) (behind_dashes rest)
    go false e =
        let asks : FaultsAs (help_or_nothing (asks_for_help word))
        (level_fault sim [] nothing_held (word ∷ rest) false []) =
        level_asks (codes "sim") true false word [] rest false [] (asks_for_help word)
        (word_asks (codes "sim") true false word e) in
        let asked_is : asked_behind_sim (word ∷ rest) ≡ help_or_nothing (asks_for_help word) = rw e refl in
        subst (λ a. FaultsAs a (level_fault sim [] nothing_held (word ∷ rest) false [])) (sym asked_is) asks

-- ---- all the words

-- the result of a level after its walk
abbrev behind_walk : Walk → Kinds → Kinds
behind_walk w walked_kinds = let a = built app in
    or_else walked_kinds (or_else (entered_fault a w.stopped) (or_else (settle_fault rules false w.held)
    (or_else (defaults_fault (settled rules w.held).rows rules)
    (check_fault a.top (finished rules w.held) (is_some (entered a w.stopped))))))

or_else-nil : (kinds : Kinds) → or_else kinds [] ≡ kinds
or_else-nil [] = refl
or_else-nil (k ∷ ks) = refl

abbrev at_sim : List Text → Walk
at_sim rest = record (walk_from nothing_held) { stopped = Some (codes "sim", rest) }

sim_named : (rest : List Text) → FaultsAs (asked_behind_sim rest) (fault_of app (codes "sim" ∷ rest))
unfolding clap_on_literals sim
sim_named rest =
    let names = names_of (built app) in
    let start = walk_from nothing_held in
    let walked_to : walk rules names nothing_held (codes "sim" ∷ rest) ≡ at_sim rest
    = sym (walk_stopped rules names start (codes "sim") [] rest) in
    let passed : walk_fault (built app).top names start (codes "sim" ∷ rest) ≡ []
    = stopped_fault (built app).top names start (codes "sim", []) rest in
    let below : fault_of app (codes "sim" ∷ rest) ≡ or_else (level_fault sim [] nothing_held rest false []) []
    = ap₂ behind_walk walked_to passed in
    subst (FaultsAs (asked_behind_sim rest)) (sym (below ∙ or_else-nil _)) (behind_sim rest)

dashes_first : (rest : List Text) → FaultsAs (asked_of_clap (codes "--" ∷ rest)) (fault_of app (codes "--" ∷ rest))
unfolding clap_on_literals
dashes_first [] = refl
dashes_first (word ∷ rest) = refl

run_named : (rest : List Text) → FaultsAs (asked_of_site (codes "run" ∷ rest)) (fault_of app (codes "run" ∷ rest))
unfolding asked_of_site
run_named rest = refl

check_named : (rest : List Text)
    → FaultsAs (asked_of_check (codes "check-journal" ∷ rest)) (fault_of app (codes "check-journal" ∷ rest))
unfolding asked_of_check
check_named rest = refl

-- the kinds of error that clap gives are those of what the words ask for
pub faults_as_asked : (words : List Text) → FaultsAs (asked_of_clap words) (fault_of app words)
unfolding clap_on_literals
faults_as_asked [] = refl
faults_as_asked (word ∷ rest) =
    go (bytes_eq (codes "sim") word) (bytes_eq (codes "run") word) (bytes_eq (codes "check-journal") word)
    (bytes_eq word (codes "--")) refl refl refl refl
  where
    go : (names_sim names_run names_check ends : Bool) → bytes_eq (codes "sim") word ≡ names_sim
        → bytes_eq (codes "run") word ≡ names_run → bytes_eq (codes "check-journal") word ≡ names_check
        → bytes_eq word (codes "--") ≡ ends → FaultsAs (asked_of_clap (word ∷ rest)) (fault_of app (word ∷ rest))
    go true names_run names_check ends e r k f =
        let is : codes "sim" ≡ word = (bytes_eq-Decides (codes "sim") word).0 e in
        subst (λ w. FaultsAs (asked_of_clap (w ∷ rest)) (fault_of app (w ∷ rest))) is (sim_named rest)
    go false true names_check ends e r k f =
        let is : codes "run" ≡ word = (bytes_eq-Decides (codes "run") word).0 r in
        subst (λ w. FaultsAs (asked_of_clap (w ∷ rest)) (fault_of app (w ∷ rest))) is (run_named rest)
    go false false true ends e r k f =
        let is : codes "check-journal" ≡ word = (bytes_eq-Decides (codes "check-journal") word).0 k in
        subst (λ w. FaultsAs (asked_of_clap (w ∷ rest)) (fault_of app (w ∷ rest))) is (check_named rest)
    go false false false true e r k f =
        let is : word ≡ codes "--" = (bytes_eq-Decides word (codes "--")).0 f in
        subst (λ w. FaultsAs (asked_of_clap (w ∷ rest)) (fault_of app (w ∷ rest))) (sym is) (dashes_first rest)
    go false false false false e r k f =
        let a = built app in
        let stop = (walk rules (names_of a) nothing_held (word ∷ rest)).stopped in
        let asks = asks_for_help word in
        let none_met : subcommand_met (names_of a) idle word ≡ None = rw (e, r, k) refl in
        let first : FaultsAs (help_or_nothing asks) (turn_fault a.top (names_of a) (walk_from nothing_held) word) =
        subst (λ o. FaultsAs (help_or_nothing asks) (turn (codes "rights-site") false true word o)) (sym none_met)
        (word_asks (codes "rights-site") false true word f) in
        let asked_is : asked_of_clap (word ∷ rest) ≡ help_or_nothing asks = rw (e, r, k) refl in
        subst (λ x. FaultsAs x (fault_of app (word ∷ rest))) (sym asked_is)
        (level_asks (codes "rights-site") false true word (names_of a) rest (is_some (entered a stop))
        (entered_fault a stop) asks first)

-- ---- the command that the words name

abbrev Met : Type 0
Met = Option (Text × List Row)

-- a script is asked for by `sim`, a site by `run` and a check by `check-journal`, with the values that clap finds
abbrev pub MetAs : Asked → Met → Type 0
MetAs script met = option_map (λ m. m.0) met ≡ Some (codes "sim")
MetAs (site kinds rows) met = met ≡ Some (codes "run", rows)
MetAs (journal kinds rows) met = met ≡ Some (codes "check-journal", rows)
MetAs asked met = ⊤

behind_sim_met : (rest : List Text) (met : Met) → option_map (λ m. m.0) met ≡ Some (codes "sim")
    → MetAs (asked_behind_sim rest) met
behind_sim_met [] met h = h
behind_sim_met (word ∷ rest) met h = go (bytes_eq word (codes "--")) (asks_for_help word) rest
  where
    go : (ends asks : Bool) (rest : List Text) → MetAs (cond ends (asked_behind_dashes rest) (help_or_nothing asks)) met
    go true asks [] = h
    go true asks (next ∷ rest) = tt
    go false true rest = tt
    go false false rest = tt

sim_met : (rest : List Text) → option_map (λ m. m.0) (subcommand_of app (codes "sim" ∷ rest)) ≡ Some (codes "sim")
unfolding clap_on_literals
sim_met rest =
    let stopped : walk rules (names_of (built app)) nothing_held (codes "sim" ∷ rest) ≡ at_sim rest =
    sym (walk_stopped rules (names_of (built app)) (walk_from nothing_held) (codes "sim") [] rest) in
    ap (λ (w : Walk). option_map (λ m. m.0) (entered (built app) w.stopped)) stopped

run_rows : (rest : List Text) → (rows : List Row) × (subcommand_of app (codes "run" ∷ rest) ≡ Some (codes "run", rows))
unfolding clap_on_literals
run_rows rest =
    let at_run : Walk = record (walk_from nothing_held) { stopped = Some (codes "run", rest) } in
    let stopped : walk rules (names_of (built app)) nothing_held (codes "run" ∷ rest) ≡ at_run =
    sym (walk_stopped rules (names_of (built app)) (walk_from nothing_held) (codes "run") [] rest) in
    (_, ap (λ (w : Walk). entered (built app) w.stopped) stopped)

run_met : (rest : List Text) → MetAs (asked_of_site (codes "run" ∷ rest)) (subcommand_of app (codes "run" ∷ rest))
unfolding asked_of_site
run_met rest =
    let met = run_rows rest in
    met.1 ∙ ap (λ (m : Met). Some (codes "run", option_map_or (λ m. m.1) m [])) (sym met.1)

check_rows : (rest : List Text)
    → (rows : List Row) × (subcommand_of app (codes "check-journal" ∷ rest) ≡ Some (codes "check-journal", rows))
unfolding clap_on_literals
check_rows rest =
    let at_check : Walk = record (walk_from nothing_held) { stopped = Some (codes "check-journal", rest) } in
    let stopped : walk rules (names_of (built app)) nothing_held (codes "check-journal" ∷ rest) ≡ at_check =
    sym (walk_stopped rules (names_of (built app)) (walk_from nothing_held) (codes "check-journal") [] rest) in
    (_, ap (λ (w : Walk). entered (built app) w.stopped) stopped)

check_met : (rest : List Text)
    → MetAs (asked_of_check (codes "check-journal" ∷ rest)) (subcommand_of app (codes "check-journal" ∷ rest))
unfolding asked_of_check
check_met rest =
    let met = check_rows rest in
    met.1 ∙ ap (λ (m : Met). Some (codes "check-journal", option_map_or (λ m. m.1) m [])) (sym met.1)

pub met_as_asked : (words : List Text) → MetAs (asked_of_clap words) (subcommand_of app words)
met_as_asked [] = tt
met_as_asked (word ∷ rest)
    = go (bytes_eq (codes "sim") word) (bytes_eq (codes "run") word) (bytes_eq (codes "check-journal") word)
    refl refl refl
  where
    met : Met
    met = subcommand_of app (word ∷ rest)

    unmet : (asks : Bool) → MetAs (help_or_nothing asks) met
    unmet true = tt
    unmet false = tt

    go : (names_sim names_run names_check : Bool) → bytes_eq (codes "sim") word ≡ names_sim
        → bytes_eq (codes "run") word ≡ names_run → bytes_eq (codes "check-journal") word ≡ names_check
        → MetAs (asked_of_clap (word ∷ rest)) met
    go true names_run names_check e r k =
        let is : codes "sim" ≡ word = (bytes_eq-Decides (codes "sim") word).0 e in
        subst (λ w. MetAs (asked_of_clap (w ∷ rest)) (subcommand_of app (w ∷ rest))) is
        (behind_sim_met rest _ (sim_met rest))
    go false true names_check e r k =
        let is : codes "run" ≡ word = (bytes_eq-Decides (codes "run") word).0 r in
        subst (λ w. MetAs (asked_of_clap (w ∷ rest)) (subcommand_of app (w ∷ rest))) is (run_met rest)
    go false false true e r k =
        let is : codes "check-journal" ≡ word = (bytes_eq-Decides (codes "check-journal") word).0 k in
        subst (λ w. MetAs (asked_of_clap (w ∷ rest)) (subcommand_of app (w ∷ rest))) is (check_met rest)
    go false false false e r k =
        let asked_is : asked_of_clap (word ∷ rest) ≡ help_or_nothing (asks_for_help word) = rw (e, r, k) refl in
        subst (λ x. MetAs x met) (sym asked_is) (unmet (asks_for_help word))

-- ---- what a parse tells of the words

no_help_among : (kinds : Kinds) → list_all is_refusal kinds ≡ true → IsAmong kind.DisplayHelp kinds → ⊥
no_help_among [] h among = among
no_help_among (k ∷ ks) h (inl is) =
    let bad : false ≡ true = rw (← is) at (and_parts (is_refusal k) _ h).0 in
    true≢false (sym bad)
no_help_among (k ∷ ks) h (inr among) = no_help_among ks (and_parts (is_refusal k) _ h).1 among

help_asked : (a : Asked) (kinds : Kinds) → FaultsAs a kinds → IsAmong kind.DisplayHelp kinds → WantsHelp a
help_asked script kinds h among = absurd (subst (IsAmong kind.DisplayHelp) h among)
help_asked (site known rows) kinds h among = subst (IsAmong kind.DisplayHelp) h among
help_asked (journal known rows) kinds h among = subst (IsAmong kind.DisplayHelp) h among
help_asked help kinds h among = tt
help_asked version kinds h among = absurd h
help_asked nothing [] h among = absurd h
help_asked nothing (k ∷ ks) h among = absurd (no_help_among (k ∷ ks) h among)

refuses : (k : ErrorKind) → (k ≡ kind.DisplayHelp → ⊥) → (k ≡ kind.OutOfMemory → ⊥) → is_refusal k ≡ true
refuses k = elim k as (λ k. (k ≡ kind.DisplayHelp → ⊥) → (k ≡ kind.OutOfMemory → ⊥) → is_refusal k ≡ true) [
  | kind.DisplayHelp ↦ λ not_help not_memory. absurd (not_help refl)
  | kind.OutOfMemory ↦ λ not_help not_memory. absurd (not_memory refl)
  | _ ↦ λ not_help not_memory. refl
]

refusal_asked : (a : Asked) (kinds : Kinds) (k : ErrorKind) → FaultsAs a kinds → IsAmong k kinds
    → (k ≡ kind.DisplayHelp → ⊥) → is_refusal k ≡ true → MayRefuse a
refusal_asked script kinds k h among other refusal = absurd (subst (IsAmong k) h among)
refusal_asked (site known rows) kinds k h among other refusal = inl (k, subst (IsAmong k) h among, refusal)
refusal_asked (journal known rows) kinds k h among other refusal = inl (k, subst (IsAmong k) h among, refusal)
refusal_asked help kinds k h among other refusal
    = absurd (⊎_elim other (λ none. absurd none) (subst (IsAmong k) h among))
refusal_asked version kinds k h among other refusal = absurd h
refusal_asked nothing kinds k h among other refusal = tt

simple : is_simple_and_free app ≡ true
unfolding clap_on_literals
simple = refl

is_simple_too : is_simple app ≡ true
is_simple_too = (and_parts (is_simple app) _ simple).0

-- what a parse that found this command says of what was asked for
abbrev pub ParsedAs : Asked → Met → Type 0
ParsedAs script met = option_map (λ m. m.0) met ≡ Some (codes "sim")
ParsedAs (site kinds rows) met = (kinds ≡ []) × (met ≡ Some (codes "run", rows))
ParsedAs (journal kinds rows) met = (kinds ≡ []) × (met ≡ Some (codes "check-journal", rows))
ParsedAs asked met = ⊥

parsed_as : (a : Asked) (met : Met) (kinds : Kinds) → FaultsAs a kinds → kinds ≡ [] → MetAs a met → ParsedAs a met
parsed_as script met kinds h none m = m
parsed_as (site known rows) met kinds h none m = (sym h ∙ none, m)
parsed_as (journal known rows) met kinds h none m = (sym h ∙ none, m)
parsed_as help met kinds h none m = cc
parsed_as version met kinds h none m = absurd h
parsed_as nothing met [] h none m = h
parsed_as nothing met (k ∷ ks) h none m = cc

-- clap is never asked for the version
pub no_version : (words : List Text) → asked_of_clap words ≢ version
no_version words same = subst (λ (a : Asked). FaultsAs a (fault_of app words)) same (faults_as_asked words)

-- the result for a parsed command is what was asked for
pub parsed_answers : (a : Asked) (met : Met) (r : Result Command WordsFault) → ParsedAs a met → AnswersMet met r
    → MayAnswer a r
parsed_answers script met r parsed h = subst (MayAnswer script) (sym (h.0 parsed)) refl
parsed_answers (site kinds rows) met r parsed h = go r (h.1 rows parsed.1)
  where
    go : (r : Result Command WordsFault) → RunsBy rows r → MayAnswer (site kinds rows) r
    go (Ok (Run s)) runs = (parsed.0, runs)
    go (Ok (CheckJournal check)) runs = absurd runs
    go (Ok Sim) runs = absurd runs
    go (Ok (Help text)) runs = absurd runs
    go (Ok Version) runs = absurd runs
    go (Err Refused) runs = inr (parsed.0, runs)
    go (Err OutOfMemory) runs = λ same. cc
parsed_answers (journal kinds rows) met r parsed h = go r (h.2 rows parsed.1)
  where
    go : (r : Result Command WordsFault) → ChecksBy rows r → MayAnswer (journal kinds rows) r
    go (Ok (CheckJournal check)) checks = (parsed.0, checks)
    go (Ok (Run s)) checks = absurd checks
    go (Ok Sim) checks = absurd checks
    go (Ok (Help text)) checks = absurd checks
    go (Ok Version) checks = absurd checks
    go (Err Refused) checks = inr (parsed.0, checks)
    go (Err OutOfMemory) checks = λ same. cc
parsed_answers help met r parsed h = absurd parsed
parsed_answers version met r parsed h = absurd parsed
parsed_answers nothing met r parsed h = absurd parsed

module _ (told : App) (words : List Text) (is : told ≡ app) where
  faults : FaultsAs (asked_of_clap words) (fault_of told words)
  faults = subst (λ a. FaultsAs (asked_of_clap words) (fault_of a words)) (sym is) (faults_as_asked words)

  told_simple : is_simple_and_free told ≡ true
  told_simple = ap is_simple_and_free is ∙ simple

  pub parsed_asks : (m : ArgMatches) → (is_simple_and_free told ≡ true → fault_of told words ≡ [])
      → HasMatchesOf told words m
      → ParsedAs (asked_of_clap words) (subcommand_rows_of m)
  parsed_asks m h found =
      let met : subcommand_rows_of m ≡ subcommand_of app words = (found (ap is_simple is ∙ is_simple_too)).1
      ∙ ap (λ a. subcommand_of a words) is in
      subst (ParsedAs (asked_of_clap words)) (sym met)
      (parsed_as (asked_of_clap words) _ _ faults (h told_simple) (met_as_asked words))

  pub help_error_asks : (e : Error) → (is_simple_and_free told ≡ true → HasKind (fault_of told words) e)
      → kind_of e ≡ kind.DisplayHelp → WantsHelp (asked_of_clap words)
  help_error_asks e h shown = ⊎_elim
      (λ (memory : kind_of e ≡ kind.OutOfMemory). absurd (differ (sym shown ∙ memory)))
      (λ (among : IsAmong (kind_of e) (fault_of told words)). help_asked (asked_of_clap words) _ faults
      (subst (λ k. IsAmong k (fault_of told words)) shown among))
      (h told_simple)
    where
      differ : ◌≡◌ {A = ErrorKind} kind.DisplayHelp kind.OutOfMemory → ⊥
      differ same = cc

  pub other_error_asks : (e : Error) → (is_simple_and_free told ≡ true → HasKind (fault_of told words) e)
      → (kind_of e ≡ kind.DisplayHelp → ⊥) → (kind_of e ≡ kind.OutOfMemory → ⊥) → MayRefuse (asked_of_clap words)
  other_error_asks e h not_help not_memory = ⊎_elim
      (λ (memory : kind_of e ≡ kind.OutOfMemory). absurd (not_memory memory))
      (λ (among : IsAmong (kind_of e) (fault_of told words)). refusal_asked (asked_of_clap words) _
      (kind_of e) faults among not_help (refuses (kind_of e) not_help not_memory))
      (h told_simple)
