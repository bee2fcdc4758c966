-- Settings that are asked for, or refused.
use Rattle.std.proofs.Common.{◌≡◌, ◌∙◌, ◌<◌, ◌^◌, inl, inr, ℕ, Bool, true, false, List, Option, Some, None, Result, Ok, Err, refl}
use Rattle.std.proofs.Common.{sym, ap, subst, arith, codes, []}
use Rattle.std.specs.Prelude.{IfSome, IsErrAnd, MatchResult, option_map, unwrap_or}
use Rattle.std.proofs.lemmas.Result.{err_from_is_err_and}
use Rattle.std.specs.Str.Parse.{digits_value, without_leading_plus}
use Rattle.clap.specs.Walk.{Row, Text, all_of, first_of}
use Rattle.site_words.specs.Settings.{AreFound, AreInRange, HasFlag, HasNumber, HasValues, IsFound, IsKeyCount, IsSettings}
use Rattle.site_words.specs.Settings.{IsSilence, IsTick, MayHaveNumber, Names, Options, Settings}
use Rattle.site_words.specs.Words.{IsSetBy}
use Rattle.site_words.specs.declared.words.WordsFault.{WordsFault}
use Rattle.site_words.specs.declared.words.WordsFault.TheVariants.{OutOfMemory, Refused}

-- a refusal is right if no settings fit
pub refused_by : (Fits : Settings → Type 0) (fault : WordsFault)
    → (fault ≡ Refused → (s : Settings) → IsSettings s → Fits s → ⊥)
    → IsSetBy Fits (Err fault)
refused_by Fits Refused none = none refl
refused_by Fits OutOfMemory none = tt

-- .. also where `?` returns it
pub refused_on : (Fits : Settings → Type 0) (r : Result Settings WordsFault) (fault : WordsFault)
    → IsErrAnd r (λ e. e ≡ fault) → (fault ≡ Refused → (s : Settings) → IsSettings s → Fits s → ⊥) → IsSetBy Fits r
refused_on Fits r fault err none =
    let p = err_from_is_err_and r err in
    subst (IsSetBy Fits) (sym (p.1 ∙ ap Err p.2)) (refused_by Fits fault none)

some_same : {X : Type 0} {x y : X} → Some x ≡ Some y → x ≡ y
some_same e = cc

none_some : {X : Type 0} {x : X} → None ≡ Some x → ⊥
none_some e = cc

texts_differ : codes "true" ≡ codes "false" → ⊥
texts_differ e = cc

number_once : (rows : List Row) (option : Text) (n m : ℕ) → HasNumber rows option n → HasNumber rows option m → n ≡ m
number_once rows option n m one two =
    let same : one.0 ≡ two.0 = some_same (sym one.1 ∙ two.1) in
    one.3 ∙ ap (λ (t : Text). digits_value 10 (without_leading_plus t)) same ∙ sym two.3

-- a tick that is allowed fits into a number of 64 bits
pub tick_fits : (tick : Option ℕ) → IfSome tick IsTick → IfSome tick (λ m. m < 2 ^ 64)
tick_fits None valid = tt
tick_fits (Some n) valid = omega (arith, valid.1)

-- .. and so does a time after which a peer may count as silent
pub silence_fits : (time : Option ℕ) → IfSome time IsSilence → IfSome time (λ m. m < 2 ^ 64)
silence_fits None valid = tt
silence_fits (Some n) (inl zero) = omega (arith, zero)
silence_fits (Some n) (inr valid) = omega (arith, valid.1)

-- .. and a number of keys
pub count_fits : (count : Option ℕ) → IfSome count IsKeyCount → IfSome count (λ m. m < 2 ^ 64)
count_fits None valid = tt
count_fits (Some n) valid = omega (arith, valid)

-- the default of an option whose value is mapped
pub unwrap_mapped : {X Y : Type 0} (f : X → Y) (o : Option X) (d : X)
    → unwrap_or (option_map f o) (f d) ≡ f (unwrap_or o d)
unwrap_mapped f None d = refl
unwrap_mapped f (Some x) d = refl

abbrev pub MayBeOptions : List Row → Result Options WordsFault → Type 0
MayBeOptions rows r = MatchResult r (AreFound rows)
    (λ fault. (fault ≡ Refused) × ((o : Options) → AreInRange o → AreFound rows o → ⊥))

optional_once : (rows : List Row) (option : Text) (n m : Option ℕ) → MayHaveNumber rows option n
    → MayHaveNumber rows option m → n ≡ m
optional_once rows option None None one two = refl
optional_once rows option None (Some m) one two = absurd (none_some (sym one ∙ two.1))
optional_once rows option (Some n) None one two = absurd (none_some (sym two ∙ one.1))
optional_once rows option (Some n) (Some m) one two = ap Some (number_once rows option n m one two)

log_once : (rows : List Row) (a b : Bool) → HasFlag rows (codes "log") a → HasFlag rows (codes "log") b → a ≡ b
log_once rows true true one two = refl
log_once rows false false one two = refl
log_once rows true false one two = absurd (texts_differ (some_same (sym one ∙ two)))
log_once rows false true one two = absurd (texts_differ (some_same (sym two ∙ one)))

-- the options but those of a journal
abbrev options_with : Options → Option Text → List Text → Option ℕ → Option ℕ → Option ℕ → Option Text → Bool → Options
options_with o http hosts tick silent keys once log = record {
  http = http;
  hosts = hosts;
  tick = tick;
  silent = silent;
  keys = keys;
  once = once;
  journal = o.journal;
  system = o.system;
  log = log;
}

abbrev journaled_by : Options → Option Text → Option Text → Options
journaled_by o journal system = record o { journal = journal; system = system }

-- clap found one value of each option
options_once : (rows : List Row) (o p : Options) → AreFound rows o → AreFound rows p → o ≡ p
options_once rows o p one two =
    let http : o.http ≡ p.http = sym one.http ∙ two.http in
    let hosts : o.hosts ≡ p.hosts = sym one.hosts ∙ two.hosts in
    let tick : o.tick ≡ p.tick = optional_once rows (codes "tick") o.tick p.tick one.tick two.tick in
    let silent : o.silent ≡ p.silent = optional_once rows (codes "silent") o.silent p.silent one.silent two.silent in
    let keys : o.keys ≡ p.keys = optional_once rows (codes "keys") o.keys p.keys one.keys two.keys in
    let once : o.once ≡ p.once = sym one.once ∙ two.once in
    let log : o.log ≡ p.log = log_once rows o.log p.log one.log two.log in
    let journal : o.journal ≡ p.journal = sym one.journal ∙ two.journal in
    let system : o.system ≡ p.system = sym one.system ∙ two.system in
    ap (λ (h : Option Text). options_with o h o.hosts o.tick o.silent o.keys o.once o.log) http
    ∙ (ap (λ (hs : List Text). options_with o p.http hs o.tick o.silent o.keys o.once o.log) hosts
    ∙ (ap (λ (t : Option ℕ). options_with o p.http p.hosts t o.silent o.keys o.once o.log) tick
    ∙ (ap (λ (t : Option ℕ). options_with o p.http p.hosts p.tick t o.keys o.once o.log) silent
    ∙ (ap (λ (k : Option ℕ). options_with o p.http p.hosts p.tick p.silent k o.once o.log) keys
    ∙ (ap (λ (f : Option Text). options_with o p.http p.hosts p.tick p.silent p.keys f o.log) once
    ∙ (ap (λ (l : Bool). options_with o p.http p.hosts p.tick p.silent p.keys p.once l) log
    ∙ (ap (λ (j : Option Text). journaled_by p j o.system) journal
    ∙ ap (λ (n : Option Text). journaled_by p p.journal n) system)))))))

-- the settings of the values that clap found are those that it found
pub values_found : (rows : List Row) (id sites : ℕ) (listen : Option Text) (words froms : List Text) (options : Options)
    → HasNumber rows (codes "id") id
    → HasNumber rows (codes "sites") sites → first_of (codes "listen") rows ≡ listen
    → all_of (codes "peer") rows ≡ Some words → unwrap_or (all_of (codes "from") rows) [] ≡ froms
    → AreFound rows options → (r : Result Settings WordsFault)
    → IsSetBy (HasValues id sites listen words froms options) r
    → IsSetBy (IsFound rows) r
values_found rows id sites listen words froms options has_id has_sites has_listen has_words has_froms has_options
    (Ok s) set = (
      set.0,
      record {
        id = subst (HasNumber rows (codes "id")) (sym set.1.same_id) has_id;
        sites = subst (HasNumber rows (codes "sites")) (sym set.1.same_sites) has_sites;
        listen = has_listen ∙ sym set.1.same_listen;
        entrances = set.1.same_entrances ∙ sym has_froms;
        words = words;
        given = has_words;
        peers = set.1.names;
        options = subst (AreFound rows) (sym set.1.same_options) has_options;
      },
    )
values_found rows id sites listen words froms options has_id has_sites has_listen has_words has_froms has_options
    (Err Refused) set
    = λ s valid found. set s valid (record {
      same_id = number_once rows (codes "id") s.id id found.id has_id;
      same_sites = number_once rows (codes "sites") s.sites sites found.sites has_sites;
      same_listen = sym found.listen ∙ has_listen;
      same_entrances = found.entrances ∙ has_froms;
      same_options = options_once rows s.options options found.options has_options;
      names = subst (λ ws. Names ws s) (some_same (sym found.given ∙ has_words)) found.peers;
    })
values_found rows id sites listen words froms options has_id has_sites has_listen has_words has_froms has_options
    (Err OutOfMemory) set = tt
