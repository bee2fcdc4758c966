-- How the program may end, by what was asked for.
use Rattle.std.proofs.Common.{◌≡◌, ◌≢◌, ◌∙◌, ◌⊎◌, false, refl, sym, ap, subst, Err, arith, inl, inr, true≢false}
use Rattle.clap.specs.Kinds.{IsAmong}
use Rattle.clap.specs.declared.error.kind.ErrorKind.TheVariants as kind
use Rattle.line_streams.specs.declared.fault.ConversationError.{ConversationError}
use Rattle.line_streams.specs.declared.fault.ConversationError.TheVariants as script_fault
use Rattle.site_words.specs.Asked.{Asked, help, journal, nothing, script, site, version}
use Rattle.site_words.specs.Checks.{Check}
use Rattle.rights_program.specs.Endings.{MayBeDone, MayStop, reads}
use Rattle.rights_program.specs.Faults.{fault_of_check, fault_of_script, fault_of_site, fault_of_words, status_of}
use Rattle.site_words.specs.Settings.{Settings}
use Rattle.site_words.specs.Words.{AsksForCheck, MayAnswer, MayRefuse, RunsSite, WantsHelp}
use Rattle.rights_program.specs.declared.fault.ProgramError.TheVariants.{BadCommandLine, CannotCreateStartFile}
use Rattle.rights_program.specs.declared.fault.ProgramError.TheVariants.{CannotListen, Explained, OutOfMemory}
use Rattle.rights_program.specs.declared.fault.ProgramError.TheVariants.{ReadFailed}
use Rattle.rights_program.specs.declared.fault.ProgramError.TheVariants.{StartedBefore, TooManyLines, WriteFailed}
use Rattle.rights_program.specs.declared.fault.ProgramError.{ProgramError}
use Rattle.site_words.specs.declared.fault.CheckFault.{CheckFault}
use Rattle.site_words.specs.declared.fault.CheckFault.TheVariants as check_fault
use Rattle.site_words.specs.declared.fault.SiteFault.{SiteFault}
use Rattle.site_words.specs.declared.fault.SiteFault.TheVariants as site_fault
use Rattle.site_words.specs.declared.words.WordsFault.{WordsFault}
use Rattle.site_words.specs.declared.words.WordsFault.TheVariants as words

pub memory_may_stop : (a : Asked) → MayStop a OutOfMemory
memory_may_stop script = tt
memory_may_stop (site kinds rows) = tt
memory_may_stop (journal kinds rows) = tt
memory_may_stop help = tt
memory_may_stop version = tt
memory_may_stop nothing = tt

-- words that are refused
pub refusal_may_stop : (a : Asked) → MayRefuse a → MayStop a BadCommandLine
refusal_may_stop script h = h
refusal_may_stop (site kinds rows) h = h
refusal_may_stop (journal kinds rows) h = h
refusal_may_stop help h = h
refusal_may_stop version h = h
refusal_may_stop nothing h = h

pub words_may_stop : (a : Asked) (fault : WordsFault) → MayAnswer a (Err fault) → MayStop a (fault_of_words fault)
words_may_stop a words.Refused h = refusal_may_stop a h
words_may_stop a words.OutOfMemory h = memory_may_stop a

pub stopped_refuses : (a : Asked) → MayStop a BadCommandLine → MayRefuse a
stopped_refuses script h = h
stopped_refuses (site kinds rows) h = h
stopped_refuses (journal kinds rows) h = h
stopped_refuses help h = h
stopped_refuses version h = h
stopped_refuses nothing h = h

-- status 2 means a refusal
pub two_is_bad : (fault : ProgramError) → status_of fault ≡ 2 → fault ≡ BadCommandLine
two_is_bad BadCommandLine is = refl
two_is_bad StartedBefore is = absurd (omega (arith, is))
two_is_bad CannotCreateStartFile is = absurd (omega (arith, is))
two_is_bad CannotListen is = absurd (omega (arith, is))
two_is_bad ReadFailed is = absurd (omega (arith, is))
two_is_bad WriteFailed is = absurd (omega (arith, is))
two_is_bad OutOfMemory is = absurd (omega (arith, is))
two_is_bad TooManyLines is = absurd (omega (arith, is))
two_is_bad Explained is = absurd (omega (arith, is))

pub either : {A B C : Type 0} → (A → C) → (B → C) → A ⊎ B → C
either f g (inl a) = f a
either f g (inr b) = g b

-- a script
pub script_may_be_done : (a : Asked) → a ≡ script → MayBeDone a
script_may_be_done a same = subst MayBeDone (sym same) tt

pub script_may_stop : (a : Asked) (cause : ConversationError) → a ≡ script → MayStop a (fault_of_script cause)
script_may_stop a cause same = subst (λ a. MayStop a (fault_of_script cause)) (sym same) (stops cause)
  where
    stops : (cause : ConversationError) → MayStop script (fault_of_script cause)
    stops script_fault.ReadFailed = tt
    stops script_fault.WriteFailed = tt
    stops script_fault.OutOfMemory = tt
    stops script_fault.TooManyLines = tt

pub script_reads : (a : Asked) → a ≡ script → reads a ≡ false → ⊥
script_reads a same none = true≢false (sym (ap reads same) ∙ none)

pub script_not_bad : (cause : ConversationError) → fault_of_script cause ≢ BadCommandLine
script_not_bad script_fault.ReadFailed same = cc
script_not_bad script_fault.WriteFailed same = cc
script_not_bad script_fault.OutOfMemory same = cc
script_not_bad script_fault.TooManyLines same = cc

-- a site
pub site_may_stop : (a : Asked) (s : Settings) (cause : SiteFault) → RunsSite a s → MayStop a (fault_of_site cause)
site_may_stop script s cause runs = absurd runs
site_may_stop (site kinds rows) s site_fault.StartedBefore runs = (s, runs)
site_may_stop (site kinds rows) s site_fault.CannotCreateStartFile runs = (s, runs)
site_may_stop (site kinds rows) s site_fault.CannotListen runs = (s, runs)
site_may_stop (site kinds rows) s site_fault.ReadFailed runs = (s, runs)
site_may_stop (site kinds rows) s site_fault.WriteFailed runs = inl (s, runs)
site_may_stop (site kinds rows) s site_fault.OutOfMemory runs = tt
site_may_stop (site kinds rows) s site_fault.TooManyLines runs = (s, runs)
site_may_stop (site kinds rows) s site_fault.Explained runs = (s, runs)
site_may_stop (journal kinds rows) s cause runs = absurd runs
site_may_stop help s cause runs = absurd runs
site_may_stop version s cause runs = absurd runs
site_may_stop nothing s cause runs = absurd runs

pub site_may_be_done : (a : Asked) (s : Settings) → RunsSite a s → MayBeDone a
site_may_be_done script s runs = absurd runs
site_may_be_done (site kinds rows) s runs = inl (s, runs)
site_may_be_done (journal kinds rows) s runs = absurd runs
site_may_be_done help s runs = absurd runs
site_may_be_done version s runs = absurd runs
site_may_be_done nothing s runs = absurd runs

pub site_reads : (a : Asked) (s : Settings) → RunsSite a s → reads a ≡ false → ⊥
site_reads script s runs none = absurd runs
site_reads (site kinds rows) s runs none = true≢false (sym (ap (λ ks. reads (site ks rows)) runs.0) ∙ none)
site_reads (journal kinds rows) s runs none = absurd runs
site_reads help s runs none = absurd runs
site_reads version s runs none = absurd runs
site_reads nothing s runs none = absurd runs

pub site_no_script : (a : Asked) (s : Settings) → RunsSite a s → a ≡ script → ⊥
site_no_script a s runs same = subst (λ a. RunsSite a s) same runs

pub site_no_nothing : (a : Asked) (s : Settings) → RunsSite a s → a ≡ nothing → ⊥
site_no_nothing a s runs same = subst (λ a. RunsSite a s) same runs

pub site_no_help : (a : Asked) (s : Settings) → RunsSite a s → WantsHelp a → ⊥
site_no_help script s runs wants = absurd runs
site_no_help (site kinds rows) s runs wants = subst (IsAmong kind.DisplayHelp) runs.0 wants
site_no_help (journal kinds rows) s runs wants = absurd runs
site_no_help help s runs wants = absurd runs
site_no_help version s runs wants = absurd runs
site_no_help nothing s runs wants = absurd runs

pub site_no_refusal : (a : Asked) (s : Settings) → RunsSite a s → MayRefuse a → ⊥
site_no_refusal script s runs h = absurd runs
site_no_refusal (site kinds rows) s runs (inl (k, among, is)) = subst (IsAmong k) runs.0 among
site_no_refusal (site kinds rows) s runs (inr h) = h.1 s runs.1.0 runs.1.1
site_no_refusal (journal kinds rows) s runs h = absurd runs
site_no_refusal help s runs h = absurd runs
site_no_refusal version s runs h = absurd runs
site_no_refusal nothing s runs h = absurd runs

pub site_not_bad : (cause : SiteFault) → fault_of_site cause ≢ BadCommandLine
site_not_bad site_fault.StartedBefore same = cc
site_not_bad site_fault.CannotCreateStartFile same = cc
site_not_bad site_fault.CannotListen same = cc
site_not_bad site_fault.ReadFailed same = cc
site_not_bad site_fault.WriteFailed same = cc
site_not_bad site_fault.OutOfMemory same = cc
site_not_bad site_fault.TooManyLines same = cc
site_not_bad site_fault.Explained same = cc

-- a check of a journal
pub check_may_stop : (a : Asked) (c : Check) (cause : CheckFault) → AsksForCheck a c
    → MayStop a (fault_of_check cause)
check_may_stop (journal kinds rows) c check_fault.Explained asks = (c, asks)
check_may_stop (journal kinds rows) c check_fault.WriteFailed asks = inl (c, asks)
check_may_stop (journal kinds rows) c check_fault.OutOfMemory asks = tt
check_may_stop script c cause asks = absurd asks
check_may_stop (site kinds rows) c cause asks = absurd asks
check_may_stop help c cause asks = absurd asks
check_may_stop version c cause asks = absurd asks
check_may_stop nothing c cause asks = absurd asks

pub check_may_be_done : (a : Asked) (c : Check) → AsksForCheck a c → MayBeDone a
check_may_be_done (journal kinds rows) c asks = inl (c, asks)
check_may_be_done script c asks = absurd asks
check_may_be_done (site kinds rows) c asks = absurd asks
check_may_be_done help c asks = absurd asks
check_may_be_done version c asks = absurd asks
check_may_be_done nothing c asks = absurd asks

pub check_no_script : (a : Asked) (c : Check) → AsksForCheck a c → a ≡ script → ⊥
check_no_script a c asks same = subst (λ a. AsksForCheck a c) same asks

pub check_no_nothing : (a : Asked) (c : Check) → AsksForCheck a c → a ≡ nothing → ⊥
check_no_nothing a c asks same = subst (λ a. AsksForCheck a c) same asks

pub check_no_site : (a : Asked) (c : Check) (s : Settings) → AsksForCheck a c → RunsSite a s → ⊥
check_no_site (journal kinds rows) c s asks runs = runs
check_no_site script c s asks runs = asks
check_no_site (site kinds rows) c s asks runs = asks
check_no_site help c s asks runs = asks
check_no_site version c s asks runs = asks
check_no_site nothing c s asks runs = asks

pub check_no_help : (a : Asked) (c : Check) → AsksForCheck a c → WantsHelp a → ⊥
check_no_help (journal kinds rows) c asks wants = subst (IsAmong kind.DisplayHelp) asks.0 wants
check_no_help script c asks wants = asks
check_no_help (site kinds rows) c asks wants = asks
check_no_help help c asks wants = asks
check_no_help version c asks wants = asks
check_no_help nothing c asks wants = asks

pub check_no_refusal : (a : Asked) (c : Check) → AsksForCheck a c → MayRefuse a → ⊥
check_no_refusal (journal kinds rows) c asks (inl (k, among, is)) = subst (IsAmong k) asks.0 among
check_no_refusal (journal kinds rows) c asks (inr h) = h.1 c asks.1
check_no_refusal script c asks h = asks
check_no_refusal (site kinds rows) c asks h = asks
check_no_refusal help c asks h = asks
check_no_refusal version c asks h = asks
check_no_refusal nothing c asks h = asks

pub check_not_bad : (cause : CheckFault) → fault_of_check cause ≢ BadCommandLine
check_not_bad check_fault.Explained same = cc
check_not_bad check_fault.WriteFailed same = cc
check_not_bad check_fault.OutOfMemory same = cc

-- help
pub help_may_stop : (a : Asked) → WantsHelp a → MayStop a WriteFailed
help_may_stop script wants = absurd wants
help_may_stop (site kinds rows) wants = inr wants
help_may_stop (journal kinds rows) wants = inr wants
help_may_stop help wants = tt
help_may_stop version wants = absurd wants
help_may_stop nothing wants = absurd wants

pub help_may_be_done : (a : Asked) → WantsHelp a → MayBeDone a
help_may_be_done script wants = absurd wants
help_may_be_done (site kinds rows) wants = inr wants
help_may_be_done (journal kinds rows) wants = inr wants
help_may_be_done help wants = tt
help_may_be_done version wants = absurd wants
help_may_be_done nothing wants = absurd wants

pub help_no_script : (a : Asked) → WantsHelp a → a ≡ script → ⊥
help_no_script a wants same = subst WantsHelp same wants

pub help_no_nothing : (a : Asked) → WantsHelp a → a ≡ nothing → ⊥
help_no_nothing a wants same = subst WantsHelp same wants

-- the version
pub version_may_stop : (a : Asked) → a ≡ version → MayStop a WriteFailed
version_may_stop a same = subst (λ a. MayStop a WriteFailed) (sym same) tt

pub version_may_be_done : (a : Asked) → a ≡ version → MayBeDone a
version_may_be_done a same = subst MayBeDone (sym same) tt

-- how each command may end
pub ruleset endings = (
  words_may_stop,
  memory_may_stop,
  script_may_stop,
  script_reads,
  script_not_bad,
  site_may_stop,
  site_may_be_done,
  site_reads,
  site_no_script,
  site_no_nothing,
  site_not_bad,
  check_may_stop,
  check_may_be_done,
  check_no_script,
  check_no_nothing,
  check_not_bad,
  help_may_stop,
  help_may_be_done,
  help_no_script,
  help_no_nothing,
  version_may_stop,
  version_may_be_done,
)
