-- The commands of the program, by the definitions of clap's contracts.
use Rattle.std.specs.Prelude.{ℕ, true, false, Some, [], ◌∷◌, codes}
use Rattle.clap.specs.Lexer.{usize_max}
use Rattle.clap.specs.Simple.{App, Shape, new_rule, new_shape}
use Rattle.clap.specs.Walk.{Rule, Text}
use Rattle.clap.specs.declared.builder.action.ArgAction.TheVariants.{Append, SetTrue}
use Rattle.clap.specs.declared.builder.value_parser.ValueParser.TheVariants.{Unsigned}
use Rattle.rights_types.specs.declared.limits.TheConstants.{MAX_SITES, MIN_SITES}
use Rattle.site_words.specs.declared.config.TheConstants.{MAX_KEYS, MAX_SILENCE, MAX_TICK, MIN_TICK}

-- an optional option with one value
abbrev pub value_rule : Text → Rule
value_rule name = record (new_rule name) { long = Some name; value_names = 1 }

-- a required option with one value
abbrev pub option_rule : Text → Rule
option_rule name = record (value_rule name) { required = true }

-- a required option with a whole number in a range
abbrev pub number_rule : Text → ℕ → ℕ → Rule
number_rule name least most = record (option_rule name) { parser = Some (Unsigned least most) }

-- the interval at which the site ticks itself: a whole number of milliseconds
abbrev pub tick_rule : Rule
tick_rule = record (value_rule (codes "tick")) { parser = Some (Unsigned MIN_TICK MAX_TICK) }

-- the time with no line after which a peer counts as silent: a whole number of milliseconds
abbrev pub silent_rule : Rule
silent_rule = record (value_rule (codes "silent")) { parser = Some (Unsigned 0 MAX_SILENCE) }

-- how many keys of commands the site remembers
abbrev pub keys_rule : Rule
keys_rule = record (value_rule (codes "keys")) { parser = Some (Unsigned 0 MAX_KEYS) }

-- the names of the site's host: an option that may occur several times
abbrev pub host_rule : Rule
host_rule = record (value_rule (codes "host")) { action = Some Append }

-- the entrances of peers: an option that may occur several times
abbrev pub from_rule : Rule
from_rule = record (value_rule (codes "from")) { action = Some Append }

-- an option that takes no value
abbrev pub flag_rule : Text → Rule
flag_rule name = record (new_rule name) { long = Some name; action = Some SetTrue }

-- the peers: at least one
abbrev pub peer_rule : Rule
peer_rule = record (new_rule (codes "peer")) {
  range = Some (record { start_inclusive = 1; end_inclusive = usize_max });
  value_names = 1;
  required = true;
}

-- `run` with only its two numbers
abbrev pub run_numbers_shape : Shape
run_numbers_shape = record (new_shape (codes "run")) {
  rules = number_rule (codes "id") 1 MAX_SITES ∷ number_rule (codes "sites") MIN_SITES MAX_SITES ∷ [];
}

-- .. and with the addresses of the site and of its peers
abbrev pub addresses_shape : Shape
addresses_shape = record (new_shape (codes "run")) {
  rules = number_rule (codes "id") 1 MAX_SITES ∷ number_rule (codes "sites") MIN_SITES MAX_SITES
      ∷ value_rule (codes "listen") ∷ from_rule ∷ peer_rule ∷ [];
}

abbrev pub run_shape : Shape
run_shape = record (new_shape (codes "run")) {
  rules = number_rule (codes "id") 1 MAX_SITES ∷ number_rule (codes "sites") MIN_SITES MAX_SITES
      ∷ value_rule (codes "listen") ∷ from_rule ∷ peer_rule
      ∷ value_rule (codes "http") ∷ host_rule ∷ tick_rule ∷ silent_rule ∷ keys_rule ∷ value_rule (codes "once")
      ∷ value_rule (codes "journal") ∷ value_rule (codes "system") ∷ flag_rule (codes "log") ∷ [];
}

-- the path of a journal
abbrev pub file_rule : Rule
file_rule = record (new_rule (codes "file")) { value_names = 1; required = true }

abbrev pub check_shape : Shape
check_shape = record (new_shape (codes "check-journal")) { rules = file_rule ∷ flag_rule (codes "json") ∷ [] }

-- the program's name is not among the words, one of its commands is required, and `help` is not a command
abbrev pub app : App
app = record {
  top = record (new_shape (codes "rights-site")) {
    is_leaf = false;
    no_binary_name = true;
    disable_help_subcommand = true;
    subcommand_required = true;
  };
  subs = new_shape (codes "sim") ∷ run_shape ∷ check_shape ∷ [];
}
