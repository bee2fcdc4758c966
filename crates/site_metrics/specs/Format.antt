-- The exposition format of Prometheus, version 0.0.4.
use Rattle.std.specs.Prelude.{ℕ, List, [], ◌∷◌, ◌++◌, codes, decimal, map, flat_map}

-- one value of a metric, with the labels that distinguish it from the others
pub record Sample : Type 0 where
  pub labels : List ℕ
  pub value : ℕ

-- a metric: its name, its help text, its type, and its values
pub record Family : Type 0 where
  pub name : List ℕ
  pub help : List ℕ
  pub kind : List ℕ
  pub samples : List Sample

abbrev pub help_line : List ℕ → List ℕ → List ℕ
help_line name help = codes "# HELP " ++ name ++ codes " " ++ help

abbrev pub type_line : List ℕ → List ℕ → List ℕ
type_line name kind = codes "# TYPE " ++ name ++ codes " " ++ kind

abbrev pub sample_line : List ℕ → Sample → List ℕ
sample_line name sample = name ++ sample.labels ++ codes " " ++ decimal sample.value

abbrev pub lines_of : Family → List (List ℕ)
lines_of family =
    help_line family.name family.help ∷ type_line family.name family.kind ∷ map (sample_line family.name) family.samples

-- the metrics one after another; each line ends with a line feed
abbrev pub exposition : List Family → List ℕ
exposition families = flat_map (λ line. line ++ 10 ∷ []) (flat_map lines_of families)

-- a metric's lines, each with its line feed before it
unfoldable pub led_lines : Family → List ℕ
led_lines family = flat_map (λ line. 10 ∷ line) (lines_of family)
