-- The parsers and arguments that clap's builders make.
use Rattle.std.proofs.Common.{◌≡◌, ◌∙◌, ◌||◌, ap₂, ℕ, ℤ, Bool, false, subst, refl, Option, Some, None}
use Rattle.std.specs.Prelude.{pos}
use Rattle.std.specs.Option.{IsSomeAnd}
use Rattle.clap.specs.Built.{AddsArg}
use Rattle.clap.specs.Simple.{App, app_of, with_rule}
use Rattle.clap.specs.Values.{NarrowsTo}
use Rattle.clap.specs.Walk.{Rule, rule_of}
use Rattle.clap.specs.declared.builder.arg.Arg.{Arg}
use Rattle.clap.specs.declared.builder.command.Command.{Command}
use Rattle.clap.specs.declared.builder.command.Command.TheViews.{out-Command}
use Rattle.clap.specs.declared.builder.range.ValueRange.{ValueRange}
use Rattle.clap.specs.declared.builder.value_parser.ValueParser.{ValueParser}
use Rattle.clap.specs.declared.builder.value_parser.ValueParser.TheVariants.{Unsigned}

pub some_and : {X : Type 0} {P : X → Type 0} (o : Option X) → IsSomeAnd o P → (x : X) × (o ≡ Some x) × P x
some_and None h = absurd h
some_and (Some x) h = (x, refl, h)

abbrev pub parsed_by : Rule → Option ValueParser → Rule
parsed_by r p = record r { parser = p }

abbrev pub ranged : Rule → Option ValueRange → Rule
ranged r n = record r { range = n }

abbrev pub is_global : Arg → Bool
is_global a = a.global

abbrev any_u64 : ValueParser
any_u64 = Unsigned 0 18446744073709551615

-- the bounds of a range of numbers
pub narrowed : (p r : ValueParser) (a b : ℤ) (least most : ℕ) → p ≡ any_u64 → a ≡ pos least → b ≡ pos most
    → NarrowsTo p (Some a) (Some b) r
    → NarrowsTo any_u64 (Some (pos least)) (Some (pos most)) r
narrowed p r a b least most any low high h =
    subst (λ (b : ℤ). NarrowsTo any_u64 (Some (pos least)) (Some b) r) high
    (subst (λ (a : ℤ). NarrowsTo any_u64 (Some a) (Some b) r) low
    (subst (λ (p : ValueParser). NarrowsTo p (Some a) (Some b) r) any h))

-- the application that a parser with no global argument is for
abbrev pub IsParserOf : Command → App → Type 0
IsParserOf parser app = (app_of parser ≡ app) × ((out-Command parser).has_globals ≡ false)

-- with one more argument it is for an application with one more rule
pub one_more : {old new : Command} {a : Arg} (app : App) (rule : Rule) → AddsArg old a new → IsParserOf old app
    → rule_of a ≡ rule → a.global ≡ false → IsParserOf new (with_rule app rule)
one_more app rule adds before is local = (
  adds.shape local ∙ ap₂ with_rule before.0 is,
  adds.globals ∙ ap₂ ◌||◌ before.1 local,
)
