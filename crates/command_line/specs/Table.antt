-- The commands and their options, as clap is told of them, and what clap holds of an option that was given.
use Rattle.std.specs.Prelude.{List, [], ◌∷◌, codes, map, Option, Some, None, ◌≡◌, true}
use Rattle.clap.specs.Words.{App, Row, Rule, Text, new_app, new_rule, with_rule, with_subcommand}
use Rattle.clap.specs.declared.builder.value_parser.ValueParser.TheVariants as parser
use Rattle.clap.specs.declared.builder.value_parser.Reading.TheVariants as reading
use Rattle.clap.specs.declared.parser.matches.ValueSource.TheVariants.{CommandLine}
use Rattle.oz_commands.specs.Commands.{Given, OptionName, Verb, all, run, best, kernel, workers, budget, fit, most, verb_word}

-- an option by the name that clap has for it, without the hyphens
abbrev pub id_of : OptionName → Text
id_of workers = codes "workers"
id_of budget = codes "budget"

-- an option that takes a number from 1 to its greatest
abbrev pub option_rule : OptionName → Rule
option_rule name = record (new_rule (id_of name)) { parser = Some (parser.Unsigned 1 (most name)); long = Some (id_of name) }

abbrev pub all_app : App
all_app = with_rule (with_rule (new_app (verb_word all)) (option_rule workers)) (option_rule budget)

abbrev pub run_app : App
run_app = with_rule (new_app (verb_word run)) (option_rule budget)

abbrev pub best_app : App
best_app = with_rule (with_rule (new_app (verb_word best)) (option_rule workers)) (option_rule budget)

abbrev pub kernel_app : App
kernel_app = new_app (verb_word kernel)

-- the program without its commands
abbrev pub oz_start : App
oz_start = let a = new_app (codes "oz") in record a {
  top = record a.top {
    no_binary_name = true;
    disable_help_flag = true;
    disable_help_subcommand = true;
    subcommand_required = true;
  };
}

abbrev pub oz_app : App
oz_app = with_subcommand (with_subcommand (with_subcommand (with_subcommand oz_start all_app.top) run_app.top) best_app.top) kernel_app.top

-- what clap holds of an option that was given
abbrev pub row_for : Given → Row
row_for g = record { id = id_of g.name; values = g.number ∷ []; count = None; source = Some CommandLine; reading = reading.AsWritten }

abbrev pub rows_for : List Given → List Row
rows_for = map row_for

-- clap found the command, and these options of it
abbrev pub IsFound : Option (Text × List Row) → Verb → List Given → Type 0
IsFound rows verb given = (rows ≡ Some (verb_word verb, rows_for given)) × (fit verb given ≡ true)
