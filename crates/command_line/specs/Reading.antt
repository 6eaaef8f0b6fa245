-- The command that a list of words spells, read from the left.
use Rattle.std.specs.Prelude.{◌==◌, ◌&&◌, ◌||◌, Bool, List, [], ◌∷◌, ◌++◌, codes, Option, Some, None, ℕ, if◌then◌else◌, option_map, option_and_then, find, not}
use Rattle.std.specs.Prelude.{true, false}
use Rattle.std.specs.List.{list_any, before_first, after_first}
use Rattle.std.specs.Str.{bytes_eq}
use Rattle.std.specs.Str.Parse.{digits_value}
use Rattle.oz_commands.specs.declared.command.Command.{Command}
use Rattle.oz_commands.specs.Commands.{Given, OptionName, Verb, Word, all, run, best, kernel, workers, budget, command_by, is_number, option_word, same_name, takes, verb_word}

abbrev pub verb_of : Word → Option Verb
verb_of word =
    if bytes_eq (verb_word all) word then Some all
    else (if bytes_eq (verb_word run) word then Some run
    else (if bytes_eq (verb_word best) word then Some best
    else (if bytes_eq (verb_word kernel) word then Some kernel else None)))

-- the option that a word names, up to its first `=` (61)
abbrev pub option_name : Word → Option OptionName
option_name word = let name = before_first (λ c. c == 61) word in
    if bytes_eq (option_word workers) name then Some workers
    else (if bytes_eq (option_word budget) name then Some budget else None)

-- what stands after the first `=` of the word, if it has one
abbrev pub value_part : Word → Option Word
value_part word = if list_any (λ c. c == 61) word then Some (after_first (λ c. c == 61) word) else None

abbrev pub is_given : OptionName → List Given → Bool
is_given name given = list_any (λ (g : Given). same_name g.name name) given

-- the option joins those so far, where the command takes it, it is the first of its name and its number is one
abbrev pub with_option : Verb → Given → List Given → Option (List Given)
with_option verb g given =
    if takes verb g.name && (not (is_given g.name given) && is_number g.name g.number)
    then Some (given ++ g ∷ []) else None

abbrev pub joined : OptionName → Word → Given
joined name number = record { name = name; number = number; is_joined = true }

abbrev pub apart : OptionName → Word → Given
apart name number = record { name = name; number = number; is_joined = false }

-- a word where no number is due: an option that waits for its number, or one with its number
abbrev pub option_read : Option OptionName → Option Word → (OptionName → Option (List Given)) → (Given → Option (List Given)) → Option (List Given)
option_read None number waits gives = None
option_read (Some name) None waits gives = waits name
option_read (Some name) (Some number) waits gives = gives (joined name number)

-- the options that the words give, after those so far; `due` is the option whose number comes next
abbrev pub options_of : Verb → List Given → Option OptionName → List Word → Option (List Given)
options_of verb given None [] = Some given
options_of verb given (Some name) [] = None
options_of verb given None (word ∷ rest) = option_read (option_name word) (value_part word)
    (λ name. options_of verb given (Some name) rest)
    (λ g. option_and_then (λ more. options_of verb more None rest) (with_option verb g given))
options_of verb given (Some name) (word ∷ rest) =
    option_and_then (λ more. options_of verb more None rest) (with_option verb (apart name word) given)

-- the command that the words spell, if any
abbrev pub command_of : List Word → Option Command
command_of [] = None
command_of (word ∷ rest) = option_and_then (λ verb. option_map (command_by verb) (options_of verb [] None rest)) (verb_of word)

-- the number that was given for an option
abbrev pub number_in : List Given → OptionName → Option ℕ
number_in given name = option_map (λ (g : Given). digits_value 10 g.number) (find (λ (g : Given). same_name g.name name) given)

-- a word that clap may take and no command has: a bare `--`, or a word with a plus sign (43)
abbrev pub is_odd : Word → Bool
is_odd word = bytes_eq word (codes "--") || list_any (λ c. c == 43) word
