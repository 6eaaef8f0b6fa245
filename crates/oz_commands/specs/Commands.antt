-- The command line: the name of a command, and then its options in any order, each at most once, as two words `--name NUMBER`
-- or as one word `--name=NUMBER`.
use Rattle.std.specs.Prelude.{ℕ, ◌≡◌, ◌≤◌, ◌&&◌, Bool, true, false, not, nat_lt, nat_le, List, [], ◌∷◌, ◌++◌, length, codes, Some, None, Option, option_map, unwrap_or, find}
use Rattle.std.specs.List.{list_all, list_any, flat_map}
use Rattle.std.specs.Str.Parse.{digits_value}
use Rattle.std.specs.Char.{is_digit}
use Rattle.oz_commands.specs.declared.command.Command.{Command}
use Rattle.oz_commands.specs.declared.command.Command.TheVariants as command

abbrev pub Word : Type 0
Word = List ℕ

-- The commands and options, and which options a command has

pub data Verb : Type 0 where
  all : Verb
  run : Verb
  best : Verb
  kernel : Verb

pub data OptionName : Type 0 where
  workers : OptionName
  budget : OptionName

abbrev pub verb_word : Verb → Word
verb_word all = codes "all"
verb_word run = codes "run"
verb_word best = codes "best"
verb_word kernel = codes "kernel"

abbrev pub option_word : OptionName → Word
option_word workers = codes "--workers"
option_word budget = codes "--budget"

abbrev pub same_name : OptionName → OptionName → Bool
same_name workers workers = true
same_name budget budget = true
same_name workers budget = false
same_name budget workers = false

abbrev pub takes : Verb → OptionName → Bool
takes all name = true
takes run name = same_name name budget
takes best name = true
takes kernel name = false

-- Numbers

-- the greatest number that an option takes
abbrev pub most : OptionName → ℕ
most workers = 64
most budget = 281474976710656

-- the number where the option is not given
abbrev pub default : OptionName → ℕ
default workers = 1
default budget = 1000000

-- one or more decimal digits, of a number from 1 to the greatest that the option takes
abbrev pub is_number : OptionName → Word → Bool
is_number name word =
    nat_lt 0 (length word) && list_all (λ d. is_digit d 10) word
    && nat_le 1 (digits_value 10 word) && nat_le (digits_value 10 word) (most name)

-- Options as they stand in the words

pub record Given : Type 0 where
  pub name : OptionName
  pub number : Word
  -- as one word, `--name=NUMBER`
  pub is_joined : Bool

abbrev pub words_by : OptionName → Word → Bool → List Word
words_by name number true = (option_word name ++ 61 ∷ number) ∷ []
words_by name number false = option_word name ∷ number ∷ []

abbrev pub words_of : Given → List Word
words_of g = words_by g.name g.number g.is_joined

-- no option is given twice
abbrev pub are_distinct : List Given → Bool
are_distinct [] = true
are_distinct (g ∷ rest) = not (list_any (λ (h : Given). same_name h.name g.name) rest) && are_distinct rest

-- the command has these options, and they are numbers in their ranges
abbrev pub fit : Verb → List Given → Bool
fit verb given = list_all (λ (g : Given). takes verb g.name && is_number g.name g.number) given

-- the number that an option has
abbrev pub value_in : List Given → OptionName → ℕ
value_in given name = unwrap_or (option_map (λ (g : Given). digits_value 10 g.number) (find (λ (g : Given). same_name g.name name) given)) (default name)

abbrev pub command_by : Verb → List Given → Command
command_by all given = command.All (value_in given workers) (value_in given budget)
command_by run given = command.Run (value_in given budget)
command_by best given = command.Best (value_in given workers) (value_in given budget)
command_by kernel given = command.Kernel

-- the numbers of a command are in the ranges of their options
abbrev pub InRange : Command → Type 0
InRange (command.All count steps) = (1 ≤ count) × (count ≤ most workers) × (steps ≤ most budget)
InRange (command.Run steps) = steps ≤ most budget
InRange (command.Best count steps) = (1 ≤ count) × (count ≤ most workers) × (1 ≤ steps) × (steps ≤ most budget)
InRange command.Kernel = Unit {0}

-- the words spell the command
pub record Spells (words : List Word) (c : Command) : Type 0 where
  pub verb : Verb
  pub given : List Given
  pub spelled : words ≡ verb_word verb ∷ flat_map words_of given
  pub fitting : fit verb given ≡ true
  pub distinct : are_distinct given ≡ true
  pub meant : command_by verb given ≡ c

-- the words spell no command
abbrev pub IsUsage : List Word → Type 0
IsUsage words = (c : Command) → Spells words c → ⊥

-- the words spell `all` with this budget
pub record AsksAll (words : List Word) (budget : ℕ) : Type 0 where
  pub workers : ℕ
  pub spelled : Spells words (command.All workers budget)

-- the words spell `run` with this budget
abbrev pub AsksRun : List Word → ℕ → Type 0
AsksRun words steps = Spells words (command.Run steps)

-- the words spell `best` with these workers and this budget
abbrev pub AsksBest : List Word → ℕ → ℕ → Type 0
AsksBest words count steps = Spells words (command.Best count steps)

-- the words spell `kernel`
abbrev pub AsksKernel : List Word → Type 0
AsksKernel words = Spells words command.Kernel

-- the words spell this command, or none
abbrev pub IsSpelled : List Word → Option Command → Type 0
IsSpelled words None = IsUsage words
IsSpelled words (Some c) = Spells words c
