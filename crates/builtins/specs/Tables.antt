-- The table of built-ins.
use Rattle.std.specs.Prelude.{ℕ, if◌then◌else◌, List, Option, Some, None}
use Rattle.std.specs.List.{filter_map}
use Rattle.oz_base.specs.Lists.{list_eq, first}
use Rattle.oz_language.specs.Wording.{given_word}
use Rattle.oz_semantics.specs.Builtins as builtins
use Rattle.oz_semantics.specs.Builtins.{rows}
use Rattle.oz_semantics.specs.declared.value.Builtin.{Builtin}
use Rattle.builtins.specs.declared.table.Row.{Row}
use Rattle.builtins.specs.declared.table.Row.TheVariants as row

abbrev pub row_of : Row → builtins.Row
row_of (row.Operator op) = builtins.Operator op
row_of (row.Named word name b) = builtins.Named name.now b
row_of (row.Part word name b) = builtins.Part name.now b

-- the number that a row has for its name's word
abbrev pub worded : Row → Option ℕ
worded (row.Operator op) = None
worded (row.Named word name b) = Some word
worded (row.Part word name b) = Some word

-- the number of the word that a row's name is
abbrev pub word_of : builtins.Row → Option ℕ
word_of (builtins.Operator op) = None
word_of (builtins.Named name b) = Some (given_word name)
word_of (builtins.Part name b) = Some (given_word name)

-- the built-in of a row that has this name
abbrev pub called : List ℕ → builtins.Row → Option Builtin
called name (builtins.Operator op) = None
called name (builtins.Named own b) = if list_eq own name then Some b else None
called name (builtins.Part own b) = None

-- the built-in with this name
abbrev pub named_builtin : List ℕ → Option Builtin
named_builtin name = first (filter_map (called name) rows)
