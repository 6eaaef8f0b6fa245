-- What is asked of the variables of the spaces above a space.
use Rattle.std.specs.Prelude.{ℕ, Bool, true, false, not, ◌&&◌, ◌||◌, List, Option, Some, None}
use Rattle.std.specs.List.{list_all, list_any}
use Rattle.oz_base.specs.Lists.{iff}
use Rattle.oz_base.specs.declared.names.Ident.{Ident}
use Rattle.oz_semantics.specs.Names.{is_below}
use Rattle.oz_semantics.specs.Store.{same, named_by}
use Rattle.oz_semantics.specs.declared.value.Tell.{Tell}
use Rattle.oz_semantics.specs.declared.configuration.Layer.{Layer}
use Rattle.view_laws.specs.Touched.{alike_at}
use Rattle.space_core.specs.Shown.{is_outer}
use Rattle.space_core.specs.declared.level.Level.{Level}

-- of a variable of a space above: both views make it equal to x, or neither does
abbrev pub equal_alike : List Layer → List ℕ → List Tell → List Tell → Ident → Ident → Bool
equal_alike layers space one other x y = not (is_outer layers space y) || iff (same one x y) (same other x y)

-- of a variable of a space above: both views have the same of it, by these
abbrev pub variable_alike : List Layer → List ℕ → List Tell → List Tell → List Ident → Ident → Bool
variable_alike layers space one other names x =
    not (is_outer layers space x) || (alike_at one other x && list_all (equal_alike layers space one other x) names)

-- a variable of a space above to which x is equal
abbrev pub holds_variable : List Layer → List ℕ → List Tell → Ident → Ident → Bool
holds_variable layers space view x y = is_outer layers space y && same view x y

-- the same of all variables that a tell names
abbrev pub tell_equal : List Layer → List ℕ → List Tell → List Tell → Ident → Tell → Bool
tell_equal layers space one other x t = list_all (equal_alike layers space one other x) (named_by t)

unfoldable pub told_alike : List Layer → List ℕ → List Tell → List Tell → Ident → Bool
told_alike layers space one other x =
    not (is_outer layers space x) || (alike_at one other x && list_all (tell_equal layers space one other x) one)

abbrev pub tell_alike : List Layer → List ℕ → List Tell → List Tell → Tell → Bool
tell_alike layers space one other t = list_all (told_alike layers space one other) (named_by t)

abbrev pub tell_holds : List Layer → List ℕ → List Tell → Ident → Tell → Bool
tell_holds layers space view x t = list_any (holds_variable layers space view x) (named_by t)

-- what is there passes
abbrev pub passes : (Tell → Bool) → Option Tell → Bool
passes test None = true
passes test (Some t) = test t

-- what is there passes, and there is something
abbrev pub meets : (Tell → Bool) → Option Tell → Bool
meets test None = false
meets test (Some t) = test t

-- what is kept is traced, where it is of the space or of one above it
abbrev pub is_traced : List ℕ → Level → Bool
is_traced space l = not (is_below l.space space) || l.traced
