-- Environments (CTM 2.4.2): finite maps from the identifiers of a program to the variables that they stand for.
use Rattle.std.specs.Prelude.{ℕ, ◌+◌, ◌*◌, List, [], ◌∷◌, Option, unwrap_or, map}
use Rattle.std.specs.Ordering.{nat_cmp}
use Rattle.std.specs.FinMap as maps
use Rattle.oz_base.specs.declared.names.Ident.{Ident}
use Rattle.oz_language.specs.declared.kernel.Identifier.{Identifier}
use Rattle.oz_language.specs.declared.kernel.Identifier.TheVariants.{Word, Fresh}

-- identifiers, numbered: words have even numbers, and those that the translation made have odd ones
abbrev pub code : Identifier → ℕ
code (Word n) = 2 * n
code (Fresh n) = 2 * n + 1

abbrev pub Environment : Type 0
Environment = maps.FinMap nat_cmp Ident

-- no identifier stands for anything
abbrev pub unbound : Environment
unbound = maps.empty

-- the variable of an identifier, if it has one
abbrev pub bound_in : Environment → Identifier → Option Ident
bound_in e name = maps.get e (code name)

-- the identifier stands for the variable, and all others for what they did
abbrev pub binding : Identifier → Ident → Environment → Environment
binding name x e = maps.insert e (code name) x

-- several, each for the variable at its place; of one that stands twice the first place counts
abbrev pub binding_all : List Identifier → List Ident → Environment → Environment
binding_all (n ∷ ns) (x ∷ xs) e = binding n x (binding_all ns xs e)
binding_all (n ∷ ns) [] e = e
binding_all [] xs e = e

-- each variable gives way to another
abbrev pub renamed : (Ident → Ident) → Environment → Environment
renamed rename e = maps.from_entries (map (λ (b : ℕ × Ident). (b.0, rename b.1)) (maps.entries e))

-- a variable that no space gives out: the top numbers its children from 1
abbrev pub nowhere : Ident
nowhere = record { space = 0 ∷ []; number = 0 }

-- the variable of an identifier of a program, which has one wherever the program speaks of it
abbrev pub bound : Environment → Identifier → Ident
bound e name = unwrap_or (bound_in e name) nowhere
