-- The cells of a list that are begun and not yet ended.
use Rattle.std.specs.Prelude.{ℕ, suc, pos, List, [], ◌∷◌}
use Rattle.oz_language.specs.Kernels.{just}
use Rattle.oz_language.specs.Kernels as k
use Rattle.oz_language.specs.Translation.{cell_bound, fresh_among}
use Rattle.oz_language.specs.declared.kernel.Constant.TheVariants.{Int}
use Rattle.oz_language.specs.declared.kernel.Identifier.{Identifier}
use Rattle.oz_language.specs.declared.kernel.Identifier.TheVariants.{Fresh}
use Rattle.kernel_output.specs.declared.cells.Cell.{Cell}
use Rattle.kernel_output.specs.declared.output.Output.{Output}
use Rattle.kernel_output.specs.Outputs.{with_all, opened, in_local}

-- with one more cell open, where there are identifiers that have it as their scope
abbrev pub with_cell : List Identifier → Output → List Cell → List Cell
with_cell [] o cells = cells
with_cell (x ∷ xs) o cells = record { names = x ∷ xs; outer = o.body } ∷ cells

-- the output then goes on in a body of its own
abbrev pub in_cell : List Identifier → Output → Output
in_cell [] o = o
in_cell (x ∷ xs) o = opened o

-- the cell x, whose head is y and whose tail is z
abbrev pub cell_begun : Identifier → Identifier → Identifier → Output → Output
cell_begun x y z o = with_all (in_cell (fresh_among (y ∷ z ∷ [])) o) (just (cell_bound x y z))

-- all end, the last one that was opened first
abbrev pub all_closed : List Cell → Output → Output
all_closed [] o = o
all_closed (c ∷ cells) o = all_closed cells (in_local c.outer c.names o)

-- the cell of a code, whose head and tail have the next two identifiers
abbrev pub code_cells : ℕ → Output → List Cell → List Cell
code_cells n o cells = with_cell (fresh_among (Fresh n ∷ Fresh (suc n) ∷ [])) o cells

abbrev pub code_begun : Identifier → ℕ → ℕ → Output → Output
code_begun x c n o = with_all (cell_begun x (Fresh n) (Fresh (suc n)) o) (just (k.bind (Fresh n) (Int (pos c))))
