-- By-need computations of a space that begin.
use Rattle.std.specs.Prelude.{ℕ, zero, suc, Bool, if◌then◌else◌, List, [], ◌∷◌, drop}
use Rattle.std.specs.List.{fold}
use Rattle.oz_base.specs.declared.names.Ident.{Ident}
use Rattle.oz_semantics.specs.Configurations.{with_frames, adding_trigger}
use Rattle.oz_semantics.specs.Triggers.{beginning}
use Rattle.oz_semantics.specs.declared.configuration.Layer.{Layer}

-- the items that are marked, and those that are not
abbrev pub marked : {A : Type 0} → List Bool → List A → List A
marked [] xs = []
marked (mark ∷ marks) [] = []
marked (mark ∷ marks) (x ∷ xs) = if mark then x ∷ marked marks xs else marked marks xs

abbrev pub unmarked : {A : Type 0} → List Bool → List A → List A
unmarked [] xs = xs
unmarked (mark ∷ marks) [] = []
unmarked (mark ∷ marks) (x ∷ xs) = if mark then unmarked marks xs else x ∷ unmarked marks xs

-- the marked triggers of a layer give way to their threads
abbrev pub firing : List Bool → Layer → Layer
firing marks l = fold beginning (record l { triggers = unmarked marks l.triggers }) (marked marks l.triggers)

-- the statement on top of a thread's stack was taken off, and a trigger came
abbrev pub delaying : ℕ → Ident → Ident → Layer → Layer
delaying number procedure variable l = adding_trigger procedure variable (with_frames number (λ stack. drop 1 stack) l)

-- the item at a place, changed
abbrev pub at_place : {A : Type 0} → ℕ → (A → A) → List A → List A
at_place n change [] = []
at_place zero change (x ∷ xs) = change x ∷ xs
at_place (suc n) change (x ∷ xs) = x ∷ at_place n change xs
