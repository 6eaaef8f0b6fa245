-- The fields of the record `FD`, row by row.
use Rattle.std.specs.Prelude.{◌≡◌, ◌++◌, List, map}
use Rattle.oz_base.specs.declared.names.Ident.{Ident}
use Rattle.oz_language.specs.declared.kernel.Constant.{Constant}
use Rattle.oz_machine.specs.declared.opening.Parts.{Parts}

-- the old fields with all these behind them are the new ones with those
abbrev pub ArePartsOf : List (Constant × Ident) → Parts → List (Constant × Ident) → Parts → Type 0
ArePartsOf these old those new =
    (new.features.items ++ map (λ (p : Constant × Ident). p.0) those ≡ old.features.items ++ map (λ (p : Constant × Ident). p.0) these)
    × (new.fields.items ++ map (λ (p : Constant × Ident). p.1) those ≡ old.fields.items ++ map (λ (p : Constant × Ident). p.1) these)
