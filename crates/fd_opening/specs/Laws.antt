-- The law of where the search of a script begins (the abstract machine, CTM 2.4; computation spaces, CTM 12.4; Schulte, LNCS 2302,
-- chapter 4).
use Rattle.std.specs.Prelude.{◌≡◌, ℕ, [], ◌∷◌}
use Rattle.oz_language.specs.declared.kernel.Identifier.TheVariants.{Word}
use Rattle.oz_language.specs.Refusals.{Program}
use Rattle.oz_language.specs.Kernels.{Stmts, just, numbers}
use Rattle.oz_language.specs.Kernels as kernel
use Rattle.oz_language.specs.Translation.{statements_of, kernel_of}
use Rattle.oz_semantics.specs.Runs.{Ended, opening, run}
use Rattle.oz_semantics.specs.declared.configuration.Configuration.{Configuration}
use Rattle.fd_form.specs.Parts.{script_word}
use Rattle.fd_opening.specs.Opened.{Begins}

-- where the one statement of a program binds `Script` to a procedure with this body, its search begins so once the run of its top ended
abbrev pub ScriptsBegin : Type 0
ScriptsBegin = (p : Program) (root : ℕ) (body : Stmts) → statements_of p ≡ just (kernel.bind_procedure (Word script_word) (Word root ∷ []) body)
    → (budget left : ℕ) (top : Configuration) → run (kernel_of p) [] (opening (kernel_of p)) budget ≡ Ended top left → Begins (kernel_of p) root (numbers 0 body) top
