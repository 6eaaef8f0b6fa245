-- Where the search of a finite-domain script begins, and that its top comes to rest.
use Rattle.std.proofs.Common.{◌≡◌, ℕ, zero, suc, ◌+◌, ◌-◌, ◌≤◌, arith, [], ◌∷◌, slice_get, Some, sym, ◌∙◌, ap, subst}
use Rattle.oz_language.specs.declared.kernel.Identifier.TheVariants.{Word}
use Rattle.oz_language.specs.declared.kernel.Statement.TheVariants.{BindProcedure}
use Rattle.oz_language.specs.declared.kernel.Kernel.{Kernel}
use Rattle.oz_language.specs.Refusals.{Program}
use Rattle.oz_language.specs.Kernels.{Stmts, none, just, count, numbers, numbered, listed_all}
use Rattle.oz_language.specs.Kernels as kernel
use Rattle.oz_language.specs.Translation.{statements_of, kernel_of}
use Rattle.oz_semantics.specs.Runs.{Ended, opening, run}
use Rattle.oz_semantics.specs.declared.configuration.Configuration.{Configuration}
use Rattle.kernel_form.specs.Pending.{Stand}
use Rattle.kernel_form.proofs.Standing.{all_stand, split_statement}
use Rattle.fd_form.specs.Parts.{script_word}
use Rattle.fd_form_law.specs.FdOptimality.{TopRests}
use Rattle.fd_form_law.proofs.ShapeLaws.{scripts_shaped}
use Rattle.fd_opening.specs.Opened.{Begins}
use Rattle.fd_opening.proofs.RootLaws.{rests, begins}

-- a program whose one statement makes `Script` a procedure with this body
module _ (p : Program) (root : ℕ) (body : Stmts) (code : statements_of p ≡ just (kernel.bind_procedure (Word script_word) (Word root ∷ []) body)) where
  abbrev all : Stmts
  all = just (kernel.bind_procedure (Word script_word) (Word root ∷ []) body)

  kernel_is : kernel_of p ≡ numbered p.words all
  unfolding kernel_of
  kernel_is = ap (numbered p.words) code

  -- its statements stand in the list
  stand : Stand (numbered p.words all).statements 0 (listed_all 0 body) × (slice_get (numbered p.words all).statements (0 + count body) ≡ Some (BindProcedure (Word script_word) (Word root ∷ []) (numbers 0 body)))
  stand = (let s = split_statement (listed_all 0 all) (kernel.bind_procedure (Word script_word) (Word root ∷ []) body) none 0 (all_stand (listed_all 0 all)) in (s.0, s.1))

  pub body_stands : Stand (kernel_of p).statements 0 (listed_all 0 body)
  body_stands = subst (λ (k : Kernel). Stand k.statements 0 (listed_all 0 body)) (sym kernel_is) stand.0

  starts : (kernel_of p).body ≡ (0 + count body) ∷ []
  starts = ap (λ (k : Kernel). k.body) kernel_is

  here : slice_get (kernel_of p).statements (0 + count body) ≡ Some (BindProcedure (Word script_word) (Word root ∷ []) (numbers 0 body))
  here = ap (λ (k : Kernel). slice_get k.statements (0 + count body)) kernel_is ∙ stand.1

  pub script_begins : (budget left : ℕ) (top : Configuration) → run (kernel_of p) [] (opening (kernel_of p)) budget ≡ Ended top left → Begins (kernel_of p) root (numbers 0 body) top
  script_begins budget left top ran = begins (kernel_of p) root (numbers 0 body) (0 + count body) starts here budget left top ran

  -- its top comes to rest in one step
  script_rests : (budget : ℕ) → 1 ≤ budget → (top : Configuration) × (run (kernel_of p) [] (opening (kernel_of p)) budget ≡ Ended top (budget - 1))
  script_rests zero some = absurd (omega (arith, some))
  script_rests (suc b) some = (_, rests (kernel_of p) root (numbers 0 body) (0 + count body) starts here b)

pub top_rests : TopRests
top_rests text p s budget acc e some =
    let h = scripts_shaped p s e in
    script_rests p h.root _ h.code budget some
