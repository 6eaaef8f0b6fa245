-- The top-level space of a program whose one statement binds `Script` to a procedure, and the computation space in which the search of that
-- script begins (procedure values, CTM 2.3; the abstract machine, CTM 2.4; computation spaces, CTM 12.4; Schulte, LNCS 2302, chapter 4).
use Rattle.std.specs.Prelude.{◌≡◌, ℕ, List, [], ◌∷◌, Contains, flat_map}
use Rattle.environments.specs.Environments.{Environment, bound}
use Rattle.oz_base.specs.declared.names.Ident.{Ident}
use Rattle.oz_language.specs.declared.token.Literal.TheVariants.{Atom}
use Rattle.oz_language.specs.declared.kernel.Constant.TheVariants as constant
use Rattle.oz_language.specs.declared.kernel.Identifier.TheVariants.{Word}
use Rattle.oz_language.specs.declared.kernel.Kernel.{Kernel}
use Rattle.oz_semantics.specs.Names.{named}
use Rattle.oz_semantics.specs.Store.{named_by}
use Rattle.oz_semantics.specs.Configurations.{applying}
use Rattle.oz_semantics.specs.Answers.{Acts, GivesVariable}
use Rattle.oz_semantics.specs.Builtins.{selects}
use Rattle.oz_semantics.specs.Runs.{fd_record, fd_number}
use Rattle.oz_semantics.specs.Search.{script_variable, with_root, search_space}
use Rattle.oz_semantics.specs.declared.value.Builtin.{Builtin}
use Rattle.oz_semantics.specs.declared.value.Builtin.TheVariants.{Distinct, Distribute}
use Rattle.oz_semantics.specs.declared.value.Value.TheVariants as value
use Rattle.oz_semantics.specs.declared.value.Tell.TheVariants.{Is}
use Rattle.oz_semantics.specs.declared.configuration.Configuration.{Configuration}
use Rattle.fd_form.specs.Parts.{fd_word, distinct_word, distribute_word}
use Rattle.fd_turns.specs.Nodes.{Top, IsKnown, node_space, own, config}

-- a field of the record `FD`, with this word as its feature: a variable of the top that is bound to this built-in procedure
pub record IsField (t : Top) (word : ℕ) (b : Builtin) : Type 0 where
  pub variable : Ident
  pub top : variable.space ≡ []
  pub told : Contains t.tells (Is variable (value.Builtin b))
  pub finds : (z : Ident) → selects z fd_record (value.Constant (constant.Literal (Atom word))) ≡ Acts (GivesVariable z variable)

-- The store of the top is consistent, determines each of its variables, and names no others. `Script` is bound to a procedure value of one
-- parameter, with this body and contextual environment, and `FD` to the record of the built-ins of finite domains.
pub record IsTop (t : Top) (root : ℕ) (body : List ℕ) (e : Environment) : Type 0 where
  pub known : IsKnown t
  pub names : (x : Ident) → Contains (flat_map named_by t.tells) x → x.space ≡ []
  pub script : (name : Ident) × Contains t.tells (Is script_variable (value.Procedure (record { name = name; parameters = Word root ∷ []; body = body; environment = e })))
  pub fd_told : Contains t.tells (Is (named [] fd_number) fd_record)
  pub distinct : IsField t distinct_word Distinct
  pub distribute : IsField t distribute_word Distribute
  pub fd_is : bound e (Word fd_word) ≡ named [] fd_number

-- the search of a script begins in this configuration: nothing was shown, and below such a top a new space applies `Script` to its root
-- variable
pub record Begins (k : Kernel) (root : ℕ) (body : List ℕ) (c : Configuration) : Type 0 where
  pub top : Top
  pub environment : Environment
  pub is_top : IsTop top root body environment
  pub space : search_space c ≡ node_space
  pub quiet : c.shown ≡ []
  pub begins : with_root k.statements script_variable c ≡ config k.statements top (record { tells = []; frames = applying script_variable (own 0) ∷ []; propagators = []; next = 1 })
