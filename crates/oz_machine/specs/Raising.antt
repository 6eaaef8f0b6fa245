-- What is made before an exception changes anything.
use Rattle.std.specs.Prelude.{ℕ, ◌≡◌, List, length}
use Rattle.oz_semantics.specs.Configurations.{layer_of}
use Rattle.oz_semantics.specs.Exceptions.{raise_term, new_term_tells}
use Rattle.oz_semantics.specs.Settling.{term_variable}
use Rattle.oz_semantics.specs.declared.configuration.Layer.{Layer}
use Rattle.oz_semantics.specs.declared.outcome.RaiseKind.{RaiseKind}
use Rattle.oz_raise.specs.declared.tells.NewTerm.{NewTerm}

-- the term of an exception of the machine, by so many new variables of a space
pub record IsTermOf (kind : RaiseKind) (layers : List Layer) (space : List ℕ) (made : NewTerm) (n : ℕ) : Type 0 where
  pub variable : made.variable ≡ term_variable layers space
  pub tells : made.tells.items ≡ new_term_tells (layer_of layers space) (raise_term kind)
  pub count : n ≡ length (raise_term kind)
