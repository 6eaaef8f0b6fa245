-- Products in a side of a relation.
use Rattle.std.proofs.Common.{◌≡◌, ℕ, List, Bool, refl}
use Rattle.oz_language.specs.Grammar.{Phrase, binary, int}
use Rattle.oz_language.specs.declared.token.Operator.TheVariants as operator
use Rattle.fd_form.specs.Sums.{term_of}
use Rattle.fd_form.specs.Steps.{coefficient_of, multiplied}

pub term_times : (vs : List ℕ) (s : Bool) (a b : Phrase) →
    term_of vs s (binary operator.Times a b) ≡ multiplied vs s (coefficient_of a) (coefficient_of b) a b
term_times vs s (int i at) b = refl
term_times vs s a (int i at) = refl
term_times vs s a b = refl
