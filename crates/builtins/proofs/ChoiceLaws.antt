-- What a `Choose` answers, by how many alternatives it offers.
use Rattle.std.proofs.Common.{◌≡◌, ◌∙◌, ℕ, ℤ, pos, negsuc, Bool, true, false, ◌&&◌, if◌then◌else◌, [], Option, Some, None, refl, sym}
use Rattle.std.specs.Prelude.{nat_le}
use Rattle.oz_base.specs.declared.names.Ident.{Ident}
use Rattle.oz_semantics.specs.Values.{integer_in}
use Rattle.oz_semantics.specs.Store.{View, value_of}
use Rattle.oz_semantics.specs.Sights.{Number, Offers}
use Rattle.oz_semantics.specs.Answers.{RaisesKind, Rests, given, with_value, of_kind}
use Rattle.oz_semantics.specs.Builtins.{choice_limit, offered}
use Rattle.oz_semantics.specs.declared.value.Value.{Value}
use Rattle.oz_semantics.specs.declared.outcome.RaiseKind.TheVariants as raise
use Rattle.builtins.specs.Choices.{size_in}
use Rattle.builtins.specs.Exact.{erased, offered_of, chooses}

erased_twice : (o : Option ℕ) → erased (offered_of o) ≡ offered_of o
erased_twice None = refl
erased_twice (Some n) = refl

integer_chosen : (x : Ident) (i : ℤ) → erased (offered x i) ≡ offered_of (size_in i)
integer_chosen x (pos n) = by (nat_le 1 n && nat_le n choice_limit)
  where
    by : (b : Bool) → erased (if b then Rests (Offers (Number n x) []) else RaisesKind raise.Domain) ≡ offered_of (if b then Some n else None)
    by true = refl
    by false = refl
integer_chosen x (negsuc n) = refl

kind_chosen : (x : Ident) (o : Option ℤ) → erased (of_kind o (offered x)) ≡ erased (of_kind o (λ i. offered_of (size_in i)))
kind_chosen x None = refl
kind_chosen x (Some i) = integer_chosen x i ∙ sym (erased_twice (size_in i))

given_chosen : (x y : Ident) (o : Option Value) → erased (given y o (λ v. of_kind (integer_in v) (offered x))) ≡ erased (given y o chooses)
given_chosen x y None = refl
given_chosen x y (Some v) = kind_chosen x (integer_in v)

-- whichever variable becomes the number
pub chosen : (view : View) (x y : Ident) → erased (with_value view y (λ v. of_kind (integer_in v) (offered x))) ≡ erased (with_value view y chooses)
chosen view x y = given_chosen x y (value_of view y)
