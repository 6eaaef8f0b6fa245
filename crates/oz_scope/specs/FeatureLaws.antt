-- Whether two features are one is an equivalence, and equal features are fed to a hasher alike.
use Rattle.std.specs.Prelude.{ℕ, ℤ, pos, ◌≡◌, true}
use Rattle.std.specs.Cmp.{IsEquivalence, both_ways}
use Rattle.std.proofs.Common.{refl, ap, sym, subst, true≢false}
use Rattle.std.proofs.lemmas.Bool.Decides.{Decides-int_eq, Decides-eqb}
use Rattle.std.proofs.lemmas.Cmp.{int_eq_equiv, nat_eq_equiv}
use Rattle.std.specs.Hash as fed
use Rattle.oz_language.specs.Constants.{literal_eq, constant_eq}
use Rattle.oz_language.specs.declared.token.Literal.{Literal}
use Rattle.oz_language.specs.declared.token.Literal.TheVariants as literal
use Rattle.oz_language.specs.declared.kernel.Constant.{Constant}
use Rattle.oz_language.specs.declared.kernel.Constant.TheVariants as constant

-- the number that a feature is fed as
abbrev pub literal_number : Literal → ℕ
literal_number (literal.Atom a) = a
literal_number literal.True = 0
literal_number literal.False = 1
literal_number literal.Unit = 2

abbrev pub feature_number : Constant → ℤ
feature_number (constant.Int i) = i
feature_number (constant.Literal l) = pos (literal_number l)

pub literal_same : (l m : Literal) → literal_eq l m ≡ true → l ≡ m
literal_same (literal.Atom a) (literal.Atom b) e = ap literal.Atom ((Decides-eqb a b).0 e)
literal_same literal.False literal.False e = refl
literal_same literal.True literal.True e = refl
literal_same literal.Unit literal.Unit e = refl
literal_same l m e = absurd (true≢false (sym e))

pub literal_refl : (l : Literal) → literal_eq l l ≡ true
literal_refl (literal.Atom a) = nat_eq_equiv.refl a
literal_refl literal.False = refl
literal_refl literal.True = refl
literal_refl literal.Unit = refl

pub constant_same : (c d : Constant) → constant_eq c d ≡ true → c ≡ d
constant_same (constant.Int i) (constant.Int j) e = ap constant.Int ((Decides-int_eq i j).0 e)
constant_same (constant.Literal l) (constant.Literal m) e = ap constant.Literal (literal_same l m e)
constant_same c d e = absurd (true≢false (sym e))

pub constant_refl : (c : Constant) → constant_eq c c ≡ true
constant_refl (constant.Int i) = int_eq_equiv.refl i
constant_refl (constant.Literal l) = literal_refl l

-- one direction of the symmetry
turned : (c d : Constant) → constant_eq c d ≡ true → constant_eq d c ≡ true
turned c d e = subst (λ (x : Constant). constant_eq x c ≡ true) (constant_same c d e) (constant_refl c)

pub constant_eq-equivalence : IsEquivalence constant_eq
constant_eq-equivalence = record {
  refl = constant_refl;
  symm = λ c d. both_ways (constant_eq c d) (constant_eq d c) (turned c d) (turned d c);
  congr = λ c d x e. ap (λ (y : Constant). constant_eq y x) (constant_same c d e);
}

pub feature_alike : (c d : Constant) → constant_eq c d ≡ true → fed.i128 (feature_number c) ≡ fed.i128 (feature_number d)
feature_alike c d e = ap (λ (x : Constant). fed.i128 (feature_number x)) (constant_same c d e)
