-- What a test of equality answers, by the variables that wait.
use Rattle.std.proofs.Common.{◌≡◌, inl, inr, Bool, true, false, not, ◌&&◌, cond, List, [], ◌∷◌, Contains, refl, sym, ap, subst, arith}
use Rattle.std.specs.List.{list_any, flat_map}
use Rattle.std.proofs.lemmas.Bool.{false≢true}
use Rattle.oz_base.specs.declared.names.Ident.{Ident}
use Rattle.oz_laws.proofs.SameLaws.{In, In-from_contains, contains-from_In, and-left, and-right, tests_same}
use Rattle.oz_semantics.specs.Entailment as entailment
use Rattle.oz_semantics.specs.Entailment.{equated, is_affected, affected, entailed_unless, equality}
use Rattle.oz_semantics.specs.Store.{Same, itself, joined, same, is_determined, is_consistent, named_by}
use Rattle.oz_semantics.specs.declared.value.Tell.{Tell}
use Rattle.view_laws.proofs.ListLaws.{filter_in, in_filter}
use Rattle.view_laws.proofs.Members.{bool_eq, not_both, and_both, some_of, by_some}
use Rattle.view_laws.proofs.ViewLaws.{same_named}
use Rattle.tree_equal.specs.Answers.{SameClasses, IsEquality, unless}

-- z has no value, and the equation makes it equal to another
pub record Affects (ts : List Tell) (x y z : Ident) : Type 0 where
  pub free : is_determined ts z ≡ false
  pub other : Ident
  pub joins : Same (equated ts x y) z other
  pub apart : same ts z other ≡ false

not_is : (b : Bool) → not b ≡ true → b ≡ false
not_is true e = absurd (false≢true e)
not_is false e = refl

module _ (ts : List Tell) (x y : Ident) where
  abbrev variables : List Ident
  variables = flat_map named_by (equated ts x y)

  abbrev merges : Ident → Ident → Bool
  merges z w = same (equated ts x y) z w && not (same ts z w)

  affects : (z : Ident) → In z (affected ts x y) → Affects ts x y z
  affects z h =
      let e = (filter_in (is_affected ts (equated ts x y) variables) variables z h).1 in
      let w = some_of (merges z) variables (and-right (not (is_determined ts z)) (list_any (merges z) variables) e) in
      record {
        free = not_is _ (and-left (not (is_determined ts z)) (list_any (merges z) variables) e);
        other = w.0;
        joins = (tests_same (equated ts x y) z w.0).0 (and-left (same (equated ts x y) z w.0) (not (same ts z w.0)) w.2);
        apart = not_is _ (and-right (same (equated ts x y) z w.0) (not (same ts z w.0)) w.2);
      }

  -- both are named by the tells
  named : (z w : Ident) → Same (equated ts x y) z w → same ts z w ≡ false → In z variables × In w variables
  named z w s apart = elim (same_named (equated ts x y) s) [
    | inl e ↦ absurd (not_both _ (subst (λ a. same ts z a ≡ true) e ((tests_same ts z z).1 itself)) apart)
    | inr k ↦ k
  ]

  is_affecting : (z : Ident) → Affects ts x y z → In z (affected ts x y)
  is_affecting z a =
      let n = named z a.other a.joins a.apart in
      in_filter (is_affected ts (equated ts x y) variables) variables z n.0
      (and_both _ _ (ap not a.free)
      (by_some (merges z) variables a.other (contains-from_In variables a.other n.1) (and_both _ _ ((tests_same (equated ts x y) z a.other).1 a.joins) (ap not a.apart))))

-- the list has the variables that an equation affects, each by one of its class
pub record Covers (ts : List Tell) (x y : Ident) (ws : List Ident) : Type 0 where
  pub sound : (z : Ident) → Contains ws z → Affects ts x y z
  pub complete : (z : Ident) → Affects ts x y z → (c : Ident) × Contains ws c × Same ts z c

head_in : (x : Ident) (xs : List Ident) → Contains (x ∷ xs) x
head_in x xs = (0, omega arith, refl)

none_in : (x : Ident) {A : Type 0} → Contains [] x → A
none_in x h = absurd (omega (arith, h.1))

pub contradicted : (ts : List Tell) (x y : Ident) → is_consistent (equated ts x y) ≡ false → equality ts x y ≡ entailment.Contradicted
contradicted ts x y e = ap (λ (b : Bool). cond b (entailed_unless (affected ts x y)) entailment.Contradicted) e

module _ (ts : List Tell) (x y : Ident) (ws : List Ident) (h : Covers ts x y ws) where
  -- what waits is affected
  affected_in : (z : Ident) → Contains ws z → Contains (affected ts x y) z
  affected_in z c = contains-from_In (affected ts x y) z (is_affecting ts x y z (h.sound z c))

  -- what is affected waits
  waiting : (z : Ident) → Contains (affected ts x y) z → (c : Ident) × Contains ws c × Same ts z c
  waiting z c = h.complete z (affects ts x y z (In-from_contains (affected ts x y) z c))

  same_classes : SameClasses ts ws (affected ts x y)
  same_classes z = bool_eq (list_any (same ts z) ws) (list_any (same ts z) (affected ts x y))
      (λ e. let o = some_of (same ts z) ws e in by_some (same ts z) (affected ts x y) o.0 (affected_in o.0 o.1) o.2)
      (λ e.
      let o = some_of (same ts z) (affected ts x y) e in
      let c = waiting o.0 o.1 in
      by_some (same ts z) ws c.0 c.1 ((tests_same ts z c.0).1 (joined ((tests_same ts z o.0).0 o.2) c.2)))

  -- no variable waits where none is affected, and the other way round
  by_waits : (us zs : List Ident) → ws ≡ us → affected ts x y ≡ zs → IsEquality ts (entailed_unless zs) (unless us)
  by_waits [] [] e f = refl
  by_waits [] (z ∷ zs) e f =
      let w = waiting z (subst (λ bs. Contains bs z) (sym f) (head_in z zs)) in
      none_in w.0 (subst (λ bs. Contains bs w.0) e w.1)
  by_waits (u ∷ us) [] e f = none_in u (subst (λ bs. Contains bs u) f (affected_in u (subst (λ bs. Contains bs u) (sym e) (head_in u us))))
  by_waits (u ∷ us) (z ∷ zs) e f = (z ∷ zs, refl, subst (λ bs. SameClasses ts bs (z ∷ zs)) e (subst (λ bs. SameClasses ts ws bs) f same_classes))

  pub covered : is_consistent (equated ts x y) ≡ true → IsEquality ts (equality ts x y) (unless ws)
  covered e =
      subst (λ a. IsEquality ts a (unless ws)) (sym (ap (λ (b : Bool). cond b (entailed_unless (affected ts x y)) entailment.Contradicted) e)) (by_waits ws (affected ts x y) refl refl)
