-- The value and the domain of a variable in a plain view.
use Rattle.std.proofs.Common.{◌≡◌, Bool, true, false, if◌then◌else◌, List, [], ◌∷◌, ◌++◌, Contains, Option, Some, None, option_map, option_and_then, refl, sym, ◌∙◌, ap, subst}
use Rattle.std.specs.List.{filter_map, cons_option}
use Rattle.std.proofs.lemmas.List.{append-nil}
use Rattle.std.proofs.lemmas.List.Elements.{filter_map-append}
use Rattle.std.proofs.lemmas.List.Sums.{fold-append}
use Rattle.std.specs.FinSet as set
use Rattle.oz_base.specs.Lists.{given_or}
use Rattle.oz_base.specs.Names.{ident_eq}
use Rattle.oz_base.specs.declared.names.Ident.{Ident}
use Rattle.oz_base.specs.declared.interval.Interval.{Interval}
use Rattle.oz_domains.specs.Domains.{IntSet, union, only}
use Rattle.oz_semantics.specs.Values.{integer}
use Rattle.oz_semantics.specs.Store.{Same, itself, reversed, joined, same, set_given, common, told_value, told_domain, value_of, domain_by, domain_of}
use Rattle.oz_semantics.specs.declared.value.Value.{Value}
use Rattle.oz_semantics.specs.declared.value.Tell.{Tell}
use Rattle.oz_semantics.specs.declared.value.Tell.TheVariants.{Equal, Is, Within}
use Rattle.oz_laws.proofs.SameLaws.{In, In-from_contains, contains-from_In, ident_eq-true, ident_eq-refl, tests_same}
use Rattle.oz_laws.proofs.DomainLaws.{given_in, in_given}
use Rattle.oz_laws.proofs.StoreLaws.{all_same, told_value_by}
use Rattle.view_laws.proofs.Members.{bool_eq}
use Rattle.view_laws.proofs.ViewLaws.{some_is, told_some}
use Rattle.fd_views.specs.Views.{IsFree, IsPlain, HasValue}
use Rattle.fd_views.proofs.SameLaws.{same_more, keeps_more}

-- ---- values

-- what a class was told is its value
pub value_told : (ts : List Tell) (xs : List Ident) (x : Ident) (v : Value) → IsPlain ts xs → HasValue ts x v → told_value ts x ≡ Some v
value_told ts xs x v p h =
    let some = some_is (told_value ts x) (told_some ts x h.variable v h.equal h.told) in
    let by = told_value_by ts x some.0 some.1 in
    some.1 ∙ ap (λ w. Some w) (p.one by.variable h.variable some.0 v (joined by.equal h.equal) by.tells h.told)

pub value_is : (ts : List Tell) (xs : List Ident) (x : Ident) (v : Value) → IsPlain ts xs → HasValue ts x v → value_of ts x ≡ Some v
value_is ts xs x v p h = ap (λ o. given_or o (option_map integer (option_and_then only (told_domain ts x)))) (value_told ts xs x v p h)

pub value_more : (ts more : List Tell) (x : Ident) (v : Value) → HasValue ts x v → HasValue (ts ++ more) x v
value_more ts more x v h = record { variable = h.variable; equal = same_more ts more h.equal; told = keeps_more ts more (Is h.variable v) h.told }

-- ---- domains of free variables

-- a free variable was told no value
pub free_untold : (ts : List Tell) (x : Ident) → IsFree ts x → told_value ts x ≡ None
free_untold ts x h = by (told_value ts x) refl where
  by : (o : Option Value) → told_value ts x ≡ o → o ≡ None
  by None e = refl
  by (Some v) e = (let t = told_value_by ts x v e in absurd (h.untold v (subst (λ z. Contains ts (Is z v)) (sym (h.apart t.variable (reversed t.equal))) t.tells)))

-- the sets that were told of this variable itself
abbrev pub own_sets : List Tell → Ident → List IntSet
own_sets ts x = filter_map (set_given (λ y. ident_eq y x)) ts

pub own_test : (ts : List Tell) (x y : Ident) → IsFree ts x → same ts y x ≡ ident_eq y x
own_test ts x y h =
    bool_eq _ _ (λ e. subst (λ z. ident_eq z x ≡ true) (h.apart y (reversed ((tests_same ts y x).0 e))) (ident_eq-refl x))
    (λ e. (tests_same ts y x).1 (subst (λ z. Same ts z x) (sym (ident_eq-true y x e)) itself))

pub sets_own : (ts : List Tell) (x : Ident) → IsFree ts x → filter_map (set_given (λ y. same ts y x)) ts ≡ own_sets ts x
sets_own ts x h = all_same (set_given (λ y. same ts y x)) (set_given (λ y. ident_eq y x)) each ts where
  each : (t : Tell) → set_given (λ y. same ts y x) t ≡ set_given (λ y. ident_eq y x) t
  each (Within y is) = ap (λ (b : Bool). if b then Some (union is) else None) (own_test ts x y h)
  each (Equal a b) = refl
  each (Is a v) = refl

pub domain_own : (ts : List Tell) (x : Ident) → IsFree ts x → domain_of ts x ≡ common (own_sets ts x)
domain_own ts x h = ap (λ o. domain_by o (told_domain ts x)) (free_untold ts x h) ∙ ap common (sets_own ts x h)

pub value_own : (ts : List Tell) (x : Ident) → IsFree ts x → value_of ts x ≡ option_map integer (option_and_then only (domain_of ts x))
value_own ts x h =
    ap (λ o. given_or o (option_map integer (option_and_then only (told_domain ts x)))) (free_untold ts x h)
    ∙ ap (λ o. option_map integer (option_and_then only (domain_by o (told_domain ts x)))) (sym (free_untold ts x h))

-- ---- more sets

-- what it has in common with a set
abbrev pub met : Option IntSet → IntSet → IntSet
met None s = s
met (Some d) s = set.intersection d s

pub common_more : (ss : List IntSet) (s : IntSet) → common (ss ++ s ∷ []) ≡ Some (met (common ss) s)
common_more [] s = refl
common_more (t ∷ ss) s = ap (λ d. Some d) (fold-append set.intersection t ss (s ∷ []))

pub own_same : (ts more : List Tell) (x : Ident) → own_sets more x ≡ [] → own_sets (ts ++ more) x ≡ own_sets ts x
own_same ts more x e = filter_map-append (set_given (λ y. ident_eq y x)) ts more ∙ ap (λ ss. own_sets ts x ++ ss) e ∙ append-nil (own_sets ts x)

pub own_here : (ts : List Tell) (x : Ident) (is : List Interval) → own_sets (ts ++ Within x is ∷ []) x ≡ own_sets ts x ++ union is ∷ []
own_here ts x is =
    filter_map-append (set_given (λ y. ident_eq y x)) ts (Within x is ∷ [])
    ∙ ap (λ (b : Bool). own_sets ts x ++ cons_option (if b then Some (union is) else None) []) (ident_eq-refl x)

pub own_other : (ts : List Tell) (x y : Ident) (is : List Interval) → (y ≡ x → ⊥) → own_sets (ts ++ Within y is ∷ []) x ≡ own_sets ts x
own_other ts x y is n = own_same ts (Within y is ∷ []) x (by (ident_eq y x) refl) where
  by : (b : Bool) → ident_eq y x ≡ b → cons_option (if b then Some (union is) else None) [] ≡ []
  by true e = absurd (n (ident_eq-true y x e))
  by false e = refl

-- who told a set
pub own_by : (ts : List Tell) (x : Ident) (s : IntSet) → In s (own_sets ts x) → (is : List Interval) × Contains ts (Within x is) × (union is ≡ s)
own_by ts x s h = (let g = given_in (set_given (λ y. ident_eq y x)) ts s h in by g.0 (contains-from_In ts g.0 g.1) g.2) where
  by : (t : Tell) → Contains ts t → set_given (λ y. ident_eq y x) t ≡ Some s → (is : List Interval) × Contains ts (Within x is) × (union is ≡ s)
  by (Equal a b) c e = cc
  by (Is a v) c e = cc
  by (Within y is) c e = test (ident_eq y x) refl e where
    test : (b : Bool) → ident_eq y x ≡ b → (if b then Some (union is) else None) ≡ Some s → (is : List Interval) × Contains ts (Within x is) × (union is ≡ s)
    test true f g = (is, subst (λ z. Contains ts (Within z is)) (ident_eq-true y x f) c, cc)
    test false f g = cc

pub own_in : (ts : List Tell) (x : Ident) (is : List Interval) → Contains ts (Within x is) → In (union is) (own_sets ts x)
own_in ts x is c =
    in_given (set_given (λ y. ident_eq y x)) ts (Within x is) (union is) (In-from_contains ts (Within x is) c)
    (ap (λ (b : Bool). if b then Some (union is) else None) (ident_eq-refl x))
