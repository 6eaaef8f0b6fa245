-- Which propagators are due after a tell.
use Rattle.std.proofs.Common.{◌≡◌, inl, inr, ℕ, Bool, false, not, List, [], ◌∷◌, ◌++◌, map, refl, sym, ap, ap₂, ◌∙◌, Contains, Option, Some, slice_get}
use Rattle.std.specs.List.{list_any}
use Rattle.oz_base.specs.declared.names.Ident.{Ident}
use Rattle.oz_domains.specs.Domains.{intervals_of}
use Rattle.oz_semantics.specs.Store.{View}
use Rattle.oz_semantics.specs.Propagation.{domain_in, saw, is_due}
use Rattle.oz_semantics.specs.declared.configuration.Propagator.{Propagator}
use Rattle.oz_semantics.specs.declared.value.Tell.{Tell}
use Rattle.oz_laws.proofs.SameLaws.{In, contains-from_In}
use Rattle.oz_laws.specs.Touched.{Touches}
use Rattle.view_laws.proofs.Members.{decide, not_both, some_of, by_some}
use Rattle.view_laws.proofs.TouchedLaws.{meets, meets_some, untouched_domain}
use Rattle.oz_semantics.specs.Store.{domain_of}
use Rattle.oz_domains.specs.Domains.{IntSet}
use Rattle.std.specs.Prelude.{unwrap_or}
use Rattle.std.specs.FinSet as set
use Rattle.watching.specs.Watching.{HasDue, IsWoken}

map_alike : {A B : Type 0} (f g : A → B) (xs : List A) → ((x : A) → In x xs → f x ≡ g x) → map f xs ≡ map g xs
map_alike f g [] h = refl
map_alike f g (x ∷ xs) h = ap₂ (λ y ys. y ∷ ys) (h x (inl refl)) (map_alike f g xs (λ y k. h y (inr k)))

-- a propagator whose variables keep their domains is due where it was
pub due_alike : (old new : View) (p : Propagator) → ((x : Ident) → Contains p.variables x → domain_of new x ≡ domain_of old x) → is_due new p ≡ is_due old p
due_alike old new p h =
    ap (λ ds. not (saw p.last ds))
    (map_alike (λ x. intervals_of (domain_in new x)) (λ x. intervals_of (domain_in old x)) p.variables
    (λ x k. ap (λ (o : Option IntSet). intervals_of (unwrap_or o set.empty)) (h x (contains-from_In p.variables x k))))

none_of : {A : Type 0} (p : A → Bool) (xs : List A) → list_any p xs ≡ false → (x : A) → Contains xs x → p x ≡ false
none_of p xs e x h = elim (decide (p x)) [ inl k ↦ absurd (not_both (list_any p xs) (by_some p xs x h k) e) | inr k ↦ k ]

module _ (old more : List Tell) (touched : List Ident) (h : Touches old more touched) (ps : List Propagator) (due : List ℕ) (had : HasDue old ps due)
    (woken : (t : Ident) → Contains touched t → IsWoken old ps due t) where
  -- one of the propagators that are due has a variable of a class that was touched, or was due
  pub due_after : HasDue (old ++ more) ps due
  due_after i p at d = elim (decide (list_any (meets old more touched h) p.variables)) [
    | inl e ↦ (let x = some_of (meets old more touched h) p.variables e in
        let t = meets_some old more touched h x.0 x.2 in
        woken t.0 t.1 i p x.0 at x.1 t.2)
    | inr e ↦ had i p at
        (sym (due_alike old (old ++ more) p (λ x c. untouched_domain old more touched h x (none_of (meets old more touched h) p.variables e x c))) ∙ d)
  ]

-- where none has a variable
pub due_still : (old new : View) (ps : List Propagator) (due : List ℕ) → HasDue old ps due
    → ((i : ℕ) (p : Propagator) (x : Ident) → slice_get ps i ≡ Some p → Contains p.variables x → ⊥) → HasDue new ps due
due_still old new ps due had none i p at d = had i p at (sym (due_alike old new p (λ x c. absurd (none i p x at c))) ∙ d)
