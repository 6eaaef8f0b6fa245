-- The variables of the top are apart from those of a search, and the space tells nothing of them.
use Rattle.std.proofs.Common.{◌≡◌, Bool, true, false, not, ◌&&◌, ◌||◌, List, [], ◌∷◌, Contains, Option, Some, None, refl, sym, ◌∙◌, ap, subst}
use Rattle.std.specs.List.{list_any, range_with_len}
use Rattle.oz_base.specs.declared.names.Ident.{Ident}
use Rattle.oz_domains.specs.Domains.{IntSet, intervals_of}
use Rattle.oz_semantics.specs.Names.{named}
use Rattle.oz_semantics.specs.Store.{View, same, value_of, told_domain, domain_by, domain_of, is_determined}
use Rattle.oz_semantics.specs.Configurations.{variables_of}
use Rattle.oz_semantics.specs.Spaces.{values_eq, domains_eq, alike_on, is_held}
use Rattle.oz_semantics.specs.declared.value.Value.{Value}
use Rattle.oz_laws.proofs.SameLaws.{tests_same}
use Rattle.oz_laws.proofs.AlikeLaws.{alike-refl}
use Rattle.view_laws.proofs.Members.{bool_eq}
use Rattle.view_laws.proofs.TouchedLaws.{meaning_alike}
use Rattle.fd_stores.specs.Stores.{Constraint}
use Rattle.fd_stores.proofs.Lists.{contains_mapped, contains_head, contains_tail}
use Rattle.fd_views.specs.Views.{IsPlain}
use Rattle.fd_views.proofs.SameLaws.{same_more}
use Rattle.fd_views.proofs.ValueLaws.{value_told, value_is, value_more}
use Rattle.fd_runs.proofs.DueLaws.{intervals_itself}
use Rattle.fd_turns.specs.Nodes.{Top, IsKnown, top_layer, node_space}
use Rattle.fd_steps.specs.States.{State, view_of, IsGood}

values_same : (o p : Option Value) → o ≡ p → values_eq o p ≡ true
values_same o p e = subst (λ q. values_eq o q ≡ true) e (itself o) where
  itself : (o : Option Value) → values_eq o o ≡ true
  itself None = refl
  itself (Some v) = alike-refl v

domains_same : (o p : Option IntSet) → o ≡ p → domains_eq o p ≡ true
domains_same o p e = subst (λ q. domains_eq o q ≡ true) e (itself o) where
  itself : (o : Option IntSet) → domains_eq o o ≡ true
  itself None = refl
  itself (Some d) = intervals_itself (intervals_of d)

abbrev pub top_variables : Top → List Ident
top_variables t = variables_of (top_layer t)

of_top : (t : Top) (x : Ident) → Contains (top_variables t) x → x.space ≡ []
of_top t x c = (let r = contains_mapped (named []) (range_with_len 0 (t.next).variable) x c in ap (λ (y : Ident). y.space) (sym r.2))

not_top : node_space ≡ [] → ⊥
not_top e = cc

module _ (t : Top) (cs : List Constraint) (st : State) (h : IsGood t cs st) where
  abbrev seen : View
  seen = view_of t st

  plain : IsPlain seen st.variables
  plain = (let s = h.stands in s.plain)

  -- ---- a variable of the search is equal to none of the top

  none_same : (x : Ident) → Contains st.variables x → (ys : List Ident) → ((y : Ident) → Contains ys y → y.space ≡ []) → list_any (same seen x) ys ≡ false
  none_same x c [] f = refl
  none_same x c (y ∷ ys) f = (λ i. here i || none_same x c ys (λ z d. f z (contains_tail y z ys d)) i) where
    apart : same seen x y ≡ true → ⊥
    apart e =
        let free = (let p = plain in p.free x c) in
        let g = h.given x c in
        not_top (ap (λ (z : Ident). z.space) (sym g.2 ∙ free.apart y ((tests_same seen x y).0 e)) ∙ f y (contains_head y ys))

    by : (b : Bool) → same seen x y ≡ b → b ≡ false
    by true e = absurd (apart e)
    by false e = refl

    here : same seen x y ≡ false
    here = by (same seen x y) refl

  not_held : (x : Ident) → Contains st.variables x → is_held seen (top_variables t) x ≡ false
  not_held x c = ap (λ b. not (is_determined seen x) && b) (none_same x c (top_variables t) (λ y d. of_top t y d)) ∙ by (not (is_determined seen x)) where
    by : (b : Bool) → (b && false) ≡ false
    by true = refl
    by false = refl

  pub none_held : (xs : List Ident) → ((x : Ident) → Contains xs x → Contains st.variables x) → list_any (is_held seen (top_variables t)) xs ≡ false
  none_held [] f = refl
  none_held (x ∷ xs) f = (λ i. not_held x (f x (contains_head x xs)) i || none_held xs (λ y c. f y (contains_tail x y xs c)) i)

  -- ---- the top is told nothing

  module _ (top : IsKnown t) where
    known_alike : (x : Ident) → Contains (top_variables t) x → (value_of seen x ≡ value_of t.tells x) × (domain_of seen x ≡ domain_of t.tells x)
    known_alike x c =
        let k = top.known x c in
        let v = k.0 in
        let more = value_more t.tells st.tells x v k.1 in (
          value_is seen st.variables x v plain more ∙ sym (value_is t.tells [] x v top.plain k.1),
          ap (λ o. domain_by o (told_domain seen x)) (value_told seen st.variables x v plain more) ∙ sym (ap (λ o. domain_by o (told_domain t.tells x)) (value_told t.tells [] x v top.plain k.1)),
        )

    same_alike : (x y : Ident) → Contains (top_variables t) x → Contains (top_variables t) y → same seen x y ≡ same t.tells x y
    same_alike x y c d =
        bool_eq _ _ (λ e. (tests_same t.tells x y).1 (h.above x y (of_top t x c) (of_top t y d) ((tests_same seen x y).0 e)))
        (λ e. (tests_same seen x y).1 (same_more t.tells st.tells ((tests_same t.tells x y).0 e)))

    pub top_alike : alike_on (top_variables t) seen t.tells ≡ true
    top_alike = meaning_alike (top_variables t) seen t.tells (record {
      values = λ x c. values_same _ _ (known_alike x c).0;
      domains = λ x c. domains_same _ _ (known_alike x c).1;
      equal = same_alike;
    })
