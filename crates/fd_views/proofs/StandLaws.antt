-- A view goes on standing for its store, whatever else is told.
use Rattle.std.proofs.Common.{◌≡◌, ◌≢◌, ◌⊎◌, inl, inr, Bool, true, false, None, ℕ, ◌+◌, ◌<◌, List, [], ◌∷◌, ◌++◌, length, Contains, AllPairs, unwrap_or, refl, sym, ◌∙◌, ap, subst, arith}
use Rattle.std.proofs.lemmas.List.{get_or_default, get_or_append_left, get_or_push, length-append}
use Rattle.std.proofs.lemmas.List.Elements.{Contains-append_cases, Contains-append_left}
use Rattle.environments.specs.Environments.{nowhere}
use Rattle.oz_base.specs.Names.{ident_eq}
use Rattle.oz_base.specs.declared.names.Ident.{Ident}
use Rattle.oz_laws.proofs.SameLaws.{In, ident_eq-true, ident_eq-refl}
use Rattle.view_laws.proofs.Members.{not_both}
use Rattle.oz_base.specs.declared.interval.Interval.{Interval}
use Rattle.oz_domains.specs.Domains.{IntSet}
use Rattle.oz_domains.specs.Positions.{domain}
use Rattle.oz_semantics.specs.Store.{Same, reversed, common}
use Rattle.oz_semantics.specs.declared.value.Value.{Value}
use Rattle.oz_semantics.specs.declared.value.Tell.{Tell}
use Rattle.oz_semantics.specs.declared.value.Tell.TheVariants.{Equal, Is, Within}
use Rattle.fd_stores.specs.Stores.{Store}
use Rattle.fd_stores.proofs.Lists.{contains_none, contains_cases, pairs_append, pairs_one}
use Rattle.fd_views.specs.Views.{variable_at, all_values, domain_or_all, IsFree, IsPlain, StandsFor, OnlyDomains}
use Rattle.fd_views.proofs.SameLaws.{old_or_last, is_before, domains_same, value_same, stand, stand_other, stand_x, old_is, equation_same}
use Rattle.fd_views.proofs.ValueLaws.{own_sets, domain_own, own_same, own_by}

-- ---- variables of a list

pub variable_in : (xs : List Ident) (x : ℕ) → x < length xs → Contains xs (variable_at xs x)
variable_in xs x l = (x, l, get_or_default xs x (variable_at xs x) nowhere l)

pub in_variable : (xs : List Ident) (v : Ident) → Contains xs v → (x : ℕ) × (x < length xs) × (variable_at xs x ≡ v)
in_variable xs v c = (c.0, c.1, get_or_default xs c.0 nowhere v c.1 ∙ c.2)

order : (x y : ℕ) → (x ≡ y) ⊎ ((x < y) ⊎ (y < x))
order x y = grind arith

pub variable_once : (xs : List Ident) (x y : ℕ) → AllPairs (λ a b. a ≢ b) xs → x < length xs → y < length xs → variable_at xs x ≡ variable_at xs y → x ≡ y
variable_once xs x y p l m e = elim (order x y) [
  | inl f ↦ f
  | inr o ↦ elim o [ inl f ↦ absurd (p x y nowhere f m e) | inr f ↦ absurd (p y x nowhere f l (sym e)) ]
]

-- ---- free variables stay free

pub free_domains : (ts more : List Tell) (x : Ident) → OnlyDomains more → IsFree ts x → IsFree (ts ++ more) x
free_domains ts more x d h = record {
  apart = λ y s. h.apart y (domains_same ts more d s);
  untold = λ v c. h.untold v (is_before ts more d x v c);
}

pub free_value : (ts : List Tell) (x y : Ident) (v : Value) → IsFree ts x → IsFree ts y → (y ≡ x → ⊥) → IsFree (ts ++ Is y v ∷ []) x
free_value ts x y v h k n = record {
  apart = λ z s. h.apart z (value_same ts y v k s);
  untold = λ w c. elim (old_or_last ts (Is y v) (Is x w) c) [ inl d ↦ h.untold w d | inr e ↦ n (cc) ];
}

pub ident_cases : (x y : Ident) → (x ≡ y) ⊎ (x ≡ y → ⊥)
ident_cases x y = by (ident_eq x y) refl where
  by : (b : Bool) → ident_eq x y ≡ b → (x ≡ y) ⊎ (x ≡ y → ⊥)
  by true e = inl (ident_eq-true x y e)
  by false e = inr (λ f. not_both (ident_eq x y) (ap (ident_eq x) (sym f) ∙ ident_eq-refl x) e)

-- what stands for itself, where another variable stands for y
pub stands_alone : (ts : List Tell) (x y z w : Ident) (k : IsFree ts y) → (x ≡ z → ⊥) → x ≡ stand ts y z k w → x ≡ w
stands_alone ts x y z w k m e = elim (ident_cases w y) [
  | inl f ↦ absurd (m (e ∙ ap (stand ts y z k) f ∙ stand_x ts y z k))
  | inr f ↦ e ∙ stand_other ts y z k w f
]

pub free_equation : (ts : List Tell) (x y z : Ident) → IsFree ts x → IsFree ts y → (x ≡ y → ⊥) → (x ≡ z → ⊥) → IsFree (ts ++ Equal y z ∷ []) x
free_equation ts x y z h k n m = record {
  apart = λ w s. stands_alone ts x y z w k m (h.apart (stand ts y z k w) (subst (λ u. Same ts u (stand ts y z k w)) (stand_other ts y z k x n) (equation_same ts y z k s)));
  untold = λ v c. h.untold v (old_is ts y z k x v c);
}

-- ---- plain views stay plain

old_within : (ts : List Tell) (t : Tell) (x : Ident) (is : List Interval) → (t ≡ Within x is → ⊥) → Contains (ts ++ t ∷ []) (Within x is) → Contains ts (Within x is)
old_within ts t x is n c = elim (old_or_last ts t (Within x is) c) [ inl k ↦ k | inr e ↦ absurd (n e) ]

other_than : (xs : List Ident) (x y : Ident) → Contains xs x → (Contains xs y → ⊥) → x ≡ y → ⊥
other_than xs x y c n e = n (subst (Contains xs) e c)

pub plain_value : (ts : List Tell) (xs : List Ident) (y : Ident) (v : Value) → IsPlain ts xs → IsFree ts y → (Contains xs y → ⊥) → IsPlain (ts ++ Is y v ∷ []) xs
plain_value ts xs y v p k n = record {
  free = λ x c. free_value ts x y v (p.free x c) k (λ e. n (subst (Contains xs) (sym e) c));
  only = λ x is c. p.only x is (old_within ts (Is y v) x is (λ e. cc) c);
  one = λ a b u w s c d. by a b u w (value_same ts y v k s) (old_or_last ts (Is y v) (Is a u) c) (old_or_last ts (Is y v) (Is b w) d);
} where
  subject : (a b : Ident) (u w : Value) → Is a u ≡ Is b w → a ≡ b
  subject a b u w e = cc

  content : (a b : Ident) (u w : Value) → Is a u ≡ Is b w → u ≡ w
  content a b u w e = cc

  none : (a b : Ident) (u w : Value) → Same ts a b → Is y v ≡ Is a u → Contains ts (Is b w) → ⊥
  none a b u w s e d = (
      let at : y ≡ b = k.apart b (subst (λ z. Same ts z b) (sym (subject y a v u e)) s) in
      k.untold w (subst (λ z. Contains ts (Is z w)) (sym at) d))

  by : (a b : Ident) (u w : Value) → Same ts a b → Contains ts (Is a u) ⊎ (Is y v ≡ Is a u) → Contains ts (Is b w) ⊎ (Is y v ≡ Is b w) → u ≡ w
  by a b u w s (inl c) (inl d) = p.one a b u w s c d
  by a b u w s (inl c) (inr d) = absurd (none b a w u (reversed s) d c)
  by a b u w s (inr c) (inl d) = absurd (none a b u w s c d)
  by a b u w s (inr c) (inr d) = sym (content y a v u c) ∙ content y b v w d

pub plain_equation : (ts : List Tell) (xs : List Ident) (y z : Ident) → IsPlain ts xs → IsFree ts y → (Contains xs y → ⊥) → (Contains xs z → ⊥) → IsPlain (ts ++ Equal y z ∷ []) xs
plain_equation ts xs y z p k n m = record {
  free = λ x c. free_equation ts x y z (p.free x c) k (other_than xs x y c n) (other_than xs x z c m);
  only = λ x is c. p.only x is (old_within ts (Equal y z) x is (λ e. cc) c);
  one = λ a b u w s c d.
      let c' = old_is ts y z k a u c in
      let d' = old_is ts y z k b w d in
      p.one a b u w (subst (λ x. Same ts x b) (alone a u c') (subst (Same ts (stand ts y z k a)) (alone b w d') (equation_same ts y z k s))) c' d';
} where
  alone : (a : Ident) (u : Value) → Contains ts (Is a u) → stand ts y z k a ≡ a
  alone a u c = stand_other ts y z k a (λ e. k.untold u (subst (λ x. Contains ts (Is x u)) e c))

pub plain_domains : (ts more : List Tell) (xs : List Ident) → IsPlain ts xs → OnlyDomains more → ((x : Ident) (is : List Interval) → Contains more (Within x is) → Contains xs x) → IsPlain (ts ++ more) xs
plain_domains ts more xs p d h = record {
  free = λ x c. free_domains ts more x d (p.free x c);
  only = λ x is c. elim (Contains-append_cases ts more (Within x is) c) [ inl k ↦ p.only x is k | inr k ↦ h x is k ];
  one = λ a b u w s c e. p.one a b u w (domains_same ts more d s) (is_before ts more d a u c) (is_before ts more d b w e);
}

pub plain_more : (ts : List Tell) (xs : List Ident) (y : Ident) → IsPlain ts xs → IsFree ts y → IsPlain ts (xs ++ y ∷ [])
plain_more ts xs y p k = record {
  free = λ x c. elim (Contains-append_cases xs (y ∷ []) x c) [
    | inl d ↦ p.free x d
    | inr d ↦ elim (contains_cases y x [] d) [ inl e ↦ subst (IsFree ts) e k | inr e ↦ absurd (contains_none x e) ]
  ];
  only = λ x is c. Contains-append_left xs (y ∷ []) x (p.only x is c);
  one = p.one;
}

-- ---- and so the store stays

-- where no more sets are told of the variables
stands_on : (ts more : List Tell) (xs : List Ident) (s : Store) → StandsFor ts xs s → IsPlain (ts ++ more) xs → ((x : Ident) → own_sets more x ≡ []) → StandsFor (ts ++ more) xs s
stands_on ts more xs s h p none = record {
  plain = p;
  once = h.once;
  fits = h.fits;
  told = λ x l.
      let v = variable_at xs x in
      let c = variable_in xs x l in
      let old = h.plain in
      ap (λ o. unwrap_or o all_values) (domain_own (ts ++ more) v (p.free v c) ∙ ap common (own_same ts more v (none v)) ∙ sym (domain_own ts v (old.free v c))) ∙ h.told x l;
  rest = h.rest;
}

pub valued_stands : (ts : List Tell) (xs : List Ident) (s : Store) (y : Ident) (v : Value) → StandsFor ts xs s → IsFree ts y → (Contains xs y → ⊥) → StandsFor (ts ++ Is y v ∷ []) xs s
valued_stands ts xs s y v h k n = stands_on ts (Is y v ∷ []) xs s h (plain_value ts xs y v h.plain k n) (λ x. refl)

pub equated_stands : (ts : List Tell) (xs : List Ident) (s : Store) (y z : Ident) → StandsFor ts xs s → IsFree ts y → (Contains xs y → ⊥) → (Contains xs z → ⊥) → StandsFor (ts ++ Equal y z ∷ []) xs s
equated_stands ts xs s y z h k n m = stands_on ts (Equal y z ∷ []) xs s h (plain_equation ts xs y z h.plain k n m) (λ x. refl)

-- a variable that has no domain yet is the next of the store
module _ (ts : List Tell) (xs : List Ident) (s : Store) (y : Ident) (h : StandsFor ts xs s) (k : IsFree ts y) (n : Contains xs y → ⊥) (l : length xs < length s) where
  long : length (xs ++ y ∷ []) ≡ length xs + 1
  long = length-append xs (y ∷ [])

  bare : domain_or_all ts y ≡ all_values
  bare = ap (λ o. unwrap_or o all_values) (domain_own ts y k ∙ none (own_sets ts y) refl) where
    none : (ss : List IntSet) → own_sets ts y ≡ ss → common ss ≡ None
    none [] e = refl
    none (t ∷ ss) e = (let o = own_by ts y t (subst (In t) (sym e) (inl refl)) in let p = h.plain in absurd (n (p.only y o.0 o.1)))

  at : (x : ℕ) → x < length (xs ++ y ∷ []) → (x < length xs) ⊎ (length xs ≡ x)
  at x m = (let e = long in grind (arith, m))

  here : (x : ℕ) → (x < length xs) ⊎ (length xs ≡ x) → domain_or_all ts (variable_at (xs ++ y ∷ []) x) ≡ domain s x
  here x (inl m) = ap (domain_or_all ts) (get_or_append_left xs (y ∷ []) nowhere x m) ∙ h.told x m
  here x (inr e) = ap (domain_or_all ts) (get_or_push xs y nowhere x e) ∙ bare ∙ sym (h.rest x (omega (arith, e)) (omega (arith, e, l)))

  pub next_stands : StandsFor ts (xs ++ y ∷ []) s
  next_stands = record {
    plain = plain_more ts xs y h.plain k;
    once = pairs_append (λ a b. a ≢ b) xs (y ∷ []) h.once (pairs_one (λ a b. a ≢ b) y)
        (λ a b c d e. elim (contains_cases y b [] d) [ inl f ↦ n (subst (Contains xs) (e ∙ sym f) c) | inr f ↦ contains_none b f ]);
    fits = omega (arith, long);
    told = λ x m. here x (at x m);
    rest = λ x m q. h.rest x (omega (arith, long, m)) q;
  }
