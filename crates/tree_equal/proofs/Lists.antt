-- Lists that grow at their end, and sets of variables.
use Rattle.std.proofs.Common.{◌≡◌, ◌∙◌, ℕ, ◌+◌, ◌<◌, Bool, true, false, not, ◌&&◌, ◌||◌, cond, List, [], ◌∷◌, ◌++◌, length, take, get_or, filter, append-nil, refl, sym, ap}
use Rattle.std.specs.List.{list_any}
use Rattle.std.proofs.lemmas.List.{take_more}
use Rattle.indexmap.specs.IndexSet.{insert_key}
use Rattle.oz_base.specs.Names.{ident_eq}
use Rattle.oz_base.specs.declared.names.Ident.{Ident}
use Rattle.oz_laws.proofs.SameLaws.{ident_eq-true}

or_again : (a b c : Bool) → (a || (b || c)) ≡ ((a || b) || c)
or_again true b c = refl
or_again false b c = refl

or_none : (a : Bool) → (a || false) ≡ a
or_none true = refl
or_none false = refl

module _ {A : Type 0} (p : A → Bool) where
  pub any_push : (xs : List A) (x : A) → list_any p (xs ++ x ∷ []) ≡ (list_any p xs || p x)
  any_push [] x = or_none (p x)
  any_push (y ∷ ys) x = ap (λ b. p y || b) (any_push ys x) ∙ or_again (p y) (list_any p ys) (p x)

  pub filter_push : (xs : List A) (x : A) → filter p (xs ++ x ∷ []) ≡ filter p xs ++ cond (p x) (x ∷ []) []
  filter_push [] x = by (p x)
    where
      by : (b : Bool) → cond b (x ∷ []) [] ≡ [] ++ cond b (x ∷ []) []
      by true = refl
      by false = refl
  filter_push (y ∷ ys) x = by (p y) (filter_push ys x)
    where
      by : (b : Bool) → filter p (ys ++ x ∷ []) ≡ filter p ys ++ cond (p x) (x ∷ []) []
          → cond b (y ∷ filter p (ys ++ x ∷ [])) (filter p (ys ++ x ∷ [])) ≡ cond b (y ∷ filter p ys) (filter p ys) ++ cond (p x) (x ∷ []) []
      by true e = ap (λ zs. y ∷ zs) e
      by false e = e

-- One variable more in a set

or_given : (a b : Bool) → (b ≡ true → a ≡ true) → a ≡ (a || b)
or_given true b h = refl
or_given false true h = h refl
or_given false false h = refl

any_insert : (ks : List Ident) (k z : Ident) → list_any (ident_eq z) (insert_key ident_eq ks k) ≡ (list_any (ident_eq z) ks || ident_eq z k)
any_insert ks k z = by (list_any (ident_eq k) ks) refl
  where
    by : (b : Bool) → list_any (ident_eq k) ks ≡ b → list_any (ident_eq z) (cond b ks (ks ++ k ∷ [])) ≡ (list_any (ident_eq z) ks || ident_eq z k)
    by true e = or_given (list_any (ident_eq z) ks) (ident_eq z k) (λ q. ap (λ (x : Ident). list_any (ident_eq x) ks) (ident_eq-true z k q) ∙ e)
    by false e = any_push (ident_eq z) ks k

and_true : (a b : Bool) → b ≡ true → a ≡ (a && b)
and_true true b e = sym e
and_true false b e = refl

pub noted : (old new : List Ident) (k root z : Ident) (s : Bool) → new ≡ insert_key ident_eq old k → k ≡ root → s ≡ false → list_any (ident_eq z) new ≡ (list_any (ident_eq z) old || (ident_eq z root && not s))
noted old new k root z s e q n =
    ap (list_any (ident_eq z)) e ∙ any_insert old k z ∙ ap (λ (x : Ident). list_any (ident_eq z) old || ident_eq z x) q
    ∙ ap (λ b. list_any (ident_eq z) old || b) (and_true (ident_eq z root) (not s) (ap not n))

-- One item more of a list, which passes a test or does not

module _ (p : Ident → Bool) (xs : List Ident) (i : ℕ) (x : Ident) (within : i < length xs) (at : x ≡ get_or xs i x) where
  one_more : take (i + 1) xs ≡ take i xs ++ x ∷ []
  one_more = take_more xs i x within ∙ ap (λ (y : Ident). take i xs ++ y ∷ []) (sym at)

  filter_more : (b : Bool) → p x ≡ b → filter p (take (i + 1) xs) ≡ filter p (take i xs) ++ cond b (x ∷ []) []
  filter_more b e = ap (filter p) one_more ∙ filter_push p (take i xs) x ∙ ap (λ (c : Bool). filter p (take i xs) ++ cond c (x ∷ []) []) e

  pub passes : (old new : List Ident) (y : Ident) → old ≡ filter p (take i xs) → new ≡ old ++ y ∷ [] → y ≡ x → p x ≡ true → new ≡ filter p (take (i + 1) xs)
  passes old new y e is k t = is ∙ ap (λ zs. zs ++ y ∷ []) e ∙ ap (λ (z : Ident). filter p (take i xs) ++ z ∷ []) k ∙ sym (filter_more true t)

  pub fails : (old : List Ident) → old ≡ filter p (take i xs) → p x ≡ false → old ≡ filter p (take (i + 1) xs)
  fails old e f = e ∙ sym (filter_more false f ∙ append-nil (filter p (take i xs)))
