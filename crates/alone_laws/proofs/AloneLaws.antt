-- What edits of the layers below a space do to the space alone.
use Rattle.std.proofs.Common.{◌≡◌, ◌⊎◌, inl, inr, ℕ, nat_eq, Bool, true, false, ◌||◌, if◌then◌else◌, List, [], ◌∷◌, ◌++◌, filter, flat_map, refl, sym, ap, ap₂, subst, ◌∙◌, Option, Some, unwrap_or}
use Rattle.std.specs.List.{list_all}
use Rattle.std.proofs.lemmas.Bool.{false≢true}
use Rattle.oz_base.specs.Lists.{list_eq}
use Rattle.oz_semantics.specs.Names.{is_below, is_properly_below, space_lt}
use Rattle.oz_semantics.specs.Configurations.{layer_at, layer_of, new_layer, view, in_layer, placed, variables_of, ancestor_variables}
use Rattle.oz_semantics.specs.Edits.{all_placed}
use Rattle.oz_semantics.specs.declared.configuration.Layer.{Layer}
use Rattle.oz_laws.proofs.SameLaws.{and-left, and-right, eq-true, eq-refl}
use Rattle.view_laws.proofs.Members.{not_both, and_both, or_cases, or_left, or_right}
use Rattle.view_laws.proofs.NameLaws.{below_trans, below_anti, equal_names, properly}
use Rattle.alone_laws.specs.Alone.{is_kept, quieted, alone_layers}
use Rattle.alone_laws.proofs.OrderLaws.{is_sorted, is_less, less_than_all, sorted_put}
use Rattle.alone_laws.proofs.OutsideLaws.{AllInside}

-- two names that a third goes on from: one goes on from the other
pub comparable : (s t u : List ℕ) → is_below s u ≡ true → is_below t u ≡ true → (is_below s t ≡ true) ⊎ (is_below t s ≡ true)
comparable [] t u e f = inl refl
comparable (a ∷ s) [] u e f = inr refl
comparable (a ∷ s) (b ∷ t) [] e f = absurd (false≢true e)
comparable (a ∷ s) (b ∷ t) (c ∷ u) e f =
    let ac : a ≡ c = eq-true a c (and-left (nat_eq a c) (is_below s u) e) in
    let bc : b ≡ c = eq-true b c (and-left (nat_eq b c) (is_below t u) f) in
    let ab : nat_eq a b ≡ true = subst (λ n. nat_eq a n ≡ true) (ac ∙ sym bc) (eq-refl a) in
    let ba : nat_eq b a ≡ true = subst (λ n. nat_eq b n ≡ true) (bc ∙ sym ac) (eq-refl b) in
    elim (comparable s t u (and-right (nat_eq a c) (is_below s u) e) (and-right (nat_eq b c) (is_below t u) f)) [
      | inl k ↦ inl (and_both (nat_eq a b) (is_below s t) ab k)
      | inr k ↦ inr (and_both (nat_eq b a) (is_below t s) ba k)
    ]

module _ (s : List ℕ) where
  pub own_kept : (l : Layer) → is_below s l.space ≡ true → is_kept s l ≡ true
  own_kept l e = or_right (is_below l.space s) _ e

  pub own_whole : (l : Layer) → is_below s l.space ≡ true → quieted s l ≡ l
  own_whole l e = by (is_properly_below l.space s) refl
    where
      by : (b : Bool) → is_properly_below l.space s ≡ b → quieted s l ≡ l
      by true k = let p = properly l.space s k in absurd (p.1 (below_anti l.space s p.0 e))
      by false k = rw k refl

  pub quieted_is : {B : Type 0} (f : Layer → B) → ((l : Layer) → f (record l { threads = []; triggers = []; propagators = [] }) ≡ f l) → (l : Layer) → f (quieted s l) ≡ f l
  quieted_is f h l = by (is_properly_below l.space s) refl
    where
      by : (b : Bool) → is_properly_below l.space s ≡ b → f (quieted s l) ≡ f l
      by true k = rw k (h l)
      by false k = rw k refl

  pub quieted_space : (l : Layer) → (quieted s l).space ≡ l.space
  quieted_space l = quieted_is (λ (m : Layer). m.space) (λ m. refl) l

  -- the first of the layers of the space alone
  pub kept_first : (l : Layer) (ls : List Layer) → is_kept s l ≡ true → alone_layers s (l ∷ ls) ≡ quieted s l ∷ alone_layers s ls
  kept_first l ls e = rw e refl

  pub not_kept_first : (l : Layer) (ls : List Layer) → is_kept s l ≡ false → alone_layers s (l ∷ ls) ≡ alone_layers s ls
  not_kept_first l ls e = rw e refl

  pub own_first : (l : Layer) (ls : List Layer) → is_below s l.space ≡ true → alone_layers s (l ∷ ls) ≡ l ∷ alone_layers s ls
  own_first l ls e = kept_first l ls (own_kept l e) ∙ ap (λ m. m ∷ alone_layers s ls) (own_whole l e)

  -- Edits

  pub alone_changed : (u : List ℕ) (f g : Layer → Layer) → is_below s u ≡ true → ((l : Layer) → (f l).space ≡ l.space) → ((l : Layer) → l.space ≡ u → f l ≡ g l) → (ls : List Layer)
      → alone_layers s (in_layer u f ls) ≡ in_layer u g (alone_layers s ls)
  alone_changed u f g e h k [] = refl
  alone_changed u f g e h k (l ∷ ls) = by (list_eq l.space u) (is_kept s l) refl refl (alone_changed u f g e h k ls)
    where
      by : (b c : Bool) → list_eq l.space u ≡ b → is_kept s l ≡ c → alone_layers s (in_layer u f ls) ≡ in_layer u g (alone_layers s ls)
          → alone_layers s (in_layer u f (l ∷ ls)) ≡ in_layer u g (alone_layers s (l ∷ ls))
      by true c i j rest =
          let q : l.space ≡ u = equal_names l.space u i in
          let own : is_below s l.space ≡ true = subst (λ v. is_below s v ≡ true) (sym q) e in
          let one : alone_layers s (in_layer u f (l ∷ ls)) ≡ f l ∷ alone_layers s ls = rw i (own_first (f l) ls (ap (is_below s) (h l) ∙ own)) in
          let other : in_layer u g (l ∷ alone_layers s ls) ≡ g l ∷ alone_layers s ls = rw i refl in
          one ∙ ap (λ m. m ∷ alone_layers s ls) (k l q) ∙ sym other ∙ ap (in_layer u g) (sym (own_first l ls own))
      by false true i j rest =
          let one : alone_layers s (in_layer u f (l ∷ ls)) ≡ quieted s l ∷ alone_layers s (in_layer u f ls) = rw i (kept_first l (in_layer u f ls) j) in
          let other : in_layer u g (quieted s l ∷ alone_layers s ls) ≡ quieted s l ∷ in_layer u g (alone_layers s ls) = rw (ap (λ v. list_eq v u) (quieted_space l) ∙ i) refl in
          one ∙ ap (λ ms. quieted s l ∷ ms) rest ∙ sym other ∙ ap (in_layer u g) (sym (kept_first l ls j))
      by false false i j rest =
          let one : alone_layers s (in_layer u f (l ∷ ls)) ≡ alone_layers s (in_layer u f ls) = rw i (not_kept_first l (in_layer u f ls) j) in
          one ∙ rest ∙ ap (in_layer u g) (sym (not_kept_first l ls j))

  pub alone_filtered : (p : Layer → Bool) → ((l : Layer) → p (quieted s l) ≡ p l) → (ls : List Layer) → alone_layers s (filter p ls) ≡ filter p (alone_layers s ls)
  alone_filtered p h [] = refl
  alone_filtered p h (l ∷ ls) = by (p l) (is_kept s l) refl refl (alone_filtered p h ls)
    where
      by : (b c : Bool) → p l ≡ b → is_kept s l ≡ c → alone_layers s (filter p ls) ≡ filter p (alone_layers s ls) → alone_layers s (filter p (l ∷ ls)) ≡ filter p (alone_layers s (l ∷ ls))
      by true true i j rest = rw (i, j) (rw (h l ∙ i) (ap (λ ms. quieted s l ∷ ms) rest))
      by true false i j rest = rw (i, j) rest
      by false true i j rest = rw (i, j) (rw (h l ∙ i) rest)
      by false false i j rest = rw (i, j) rest

  all_alone : (p : Layer → Bool) → ((l : Layer) → p (quieted s l) ≡ p l) → (ls : List Layer) → list_all p ls ≡ true → list_all p (alone_layers s ls) ≡ true
  all_alone p h [] e = refl
  all_alone p h (l ∷ ls) e = by (is_kept s l) refl (all_alone p h ls (and-right _ _ e))
    where
      by : (b : Bool) → is_kept s l ≡ b → list_all p (alone_layers s ls) ≡ true → list_all p (alone_layers s (l ∷ ls)) ≡ true
      by true k rest = rw k (and_both _ _ (h l ∙ and-left _ _ e) rest)
      by false k rest = rw k rest

  put_first : (l : Layer) (ls : List Layer) → list_all (is_less l) ls ≡ true → placed l ls ≡ l ∷ ls
  put_first l [] e = refl
  put_first l (m ∷ ms) e = rw (and-left (is_less l m) _ e) refl

  pub alone_put : (l : Layer) → is_below s l.space ≡ true → (ls : List Layer) → is_sorted ls ≡ true → alone_layers s (placed l ls) ≡ placed l (alone_layers s ls)
  alone_put l e [] o = own_first l [] e
  alone_put l e (m ∷ ms) o = by (space_lt l.space m.space) (is_kept s m) refl refl (alone_put l e ms (and-right _ _ o))
    where
      by : (b c : Bool) → space_lt l.space m.space ≡ b → is_kept s m ≡ c → alone_layers s (placed l ms) ≡ placed l (alone_layers s ms) → alone_layers s (placed l (m ∷ ms)) ≡ placed l (alone_layers s (m ∷ ms))
      by true c i j rest =
          let one : alone_layers s (placed l (m ∷ ms)) ≡ l ∷ alone_layers s (m ∷ ms) = rw i (own_first l (m ∷ ms) e) in
          one ∙ sym (put_first l (alone_layers s (m ∷ ms)) (all_alone (is_less l) (λ n. ap (space_lt l.space) (quieted_space n)) (m ∷ ms) (less_than_all l m ms o i)))
      by false true i j rest =
          let one : alone_layers s (placed l (m ∷ ms)) ≡ quieted s m ∷ alone_layers s (placed l ms) = rw i (kept_first m (placed l ms) j) in
          let other : placed l (quieted s m ∷ alone_layers s ms) ≡ quieted s m ∷ placed l (alone_layers s ms) = rw (ap (space_lt l.space) (quieted_space m) ∙ i) refl in
          one ∙ ap (λ ns. quieted s m ∷ ns) rest ∙ sym other ∙ ap (placed l) (sym (kept_first m ms j))
      by false false i j rest =
          let one : alone_layers s (placed l (m ∷ ms)) ≡ alone_layers s (placed l ms) = rw i (not_kept_first m (placed l ms) j) in
          one ∙ rest ∙ ap (placed l) (sym (not_kept_first m ms j))

  pub alone_all_put : (news ls : List Layer) → AllInside s news → is_sorted ls ≡ true → alone_layers s (all_placed news ls) ≡ all_placed news (alone_layers s ls)
  alone_all_put [] ls e o = refl
  alone_all_put (n ∷ ns) ls e o =
      alone_all_put ns (placed n ls) (λ l i. e l (inr i)) (sorted_put n ls o) ∙ ap (all_placed ns) (alone_put n (e n (inl refl)) ls o)

  -- What is looked up

  -- the layers of names that are below the space
  pub own_filtered : (p : Layer → Bool) → ((l : Layer) → p l ≡ true → is_below s l.space ≡ true) → ((l : Layer) → p (quieted s l) ≡ p l) → (ls : List Layer) → filter p (alone_layers s ls) ≡ filter p ls
  own_filtered p h q [] = refl
  own_filtered p h q (l ∷ ls) = by (p l) (is_kept s l) refl refl (own_filtered p h q ls)
    where
      by : (b c : Bool) → p l ≡ b → is_kept s l ≡ c → filter p (alone_layers s ls) ≡ filter p ls → filter p (alone_layers s (l ∷ ls)) ≡ filter p (l ∷ ls)
      by true c i j rest =
          let one : filter p (l ∷ alone_layers s ls) ≡ l ∷ filter p ls = rw i (ap (λ ms. l ∷ ms) rest) in
          let other : filter p (l ∷ ls) ≡ l ∷ filter p ls = rw i refl in
          ap (filter p) (own_first l ls (h l i)) ∙ one ∙ sym other
      by false true i j rest = rw (j, i) (rw (q l ∙ i) rest)
      by false false i j rest = rw (j, i) rest

  pub own_layer : (u : List ℕ) → is_below s u ≡ true → (ls : List Layer) → layer_at (alone_layers s ls) u ≡ layer_at ls u
  own_layer u e [] = refl
  own_layer u e (l ∷ ls) = by (list_eq l.space u) (is_kept s l) refl refl (own_layer u e ls)
    where
      by : (b c : Bool) → list_eq l.space u ≡ b → is_kept s l ≡ c → layer_at (alone_layers s ls) u ≡ layer_at ls u → layer_at (alone_layers s (l ∷ ls)) u ≡ layer_at (l ∷ ls) u
      by true c i j rest =
          let own : is_below s l.space ≡ true = subst (λ v. is_below s v ≡ true) (sym (equal_names l.space u i)) e in
          let one : layer_at (l ∷ alone_layers s ls) u ≡ Some l = rw i refl in
          let other : layer_at (l ∷ ls) u ≡ Some l = rw i refl in
          ap (λ ms. layer_at ms u) (own_first l ls own) ∙ one ∙ sym other
      by false true i j rest = rw (j, i) (rw (ap (λ v. list_eq v u) (quieted_space l) ∙ i) rest)
      by false false i j rest = rw (j, i) rest

  pub own_layer_of : (u : List ℕ) → is_below s u ≡ true → (ls : List Layer) → layer_of (alone_layers s ls) u ≡ layer_of ls u
  own_layer_of u e ls = ap (λ (o : Option Layer). unwrap_or o (new_layer u)) (own_layer u e ls)

  -- what is above a name that is kept is kept
  pub above_kept : (u : List ℕ) (l : Layer) → (is_below u s || is_below s u) ≡ true → is_below l.space u ≡ true → is_kept s l ≡ true
  above_kept u l e f = elim (or_cases (is_below u s) _ e) [
    | inl k ↦ or_left _ _ (below_trans l.space u s f k)
    | inr k ↦ elim (comparable l.space s u f k) [ inl m ↦ or_left _ _ m | inr m ↦ or_right (is_below l.space s) _ m ]
  ]

  module _ {B : Type 0} (give : Layer → List B) (quiet : (l : Layer) → give (quieted s l) ≡ give l) where
    pub kept_flat : ((l : Layer) → is_kept s l ≡ false → give l ≡ []) → (ls : List Layer) → flat_map give (alone_layers s ls) ≡ flat_map give ls
    kept_flat h [] = refl
    kept_flat h (l ∷ ls) = by (is_kept s l) refl (kept_flat h ls)
      where
        by : (b : Bool) → is_kept s l ≡ b → flat_map give (alone_layers s ls) ≡ flat_map give ls → flat_map give (alone_layers s (l ∷ ls)) ≡ flat_map give (l ∷ ls)
        by true k rest = rw k (ap₂ (λ a b. a ++ b) (quiet l) rest)
        by false k rest = rw (k, h l k) rest

  if_nothing : {B : Type 0} (b : Bool) (xs : List B) → (b ≡ true → ⊥) → (if b then xs else []) ≡ []
  if_nothing true xs n = absurd (n refl)
  if_nothing false xs n = refl

  pub kept_view : (u : List ℕ) → (is_below u s || is_below s u) ≡ true → (ls : List Layer) → view (alone_layers s ls) u ≡ view ls u
  kept_view u e ls =
      kept_flat (λ (l : Layer). if is_below l.space u then l.tells else []) (quieted_is (λ (l : Layer). if is_below l.space u then l.tells else []) (λ l. refl))
      (λ l k. if_nothing (is_below l.space u) l.tells (λ f. not_both _ (above_kept u l e f) k)) ls

  pub kept_variables : (u : List ℕ) → (is_below u s || is_below s u) ≡ true → (ls : List Layer) → ancestor_variables (alone_layers s ls) u ≡ ancestor_variables ls u
  kept_variables u e ls =
      kept_flat (λ (l : Layer). if is_properly_below l.space u then variables_of l else []) (quieted_is (λ (l : Layer). if is_properly_below l.space u then variables_of l else []) (λ l. refl))
      (λ l k. if_nothing (is_properly_below l.space u) (variables_of l) (λ f. not_both _ (above_kept u l e (properly l.space u f).0) k)) ls

  pub own_view : (u : List ℕ) → is_below s u ≡ true → (ls : List Layer) → view (alone_layers s ls) u ≡ view ls u
  own_view u e ls = kept_view u (or_right (is_below u s) _ e) ls
