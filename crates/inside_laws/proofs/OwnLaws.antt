-- The layers that are not below a space, and the space's own, after edits at and below it.
use Rattle.std.proofs.Common.{◌≡◌, inl, inr, ℕ, Bool, true, false, not, cond, List, [], ◌∷◌, refl, sym, ap, subst, ◌∙◌, Option, Some, None, unwrap_or, filter, map}
use Rattle.std.specs.List.{find}
use Rattle.oz_base.specs.Lists.{list_eq, edit_first, put_before}
use Rattle.oz_semantics.specs.Names.{is_below, is_properly_below}
use Rattle.oz_semantics.specs.Configurations.{is_of, layer_at, layer_of, view, in_layer, new_layer, placed, failed, ending}
use Rattle.oz_semantics.specs.Edits.{all_placed}
use Rattle.oz_semantics.specs.Settling.{failing}
use Rattle.oz_semantics.specs.declared.configuration.Layer.{Layer}
use Rattle.oz_laws.proofs.SameLaws.{In}
use Rattle.view_laws.proofs.Members.{decide, not_both}
use Rattle.view_laws.proofs.ListLaws.{filter_in}
use Rattle.view_laws.proofs.NameLaws.{below_itself, below_trans, below_anti, equal_names, properly}
use Rattle.view_laws.proofs.SightLaws.{of_space, not_false}
use Rattle.edit_laws.proofs.GraftLaws.{is_before}
use Rattle.edit_laws.proofs.ViewLaws.{filter_silent}
use Rattle.settle_laws.proofs.ListEdits.{filter_edit, filter_dropped, filter_inside, find_filter}
use Rattle.inside_laws.specs.Outside.{stands_outside, outside}

-- Lists with some items left out

module _ {A : Type 0} where
  -- where an item is put in that is left out
  put_out : (keep test : A → Bool) (x : A) (xs : List A) → keep x ≡ false → filter keep (put_before test x xs) ≡ filter keep xs
  put_out keep test x [] e = ap (λ (c : Bool). cond c (x ∷ []) []) e
  put_out keep test x (y ∷ ys) e = by (test y) (put_out keep test x ys e)
    where
      by : (b : Bool) → filter keep (put_before test x ys) ≡ filter keep ys → filter keep (cond b (x ∷ y ∷ ys) (y ∷ put_before test x ys)) ≡ filter keep (y ∷ ys)
      by true rest = ap (λ (c : Bool). cond c (x ∷ filter keep (y ∷ ys)) (filter keep (y ∷ ys))) e
      by false rest = ap (λ zs. cond (keep y) (y ∷ zs) zs) rest

  -- where all are changed, and those that are left in stay as they are
  pub map_out : (keep : A → Bool) (f : A → A) → ((x : A) → keep (f x) ≡ keep x) → (xs : List A) → ((x : A) → In x xs → keep x ≡ true → f x ≡ x) → filter keep (map f xs) ≡ filter keep xs
  map_out keep f same [] h = refl
  map_out keep f same (x ∷ xs) h = ap (λ (c : Bool). cond c (f x ∷ filter keep (map f xs)) (filter keep (map f xs))) (same x) ∙ by (keep x) refl (map_out keep f same xs (λ y i. h y (inr i)))
    where
      by : (b : Bool) → keep x ≡ b → filter keep (map f xs) ≡ filter keep xs → cond b (f x ∷ filter keep (map f xs)) (filter keep (map f xs)) ≡ cond b (x ∷ filter keep xs) (filter keep xs)
      by true e rest = ap (λ y. y ∷ filter keep (map f xs)) (h x (inl refl) e) ∙ ap (λ ys. x ∷ ys) rest
      by false e rest = rest

  -- where all are changed, those that are left in are
  pub filter_map : (keep : A → Bool) (f : A → A) → ((x : A) → keep (f x) ≡ keep x) → (xs : List A) → filter keep (map f xs) ≡ map f (filter keep xs)
  filter_map keep f same [] = refl
  filter_map keep f same (x ∷ xs) = ap (λ (c : Bool). cond c (f x ∷ filter keep (map f xs)) (filter keep (map f xs))) (same x) ∙ by (keep x) (filter_map keep f same xs)
    where
      by : (b : Bool) → filter keep (map f xs) ≡ map f (filter keep xs) → cond b (f x ∷ filter keep (map f xs)) (filter keep (map f xs)) ≡ map f (cond b (x ∷ filter keep xs) (filter keep xs))
      by true rest = ap (λ ys. f x ∷ ys) rest
      by false rest = rest

-- Names

pub other_name : (t s : List ℕ) → is_properly_below t s ≡ true → list_eq s t ≡ false
other_name t s inner = elim (decide (list_eq s t)) [
  | inl k ↦ absurd ((properly t s inner).1 (sym (equal_names s t k)))
  | inr k ↦ k
]

-- what a space sees that is not below another one, and its layer, go by the layers that are not below that one

module _ (t u : List ℕ) (apart : is_below t u ≡ false) where
  above_outside : (l : Layer) → stands_outside t l ≡ false → is_below l.space u ≡ false
  above_outside l e = elim (decide (is_below l.space u)) [
    | inl k ↦ absurd (not_both _ (below_trans t l.space u (not_false _ e) k) apart)
    | inr k ↦ k
  ]

  pub view_outside : (one other : List Layer) → outside t one ≡ outside t other → view one u ≡ view other u
  view_outside one other e =
      sym (filter_silent (stands_outside t) u above_outside one) ∙ ap (λ ls. view ls u) e ∙ filter_silent (stands_outside t) u above_outside other

  its_outside : (l : Layer) → is_of u l ≡ true → stands_outside t l ≡ true
  its_outside l e = ap (λ s. not (is_below t s)) (of_space u l e) ∙ ap not apart

  pub layer_outside : (one other : List Layer) → outside t one ≡ outside t other → layer_at one u ≡ layer_at other u
  layer_outside one other e =
      sym (find_filter (is_of u) (stands_outside t) its_outside one) ∙ ap (find (is_of u)) e ∙ find_filter (is_of u) (stands_outside t) its_outside other

-- Edits

-- the layers that are not below the space are those before, and the space's layer is this one, and no other
pub record Keeps (t : List ℕ) (before after : List Layer) (l : Layer) : Type 0 where
  pub stays : outside t after ≡ outside t before
  pub own : filter (is_of t) after ≡ l ∷ []

module _ (t : List ℕ) (before layers : List Layer) (l : Layer) (keeps : Keeps t before layers l) where
  own_passes : is_of t l ≡ true
  own_passes = (filter_in (is_of t) layers l (subst (λ ls. In l ls) (sym keeps.own) (inl refl))).1

  pub own_name : l.space ≡ t
  own_name = of_space t l own_passes

  pub own_at : layer_at layers t ≡ Some l
  own_at = sym (find_filter (is_of t) (is_of t) (λ m e. e) layers) ∙ ap (find (is_of t)) keeps.own ∙ ap (λ (b : Bool). cond b (Some l) None) own_passes

  pub own_layer : layer_of layers t ≡ l
  own_layer = ap (λ (o : Option Layer). unwrap_or o (new_layer t)) own_at

  -- its own layer is changed
  pub own_change : (f : Layer → Layer) → ((m : Layer) → (f m).space ≡ m.space) → Keeps t before (in_layer t f layers) (f l)
  own_change f named = record {
    stays =
        filter_dropped (stands_outside t) (is_of t) f (λ m. ap (λ s. not (is_below t s)) (named m))
        (λ m e. ap (λ s. not (is_below t s)) (of_space t m e) ∙ ap not (below_itself t)) layers
        ∙ keeps.stays;
    own =
        filter_edit (is_of t) (is_of t) f (λ m. ap (λ s. list_eq s t) (named m)) (λ m e. e) layers
        ∙ ap (edit_first (is_of t) f) keeps.own
        ∙ ap (λ (b : Bool). cond b (f l ∷ []) (l ∷ [])) own_passes;
  }

  -- one below it is
  pub inner_change : (s : List ℕ) (f : Layer → Layer) → is_properly_below t s ≡ true → ((m : Layer) → (f m).space ≡ m.space) → Keeps t before (in_layer s f layers) l
  inner_change s f inner named = record {
    stays =
        filter_dropped (stands_outside t) (is_of s) f (λ m. ap (λ u. not (is_below t u)) (named m))
        (λ m e. ap (λ u. not (is_below t u)) (of_space s m e) ∙ ap not (properly t s inner).0) layers
        ∙ keeps.stays;
    own =
        filter_dropped (is_of t) (is_of s) f (λ m. ap (λ u. list_eq u t) (named m)) (λ m e. ap (λ u. list_eq u t) (of_space s m e) ∙ other_name t s inner) layers
        ∙ keeps.own;
  }

  -- one is put there below it
  pub inner_put : (n : Layer) → is_properly_below t n.space ≡ true → Keeps t before (placed n layers) l
  inner_put n inner = record {
    stays = put_out (stands_outside t) (is_before n) n layers (ap not (properly t n.space inner).0) ∙ keeps.stays;
    own = put_out (is_of t) (is_before n) n layers (other_name t n.space inner) ∙ keeps.own;
  }

  -- those are taken away that are below one below it
  abbrev left : List ℕ → Layer → Bool
  left s m = not (is_properly_below s m.space)

  pub inner_gone : (s : List ℕ) → is_below t s ≡ true → Keeps t before (filter (left s) layers) l
  inner_gone s below = record {
    stays = filter_inside (stands_outside t) (left s) (λ m e. ap not (below_trans t s m.space below (properly s m.space (not_false _ e)).0)) layers ∙ keeps.stays;
    own = filter_inside (is_of t) (left s) gone layers ∙ keeps.own;
  }
    where
      gone : (m : Layer) → left s m ≡ false → is_of t m ≡ false
      gone m e = elim (decide (is_of t m)) [
        | inl k ↦ (let q = properly s m.space (not_false _ e) in absurd (q.1 (below_anti s m.space q.0 (subst (λ u. is_below u s ≡ true) (sym (of_space t m k)) below))))
        | inr k ↦ k
      ]

pub inner_puts : (t : List ℕ) (before ns layers : List Layer) (l : Layer) → ((n : Layer) → In n ns → is_properly_below t n.space ≡ true) → Keeps t before layers l → Keeps t before (all_placed ns layers) l
inner_puts t before [] layers l h keeps = keeps
inner_puts t before (n ∷ ns) layers l h keeps = inner_puts t before ns (placed n layers) l (λ m i. h m (inr i)) (inner_put t before layers l keeps n (h n (inl refl)))

-- Spaces that end

-- the space itself, however it ends
pub own_end : (t : List ℕ) (how : Layer → Layer) (before layers : List Layer) (l : Layer) → ((m : Layer) → (how m).space ≡ m.space) → Keeps t before layers l → Keeps t before (ending t how layers) (how l)
own_end t how before layers l named keeps =
    own_change t before (filter (λ (m : Layer). not (is_properly_below t m.space)) layers) l (inner_gone t before layers l keeps t (below_itself t)) how named

-- one below it fails
pub inner_end : (t s : List ℕ) (before layers : List Layer) (l : Layer) → is_properly_below t s ≡ true → Keeps t before layers l → Keeps t before (failing layers s) l
inner_end t s before layers l inner keeps =
    inner_change t before (filter (λ (m : Layer). not (is_properly_below s m.space)) layers) l (inner_gone t before layers l keeps s (properly t s inner).0) s failed inner (λ m. refl)
