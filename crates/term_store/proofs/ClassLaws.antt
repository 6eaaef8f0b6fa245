-- The ways up to the variables that stand for classes, and how they change.
use Rattle.std.proofs.Common.{ℕ, zero, suc, ◌≡◌, ◌∙◌, ◌+◌, ◌-◌, ◌<◌, ◌≤◌, ◌==◌, Bool, true, false, not, ◌&&◌, if◌then◌else◌, is_some, Option, Some, None, refl, sym, ap, subst, arith}
use Rattle.std.proofs.lemmas.Bool.{false≢true}
use Rattle.ident_map.specs.Entries.{entry}
use Rattle.oz_base.specs.IdentLaws.{ident_eq-equal, ident_eq-itself}
use Rattle.oz_base.specs.Names.{ident_eq}
use Rattle.oz_base.specs.declared.names.Ident.{Ident}
use Rattle.oz_domains.specs.Domains.{IntSet}
use Rattle.oz_laws.proofs.SameLaws.{and-left, and-right, eq-true}
use Rattle.term_store.specs.Classes.{Table, link_of, rank_of, kept_of, nothing, is_free, is_nothing, link_in, rank_in, kept_in, Ranked, follow, climbed, root_in, IsTop, Likewise, Marks, instead, Unites}
use Rattle.term_store.specs.declared.cell.Kept.{Kept}
use Rattle.term_store.specs.declared.cell.Cell.{Cell}
use Rattle.term_store.specs.declared.cell.Cell.TheVariants.{Below, Root}

-- Whether two variables are one

pub other_than : (x y : Ident) → ident_eq x y ≡ false → x ≡ y → ⊥
other_than x y e k = false≢true (sym e ∙ ap (ident_eq x) (sym k) ∙ ident_eq-itself x)

pub not_one : (x y : Ident) → (x ≡ y → ⊥) → ident_eq x y ≡ false
not_one x y never = by (ident_eq x y) refl
  where
    by : (b : Bool) → ident_eq x y ≡ b → b ≡ false
    by true e = absurd (never (ident_eq-equal x y e))
    by false e = refl

pub data Decided (x y : Ident) : Type 0 where
  one : x ≡ y → Decided x y
  two : (x ≡ y → ⊥) → Decided x y

pub decided : (x y : Ident) → Decided x y
decided x y = by (ident_eq x y) refl
  where
    by : (b : Bool) → ident_eq x y ≡ b → Decided x y
    by true e = one (ident_eq-equal x y e)
    by false e = two (other_than x y e)

pub instead_is : (u o : Ident) → instead u o u ≡ o
instead_is u o = ap (λ (b : Bool). if b then o else u) (ident_eq-itself u)

pub instead_other : (u o z : Ident) → (z ≡ u → ⊥) → instead u o z ≡ z
instead_other u o z ne = ap (λ (b : Bool). if b then o else z) (not_one z u ne)

-- The way up

module _ (t : Table) where
  pub top_stays : (n : ℕ) (x : Ident) → IsTop t x → climbed n t x ≡ x
  unfolding climbed
  top_stays zero x e = refl
  top_stays (suc n) x e = ap (follow (climbed n t) x) e

  no_steps : (x : Ident) → climbed zero t x ≡ x
  unfolding climbed
  no_steps x = refl

  step_up : (n : ℕ) (x y : Ident) → link_in t x ≡ Some y → climbed (suc n) t x ≡ climbed n t y
  unfolding climbed
  step_up n x y e = ap (follow (climbed n t) x) e

  module _ (r : Ranked t) where
    -- more steps lead no further
    pub steady : (n m : ℕ) (x : Ident) → 256 ≤ n + rank_in t x → 256 ≤ m + rank_in t x → climbed n t x ≡ climbed m t x
    steady zero m x h k = absurd (omega (arith, h, r.bounded x))
    steady (suc n) zero x h k = absurd (omega (arith, k, r.bounded x))
    steady (suc n) (suc m) x h k = by (link_in t x) refl (steady n m)
      where
        by : (o : Option Ident) → link_in t x ≡ o → ((y : Ident) → 256 ≤ n + rank_in t y → 256 ≤ m + rank_in t y → climbed n t y ≡ climbed m t y) → climbed (suc n) t x ≡ climbed (suc m) t x
        by None e rest = top_stays (suc n) x e ∙ sym (top_stays (suc m) x e)
        by (Some y) e rest = let g = r.grows x y e in step_up n x y e ∙ rest y (omega (arith, h, g)) (omega (arith, k, g)) ∙ sym (step_up m x y e)

    end_top : (n : ℕ) (x : Ident) → 256 ≤ n + rank_in t x → IsTop t (climbed n t x)
    end_top zero x h = absurd (omega (arith, h, r.bounded x))
    end_top (suc n) x h = by (link_in t x) refl (end_top n)
      where
        by : (o : Option Ident) → link_in t x ≡ o → ((y : Ident) → 256 ≤ n + rank_in t y → IsTop t (climbed n t y)) → IsTop t (climbed (suc n) t x)
        by None e rest = subst (IsTop t) (sym (top_stays (suc n) x e)) e
        by (Some y) e rest = let g = r.grows x y e in subst (IsTop t) (sym (step_up n x y e)) (rest y (omega (arith, h, g)))

    pub root_up : (x y : Ident) → link_in t x ≡ Some y → root_in t y ≡ root_in t x
    unfolding root_in
    root_up x y e = sym (steady 256 257 x (omega arith) (omega arith) ∙ step_up 256 x y e)

    pub nearer : (x y : Ident) → link_in t x ≡ Some y → 256 - rank_in t y < 256 - rank_in t x
    nearer x y e = omega (arith, r.grows x y e, r.bounded x, r.bounded y)

    pub root_top : (x : Ident) → IsTop t (root_in t x)
    unfolding root_in
    root_top x = end_top 256 x (omega arith)

  pub top_root : (x : Ident) → IsTop t x → root_in t x ≡ x
  unfolding root_in
  top_root x e = top_stays 256 x e

  -- No other variable is below one of rank 0

  no_lower : Ranked t → (n : ℕ) (x : Ident) → rank_in t x ≤ rank_in t (climbed n t x)
  no_lower r zero x = omega (arith, ap (rank_in t) (no_steps x))
  no_lower r (suc n) x = by (link_in t x) refl (no_lower r n)
    where
      by : (o : Option Ident) → link_in t x ≡ o → ((y : Ident) → rank_in t y ≤ rank_in t (climbed n t y)) → rank_in t x ≤ rank_in t (climbed (suc n) t x)
      by None e rest = omega (arith, ap (rank_in t) (top_stays (suc n) x e))
      by (Some y) e rest = omega (arith, r.grows x y e, rest y, ap (rank_in t) (step_up n x y e))

  root_no_lower : Ranked t → (x : Ident) → rank_in t x ≤ rank_in t (root_in t x)
  unfolding root_in
  root_no_lower r x = no_lower r 256 x

  pub alone : Ranked t → (x : Ident) → IsTop t x → rank_in t x ≡ 0 → (y : Ident) → root_in t y ≡ root_in t x → y ≡ x
  alone r x top low y one_root = by (link_in t y) refl
    where
      at_x : root_in t y ≡ x
      at_x = one_root ∙ top_root x top

      by : (o : Option Ident) → link_in t y ≡ o → y ≡ x
      by None e = sym (top_root y e) ∙ at_x
      by (Some z) e = absurd (omega (arith, low, r.grows y z e, root_no_lower r z, ap (rank_in t) (root_up r y z e ∙ at_x)))

  -- by what is kept of it
  pub alone_by : Ranked t → (x : Ident) (cell : Option Cell) → cell ≡ entry t x → (not (is_some (link_of cell)) && (rank_of cell == 0)) ≡ true → (y : Ident) → root_in t y ≡ root_in t x → y ≡ x
  alone_by r x cell is e = alone r x (ap link_of (sym is) ∙ no_link (link_of cell) (and-left (not (is_some (link_of cell))) (rank_of cell == 0) e))
      (ap rank_of (sym is) ∙ eq-true (rank_of cell) 0 (and-right (not (is_some (link_of cell))) (rank_of cell == 0) e))
    where
      no_link : (o : Option Ident) → not (is_some o) ≡ true → o ≡ None
      no_link None q = refl
      no_link (Some z) q = absurd (false≢true q)

-- The same links

module _ (t t' : Table) (links : (x : Ident) → link_in t' x ≡ link_in t x) where
  climbed_same : (n : ℕ) (x : Ident) → climbed n t' x ≡ climbed n t x
  climbed_same zero x = no_steps t' x ∙ sym (no_steps t x)
  climbed_same (suc n) x = by (link_in t x) refl (climbed_same n)
    where
      by : (o : Option Ident) → link_in t x ≡ o → ((y : Ident) → climbed n t' y ≡ climbed n t y) → climbed (suc n) t' x ≡ climbed (suc n) t x
      by None e rest = top_stays t' (suc n) x (links x ∙ e) ∙ sym (top_stays t (suc n) x e)
      by (Some y) e rest = step_up t' n x y (links x ∙ e) ∙ rest y ∙ sym (step_up t n x y e)

  pub root_same : (x : Ident) → root_in t' x ≡ root_in t x
  unfolding root_in
  root_same x = climbed_same 256 x

  pub ranked_same : Ranked t → ((x : Ident) → rank_in t' x ≡ rank_in t x) → Ranked t'
  ranked_same r ranks = record {
    bounded = λ x. omega (arith, ranks x, r.bounded x);
    grows = λ x y e. omega (arith, ranks x, ranks y, r.grows x y (sym (links x) ∙ e));
  }

-- One cell is written

abbrev pub Written : Table → Table → Ident → Cell → Type 0
Written t t' r c = (y : Ident) → entry t' y ≡ (if ident_eq y r then Some c else entry t y)

module _ (t t' : Table) (r : Ident) (c : Cell) (w : Written t t' r c) where
  pub here : entry t' r ≡ Some c
  here = w r ∙ ap (λ (b : Bool). if b then Some c else entry t r) (ident_eq-itself r)

  pub there : (x : Ident) → (x ≡ r → ⊥) → entry t' x ≡ entry t x
  there x ne = w x ∙ ap (λ (b : Bool). if b then Some c else entry t x) (not_one x r ne)

  -- what is the same at r is the same everywhere
  kept : {X : Type 0} (f : Option Cell → X) → f (Some c) ≡ f (entry t r) → (x : Ident) → f (entry t' x) ≡ f (entry t x)
  kept f e x = elim (decided x r) [
    | one k ↦ ap (λ z. f (entry t' z)) k ∙ ap f here ∙ e ∙ ap (λ z. f (entry t z)) (sym k)
    | two ne ↦ ap f (there x ne)
  ]

module _ (t t' : Table) (r : Ident) (rank : ℕ) (content : Kept) (w : Written t t' r (Root rank content)) (top : IsTop t r) where
  top_links : (x : Ident) → link_in t' x ≡ link_in t x
  top_links = kept t t' r (Root rank content) w link_of (sym top)

  pub mark_ranked : Ranked t → rank ≡ rank_in t r → Ranked t'
  mark_ranked k e = ranked_same t t' top_links k (kept t t' r (Root rank content) w rank_of e)

  pub mark_marks : Marks t t' r content
  mark_marks = record {
    links = top_links;
    here = ap kept_of (here t t' r (Root rank content) w);
    others = λ x ne. ap kept_of (there t t' r (Root rank content) w x ne);
  }

  pub raise_likewise : content ≡ kept_in t r → Likewise t t'
  raise_likewise e = record { links = top_links; kept = kept t t' r (Root rank content) w kept_of e }

  pub raise_rank : rank_in t' r ≡ rank
  raise_rank = ap rank_of (here t t' r (Root rank content) w)

  pub raise_others : (x : Ident) → ident_eq x r ≡ false → rank_in t' x ≡ rank_in t x
  raise_others x e = ap rank_of (there t t' r (Root rank content) w x (other_than x r e))

  pub raise_ranked : Ranked t → rank_in t r < rank → rank < 256 → Ranked t'
  raise_ranked k more low = record {
    bounded = λ x. elim (decided x r) [
      | one e ↦ omega (arith, low, ap (rank_in t') e, raise_rank)
      | two ne ↦ omega (arith, k.bounded x, raise_others x (not_one x r ne))
    ];
    grows = λ x y e. grown x y (sym (top_links x) ∙ e);
  }
    where
      no_less : (y : Ident) → rank_in t y ≤ rank_in t' y
      no_less y = elim (decided y r) [
        | one e ↦ omega (arith, more, ap (rank_in t) e, ap (rank_in t') e, raise_rank)
        | two ne ↦ omega (arith, raise_others y (not_one y r ne))
      ]

      grown : (x y : Ident) → link_in t x ≡ Some y → rank_in t' x < rank_in t' y
      grown x y e = elim (decided x r) [
        | one q ↦ (let clash = sym top ∙ ap (link_in t) (sym q) ∙ e in cc)
        | two ne ↦ omega (arith, k.grows x y e, raise_others x (not_one x r ne), no_less y)
      ]

-- One that stands for a class is put below another

module _ (t t' : Table) (u o : Ident) (rank : ℕ) (w : Written t t' u (Below o rank)) (ranked : Ranked t) (is : rank ≡ rank_in t u) (top_u : IsTop t u) (top_o : IsTop t o)
    (higher : rank_in t u < rank_in t o) where
  link_here : link_in t' u ≡ Some o
  link_here = ap link_of (here t t' u (Below o rank) w)

  link_there : (x : Ident) → (x ≡ u → ⊥) → link_in t' x ≡ link_in t x
  link_there x ne = ap link_of (there t t' u (Below o rank) w x ne)

  ranks : (x : Ident) → rank_in t' x ≡ rank_in t x
  ranks = kept t t' u (Below o rank) w rank_of is

  apart : o ≡ u → ⊥
  apart e = omega (arith, higher, ap (rank_in t) e)

  pub link_ranked : Ranked t'
  link_ranked = record {
    bounded = λ x. omega (arith, ranks x, ranked.bounded x);
    grows = λ x y e. elim (decided x u) [
      | one k ↦ (let is_o : o ≡ y = some_is o y (sym link_here ∙ ap (link_in t') (sym k) ∙ e) in
          omega (arith, higher, ap (rank_in t) k, ap (rank_in t) is_o, ranks x, ranks y))
      | two ne ↦ omega (arith, ranks x, ranks y, ranked.grows x y (sym (link_there x ne) ∙ e))
    ];
  }
    where
      some_is : (a b : Ident) → Some a ≡ Some b → a ≡ b
      some_is a b e = cc

  over_top : IsTop t' o
  over_top = link_there o apart ∙ top_o

  united : (n : ℕ) (x : Ident) → 256 ≤ n + rank_in t x → climbed n t' x ≡ instead u o (climbed n t x)
  united zero x h = absurd (omega (arith, h, ranked.bounded x))
  united (suc n) x h = elim (decided x u) [
    | one k ↦ ap (climbed (suc n) t') k
        ∙ step_up t' n u o link_here
        ∙ top_stays t' n o over_top
        ∙ sym (instead_is u o)
        ∙ ap (instead u o) (sym (top_stays t (suc n) u top_u))
        ∙ ap (λ z. instead u o (climbed (suc n) t z)) (sym k)
    | two ne ↦ by ne (link_in t x) refl (united n)
  ]
    where
      by : (x ≡ u → ⊥) → (l : Option Ident) → link_in t x ≡ l → ((y : Ident) → 256 ≤ n + rank_in t y → climbed n t' y ≡ instead u o (climbed n t y)) → climbed (suc n) t' x ≡ instead u o (climbed (suc n) t x)
      by ne None e rest = top_stays t' (suc n) x (link_there x ne ∙ e) ∙ sym (instead_other u o x ne) ∙ ap (instead u o) (sym (top_stays t (suc n) x e))
      by ne (Some y) e rest =
          let g = ranked.grows x y e in
          step_up t' n x y (link_there x ne ∙ e) ∙ rest y (omega (arith, h, g)) ∙ ap (instead u o) (sym (step_up t n x y e))

  united_root : (x : Ident) → root_in t' x ≡ instead u o (root_in t x)
  unfolding root_in
  united_root x = united 256 x (omega arith)

  pub link_unites : Unites t t' u o (kept_in t o)
  link_unites = record {
    top = over_top;
    roots = united_root;
    here = ap kept_of (there t t' u (Below o rank) w o apart);
    others = λ x ne _. ap kept_of (there t t' u (Below o rank) w x ne);
  }

-- After a change of ranks alone

pub likewise_itself : (t : Table) → Likewise t t
likewise_itself t = record { links = λ x. refl; kept = λ x. refl }

pub likewise_unites : (t t' t'' : Table) (u o : Ident) → Likewise t t' → Unites t' t'' u o (kept_in t' o) → Unites t t'' u o (kept_in t o)
likewise_unites t t' t'' u o l n = record {
  top = n.top;
  roots = λ x. n.roots x ∙ ap (instead u o) (root_same t t' l.links x);
  here = n.here ∙ l.kept o;
  others = λ x nu no. n.others x nu no ∙ l.kept x;
}

-- What is kept is written after two classes were united
pub unites_marks : (t t' t'' : Table) (u o : Ident) (was content : Kept) → Unites t t' u o was → Marks t' t'' o content → Unites t t'' u o content
unites_marks t t' t'' u o was content n m = record {
  top = m.links o ∙ n.top;
  roots = λ x. root_same t' t'' m.links x ∙ n.roots x;
  here = m.here;
  others = λ x nu no. m.others x no ∙ n.others x nu no;
}

-- Nothing is kept of a class

pub nothing_is : (content : Kept) → is_nothing content ≡ true → content ≡ nothing
nothing_is content e = by content.first content.domain e
  where
    by : (first : Option ℕ) (domain : Option IntSet) → is_free first domain ≡ true → record { first = first; domain = domain } ≡ nothing
    by None None k = refl
    by None (Some s) k = absurd (false≢true k)
    by (Some p) domain k = absurd (false≢true k)
