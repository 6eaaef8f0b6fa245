-- Whether a space tells the spaces above it nothing, and whether a variable is held by theirs, by what is kept.
use Rattle.std.proofs.Common.{◌≡◌, inl, inr, ℕ, Bool, true, false, not, ◌&&◌, ◌||◌, if◌then◌else◌, cond, List, [], ◌∷◌, ◌++◌, filter, refl, sym, ap, ap₂, subst, ◌∙◌, Contains, None, Some, slice_index_or}
use Rattle.std.specs.List.{list_any, list_all, find}
use Rattle.std.proofs.lemmas.Bool.{false≢true}
use Rattle.oz_base.specs.Lists.{list_eq, is_empty, iff}
use Rattle.oz_base.specs.declared.names.Ident.{Ident}
use Rattle.oz_semantics.specs.Names.{is_below, is_properly_below, is_top, parent_of}
use Rattle.oz_semantics.specs.Store.{same, is_determined, named_by}
use Rattle.oz_semantics.specs.Configurations.{view, variables_of, ancestor_variables}
use Rattle.oz_semantics.specs.Settling.{is_among}
use Rattle.oz_semantics.specs.Spaces.{alike_on, is_held}
use Rattle.oz_semantics.specs.declared.value.Tell.{Tell}
use Rattle.oz_semantics.specs.declared.configuration.Layer.{Layer}
use Rattle.oz_laws.proofs.SameLaws.{In, In-from_contains}
use Rattle.view_laws.specs.Touched.{IsPart, alike_at}
use Rattle.view_laws.proofs.Members.{not_both, each}
use Rattle.view_laws.proofs.NameLaws.{names_equal, equal_names, below_itself}
use Rattle.view_laws.proofs.ListLaws.{in_map}
use Rattle.view_laws.proofs.TouchedLaws.{touched_decide}
use Rattle.view_laws.proofs.FirstLaws.{touched_hold}
use Rattle.space_core.specs.Places.{IsFirst, IsAbsent}
use Rattle.space_core.specs.Shown.{shown, shown_all, is_outer, is_named, Traces, Fits, IsSound}
use Rattle.space_core.specs.Silence.{equal_alike, variable_alike, holds_variable, told_alike, tell_alike, tell_holds, is_traced}
use Rattle.space_core.specs.declared.level.Level.{Level}
use Rattle.space_core.proofs.MemberLaws.{all_flat}
use Rattle.space_core.proofs.ToldLaws.{all_filter, any_filter, any_flat}
use Rattle.space_core.proofs.TraceLaws.{outer_noted}
use Rattle.space_core.proofs.SoundLaws.{above_is, shown_member}
use Rattle.space_core.proofs.TellLaws.{view_is, layer_found}
use Rattle.space_core.proofs.ParentLaws.{first_read, named_space, named_member, not_empty, empty_top}
use Rattle.space_core.proofs.CreateLaws.{parent_child}
use Rattle.space_core.proofs.OuterLaws.{Traced, names_within, outer_part, among_outer, mentioned, named_decide, named_hold, more_named}

-- The top has none above it

top_none : (l : Layer) → is_properly_below l.space [] ≡ false
top_none l = by l.space
  where
    by : (s : List ℕ) → is_properly_below s [] ≡ false
    by [] = refl
    by (n ∷ s) = refl

pub top_variables : (layers : List Layer) → ancestor_variables layers [] ≡ []
top_variables [] = refl
top_variables (l ∷ ls) = ap₂ (λ (b : Bool) (xs : List Ident). (if b then variables_of l else []) ++ xs) (top_none l) (top_variables ls)

pub top_silent : (layers : List Layer) (space : List ℕ) → is_top space ≡ true → (one other : List Tell) → alike_on (ancestor_variables layers space) one other ≡ true
top_silent layers [] e one other = ap (λ (xs : List Ident). alike_on xs one other) (top_variables layers)
top_silent layers (n ∷ s) e one other = absurd (false≢true e)

and-false : (b : Bool) → (b && false) ≡ false
and-false true = refl
and-false false = refl

pub top_holds : (layers : List Layer) (space : List ℕ) → is_top space ≡ true → (ts : List Tell) (x : Ident) → is_held ts (ancestor_variables layers space) x ≡ false
top_holds layers [] e ts x = ap (λ (xs : List Ident). not (is_determined ts x) && list_any (same ts x) xs) (top_variables layers) ∙ and-false (not (is_determined ts x))
top_holds layers (n ∷ s) e ts x = absurd (false≢true e)

-- Each other has its parent

find_none : {A : Type 0} (test : A → Bool) (xs : List A) (x : A) → In x xs → test x ≡ true → find test xs ≡ None → ⊥
find_none test [] x h e n = elim h [ ]
find_none {A = A} test (y ∷ ys) x h e n = by (test y) refl h n (find_none test ys x)
  where
    by : (b : Bool) → test y ≡ b → In x (y ∷ ys) → cond b (Some y) (find test ys) ≡ None → (In x ys → test x ≡ true → find test ys ≡ None → ⊥) → ⊥
    by true f i m rest = cc
    by false f (inl q) m rest = not_both _ (ap test q ∙ e) f
    by false f (inr i) m rest = rest i e m

pub has_parent : (levels : List Level) → IsSound levels → (l : Level) → Contains levels l → is_top l.space ≡ false → IsAbsent (is_named (parent_of l.space)) levels → ⊥
has_parent levels s l c inner a =
    let g = s.tree.given (shown l) (shown_member levels l c) inner in
    let r = in_map shown levels g.parent (In-from_contains (shown_all levels) g.parent g.among) in
    let name : r.0.space ≡ parent_of l.space = ap (λ (k : Layer). k.space) r.2 ∙ sym (ap parent_of g.name ∙ parent_child g.parent.space g.number) in
    find_none (is_named (parent_of l.space)) levels r.0 r.1 (subst (λ (t : List ℕ). list_eq r.0.space t ≡ true) name (names_equal r.0.space)) a.none

-- Tests by one list of variables

-- two tests of each item are one
all_both : {A : Type 0} (p q : A → Bool) (xs : List A) → (list_all p xs && list_all q xs) ≡ list_all (λ x. p x && q x) xs
all_both p q [] = refl
all_both p q (x ∷ xs) = by (p x) (q x) (all_both p q xs)
  where
    by : (a b : Bool) → (list_all p xs && list_all q xs) ≡ list_all (λ y. p y && q y) xs → ((a && list_all p xs) && (b && list_all q xs)) ≡ ((a && b) && list_all (λ y. p y && q y) xs)
    by true true e = e
    by true false e = and-false (list_all p xs)
    by false b e = refl

module _ (layers : List Layer) (space : List ℕ) (one other : List Tell) where
  abbrev outer : Ident → Bool
  outer = is_outer layers space

  abbrev equal_at : Ident → Ident → Bool
  equal_at x y = iff (same one x y) (same other x y)

  alike_filter : (vs : List Ident) → alike_on (filter outer vs) one other ≡ list_all (variable_alike layers space one other vs) vs
  alike_filter vs =
      all_both (alike_at one other) (λ x. list_all (equal_at x) (filter outer vs)) (filter outer vs)
      ∙ all_filter outer (λ x. alike_at one other x && list_all (equal_at x) (filter outer vs)) vs
      ∙ ap (λ (f : Ident → Bool). list_all f vs) (λ i x. not (outer x) || (alike_at one other x && all_filter outer (equal_at x) vs i))

  told_same : (x : Ident) → variable_alike layers space one other (mentioned one) x ≡ told_alike layers space one other x
  unfolding told_alike
  told_same x = ap (λ (b : Bool). not (outer x) || (alike_at one other x && b)) (all_flat (equal_alike layers space one other x) named_by one)

  pub alike_told : list_all (tell_alike layers space one other) one ≡ alike_on (filter outer (mentioned one)) one other
  alike_told =
      sym (all_flat (told_alike layers space one other) named_by one)
      ∙ sym (ap (λ (f : Ident → Bool). list_all f (mentioned one)) (λ i x. told_same x i))
      ∙ sym (alike_filter (mentioned one))

-- A space that is kept, and its parent

-- all that a space is below, and the space itself, is traced
pub traced_is : (levels : List Level) (space : List ℕ) → list_all (is_traced space) levels ≡ true → Traced levels space
traced_is levels space e l c b = by (is_below l.space space) l.traced b (each (is_traced space) levels e l c)
  where
    by : (p q : Bool) → p ≡ true → (not p || q) ≡ true → q ≡ true
    by true q f g = g
    by false q f g = absurd (false≢true f)

module _ (levels : List Level) (s : IsSound levels) (l : Level) (c : Contains levels l) (inner : is_top l.space ≡ false) where
  abbrev layers : List Layer
  layers = shown_all levels

  abbrev above : List Tell
  above = view layers (parent_of l.space)

  abbrev tells : List Tell
  tells = (shown l).tells

  fit : Fits layers l
  fit = s.fits l c

  sees : view layers l.space ≡ above ++ tells
  sees = view_is layers l.space (shown l) s.tree (layer_found levels s l c) ∙ ap (λ (ts : List Tell). ts ++ tells) (above_is layers l.space inner)

  traces : Traced levels l.space → Traces l.space above tells l.touched
  traces t = subst (λ (ts : List Tell). Traces l.space ts tells l.touched) (above_is layers l.space inner) (fit.touches (t l c (below_itself l.space)) inner)

  noted_part : (t : Traced levels l.space) → IsPart (traces t).all (ancestor_variables layers l.space) (filter (is_outer layers l.space) l.touched)
  noted_part t =
      subst (IsPart (traces t).all (ancestor_variables layers l.space)) (sym (outer_noted layers l.space above tells l.touched (traces t))) (outer_part layers l.space (traces t).all)

  pub silent_traced : Traced levels l.space → list_all (variable_alike layers l.space (view layers l.space) above l.touched) l.touched ≡ alike_on (ancestor_variables layers l.space) (view layers l.space) above
  silent_traced t =
      sym (alike_filter layers l.space (view layers l.space) above l.touched)
      ∙ sym (subst (λ (ts : List Tell). alike_on (ancestor_variables layers l.space) ts above ≡ alike_on (filter (is_outer layers l.space) l.touched) ts above) (sym sees)
      (touched_decide above tells (traces t).all (ancestor_variables layers l.space) (filter (is_outer layers l.space) l.touched) (traces t).touches
      (names_within levels s l.space inner t) (noted_part t)))

  pub silent_named : list_all (tell_alike layers l.space (view layers l.space) above) (view layers l.space) ≡ alike_on (ancestor_variables layers l.space) (view layers l.space) above
  silent_named =
      alike_told layers l.space (view layers l.space) above
      ∙ sym (named_decide (view layers l.space) above (λ x i. subst (λ (ts : List Tell). In x (mentioned ts)) (sym sees) (more_named above tells x i)) (ancestor_variables layers l.space)
      (filter (is_outer layers l.space) (mentioned (view layers l.space))) (outer_part layers l.space (mentioned (view layers l.space))))

  pub held_traced : Traced levels l.space → (x : Ident)
      → is_held (view layers l.space) (ancestor_variables layers l.space) x
      ≡ (not (is_determined (view layers l.space) x) && (is_outer layers l.space x || list_any (holds_variable layers l.space (view layers l.space) x) l.touched))
  held_traced t x =
      subst (λ (ts : List Tell). is_held ts (ancestor_variables layers l.space) x
      ≡ (not (is_determined ts x) && (is_among (ancestor_variables layers l.space) x || list_any (same ts x) (filter (is_outer layers l.space) l.touched)))) (sym sees)
      (touched_hold above tells (traces t).all (ancestor_variables layers l.space) (filter (is_outer layers l.space) l.touched) (traces t).touches
      (names_within levels s l.space inner t) (noted_part t) x)
      ∙ ap₂ (λ (a b : Bool). not (is_determined (view layers l.space) x) && (a || b)) (among_outer layers l.space x)
      (any_filter (is_outer layers l.space) (same (view layers l.space) x) l.touched)

-- of any view and any space
pub held_named : (layers : List Layer) (space : List ℕ) (ts : List Tell) (x : Ident)
    → is_held ts (ancestor_variables layers space) x ≡ (not (is_determined ts x) && (is_outer layers space x || list_any (tell_holds layers space ts x) ts))
held_named layers space ts x =
    named_hold ts (ancestor_variables layers space) (filter (is_outer layers space) (mentioned ts)) (outer_part layers space (mentioned ts)) x
    ∙ ap₂ (λ (a b : Bool). not (is_determined ts x) && (a || b)) (among_outer layers space x)
    (any_filter (is_outer layers space) (same ts x) (mentioned ts) ∙ any_flat (holds_variable layers space ts x) named_by ts)

-- By what was read of what is kept

module _ (levels : List Level) (l : Level) (inner : is_empty l.space ≡ false) (place : ℕ) (h : (x : Level) × IsFirst (is_named (parent_of l.space)) levels place x) (k : Level)
    (e : k ≡ slice_index_or levels place k) (s : IsSound levels) (c : Contains levels l) (own above : List Tell) (is_own : own ≡ view (shown_all levels) l.space)
    (is_above : IsSound levels → Contains levels k → above ≡ view (shown_all levels) k.space) where
  parent_sees : above ≡ view (shown_all levels) (parent_of l.space)
  parent_sees =
      is_above s (subst (Contains levels) (sym (first_read h.1 k e)) (named_member levels (parent_of l.space) place h.0 h.1))
      ∙ ap (λ (m : Level). view (shown_all levels) m.space) (first_read h.1 k e)
      ∙ ap (view (shown_all levels)) (named_space levels (parent_of l.space) place h.0 h.1)

  pub silent_by_touched : list_all (is_traced l.space) levels ≡ true
      → list_all (variable_alike (shown_all levels) l.space own above l.touched) l.touched
      ≡ alike_on (ancestor_variables (shown_all levels) l.space) (view (shown_all levels) l.space) (view (shown_all levels) (parent_of l.space))
  silent_by_touched t =
      ap₂ (λ (one other : List Tell). list_all (variable_alike (shown_all levels) l.space one other l.touched) l.touched) is_own parent_sees
      ∙ silent_traced levels s l c (not_empty l.space inner) (traced_is levels l.space t)

  pub silent_by_names :
      list_all (tell_alike (shown_all levels) l.space own above) own
      ≡ alike_on (ancestor_variables (shown_all levels) l.space) (view (shown_all levels) l.space) (view (shown_all levels) (parent_of l.space))
  silent_by_names =
      ap₂ (λ (one other : List Tell). list_all (tell_alike (shown_all levels) l.space one other) one) is_own parent_sees
      ∙ silent_named levels s l c (not_empty l.space inner)

pub empty_silent : (layers : List Layer) (space : List ℕ) → is_empty space ≡ true → (one other : List Tell) → true ≡ alike_on (ancestor_variables layers space) one other
empty_silent ls [] e one other = sym (top_silent ls [] refl one other)
empty_silent ls (n ∷ s) e one other = absurd (false≢true e)

-- Whether a variable is held, by what was read

or-true : (a : Bool) → (a || true) ≡ true
or-true true = refl
or-true false = refl

abbrev pub held : List Level → Level → List ℕ → Ident → Bool
held levels l space x = is_held (view (shown_all levels) l.space) (ancestor_variables (shown_all levels) space) x

module _ (levels : List Level) (l : Level) (space : List ℕ) (x : Ident) (s : IsSound levels) (c : Contains levels l) (own : List Tell) (is_own : own ≡ view (shown_all levels) l.space) where
  pub top_not_held : is_empty space ≡ true → false ≡ held levels l space x
  top_not_held q = sym (top_holds (shown_all levels) space (sym (empty_top space) ∙ q) (view (shown_all levels) l.space) x)

  seen_determined : (b : Bool) → is_determined own x ≡ b → is_determined (view (shown_all levels) l.space) x ≡ b
  seen_determined b e = sym (ap (λ (ts : List Tell). is_determined ts x) is_own) ∙ e

  pub determined_not_held : is_determined own x ≡ true → false ≡ held levels l space x
  determined_not_held q = sym (ap (λ (b : Bool). not b && list_any (same (view (shown_all levels) l.space) x) (ancestor_variables (shown_all levels) space)) (seen_determined true q))

  pub held_outer : is_determined own x ≡ false → is_outer (shown_all levels) space x ≡ true → true ≡ held levels l space x
  held_outer e o =
      sym (held_named (shown_all levels) space (view (shown_all levels) l.space) x
      ∙ ap₂ (λ (a b : Bool). not a && (b || list_any (tell_holds (shown_all levels) space (view (shown_all levels) l.space) x) (view (shown_all levels) l.space))) (seen_determined false e) o)

  pub held_by_names : is_determined own x ≡ false → is_outer (shown_all levels) space x ≡ false
      → list_any (tell_holds (shown_all levels) space own x) own ≡ held levels l space x
  held_by_names e o =
      ap (λ (ts : List Tell). list_any (tell_holds (shown_all levels) space ts x) ts) is_own
      ∙ sym (held_named (shown_all levels) space (view (shown_all levels) l.space) x
      ∙ ap₂ (λ (a b : Bool). not a && (b || list_any (tell_holds (shown_all levels) space (view (shown_all levels) l.space) x) (view (shown_all levels) l.space))) (seen_determined false e) o)

  pub held_by_touched : is_empty space ≡ false → is_determined own x ≡ false → is_outer (shown_all levels) space x ≡ false → list_eq l.space space ≡ true → list_all (is_traced space) levels ≡ true
      → list_any (holds_variable (shown_all levels) space own x) l.touched ≡ held levels l space x
  held_by_touched n e o q t =
      let own : l.space ≡ space = equal_names l.space space q in
      let inner : is_top l.space ≡ false = ap is_top own ∙ not_empty space n in
      let traced : Traced levels l.space = subst (Traced levels) (sym own) (traced_is levels space t) in
      ap (λ (ts : List Tell). list_any (holds_variable (shown_all levels) space ts x) l.touched) is_own
      ∙ sym (subst (λ (t : List ℕ). is_held (view (shown_all levels) l.space) (ancestor_variables (shown_all levels) t) x
      ≡ (not (is_determined (view (shown_all levels) l.space) x) && (is_outer (shown_all levels) t x || list_any (holds_variable (shown_all levels) t (view (shown_all levels) l.space) x) l.touched))) own
      (held_traced levels s l c inner traced x)
      ∙ ap₂ (λ (a b : Bool). not a && (b || list_any (holds_variable (shown_all levels) space (view (shown_all levels) l.space) x) l.touched)) (seen_determined false e) o)
