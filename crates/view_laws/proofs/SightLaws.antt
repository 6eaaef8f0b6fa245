-- What changes of the layers do to what the spaces see.
use Rattle.std.proofs.Common.{◌≡◌, inl, inr, ℕ, Bool, true, false, not, cond, if◌then◌else◌, List, [], ◌∷◌, ◌++◌, refl, sym, ap, ap₂, subst, ◌∙◌, Some, is_some, unwrap_or, filter, ◌&&◌, append_assoc}
use Rattle.std.specs.List.{list_all, find, filter_map}
use Rattle.std.proofs.lemmas.Bool.{false≢true}
use Rattle.std.proofs.lemmas.List.{append-nil}
use Rattle.oz_base.specs.Lists.{first, edit_first, put_before, list_eq}
use Rattle.oz_semantics.specs.Names.{is_below, is_properly_below, is_top, parent_of, space_lt}
use Rattle.oz_semantics.specs.Configurations.{is_of, layer_at, layer_of, view, in_layer, failed, raised_by, next_child, new_layer, counting_child}
use Rattle.oz_semantics.specs.Spaces.{sight}
use Rattle.oz_language.specs.declared.kernel.Statement.{Statement}
use Rattle.oz_semantics.specs.Edits.{starting, chosen_tells, thread_offer, committing}
use Rattle.oz_semantics.specs.declared.value.Tell.{Tell}
use Rattle.oz_semantics.specs.declared.configuration.Layer.{Layer}
use Rattle.oz_laws.proofs.SameLaws.{and-left, and-right}
use Rattle.view_laws.specs.Sights.{ChangeUnseen, QuietUnseen, SeesBesides, TellSeen, EndUnseen, FailureUnseen, RaiseUnseen, CreationUnseen, committed_tells, CommitmentUnseen, CommitmentSeen, is_led, ViewSplits}
use Rattle.view_laws.proofs.Members.{decide, not_both, has-left, has-right, has-cases}
use Rattle.view_laws.proofs.NameLaws.{below_itself, equal_names, above_parent, not_above_parent, properly_trans}

-- what a layer tells a space
abbrev pub tells_to : List ℕ → Layer → List Tell
tells_to other l = if is_below l.space other then l.tells else []

-- a test of a layer's space, with what it means
pub of_space : (space : List ℕ) (l : Layer) → is_of space l ≡ true → l.space ≡ space
of_space space l e = equal_names l.space space e

pub tells_none : (other : List ℕ) (l : Layer) → is_below l.space other ≡ false → tells_to other l ≡ []
tells_none other l e = ap (λ (b : Bool). if b then l.tells else []) e

pub tells_all : (other : List ℕ) (l : Layer) → is_below l.space other ≡ true → tells_to other l ≡ l.tells
tells_all other l e = ap (λ (b : Bool). if b then l.tells else []) e

-- one layer changed
module _ (change : Layer → Layer) (other : List ℕ) (test : Layer → Bool) where
  edit_first_layer :
      (l : Layer) (ls : List Layer) (b : Bool) → ((m : Layer) → cond b (Some l) (find test ls) ≡ Some m → tells_to other (change m) ≡ tells_to other m)
      → (((m : Layer) → find test ls ≡ Some m → tells_to other (change m) ≡ tells_to other m) → view (edit_first test change ls) other ≡ view ls other)
      → view (cond b (change l ∷ ls) (l ∷ edit_first test change ls)) other ≡ view (l ∷ ls) other
  edit_first_layer l ls true h rest = ap (λ (ts : List Tell). ts ++ view ls other) (h l refl)
  edit_first_layer l ls false h rest = ap (λ (ts : List Tell). tells_to other l ++ ts) (rest h)

  edit_view : (layers : List Layer) → ((l : Layer) → find test layers ≡ Some l → tells_to other (change l) ≡ tells_to other l) → view (edit_first test change layers) other ≡ view layers other
  edit_view [] h = refl
  edit_view (l ∷ ls) h = edit_first_layer l ls (test l) h (edit_view ls)

-- what is found passes
found_passes : {A : Type 0} (test : A → Bool) (xs : List A) (x : A) → find test xs ≡ Some x → test x ≡ true
found_passes test [] x e = cc
found_passes {A = A} test (y ∷ ys) x e = by (test y) refl e (found_passes test ys x)
  where
    by : (b : Bool) → test y ≡ b → cond b (Some y) (find test ys) ≡ Some x → (find test ys ≡ Some x → test x ≡ true) → test x ≡ true
    by true k f rest = let same : y ≡ x = cc in ap test (sym same) ∙ k
    by false k f rest = rest f

pub space_of : (layers : List Layer) (space : List ℕ) (l : Layer) → layer_at layers space ≡ Some l → l.space ≡ space
space_of layers space l e = of_space space l (found_passes (is_of space) layers l e)

pub change_unseen : ChangeUnseen
change_unseen change layers space other keeps apart = edit_view change other (is_of space) layers silent
  where
    silent : (l : Layer) → layer_at layers space ≡ Some l → tells_to other (change l) ≡ tells_to other l
    silent l e =
        let below : is_below l.space other ≡ false = ap (λ s. is_below s other) (space_of layers space l e) ∙ apart in
        tells_none other (change l) (ap (λ s. is_below s other) (keeps l e) ∙ below) ∙ sym (tells_none other l below)

pub quiet_unseen : QuietUnseen
quiet_unseen change layers space other keeps quiet =
    edit_view change other (is_of space) layers (λ l e. ap₂ (λ (s : List ℕ) (ts : List Tell). if is_below s other then ts else []) (keeps l e) (quiet l e))

-- What is told

besides_front : (front before after ts : List Tell) → SeesBesides before after ts → SeesBesides (front ++ before) (front ++ after) ts
besides_front front before after ts h = record {
  kept = λ t c. elim (has-cases t front before c) [ inl k ↦ has-left t front after k | inr k ↦ has-right t front after (h.kept t k) ];
  only = λ t c. elim (has-cases t front after c) [
    | inl k ↦ inl (has-left t front before k)
    | inr k ↦ elim (h.only t k) [ inl m ↦ inl (has-right t front before m) | inr m ↦ inr m ]
  ];
}

besides_here : (own ts rest : List Tell) → SeesBesides (own ++ rest) ((own ++ ts) ++ rest) ts
besides_here own ts rest = record {
  kept = λ t c. elim (has-cases t own rest c) [
    | inl k ↦ has-left t (own ++ ts) rest (has-left t own ts k)
    | inr k ↦ has-right t (own ++ ts) rest k
  ];
  only = λ t c. elim (has-cases t (own ++ ts) rest c) [
    | inl k ↦ elim (has-cases t own ts k) [ inl m ↦ inl (has-left t own rest m) | inr m ↦ inr m ]
    | inr k ↦ inl (has-right t own rest k)
  ];
}

module _ (change : Layer → Layer) (space other : List ℕ) (ts : List Tell) (sees : is_below space other ≡ true) where
  told_here : (l : Layer) (ls : List Layer) → l.space ≡ space → (change l).space ≡ l.space → (change l).tells ≡ l.tells ++ ts → SeesBesides (view (l ∷ ls) other) (view (change l ∷ ls) other) ts
  told_here l ls e k more =
      let below : is_below l.space other ≡ true = ap (λ s. is_below s other) e ∙ sees in
      subst (λ (us : List Tell). SeesBesides (us ++ view ls other) (view (change l ∷ ls) other) ts) (sym (tells_all other l below))
      (subst (λ (us : List Tell). SeesBesides (l.tells ++ view ls other) (us ++ view ls other) ts) (sym (tells_all other (change l) (ap (λ s. is_below s other) k ∙ below) ∙ more))
      (besides_here l.tells ts (view ls other)))

  tell_layers :
      (layers : List Layer) → ((l : Layer) → layer_at layers space ≡ Some l → ((change l).space ≡ l.space) × ((change l).tells ≡ l.tells ++ ts)) → is_some (layer_at layers space) ≡ true
      → SeesBesides (view layers other) (view (in_layer space change layers) other) ts
  tell_layers [] h e = absurd (false≢true e)
  tell_layers (l ∷ ls) h e = by (is_of space l) refl h e (tell_layers ls)
    where
      by : (b : Bool) → is_of space l ≡ b → ((m : Layer) → cond b (Some l) (find (is_of space) ls) ≡ Some m → ((change m).space ≡ m.space) × ((change m).tells ≡ m.tells ++ ts))
          → is_some (cond b (Some l) (find (is_of space) ls)) ≡ true
          → (((m : Layer) → find (is_of space) ls ≡ Some m → ((change m).space ≡ m.space) × ((change m).tells ≡ m.tells ++ ts)) → is_some (find (is_of space) ls) ≡ true
          → SeesBesides (view ls other) (view (edit_first (is_of space) change ls) other) ts)
          → SeesBesides (view (l ∷ ls) other) (view (cond b (change l ∷ ls) (l ∷ edit_first (is_of space) change ls)) other) ts
      by true k g f rest = let r = g l refl in told_here l ls (of_space space l k) r.0 r.1
      by false k g f rest = besides_front (tells_to other l) (view ls other) (view (edit_first (is_of space) change ls) other) ts (rest g f)

pub tell_seen : TellSeen
tell_seen change layers space other ts keeps more there sees = tell_layers change space other ts sees layers (λ l e. (keeps l e, more l e)) there

-- Spaces that end

filter_view : (keep : Layer → Bool) (other : List ℕ) → ((l : Layer) → keep l ≡ false → tells_to other l ≡ []) → (layers : List Layer) → view (filter keep layers) other ≡ view layers other
filter_view keep other h [] = refl
filter_view keep other h (l ∷ ls) = by (keep l) refl (filter_view keep other h ls)
  where
    by : (b : Bool) → keep l ≡ b → view (filter keep ls) other ≡ view ls other → view (cond b (l ∷ filter keep ls) (filter keep ls)) other ≡ view (l ∷ ls) other
    by true e rest = ap (λ (ts : List Tell). tells_to other l ++ ts) rest
    by false e rest = rest ∙ ap (λ (ts : List Tell). ts ++ view ls other) (sym (h l e))

pub not_false : (b : Bool) → not b ≡ false → b ≡ true
not_false true e = refl
not_false false e = sym e

module _ (layers : List Layer) (space other : List ℕ) where
  abbrev left : Layer → Bool
  left l = not (is_properly_below space l.space)

  -- what is taken away is not above the other
  gone : is_properly_below space other ≡ false → (l : Layer) → left l ≡ false → tells_to other l ≡ []
  gone apart l e = elim (decide (is_below l.space other)) [
    | inl k ↦ absurd (not_both _ (properly_trans space l.space other (not_false _ e) k) apart)
    | inr k ↦ tells_none other l k
  ]

  left_view : is_properly_below space other ≡ false → view (filter left layers) other ≡ view layers other
  left_view apart = filter_view left other (gone apart) layers

pub end_unseen : EndUnseen
end_unseen layers space other how keeps apart =
    change_unseen how (filter (left layers space other) layers) space other (λ l e. (keeps l).0) apart
    ∙ left_view layers space other (ap (λ b. b && not (list_eq space other)) apart)

pub failure_unseen : FailureUnseen
failure_unseen layers space other apart = end_unseen layers space other failed (λ l. (refl, refl)) apart

pub raise_unseen : RaiseUnseen
raise_unseen layers space other x apart =
    quiet_unseen (raised_by x) (filter (left layers space other) layers) space other (λ l e. refl) (λ l e. refl) ∙ left_view layers space other apart

-- New spaces

put_view : (test : Layer → Bool) (new : Layer) (other : List ℕ) → new.tells ≡ [] → (layers : List Layer) → view (put_before test new layers) other ≡ view layers other
put_view test new other e [] = ap (λ (ts : List Tell). ts ++ []) (silent (is_below new.space other))
  where
    silent : (b : Bool) → (if b then new.tells else []) ≡ []
    silent true = e
    silent false = refl
put_view test new other e (l ∷ ls) = by (test l) (put_view test new other e ls)
  where
    silent : (b : Bool) → (if b then new.tells else []) ≡ []
    silent true = e
    silent false = refl

    by : (b : Bool) → view (put_before test new ls) other ≡ view ls other → view (cond b (new ∷ l ∷ ls) (l ∷ put_before test new ls)) other ≡ view (l ∷ ls) other
    by true rest = ap (λ (ts : List Tell). ts ++ view (l ∷ ls) other) (silent (is_below new.space other))
    by false rest = ap (λ (ts : List Tell). tells_to other l ++ ts) rest

pub creation_unseen : CreationUnseen
creation_unseen layers parent other procedure =
    let new = starting procedure (new_layer (next_child (layer_of layers parent))) in
    put_view (λ (m : Layer). space_lt new.space m.space) new other refl (in_layer parent counting_child layers)
    ∙ quiet_unseen counting_child layers parent other (λ m e. refl) (λ m e. refl)

-- what a commitment tells the layer
committed_more : (statements : List Statement) (layers : List Layer) (space : List ℕ) (i : ℕ) (l : Layer) → layer_at layers space ≡ Some l
    → (committing (sight statements layers space) i l).tells ≡ l.tells ++ committed_tells statements layers space i
committed_more statements layers space i l e =
    ap (λ (m : Layer). l.tells ++ chosen_tells i (first (filter_map (thread_offer (sight statements layers space)) m.threads)))
    (ap (λ o. unwrap_or o (new_layer space)) (sym e))

pub commitment_unseen : CommitmentUnseen
commitment_unseen statements layers space other i (inl apart) = change_unseen (committing (sight statements layers space) i) layers space other (λ l e. refl) apart
commitment_unseen statements layers space other i (inr none) =
    quiet_unseen (committing (sight statements layers space) i) layers space other (λ l e. refl) (λ l e. committed_more statements layers space i l e ∙ ap (λ (ts : List Tell). l.tells ++ ts) none ∙ append-nil l.tells)

pub commitment_seen : CommitmentSeen
commitment_seen statements layers space other i there below =
    tell_seen (committing (sight statements layers space) i) layers space other (committed_tells statements layers space i) (λ l e. refl) (committed_more statements layers space i) there below

-- A space and its parent

-- layers that tell a space nothing, since none of them is above it
not_true : (b : Bool) → not b ≡ true → b ≡ false
not_true true e = absurd (false≢true e)
not_true false e = refl

pub later_silent : (space other : List ℕ) (ls : List Layer) → ((s : List ℕ) → is_below s other ≡ true → is_below s space ≡ true) → list_all (λ (m : Layer). not (is_below m.space space)) ls ≡ true → view ls other ≡ []
later_silent space other [] h e = refl
later_silent space other (m ∷ ls) h e =
    let none : is_below m.space space ≡ false = not_true _ (and-left _ _ e) in
    ap₂ (λ (ts us : List Tell). ts ++ us)
    (tells_none other m (elim (decide (is_below m.space other)) [ inl k ↦ absurd (not_both _ (h m.space k) none) | inr k ↦ k ]))
    (later_silent space other ls h (and-right _ _ e))

module _ (space : List ℕ) (inner : is_top space ≡ false) where
  pub parent_above : (s : List ℕ) → is_below s (parent_of space) ≡ true → is_below s space ≡ true
  parent_above s e = elim (decide (list_eq s space)) [
    | inl k ↦ subst (λ t. is_below s t ≡ true) (equal_names s space k) (below_itself s)
    | inr k ↦ above_parent s space k ∙ e
  ]

  split_here : (l : Layer) (ls : List Layer) → is_of space l ≡ true → list_all (λ (m : Layer). not (is_below m.space l.space)) ls ≡ true → view (l ∷ ls) space ≡ view (l ∷ ls) (parent_of space) ++ l.tells
  split_here l ls e led =
      let own = of_space space l e in
      let rest : list_all (λ (m : Layer). not (is_below m.space space)) ls ≡ true = subst (λ s. list_all (λ (m : Layer). not (is_below m.space s)) ls ≡ true) own led in
      ap₂ (λ (ts us : List Tell). ts ++ us) (tells_all space l (subst (λ s. is_below l.space s ≡ true) own (below_itself l.space))) (later_silent space space ls (λ s k. k) rest)
      ∙ append-nil l.tells
      ∙ sym (ap (λ (ts : List Tell). ts ++ l.tells)
      (ap₂ (λ (ts us : List Tell). ts ++ us) (tells_none (parent_of space) l (ap (λ s. is_below s (parent_of space)) own ∙ not_above_parent space inner))
      (later_silent space (parent_of space) ls parent_above rest)))

  split_layers : (layers : List Layer) (l : Layer) → is_led layers ≡ true → layer_at layers space ≡ Some l → view layers space ≡ view layers (parent_of space) ++ l.tells
  split_layers [] l led e = cc
  split_layers (k ∷ ls) l led e = by (is_of space k) refl (split_layers ls l (and-right _ _ led)) e
    where
      by : (b : Bool) → is_of space k ≡ b → (find (is_of space) ls ≡ Some l → view ls space ≡ view ls (parent_of space) ++ l.tells)
          → cond b (Some k) (find (is_of space) ls) ≡ Some l → view (k ∷ ls) space ≡ view (k ∷ ls) (parent_of space) ++ l.tells
      by true o rest f = let same : k ≡ l = cc in split_here k ls o (and-left _ _ led) ∙ ap (λ (m : Layer). view (k ∷ ls) (parent_of space) ++ m.tells) same
      by false o rest f =
          ap₂ (λ (b : Bool) (us : List Tell). (if b then k.tells else []) ++ us) (above_parent k.space space o) (rest f)
          ∙ sym (append_assoc (tells_to (parent_of space) k) (view ls (parent_of space)) l.tells)

pub view_splits : ViewSplits
view_splits layers space l led inner e = split_layers space inner layers l led e
