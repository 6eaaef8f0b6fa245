-- Layers in which no space sees what is inconsistent.
use Rattle.std.proofs.Common.{◌≡◌, ◌⊎◌, inl, inr, ℕ, Bool, true, false, not, cond, ◌&&◌, if◌then◌else◌, List, [], ◌∷◌, ◌++◌, refl, sym, ap, ap₂, subst, ◌∙◌, Contains, Option, Some, None, filter, map, fold, unwrap_or}
use Rattle.std.specs.List.{find, filter_map}
use Rattle.std.proofs.lemmas.List.{append-nil}
use Rattle.std.proofs.lemmas.Bool.{false≢true}
use Rattle.oz_base.specs.Lists.{first, list_eq}
use Rattle.oz_base.specs.declared.names.Ident.{Ident}
use Rattle.oz_language.specs.declared.kernel.Statement.{Statement}
use Rattle.oz_semantics.specs.Names.{is_below, is_properly_below, parent_of, child_name, space_lt}
use Rattle.oz_semantics.specs.Store.{View, is_consistent}
use Rattle.oz_semantics.specs.Configurations.{is_of, layer_at, layer_of, view, in_layer, telling, failed, next_child, new_layer, counting_child}
use Rattle.oz_semantics.specs.Edits.{starting, chosen_tells, thread_offer, created, committing, committed}
use Rattle.oz_semantics.specs.Spaces.{sight}
use Rattle.oz_semantics.specs.Triggers.{triggered}
use Rattle.oz_semantics.specs.Settling.{Turned, may_fail, is_inconsistent, inconsistent_spaces, failing, without_inconsistent, top_is_inconsistent, top_failed, requeued}
use Rattle.oz_semantics.specs.Runs.{left_by}
use Rattle.oz_semantics.specs.declared.value.Tell.{Tell}
use Rattle.oz_semantics.specs.declared.configuration.Layer.{Layer}
use Rattle.oz_semantics.specs.declared.outcome.Stepped.TheVariants.{Moved, TopEnded, Quiescent}
use Rattle.oz_laws.proofs.SameLaws.{In, In-from_contains, contains-from_In}
use Rattle.view_laws.specs.Trees.{IsTree}
use Rattle.view_laws.specs.Steps.{IsSound}
use Rattle.view_laws.proofs.Members.{decide, not_both}
use Rattle.view_laws.proofs.ListLaws.{filter_in, in_filter, filter_none, map_in, in_edit, edited_in, found_in}
use Rattle.view_laws.proofs.NameLaws.{properly_by, names_equal, equal_names, above_parent}
use Rattle.view_laws.proofs.TreeLaws.{failure_tree, same_named_layer, in_put, fresh_before}
use Rattle.view_laws.proofs.SightLaws.{space_of, failure_unseen, creation_unseen}
use Rattle.need_laws.proofs.FireLaws.{all_fired}
use Rattle.need_laws.proofs.AfterLaws.{fired_tree, fired_sound}
use Rattle.view_laws.specs.Sights.{committed_tells}
use Rattle.view_laws.proofs.ChoiceLaws.{committed_consistent}
use Rattle.settle_laws.specs.Edits.{choosing_in}
use Rattle.settle_laws.proofs.TellLaws.{tell_below}
use Rattle.settle_laws.specs.Sound.{SoundNothing, SoundTop, SoundSettles, QuietStaysSound, CommittedSettles, FollowedSettles, FollowedLeft, LeftTree, LeftSound, SettledSound, CreatedSound, CommittedSound}
use Rattle.settle_laws.proofs.SettleLaws.{quiet_inconsistent, nothing_fails, top_kept, settled_by}
use Rattle.settle_laws.proofs.EditLaws.{are_quiet, edits_agree, edits_join}

pub sound_nothing : SoundNothing
sound_nothing layers sound = ap (λ (ls : List Layer). map (λ (l : Layer). l.space) ls) (filter_none (is_inconsistent layers) layers (λ l h. sound l (contains-from_In layers l h)))

pub nothing_sound : (layers : List Layer) → inconsistent_spaces layers ≡ [] → IsSound layers
nothing_sound layers e l c = elim (decide (is_inconsistent layers l)) [
  | inl k ↦ (let there : In l.space (inconsistent_spaces layers) =
      map_in (λ (m : Layer). m.space) (filter (is_inconsistent layers) layers) l (in_filter (is_inconsistent layers) layers l (In-from_contains layers l c) k) in
      elim (subst (λ ss. In l.space ss) e there) [ ])
  | inr k ↦ k
]

pub sound_settles : SoundSettles
sound_settles space layers sound = nothing_fails space layers (sound_nothing layers sound)

pub sound_top : SoundTop
sound_top layers sound = top_kept [] layers layers (sound_settles [] layers sound)

-- Failures in turn

-- those that may still see what is inconsistent
abbrev Rest : List Layer → List (List ℕ) → Type 0
Rest layers ts = (l : Layer) → In l layers → is_inconsistent layers l ≡ true → In l.space ts

pub some_found : {A : Type 0} (test : A → Bool) (xs : List A) (x : A) → In x xs → test x ≡ true → (y : A) × (find test xs ≡ Some y)
some_found test [] x h e = elim h [ ]
some_found {A = A} test (z ∷ xs) x h e = by (test z) refl h (some_found test xs x)
  where
    by : (b : Bool) → test z ≡ b → In x (z ∷ xs) → (In x xs → test x ≡ true → (y : A) × (find test xs ≡ Some y)) → (y : A) × (cond b (Some z) (find test xs) ≡ Some y)
    by true k i rest = (z, refl)
    by false k (inl q) rest = absurd (not_both _ (ap test q ∙ e) k)
    by false k (inr q) rest = rest q e

module _ (layers : List Layer) (t : List ℕ) (tree : IsTree layers) (ts : List (List ℕ)) (rest : Rest layers (t ∷ ts)) where
  abbrev later : List Layer
  later = failing layers t

  abbrev left : Layer → Bool
  left l = not (is_properly_below t l.space)

  -- a layer of the space that failed, where it is there
  failed_there : (l : Layer) → In l later → l.space ≡ t → (m : Layer) × (l ≡ failed m)
  failed_there l h e = elim (in_edit (is_of t) failed (filter left layers) l h) [
    | inl k ↦ (let y = some_found (is_of t) (filter left layers) l k (subst (λ s. list_eq s t ≡ true) (sym e) (names_equal t)) in
        let there : In (failed y.0) later = edited_in (is_of t) failed (filter left layers) y.0 y.1 in
        (y.0, same_named_layer later l (failed y.0) (failure_tree t layers tree).ordered h there (e ∙ sym (equal_names y.0.space t (found_in (is_of t) failed (filter left layers) y.0 y.1).1))))
    | inr r ↦ (r.0, r.2)
  ]

  -- another one, which is not below it
  other_there : (l : Layer) → In l later → (l.space ≡ t → ⊥) → In l layers × (is_below t l.space ≡ false)
  other_there l h n = elim (in_edit (is_of t) failed (filter left layers) l h) [
    | inl k ↦ (let f = filter_in left layers l k in (
      f.0,
      elim (decide (is_below t l.space)) [
        | inl e ↦ absurd (not_both _ f.1 (ap not (properly_by t l.space e (λ q. n (sym q)))))
        | inr e ↦ e
      ],
    ))
    | inr r ↦ absurd (n (ap (λ (m : Layer). m.space) r.2 ∙ equal_names r.0.space t (found_in (is_of t) failed (filter left layers) r.0 r.1).1))
  ]

  not_failed : (l m : Layer) → l ≡ failed m → is_inconsistent later l ≡ true → ⊥
  not_failed l m e k = false≢true (ap (is_inconsistent later) (sym e) ∙ k)

  rest_same : (l : Layer) → In l layers → is_below t l.space ≡ false → is_inconsistent later l ≡ true → In l.space (t ∷ ts)
  rest_same l h apart k = rest l h (sym (ap (λ (v : View). may_fail l.status && not (is_consistent v)) (failure_unseen layers t l.space apart)) ∙ k)

  rest_later : Rest later ts
  rest_later l h k = elim (decide (list_eq l.space t)) [
    | inl e ↦ (let f = failed_there l h (equal_names l.space t e) in absurd (not_failed l f.0 f.1 k))
    | inr e ↦ (let n : l.space ≡ t → ⊥ = λ q. not_both _ (subst (λ s. list_eq s t ≡ true) (sym q) (names_equal t)) e in
        let o = other_there l h n in
        elim (rest_same l o.0 o.1 k) [ inl q ↦ absurd (n (sym q)) | inr q ↦ q ])
  ]

fold_tree : (ts : List (List ℕ)) (layers : List Layer) → IsTree layers → IsTree (fold failing layers ts)
fold_tree [] layers tree = tree
fold_tree (t ∷ ts) layers tree = fold_tree ts (failing layers t) (failure_tree t layers tree)

fold_rest : (ts : List (List ℕ)) (layers : List Layer) → IsTree layers → Rest layers ts → Rest (fold failing layers ts) []
fold_rest [] layers tree rest = rest
fold_rest (t ∷ ts) layers tree rest = fold_rest ts (failing layers t) (failure_tree t layers tree) (rest_later layers t tree ts rest)

pub left_tree : LeftTree
left_tree layers tree = fold_tree (inconsistent_spaces layers) layers tree

pub left_sound : LeftSound
left_sound layers tree l c = elim (decide (is_inconsistent (without_inconsistent layers) l)) [
  | inl e ↦ elim (fold_rest (inconsistent_spaces layers) layers tree first l (In-from_contains (without_inconsistent layers) l c) e) [ ]
  | inr e ↦ e
]
  where
    first : Rest layers (inconsistent_spaces layers)
    first m h e = map_in (λ (n : Layer). n.space) (filter (is_inconsistent layers) layers) m (in_filter (is_inconsistent layers) layers m h e)

-- What follows a step

-- where what is needed begins
pub begun_good : (statements : List Statement) (layers : List Layer) → IsTree layers → IsSound layers → IsTree (triggered statements layers) × IsSound (triggered statements layers)
begun_good statements layers tree sound =
    let fires = all_fired statements layers in (fired_tree layers (triggered statements layers) fires tree, fired_sound layers (triggered statements layers) fires sound)

abbrev MovedSound : Turned → Type 0
MovedSound (Moved cost, d) = IsTree d.layers × IsSound d.layers
MovedSound (TopEnded x cost, d) = Unit {0}
MovedSound (Quiescent, d) = Unit {0}

pub settled_sound : SettledSound
settled_sound statements mover cost c n d tree e = subst MovedSound e (by (top_is_inconsistent c.layers))
  where
    by : (b : Bool) → MovedSound (if b then top_failed cost c else (Moved cost, requeued statements mover c (triggered statements (without_inconsistent c.layers))))
    by true = tt
    by false = begun_good statements (without_inconsistent c.layers) (left_tree c.layers tree) (left_sound c.layers tree)

-- A new space

parent_of_child : (s : List ℕ) (n : ℕ) → parent_of (child_name s n) ≡ s
parent_of_child [] n = refl
parent_of_child (a ∷ []) n = refl
parent_of_child (a ∷ b ∷ s) n = ap (λ t. a ∷ t) (parent_of_child (b ∷ s) n)

-- what a name sees that is no layer's is what its parent sees
view_new : (layers : List Layer) (s : List ℕ) → ((m : Layer) → In m layers → m.space ≡ s → ⊥) → view layers s ≡ view layers (parent_of s)
view_new [] s h = refl
view_new (l ∷ ls) s h =
    ap₂ (λ (b : Bool) (us : List Tell). (if b then l.tells else []) ++ us) (above_parent l.space s (apart (decide (list_eq l.space s)))) (view_new ls s (λ m k. h m (inr k)))
  where
    apart : (list_eq l.space s ≡ true) ⊎ (list_eq l.space s ≡ false) → list_eq l.space s ≡ false
    apart (inl e) = absurd (h l (inl refl) (equal_names l.space s e))
    apart (inr e) = e

module _ (parent : List ℕ) (procedure : Ident) (layers : List Layer) (l : Layer) (tree : IsTree layers) (at : layer_at layers parent ≡ Some l) (fits : is_consistent (view layers parent) ≡ true)
    (sound : IsSound layers) where
  abbrev made : List Layer
  made = created parent procedure layers

  abbrev new : Layer
  new = starting procedure (new_layer (next_child (layer_of layers parent)))

  own_name : layer_of layers parent ≡ l
  own_name = ap (λ (o : Option Layer). unwrap_or o (new_layer parent)) at

  new_view : view layers new.space ≡ view layers parent
  new_view =
      ap (λ (m : Layer). view layers (next_child m)) own_name
      ∙ view_new layers (next_child l) (fresh_before layers tree parent procedure l at)
      ∙ ap (view layers) (parent_of_child l.space l.next.child ∙ space_of layers parent l at)

  seen : (m : Layer) → is_inconsistent made m ≡ is_inconsistent layers m
  seen m = ap (λ (v : View). may_fail m.status && not (is_consistent v)) (creation_unseen layers parent m.space procedure)

  new_sound : is_inconsistent layers new ≡ false
  new_sound = ap (λ (v : View). not (is_consistent v)) new_view ∙ ap not fits

  grown_sound : (m : Layer) → In m (in_layer parent counting_child layers) → is_inconsistent layers m ≡ false
  grown_sound m h = elim (in_edit (is_of parent) counting_child layers m h) [
    | inl k ↦ sound m (contains-from_In layers m k)
    | inr r ↦ (ap (is_inconsistent layers) r.2 ∙ sound r.0 (contains-from_In layers r.0 (found_in (is_of parent) counting_child layers r.0 r.1).0))
  ]

  made_sound : (m : Layer) → In m made → is_inconsistent made m ≡ false
  made_sound m h = seen m ∙ elim (in_put (λ (other : Layer). space_lt new.space other.space) new (in_layer parent counting_child layers) m h) [
    | inl e ↦ (ap (is_inconsistent layers) e ∙ new_sound)
    | inr k ↦ grown_sound m k
  ]

pub created_sound : CreatedSound
created_sound parent procedure layers l tree at fits sound m c = made_sound parent procedure layers l tree at fits sound m (In-from_contains (created parent procedure layers) m c)

pub quiet_stays_sound : QuietStaysSound
quiet_stays_sound change layers space quiet sound = nothing_sound (in_layer space change layers) (quiet_inconsistent change layers space quiet ∙ sound_nothing layers sound)

-- a commitment, as the choice over what is told
committed_by : (statements : List Statement) (space : List ℕ) (i : ℕ) (layers : List Layer) (ts : List Tell) → committed_tells statements layers space i ≡ ts
    → committed statements space i layers ≡ in_layer space (choosing_in (sight statements layers space) i) (in_layer space (telling ts) layers)
committed_by statements space i layers ts e =
    edits_agree space (committing (sight statements layers space) i) (λ l. choosing_in (sight statements layers space) i (telling ts l)) layers
    (λ l at. ap (λ us. choosing_in (sight statements layers space) i (telling us l))
    (ap (λ (m : Layer). chosen_tells i (first (filter_map (thread_offer (sight statements layers space)) m.threads))) (ap (λ (o : Option Layer). unwrap_or o (new_layer space)) (sym at)) ∙ e))
    ∙ sym (edits_join space (choosing_in (sight statements layers space) i) (telling ts) layers (λ l. refl))

pub committed_sound : CommittedSound
committed_sound statements space i layers none sound =
    subst IsSound (sym (committed_by statements space i layers [] none))
    (quiet_stays_sound (choosing_in (sight statements layers space) i) (in_layer space (telling []) layers) space (are_quiet.choice (sight statements layers space) i)
    (quiet_stays_sound (telling []) layers space (record { space = λ l. refl; status = λ l. refl; tells = λ l. append-nil l.tells }) sound))

pub committed_settles : CommittedSettles
committed_settles statements space i layers l at sound consistent =
    let ts : List Tell = committed_tells statements layers space i in
    let quiet = are_quiet.choice (sight statements layers space) i in
    record {
      below = λ t c. tell_below space ts layers l sound at (committed_consistent statements layers space i consistent) t
          (subst (λ ss. Contains ss t) (ap inconsistent_spaces (committed_by statements space i layers ts refl) ∙ quiet_inconsistent (choosing_in (sight statements layers space) i) (in_layer space (telling ts) layers) space quiet) c);
      left = refl;
    }

pub followed_settles : FollowedSettles
followed_settles statements c space before after h = ap (λ (t : Turned). left_by t) (settled_by statements None 1 space before after c.queue c.shown h)

pub followed_left : FollowedLeft
followed_left statements c layers sound = ap (λ (t : Turned). left_by t) (settled_by statements None 1 [] layers layers c.queue c.shown (sound_settles [] layers sound))
