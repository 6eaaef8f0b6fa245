-- The layer of the thread that stepped: its triggers, and what its threads wait for.
use Rattle.std.proofs.Common.{◌≡◌, ◌⊎◌, inl, inr, ℕ, Bool, true, false, not, ◌||◌, cond, if◌then◌else◌, List, [], ◌∷◌, ◌++◌, refl, sym, ap, ap₂, subst, ◌∙◌, Option, Some, is_some, unwrap_or, map, flat_map, drop}
use Rattle.std.specs.List.{find, list_any, fold}
use Rattle.std.proofs.lemmas.Bool.{false≢true}
use Rattle.std.proofs.lemmas.List.{append-nil, append_assoc}
use Rattle.oz_base.specs.Lists.{list_eq, is_empty, edit_first}
use Rattle.oz_base.specs.declared.names.Ident.{Ident}
use Rattle.oz_language.specs.declared.kernel.Statement.{Statement}
use Rattle.oz_semantics.specs.Names.{named}
use Rattle.oz_semantics.specs.Store.{View, same, domain_of, is_determined}
use Rattle.oz_semantics.specs.Configurations.{is_of, layer_at, layer_of, is_numbered, thread_at, is_open, view, in_layer, in_thread, with_frames, without_terminated, new_layer}
use Rattle.oz_semantics.specs.Sights.{Readiness, waits_of}
use Rattle.oz_semantics.specs.Spaces.{states_of, thread_ready, waited_in}
use Rattle.oz_semantics.specs.Triggers.{is_needed, is_needed_in, has_needed}
use Rattle.oz_semantics.specs.Changes.{Change, GivesOut, AddsTrigger, changed, changed_all}
use Rattle.oz_semantics.specs.Steps.{without_top}
use Rattle.oz_semantics.specs.declared.configuration.Frame.{Frame}
use Rattle.oz_semantics.specs.declared.configuration.Thread.{Thread}
use Rattle.oz_semantics.specs.declared.configuration.Trigger.{Trigger}
use Rattle.oz_semantics.specs.declared.configuration.Layer.{Layer}
use Rattle.oz_laws.proofs.SameLaws.{In, In-from_contains, contains-from_In, In-flat, In-flat_back, and-left, and-right, eq-true}
use Rattle.view_laws.specs.Queues.{StepsTo}
use Rattle.view_laws.specs.Steps.{IsNumbered}
use Rattle.view_laws.proofs.Members.{decide, not_both, or_cases, or_left, or_right, and_both, some_of, by_some, In-cases}
use Rattle.view_laws.proofs.ListLaws.{filter_in, map_in, in_map, in_edit, found_in}
use Rattle.view_laws.proofs.ChangeLaws.{edit_of, changed_by, edit_keeps}
use Rattle.view_laws.proofs.NumberLaws.{first_numbered}
use Rattle.view_laws.proofs.SightLaws.{space_of}
use Rattle.need_laws.proofs.RoundLaws.{none_in}
use Rattle.unneeded_laws.specs.Unneeded.{waits_by, waits_at, added_by, is_met}
use Rattle.unneeded_laws.proofs.SpareLaws.{Spares, waited_same}

-- What is found where the first that passes was edited

pub found_edit : {A : Type 0} (test : A → Bool) (f : A → A) (xs : List A) (x : A) → find test xs ≡ Some x → test (f x) ≡ test x → find test (edit_first test f xs) ≡ Some (f x)
found_edit test f [] x e k = cc
found_edit {A = A} test f (y ∷ ys) x e k = by (test y) refl e (found_edit test f ys x)
  where
    by : (b : Bool) → test y ≡ b → cond b (Some y) (find test ys) ≡ Some x → (find test ys ≡ Some x → test (f x) ≡ test x → find test (edit_first test f ys) ≡ Some (f x))
        → find test (cond b (f y ∷ ys) (y ∷ edit_first test f ys)) ≡ Some (f x)
    by true q g rest =
        let same : y ≡ x = cc in
        let passes : test (f y) ≡ true = ap (λ z. test (f z)) same ∙ k ∙ ap test (sym same) ∙ q in
        ap (λ (b : Bool). cond b (Some (f y)) (find test ys)) passes ∙ ap (λ z. Some (f z)) same
    by false q g rest = ap (λ (b : Bool). cond b (Some y) (find test (edit_first test f ys))) q ∙ rest g k

own_edit : (space : List ℕ) (f : Layer → Layer) (layers : List Layer) (l : Layer) → ((m : Layer) → (f m).space ≡ m.space) → layer_at layers space ≡ Some l → layer_at (in_layer space f layers) space ≡ Some (f l)
own_edit space f layers l named e = found_edit (is_of space) f layers l e (ap (λ s. list_eq s space) (named l))

-- Its triggers

abbrev pub layer_changed : ℕ → Layer → Change → Layer
layer_changed number l change = edit_of number change l

own_changed : (id : Ident) (changes : List Change) (layers : List Layer) (l : Layer) → layer_at layers id.space ≡ Some l
    → layer_at (changed_all id changes layers) id.space ≡ Some (fold (layer_changed id.number) l changes)
own_changed id [] layers l e = e
own_changed id (change ∷ changes) layers l e =
    own_changed id changes (changed id layers change) (edit_of id.number change l)
    (ap (λ ls. layer_at ls id.space) (changed_by id layers change) ∙ own_edit id.space (edit_of id.number change) layers l (edit_keeps id.number change).space e)

changed_triggers : (number : ℕ) (changes : List Change) (l : Layer) → (fold (layer_changed number) l changes).triggers ≡ l.triggers ++ added_by changes
changed_triggers number [] l = sym (append-nil l.triggers)
changed_triggers number (AddsTrigger procedure variable ∷ changes) l =
    changed_triggers number changes (edit_of number (AddsTrigger procedure variable) l)
    ∙ append_assoc l.triggers (record { procedure = procedure; variable = variable } ∷ []) (added_by changes)
changed_triggers number (GivesOut n ∷ changes) l = changed_triggers number changes (edit_of number (GivesOut n) l)
changed_triggers number (change ∷ changes) l = changed_triggers number changes (edit_of number change l)

-- after the changes of a step, and where it goes on with another stack
pub changes_triggers : (id : Ident) (changes : List Change) (layers : List Layer) (before after : Layer) → layer_at layers id.space ≡ Some before
    → layer_at (in_layer id.space without_terminated (changed_all id changes (without_top id layers))) id.space ≡ Some after → after.triggers ≡ before.triggers ++ added_by changes
changes_triggers id changes layers before after at found =
    let popped : Layer = with_frames id.number (λ frames. drop 1 frames) before in
    let first : layer_at (without_top id layers) id.space ≡ Some popped = own_edit id.space (with_frames id.number (λ frames. drop 1 frames)) layers before (λ l. refl) at in
    let all : Layer = fold (layer_changed id.number) popped changes in
    let last : layer_at (in_layer id.space without_terminated (changed_all id changes (without_top id layers))) id.space ≡ Some (without_terminated all) =
    own_edit id.space without_terminated (changed_all id changes (without_top id layers)) all (λ l. refl) (own_changed id changes (without_top id layers) popped first) in
    let is : Some after ≡ Some (without_terminated all) = sym found ∙ last in
    let one : after ≡ without_terminated all = cc in
    ap (λ (l : Layer). l.triggers) one ∙ changed_triggers id.number changes popped

pub stack_triggers : (id : Ident) (frames : List Frame) (layers : List Layer) (before after : Layer) → layer_at layers id.space ≡ Some before
    → layer_at (in_layer id.space without_terminated (in_layer id.space (with_frames id.number (λ rest. frames)) (without_top id layers))) id.space ≡ Some after → after.triggers ≡ before.triggers ++ []
stack_triggers id frames layers before after at found =
    let popped : Layer = with_frames id.number (λ fs. drop 1 fs) before in
    let other : Layer = with_frames id.number (λ rest. frames) popped in
    let first : layer_at (without_top id layers) id.space ≡ Some popped = own_edit id.space (with_frames id.number (λ fs. drop 1 fs)) layers before (λ l. refl) at in
    let second : layer_at (in_layer id.space (with_frames id.number (λ rest. frames)) (without_top id layers)) id.space ≡ Some other =
    own_edit id.space (with_frames id.number (λ rest. frames)) (without_top id layers) popped (λ l. refl) first in
    let last : layer_at (in_layer id.space without_terminated (in_layer id.space (with_frames id.number (λ rest. frames)) (without_top id layers))) id.space ≡ Some (without_terminated other) =
    own_edit id.space without_terminated (in_layer id.space (with_frames id.number (λ rest. frames)) (without_top id layers)) other (λ l. refl) second in
    let is : Some after ≡ Some (without_terminated other) = sym found ∙ last in
    let one : after ≡ without_terminated other = cc in
    ap (λ (l : Layer). l.triggers) one ∙ sym (append-nil before.triggers)

-- Lists

pub none_pass : {A : Type 0} (p : A → Bool) (xs : List A) → ((x : A) → In x xs → p x ≡ false) → list_any p xs ≡ false
none_pass p xs h = elim (decide (list_any p xs)) [
  | inl e ↦ (let r = some_of p xs e in absurd (not_both _ r.2 (h r.0 (In-from_contains xs r.0 r.1))))
  | inr e ↦ e
]

-- of those that wait for nothing no trigger is met
none_waited : (f : Ident → List Ident) (ids : List Ident) → list_any (λ (x : Ident). not (is_empty (f x))) ids ≡ false → flat_map f ids ≡ []
none_waited f [] e = refl
none_waited f (x ∷ ids) e = by (f x) e (none_waited f ids)
  where
    by : (xs : List Ident) → (not (is_empty xs) || list_any (λ (y : Ident). not (is_empty (f y))) ids) ≡ false → (list_any (λ (y : Ident). not (is_empty (f y))) ids ≡ false → flat_map f ids ≡ []) → xs ++ flat_map f ids ≡ []
    by [] k rest = rest k
    by (y ∷ ys) k rest = absurd (false≢true (sym k))

pub none_met : (v : View) (f : Ident → List Ident) (ids : List Ident) (ts : List Trigger) → list_any (λ (x : Ident). not (is_empty (f x))) ids ≡ false → list_any (is_met v (flat_map f ids)) ts ≡ false
none_met v f ids ts e = ap (λ (xs : List Ident). list_any (is_met v xs) ts) (none_waited f ids e) ∙ none_pass (is_met v []) ts (λ t h. refl)

-- The layer after a step that told nothing

module _ (statements : List Statement) (one other : List Layer) (id : Ident) (before after : Layer) (news : List Thread) (at : layer_at one id.space ≡ Some before) (now : layer_at other id.space ≡ Some after)
    (steps : StepsTo id.number before after news) (numbered : IsNumbered after) (spares : Spares id.space (λ u. true) one other) where
  -- the threads that the step may have left waiting
  abbrev names : List Ident
  names = id ∷ map (λ (t : Thread). named id.space t.number) news

  abbrev waits : List Ident
  waits = flat_map (waits_at statements other) names

  abbrev ready : Thread → Readiness
  ready = thread_ready statements other id.space

  named_waits : (u : Thread) → In u after.threads → In (named id.space u.number) names → (y : Ident) → In y (waits_of (ready u)) → In y waits
  named_waits u i h y k =
      let own : layer_of other id.space ≡ after = ap (λ (o : Option Layer). unwrap_or o (new_layer id.space)) now in
      let first : thread_at (layer_of other id.space).threads u.number ≡ Some u = ap (λ (l : Layer). thread_at l.threads u.number) own ∙ first_numbered after.threads u numbered.rising i in
      In-flat (waits_at statements other) (named id.space u.number) y names h (subst (In y) (sym (ap (waits_by ready) first)) k)

  -- the others were there
  named_or_old : (u : Thread) → In u after.threads → In (named id.space u.number) names ⊎ In u before.threads
  named_or_old u i = elim (In-cases u stepped news (filter_in (λ (t : Thread). not (is_empty t.frames)) (stepped ++ news) u (subst (In u) steps.threads i)).0) [
    | inr h ↦ inl (inr (map_in (λ (t : Thread). named id.space t.number) news u h))
    | inl h ↦ elim (in_edit (is_numbered id.number) put before.threads u h) [
      | inl k ↦ inr k
      | inr r ↦ (let own : r.0.number ≡ id.number = eq-true r.0.number id.number (found_in (is_numbered id.number) put before.threads r.0 r.1).1 in
          let number : id.number ≡ u.number = sym (ap (λ (t : Thread). t.number) r.2 ∙ own) in
          inl (inl (ap (named id.space) number)))
    ]
  ]
    where
      put : Thread → Thread
      put t = record t { frames = steps.change t.frames }

      stepped : List Thread
      stepped = in_thread id.number put before.threads

  abbrev waits_in : List ℕ → Bool → List Thread → List Ident
  waits_in space b ts = flat_map waits_of (if b then map (thread_ready statements other space) ts else [])

  -- what is waited for now these wait for, or threads that were there
  waited_within : (b : Bool) (y : Ident) → In y (waits_in id.space b after.threads) → In y waits ⊎ In y (waits_in id.space b before.threads)
  waited_within false y h = elim h [ ]
  waited_within true y h =
      let r = In-flat_back waits_of y (map ready after.threads) h in
      let u = in_map ready after.threads r.0 r.1 in
      let waiting : In y (waits_of (ready u.0)) = subst (λ s. In y (waits_of s)) (sym u.2) r.2 in
      elim (named_or_old u.0 u.1) [
        | inl k ↦ inl (named_waits u.0 u.1 k y waiting)
        | inr k ↦ inr (In-flat waits_of (ready u.0) y (map ready before.threads) (map_in ready before.threads u.0 k) waiting)
      ]

  abbrev now_waited : List Ident
  now_waited = waited_in statements other (states_of statements other) after

  abbrev then_waited : List Ident
  then_waited = waited_in statements one (states_of statements one) before

  waited_was : (y : Ident) → In y now_waited → In y waits ⊎ In y then_waited
  waited_was y h =
      let mine : In y (waits_in id.space (is_open before.status) after.threads) =
      subst (In y) (ap₂ (λ (s : List ℕ) (b : Bool). waits_in s b after.threads) (space_of other id.space after now) (ap is_open steps.status)) h in
      elim (waited_within (is_open before.status) y mine) [
        | inl k ↦ inl k
        | inr k ↦ (let theirs : In y (waited_in statements other (states_of statements other) before) =
            subst (In y) (ap (λ (s : List ℕ). waits_in s (is_open before.status) before.threads) (sym (space_of one id.space before at))) k in
            inr (subst (In y) (waited_same statements id.space (λ u. true) one other spares before refl) theirs))
      ]

  same_view : view other after.space ≡ view one before.space
  same_view = ap (view other) steps.space ∙ spares.seen before.space refl

  own_view : view other id.space ≡ view one before.space
  own_view = ap (view other) (sym (space_of one id.space before at)) ∙ spares.seen before.space refl

  -- so no trigger is needed that was not, and is not met
  needed_was : (t : Trigger) → is_needed_in statements one before t ≡ false → is_met (view other id.space) waits t ≡ false → is_needed_in statements other after t ≡ false
  needed_was t e unmet = elim (decide (is_needed_in statements other after t)) [
    | inr k ↦ k
    | inl k ↦ absurd (not_both _ (and_both _ _ (sym (ap is_open steps.status) ∙ and-left _ _ k) (still (and-right (is_open after.status) _ k))) e)
  ]
    where
      equal : Ident → Bool
      equal = same (view one before.space) t.variable

      unmet_then : list_any equal waits ≡ false
      unmet_then = ap (λ v. is_met v waits t) (sym own_view) ∙ unmet

      still : is_needed (view other after.space) now_waited t ≡ true → is_needed (view one before.space) then_waited t ≡ true
      still k = elim (or_cases (is_determined (view one before.space) t.variable || is_some (domain_of (view one before.space) t.variable)) (list_any equal now_waited) (sym (ap (λ v. is_needed v now_waited t) same_view) ∙ k)) [
        | inl d ↦ or_left _ _ d
        | inr w ↦ (let r = some_of equal now_waited w in
            elim (waited_was r.0 (In-from_contains now_waited r.0 r.1)) [
              | inl h ↦ absurd (not_both _ r.2 (none_in equal waits unmet_then r.0 h))
              | inr h ↦ or_right (is_determined (view one before.space) t.variable || is_some (domain_of (view one before.space) t.variable)) _ (by_some equal then_waited r.0 (contains-from_In then_waited r.0 h) r.2)
            ])
      ]

  pub own_unneeded : (added : List Trigger) → after.triggers ≡ before.triggers ++ added → has_needed statements one before ≡ false
      → list_any (is_met (view other id.space) waits) before.triggers ≡ false → list_any (is_needed_in statements other after) added ≡ false → has_needed statements other after ≡ false
  own_unneeded added triggers none unmet fresh = none_pass (is_needed_in statements other after) after.triggers (λ t h. elim (In-cases t before.triggers added (subst (In t) triggers h)) [
    | inl k ↦ needed_was t (none_in (is_needed_in statements one before) before.triggers none t k) (none_in (is_met (view other id.space) waits) before.triggers unmet t k)
    | inr k ↦ none_in (is_needed_in statements other after) added fresh t k
  ])
