-- What a step that tells something makes of the queue, where no space is below the one that is told.
use Rattle.std.proofs.Common.{◌≡◌, inl, inr, ℕ, Bool, true, false, not, ◌||◌, if◌then◌else◌, cond, List, [], ◌∷◌, ◌++◌, refl, sym, ap, ap₂, subst, ◌∙◌, Option, Some, None, is_some, filter, map, flat_map}
use Rattle.std.specs.List.{find, list_any}
use Rattle.std.proofs.lemmas.List.{append-nil}
use Rattle.std.proofs.lemmas.List.Elements.{filter-append}
use Rattle.oz_base.specs.Lists.{list_eq}
use Rattle.oz_base.specs.declared.names.Ident.{Ident}
use Rattle.oz_language.specs.declared.kernel.Statement.{Statement}
use Rattle.oz_semantics.specs.Names.{is_below, is_properly_below, named}
use Rattle.oz_semantics.specs.Store.{View, is_consistent}
use Rattle.oz_semantics.specs.Configurations.{is_of, layer_at, layer_of, is_open, view, in_layer, without_terminated, telling}
use Rattle.oz_semantics.specs.Sights.{Readiness, can_step}
use Rattle.oz_semantics.specs.Spaces.{states_of, thread_ready}
use Rattle.oz_semantics.specs.Changes.{Change, GivesOut, changed, changed_all, done}
use Rattle.oz_semantics.specs.Settling.{Turned, is_inconsistent, inconsistent_spaces, is_among, mover_in, queue_after, runnable_in, runnable, settled}
use Rattle.oz_semantics.specs.Steps.{without_top}
use Rattle.oz_semantics.specs.declared.value.Tell.{Tell}
use Rattle.oz_semantics.specs.declared.configuration.Thread.{Thread}
use Rattle.oz_semantics.specs.declared.configuration.Layer.{Layer}
use Rattle.oz_semantics.specs.declared.configuration.Configuration.{Configuration}
use Rattle.oz_semantics.specs.declared.outcome.Stepped.TheVariants.{Moved}
use Rattle.oz_laws.proofs.SameLaws.{In, In-from_contains, contains-from_In, In-flat, In-flat_back, and-right}
use Rattle.view_laws.specs.Spaceless.{gives_space, has_spaces, plain_ready}
use Rattle.view_laws.specs.Readies.{seeing}
use Rattle.view_laws.specs.Needs.{NoneNeeded}
use Rattle.view_laws.specs.Trees.{is_ascending, names_of}
use Rattle.view_laws.specs.Steps.{spawned_from, MadeOf, IsSound}
use Rattle.view_laws.proofs.Members.{bool_eq, decide, not_both, In-left, In-cases}
use Rattle.view_laws.proofs.ListLaws.{among_in, in_among, in_filter, filter_none, map_in, in_edit, edit_in, found_in}
use Rattle.view_laws.proofs.NameLaws.{names_equal, equal_names, properly, properly_by}
use Rattle.view_laws.proofs.SightLaws.{space_of, change_unseen}
use Rattle.view_laws.proofs.TreeLaws.{one_of_name, same_named_layer}
use Rattle.view_laws.proofs.SpacelessLaws.{spaceless_ready, quiet_spaceless, tell_spaceless}
use Rattle.view_laws.proofs.QueueLaws.{mover_able, can_from, queue_exact}
use Rattle.view_laws.proofs.QuietLaws.{quiet_queue}
use Rattle.view_laws.proofs.ChangeLaws.{edit_of, changed_by, edit_keeps}
use Rattle.view_laws.proofs.StepLaws.{changes_made}
use Rattle.view_laws.proofs.NumberLaws.{step_new}
use Rattle.view_laws.proofs.NeedLaws.{nothing_fires}
use Rattle.view_laws.proofs.SettleLaws.{quiet_sound}
use Rattle.settle_laws.proofs.EditLaws.{edits_join, edits_agree, are_quiet, edit_quiet, quiet_view, pop_view}
use Rattle.settle_laws.proofs.ListEdits.{is_found_edit}
use Rattle.settle_laws.proofs.SettleLaws.{settled_by}
use Rattle.settle_laws.proofs.SoundLaws.{sound_settles}
use Rattle.settle_laws.proofs.TellLaws.{tell_below}
use Rattle.turn_laws.specs.Orderly.{AreOrderly}
use Rattle.turn_laws.specs.Kept.{IsKept}
use Rattle.turn_laws.specs.Telling.{IsAlone, others_of, is_able_still, staying, TellQueue}
use Rattle.turn_laws.proofs.OrderlyLaws.{changes_orderly, edit_orderly, tells_edit, is_there}
use Rattle.turn_laws.proofs.HeadLaws.{kept_head, head_numbered, own_among}

-- A tell may come after the changes

swap_edits : (space : List ℕ) (f g : Layer → Layer) (layers : List Layer) → ((l : Layer) → (f l).space ≡ l.space) → ((l : Layer) → (g l).space ≡ l.space) → ((l : Layer) → f (g l) ≡ g (f l))
    → in_layer space f (in_layer space g layers) ≡ in_layer space g (in_layer space f layers)
swap_edits space f g layers named_f named_g swap =
    edits_join space f g layers named_g ∙ edits_agree space (λ l. f (g l)) (λ l. g (f l)) layers (λ l e. swap l) ∙ sym (edits_join space g f layers named_f)

-- what a step changes and what it tells are apart
tell_apart : (number : ℕ) (ts : List Tell) (change : Change) (l : Layer) → edit_of number change (telling ts l) ≡ telling ts (edit_of number change l)
tell_apart number ts (GivesOut n) l = refl
tell_apart number ts change l = refl

changes_first : (id : Ident) (ts : List Tell) (changes : List Change) (layers : List Layer)
    → changed_all id changes (in_layer id.space (telling ts) layers) ≡ in_layer id.space (telling ts) (changed_all id changes layers)
changes_first id ts [] layers = refl
changes_first id ts (change ∷ changes) layers =
    let edit : Layer → Layer = edit_of id.number change in
    let one : changed id (in_layer id.space (telling ts) layers) change ≡ in_layer id.space (telling ts) (changed id layers change) =
    changed_by id (in_layer id.space (telling ts) layers) change
    ∙ swap_edits id.space edit (telling ts) layers (edit_keeps id.number change).space (λ l. refl) (tell_apart id.number ts change)
    ∙ ap (in_layer id.space (telling ts)) (sym (changed_by id layers change)) in
    ap (changed_all id changes) one ∙ changes_first id ts changes (changed id layers change)

told_last : (id : Ident) (ts : List Tell) (changes : List Change) (layers : List Layer)
    → in_layer id.space without_terminated (done id ts changes layers) ≡ in_layer id.space (telling ts) (in_layer id.space without_terminated (changed_all id changes layers))
told_last id ts changes layers =
    ap (in_layer id.space without_terminated) (changes_first id ts changes layers)
    ∙ swap_edits id.space without_terminated (telling ts) (changed_all id changes layers) (λ l. refl) (λ l. refl) (λ l. refl)

-- the changes are not seen
changes_view : (id : Ident) (changes : List Change) (layers : List Layer) (other : List ℕ) → view (changed_all id changes layers) other ≡ view layers other
changes_view id [] layers other = refl
changes_view id (change ∷ changes) layers other =
    changes_view id changes (changed id layers change) other
    ∙ ap (λ ls. view ls other) (changed_by id layers change)
    ∙ quiet_view (edit_of id.number change) layers id.space other (edit_quiet id.number change)

-- A space with none below it is told what is consistent

-- names of spaces that are not the one, and not below it
apart_below : (space other : List ℕ) → is_properly_below space other ≡ false → (other ≡ space → ⊥) → is_below space other ≡ false
apart_below space other e n = elim (decide (is_below space other)) [
  | inl k ↦ absurd (not_both _ (properly_by space other k (λ q. n (sym q))) e)
  | inr k ↦ k
]

not_below_itself : (space : List ℕ) → is_properly_below space space ≡ false
not_below_itself space = elim (decide (is_properly_below space space)) [
  | inl k ↦ absurd ((properly space space k).1 refl)
  | inr k ↦ k
]

module _ (space : List ℕ) (ts : List Tell) (old : List Layer) (sound : IsSound old) (at : is_some (layer_at old space) ≡ true) (alone : IsAlone old space)
    (fits : is_consistent (view old space ++ ts) ≡ true) (none : has_spaces old ≡ false) (plain : list_any gives_space ts ≡ false) where
  abbrev pub new : List Layer
  new = in_layer space (telling ts) old

  alone_later : (l : Layer) → In l new → is_properly_below space l.space ≡ false
  alone_later l h = elim (in_edit (is_of space) (telling ts) old l h) [
    | inl k ↦ alone l (contains-from_In old l k)
    | inr r ↦ (ap (λ (m : Layer). is_properly_below space m.space) r.2 ∙ alone r.0 (contains-from_In old r.0 (found_in (is_of space) (telling ts) old r.0 r.1).0))
  ]

  -- no space sees what is inconsistent
  pub sound_later : IsSound new
  sound_later l c = elim (decide (is_inconsistent new l)) [
    | inl e ↦ (let h = In-from_contains new l c in
        let there : In l.space (inconsistent_spaces new) =
        map_in (λ (m : Layer). m.space) (filter (is_inconsistent new) new) l (in_filter (is_inconsistent new) new l h e) in
        absurd (not_both _ (tell_below space ts old (layer_of old space) sound (is_there old space at) fits l.space (contains-from_In (inconsistent_spaces new) l.space there)) (alone_later l h)))
    | inr e ↦ e
  ]

  -- no space is a value yet, so a thread goes by what it sees
  later_none : has_spaces new ≡ false
  later_none = tell_spaceless (telling ts) old space ts (λ l. refl) plain none

  plain_before : (statements : List Statement) (other : List ℕ) (t : Thread) → thread_ready statements old other t ≡ plain_ready (seeing statements other (view old other)) t
  plain_before statements other t = spaceless_ready statements old (states_of statements old) other t none

  plain_later : (statements : List Statement) (other : List ℕ) (t : Thread) → thread_ready statements new other t ≡ plain_ready (seeing statements other (view new other)) t
  plain_later statements other t = spaceless_ready statements new (states_of statements new) other t later_none

  -- the threads of another layer can step just where they could
  same_runs : (statements : List Statement) (l : Layer) → In l new → (l.space ≡ space → ⊥) → runnable_in statements new l ≡ runnable_in statements old l
  same_runs statements l h n =
      let unseen : view new l.space ≡ view old l.space = change_unseen (telling ts) old space l.space (λ m e. refl) (apart_below space l.space (alone_later l h) n) in
      let each : ◌≡◌ {A = Thread → Readiness} (thread_ready statements new l.space) (thread_ready statements old l.space) =
      λ i t. (plain_later statements l.space t ∙ ap (λ (v : View). plain_ready (seeing statements l.space v) t) unseen ∙ sym (plain_before statements l.space t)) i in
      ap (λ (f : Thread → Readiness). if is_open l.status then map (λ (t : Thread). named l.space t.number) (filter (λ t. can_step (f t)) l.threads) else []) each

  pub other_runs : (statements : List Statement) (id : Ident) → (id.space ≡ space → ⊥) → In id (runnable statements old) → In id (runnable statements new)
  other_runs statements id n h =
      let l = In-flat_back (runnable_in statements old) id old h in
      let c = can_from statements old l.0 id l.2 in
      let own : l.0.space ≡ id.space = ap (λ (i : Ident). i.space) c.name in
      elim (edit_in (is_of space) (telling ts) old l.0 l.1) [
        | inl k ↦ In-flat (runnable_in statements new) l.0 id new k (subst (In id) (sym (same_runs statements l.0 k (λ q. n (sym own ∙ q)))) l.2)
        | inr e ↦ absurd (n (sym own ∙ space_of old space l.0 e))
      ]

  pub other_ran : (statements : List Statement) (l : Layer) (id : Ident) → In l new → is_of space l ≡ false → In id (runnable_in statements new l) → In id (runnable statements old)
  other_ran statements l id h apart i = elim (in_edit (is_of space) (telling ts) old l h) [
    | inl k ↦ (let n : l.space ≡ space → ⊥ = λ q. not_both _ (subst (λ s. list_eq s space ≡ true) (sym q) (names_equal space)) apart in
        In-flat (runnable_in statements old) l id old k (subst (In id) (same_runs statements l h n) i))
    | inr r ↦ (let own : is_of space r.0 ≡ true = (found_in (is_of space) (telling ts) old r.0 r.1).1 in
        absurd (not_both _ (ap (is_of space) r.2 ∙ own) apart))
  ]

-- Lists of the threads of all layers

-- those of one layer, where there is one
abbrev own_of : (Layer → List Ident) → Option Layer → List Ident
own_of able None = []
own_of able (Some l) = able l

module _ (able : Layer → List Ident) (comes : Ident → Bool) (space : List ℕ) where
  none_come : (ls : List Layer) → ((l : Layer) → In l ls → filter comes (able l) ≡ []) → filter comes (flat_map able ls) ≡ []
  none_come [] h = refl
  none_come (l ∷ ls) h = filter-append comes (able l) (flat_map able ls) ∙ ap₂ (λ (xs ys : List Ident). xs ++ ys) (h l (inl refl)) (none_come ls (λ m i. h m (inr i)))

  -- of which none of another space comes
  own_come : (ls : List Layer) → is_ascending (names_of ls) ≡ true → ((l : Layer) → In l ls → is_of space l ≡ false → filter comes (able l) ≡ [])
      → filter comes (flat_map able ls) ≡ filter comes (own_of able (layer_at ls space))
  own_come [] e h = refl
  own_come (l ∷ ls) e h = filter-append comes (able l) (flat_map able ls) ∙ by (is_of space l) refl (own_come ls (and-right _ _ e) (λ m i. h m (inr i)))
    where
      later : is_of space l ≡ true → (m : Layer) → In m ls → is_of space m ≡ false
      later k m i = elim (decide (is_of space m)) [
        | inl q ↦ absurd (one_of_name l ls m e i (equal_names m.space space q ∙ sym (equal_names l.space space k)))
        | inr q ↦ q
      ]

      by : (b : Bool) → is_of space l ≡ b → filter comes (flat_map able ls) ≡ filter comes (own_of able (layer_at ls space))
          → filter comes (able l) ++ filter comes (flat_map able ls) ≡ filter comes (own_of able (cond b (Some l) (layer_at ls space)))
      by true k rest = ap (λ (ys : List Ident). filter comes (able l) ++ ys) (none_come ls (λ m i. h m (inr i) (later k m i))) ∙ append-nil (filter comes (able l))
      by false k rest = ap (λ (xs : List Ident). xs ++ filter comes (flat_map able ls)) (h l (inl refl) k) ∙ rest

-- The step

module _ (statements : List Statement) (c : Configuration) (id : Ident) (queue : List Ident) (ts : List Tell) (changes : List Change) (kept : IsKept statements (record c { queue = id ∷ queue }))
    (spaceless : has_spaces c.layers ≡ false) (plain : list_any gives_space ts ≡ false) (alone : IsAlone c.layers id.space) (fits : is_consistent (view c.layers id.space ++ ts) ≡ true) where
  abbrev before : Layer
  before = layer_of c.layers id.space

  abbrev news : List Thread
  news = spawned_from before.next.thread changes

  -- the layers but for what is told
  abbrev quiet : List Layer
  quiet = in_layer id.space without_terminated (changed_all id changes (without_top id c.layers))

  abbrev told : List Layer
  told = in_layer id.space (telling ts) quiet

  at : layer_at c.layers id.space ≡ Some before
  at = (kept_head statements id queue c kept).layer

  made : MadeOf id c.layers quiet before news
  made = changes_made id changes c.layers before at (kept_head statements id queue c kept).thread

  quiet_orderly : AreOrderly quiet
  quiet_orderly = changes_orderly id changes c.layers (record { tree = kept.tree; top = kept.top; numbered = kept.numbered })

  still_spaceless : has_spaces quiet ≡ false
  still_spaceless = ap has_spaces made.left ∙ quiet_spaceless (λ l. made.after) c.layers id.space (λ l e. made.steps.tells ∙ ap (λ (m : Layer). m.tells) (one l e)) ∙ spaceless
    where
      one : (l : Layer) → layer_at c.layers id.space ≡ Some l → before ≡ l
      one l e = let first : layer_at c.layers id.space ≡ Some before = at in let k : before ≡ l = cc in k

  still_sound : IsSound quiet
  still_sound = subst IsSound (sym made.left) (quiet_sound c.layers id before made.after news at made.steps kept.sound)

  after_name : made.after.space ≡ id.space
  after_name = made.steps.space ∙ space_of c.layers id.space before at

  still_there : is_some (layer_at quiet id.space) ≡ true
  still_there = subst (λ (ls : List Layer). is_some (layer_at ls id.space) ≡ true) (sym made.left) (edited_there c.layers at)
    where
      -- a layer of the name in the place of another
      edited_there : (ls : List Layer) → layer_at ls id.space ≡ Some before → is_some (layer_at (in_layer id.space (λ l. made.after) ls) id.space) ≡ true
      edited_there [] e = cc
      edited_there (l ∷ ls) e = by (is_of id.space l) refl e (edited_there ls)
        where
          by : (b : Bool) → is_of id.space l ≡ b → cond b (Some l) (find (is_of id.space) ls) ≡ Some before
              → (layer_at ls id.space ≡ Some before → is_some (layer_at (in_layer id.space (λ m. made.after) ls) id.space) ≡ true)
              → is_some (find (is_of id.space) (cond b (made.after ∷ ls) (l ∷ in_layer id.space (λ m. made.after) ls))) ≡ true
          by true k f rest = ap (λ (b : Bool). is_some (cond b (Some made.after) (find (is_of id.space) ls))) (ap (λ s. list_eq s id.space) after_name ∙ names_equal id.space)
          by false k f rest = ap (λ (b : Bool). is_some (cond b (Some l) (find (is_of id.space) (in_layer id.space (λ m. made.after) ls)))) k ∙ rest f

  still_alone : IsAlone quiet id.space
  still_alone l h = elim (in_edit (is_of id.space) (λ m. made.after) c.layers l (subst (In l) made.left (In-from_contains quiet l h))) [
    | inl k ↦ alone l (contains-from_In c.layers l k)
    | inr r ↦ (ap (λ (m : Layer). is_properly_below id.space m.space) r.2 ∙ ap (is_properly_below id.space) after_name ∙ not_below_itself id.space)
  ]

  still_fits : is_consistent (view quiet id.space ++ ts) ≡ true
  still_fits =
      ap (λ (v : View). is_consistent (v ++ ts))
      (quiet_view without_terminated (changed_all id changes (without_top id c.layers)) id.space id.space are_quiet.terminated
      ∙ changes_view id changes (without_top id c.layers) id.space ∙ pop_view id c.layers id.space)
      ∙ fits

  told_sound : IsSound told
  told_sound = sound_later id.space ts quiet still_sound still_there still_alone still_fits still_spaceless plain

  told_orderly : AreOrderly told
  told_orderly = edit_orderly id.space (telling ts) quiet (tells_edit ts) quiet_orderly

  -- What can step where nothing is told

  abbrev went : List Ident
  went = queue ++ mover_in (Some id) (runnable statements quiet) ++ runnable_in statements quiet (record made.after { threads = news })

  went_exact : (o : Ident) → is_among went o ≡ is_among (runnable statements quiet) o
  went_exact o =
      ap (λ (q : List Ident). is_among q o) (sym after_quiet) ∙ queue_exact (runnable statements quiet) (Some id) queue o
    where
      after_quiet : queue_after (runnable statements quiet) (Some id) queue ≡ went
      after_quiet =
          subst (λ (ls : List Layer). queue_after (runnable statements ls) (Some id) queue
          ≡ queue ++ mover_in (Some id) (runnable statements ls) ++ runnable_in statements ls (record made.after { threads = news })) (sym made.left)
          (quiet_queue statements c.layers id queue before made.after news spaceless at made.steps kept.exact kept.once
          (step_new statements changes c.layers id.space (id ∷ queue) before kept.tree.ordered at (head_numbered statements id queue c kept) kept.exact))

  abbrev able_mover : List Ident
  able_mover = mover_in (Some id) (runnable statements quiet)

  abbrev able_news : List Ident
  able_news = runnable_in statements quiet (record made.after { threads = news })

  queue_ran : (o : Ident) → In o queue → In o (runnable statements quiet)
  queue_ran o h =
      among_in (runnable statements quiet) o
      (sym (went_exact o) ∙ in_among went o (In-left o (queue ++ able_mover) able_news (In-left o queue able_mover h)))

  not_mover : (o : Ident) → (o.space ≡ id.space → ⊥) → In o able_mover → ⊥
  not_mover o n h =
      let same : ◌≡◌ {A = Option Ident} (Some id) (Some o) = (mover_able (Some id) (runnable statements quiet) o h).1 in
      let is : id ≡ o = cc in
      n (ap (λ (i : Ident). i.space) (sym is))

  not_new : (o : Ident) → (o.space ≡ id.space → ⊥) → In o able_news → ⊥
  not_new o n h = let r = can_from statements quiet (record made.after { threads = news }) o h in n (ap (λ (i : Ident). i.space) (sym r.name) ∙ after_name)

  -- what can step of another space stood in the queue
  others_queued : (o : Ident) → (o.space ≡ id.space → ⊥) → In o (runnable statements quiet) → In o queue
  others_queued o n h = elim (In-cases o (queue ++ able_mover) able_news (among_in went o (went_exact o ∙ in_among (runnable statements quiet) o h))) [
    | inl k ↦ elim (In-cases o queue able_mover k) [ inl m ↦ m | inr m ↦ absurd (not_mover o n m) ]
    | inr k ↦ absurd (not_new o n k)
  ]

  -- What can step now

  abbrev ids : List Ident
  ids = runnable statements told

  abbrev stay : List Ident
  stay = staying statements told id queue

  abbrev comes : Ident → Bool
  comes o = not (is_among stay o)

  abbrev still : Ident → Bool
  still = is_able_still statements told id.space

  not_own : (o : Ident) → (o.space ≡ id.space → ⊥) → still o ≡ true
  not_own o n = elim (decide (list_eq o.space id.space)) [
    | inl k ↦ absurd (n (equal_names o.space id.space k))
    | inr k ↦ ap (λ b. not b || is_among (runnable_in statements told (layer_of told id.space)) o) k
  ]

  others_stay : (l : Layer) → In l told → is_of id.space l ≡ false → filter comes (runnable_in statements told l) ≡ []
  others_stay l h apart =
      filter_none comes (runnable_in statements told l) (λ o i.
      let r = can_from statements told l o i in
      let n : o.space ≡ id.space → ⊥ =
      λ q. not_both _ (subst (λ s. list_eq s id.space ≡ true) (sym (ap (λ (x : Ident). x.space) r.name ∙ q)) (names_equal id.space)) apart in
      let held : In o queue =
      others_queued o n (other_ran id.space ts quiet still_sound still_there still_alone still_fits still_spaceless plain statements l o h apart i) in
      ap not (in_among stay o (In-left o (filter still queue) (mover_in (Some id) ids) (in_filter still queue o held (not_own o n)))))

  told_there : layer_at told id.space ≡ Some (layer_of told id.space)
  told_there = is_there told id.space (quiet_there_told quiet still_there)
    where
      quiet_there_told : (ls : List Layer) → is_some (layer_at ls id.space) ≡ true → is_some (layer_at (in_layer id.space (telling ts) ls) id.space) ≡ true
      quiet_there_told ls e = is_found_edit (is_of id.space) (is_of id.space) (telling ts) (λ l. refl) ls ∙ e

  -- a thread of the space can step just where its layer says so
  own_runs : (o : Ident) → o.space ≡ id.space → is_among ids o ≡ is_among (runnable_in statements told (layer_of told id.space)) o
  own_runs o q = bool_eq _ _ forward back
    where
      forward : is_among ids o ≡ true → is_among (runnable_in statements told (layer_of told id.space)) o ≡ true
      forward e =
          let l = In-flat_back (runnable_in statements told) o told (among_in ids o e) in
          let c = can_from statements told l.0 o l.2 in
          let name : l.0.space ≡ (layer_of told id.space).space = ap (λ (i : Ident). i.space) c.name ∙ q ∙ sym (space_of told id.space (layer_of told id.space) told_there) in
          let same : l.0 ≡ layer_of told id.space = same_named_layer told l.0 (layer_of told id.space) told_orderly.tree.ordered l.1 (own_among told id.space told_there) name in
          in_among (runnable_in statements told (layer_of told id.space)) o (subst (λ (m : Layer). In o (runnable_in statements told m)) same l.2)

      back : is_among (runnable_in statements told (layer_of told id.space)) o ≡ true → is_among ids o ≡ true
      back e = in_among ids o (In-flat (runnable_in statements told) (layer_of told id.space) o told (own_among told id.space told_there) (among_in (runnable_in statements told (layer_of told id.space)) o e))

  filter_same : (p q : Ident → Bool) (os : List Ident) → ((o : Ident) → In o os → p o ≡ q o) → filter p os ≡ filter q os
  filter_same p q [] h = refl
  filter_same p q (o ∷ os) h =
      ap (λ (b : Bool). cond b (o ∷ filter p os) (filter p os)) (h o (inl refl))
      ∙ ap (λ (rest : List Ident). cond (q o) (o ∷ rest) rest) (filter_same p q os (λ x i. h x (inr i)))

  rest_stays : filter (is_among ids) queue ≡ filter still queue
  rest_stays = filter_same (is_among ids) still queue (λ o h. elim (decide (list_eq o.space id.space)) [
    | inl k ↦ own_runs o (equal_names o.space id.space k) ∙ sym (ap (λ b. not b || is_among (runnable_in statements told (layer_of told id.space)) o) k)
    | inr k ↦ (let n : o.space ≡ id.space → ⊥ = λ q. not_both _ (subst (λ s. list_eq s id.space ≡ true) (sym q) (names_equal id.space)) k in
        in_among ids o (other_runs id.space ts quiet still_sound still_there still_alone still_fits still_spaceless plain statements o n (queue_ran o h)) ∙ sym (not_own o n))
  ])

  own_comes : filter comes ids ≡ others_of stay (runnable_in statements told (layer_of told id.space))
  own_comes =
      own_come (runnable_in statements told) comes id.space told told_orderly.tree.ordered others_stay
      ∙ ap (λ (o : Option Layer). filter comes (own_of (runnable_in statements told) o)) told_there

  queued : queue_after ids (Some id) queue ≡ stay ++ others_of stay (runnable_in statements told (layer_of told id.space))
  queued =
      ap (λ (q : List Ident). (q ++ mover_in (Some id) ids) ++ filter (λ o. not (is_among (q ++ mover_in (Some id) ids) o)) ids) rest_stays
      ∙ ap (λ (q : List Ident). stay ++ q) own_comes

  pub tells_all : (cost : ℕ) → NoneNeeded statements told
      → ◌≡◌ {A = Turned} (settled statements (Some id) cost (record c { layers = told; queue = queue })) (
        Moved cost,
        record c { layers = told; queue = stay ++ others_of stay (runnable_in statements told (layer_of told id.space)) },
      )
  tells_all cost none =
      settled_by statements (Some id) cost id.space told told queue c.shown (sound_settles id.space told told_sound)
      ∙ ap (λ (ls : List Layer). (Moved cost, record c { layers = ls; queue = queue_after (runnable statements ls) (Some id) queue })) (nothing_fires statements told none)
      ∙ ap (λ (q : List Ident). (Moved cost, record c { layers = told; queue = q })) queued

pub tell_queue : TellQueue
tell_queue statements c id queue ts changes cost kept spaceless plain alone fits layers e none =
    let same = told_last id ts changes (without_top id c.layers) in
    let all = tells_all statements c id queue ts changes kept spaceless plain alone fits cost (subst (NoneNeeded statements) (e ∙ same) none) in
    ap (λ (ls : List Layer). settled statements (Some id) cost (record c { layers = ls; queue = queue })) same
    ∙ subst (λ (ls : List Layer). ◌≡◌ {A = Turned}
    (settled statements (Some id) cost (record c { layers = in_layer id.space (telling ts) (in_layer id.space without_terminated (changed_all id changes (without_top id c.layers))); queue = queue })) (
      Moved cost,
      record c {
        layers = ls;
        queue = staying statements ls id queue ++ others_of (staying statements ls id queue) (runnable_in statements ls (layer_of ls id.space));
      },
    )) (sym (e ∙ same)) all
