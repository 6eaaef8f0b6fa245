-- After a step no trigger is needed that was not, but for those that have to be asked.
use Rattle.std.proofs.Common.{◌≡◌, inl, inr, ℕ, Bool, true, false, not, ◌&&◌, ◌||◌, List, [], ◌∷◌, ◌++◌, refl, sym, ap, subst, ◌∙◌, Option, Some, None, unwrap_or, map, flat_map}
use Rattle.std.specs.List.{list_any}
use Rattle.std.proofs.lemmas.Bool.{false≢true}
use Rattle.std.proofs.lemmas.List.{append-nil}
use Rattle.oz_base.specs.Lists.{list_eq, is_empty, holds_of}
use Rattle.oz_base.specs.declared.names.Ident.{Ident}
use Rattle.oz_language.specs.declared.kernel.Statement.{Statement}
use Rattle.oz_semantics.specs.Names.{is_below, named}
use Rattle.oz_semantics.specs.Configurations.{is_of, layer_at, layer_of, view, thread_at, in_layer, with_frames, without_terminated, new_layer}
use Rattle.oz_semantics.specs.Sights.{Readiness, Steps, Waits, WaitsForState, Offers, can_step, waits_of}
use Rattle.oz_semantics.specs.Spaces.{thread_ready}
use Rattle.oz_semantics.specs.Triggers.{is_needed_in, has_needed}
use Rattle.oz_semantics.specs.Changes.{Change, AddsTrigger, GivesOut, changed_all}
use Rattle.oz_semantics.specs.Steps.{without_top}
use Rattle.oz_semantics.specs.declared.configuration.Frame.{Frame}
use Rattle.oz_semantics.specs.declared.configuration.Thread.{Thread}
use Rattle.oz_semantics.specs.declared.configuration.Trigger.{Trigger}
use Rattle.oz_semantics.specs.declared.configuration.Layer.{Layer}
use Rattle.oz_semantics.specs.declared.configuration.Configuration.{Configuration}
use Rattle.oz_laws.proofs.SameLaws.{In, contains-from_In}
use Rattle.view_laws.specs.Needs.{NoneNeeded}
use Rattle.view_laws.specs.Steps.{spawned_from, MadeOf, IsNumbered}
use Rattle.view_laws.proofs.Members.{decide, not_both}
use Rattle.view_laws.proofs.ListLaws.{found_in}
use Rattle.view_laws.proofs.NameLaws.{below_itself, names_equal, equal_names, properly_by}
use Rattle.view_laws.proofs.SightLaws.{space_of}
use Rattle.view_laws.proofs.TreeLaws.{same_named_layer}
use Rattle.view_laws.proofs.StepLaws.{changes_made, stack_made}
use Rattle.need_laws.proofs.RoundLaws.{none_in}
use Rattle.edit_laws.proofs.GraftLaws.{there_of, has_of_in}
use Rattle.turn_laws.specs.Orderly.{AreOrderly}
use Rattle.turn_laws.specs.Kept.{IsKept, IsThere}
use Rattle.turn_laws.proofs.OrderlyLaws.{changes_orderly, stack_orderly, done_orderly}
use Rattle.turn_laws.proofs.HeadLaws.{own_among, kept_layers, kept_head}
use Rattle.unneeded_laws.specs.Unneeded.{waits_by, waits_at, is_waiting, started_in, AbleWaitsNot, adds_trigger, ChangesNeedNone, StackNeedsNone, added_by, AddedNeedNone, is_met, ChangesNeedMet, StackNeedsMet, ChangesNeedOwn, StackNeedsOwn, TellNeedsBelow, TellNeedsNone, RunNeedsBelow}
use Rattle.unneeded_laws.proofs.SpareLaws.{Spares, is_apart, changes_spare, stack_spares, done_spares, run_spares, outer_unneeded}
use Rattle.unneeded_laws.proofs.OwnLaws.{found_edit, changes_triggers, stack_triggers, none_pass, none_met, own_unneeded}

-- Threads that can step

able_waits : (ready : Thread → Readiness) (o : Option Thread) → holds_of (λ (t : Thread). can_step (ready t)) o ≡ true → not (is_empty (waits_by ready o)) ≡ false
able_waits ready None e = refl
able_waits ready (Some t) e = by (ready t) e
  where
    by : (r : Readiness) → can_step r ≡ true → not (is_empty (waits_of r)) ≡ false
    by Steps k = refl
    by (Waits xs) k = absurd (false≢true k)
    by (WaitsForState s) k = refl
    by (Offers offer xs) k = absurd (false≢true k)

pub able_waits_not : AbleWaitsNot
able_waits_not statements layers id e = able_waits (thread_ready statements layers id.space) (thread_at (layer_of layers id.space).threads id.number) e

-- Whose triggers have to be asked

-- the layer of a name is the one that is found
own_of_name : (layers : List Layer) (space : List ℕ) → AreOrderly layers → (l : Layer) → In l layers → is_of space l ≡ true → l ≡ layer_of layers space
own_of_name layers space good l h e =
    let name : l.space ≡ space = equal_names l.space space e in
    let at : layer_at layers space ≡ Some (layer_of layers space) = there_of (layer_at layers space) space (has_of_in layers l space h name) in
    same_named_layer layers l (layer_of layers space) good.tree.ordered h (own_among layers space at) (name ∙ sym (space_of layers space (layer_of layers space) at))

-- those of a space, where all others see what they saw
own_asked : (statements : List Statement) (space : List ℕ) (blind : List ℕ → Bool) (one other : List Layer) → Spares space blind one other → NoneNeeded statements one → AreOrderly other
    → ((l : Layer) → In l other → is_of space l ≡ false → blind l.space ≡ true) → has_needed statements other (layer_of other space) ≡ false → NoneNeeded statements other
own_asked statements space blind one other spares none good apart asked = none_pass (has_needed statements other) other (λ l h. elim (decide (is_of space l)) [
  | inl k ↦ subst (λ (m : Layer). has_needed statements other m ≡ false) (sym (own_of_name other space good l h k)) asked
  | inr k ↦ outer_unneeded statements space blind one other spares none l h k (apart l h k)
])

-- Steps that tell nothing

abbrev all_blind : List ℕ → Bool
all_blind u = true

module _ (statements : List Statement) (one other : List Layer) (id : Ident) (before : Layer) (news : List Thread) (made : MadeOf id one other before news) (none : NoneNeeded statements one)
    (at : layer_at one id.space ≡ Some before) (good : AreOrderly other) (spares : Spares id.space all_blind one other) where
  pub now : layer_at other id.space ≡ Some made.after
  now = ap (λ ls. layer_at ls id.space) made.left ∙ found_edit (is_of id.space) (λ l. made.after) one before at (ap (λ s. list_eq s id.space) made.steps.space)

  own : layer_of other id.space ≡ made.after
  own = ap (λ (o : Option Layer). unwrap_or o (new_layer id.space)) now

  in_one : In before one
  in_one = (found_in (is_of id.space) (λ (m : Layer). m) one before at).0

  numbered : IsNumbered made.after
  numbered = good.numbered made.after (contains-from_In other made.after (found_in (is_of id.space) (λ (m : Layer). m) other made.after now).0)

  quiet_own : has_needed statements other (layer_of other id.space) ≡ false → NoneNeeded statements other
  quiet_own asked = own_asked statements id.space all_blind one other spares none good (λ l h k. refl) asked

  abbrev waits : List Ident
  waits = flat_map (waits_at statements other) (id ∷ map (λ (t : Thread). named id.space t.number) news)

  quiet_unneeded : (added : List Trigger) → made.after.triggers ≡ before.triggers ++ added → list_any (is_met (view other id.space) waits) before.triggers ≡ false
      → list_any (is_needed_in statements other (layer_of other id.space)) added ≡ false → NoneNeeded statements other
  quiet_unneeded added triggers unmet fresh =
      let asked = subst (λ (l : Layer). list_any (is_needed_in statements other l) added ≡ false) own fresh in
      quiet_own
      (subst (λ (l : Layer). has_needed statements other l ≡ false) (sym own)
      (own_unneeded statements one other id before made.after news at now made.steps numbered spares added triggers (none_in (has_needed statements one) one none before in_one) unmet asked))

module _ (statements : List Statement) (c : Configuration) (id : Ident) (queue : List Ident) (kept : IsKept statements (record c { queue = id ∷ queue })) where
  head : IsThere statements c.layers id
  head = kept_head statements id queue c kept

  orderly : AreOrderly c.layers
  orderly = kept_layers statements (record c { queue = id ∷ queue }) kept

  abbrev before : Layer
  before = layer_of c.layers id.space

  module _ (changes : List Change) (layers : List Layer) (e : layers ≡ in_layer id.space without_terminated (changed_all id changes (without_top id c.layers))) where
    abbrev news : List Thread
    news = spawned_from before.next.thread changes

    changes_left : MadeOf id c.layers layers before news
    changes_left = subst (λ ls. MadeOf id c.layers ls before news) (sym e) (changes_made id changes c.layers before head.layer head.thread)

    changes_good : AreOrderly layers
    changes_good = subst AreOrderly (sym e) (changes_orderly id changes c.layers orderly)

    changes_spared : Spares id.space all_blind c.layers layers
    changes_spared = subst (Spares id.space all_blind c.layers) (sym e) (changes_spare id all_blind changes c.layers)

    changes_added : changes_left.after.triggers ≡ before.triggers ++ added_by changes
    changes_added =
        changes_triggers id changes c.layers before changes_left.after head.layer
        (subst (λ ls. layer_at ls id.space ≡ Some changes_left.after) e (now statements c.layers layers id before news changes_left kept.content head.layer changes_good changes_spared))

    changes_own : has_needed statements layers (layer_of layers id.space) ≡ false → NoneNeeded statements layers
    changes_own = quiet_own statements c.layers layers id before news changes_left kept.content head.layer changes_good changes_spared

    abbrev changes_waits : List Ident
    changes_waits = flat_map (waits_at statements layers) (id ∷ started_in id.space before changes)

    changes_unneeded : list_any (is_met (view layers id.space) changes_waits) before.triggers ≡ false → list_any (is_needed_in statements layers (layer_of layers id.space)) (added_by changes) ≡ false
        → NoneNeeded statements layers
    changes_unneeded = quiet_unneeded statements c.layers layers id before news changes_left kept.content head.layer changes_good changes_spared (added_by changes) changes_added

    -- where none is added its triggers are those before
    changes_same : added_by changes ≡ [] → (layer_of layers id.space).triggers ≡ before.triggers
    changes_same none =
        ap (λ (l : Layer). l.triggers) (own statements c.layers layers id before news changes_left kept.content head.layer changes_good changes_spared)
        ∙ changes_added ∙ ap (λ ts. before.triggers ++ ts) none ∙ append-nil before.triggers

  module _ (frames : List Frame) (layers : List Layer) (e : layers ≡ in_layer id.space without_terminated (in_layer id.space (with_frames id.number (λ rest. frames)) (without_top id c.layers))) where
    stack_left : MadeOf id c.layers layers before []
    stack_left = subst (λ ls. MadeOf id c.layers ls before []) (sym e) (stack_made id frames c.layers before head.layer head.thread)

    stack_good : AreOrderly layers
    stack_good = subst AreOrderly (sym e) (stack_orderly id frames c.layers orderly)

    stack_spared : Spares id.space all_blind c.layers layers
    stack_spared = subst (Spares id.space all_blind c.layers) (sym e) (stack_spares id all_blind frames c.layers)

    stack_added : stack_left.after.triggers ≡ before.triggers ++ []
    stack_added =
        stack_triggers id frames c.layers before stack_left.after head.layer
        (subst (λ ls. layer_at ls id.space ≡ Some stack_left.after) e (now statements c.layers layers id before [] stack_left kept.content head.layer stack_good stack_spared))

    stack_own : has_needed statements layers (layer_of layers id.space) ≡ false → NoneNeeded statements layers
    stack_own = quiet_own statements c.layers layers id before [] stack_left kept.content head.layer stack_good stack_spared

    stack_unneeded : list_any (is_met (view layers id.space) (waits_at statements layers id ++ [])) before.triggers ≡ false → NoneNeeded statements layers
    stack_unneeded unmet = quiet_unneeded statements c.layers layers id before [] stack_left kept.content head.layer stack_good stack_spared [] stack_added unmet refl

    stack_same : (layer_of layers id.space).triggers ≡ before.triggers
    stack_same =
        ap (λ (l : Layer). l.triggers) (own statements c.layers layers id before [] stack_left kept.content head.layer stack_good stack_spared) ∙ stack_added ∙ append-nil before.triggers

-- changes that add none
none_added : (changes : List Change) → list_any adds_trigger changes ≡ false → added_by changes ≡ []
none_added [] e = refl
none_added (AddsTrigger procedure variable ∷ changes) e = absurd (false≢true (sym e))
none_added (GivesOut n ∷ changes) e = none_added changes e
none_added (change ∷ changes) e = none_added changes e

pub added_need_none : AddedNeedNone
added_need_none statements c id queue changes kept layers e silent fresh =
    changes_unneeded statements c id queue kept changes layers e
    (none_met (view layers id.space) (waits_at statements layers) (id ∷ started_in id.space (layer_of c.layers id.space) changes) (layer_of c.layers id.space).triggers silent) fresh

pub changes_need_none : ChangesNeedNone
changes_need_none statements c id queue changes kept quiet layers e silent =
    added_need_none statements c id queue changes kept layers e silent (ap (list_any (is_needed_in statements layers (layer_of layers id.space))) (none_added changes quiet))

pub changes_need_met : ChangesNeedMet
changes_need_met statements c id queue changes kept quiet layers e unmet =
    let none = none_added changes quiet in
    changes_unneeded statements c id queue kept changes layers e
    (ap (list_any (is_met (view layers id.space) (flat_map (waits_at statements layers) (id ∷ started_in id.space (layer_of c.layers id.space) changes)))) (sym (changes_same statements c id queue kept changes layers e none)) ∙ unmet)
    (ap (list_any (is_needed_in statements layers (layer_of layers id.space))) none)

pub stack_needs_met : StackNeedsMet
stack_needs_met statements c id queue frames kept layers e unmet =
    stack_unneeded statements c id queue kept frames layers e
    (ap (λ (xs : List Ident). list_any (is_met (view layers id.space) xs) (layer_of c.layers id.space).triggers) (append-nil (waits_at statements layers id))
    ∙ ap (list_any (is_met (view layers id.space) (waits_at statements layers id))) (sym (stack_same statements c id queue kept frames layers e)) ∙ unmet)

pub stack_needs_none : StackNeedsNone
stack_needs_none statements c id queue frames kept layers e silent =
    stack_unneeded statements c id queue kept frames layers e (none_met (view layers id.space) (waits_at statements layers) (id ∷ []) (layer_of c.layers id.space).triggers (alone (is_waiting statements layers id) silent))
  where
    alone : (b : Bool) → b ≡ false → (b || false) ≡ false
    alone true k = k
    alone false k = refl

pub changes_need_own : ChangesNeedOwn
changes_need_own statements c id queue changes kept layers e asked = changes_own statements c id queue kept changes layers e asked

pub stack_needs_own : StackNeedsOwn
stack_needs_own statements c id queue frames kept layers e asked = stack_own statements c id queue kept frames layers e asked

-- Steps that tell something

not_below_own : (space : List ℕ) (l : Layer) → is_below space l.space ≡ false → is_of space l ≡ false
not_below_own space l e = elim (decide (is_of space l)) [
  | inl k ↦ absurd (not_both _ (subst (λ s. is_below space s ≡ true) (sym (equal_names l.space space k)) (below_itself space)) e)
  | inr k ↦ k
]

false_behind : (a b : Bool) → a ≡ true → (a && b) ≡ false → b ≡ false
false_behind true b k f = f
false_behind false b k f = absurd (false≢true k)

pub tell_needs_below : TellNeedsBelow
tell_needs_below statements c id queue ts changes kept layers e asked =
    let spares = subst (Spares id.space (is_apart id.space) c.layers) (sym e) (done_spares id ts changes c.layers) in
    none_pass (has_needed statements layers) layers (λ l h. elim (decide (is_below id.space l.space)) [
      | inl k ↦ false_behind (is_below id.space l.space) (has_needed statements layers l) k (none_in (λ (m : Layer). is_below id.space m.space && has_needed statements layers m) layers asked l h)
      | inr k ↦ outer_unneeded statements id.space (is_apart id.space) c.layers layers spares kept.content l h (not_below_own id.space l k) (ap not k)
    ])

pub tell_needs_none : TellNeedsNone
tell_needs_none statements c id queue ts changes kept alone layers e asked =
    own_asked statements id.space (is_apart id.space) c.layers layers spares kept.content
    (subst AreOrderly (sym e) (done_orderly id ts changes c.layers (kept_layers statements (record c { queue = id ∷ queue }) kept))) apart asked
  where
    spares : Spares id.space (is_apart id.space) c.layers layers
    spares = subst (Spares id.space (is_apart id.space) c.layers) (sym e) (done_spares id ts changes c.layers)

    -- none but its own is below it
    apart : (l : Layer) → In l layers → is_of id.space l ≡ false → is_apart id.space l.space ≡ true
    apart l h k = elim (decide (is_below id.space l.space)) [
      | inl below ↦ (let other : id.space ≡ l.space → ⊥ = λ q. not_both _ (subst (λ s. list_eq s id.space ≡ true) q (names_equal id.space)) k in
          absurd (not_both _ (properly_by id.space l.space below other) (alone l (contains-from_In c.layers l (spares.outer l h k)))))
      | inr off ↦ ap not off
    ]

-- Runs of propagators

pub run_needs_below : RunNeedsBelow
run_needs_below statements c space v p ts kept layers e asked =
    let spares = subst (Spares space (is_apart space) c.layers) (sym e) (run_spares space v p ts c.layers) in
    none_pass (has_needed statements layers) layers (λ l h. elim (decide (is_below space l.space)) [
      | inl k ↦ false_behind (is_below space l.space) (has_needed statements layers l) k (none_in (λ (m : Layer). is_below space m.space && has_needed statements layers m) layers asked l h)
      | inr k ↦ outer_unneeded statements space (is_apart space) c.layers layers spares kept.content l h (not_below_own space l k) (ap not k)
    ])
