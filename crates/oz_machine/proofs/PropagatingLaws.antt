-- The run of a propagator that is due.
use Rattle.std.proofs.Common.{◌≡◌, ◌∙◌, ℕ, ◌<◌, ◌≤◌, true, List, [], length, get_or, Some, refl, sym, ap, subst, arith}
use Rattle.std.specs.Prelude.{position, slice_get, is_some}
use Rattle.std.proofs.lemmas.Option.{get_or_from_slice_get}
use Rattle.oz_base.specs.declared.interval.Interval.{Interval}
use Rattle.oz_language.specs.declared.kernel.Kernel.{Kernel}
use Rattle.oz_semantics.specs.Store.{View}
use Rattle.oz_semantics.specs.Configurations.{is_of, view, in_layer, layer_at, layer_of, telling, giving_out}
use Rattle.oz_semantics.specs.Exceptions.{raise_term, new_term_tells}
use Rattle.oz_semantics.specs.declared.outcome.RaiseKind.{RaiseKind}
use Rattle.edit_laws.proofs.GraftLaws.{there_of}
use Rattle.view_laws.specs.Trees.{IsTree}
use Rattle.view_laws.proofs.TreeLaws.{change_tree}
use Rattle.oz_semantics.specs.Propagation.{is_due, noted, noting, run_of, after_run}
use Rattle.oz_semantics.specs.Schedule.{least_due, after_run_of, turn_of, turn}
use Rattle.oz_semantics.specs.Settling.{Turned, without_inconsistent, with_raised}
use Rattle.oz_semantics.specs.declared.value.Tell.{Tell}
use Rattle.oz_semantics.specs.declared.configuration.Propagator.{Propagator}
use Rattle.oz_semantics.specs.declared.configuration.Layer.{Layer}
use Rattle.settle_laws.specs.Settles.{Settles}
use Rattle.settle_laws.proofs.EditLaws.{are_quiet, edits_join, term_settles}
use Rattle.settle_laws.proofs.SettleLaws.{quiet_settles, tell_settles, keeps_own}
use Rattle.space_core.specs.Levels.{ToldTo}
use Rattle.stability.specs.Due.{IsLeastDue}
use Rattle.stability.specs.declared.due.DuePropagator.{DuePropagator}
use Rattle.oz_machine.specs.declared.course.Due.TheVariants.{Nobody}
use Rattle.oz_machine.specs.declared.course.Course.{Course}
use Rattle.oz_machine.specs.Courses.{config_of}
use Rattle.oz_acts.proofs.PlaceLaws.{place_some}
use Rattle.oz_machine.specs.Propagating.{as_it_is, fallible}
use Rattle.oz_machine.proofs.FallibleLaws.{none_failed, told_fallible}
use Rattle.oz_machine.specs.Turns.{cost_of}
use Rattle.view_laws.proofs.ListLaws.{found_in}
use Rattle.oz_machine.proofs.DoingLaws.{settled_seen}
use Rattle.oz_machine.proofs.QuietLaws.{edited_at}
use Rattle.oz_machine.proofs.TurnLaws.{run_dear}

-- The least propagator that is due

module _ (layers : List Layer) (due : DuePropagator) (h : IsLeastDue layers due) (l : Layer) (p : Propagator) (least : least_due layers ≡ Some (l, p)) where
  same_due : ◌≡◌ {A = Layer × Propagator} (h.layer, h.propagator) (l, p)
  same_due = same (sym h.least ∙ least)
    where
      same : {a b : Layer × Propagator} → Some a ≡ Some b → a ≡ b
      same e = cc

  pub due_layer : h.layer ≡ l
  due_layer = ap (λ (q : Layer × Propagator). q.0) same_due

  pub due_propagator : h.propagator ≡ p
  due_propagator = ap (λ (q : Layer × Propagator). q.1) same_due

  -- what is said of what is read at its places
  pub due_read : (says : View → Propagator → Type 0) (store : View) (x : Propagator) → says store x → store ≡ view layers h.layer.space → x ≡ h.propagator → says (view layers l.space) p
  due_read says store x said sees is =
      subst (says (view layers l.space)) (is ∙ due_propagator)
      (subst (λ (v : View). says v x) (sees ∙ ap (λ (m : Layer). view layers m.space) due_layer) said)

-- the propagator that is read at its place is it
pub read_due : (layers : List Layer) (due : DuePropagator) (h : IsLeastDue layers due) (ps : List Propagator) (x : Propagator) → ps ≡ h.layer.propagators → x ≡ get_or ps due.index x → x ≡ h.propagator
read_due layers due h ps x e read = read ∙ ap (λ (qs : List Propagator). get_or qs due.index x) e ∙ get_or_from_slice_get h.layer.propagators due.index h.propagator x h.first.item

-- the turn is its run
pub turn_runs : (k : Kernel) (now : Course) (l : Layer) (p : Propagator) → now.due ≡ Nobody → least_due now.levels ≡ Some (l, p)
    → turn k (config_of k.statements now) ≡ after_run_of k.statements l p (as_it_is now) (run_of (view now.levels l.space) p)
turn_runs k now l p nobody least = ap (turn k) (settled_seen k.statements now nobody) ∙ ap (turn_of k (as_it_is now)) least

pub dear_run : (k : Kernel) (now : Course) (due : DuePropagator) (fuel : ℕ) → now.due ≡ Nobody → IsLeastDue now.levels due → fuel ≡ 0 → fuel < cost_of (turn k (config_of k.statements now)).0
dear_run k now due fuel nobody h zero =
    let dear : 1 ≤ cost_of (turn k (config_of k.statements now)).0
    = subst (λ (t : Turned). 1 ≤ cost_of t.0) (sym (turn_runs k now h.layer h.propagator nobody h.least)) (run_dear k.statements h.layer h.propagator (as_it_is now) (run_of (view now.levels h.layer.space) h.propagator)) in
    omega (arith, dear, zero)

-- A run that was made

-- the space was told what is left of the domains, and then the run was noted
pub run_settles : (space : List ℕ) (l : Layer) (index : ℕ) (v : View) (ds : List (List Interval)) (ts : List Tell) (old told new : List Layer) → layer_at old space ≡ Some l
    → position (is_due v) l.propagators ≡ Some index → ToldTo space ts old told
    → ((view : View) (m : Layer) → layer_at told space ≡ Some m → position (is_due view) m.propagators ≡ Some index → new ≡ in_layer space (noting view ds) told)
    → Settles space (in_layer space (λ (m : Layer). telling ts (noting v ds m)) old) new
run_settles space l index v ds ts old told new there first tells notes =
    let settles : Settles space (in_layer space (telling ts) old) told = tell_settles space ts old told tells.below tells.left in
    let own = keeps_own space (in_layer space (telling ts) old) told settles in
    let at : layer_at told space ≡ Some (telling ts l) = own.at ∙ edited_at space (telling ts) l old there ((found_in (is_of space) (λ (m : Layer). m) old l there).1) in
    let made : new ≡ in_layer space (noting v ds) told = notes v (telling ts l) at first in
    subst (λ (ls : List Layer). Settles space ls new) (edits_join space (noting v ds) (telling ts) old (λ m. refl))
    (subst (Settles space (in_layer space (noting v ds) (in_layer space (telling ts) old))) (sym made)
    (quiet_settles (noting v ds) space (in_layer space (telling ts) old) told (are_quiet.noted v ds) settles))

-- the run is noted where the space stands
pub placed_noted : (old new : List Layer) (space : List ℕ) (place index : ℕ) (ds : List (List Interval)) → Some place ≡ position (is_of space) old
    → ((view : View) (m : Layer) → slice_get old place ≡ Some m → position (is_due view) m.propagators ≡ Some index → new ≡ in_layer m.space (noting view ds) old)
    → (view : View) (l : Layer) → layer_at old space ≡ Some l → position (is_due view) l.propagators ≡ Some index → new ≡ in_layer space (noting view ds) old
placed_noted old new space place index ds e notes view l there first =
    let p = place_some old space place e in
    let same : p.0 ≡ l = some_same (sym p.1.found ∙ there) in
    notes view p.0 p.1.item (ap (λ (m : Layer). position (is_due view) m.propagators) same ∙ first) ∙ ap (λ (s : List ℕ). in_layer s (noting view ds) old) p.1.name
  where
    some_same : {x y : Layer} → Some x ≡ Some y → x ≡ y
    some_same k = cc

-- what is left, where the space is told what the run of the least propagator that is due comes to
pub narrowed_settles : (layers : List Layer) (due : DuePropagator) → IsLeastDue layers due → (l : Layer) (p : Propagator) → least_due layers ≡ Some (l, p) → (space : List ℕ) (ds : List (List Interval)) (ts : List Tell) (told new : List Layer)
    → space ≡ l.space → ds ≡ noted (view layers l.space) p.variables → ToldTo space ts layers told
    → ((view : View) (m : Layer) → layer_at told space ≡ Some m → position (is_due view) m.propagators ≡ Some due.index → new ≡ in_layer space (noting view ds) told)
    → Settles l.space (in_layer l.space (after_run (view layers l.space) p ts) layers) new
narrowed_settles layers due h l p least space ds ts told new name seen tells notes =
    let same = due_layer layers due h l p least in
    let v : View = view layers l.space in
    let there : layer_at layers l.space ≡ Some l = subst (λ (m : Layer). layer_at layers m.space ≡ Some m) same h.there.found in
    let first : position (is_due v) l.propagators ≡ Some due.index = subst (λ (m : Layer). position (is_due (view layers m.space)) m.propagators ≡ Some due.index) same h.first.at in
    subst (λ (es : List (List Interval)). Settles l.space (in_layer l.space (λ (m : Layer). telling ts (noting v es m)) layers) new) seen
    (run_settles l.space l due.index v ds ts layers told new there first (subst (λ (s : List ℕ). ToldTo s ts layers told) name tells)
    (subst (λ (s : List ℕ). (view : View) (m : Layer) → layer_at told s ≡ Some m → position (is_due view) m.propagators ≡ Some due.index → new ≡ in_layer s (noting view ds) told) name notes))

-- The top that fails

-- what it is told leaves all that was there, where as many spaces may fail as before
pub top_told : (layers told new : List Layer) (ts : List Tell) (count : ℕ) (kind : RaiseKind) → IsTree layers → is_some (layer_at layers []) ≡ true → ts ≡ new_term_tells (layer_of layers []) (raise_term kind)
    → count ≡ length (raise_term kind) → ToldTo [] ts layers told → fallible told ≡ fallible layers → new ≡ in_layer [] (giving_out count) told → new ≡ with_raised kind [] layers
top_told layers told new ts count kind tree there are counted tells as_many gives =
    let before : List Layer = in_layer [] (telling ts) layers in
    let kept : without_inconsistent before ≡ before =
    none_failed before (change_tree [] (telling ts) layers (λ l e. (refl, omega arith)) tree) (ap fallible (sym tells.left) ∙ as_many ∙ sym (told_fallible [] ts layers)) in
    gives ∙ ap (in_layer [] (giving_out count)) (tells.left ∙ kept)
    ∙ ap (λ (us : List Tell). in_layer [] (giving_out count) (in_layer [] (telling us) layers)) are
    ∙ ap (λ n. in_layer [] (giving_out n) (in_layer [] (telling (new_term_tells (layer_of layers []) (raise_term kind))) layers)) counted
    ∙ term_settles [] (raise_term kind) layers (layer_of layers []) (there_of (layer_at layers []) [] there)
