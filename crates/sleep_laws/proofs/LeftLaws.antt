-- What a step leaves of the threads of its space, and of what that sees.
use Rattle.std.proofs.Common.{◌≡◌, inl, inr, ℕ, true, not, List, [], ◌∷◌, ◌++◌, refl, sym, ap, subst, ◌∙◌, Contains, Option, Some, is_some, unwrap_or}
use Rattle.oz_base.specs.Lists.{list_eq, is_empty}
use Rattle.oz_base.specs.declared.names.Ident.{Ident}
use Rattle.oz_language.specs.declared.kernel.Statement.{Statement}
use Rattle.oz_semantics.specs.Store.{IsConsistent, is_consistent}
use Rattle.oz_semantics.specs.Configurations.{is_of, is_numbered, layer_at, layer_of, new_layer, view, in_layer, in_thread, with_frames, without_terminated, telling}
use Rattle.oz_semantics.specs.Changes.{Change, changed_all, done}
use Rattle.oz_semantics.specs.Steps.{without_top}
use Rattle.oz_semantics.specs.declared.value.Tell.{Tell}
use Rattle.oz_semantics.specs.declared.configuration.Thread.{Thread}
use Rattle.oz_semantics.specs.declared.configuration.Layer.{Layer}
use Rattle.oz_semantics.specs.declared.configuration.Configuration.{Configuration}
use Rattle.oz_laws.proofs.SameLaws.{In, In-from_contains, contains-from_In, eq-true}
use Rattle.oz_laws.proofs.StoreLaws.{tests_consistent}
use Rattle.view_laws.specs.Sights.{SeesBesides}
use Rattle.view_laws.specs.Queues.{StepsTo}
use Rattle.view_laws.specs.Steps.{spawned_from, MadeOf}
use Rattle.view_laws.proofs.Members.{In-cases, has-left, has-right}
use Rattle.view_laws.proofs.ListLaws.{filter_in, in_edit, found_in}
use Rattle.view_laws.proofs.NameLaws.{names_equal, below_itself}
use Rattle.view_laws.proofs.SightLaws.{space_of, quiet_unseen, tell_seen}
use Rattle.view_laws.proofs.EqualLaws.{consistent_less}
use Rattle.view_laws.proofs.StepLaws.{changes_made, stack_made}
use Rattle.turn_laws.specs.Kept.{IsKept, IsThere}
use Rattle.turn_laws.specs.Telling.{IsAlone}
use Rattle.turn_laws.proofs.HeadLaws.{kept_head}
use Rattle.quiet_laws.proofs.WakeLaws.{found_put}
use Rattle.quiet_laws.proofs.ToldLaws as told
use Rattle.sleep_laws.specs.Asleep.{IsOf, LeavesTold, LeavesThreads, ToldLeft, QuietLeft, StackLeft}

-- The threads that a step leaves in its layer

left_of : (number : ℕ) (before after : Layer) (news : List Thread) → StepsTo number before after news → (t : Thread) → Contains after.threads t → IsOf number news before t
left_of number before after news steps t c =
    let change : Thread → Thread = λ u. record u { frames = steps.change u.frames } in
    let all : List Thread = in_thread number change before.threads ++ news in
    let kept = (filter_in (λ (u : Thread). not (is_empty u.frames)) all t (subst (λ (ts : List Thread). In t ts) steps.threads (In-from_contains after.threads t c))).0 in
    elim (In-cases t (in_thread number change before.threads) news kept) [
      | inl k ↦ elim (in_edit (is_numbered number) change before.threads t k) [
        | inl i ↦ inr (inr (contains-from_In before.threads t i))
        | inr r ↦ inl (ap (λ (u : Thread). u.number) r.2 ∙ eq-true r.0.number number (found_in (is_numbered number) change before.threads r.0 r.1).1)
      ]
      | inr k ↦ inr (inl (contains-from_In news t k))
    ]

module _ (layers : List Layer) (id : Ident) (before : Layer) (news : List Thread) (at : layer_at layers id.space ≡ Some before) where
  pub own_name : (result : List Layer) → (made : MadeOf id layers result before news) → is_of id.space made.after ≡ true
  own_name result made = subst (λ s. list_eq s id.space ≡ true) (sym (made.steps.space ∙ space_of layers id.space before at)) (names_equal id.space)

  -- a layer that is put in the place of the one that was there
  pub put_left : (l : Layer) → is_of id.space l ≡ true → layer_of (in_layer id.space (λ m. l) layers) id.space ≡ l
  put_left l own = ap (λ (o : Option Layer). unwrap_or o (new_layer id.space)) (found_put id.space l own layers before at)

  one : (l : Layer) → layer_at layers id.space ≡ Some l → before ≡ l
  one l e = let first : layer_at layers id.space ≡ Some before = at in let k : before ≡ l = cc in k

  quiet_left : (result : List Layer) → MadeOf id layers result before news → layer_of layers id.space ≡ before → LeavesThreads id news layers result
  quiet_left result made own = record {
    threads = λ t c.
        let there : layer_of result id.space ≡ made.after = ap (λ (ls : List Layer). layer_of ls id.space) made.left ∙ put_left made.after (own_name result made) in
        subst (λ (l : Layer). IsOf id.number news l t) (sym own)
        (left_of id.number before made.after news made.steps t (subst (λ (l : Layer). Contains l.threads t) there c));
    seen =
        ap (λ (ls : List Layer). view ls id.space) made.left
        ∙ quiet_unseen (λ m. made.after) layers id.space id.space (λ l e. made.steps.space ∙ ap (λ (m : Layer). m.space) (one l e)) (λ l e. made.steps.tells ∙ ap (λ (m : Layer). m.tells) (one l e));
  }

pub changes_left : QuietLeft
changes_left statements c id queue changes kept =
    let head = kept_head statements id queue c kept in
    quiet_left c.layers id (layer_of c.layers id.space) (spawned_from (layer_of c.layers id.space).next.thread changes) head.layer
    (in_layer id.space without_terminated (changed_all id changes (without_top id c.layers))) (changes_made id changes c.layers (layer_of c.layers id.space) head.layer head.thread) refl

pub stack_left : StackLeft
stack_left statements c id queue frames kept =
    let head = kept_head statements id queue c kept in
    quiet_left c.layers id (layer_of c.layers id.space) [] head.layer
    (in_layer id.space without_terminated (in_layer id.space (with_frames id.number (λ rest. frames)) (without_top id c.layers))) (stack_made id frames c.layers (layer_of c.layers id.space) head.layer head.thread) refl

-- Where something is told

-- what is seen besides was told
besides_consistent : (before after ts : List Tell) → SeesBesides before after ts → is_consistent (before ++ ts) ≡ true → IsConsistent after
besides_consistent before after ts sees fits =
    consistent_less after (before ++ ts) (λ t c. elim (sees.only t c) [ inl k ↦ has-left t before ts k | inr k ↦ has-right t before ts k ]) ((tests_consistent (before ++ ts)).0 fits)

module _ (statements : List Statement) (c : Configuration) (id : Ident) (queue : List Ident) (ts : List Tell) (changes : List Change) (kept : IsKept statements (record c { queue = id ∷ queue }))
    (alone : IsAlone c.layers id.space) (fits : is_consistent (view c.layers id.space ++ ts) ≡ true) where
  abbrev before : Layer
  before = layer_of c.layers id.space

  abbrev result : List Layer
  result = in_layer id.space without_terminated (done id ts changes (without_top id c.layers))

  abbrev quiet : List Layer
  quiet = in_layer id.space without_terminated (changed_all id changes (without_top id c.layers))

  head : IsThere statements c.layers id
  head = kept_head statements id queue c kept

  abbrev made : MadeOf id c.layers quiet before (spawned_from before.next.thread changes)
  made = told.made statements c id queue ts changes kept alone fits

  is_new : result ≡ in_layer id.space (λ m. telling ts made.after) c.layers
  is_new = told.result_new statements c id queue ts changes kept alone fits

  same : (l : Layer) → layer_at c.layers id.space ≡ Some l → before ≡ l
  same l e = let first : layer_at c.layers id.space ≡ Some before = head.layer in let k : before ≡ l = cc in k

  there : layer_of result id.space ≡ telling ts made.after
  there = ap (λ (ls : List Layer). layer_of ls id.space) is_new ∙ put_left c.layers id before (spawned_from before.next.thread changes) head.layer (telling ts made.after) (own_name c.layers id before (spawned_from before.next.thread changes) head.layer quiet made)

  sees : SeesBesides (view c.layers id.space) (view result id.space) ts
  sees =
      subst (λ (ls : List Layer). SeesBesides (view c.layers id.space) (view ls id.space) ts) (sym is_new)
      (tell_seen (λ m. telling ts made.after) c.layers id.space id.space ts (λ l e. made.steps.space ∙ ap (λ (m : Layer). m.space) (same l e))
      (λ l e. ap (λ (us : List Tell). us ++ ts) (made.steps.tells ∙ ap (λ (m : Layer). m.tells) (same l e))) (ap is_some head.layer) (below_itself id.space))

  pub told_leaves : LeavesTold id ts (spawned_from before.next.thread changes) c.layers result
  told_leaves = record {
    threads = λ t h. left_of id.number before made.after (spawned_from before.next.thread changes) made.steps t (subst (λ (l : Layer). Contains l.threads t) there h);
    seen = sees;
    consistent = besides_consistent (view c.layers id.space) (view result id.space) ts sees fits;
  }

pub told_left : ToldLeft
told_left statements c id queue ts changes kept alone fits = told_leaves statements c id queue ts changes kept alone fits
