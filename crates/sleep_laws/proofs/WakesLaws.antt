-- What the queue is where it is known which threads may wake.
use Rattle.std.proofs.Common.{◌≡◌, inl, inr, ℕ, Bool, true, false, not, ◌&&◌, ◌||◌, cond, if◌then◌else◌, List, [], ◌∷◌, ◌++◌, refl, sym, ap, ap₂, subst, ◌∙◌, Option, Some, None, is_some, filter, map, unwrap_or}
use Rattle.std.specs.List.{list_any}
use Rattle.oz_base.specs.Lists.{list_eq, holds_of}
use Rattle.oz_base.specs.declared.names.Ident.{Ident}
use Rattle.oz_language.specs.declared.kernel.Statement.{Statement}
use Rattle.oz_semantics.specs.Names.{named}
use Rattle.oz_semantics.specs.Store.{is_consistent}
use Rattle.oz_semantics.specs.Configurations.{is_of, is_open, layer_at, layer_of, thread_at, frames_in, new_layer, view, in_layer, without_terminated, telling}
use Rattle.oz_semantics.specs.Sights.{can_step}
use Rattle.oz_semantics.specs.Statements.{stack_answer}
use Rattle.oz_semantics.specs.Readiness.{answer_ready}
use Rattle.oz_semantics.specs.Spaces.{sight, states_of, thread_ready}
use Rattle.oz_semantics.specs.Changes.{Change, changed_all, done}
use Rattle.oz_semantics.specs.Settling.{Turned, is_among, mover_in, runnable_in, runnable}
use Rattle.oz_semantics.specs.Steps.{without_top, went_on}
use Rattle.oz_semantics.specs.declared.value.Tell.{Tell}
use Rattle.oz_semantics.specs.declared.configuration.Thread.{Thread}
use Rattle.oz_semantics.specs.declared.configuration.Layer.{Layer}
use Rattle.oz_semantics.specs.declared.configuration.Configuration.{Configuration}
use Rattle.oz_semantics.specs.declared.outcome.Stepped.TheVariants.{Moved}
use Rattle.oz_laws.proofs.SameLaws.{In, In-from_contains, contains-from_In, In-flat, In-flat_back}
use Rattle.view_laws.specs.Needs.{NoneNeeded}
use Rattle.view_laws.specs.Spaceless.{gives_space, has_spaces}
use Rattle.view_laws.specs.Steps.{spawned_from, MadeOf, IsRising}
use Rattle.view_laws.proofs.Members.{bool_eq, decide, In-left, In-right}
use Rattle.view_laws.proofs.ListLaws.{among_in, in_among, in_filter, found_in}
use Rattle.view_laws.proofs.NameLaws.{equal_names}
use Rattle.view_laws.proofs.SightLaws.{space_of}
use Rattle.view_laws.proofs.TreeLaws.{same_named_layer}
use Rattle.view_laws.proofs.SpacelessLaws.{spaceless_ready, untold_spaceless}
use Rattle.view_laws.proofs.QueueLaws.{can_from, from_can}
use Rattle.turn_laws.specs.Orderly.{AreOrderly}
use Rattle.turn_laws.specs.Kept.{IsKept, IsThere}
use Rattle.turn_laws.specs.Telling.{IsAlone, others_of, is_able_still, staying}
use Rattle.turn_laws.proofs.OrderlyLaws.{done_orderly}
use Rattle.turn_laws.proofs.HeadLaws.{kept_head, kept_layers, mover_alone}
use Rattle.turn_laws.proofs.TellingLaws as telling_laws
use Rattle.quiet_laws.specs.Awake.{IsAble, rest_and}
use Rattle.quiet_laws.proofs.WakeLaws.{found_put}
use Rattle.quiet_laws.proofs.ToldLaws as told
use Rattle.sleep_laws.specs.Woken.{woken_among, WakesWithin, top_able, is_asked_still, rest_asked, told_queue, WakesThese, TellWakes, TellWakesAwake}
use Rattle.sleep_laws.proofs.LeftLaws.{own_name}
use Rattle.sleep_laws.proofs.WokenLaws.{woken_others}

pub filter_same : (p q : Ident → Bool) (os : List Ident) → ((o : Ident) → In o os → p o ≡ q o) → filter p os ≡ filter q os
filter_same p q [] h = refl
filter_same p q (o ∷ os) h =
    ap (λ (b : Bool). cond b (o ∷ filter p os) (filter p os)) (h o (inl refl))
    ∙ ap (λ (rest : List Ident). cond (q o) (o ∷ rest) rest) (filter_same p q os (λ x i. h x (inr i)))

pub named_in : (space : List ℕ) (numbers : List ℕ) (o : Ident) → In o (map (named space) numbers) → o.space ≡ space
named_in space [] o i = elim i [ ]
named_in space (n ∷ ns) o (inl e) = sym (ap (λ (i : Ident). i.space) e)
named_in space (n ∷ ns) o (inr i) = named_in space ns o i

-- Layers with an open space

module _ (statements : List Statement) (layers : List Layer) (space : List ℕ) (good : AreOrderly layers) (at : layer_at layers space ≡ Some (layer_of layers space))
    (opened : is_open (layer_of layers space).status ≡ true) where
  abbrev own : Layer
  own = layer_of layers space

  abbrev able : List Ident
  able = runnable_in statements layers own

  own_in : In own layers
  own_in = (found_in (is_of space) (λ (m : Layer). m) layers own at).0

  own_space : own.space ≡ space
  own_space = space_of layers space own at

  -- a thread of the space can step just where its layer says so
  own_runs : (o : Ident) → o.space ≡ space → is_among able o ≡ is_among (runnable statements layers) o
  own_runs o q = bool_eq _ _ forward back
    where
      forward : is_among able o ≡ true → is_among (runnable statements layers) o ≡ true
      forward e = in_among (runnable statements layers) o (In-flat (runnable_in statements layers) own o layers own_in (among_in able o e))

      back : is_among (runnable statements layers) o ≡ true → is_among able o ≡ true
      back e =
          let l = In-flat_back (runnable_in statements layers) o layers (among_in (runnable statements layers) o e) in
          let c = can_from statements layers l.0 o l.2 in
          let name : l.0.space ≡ own.space = ap (λ (i : Ident). i.space) c.name ∙ q ∙ sym own_space in
          let same : l.0 ≡ own = same_named_layer layers l.0 own good.tree.ordered l.1 own_in name in
          in_among able o (subst (λ (m : Layer). In o (runnable_in statements layers m)) same l.2)

  pub able_of : (t : Thread) → In t own.threads → can_step (thread_ready statements layers own.space t) ≡ true → In (named space t.number) able
  able_of t i e = from_can statements layers own (named space t.number) (record { opened = opened; thread = t; among = i; ready = e; name = ap (λ (s : List ℕ). named s t.number) own_space })

  pub numbered_others : (ids : List Ident) (numbers : List ℕ) → IsRising numbers → WakesWithin statements layers own ids numbers
      → others_of ids able ≡ others_of ids (woken_among able space numbers)
  numbered_others ids numbers rising wakes =
      woken_others statements layers own ids numbers (good.numbered own (contains-from_In layers own own_in)) rising wakes
      ∙ ap (λ (s : List ℕ). others_of ids (woken_among able s numbers)) own_space

  module _ (none : has_spaces layers ≡ false) where
    holds_frames : (o : Option Thread) → holds_of (λ (t : Thread). can_step (thread_ready statements layers space t)) o ≡ can_step (answer_ready (stack_answer (sight statements layers space) (frames_in o)))
    holds_frames None = refl
    holds_frames (Some t) = ap can_step (spaceless_ready statements layers (states_of statements layers) space t none)

    pub all_able : (number : ℕ) → is_among (runnable statements layers) (named space number) ≡ top_able statements layers (named space number)
    all_able number =
        mover_alone statements layers (named space number) good
        ∙ ap (λ (b : Bool). b && holds_of (λ (t : Thread). can_step (thread_ready statements layers space t)) (thread_at own.threads number)) opened
        ∙ holds_frames (thread_at own.threads number)

    pub one_able : (o : Ident) → o.space ≡ space → is_among able o ≡ top_able statements layers o
    one_able o q =
        own_runs o q
        ∙ subst (λ (s : List ℕ). is_among (runnable statements layers) (named s o.number) ≡ top_able statements layers (named s o.number)) (sym q) (all_able o.number)

    pub woken_able : (numbers : List ℕ) → woken_among able space numbers ≡ filter (top_able statements layers) (map (named space) numbers)
    woken_able numbers = filter_same (is_among able) (top_able statements layers) (map (named space) numbers) (λ o i. one_able o (named_in space numbers o i))

    pub rest_able : (queue : List Ident) → filter (is_able_still statements layers space) queue ≡ filter (is_asked_still statements layers space) queue
    rest_able queue = filter_same (is_able_still statements layers space) (is_asked_still statements layers space) queue (λ o i. elim (decide (list_eq o.space space)) [
      | inl k ↦ ap (λ (b : Bool). not (list_eq o.space space) || b) (one_able o (equal_names o.space space k))
      | inr k ↦ (ap (λ (b : Bool). not b || is_among able o) k ∙ sym (ap (λ (b : Bool). not b || top_able statements layers o) k))
    ])

-- The step

module _ (statements : List Statement) (c : Configuration) (id : Ident) (queue : List Ident) (ts : List Tell) (changes : List Change) (numbers : List ℕ) (kept : IsKept statements (record c { queue = id ∷ queue }))
    (alone : IsAlone c.layers id.space) (fits : is_consistent (view c.layers id.space ++ ts) ≡ true) (layers : List Layer)
    (left : layers ≡ in_layer id.space without_terminated (done id ts changes (without_top id c.layers))) (none : NoneNeeded statements layers) (rising : IsRising numbers)
    (wakes : WakesThese statements layers id queue numbers) where
  abbrev before : Layer
  before = layer_of c.layers id.space

  abbrev news : List Thread
  news = spawned_from before.next.thread changes

  abbrev quiet : List Layer
  quiet = in_layer id.space without_terminated (changed_all id changes (without_top id c.layers))

  head : IsThere statements c.layers id
  head = kept_head statements id queue c kept

  abbrev made : MadeOf id c.layers quiet before news
  made = told.made statements c id queue ts changes kept alone fits

  is_new : layers ≡ in_layer id.space (λ m. telling ts made.after) c.layers
  is_new = left ∙ told.result_new statements c id queue ts changes kept alone fits

  at_new : layer_at layers id.space ≡ Some (telling ts made.after)
  at_new = ap (λ (ls : List Layer). layer_at ls id.space) is_new ∙ found_put id.space (telling ts made.after) (own_name c.layers id before news head.layer quiet made) c.layers before head.layer

  at : layer_at layers id.space ≡ Some (layer_of layers id.space)
  at = at_new ∙ ap (λ (o : Option Layer). Some (unwrap_or o (new_layer id.space))) (sym at_new)

  opened : is_open (layer_of layers id.space).status ≡ true
  opened = ap (λ (o : Option Layer). is_open (unwrap_or o (new_layer id.space)).status) at_new ∙ ap is_open made.steps.status ∙ head.opened

  good : AreOrderly layers
  good = subst AreOrderly (sym left) (done_orderly id ts changes c.layers (kept_layers statements (record c { queue = id ∷ queue }) kept))

  abbrev ran : List Ident
  ran = runnable_in statements layers (layer_of layers id.space)

  own_ready : (t : Thread) → can_step (thread_ready statements layers (layer_of layers id.space).space t) ≡ true → can_step (thread_ready statements layers id.space t) ≡ true
  own_ready t e = subst (λ (s : List ℕ). can_step (thread_ready statements layers s t) ≡ true) (space_of layers id.space (layer_of layers id.space) at) e

  -- what can step and was in the queue stays there
  stays : (o : Ident) → In o ran → In o queue → In o (filter (is_able_still statements layers id.space) queue)
  stays o i h = in_filter (is_able_still statements layers id.space) queue o h (by (not (list_eq o.space id.space)) (is_among ran o) (in_among ran o i))
    where
      by : (a b : Bool) → b ≡ true → (a || b) ≡ true
      by true b e = refl
      by false b e = e

  -- all that can step is of these, or of the numbers
  within : (ids : List Ident) → (In id ran → In id ids) → ((o : Ident) → In o ran → In o queue → In o ids) → WakesWithin statements layers (layer_of layers id.space) ids numbers
  within ids moves rests t h e =
      let name : named (layer_of layers id.space).space t.number ≡ named id.space t.number = ap (λ (s : List ℕ). named s t.number) (space_of layers id.space (layer_of layers id.space) at) in
      let there : In (named id.space t.number) ran = able_of statements layers id.space good at opened t (In-from_contains (layer_of layers id.space).threads t h) e in
      elim (wakes t h (own_ready t e)) [
        | inl k ↦ inl (contains-from_In ids (named (layer_of layers id.space).space t.number) (subst (λ (o : Ident). In o ids) (sym name) (elim (In-from_contains (id ∷ queue) (named id.space t.number) k) [
          | inl q ↦ subst (λ (o : Ident). In o ids) q (moves (subst (λ (o : Ident). In o ran) (sym q) there))
          | inr q ↦ rests (named id.space t.number) there q
        ])))
        | inr k ↦ inr k
      ]

  others : (ids : List Ident) → (In id ran → In id ids) → ((o : Ident) → In o ran → In o queue → In o ids) → others_of ids ran ≡ others_of ids (woken_among ran id.space numbers)
  others ids moves rests = numbered_others statements layers id.space good at opened ids numbers rising (within ids moves rests)

  module _ (spaceless : has_spaces layers ≡ false) where
    untold : (has_spaces c.layers ≡ false) × (list_any gives_space ts ≡ false)
    untold =
        untold_spaceless (λ m. telling ts made.after) c.layers id.space ts
        (λ l e. let first : layer_at c.layers id.space ≡ Some before = head.layer in let k : before ≡ l = cc in ap (λ (us : List Tell). us ++ ts) (made.steps.tells ∙ ap (λ (m : Layer). m.tells) k))
        (ap is_some head.layer) (sym (ap has_spaces is_new) ∙ spaceless)

    moves_in : mover_in (Some id) (runnable statements layers) ≡ (if top_able statements layers id then id ∷ [] else [])
    moves_in = ap (λ (b : Bool). if b then id ∷ [] else []) (all_able statements layers id.space good at opened spaceless id.number)

    stay_is : staying statements layers id queue ≡ rest_asked statements layers id queue
    stay_is = ap₂ (λ (xs ys : List Ident). xs ++ ys) (rest_able statements layers id.space good at opened spaceless queue) moves_in

    mover_stays : In id ran → In id (staying statements layers id queue)
    mover_stays i =
        let e : top_able statements layers id ≡ true = sym (one_able statements layers id.space good at opened spaceless id refl) ∙ in_among ran id i in
        let joins : mover_in (Some id) (runnable statements layers) ≡ id ∷ [] = moves_in ∙ ap (λ (b : Bool). if b then id ∷ [] else []) e in
        In-right id (filter (is_able_still statements layers id.space) queue) (mover_in (Some id) (runnable statements layers)) (subst (In id) (sym joins) (inl refl))

    same_queue : staying statements layers id queue ++ others_of (staying statements layers id queue) ran ≡ told_queue statements layers id numbers queue
    same_queue =
        ap (λ (xs : List Ident). staying statements layers id queue ++ xs)
        (others (staying statements layers id queue) mover_stays (λ o i h. In-left o (filter (is_able_still statements layers id.space) queue) (mover_in (Some id) (runnable statements layers)) (stays o i h)))
        ∙ ap₂ (λ (xs ys : List Ident). xs ++ others_of xs ys) stay_is (woken_able statements layers id.space good at opened spaceless numbers)

    pub told_wakes : (cost : ℕ) → ◌≡◌ {A = Turned} (went_on statements id cost (done id ts changes (without_top id c.layers)) (record c { queue = queue }))
        (Moved cost, record c { layers = layers; queue = told_queue statements layers id numbers queue })
    told_wakes cost =
        telling_laws.tell_queue statements c id queue ts changes cost kept untold.0 untold.1 alone fits layers left none
        ∙ ap (λ (q : List Ident). (Moved cost, record c { layers = layers; queue = q })) same_queue

  pub told_wakes_awake : (cost : ℕ) → IsAble statements layers id
      → ◌≡◌ {A = Turned} (went_on statements id cost (done id ts changes (without_top id c.layers)) (record c { queue = queue })) (
        Moved cost,
        record c { layers = layers; queue = rest_and statements layers id queue ++ others_of (rest_and statements layers id queue) (woken_among ran id.space numbers) },
      )
  told_wakes_awake cost awake =
      let rest : List Ident = filter (is_able_still statements layers id.space) queue in
      told.tell_awake statements c id queue ts changes cost kept alone fits layers left none awake
      ∙ ap (λ (xs : List Ident). (Moved cost, record c { layers = layers; queue = rest_and statements layers id queue ++ xs }))
      (others (rest_and statements layers id queue) (λ i. In-right id rest (id ∷ []) (inl refl)) (λ o i h. In-left o rest (id ∷ []) (stays o i h)))

pub tell_wakes : TellWakes
tell_wakes statements c id queue ts changes numbers cost kept alone fits layers left none spaceless rising wakes =
    told_wakes statements c id queue ts changes numbers kept alone fits layers left none rising wakes spaceless cost

pub tell_wakes_awake : TellWakesAwake
tell_wakes_awake statements c id queue ts changes numbers cost kept alone fits layers left none awake rising wakes =
    told_wakes_awake statements c id queue ts changes numbers kept alone fits layers left none rising wakes cost awake
