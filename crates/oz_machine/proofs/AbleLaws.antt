-- A step after which its thread can step still: no thread of another space wakes, also where spaces are values.
use Rattle.std.proofs.Common.{Contains, arith, ◌≡◌, ◌⊎◌, inl, inr, ℕ, Bool, true, false, not, ◌&&◌, ◌||◌, if◌then◌else◌, List, [], ◌∷◌, ◌++◌, refl, sym, ap, subst, ◌∙◌, Option, Some, None}
use Rattle.std.specs.Prelude.{option_to_list, unwrap_or}
use Rattle.std.specs.List.{list_any, list_all}
use Rattle.std.proofs.lemmas.List.{append-nil}
use Rattle.oz_base.specs.Lists.{list_eq}
use Rattle.oz_base.specs.Names.{ident_eq}
use Rattle.oz_base.specs.declared.names.Ident.{Ident}
use Rattle.oz_base.specs.ListLaws.{list_eq-equivalence}
use Rattle.oz_language.specs.declared.kernel.Statement.{Statement}
use Rattle.oz_semantics.specs.Names.{named}
use Rattle.oz_semantics.specs.Store.{is_consistent}
use Rattle.oz_semantics.specs.Configurations.{is_of, is_numbered, layer_at, layer_of, new_layer, is_open, view, in_layer, with_frames, without_terminated}
use Rattle.oz_semantics.specs.Sights.{can_step}
use Rattle.oz_semantics.specs.Spaces.{thread_ready}
use Rattle.oz_semantics.specs.Changes.{Change, changed_all, done}
use Rattle.oz_semantics.specs.Triggers.{is_needed_in, has_needed}
use Rattle.oz_semantics.specs.Settling.{Turned, is_among, runnable_in, runnable}
use Rattle.oz_semantics.specs.Steps.{went_on, without_top}
use Rattle.oz_semantics.specs.declared.value.Tell.{Tell}
use Rattle.oz_semantics.specs.declared.configuration.Frame.{Frame}
use Rattle.oz_semantics.specs.declared.configuration.Thread.{Thread}
use Rattle.oz_semantics.specs.declared.configuration.Layer.{Layer}
use Rattle.oz_semantics.specs.declared.configuration.Configuration.{Configuration}
use Rattle.oz_semantics.specs.declared.outcome.Stepped.TheVariants.{Moved}
use Rattle.oz_laws.proofs.SameLaws.{In, and-left, and-right, ident_eq-refl}
use Rattle.view_laws.specs.Needs.{NoneNeeded}
use Rattle.view_laws.specs.Steps.{MadeOf}
use Rattle.view_laws.proofs.Members.{In-right}
use Rattle.view_laws.proofs.ListLaws.{in_among, filter_none}
use Rattle.view_laws.proofs.NumberLaws.{step_new}
use Rattle.view_laws.proofs.StepLaws.{changes_made}
use Rattle.settle_laws.specs.Turns.{HasExact}
use Rattle.settle_laws.proofs.TurnLaws.{settled_exact}
use Rattle.turn_laws.specs.Telling.{IsAlone, others_of}
use Rattle.turn_laws.specs.Kept.{IsThere}
use Rattle.turn_laws.proofs.HeadLaws.{kept_head, head_numbered}
use Rattle.need_laws.proofs.RoundLaws.{none_there}
use Rattle.unneeded_laws.specs.Unneeded.{adds_trigger}
use Rattle.unneeded_laws.proofs.UnneededLaws.{tell_needs_none}
use Rattle.quiet_laws.specs.Unknown.{given_by, given_in, AreUnknown}
use Rattle.quiet_laws.specs.Awake.{rest_and}
use Rattle.quiet_laws.proofs.UnknownLaws.{none_given, none_below}
use Rattle.quiet_laws.proofs.AwakeLaws.{able_runs}
use Rattle.quiet_laws.proofs.QuietLaws.{changes_awake, stack_awake}
use Rattle.quiet_laws.proofs.ToldLaws.{tell_awake}
use Rattle.space_core.specs.Telling.{has_below}
use Rattle.oz_acts.proofs.PlaceLaws.{layer_of_name}
use Rattle.oz_machine.specs.Quiet.{top_steps, able_in, able_of, AreAwake, IsAwakeAlone, IsHead, IsPlain, LeavesOthers, LetsNoneStep, names_in, news_of}
use Rattle.oz_machine.proofs.QuietLaws.{alone_among, alone_in, among_append, edited_at, none_named, none_open, one_named, or_false, quiet_turn, unwound_turn}
use Rattle.oz_machine.proofs.StayLaws.{queue_stays}
use Rattle.oz_machine.proofs.AwakeLaws.{all_awake, quiet_content, spaceless_content, unwound_content}
use Rattle.oz_machine.proofs.ToldLaws.{IsOpenAt, alone_there, changes_below, itself, open_done, pop_below, same_below, told_turn}

-- What is given out

-- no space below can know of it: there is none, or nothing is given out
given_unknown : (statements : List Statement) (layers : List Layer) (space : List ℕ) (changes : List Change) (gives : Bool) → (gives ≡ false → given_by changes ≡ 0)
    → (has_below layers space ≡ false → IsAlone layers space) → (gives && has_below layers space) ≡ false → AreUnknown statements layers space (given_in (layer_of layers space) changes)
given_unknown statements layers space changes true none alone e = none_below statements layers space (given_in (layer_of layers space) changes) (alone e)
given_unknown statements layers space changes false none alone e = none_given statements layers space changes (none refl)

-- a step brings no space
made_below : (id : Ident) (changes : List Change) (layers : List Layer) → has_below (in_layer id.space without_terminated (changed_all id changes (without_top id layers))) id.space ≡ has_below layers id.space
made_below id changes layers =
    same_below id.space id.space without_terminated (changed_all id changes (without_top id layers)) (λ l. refl) ∙ changes_below id.space id changes (without_top id layers) ∙ pop_below id layers

-- The threads that can step

joins : (statements : List Statement) (layers : List Layer) (id : Ident) → top_steps statements layers id ≡ true → able_in statements layers id ≡ id ∷ []
joins statements layers id e = ap (λ (b : Bool). if b then id ∷ [] else []) e

one_true : (a b c : Bool) → (a || b) ≡ c → a ≡ false → c ≡ true → b ≡ true
one_true true b c e h k = absurd (cc)
one_true false b c e h k = e ∙ k

-- A step that made changes

module _ (statements : List Statement) (id : Ident) (layers new : List Layer) (queue : List Ident) (shown : List (List ℕ)) (changes : List Change) (cost : ℕ) (head : IsHead statements id layers queue shown)
    (left : new ≡ in_layer id.space without_terminated (changed_all id changes (without_top id layers))) (none : NoneNeeded statements new)
    (unknown : AreUnknown statements layers id.space (given_in (layer_of layers id.space) changes)) (able : top_steps statements new id ≡ true) where
  abbrev before : Layer
  before = layer_of layers id.space

  abbrev c : Configuration
  c = record { layers = layers; queue = queue; shown = shown }

  there : IsThere statements layers id
  there = kept_head statements id queue c head

  abbrev news : List Thread
  news = news_of before changes

  abbrev able_news : List Ident
  able_news = runnable_in statements new (record before { threads = news })

  abbrev steps_there : Thread → Bool
  steps_there t = can_step (thread_ready statements new before.space t)

  pub went : ◌≡◌ {A = Turned} (went_on statements id cost (changed_all id changes (without_top id layers)) (record c { queue = queue }))
      (Moved cost, record c { layers = new; queue = (queue ++ id ∷ []) ++ able_news })
  went = changes_awake statements c id queue changes cost head unknown new left none able

  exact : HasExact statements (record c { layers = new; queue = (queue ++ id ∷ []) ++ able_news })
  exact =
      settled_exact statements (Some id) cost (record c { layers = in_layer id.space without_terminated (changed_all id changes (without_top id layers)) }) cost
      (record c { layers = new; queue = (queue ++ id ∷ []) ++ able_news }) went

  made : MadeOf id layers new before news
  made = subst (λ ls. MadeOf id layers ls before news) (sym left) (changes_made id changes layers before there.layer there.thread)

  -- a thread of the space that can step by what that sees can step
  runs : (n : Ident) → n.space ≡ id.space → top_steps statements new n ≡ true → In n (runnable statements new)
  runs n e steps =
      let after = made.after in
      let own : is_of id.space after ≡ true =
      ap (λ s. list_eq s id.space) made.steps.space ∙ subst (λ s. list_eq s id.space ≡ true) (sym (layer_of_name layers id.space)) (list_eq-equivalence.refl id.space) in
      let found : layer_at new id.space ≡ Some after = ap (λ ls. layer_at ls id.space) made.left ∙ edited_at id.space (λ l. after) before layers there.layer own in
      able_runs statements new n after (ap (layer_at new) e ∙ found) (ap is_open made.steps.status ∙ there.opened) steps

  -- so one that was started joins
  one_joins : (n : Ident) (t : Thread) → news ≡ t ∷ [] → named id.space t.number ≡ n → top_steps statements new n ≡ true → able_news ≡ n ∷ []
  one_joins n t is e steps =
      let mine : named before.space t.number ≡ n = ap (λ s. named s t.number) (layer_of_name layers id.space) ∙ e in
      let single : able_news ≡ (if is_open before.status then (if steps_there t then named before.space t.number ∷ [] else []) else [])
      = ap (λ ts. runnable_in statements new (record before { threads = ts })) is ∙ alone_in (is_open before.status) steps_there before.space t in
      let alone : able_news ≡ (if is_among able_news n then n ∷ [] else [])
      = single ∙ alone_among (is_open before.status) (steps_there t) n (named before.space t.number) mine (ident_eq-refl n)
      ∙ ap (λ xs. if is_among xs n then n ∷ [] else []) (sym single) in
      let fresh : is_among (id ∷ queue) n ≡ false
      = subst (λ m. is_among (id ∷ queue) m ≡ false) e
      (step_new statements changes layers id.space (id ∷ queue) before head.tree.ordered there.layer (head_numbered statements id queue c head) head.exact t (subst (λ ts. Contains ts t) (sym is) (0, omega arith, refl))) in
      let apart = or_false (ident_eq n id) (is_among queue n) fresh in
      let old_ones : is_among (queue ++ id ∷ []) n ≡ false
      = among_append queue (id ∷ []) n ∙ ap (λ b. b || is_among (id ∷ []) n) apart.1 ∙ ap (λ b. b || false) apart.0 in
      let runs_n : is_among (runnable statements new) n ≡ true = in_among (runnable statements new) n (runs n (ap (λ (i : Ident). i.space) (sym e)) steps) in
      let counted : is_among able_news n ≡ true
      = one_true (is_among (queue ++ id ∷ []) n) (is_among able_news n) (is_among (runnable statements new) n) (sym (among_append (queue ++ id ∷ []) able_news n) ∙ exact n) old_ones runs_n in
      alone ∙ ap (λ (b : Bool). if b then n ∷ [] else []) counted

  pub news_join : (started : Option Ident) → names_in id.space news ≡ option_to_list started → list_all (top_steps statements new) (option_to_list started) ≡ true → able_news ≡ able_of statements new started
  news_join None e steps = ap (λ ts. runnable_in statements new (record before { threads = ts })) (none_named id.space news e) ∙ none_open (is_open before.status)
  news_join (Some n) e steps =
      let one = one_named id.space news n e in
      let can : top_steps statements new n ≡ true = and-left (top_steps statements new n) true steps in
      one_joins n one.0 one.1 one.2 can ∙ sym (joins statements new n can)

awake_turn : (statements : List Statement) (id : Ident) (layers old new : List Layer) (queue after : List Ident) (shown : List (List ℕ)) (changes : List Change) (started : Option Ident) (gives : Bool) (cost : ℕ)
    → IsHead statements id layers queue shown → old ≡ changed_all id changes (without_top id layers) → names_in id.space (news_of (layer_of layers id.space) changes) ≡ option_to_list started
    → list_any adds_trigger changes ≡ false → (gives ≡ false → given_by changes ≡ 0) → new ≡ in_layer id.space without_terminated old
    → AreAwake statements new id.space gives (id ∷ option_to_list started) → after ≡ (queue ++ able_in statements new id) ++ able_of statements new started
    → ◌≡◌ {A = Turned} (went_on statements id cost old (record { layers = old; queue = queue; shown = shown })) (Moved cost, record { layers = new; queue = after; shown = shown })
awake_turn statements id layers old new queue after shown changes started gives cost head is names quiet unless left awake joined =
    let result : new ≡ in_layer id.space without_terminated (changed_all id changes (without_top id layers)) = left ∙ ap (in_layer id.space without_terminated) is in
    let c : Configuration = record { layers = layers; queue = queue; shown = shown } in
    let able : top_steps statements new id ≡ true = and-left (top_steps statements new id) (list_all (top_steps statements new) (option_to_list started)) awake.able in
    let rest = and-right (top_steps statements new id) (list_all (top_steps statements new) (option_to_list started)) awake.able in
    let none : NoneNeeded statements new =
    quiet_content statements id layers old new queue shown changes started head is names quiet left (all_awake statements new (id ∷ option_to_list started) awake.able) in
    let below : (gives && has_below layers id.space) ≡ false = ap (λ (b : Bool). gives && b) (sym (ap (λ (ls : List Layer). has_below ls id.space) result ∙ made_below id changes layers)) ∙ awake.below in
    let unknown = given_unknown statements layers id.space changes gives unless (alone_there id layers) below in
    let same : (queue ++ id ∷ []) ++ runnable_in statements new (record (layer_of layers id.space) { threads = news_of (layer_of layers id.space) changes }) ≡ after
    = ap (λ (xs : List Ident). (queue ++ id ∷ []) ++ xs) (news_join statements id layers new queue shown changes cost head result none unknown able started names rest)
    ∙ ap (λ (xs : List Ident). (queue ++ xs) ++ able_of statements new started) (sym (joins statements new id able)) ∙ sym joined in
    ap (λ ls. went_on statements id cost ls (record c { layers = ls })) is
    ∙ went statements id layers new queue shown changes cost head result none unknown able
    ∙ ap (λ q. (Moved cost, record c { layers = new; queue = q })) same

-- What follows, by either

pub quiet_course : (statements : List Statement) (id : Ident) (layers old new : List Layer) (queue after : List Ident) (shown : List (List ℕ)) (changes : List Change) (started : Option Ident) (gives : Bool) (cost : ℕ)
    → IsHead statements id layers queue shown → old ≡ changed_all id changes (without_top id layers) → names_in id.space (news_of (layer_of layers id.space) changes) ≡ option_to_list started
    → list_any adds_trigger changes ≡ false → (gives ≡ false → given_by changes ≡ 0) → new ≡ in_layer id.space without_terminated old
    → LeavesOthers statements new id.space gives (id ∷ option_to_list started) → after ≡ (queue ++ able_in statements new id) ++ able_of statements new started
    → ◌≡◌ {A = Turned} (went_on statements id cost old (record { layers = old; queue = queue; shown = shown })) (Moved cost, record { layers = new; queue = after; shown = shown })
quiet_course statements id layers old new queue after shown changes started gives cost head is names quiet unless left (inl plain) joined =
    quiet_turn statements id layers old new queue after shown changes started cost head is names left
    (spaceless_content statements new (id ∷ option_to_list started) plain (quiet_content statements id layers old new queue shown changes started head is names quiet left)) plain.spaces joined
quiet_course statements id layers old new queue after shown changes started gives cost head is names quiet unless left (inr awake) joined =
    awake_turn statements id layers old new queue after shown changes started gives cost head is names quiet unless left awake joined

-- Another stack

pub unwound_course : (statements : List Statement) (id : Ident) (layers old new : List Layer) (queue after : List Ident) (shown : List (List ℕ)) (frames : List Frame) (cost : ℕ)
    → IsHead statements id layers queue shown → old ≡ in_layer id.space (with_frames id.number (λ rest. frames)) (without_top id layers)
    → new ≡ in_layer id.space without_terminated old → LeavesOthers statements new id.space false (id ∷ []) → after ≡ queue ++ able_in statements new id
    → ◌≡◌ {A = Turned} (went_on statements id cost old (record { layers = old; queue = queue; shown = shown })) (Moved cost, record { layers = new; queue = after; shown = shown })
unwound_course statements id layers old new queue after shown frames cost head is left (inl plain) joined =
    unwound_turn statements id layers old new queue after shown frames cost head is left
    (spaceless_content statements new (id ∷ []) plain (unwound_content statements id layers old new queue shown frames head is left)) plain.spaces joined
unwound_course statements id layers old new queue after shown frames cost head is left (inr awake) joined =
    let c : Configuration = record { layers = layers; queue = queue; shown = shown } in
    let able : top_steps statements new id ≡ true = and-left (top_steps statements new id) true awake.able in
    let none = unwound_content statements id layers old new queue shown frames head is left (all_awake statements new (id ∷ []) awake.able) in
    ap (λ ls. went_on statements id cost ls (record c { layers = ls })) is
    ∙ stack_awake statements c id queue frames cost head new (left ∙ ap (in_layer id.space without_terminated) is) none able
    ∙ ap (λ q. (Moved cost, record c { layers = new; queue = q })) (ap (λ (xs : List Ident). queue ++ xs) (sym (joins statements new id able)) ∙ sym joined)

-- What was told

none_needed_own : (statements : List Statement) (layers : List Layer) (l : Layer) → l.triggers ≡ [] → has_needed statements layers l ≡ false
none_needed_own statements layers l e = ap (list_any (is_needed_in statements layers l)) e

awake_told : (statements : List Statement) (id : Ident) (layers old new : List Layer) (queue after : List Ident) (shown : List (List ℕ)) (ts : List Tell) (changes : List Change) (cost : ℕ)
    → IsHead statements id layers queue shown → IsAlone layers id.space → is_consistent (view layers id.space ++ ts) ≡ true → old ≡ done id ts changes (without_top id layers)
    → new ≡ in_layer id.space without_terminated old → list_all (is_numbered id.number) (layer_of new id.space).threads ≡ true → IsAwakeAlone statements new id → after ≡ queue ++ able_in statements new id
    → ◌≡◌ {A = Turned} (went_on statements id cost old (record { layers = old; queue = queue; shown = shown })) (Moved cost, record { layers = new; queue = after; shown = shown })
awake_told statements id layers old new queue after shown ts changes cost head alone fits is left single awake joined =
    let result : new ≡ in_layer id.space without_terminated (done id ts changes (without_top id layers)) = left ∙ ap (in_layer id.space without_terminated) is in
    let c : Configuration = record { layers = layers; queue = queue; shown = shown } in
    let first = kept_head statements id queue c head in
    let none = tell_needs_none statements c id queue ts changes head alone new result (none_needed_own statements new (layer_of new id.space) awake.triggers) in
    let at : IsOpenAt new id.space = subst (λ ls. IsOpenAt ls id.space) (sym result) (open_done id ts changes layers (layer_of layers id.space, first.layer, first.opened)) in
    let there : layer_at new id.space ≡ Some (layer_of new id.space) = at.1 ∙ ap (λ (o : Option Layer). Some (unwrap_or o (new_layer id.space))) (sym at.1) in
    let others : others_of (queue ++ id ∷ []) (runnable_in statements new (layer_of new id.space)) ≡ [] =
    filter_none (λ (o : Ident). not (is_among (queue ++ id ∷ []) o)) (runnable_in statements new (layer_of new id.space))
    (λ o h. ap not (in_among (queue ++ id ∷ []) o (In-right o queue (id ∷ []) (inl (sym (itself statements new id queue there single o h)))))) in
    let whole : rest_and statements new id queue ≡ queue ++ id ∷ [] =
    ap (λ (xs : List Ident). xs ++ id ∷ []) (queue_stays statements id layers new queue shown ts changes head result single) in
    let same : rest_and statements new id queue ++ others_of (rest_and statements new id queue) (runnable_in statements new (layer_of new id.space)) ≡ after =
    ap (λ (xs : List Ident). xs ++ others_of xs (runnable_in statements new (layer_of new id.space))) whole
    ∙ ap (λ (xs : List Ident). (queue ++ id ∷ []) ++ xs) others ∙ append-nil (queue ++ id ∷ []) ∙ ap (λ (xs : List Ident). queue ++ xs) (sym (joins statements new id awake.able)) ∙ sym joined in
    ap (λ ls. went_on statements id cost ls (record c { layers = ls })) is
    ∙ tell_awake statements c id queue ts changes cost head alone fits new result none awake.able
    ∙ ap (λ q. (Moved cost, record c { layers = new; queue = q })) same

pub told_course : (statements : List Statement) (id : Ident) (layers old new : List Layer) (queue after : List Ident) (shown : List (List ℕ)) (ts : List Tell) (changes : List Change) (cost : ℕ)
    → IsHead statements id layers queue shown → IsAlone layers id.space → is_consistent (view layers id.space ++ ts) ≡ true → old ≡ done id ts changes (without_top id layers)
    → new ≡ in_layer id.space without_terminated old → LetsNoneStep statements new id → after ≡ queue ++ able_in statements new id
    → ◌≡◌ {A = Turned} (went_on statements id cost old (record { layers = old; queue = queue; shown = shown })) (Moved cost, record { layers = new; queue = after; shown = shown })
told_course statements id layers old new queue after shown ts changes cost head alone fits is left lets joined = by lets.rest
  where
    by : IsPlain new ⊎ IsAwakeAlone statements new id
        → ◌≡◌ {A = Turned} (went_on statements id cost old (record { layers = old; queue = queue; shown = shown })) (Moved cost, record { layers = new; queue = after; shown = shown })
    by (inl plain) =
        told_turn statements id layers old new queue after shown ts changes cost head alone fits is left (none_there statements new plain.triggers) plain.spaces lets.single joined
    by (inr awake) = awake_told statements id layers old new queue after shown ts changes cost head alone fits is left lets.single awake joined
