-- What a step that tells a space with none below it makes of the queue.
use Rattle.std.proofs.Common.{◌≡◌, inl, inr, ℕ, Bool, true, false, cond, List, [], ◌∷◌, ◌++◌, filter, refl, sym, ap, subst, ◌∙◌, Contains, Option, Some, unwrap_or}
use Rattle.oz_base.specs.Lists.{list_eq}
use Rattle.oz_base.specs.declared.names.Ident.{Ident}
use Rattle.oz_language.specs.declared.kernel.Statement.{Statement}
use Rattle.oz_semantics.specs.Names.{is_below, is_properly_below, parent_of}
use Rattle.oz_semantics.specs.Store.{View, is_consistent}
use Rattle.oz_semantics.specs.Configurations.{is_of, layer_at, layer_of, new_layer, view, in_layer, without_terminated, telling}
use Rattle.oz_semantics.specs.Changes.{Change, GivesOut, changed, changed_all, done}
use Rattle.oz_semantics.specs.Settling.{Turned, is_inconsistent, inconsistent_spaces, queue_after, runnable_in, runnable, settled}
use Rattle.oz_semantics.specs.Steps.{without_top}
use Rattle.oz_semantics.specs.declared.value.Tell.{Tell}
use Rattle.oz_semantics.specs.declared.configuration.Thread.{Thread}
use Rattle.oz_semantics.specs.declared.configuration.Layer.{Layer}
use Rattle.oz_semantics.specs.declared.configuration.Configuration.{Configuration}
use Rattle.oz_semantics.specs.declared.outcome.Stepped.TheVariants.{Moved}
use Rattle.oz_laws.proofs.SameLaws.{In, In-from_contains, contains-from_In}
use Rattle.view_laws.specs.Needs.{NoneNeeded}
use Rattle.view_laws.specs.Steps.{spawned_from, MadeOf, IsSound}
use Rattle.view_laws.proofs.Members.{decide, not_both}
use Rattle.view_laws.proofs.ListLaws.{in_filter, map_in, in_edit}
use Rattle.view_laws.proofs.NameLaws.{below_itself, below_trans, names_equal, properly, properly_by}
use Rattle.view_laws.proofs.SightLaws.{space_of, change_unseen, quiet_unseen}
use Rattle.view_laws.proofs.ChangeLaws.{edit_of, changed_by, edit_keeps}
use Rattle.view_laws.proofs.StepLaws.{changes_made}
use Rattle.view_laws.proofs.NeedLaws.{nothing_fires}
use Rattle.view_laws.proofs.SettleLaws.{quiet_sound}
use Rattle.settle_laws.proofs.EditLaws.{edits_join, edits_agree}
use Rattle.settle_laws.proofs.SettleLaws.{settled_by}
use Rattle.settle_laws.proofs.SoundLaws.{sound_settles}
use Rattle.settle_laws.proofs.TellLaws.{tell_below}
use Rattle.turn_laws.specs.Kept.{IsKept}
use Rattle.turn_laws.specs.Telling.{IsAlone, others_of, staying}
use Rattle.turn_laws.proofs.HeadLaws.{kept_head}
use Rattle.quiet_laws.specs.Unknown.{given_in, AreUnknown}
use Rattle.quiet_laws.specs.Among.{woken, TellAmong}
use Rattle.quiet_laws.specs.Awake.{IsAble, TellAwake}
use Rattle.quiet_laws.proofs.UnknownLaws.{none_below}
use Rattle.quiet_laws.proofs.StateLaws.{parent_over}
use Rattle.quiet_laws.proofs.HeldLaws.{GivesMore}
use Rattle.quiet_laws.proofs.AwakeLaws.{WakesNone, wakes_none, told_awake}
use Rattle.quiet_laws.proofs.WakeLaws.{GoesTo, found_put, queued}
use Rattle.quiet_laws.proofs.QuietLaws.{changes_give}

-- A tell may come after the changes

swap_edits : (space : List ℕ) (f g : Layer → Layer) (layers : List Layer) → ((l : Layer) → (f l).space ≡ l.space) → ((l : Layer) → (g l).space ≡ l.space) → ((l : Layer) → f (g l) ≡ g (f l))
    → in_layer space f (in_layer space g layers) ≡ in_layer space g (in_layer space f layers)
swap_edits space f g layers named_f named_g swap =
    edits_join space f g layers named_g ∙ edits_agree space (λ l. f (g l)) (λ l. g (f l)) layers (λ l e. swap l) ∙ sym (edits_join space g f layers named_f)

-- what a step changes and what it tells are apart
tell_apart : (number : ℕ) (ts : List Tell) (change : Change) (l : Layer) → edit_of number change (telling ts l) ≡ telling ts (edit_of number change l)
tell_apart number ts (GivesOut n) l = refl
tell_apart number ts change l = refl

changes_first : (id : Ident) (ts : List Tell) (changes : List Change) (layers : List Layer)
    → changed_all id changes (in_layer id.space (telling ts) layers) ≡ in_layer id.space (telling ts) (changed_all id changes layers)
changes_first id ts [] layers = refl
changes_first id ts (change ∷ changes) layers =
    let edit : Layer → Layer = edit_of id.number change in
    let one : changed id (in_layer id.space (telling ts) layers) change ≡ in_layer id.space (telling ts) (changed id layers change) =
    changed_by id (in_layer id.space (telling ts) layers) change
    ∙ swap_edits id.space edit (telling ts) layers (edit_keeps id.number change).space (λ l. refl) (tell_apart id.number ts change)
    ∙ ap (in_layer id.space (telling ts)) (sym (changed_by id layers change)) in
    ap (changed_all id changes) one ∙ changes_first id ts changes (changed id layers change)

told_last : (id : Ident) (ts : List Tell) (changes : List Change) (layers : List Layer)
    → in_layer id.space without_terminated (done id ts changes layers) ≡ in_layer id.space (telling ts) (in_layer id.space without_terminated (changed_all id changes layers))
told_last id ts changes layers =
    ap (in_layer id.space without_terminated) (changes_first id ts changes layers)
    ∙ swap_edits id.space without_terminated (telling ts) (changed_all id changes layers) (λ l. refl) (λ l. refl) (λ l. refl)

-- the layer that was put in the place of another is edited
put_again : (space : List ℕ) (f : Layer → Layer) (after : Layer) → is_of space after ≡ true → (ls : List Layer) → in_layer space f (in_layer space (λ m. after) ls) ≡ in_layer space (λ m. f after) ls
put_again space f after own [] = refl
put_again space f after own (l ∷ ls) = by (is_of space l) refl (put_again space f after own ls)
  where
    by : (b : Bool) → is_of space l ≡ b → in_layer space f (in_layer space (λ m. after) ls) ≡ in_layer space (λ m. f after) ls
        → in_layer space f (cond b (after ∷ ls) (l ∷ in_layer space (λ m. after) ls)) ≡ cond b (f after ∷ ls) (l ∷ in_layer space (λ m. f after) ls)
    by true k rest = ap (λ (b : Bool). cond b (f after ∷ ls) (after ∷ in_layer space f ls)) own
    by false k rest = ap (λ (b : Bool). cond b (f l ∷ in_layer space (λ m. after) ls) (l ∷ in_layer space f (in_layer space (λ m. after) ls))) k ∙ ap (λ (ms : List Layer). l ∷ ms) rest

-- names of spaces that are neither below a space nor above it
unrelated : (space other : List ℕ) → is_properly_below space other ≡ false → is_below other space ≡ false → is_below space other ≡ false
unrelated space other lower off = elim (decide (is_below space other)) [
  | inl k ↦ absurd (not_both _ (properly_by space other k (λ q. not_both _ (subst (λ s. is_below s space ≡ true) q (below_itself space)) off)) lower)
  | inr k ↦ k
]

-- The step

module _ (statements : List Statement) (c : Configuration) (id : Ident) (queue : List Ident) (ts : List Tell) (changes : List Change) (kept : IsKept statements (record c { queue = id ∷ queue }))
    (alone : IsAlone c.layers id.space) (fits : is_consistent (view c.layers id.space ++ ts) ≡ true) where
  abbrev old : List Layer
  old = c.layers

  abbrev t : List ℕ
  t = id.space

  abbrev before : Layer
  before = layer_of old t

  abbrev news : List Thread
  news = spawned_from before.next.thread changes

  -- the layers but for what is told
  abbrev quiet : List Layer
  quiet = in_layer t without_terminated (changed_all id changes (without_top id old))

  at : layer_at old t ≡ Some before
  at = (kept_head statements id queue c kept).layer

  pub made : MadeOf id old quiet before news
  made = changes_made id changes old before at (kept_head statements id queue c kept).thread

  abbrev after : Layer
  after = telling ts made.after

  abbrev new : List Layer
  new = in_layer t (λ m. after) old

  one : (l : Layer) → layer_at old t ≡ Some l → before ≡ l
  one l e = let first : layer_at old t ≡ Some before = at in let k : before ≡ l = cc in k

  keeps_name : (l : Layer) → layer_at old t ≡ Some l → made.after.space ≡ l.space
  keeps_name l e = made.steps.space ∙ ap (λ (m : Layer). m.space) (one l e)

  keeps_tells : (l : Layer) → layer_at old t ≡ Some l → made.after.tells ≡ l.tells
  keeps_tells l e = made.steps.tells ∙ ap (λ (m : Layer). m.tells) (one l e)

  own : made.after.space ≡ t
  own = made.steps.space ∙ space_of old t before at

  is_own : is_of t made.after ≡ true
  is_own = subst (λ s. list_eq s t ≡ true) (sym own) (names_equal t)

  -- first the quiet part, and then the tell
  told_new : in_layer t (telling ts) (in_layer t (λ m. made.after) old) ≡ new
  told_new = put_again t (telling ts) made.after is_own old

  pub result_new : in_layer t without_terminated (done id ts changes (without_top id old)) ≡ new
  result_new = told_last id ts changes (without_top id old) ∙ ap (in_layer t (telling ts)) made.left ∙ told_new

  goes : GoesTo id.number before after news
  goes = record { change = made.steps.change; space = made.steps.space; status = made.steps.status; threads = made.steps.threads }

  gives : GivesMore before after (given_in before changes)
  gives = let g = changes_give statements c id queue kept changes made in record { kept = g.kept; only = g.only }

  unknown : AreUnknown statements old t (given_in before changes)
  unknown = none_below statements old t (given_in before changes) alone

  -- What is seen

  unseen : (u : List ℕ) → is_below t u ≡ false → view new u ≡ view old u
  unseen u off = change_unseen (λ m. after) old t u keeps_name off

  lower : (l : Layer) → In l old → is_below l.space t ≡ false → (view new l.space ≡ view old l.space) × (view new (parent_of l.space) ≡ view old (parent_of l.space))
  lower l i off =
      let apart : is_below t l.space ≡ false = unrelated t l.space (alone l (contains-from_In old l i)) off in (
        unseen l.space apart,
        unseen (parent_of l.space) (elim (decide (is_below t (parent_of l.space))) [
          | inl k ↦ absurd (not_both _ (below_trans t (parent_of l.space) l.space k (parent_over l.space)) apart)
          | inr k ↦ k
        ]),
      )

  -- where the thread can step still, none of the proper ancestors wakes
  pub wakes_as : (layers : List Layer) → layers ≡ in_layer t without_terminated (done id ts changes (without_top id old)) → IsAble statements layers id → WakesNone statements layers id queue
  wakes_as layers e able =
      subst (λ (ls : List Layer). WakesNone statements ls id queue) (sym (e ∙ result_new))
      (wakes_none statements c id queue before after news (given_in before changes) kept at goes gives unknown unseen lower (subst (λ (ls : List Layer). IsAble statements ls id) (e ∙ result_new) able))

  alone_later : IsAlone new t
  alone_later l h = elim (in_edit (is_of t) (λ m. after) old l (In-from_contains new l h)) [
    | inl k ↦ alone l (contains-from_In old l k)
    | inr r ↦ (ap (λ (m : Layer). is_properly_below t m.space) r.2 ∙ ap (is_properly_below t) own ∙ elim (decide (is_properly_below t t)) [ inl k ↦ absurd ((properly t t k).1 refl) | inr k ↦ k ])
  ]

  -- No space sees what is inconsistent

  abbrev part : List Layer
  part = in_layer t (λ m. made.after) old

  part_sound : IsSound part
  part_sound = quiet_sound old id before made.after news at made.steps kept.sound

  part_there : layer_at part t ≡ Some made.after
  part_there = found_put t made.after is_own old before at

  part_fits : is_consistent (view part t ++ ts) ≡ true
  part_fits = ap (λ (v : View). is_consistent (v ++ ts)) (quiet_unseen (λ m. made.after) old t t keeps_name keeps_tells) ∙ fits

  sound : IsSound new
  sound l h = elim (decide (is_inconsistent new l)) [
    | inl e ↦ (let there : In l.space (inconsistent_spaces new) =
        map_in (λ (m : Layer). m.space) (filter (is_inconsistent new) new) l (in_filter (is_inconsistent new) new l (In-from_contains new l h) e) in
        let told : Contains (inconsistent_spaces (in_layer t (telling ts) part)) l.space =
        subst (λ (ls : List Layer). Contains (inconsistent_spaces ls) l.space) (sym told_new) (contains-from_In (inconsistent_spaces new) l.space there) in
        absurd (not_both _ (tell_below t ts part made.after part_sound part_there part_fits l.space told) (alone_later l h)))
    | inr e ↦ e
  ]

  abbrev stay : List Ident
  stay = staying statements new id queue

  all_queued : queue_after (runnable statements new) (Some id) queue ≡ stay ++ woken statements new t stay ++ others_of stay (runnable_in statements new (layer_of new t))
  all_queued =
      queued statements c id queue before after news (given_in before changes) kept at goes gives unknown unseen lower
      ∙ ap (λ (o : Option Layer). stay ++ woken statements new t stay ++ others_of stay (runnable_in statements new (unwrap_or o (new_layer t))))
      (sym (found_put t after is_own old before at))

  pub settles_new : (cost : ℕ) → NoneNeeded statements new
      → ◌≡◌ {A = Turned} (settled statements (Some id) cost (record c { layers = new; queue = queue }))
      (Moved cost, record c { layers = new; queue = stay ++ woken statements new t stay ++ others_of stay (runnable_in statements new (layer_of new t)) })
  settles_new cost none =
      settled_by statements (Some id) cost t new new queue c.shown (sound_settles t new sound)
      ∙ ap (λ (ls : List Layer). (Moved cost, record c { layers = ls; queue = queue_after (runnable statements ls) (Some id) queue })) (nothing_fires statements new none)
      ∙ ap (λ (q : List Ident). (Moved cost, record c { layers = new; queue = q })) all_queued

pub tell_among : TellAmong
tell_among statements c id queue ts changes cost kept alone fits layers e none =
    let same = result_new statements c id queue ts changes kept alone fits in
    ap (λ (ls : List Layer). settled statements (Some id) cost (record c { layers = ls; queue = queue })) same
    ∙ settles_new statements c id queue ts changes kept alone fits cost (subst (NoneNeeded statements) (e ∙ same) none)
    ∙ ap (λ (ls : List Layer). (
      Moved cost,
      record c {
        layers = ls;
        queue =
            staying statements ls id queue
            ++ woken statements ls id.space (staying statements ls id queue)
            ++ others_of (staying statements ls id queue) (runnable_in statements ls (layer_of ls id.space));
      },
    )) (sym (e ∙ same))

-- where the thread can step still

pub tell_awake : TellAwake
tell_awake statements c id queue ts changes cost kept alone fits layers e none able =
    tell_among statements c id queue ts changes cost kept alone fits layers e none
    ∙ ap (λ (q : List Ident). (Moved cost, record c { layers = layers; queue = q }))
    (told_awake statements layers id queue (runnable_in statements layers (layer_of layers id.space)) (wakes_as statements c id queue ts changes kept alone fits layers e able))
