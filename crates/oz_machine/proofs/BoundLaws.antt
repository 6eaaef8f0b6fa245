-- A space that is committed to an alternative and told a bound.
use Rattle.std.proofs.Common.{◌≡◌, ◌<◌, ℕ, ℤ, ◌<ℤ◌, int_le, Bool, true, false, not, ◌&&◌, ◌||◌, if◌then◌else◌, List, [], ◌∷◌, ◌++◌, length, inl, inr, refl, sym, ap, subst, ◌∙◌, Option, Some, None, option_to_list, is_some, arith}
use Rattle.std.proofs.lemmas.Bool.{false≢true}
use Rattle.std.proofs.lemmas.Int.{ints, clamps}
use Rattle.std.proofs.lemmas.List.{append-nil}
use Rattle.std.proofs.lemmas.List.Elements.{Contains-push}
use Rattle.oz_base.specs.Lists.{is_empty}
use Rattle.oz_base.specs.declared.interval.Interval.{Interval}
use Rattle.oz_base.specs.declared.interval.TheConstants.{LEAST_VALUE}
use Rattle.oz_base.specs.declared.names.Ident.{Ident}
use Rattle.oz_domains.specs.Domains.{among}
use Rattle.oz_language.specs.declared.kernel.Constant.{Constant}
use Rattle.oz_language.specs.declared.kernel.Statement.{Statement}
use Rattle.oz_search.specs.declared.best.Bounded.{Bounded}
use Rattle.oz_semantics.specs.Names.{is_properly_below, is_top}
use Rattle.oz_semantics.specs.Store.{View, itself, is_consistent, is_news, news}
use Rattle.oz_semantics.specs.Constraints.{confined}
use Rattle.oz_semantics.specs.Builtins.{interval_news}
use Rattle.oz_semantics.specs.BestSearch.{bound_tells, told_below, values_below, root_field, chosen_below}
use Rattle.oz_semantics.specs.Configurations.{is_of, layer_at, layer_of, view, in_layer, telling, failed, ending}
use Rattle.oz_semantics.specs.Edits.{committed}
use Rattle.oz_semantics.specs.Search.{followed}
use Rattle.oz_semantics.specs.Settling.{may_fail, is_inconsistent, inconsistent_spaces, without_inconsistent, top_is_inconsistent, runnable, queue_after}
use Rattle.oz_semantics.specs.Triggers.{triggered}
use Rattle.oz_semantics.specs.declared.value.Tell.{Tell}
use Rattle.oz_semantics.specs.declared.value.Tell.TheVariants.{Within}
use Rattle.oz_semantics.specs.declared.configuration.Layer.{Layer}
use Rattle.oz_semantics.specs.declared.configuration.Status.TheVariants.{Open}
use Rattle.oz_semantics.specs.declared.configuration.Configuration.{Configuration}
use Rattle.oz_laws.proofs.SameLaws.{In, In-from_contains, and-left}
use Rattle.oz_laws.proofs.StoreLaws.{tests_consistent}
use Rattle.view_laws.proofs.Members.{decide, not_both, and_both, some_of}
use Rattle.view_laws.proofs.ListLaws.{in_edit}
use Rattle.view_laws.specs.Queues.{is_once}
use Rattle.view_laws.proofs.NumberLaws.{runnable_once}
use Rattle.view_laws.proofs.QueueLaws.{queue_exact, queue_once}
use Rattle.view_laws.proofs.SightLaws.{space_of, change_unseen}
use Rattle.need_laws.proofs.AfterLaws.{fired_sound}
use Rattle.need_laws.proofs.FireLaws.{all_fired}
use Rattle.need_laws.proofs.RoundLaws.{none_in, none_left}
use Rattle.settle_laws.specs.Settles.{Settles}
use Rattle.settle_laws.proofs.SettleLaws.{nothing_fails, keeps_view, top_kept}
use Rattle.settle_laws.proofs.SoundLaws.{left_sound, sound_top, followed_settles}
use Rattle.settle_laws.proofs.ClashLaws.{inconsistent_in, clash_fails, tells_after}
use Rattle.turn_laws.specs.Kept.{IsKept}
use Rattle.turn_laws.specs.Orderly.{AreOrderly}
use Rattle.turn_laws.proofs.KeptLaws.{committed_top}
use Rattle.turn_laws.proofs.OrderlyLaws.{edit_orderly, tells_edit, committed_orderly, left_orderly, fired_orderly, is_there}
use Rattle.space_core.proofs.Firsts.{edit_same}
use Rattle.oz_machine.specs.declared.course.Due.TheVariants.{Nobody}
use Rattle.oz_machine.specs.declared.course.Course.{Course}
use Rattle.oz_machine.specs.Courses.{config_of}
use Rattle.oz_machine.proofs.DoingLaws.{settled_seen}
use Rattle.oz_machine.specs.Bounding.{allows_none}

-- ---- bounds below which nothing is

not_consistent : (ts : List Tell) → (is_consistent ts ≡ true → ⊥) → is_consistent ts ≡ false
not_consistent ts h = by (is_consistent ts) refl
  where
    by : (b : Bool) → is_consistent ts ≡ b → b ≡ false
    by true e = absurd (h e)
    by false e = refl

-- no integer is a variable that was told intervals of which none has one
none_among : (ts : List Tell) (x : Ident) (is : List Interval) → ((n : ℤ) → among is n ≡ false) → is_consistent (ts ++ Within x is ∷ []) ≡ false
none_among ts x is none = not_consistent (ts ++ Within x is ∷ []) (λ k.
    let here = Contains-push ts (Within x is) in
    let n = ((tests_consistent (ts ++ Within x is ∷ [])).0 k).inhabited x is here in
    false≢true (sym (none n.0) ∙ n.1 x is itself here))

none_between : (low high n : ℤ) → high <ℤ low → ((int_le low n && int_le n high) || false) ≡ false
none_between low high n e = grind (arith, ints)

none_below : (bound : ℤ) → int_le bound LEAST_VALUE ≡ true → (values_below bound).high <ℤ (values_below bound).low
none_below bound e = omega (arith, ints, clamps)

-- what is told under such a bound clashes with all
one_clashes : (v : View) (x : Ident) (i : Interval) → i.high <ℤ i.low → is_empty (news v (confined (x ∷ []) i)) ≡ false → is_consistent (v ++ news v (confined (x ∷ []) i)) ≡ false
one_clashes v x i e = by (is_news v (Within x (i ∷ [])))
  where
    by : (b : Bool) → is_empty (if b then Within x (i ∷ []) ∷ [] else []) ≡ false → is_consistent (v ++ (if b then Within x (i ∷ []) ∷ [] else [])) ≡ false
    by true k = none_among v x (i ∷ []) (λ n. none_between i.low i.high n e)
    by false k = absurd (false≢true (sym k))

pub none_clashes : (v : View) (space : List ℕ) (feature : Constant) (b : Option ℤ) → allows_none b ≡ true → is_empty (bound_tells v space feature b) ≡ false → is_consistent (v ++ bound_tells v space feature b) ≡ false
none_clashes v space feature None e = absurd (false≢true e)
none_clashes v space feature (Some bound) e = by (root_field v space feature)
  where
    by : (o : Option Ident) → is_empty (interval_news v (option_to_list o) (values_below bound)) ≡ false → is_consistent (v ++ interval_news v (option_to_list o) (values_below bound)) ≡ false
    by None k = absurd (false≢true (sym k))
    by (Some x) k = one_clashes v x (values_below bound) (none_below bound e) k

-- ---- lists by their length

pub no_items : {A : Type 0} (xs : List A) → length xs ≡ 0 → xs ≡ []
no_items [] e = refl
no_items (x ∷ xs) e = absurd (omega (arith, e))

pub some_items : {A : Type 0} (xs : List A) → 0 < length xs → is_empty xs ≡ false
some_items [] e = absurd (omega (arith, e))
some_items (x ∷ xs) e = refl

-- ---- what a space is left as that is told something

pub untold : (space : List ℕ) (layers : List Layer) → inconsistent_spaces layers ≡ [] → layers ≡ without_inconsistent (in_layer space (telling []) layers)
untold space layers sound =
    (nothing_fails space layers sound).left
    ∙ sym (ap without_inconsistent (ap (λ (f : Layer → Layer). in_layer space f layers) (λ i l. record l { tells = append-nil l.tells i }) ∙ edit_same (is_of space) layers))

-- one that has not ended fails where what it is told clashes
pub clash_left : (space : List ℕ) (ts : List Tell) (layers : List Layer) → is_some (layer_at layers space) ≡ true → (layer_of layers space).status ≡ Open → inconsistent_spaces layers ≡ []
    → is_consistent (view layers space ++ ts) ≡ false → ending space failed layers ≡ without_inconsistent (in_layer space (telling ts) layers)
clash_left space ts layers there opened sound clash = sym (clash_fails space ts layers (layer_of layers space) (is_there layers space there) opened sound clash)

-- ---- the top stays consistent

apart : (n : ℕ) (ns : List ℕ) → ◌≡◌ {A = List ℕ} [] (n ∷ ns) → ⊥
apart n ns e = false≢true (sym (ap is_top e))

told_top : (space : List ℕ) (ts : List Tell) (layers : List Layer) → is_top space ≡ false → top_is_inconsistent layers ≡ false → top_is_inconsistent (in_layer space (telling ts) layers) ≡ false
told_top [] ts layers lower e = absurd (false≢true (sym lower))
told_top (n ∷ ns) ts layers lower e =
    let told : List Layer = in_layer (n ∷ ns) (telling ts) layers in
    elim (decide (top_is_inconsistent told)) [
      | inl k ↦ (let l = some_of (λ (m : Layer). is_top m.space && is_inconsistent told m) told k in
          let top = of_top l.0.space (and-left _ _ l.2) in
          let same : view told l.0.space ≡ view layers l.0.space = ap (view told) top ∙ change_unseen (telling ts) layers (n ∷ ns) [] (λ m q. refl) refl ∙ sym (ap (view layers) top) in
          let bad : (is_top l.0.space && is_inconsistent layers l.0) ≡ true = ap (λ v. is_top l.0.space && (may_fail l.0.status && not (is_consistent v))) (sym same) ∙ l.2 in
          elim (in_edit (is_of (n ∷ ns)) (telling ts) layers l.0 (In-from_contains told l.0 l.1)) [
            | inl h ↦ absurd (not_both _ bad (none_in (λ (m : Layer). is_top m.space && is_inconsistent layers m) layers e l.0 h))
            | inr r ↦ absurd (apart n ns (sym top ∙ ap (λ (m : Layer). m.space) r.2 ∙ space_of layers (n ∷ ns) r.0 r.1))
          ])
      | inr k ↦ k
    ]
  where
    of_top : (s : List ℕ) → is_top s ≡ true → s ≡ []
    of_top [] q = refl
    of_top (m ∷ s) q = absurd (false≢true q)

-- where it is, all that fails is below it
top_settles : (before after : List Layer) → top_is_inconsistent before ≡ false → after ≡ without_inconsistent before → Settles [] before after
top_settles before after e left = record { below = λ t c. under t (inconsistent_in before t (In-from_contains (inconsistent_spaces before) t c)); left = left }
  where
    under : (t : List ℕ) → ((m : Layer) × In m before × (is_inconsistent before m ≡ true) × (m.space ≡ t)) → is_properly_below [] t ≡ true
    under (n ∷ ns) m = refl
    under [] m =
        absurd (not_both _ (and_both _ _ (ap is_top m.3) m.2) (none_in (λ (l : Layer). is_top l.space && is_inconsistent before l) before e m.0 m.1))

-- ---- a space that is told a bound where spaces below it have failed

pub bound_settles : (space : List ℕ) (feature : Constant) (b : Option ℤ) (before after left : List Layer) → is_top space ≡ false → Settles space before after
    → left ≡ without_inconsistent (told_below space feature b after) → Settles [] (told_below space feature b before) left
bound_settles space feature b before after left lower settles e =
    let ts : List Tell = bound_tells (view before space) space feature b in
    top_settles (in_layer space (telling ts) before) left (told_top space ts before lower (top_kept space before after settles))
    (e ∙ ap (λ (v : View). without_inconsistent (in_layer space (telling (bound_tells v space feature b)) after)) (keeps_view space before after settles)
    ∙ tells_after space ts before after settles)

-- after those who were due were asked
pub below_by : (statements : List Statement) (space : List ℕ) (feature : Constant) (b : Bounded) (old settled : Course) (new : Configuration) → config_of statements settled ≡ config_of statements old → settled.due ≡ Nobody
    → new ≡ followed statements (record { layers = settled.levels; queue = settled.queue; shown = settled.shown }) (told_below space feature b.bound (committed statements space b.alternative settled.levels))
    → new ≡ chosen_below statements space feature b (config_of statements old)
below_by statements space feature b old settled new same nobody follows =
    follows
    ∙ ap (chosen_below statements space feature b) (sym (settled_seen statements settled nobody) ∙ same)

-- ---- what is kept

left_kept : (statements : List Statement) (c : Configuration) (told : List Layer) → AreOrderly told → is_once c.queue ≡ true
    → IsKept statements (record c { layers = triggered statements (without_inconsistent told); queue = queue_after (runnable statements (triggered statements (without_inconsistent told))) None c.queue })
left_kept statements c told good once =
    let left : List Layer = without_inconsistent told in
    let layers : List Layer = triggered statements left in
    let fires = all_fired statements left in
    let after = fired_orderly left layers fires (left_orderly told good) in
    record {
      tree = after.tree;
      top = after.top;
      numbered = after.numbered;
      sound = fired_sound left layers fires (left_sound told good.tree);
      content = none_left statements left;
      exact = λ id. queue_exact (runnable statements layers) None c.queue id;
      once = queue_once (runnable statements layers) None c.queue (runnable_once statements layers after.tree.ordered after.numbered) once refl;
    }

pub kept_below : (statements : List Statement) (space : List ℕ) (feature : Constant) (b : Bounded) (c : Configuration) → is_top space ≡ false → IsKept statements c → IsKept statements (chosen_below statements space feature b c)
kept_below statements space feature b c lower kept =
    let made : List Layer = committed statements space b.alternative c.layers in
    let ts : List Tell = bound_tells (view made space) space feature b.bound in
    let told : List Layer = in_layer space (telling ts) made in
    let good : AreOrderly told =
    edit_orderly space (telling ts) made (tells_edit ts)
    (committed_orderly statements space b.alternative c.layers (record { tree = kept.tree; top = kept.top; numbered = kept.numbered })) in
    let settles =
    top_settles told (without_inconsistent told) (told_top space ts made lower (committed_top statements space b.alternative c.layers (sound_top c.layers kept.sound))) refl in
    subst (IsKept statements) (sym (followed_settles statements c [] told (without_inconsistent told) settles)) (left_kept statements c told good kept.once)
