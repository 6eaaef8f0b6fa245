-- The thread at the head of the queue stands in its layer, and a step of it that tells nothing.
use Rattle.std.proofs.Common.{◌≡◌, inl, inr, ℕ, Bool, true, false, ◌&&◌, cond, List, [], ◌∷◌, refl, sym, ap, subst, ◌∙◌, Option, Some, None, is_some, unwrap_or}
use Rattle.std.specs.List.{find}
use Rattle.std.proofs.lemmas.Bool.{false≢true}
use Rattle.oz_base.specs.Lists.{list_eq, holds_of}
use Rattle.oz_base.specs.declared.names.Ident.{Ident}
use Rattle.oz_language.specs.declared.kernel.Statement.{Statement}
use Rattle.oz_semantics.specs.Configurations.{is_of, layer_at, layer_of, thread_at, is_open, new_layer}
use Rattle.oz_semantics.specs.Sights.{can_step}
use Rattle.oz_semantics.specs.Spaces.{thread_ready}
use Rattle.oz_semantics.specs.Settling.{is_among, runnable_in, runnable}
use Rattle.oz_semantics.specs.declared.configuration.Thread.{Thread}
use Rattle.oz_semantics.specs.declared.configuration.Layer.{Layer}
use Rattle.oz_semantics.specs.declared.configuration.Configuration.{Configuration}
use Rattle.oz_laws.proofs.SameLaws.{In, contains-from_In, In-flat_back, and-right}
use Rattle.view_laws.specs.Trees.{is_ascending, names_of}
use Rattle.view_laws.specs.Steps.{IsNumbered}
use Rattle.view_laws.proofs.Members.{not_both}
use Rattle.view_laws.proofs.ListLaws.{among_in, in_among, found_in}
use Rattle.view_laws.proofs.NameLaws.{names_equal, equal_names}
use Rattle.view_laws.proofs.TreeLaws.{one_of_name}
use Rattle.view_laws.proofs.QueueLaws.{can_from, not_among, queue_tells}
use Rattle.view_laws.proofs.NumberLaws.{first_numbered, mover_told}
use Rattle.view_laws.proofs.SettleLaws.{changes_settle, stack_settle}
use Rattle.turn_laws.specs.Orderly.{AreOrderly, MoverAlone}
use Rattle.turn_laws.specs.Kept.{IsKept, KeptLayers, KeptShown, KeptGoesOn, IsThere, KeptHead, KeptChanges, KeptStack}
use Rattle.turn_laws.proofs.OrderlyLaws.{is_there}

-- a layer is the first of its name
pub find_layer : (layers : List Layer) (l : Layer) → is_ascending (names_of layers) ≡ true → In l layers → layer_at layers l.space ≡ Some l
find_layer [] l e h = elim h [ ]
find_layer (k ∷ ls) l e (inl q) =
    ap (λ (b : Bool). cond b (Some k) (find (is_of l.space) ls)) (ap (λ (m : Layer). list_eq m.space l.space) q ∙ names_equal l.space) ∙ ap (λ m. Some m) q
find_layer (k ∷ ls) l e (inr h) = by (is_of l.space k) refl (find_layer ls l (and-right _ _ e) h)
  where
    by : (b : Bool) → is_of l.space k ≡ b → find (is_of l.space) ls ≡ Some l → cond b (Some k) (find (is_of l.space) ls) ≡ Some l
    by true t rest = absurd (one_of_name k ls l e h (sym (equal_names k.space l.space t)))
    by false t rest = rest

-- a layer that is there is one of them
pub own_among : (layers : List Layer) (space : List ℕ) → layer_at layers space ≡ Some (layer_of layers space) → In (layer_of layers space) layers
own_among layers space at = (found_in (is_of space) (λ (m : Layer). m) layers (layer_of layers space) at).0

own_numbered : (layers : List Layer) (space : List ℕ) → AreOrderly layers → layer_at layers space ≡ Some (layer_of layers space) → IsNumbered (layer_of layers space)
own_numbered layers space good at = good.numbered (layer_of layers space) (contains-from_In layers (layer_of layers space) (own_among layers space at))

module _ (statements : List Statement) (layers : List Layer) (id : Ident) (good : AreOrderly layers) where
  abbrev able : Thread → Bool
  able t = can_step (thread_ready statements layers id.space t)

  -- a thread that can step is there
  pub able_there : In id (runnable statements layers) → IsThere statements layers id
  able_there h =
      let k = In-flat_back (runnable_in statements layers) id layers h in
      let c = can_from statements layers k.0 id k.2 in
      let space : k.0.space ≡ id.space = ap (λ (i : Ident). i.space) c.name in
      let number : c.thread.number ≡ id.number = ap (λ (i : Ident). i.number) c.name in
      let at : layer_at layers id.space ≡ Some k.0 = subst (λ s. layer_at layers s ≡ Some k.0) space (find_layer layers k.0 good.tree.ordered k.1) in
      let own : layer_of layers id.space ≡ k.0 = ap (λ (o : Option Layer). unwrap_or o (new_layer id.space)) at in
      let first : thread_at k.0.threads id.number ≡ Some c.thread =
      subst (λ n. thread_at k.0.threads n ≡ Some c.thread) number (first_numbered k.0.threads c.thread (good.numbered k.0 (contains-from_In layers k.0 k.1)).rising c.among) in
      let mine : thread_at (layer_of layers id.space).threads id.number ≡ Some c.thread = ap (λ (l : Layer). thread_at l.threads id.number) own ∙ first in
      record {
        layer = at ∙ ap (λ (l : Layer). Some l) (sym own);
        opened = ap (λ (l : Layer). is_open l.status) own ∙ c.opened;
        thread = ap is_some mine;
        ready = ap (holds_of able) mine ∙ ap (λ s. can_step (thread_ready statements layers s c.thread)) (sym space) ∙ c.ready;
      }

  abbrev told_of : Layer → Bool
  told_of l = is_open l.status && holds_of able (thread_at l.threads id.number)

  none_of : (o : Option Layer) → is_some o ≡ false → o ≡ None
  none_of None e = refl
  none_of (Some l) e = absurd (false≢true (sym e))

  pub told_alone : is_among (runnable statements layers) id ≡ told_of (layer_of layers id.space)
  told_alone = by (is_some (layer_at layers id.space)) refl
    where
      by : (b : Bool) → is_some (layer_at layers id.space) ≡ b → is_among (runnable statements layers) id ≡ told_of (layer_of layers id.space)
      by true k =
          let at = is_there layers id.space k in
          mover_told statements layers id (layer_of layers id.space) good.tree.ordered at (own_numbered layers id.space good at)
      by false k =
          not_among (runnable statements layers) id (λ h. not_both _ (ap is_some (able_there h).layer) k)
          ∙ sym (ap (λ (o : Option Layer). told_of (unwrap_or o (new_layer id.space))) (none_of (layer_at layers id.space) k))

pub mover_alone : MoverAlone
mover_alone statements layers id good = told_alone statements layers id good

pub kept_layers : KeptLayers
kept_layers statements c kept = record { tree = kept.tree; top = kept.top; numbered = kept.numbered }

pub kept_shown : KeptShown
kept_shown statements c texts kept = record { tree = kept.tree; top = kept.top; numbered = kept.numbered; sound = kept.sound; content = kept.content; exact = kept.exact; once = kept.once }

pub kept_goes_on : KeptGoesOn
kept_goes_on statements c space kept = queue_tells statements c.layers c.queue space kept.exact

pub kept_head : KeptHead
kept_head statements id queue c kept =
    able_there statements c.layers id (record { tree = kept.tree; top = kept.top; numbered = kept.numbered })
    (among_in (runnable statements c.layers) id (sym (kept.exact id) ∙ in_among (id ∷ queue) id (inl refl)))

-- the layer of the thread at the head, in order
pub head_numbered : (statements : List Statement) (id : Ident) (queue : List Ident) (c : Configuration) → IsKept statements (record c { queue = id ∷ queue }) → IsNumbered (layer_of c.layers id.space)
head_numbered statements id queue c kept =
    own_numbered c.layers id.space (record { tree = kept.tree; top = kept.top; numbered = kept.numbered }) (kept_head statements id queue c kept).layer

pub kept_changes : KeptChanges
kept_changes statements c id queue changes cost kept spaceless =
    changes_settle statements c id queue (layer_of c.layers id.space) changes cost spaceless kept.tree.ordered (kept_head statements id queue c kept).layer (head_numbered statements id queue c kept) kept.exact kept.once
    kept.sound

pub kept_stack : KeptStack
kept_stack statements c id queue frames cost kept spaceless =
    stack_settle statements c id queue (layer_of c.layers id.space) frames cost spaceless kept.tree.ordered (kept_head statements id queue c kept).layer (head_numbered statements id queue c kept) kept.exact kept.once
    kept.sound
