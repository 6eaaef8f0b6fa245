-- Which configurations what follows a step leaves as they are.
use Rattle.std.proofs.Common.{◌≡◌, ◌⊎◌, inl, inr, ℕ, Bool, true, false, not, if◌then◌else◌, List, [], ◌∷◌, ◌++◌, refl, sym, ap, subst, ◌∙◌, Some, None, filter, map, fold}
use Rattle.std.specs.List.{find}
use Rattle.std.proofs.lemmas.List.{append-nil}
use Rattle.oz_base.specs.declared.names.Ident.{Ident}
use Rattle.oz_language.specs.declared.kernel.Statement.{Statement}
use Rattle.oz_semantics.specs.Names.{is_properly_below}
use Rattle.oz_semantics.specs.Configurations.{is_of, layer_at, layer_of, failed}
use Rattle.oz_semantics.specs.Triggers.{triggered}
use Rattle.oz_semantics.specs.Settling.{Turned, may_fail, is_inconsistent, inconsistent_spaces, failing, without_inconsistent, top_is_inconsistent, top_failed, runnable, is_among, queue_after, requeued, settled}
use Rattle.oz_semantics.specs.declared.configuration.Layer.{Layer}
use Rattle.oz_semantics.specs.declared.configuration.Configuration.{Configuration}
use Rattle.oz_semantics.specs.declared.outcome.Stepped.TheVariants.{Moved, TopEnded, Quiescent}
use Rattle.oz_laws.proofs.SameLaws.{In, and-left}
use Rattle.view_laws.specs.Trees.{is_ascending, names_of}
use Rattle.view_laws.proofs.Members.{decide, not_both}
use Rattle.view_laws.proofs.ListLaws.{in_among, filter_in, in_filter, filter_all, filter_none, map_in, in_edit, edited_in, found_in}
use Rattle.view_laws.proofs.NameLaws.{equal_names}
use Rattle.view_laws.proofs.NeedLaws.{nothing_fires}
use Rattle.view_laws.proofs.TreeLaws.{same_named_layer, names_edited, ascending_filter}
use Rattle.need_laws.specs.Needs.{Fires}
use Rattle.need_laws.proofs.FireLaws.{all_fired, fired_of}
use Rattle.edit_laws.proofs.GraftLaws.{there_of, has_of_in}
use Rattle.settle_laws.specs.Turns.{Left}
use Rattle.settle_laws.proofs.SettleLaws.{settled_by, nothing_fails}
use Rattle.settle_laws.proofs.SoundLaws.{sound_nothing}
use Rattle.settle_laws.proofs.TurnLaws.{settled_exact}
use Rattle.settle_laws.proofs.ContentLaws.{settled_content}
use Rattle.inside_laws.specs.Settled.{IsSettled, KeptSettled, LeftAsTheyAre}

pub kept_settled : KeptSettled
kept_settled statements c kept = record { ordered = kept.tree.ordered; sound = sound_nothing c.layers kept.sound; content = kept.content; exact = kept.exact }

-- A settled one is left as it is

-- a queue of exactly those that can step
queue_stays : (ids queue : List Ident) → ((id : Ident) → is_among queue id ≡ is_among ids id) → queue_after ids None queue ≡ queue
queue_stays ids queue exact =
    ap (λ (stay : List Ident). stay ++ filter (λ id. not (is_among stay id)) ids) (append-nil (filter (is_among ids) queue) ∙ all)
    ∙ ap (λ (more : List Ident). queue ++ more) none ∙ append-nil queue
  where
    all : filter (is_among ids) queue ≡ queue
    all = filter_all (is_among ids) queue (λ id i. sym (exact id) ∙ in_among queue id i)

    none : filter (λ id. not (is_among queue id)) ids ≡ []
    none = filter_none (λ id. not (is_among queue id)) ids (λ id i. ap not (exact id ∙ in_among ids id i))

settled_stays : (statements : List Statement) (c : Configuration) (cost : ℕ) → IsSettled statements c → Left (settled statements None cost c) cost c
settled_stays statements c cost h =
    settled_by statements None cost [] c.layers c.layers c.queue c.shown (nothing_fails [] c.layers h.sound)
    ∙ ap (λ (layers : List Layer). (Moved cost, record c { layers = layers; queue = queue_after (runnable statements layers) None c.queue })) (nothing_fires statements c.layers h.content)
    ∙ ap (λ (queue : List Ident). (Moved cost, record c { queue = queue })) (queue_stays (runnable statements c.layers) c.queue h.exact)

-- One that is left as it is is settled

failing_ascending : (t : List ℕ) (ls : List Layer) → is_ascending (names_of ls) ≡ true → is_ascending (names_of (failing ls t)) ≡ true
failing_ascending t ls e =
    let rest = filter (λ (l : Layer). not (is_properly_below t l.space)) ls in
    ap is_ascending (names_edited (is_of t) failed rest (λ l q. refl)) ∙ ascending_filter (λ (l : Layer). not (is_properly_below t l.space)) ls e

-- no layer of the space may fail
abbrev Done : List ℕ → List Layer → Type 0
Done t ls = (m : Layer) → In m ls → m.space ≡ t → may_fail m.status ≡ false

-- so it is where it failed
failed_done : (t : List ℕ) (ls : List Layer) → is_ascending (names_of ls) ≡ true → Done t (failing ls t)
failed_done t ls e m i q = by (in_edit (is_of t) failed rest m i)
  where
    rest : List Layer
    rest = filter (λ (l : Layer). not (is_properly_below t l.space)) ls

    by : In m rest ⊎ ((y : Layer) × (find (is_of t) rest ≡ Some y) × (m ≡ failed y)) → may_fail m.status ≡ false
    by (inr r) = ap (λ (n : Layer). may_fail n.status) r.2
    by (inl j) =
        let first : layer_at rest t ≡ Some (layer_of rest t) = there_of (layer_at rest t) t (has_of_in rest m t j q) in
        let y = found_in (is_of t) failed rest (layer_of rest t) first in
        let same : m ≡ failed (layer_of rest t) =
        same_named_layer (failing ls t) m (failed (layer_of rest t)) (failing_ascending t ls e) i (edited_in (is_of t) failed rest (layer_of rest t) first) (q ∙ sym (equal_names (layer_of rest t).space t y.1)) in
        ap (λ (n : Layer). may_fail n.status) same

-- and stays so where others fail
still_done : (t u : List ℕ) (ls : List Layer) → Done t ls → Done t (failing ls u)
still_done t u ls done m i q = by (in_edit (is_of u) failed rest m i)
  where
    rest : List Layer
    rest = filter (λ (l : Layer). not (is_properly_below u l.space)) ls

    by : In m rest ⊎ ((y : Layer) × (find (is_of u) rest ≡ Some y) × (m ≡ failed y)) → may_fail m.status ≡ false
    by (inl j) = done m (filter_in (λ (l : Layer). not (is_properly_below u l.space)) ls m j).0 q
    by (inr r) = ap (λ (n : Layer). may_fail n.status) r.2

all_still_done : (t : List ℕ) (us : List (List ℕ)) (ls : List Layer) → Done t ls → Done t (fold failing ls us)
all_still_done t [] ls done = done
all_still_done t (u ∷ us) ls done = all_still_done t us (failing ls u) (still_done t u ls done)

all_done : (t : List ℕ) (us : List (List ℕ)) (ls : List Layer) → is_ascending (names_of ls) ≡ true → In t us → Done t (fold failing ls us)
all_done t [] ls e h = elim h [ ]
all_done t (u ∷ us) ls e (inl q) = subst (λ s. Done s (fold failing (failing ls u) us)) q (all_still_done u us (failing ls u) (failed_done u ls e))
all_done t (u ∷ us) ls e (inr h) = all_done t us (failing ls u) (failing_ascending u ls e) h

-- what is left where the inconsistent have failed and what is needed has begun
abbrev followed_by : List Statement → List Layer → List Layer
followed_by statements layers = triggered statements (without_inconsistent layers)

-- where it is the same, none was inconsistent: one that was may fail no more
same_sound : (statements : List Statement) (layers : List Layer) → is_ascending (names_of layers) ≡ true → followed_by statements layers ≡ layers → inconsistent_spaces layers ≡ []
same_sound statements layers e same = ap (map (λ (l : Layer). l.space)) (filter_none (is_inconsistent layers) layers none)
  where
    rest : List Layer
    rest = without_inconsistent layers

    none : (l : Layer) → In l layers → is_inconsistent layers l ≡ false
    none l i = elim (decide (is_inconsistent layers l)) [
      | inr k ↦ k
      | inl k ↦ (let r = fired_of rest (triggered statements rest) (all_fired statements rest) l (subst (λ ls. In l ls) (sym same) i) in
          let fires : Fires r.0 l = r.2 in
          let named : In r.0.space (inconsistent_spaces layers) =
          subst (λ s. In s (inconsistent_spaces layers)) fires.space (map_in (λ (m : Layer). m.space) (filter (is_inconsistent layers) layers) l (in_filter (is_inconsistent layers) layers l i k)) in
          let over : may_fail r.0.status ≡ false = all_done r.0.space (inconsistent_spaces layers) layers e named r.0 r.1 refl in
          absurd (not_both _ (and-left (may_fail l.status) _ k) (ap may_fail fires.status ∙ over)))
    ]

-- where the machine moved, what it left has these layers
abbrev MovedTo : List Layer → Turned → Type 0
MovedTo layers (Moved cost, d) = d.layers ≡ layers
MovedTo layers (TopEnded x cost, d) = Unit {0}
MovedTo layers (Quiescent, d) = Unit {0}

moved_to : (statements : List Statement) (cost : ℕ) (c : Configuration) → MovedTo (followed_by statements c.layers) (settled statements None cost c)
moved_to statements cost c = by (top_is_inconsistent c.layers)
  where
    by : (b : Bool) → MovedTo (followed_by statements c.layers) (if b then top_failed cost c else (Moved cost, requeued statements None c (followed_by statements c.layers)))
    by true = tt
    by false = refl

stays_settled : (statements : List Statement) (c : Configuration) (cost : ℕ) → is_ascending (names_of c.layers) ≡ true → Left (settled statements None cost c) cost c → IsSettled statements c
stays_settled statements c cost e left = record {
  ordered = e;
  sound = same_sound statements c.layers e (sym (subst (MovedTo (followed_by statements c.layers)) left (moved_to statements cost c)));
  content = settled_content statements None cost c cost c left;
  exact = settled_exact statements None cost c cost c left;
}

pub left_as_they_are : LeftAsTheyAre
left_as_they_are statements c cost e = (settled_stays statements c cost, stays_settled statements c cost e)
