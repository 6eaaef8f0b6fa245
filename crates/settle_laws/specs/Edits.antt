-- Edits of one layer after another, and which of them are quiet.
use Rattle.std.specs.Prelude.{ℕ, ◌≡◌, List, Some, is_some, length}
use Rattle.std.specs.List.{filter_map}
use Rattle.oz_base.specs.declared.names.Ident.{Ident}
use Rattle.oz_semantics.specs.Configurations.{layer_at, layer_of, view, in_layer, with_frames, without_terminated, telling, giving_out, counting_procedure, counting_name, counting_child, spawning, adding_cell, with_content, adding_port, with_end, adding_trigger}
use Rattle.oz_semantics.specs.Sights.{Sight}
use Rattle.oz_semantics.specs.Edits.{chosen_tells, choosing, thread_offer, committing}
use Rattle.oz_base.specs.Lists.{first, edit_first}
use Rattle.oz_base.specs.declared.interval.Interval.{Interval}
use Rattle.oz_base.specs.declared.relation.Relation.{Relation}
use Rattle.oz_semantics.specs.Store.{View}
use Rattle.oz_semantics.specs.Propagation.{posting, noting}
use Rattle.oz_semantics.specs.Terms.{Term}
use Rattle.oz_semantics.specs.Exceptions.{new_term_tells, with_term}
use Rattle.oz_semantics.specs.Steps.{without_top}
use Rattle.oz_semantics.specs.declared.configuration.Frame.{Frame}
use Rattle.oz_semantics.specs.declared.configuration.Layer.{Layer}
use Rattle.settle_laws.specs.Settles.{IsQuiet}

-- Two edits of one layer are one
abbrev pub EditsJoin : Type 0
EditsJoin =
    (space : List ℕ) (f g : Layer → Layer) (layers : List Layer) → ((l : Layer) → (g l).space ≡ l.space)
    → in_layer space f (in_layer space g layers) ≡ in_layer space (λ l. f (g l)) layers

-- Two edits that make the same of the layer are the same
abbrev pub EditsAgree : Type 0
EditsAgree =
    (space : List ℕ) (f g : Layer → Layer) (layers : List Layer) → ((l : Layer) → layer_at layers space ≡ Some l → f l ≡ g l) → in_layer space f layers ≡ in_layer space g layers

-- A term may be told, and then its variables given out
abbrev pub TermSettles : Type 0
TermSettles =
    (space : List ℕ) (t : Term) (layers : List Layer) (l : Layer) → layer_at layers space ≡ Some l
    → in_layer space (giving_out (length t)) (in_layer space (telling (new_term_tells (layer_of layers space) t)) layers) ≡ in_layer space (with_term t) layers

-- the thread that offers goes on with its i-th alternative
abbrev pub choosing_in : Sight → ℕ → Layer → Layer
choosing_in s i l = record l { threads = edit_first (λ t. is_some (thread_offer s t)) (λ t. choosing i t (thread_offer s t)) l.threads }

-- what is told with it
abbrev pub telling_choice : Sight → ℕ → Layer → Layer
telling_choice s i l = telling (chosen_tells i (first (filter_map (thread_offer s) l.threads))) l

-- A commitment is both
abbrev pub CommittingParts : Type 0
CommittingParts = (s : Sight) (i : ℕ) (l : Layer) → committing s i l ≡ choosing_in s i (telling_choice s i l)

-- The changes of a step that tell nothing are quiet
pub record AreQuiet : Type 0 where
  pub frames : (number : ℕ) (change : List Frame → List Frame) → IsQuiet (with_frames number change)
  pub terminated : IsQuiet without_terminated
  pub variables : (n : ℕ) → IsQuiet (giving_out n)
  pub procedure : IsQuiet counting_procedure
  pub name : IsQuiet counting_name
  pub child : IsQuiet counting_child
  pub choice : (s : Sight) (i : ℕ) → IsQuiet (choosing_in s i)
  pub threads : (fs : List Frame) → IsQuiet (spawning fs)
  pub cell : (content : Ident) → IsQuiet (adding_cell content)
  pub content : (number : ℕ) (content : Ident) → IsQuiet (with_content number content)
  pub port : (end : Ident) → IsQuiet (adding_port end)
  pub end : (number : ℕ) (end : Ident) → IsQuiet (with_end number end)
  pub trigger : (procedure variable : Ident) → IsQuiet (adding_trigger procedure variable)
  pub propagator : (r : Relation) (xs : List Ident) → IsQuiet (posting r xs)
  pub noted : (v : View) (ds : List (List Interval)) → IsQuiet (noting v ds)
  pub both : (f g : Layer → Layer) → IsQuiet f → IsQuiet g → IsQuiet (λ l. f (g l))

-- A quiet change leaves a space there that is there
abbrev pub QuietThere : Type 0
QuietThere = (change : Layer → Layer) (layers : List Layer) (space other : List ℕ) → IsQuiet change → is_some (layer_at (in_layer space change layers) other) ≡ is_some (layer_at layers other)

-- and what each space sees
abbrev pub QuietView : Type 0
QuietView = (change : Layer → Layer) (layers : List Layer) (space other : List ℕ) → IsQuiet change → view (in_layer space change layers) other ≡ view layers other

-- as does a statement that is taken off a stack
abbrev pub PopView : Type 0
PopView = (id : Ident) (layers : List Layer) (other : List ℕ) → view (without_top id layers) other ≡ view layers other
