-- What can be done below a space goes by the states of the spaces behind it: in the order of names all that are below it come behind it.
use Rattle.std.proofs.Common.{◌≡◌, inl, inr, ℕ, Bool, true, false, not, ◌||◌, if◌then◌else◌, cond, List, [], ◌∷◌, ◌++◌, refl, sym, ap, ap₂, subst, ◌∙◌, Contains, Option, Some, map}
use Rattle.std.specs.Prelude.{option_map}
use Rattle.std.specs.List.{find, list_any, list_all}
use Rattle.std.proofs.lemmas.Bool.{false≢true}
use Rattle.oz_base.specs.Lists.{list_eq}
use Rattle.oz_base.specs.declared.names.Ident.{Ident}
use Rattle.oz_language.specs.declared.kernel.Statement.{Statement}
use Rattle.oz_semantics.specs.Names.{is_below, is_top, is_child_of, parent_of, space_lt}
use Rattle.oz_semantics.specs.Configurations.{is_open, view}
use Rattle.oz_semantics.specs.Sights.{Sight, States, state_in, Readiness, can_step}
use Rattle.oz_semantics.specs.Answers.{Answer, Operates}
use Rattle.oz_semantics.specs.Operations.{operated, with_state, by_state}
use Rattle.oz_semantics.specs.Statements.{stack_answer}
use Rattle.oz_semantics.specs.Readiness.{answer_ready}
use Rattle.oz_semantics.specs.Spaces.{sight, ready_in, has_due, layer_goes_on, layers_below, subtree_goes_on, state_by, states_behind, states_of}
use Rattle.oz_semantics.specs.declared.value.SpaceOperation.{SpaceOperation}
use Rattle.oz_semantics.specs.declared.value.Value.TheVariants as value
use Rattle.oz_semantics.specs.declared.value.Tell.TheVariants.{Is}
use Rattle.oz_semantics.specs.declared.configuration.Frame.{Frame}
use Rattle.oz_semantics.specs.declared.configuration.Thread.{Thread}
use Rattle.oz_semantics.specs.declared.configuration.Layer.{Layer}
use Rattle.oz_semantics.specs.declared.outcome.State.{State}
use Rattle.oz_laws.proofs.SameLaws.{In, and-left, and-right, eq-refl}
use Rattle.view_laws.specs.Trees.{is_ascending, names_of}
use Rattle.view_laws.proofs.Members.{decide, not_both, and_both, In-right}
use Rattle.view_laws.proofs.ListLaws.{map_in}
use Rattle.view_laws.proofs.NameLaws.{below_trans, equal_names, not_above_parent}
use Rattle.view_laws.proofs.TreeLaws.{lt_trans, lt_itself, lt_other, above_not_less}
use Rattle.view_laws.proofs.AnswerLaws.{stack_holds}

-- Names

parent_above : (s : List ℕ) → is_below (parent_of s) s ≡ true
parent_above [] = refl
parent_above (a ∷ []) = refl
parent_above (a ∷ b ∷ s) = and_both _ _ (eq-refl a) (parent_above (b ∷ s))

not_true : (b : Bool) → not b ≡ true → b ≡ false
not_true true e = absurd (false≢true e)
not_true false e = refl

-- a child of a space that is below another one comes behind that
pub child_behind : (space inner child : List ℕ) → is_below space inner ≡ true → is_child_of inner child ≡ true → space_lt space child ≡ true
child_behind space inner child below e =
    let top : is_top child ≡ false = not_true (is_top child) (and-left (not (is_top child)) (list_eq (parent_of child) inner) e) in
    let parent : parent_of child ≡ inner = equal_names (parent_of child) inner (and-right (not (is_top child)) (list_eq (parent_of child) inner) e) in
    let under : is_below inner child ≡ true = subst (λ s. is_below s child ≡ true) parent (parent_above child) in
    let apart : is_below child inner ≡ false = ap (is_below child) (sym parent) ∙ not_above_parent child top in
    lt_other child space (above_not_less child space (below_trans space inner child below under))
    (λ same. not_both _ (subst (λ s. is_below s inner ≡ true) same below) apart)

-- States

abbrev named_by : List ℕ → List ℕ × State → Bool
named_by space s = list_eq s.0 space

-- one that has not the name is passed over
pass_over : (name : List ℕ) (st : State) (rest : States) (space : List ℕ) → list_eq name space ≡ false → state_in ((name, st) ∷ rest) space ≡ state_in rest space
pass_over name st rest space e = ap (λ (b : Bool). option_map (λ (s : List ℕ × State). s.1) (cond b (Some (name, st)) (find (named_by space) rest))) e

less_apart : (s t : List ℕ) → space_lt s t ≡ true → list_eq s t ≡ false
less_apart s t e = elim (decide (list_eq s t)) [
  | inl k ↦ absurd (not_both _ e (ap (space_lt s) (sym (equal_names s t k)) ∙ lt_itself s))
  | inr k ↦ k
]

all_in : (p : List ℕ → Bool) (ss : List (List ℕ)) → list_all p ss ≡ true → (s : List ℕ) → In s ss → p s ≡ true
all_in p [] e s h = elim h [ ]
all_in p (t ∷ ss) e s (inl k) = ap p (sym k) ∙ and-left _ _ e
all_in p (t ∷ ss) e s (inr h) = all_in p ss (and-right _ _ e) s h

-- one whose name comes behind that of a layer has its state by those behind the layer
behind_alone : (statements : List Statement) (layers front ls : List Layer) (l : Layer) (space : List ℕ) → is_ascending (names_of (front ++ l ∷ ls)) ≡ true → space_lt l.space space ≡ true
    → state_in (states_behind statements layers (front ++ l ∷ ls)) space ≡ state_in (states_behind statements layers ls) space
behind_alone statements layers [] ls l space e less =
    pass_over l.space (state_by statements layers (states_behind statements layers ls) l l.status) (states_behind statements layers ls) space (less_apart l.space space less)
behind_alone statements layers (f ∷ front) ls l space e less =
    let there : In l.space (names_of (front ++ l ∷ ls)) = map_in (λ (m : Layer). m.space) (front ++ l ∷ ls) l (In-right l front (l ∷ ls) (inl refl)) in
    let first : space_lt f.space l.space ≡ true = all_in (space_lt f.space) (names_of (front ++ l ∷ ls)) (and-left _ _ e) l.space there in
    pass_over f.space (state_by statements layers (states_behind statements layers (front ++ l ∷ ls)) f f.status) (states_behind statements layers (front ++ l ∷ ls)) space
    (less_apart f.space space (lt_trans f.space l.space space first less))
    ∙ behind_alone statements layers front ls l space (and-right _ _ e) less

-- Threads

-- a thread goes by the states of the children of its space
abbrev pub AgreeOnChildren : States → States → List ℕ → Type 0
AgreeOnChildren one other space = (child : List ℕ) → is_child_of space child ≡ true → state_in one child ≡ state_in other child

module _ (layers : List Layer) (s : Sight) (one other : States) (agree : AgreeOnChildren one other s.space) where
  abbrev Agreed : Answer → Type 0
  Agreed a = by_state layers s one a ≡ by_state layers s other a

  operation_agrees : (op : SpaceOperation) (child : List ℕ) (x y : Ident) → Contains s.view (Is y (value.Space child)) → is_child_of s.space child ≡ true → Agreed (Operates op child x)
  operation_agrees op child x y told below = ap (λ (o : Option State). with_state o (operated s (view layers child) op child x)) (agree child below)

  stack_agrees : (frames : List Frame) → Agreed (stack_answer s frames)
  stack_agrees frames = stack_holds s Agreed (λ act. refl) (λ procedure x. refl) (λ kind. refl) (λ x. refl) (λ ts. refl) (λ ready. refl) operation_agrees frames

pub ready_agrees : (statements : List Statement) (layers : List Layer) (one other : States) (space : List ℕ) → AgreeOnChildren one other space → (t : Thread)
    → ready_in statements layers one space t ≡ ready_in statements layers other space t
ready_agrees statements layers one other space agree t = ap answer_ready (stack_agrees layers (sight statements layers space) one other agree t.frames)

goes_agrees : (statements : List Statement) (layers : List Layer) (one other : States) (l : Layer) → AgreeOnChildren one other l.space → layer_goes_on statements layers one l ≡ layer_goes_on statements layers other l
goes_agrees statements layers one other l agree =
    let each : ◌≡◌ {A = Thread → Readiness} (ready_in statements layers one l.space) (ready_in statements layers other l.space) = λ i t. ready_agrees statements layers one other l.space agree t i in
    ap (λ (f : Thread → Readiness). list_any can_step (if is_open l.status then map f l.threads else []) || has_due (view layers l.space) l) each

below_agrees : (p q : Layer → Bool) (space : List ℕ) → ((m : Layer) → is_below space m.space ≡ true → p m ≡ q m) → (ls : List Layer) → list_any p (layers_below ls space) ≡ list_any q (layers_below ls space)
below_agrees p q space h [] = refl
below_agrees p q space h (m ∷ ls) = by (is_below space m.space) refl (below_agrees p q space h ls)
  where
    by : (b : Bool) → is_below space m.space ≡ b → list_any p (layers_below ls space) ≡ list_any q (layers_below ls space)
        → list_any p (cond b (m ∷ layers_below ls space) (layers_below ls space)) ≡ list_any q (cond b (m ∷ layers_below ls space) (layers_below ls space))
    by true e rest = ap₂ (λ (a b : Bool). a || b) (h m e) rest
    by false e rest = rest

-- So something of a space or below it can step by the states behind it exactly where something can by those of all spaces
pub behind_goes_on : (statements : List Statement) (layers front ls : List Layer) (l : Layer) → layers ≡ front ++ l ∷ ls → is_ascending (names_of layers) ≡ true
    → subtree_goes_on statements layers (states_behind statements layers ls) l.space ≡ subtree_goes_on statements layers (states_of statements layers) l.space
behind_goes_on statements layers front ls l parts ordered =
    below_agrees (layer_goes_on statements layers (states_behind statements layers ls)) (layer_goes_on statements layers (states_of statements layers)) l.space
    (λ m below. goes_agrees statements layers (states_behind statements layers ls) (states_of statements layers) m
    (λ child under. sym (ap (λ (all : List Layer). state_in (states_behind statements layers all) child) parts
    ∙ behind_alone statements layers front ls l child (subst (λ (all : List Layer). is_ascending (names_of all) ≡ true) parts ordered) (child_behind l.space m.space child below under)))) layers
