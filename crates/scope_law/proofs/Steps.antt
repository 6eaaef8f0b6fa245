-- What the induction over phrases takes at single constructs.
use Rattle.std.proofs.Common.{◌≡◌, inl, inr, ℕ, List, [], ◌∷◌, ◌++◌, Option, Some, None, Bool, true, false, refl, subst}
use Rattle.std.specs.List.{Contains}
use Rattle.std.proofs.lemmas.List.Elements.{Contains-append_left}
use Rattle.oz_language.specs.declared.kernel.Identifier.{Identifier}
use Rattle.oz_language.specs.declared.kernel.Identifier.TheVariants.{Word}
use Rattle.oz_language.specs.Grammar.{Phrase, Phrases, nothing, more, var, int, keyed, paren, select, head, are_parameters}
use Rattle.oz_language.specs.Refusals.{contains, variables_in, variables_in_each, with_names, name_in, parameters_in}
use Rattle.oz_language.specs.Translation.{Made, Goal, statement, value, variable_of, parameter_names, parameters_of, word_or_none, procedure_name, or_skip, behind_factor, behind_side}
use Rattle.scope_law.specs.Closed.{ClosedAll}
use Rattle.scope_law.proofs.Basics.{here, first_name, firsts, append_first}
use Rattle.scope_law.proofs.Scopes.{Within, Makes, Codes}
use Rattle.scope_law.proofs.Names.{Knows, known_within, known_more, parameter_in}
use Rattle.scope_law.proofs.Bound.{NameBound, NameOf}
use Rattle.scope_law.proofs.Sides.{IsFactor, IsProduct, IsSide}

-- ---- goals

abbrev pub is_value : Goal → Bool
is_value statement = false
is_value (value x) = true

-- what gets the value is in scope
abbrev pub GoalIn : List Identifier → Goal → Type 0
GoalIn S statement = Unit {0}
GoalIn S (value x) = Contains S x

pub goal_within : {S T : List Identifier} (g : Goal) → Within S T → GoalIn S g → GoalIn T g
goal_within statement w h = tt
goal_within (value x) w h = w.kept x h

-- ---- what parts make

pub makes_of : {names : List ℕ} {S : List Identifier} {make : Identifier → ℕ → Made} → Knows names S → ((T : List Identifier) → Within S T → Knows names T → (x : Identifier) → Contains T x → (i : ℕ) → ClosedAll T (make x i).code) → Makes S make
makes_of k f = record { code = λ T w x h i. f T w (known_within w k) x h i }

pub codes_of : {names : List ℕ} {S : List Identifier} {make : ℕ → Made} → Knows names S → ((T : List Identifier) → Within S T → Knows names T → (i : ℕ) → ClosedAll T (make i).code) → Codes S make
codes_of k f = record { code = λ T w i. f T w (known_within w k) i }

pub skip_or : (S : List Identifier) (ss : Phrases) (a : Made) → ClosedAll S a.code → ClosedAll S (or_skip ss a).code
skip_or S nothing a h = (tt, tt)
skip_or S (more p ps) a h = h

-- ---- procedures

word_in : (names : List ℕ) (S : List Identifier) (v : Option ℕ) → Knows names S → NameBound names v → Contains S (word_or_none v)
word_in names S (Some name) k h = k.word name h
word_in names S None k h = elim h [ ]

pub procedure_in : (names : List ℕ) (S : List Identifier) (g : Goal) (h : Phrase) → Knows names S → GoalIn S g → NameOf names (is_value g) h → Contains S (procedure_name g h)
procedure_in names S statement h k i n = word_in names S (name_in h) k n
procedure_in names S (value x) h k i n = i

parameters_same : (h : Phrase) → parameters_in h ≡ variables_in_each (parameters_of h)
parameters_same (head at (more p ps)) = refl
parameters_same p = refl

-- the parameters of a head, and others
pub known_parameters : (names : List ℕ) (S : List Identifier) (n : ℕ) (h : Phrase) (ys : List Identifier) → Knows names S → are_parameters (parameters_of h) ≡ true → Knows (with_names (parameters_in h) names) ((parameter_names n (parameters_of h) ++ ys) ++ S)
known_parameters names S n h ys k p = known_more (parameters_in h) names (parameter_names n (parameters_of h) ++ ys) S
    (λ w i. Contains-append_left (parameter_names n (parameters_of h)) ys (Word w) (parameter_in n (parameters_of h) w p (subst (λ xs. contains (firsts xs) w ≡ true) (parameters_same h) i))) k

pub known_by_parameters : (names : List ℕ) (S : List Identifier) (n : ℕ) (h : Phrase) → Knows names S → are_parameters (parameters_of h) ≡ true → Knows (with_names (parameters_in h) names) (parameter_names n (parameters_of h) ++ S)
known_by_parameters names S n h k p = known_more (parameters_in h) names (parameter_names n (parameters_of h)) S
    (λ w i. parameter_in n (parameters_of h) w p (subst (λ xs. contains (firsts xs) w ≡ true) (parameters_same h) i)) k

-- ---- a clause that catches all

caught : (p : Phrase) (y : Identifier) (w : ℕ) → variable_of p ≡ Some y → contains (firsts (variables_in p)) w ≡ true → Contains (y ∷ []) (Word w)
caught (var name at) y w e h = elim (first_name name w [] h) [
  | inl i ↦ (let same : y ≡ Word w = cc in subst (λ x. Contains (y ∷ []) x) same (here y []))
  | inr i ↦ absurd (cc)
]
caught (paren at (more e nothing)) y w i h = elim (append_first (variables_in e) [] w h) [ inl l ↦ caught e y w i l | inr l ↦ absurd (cc) ]
caught (keyed c at e) y w i h = caught e y w i h
caught p y w e h = absurd (cc)

pub known_caught : (names : List ℕ) (S : List Identifier) (p : Phrase) (y : Identifier) → Knows names S → variable_of p ≡ Some y → Knows (with_names (variables_in p) names) (y ∷ S)
known_caught names S p y k e = known_more (variables_in p) names (y ∷ []) S (λ w h. caught p y w e h) k

-- ---- factors of a product

pub factor_side : (p : Phrase) → IsFactor p → IsSide p
factor_side (int i at) h = h
factor_side (var name at) h = h
factor_side (select e f) h = h
factor_side p h = elim h [ inl k ↦ elim k [ ] | inr k ↦ elim k [ ] ]

pub factor_behind : (n : ℕ) (p : Phrase) → IsFactor p → behind_side n p ≡ behind_factor n p
factor_behind n (int i at) h = refl
factor_behind n (var name at) h = refl
factor_behind n (select e f) h = refl
factor_behind n p h = elim h [ inl k ↦ elim k [ ] | inr k ↦ elim k [ ] ]

pub first_factor : (a b : Phrase) → IsProduct a b → IsFactor a
first_factor a b (inl h) = inl h.0
first_factor a b (inr h) = inr h.0

pub second_factor : (a b : Phrase) → IsProduct a b → IsFactor b
second_factor a b (inl h) = inr h.1
second_factor a b (inr h) = h.1
