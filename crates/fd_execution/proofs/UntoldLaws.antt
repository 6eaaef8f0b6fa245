-- Variables that are not told anything yet, and what stays so.
use Rattle.std.proofs.Common.{◌≡◌, ◌≢◌, ℕ, ◌+◌, ◌<◌, List, [], ◌∷◌, map, Contains, ◌∙◌, subst, arith}
use Rattle.std.specs.List.{range_with_len}
use Rattle.environments.specs.Environments.{Environment, bound, binding_all}
use Rattle.oz_base.specs.declared.names.Ident.{Ident}
use Rattle.oz_language.specs.declared.kernel.Identifier.{Identifier}
use Rattle.oz_language.specs.declared.kernel.Identifier.TheVariants.{Word, Fresh}
use Rattle.oz_semantics.specs.Store.{View}
use Rattle.oz_semantics.specs.declared.value.Value.{Value}
use Rattle.oz_semantics.specs.declared.value.Tell.TheVariants.{Is}
use Rattle.view_laws.specs.Readies.{Keeps}
use Rattle.view_laws.proofs.ViewLaws.{same_kept}
use Rattle.fd_stores.specs.Stores.{Constraint}
use Rattle.fd_views.specs.Views.{IsFree, HasValue, IsList, ends, cell}
use Rattle.fd_turns.specs.Nodes.{Top, own}
use Rattle.fd_steps.specs.States.{State, with_room, view_of, IsGood, IsLater}
use Rattle.fd_steps.proofs.GoodLaws.{new_free, new_other}
use Rattle.fd_steps.proofs.DueTurns.{Nothing, runs_then}
use Rattle.fd_execution.proofs.ScopeLaws.{bound_here, bound_other}

-- ---- what was told

pub value_stays : (a b : View) (x : Ident) (v : Value) → Keeps a b → HasValue a x v → HasValue b x v
value_stays a b x v k h = record { variable = h.variable; equal = same_kept a b k h.equal; told = k (Is h.variable v) h.told }

pub list_stays : (a b : View) (x : Ident) (ys : List Ident) → Keeps a b → IsList a x ys → IsList b x ys
list_stays a b x ys k (ends h) = ends (value_stays a b x _ k h)
list_stays a b x ys k (cell h l) = cell (value_stays a b x _ k h) (list_stays a b _ _ k l)

-- ---- what was not

-- it was given out, is free, and is no variable of the search
pub record IsUntold (t : Top) (st : State) (i : ℕ) : Type 0 where
  pub inside : i < st.next
  pub free : IsFree (view_of t st) (own i)
  pub other : Contains st.variables (own i) → ⊥

pub untold_later : (t : Top) (cs : List Constraint) (told : ℕ → Type 0) (a b : State) (i : ℕ) → IsUntold t a i → IsLater t cs told a b → (told i → ⊥) → IsUntold t b i
untold_later t cs told a b i u l n = record {
  inside = (let x = u.inside in let y = l.next in omega arith);
  free = l.free i u.inside n u.free;
  other = λ c. u.other (subst (λ xs. Contains xs (own i)) l.variables c);
}

pub untold_new : (t : Top) (cs : List Constraint) (st b : State) (n j : ℕ) → IsGood t cs st → IsLater t cs Nothing (with_room n st) b → j < n → IsUntold t b (st.next + j)
untold_new t cs st b n j h l m = record {
  inside = (let y = l.next in omega (arith, y, m));
  free = l.free (st.next + j) (omega (arith, m)) (λ e. e) (new_free t cs st h (st.next + j) (omega arith));
  other = λ c. new_other t cs st h (st.next + j) (omega arith) (subst (λ xs. Contains xs (own (st.next + j))) l.variables c);
}

-- what is told later counts where it was given out before
pub later_on : (t : Top) (cs : List Constraint) (told next : ℕ → Type 0) (a b c : State) → IsLater t cs told a b → IsLater t cs next b c → ((i : ℕ) → i < a.next → next i → told i) → IsLater t cs told a c
later_on t cs told next a b c h g w = record {
  keeps = λ u k. g.keeps u (h.keeps u k);
  runs = runs_then cs h.runs g.runs;
  next = (let x = h.next in let y = g.next in omega arith);
  variables = g.variables ∙ h.variables;
  posted = g.posted ∙ h.posted;
  free = λ i l n f. g.free i (let x = h.next in omega (arith, l, x)) (λ z. n (w i l z)) (h.free i l n f);
}

-- ---- fresh identifiers

pub fresh_word : (w n : ℕ) → Word w ≢ Fresh n
fresh_word w n e = cc

-- one new identifier
pub one_bound : (n i : ℕ) (e : Environment) → bound (binding_all (Fresh n ∷ []) (map own (range_with_len i 1)) e) (Fresh n) ≡ own i
one_bound n i e = bound_here (Fresh n) (own i) e

pub one_other : (x : Identifier) (n i : ℕ) (e : Environment) → x ≢ Fresh n → bound (binding_all (Fresh n ∷ []) (map own (range_with_len i 1)) e) x ≡ bound e x
one_other x n i e d = bound_other (Fresh n) x (own i) e d

-- two
pub first_bound : (n m i : ℕ) (e : Environment) → bound (binding_all (Fresh n ∷ Fresh m ∷ []) (map own (range_with_len i 2)) e) (Fresh n) ≡ own i
first_bound n m i e = bound_here (Fresh n) (own i) (binding_all (Fresh m ∷ []) (map own (range_with_len (i + 1) 1)) e)

pub second_bound : (n m i : ℕ) (e : Environment) → n ≢ m → bound (binding_all (Fresh n ∷ Fresh m ∷ []) (map own (range_with_len i 2)) e) (Fresh m) ≡ own (i + 1)
second_bound n m i e d = bound_other (Fresh n) (Fresh m) (own i) (binding_all (Fresh m ∷ []) (map own (range_with_len (i + 1) 1)) e) (λ f. d (same m n f)) ∙ bound_here (Fresh m) (own (i + 1)) e where
  same : (m n : ℕ) → Fresh m ≡ Fresh n → n ≡ m
  same m n f = cc

pub two_other : (x : Identifier) (n m i : ℕ) (e : Environment) → x ≢ Fresh n → x ≢ Fresh m → bound (binding_all (Fresh n ∷ Fresh m ∷ []) (map own (range_with_len i 2)) e) x ≡ bound e x
two_other x n m i e d f = bound_other (Fresh n) x (own i) (binding_all (Fresh m ∷ []) (map own (range_with_len (i + 1) 1)) e) d ∙ bound_other (Fresh m) x (own (i + 1)) e f

-- three
pub third_bound : (n m l i : ℕ) (e : Environment) → n ≢ l → m ≢ l → bound (binding_all (Fresh n ∷ Fresh m ∷ Fresh l ∷ []) (map own (range_with_len i 3)) e) (Fresh l) ≡ own (i + 1 + 1)
third_bound n m l i e d f = bound_other (Fresh n) (Fresh l) (own i) (binding_all (Fresh m ∷ Fresh l ∷ []) (map own (range_with_len (i + 1) 2)) e) (λ g. d (same l n g)) ∙ second_bound m l (i + 1) e f where
  same : (m n : ℕ) → Fresh m ≡ Fresh n → n ≡ m
  same m n f = cc

pub second_of_three : (n m l i : ℕ) (e : Environment) → n ≢ m → bound (binding_all (Fresh n ∷ Fresh m ∷ Fresh l ∷ []) (map own (range_with_len i 3)) e) (Fresh m) ≡ own (i + 1)
second_of_three n m l i e d = bound_other (Fresh n) (Fresh m) (own i) (binding_all (Fresh m ∷ Fresh l ∷ []) (map own (range_with_len (i + 1) 2)) e) (λ g. d (same m n g)) ∙ first_bound m l (i + 1) e where
  same : (m n : ℕ) → Fresh m ≡ Fresh n → n ≡ m
  same m n f = cc

pub first_of_three : (n m l i : ℕ) (e : Environment) → bound (binding_all (Fresh n ∷ Fresh m ∷ Fresh l ∷ []) (map own (range_with_len i 3)) e) (Fresh n) ≡ own i
first_of_three n m l i e = bound_here (Fresh n) (own i) (binding_all (Fresh m ∷ Fresh l ∷ []) (map own (range_with_len (i + 1) 2)) e)

pub three_other : (x : Identifier) (n m l i : ℕ) (e : Environment) → x ≢ Fresh n → x ≢ Fresh m → x ≢ Fresh l → bound (binding_all (Fresh n ∷ Fresh m ∷ Fresh l ∷ []) (map own (range_with_len i 3)) e) x ≡ bound e x
three_other x n m l i e d f g = bound_other (Fresh n) x (own i) (binding_all (Fresh m ∷ Fresh l ∷ []) (map own (range_with_len (i + 1) 2)) e) d ∙ two_other x m l (i + 1) e f g
