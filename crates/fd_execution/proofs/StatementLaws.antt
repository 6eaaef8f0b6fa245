-- Single statements: what goes on after them.
use Rattle.std.proofs.Common.{◌≡◌, ℕ, ◌+◌, ◌<◌, true, List, [], ◌∷◌, ◌++◌, length, map, Contains, ap}
use Rattle.std.proofs.lemmas.List.Elements.{Contains-append_left, Contains-append_right}
use Rattle.std.specs.List.{range_with_len}
use Rattle.environments.specs.Environments.{Environment, binding_all}
use Rattle.oz_base.specs.declared.names.Ident.{Ident}
use Rattle.oz_language.specs.declared.kernel.Identifier.{Identifier}
use Rattle.oz_language.specs.declared.kernel.Kernel.{Kernel}
use Rattle.oz_language.specs.Kernels.{Stmt, Stmts, followed, just, inside, numbers, statement_at}
use Rattle.oz_language.specs.Kernels as kernel
use Rattle.oz_semantics.specs.Values.{fields_of}
use Rattle.oz_semantics.specs.Store.{is_consistent, itself, told as equal_told}
use Rattle.oz_semantics.specs.Answers.{Answer, Acts, GivesValue, GivesVariable, Declares}
use Rattle.oz_semantics.specs.Statements.{numbered_answer, statement_answer}
use Rattle.oz_semantics.specs.Spaces.{goes_on}
use Rattle.oz_semantics.specs.declared.value.Value.{Value}
use Rattle.oz_semantics.specs.declared.value.Tell.TheVariants.{Equal, Is}
use Rattle.oz_semantics.specs.declared.configuration.Code.TheVariants as codes
use Rattle.oz_semantics.specs.declared.configuration.Frame.{Frame}
use Rattle.oz_semantics.specs.declared.configuration.Configuration.{Configuration}
use Rattle.view_laws.specs.Readies.{seeing}
use Rattle.kernel_form.proofs.Standing.{split_statement}
use Rattle.fd_stores.specs.Stores.{Store, Constraint, Runs, Fails}
use Rattle.fd_stores.proofs.Lists.{contains_head}
use Rattle.fd_views.specs.Views.{IsFree, HasValue}
use Rattle.fd_turns.specs.Nodes.{Top, node_space, own, answered, failed_config}
use Rattle.fd_steps.specs.States.{State, with_value, with_equation, with_room, node_of, view_of, IsBelow, IsGood, NoneDue, IsLater}
use Rattle.fd_steps.proofs.MoreLaws.{valued_later, equated_later, given_later}
use Rattle.fd_steps.proofs.DueTurns.{MovesTo, Nothing, later_then, later_wider}
use Rattle.fd_steps.proofs.ActTurns as turns
use Rattle.fd_execution.proofs.ScopeLaws.{AreAt, block}

-- a frame with a statement
abbrev pub frame : Environment → ℕ → Stmt → Frame
frame e b s = record { code = codes.Statement (b + inside s); environment = e }

module _ (k : Kernel) (t : Top) (cs : List Constraint) (top_fits : is_consistent t.tells ≡ true) (R : Configuration → Store → Type 0)
    (back : (c d : Configuration) (s m : Store) → goes_on k.statements c.layers node_space ≡ true → MovesTo k c d → Runs cs s m → R d m → R c s)
    (failing : (c : Configuration) (n : ℕ) (s : Store) → goes_on k.statements c.layers node_space ≡ true → MovesTo k c (failed_config t n) → Fails cs s → R c s) where
  -- once none is due, the state with this stack comes to what is shown
  abbrev pub Ready : State → List Frame → Type 0
  Ready st frames = turns.IsPlain k t cs top_fits R back failing st frames × (NoneDue t st → R (turns.conf k t cs top_fits R back failing st frames) st.store)

  abbrev pub Answers : State → List Frame → Answer → Type 0
  Answers st frames a = answered k.statements t (node_of st frames) ≡ a

  -- so is each later state of which this holds
  abbrev pub Continues : (ℕ → Type 0) → (State → Type 0) → State → List Frame → Type 0
  Continues told Fact st frames = (later : State) → IsGood t cs later → IsLater t cs told st later → Fact later → Ready later frames

  -- the statement on top answers
  pub answers : (st : State) (e : Environment) (b : ℕ) (s : Stmt) (ss : Stmts) (rest : List Frame) → AreAt k.statements b (followed s ss)
      → Answers st (frame e b s ∷ rest) (statement_answer (seeing k.statements node_space (view_of t st)) e (statement_at b s))
  answers st e b s ss rest h = ap (numbered_answer (seeing k.statements node_space (view_of t st)) e) (split_statement k.statements s ss b h).1

  module _ (st : State) (h : IsGood t cs st) (e : Environment) (rest : List Frame) where
    -- ---- a value

    module _ (i : ℕ) (v : Value) (l : i < st.next) (free : IsFree (view_of t st) (own i)) (other : Contains st.variables (own i) → ⊥) (below : (x : Ident) → Contains (fields_of v) x → IsBelow st.next x) where
      after_value : Continues (λ j. j ≡ i) (λ later. HasValue (view_of t later) (own i) v) st rest → (later : State) → IsGood t cs later → IsLater t cs Nothing (with_value i v st) later → Ready later rest
      after_value g later q r =
          let first = valued_later t cs st h i v free other in
          let there : Contains (view_of t (with_value i v st)) (Is (own i) v) = Contains-append_right t.tells (st.tells ++ Is (own i) v ∷ []) (Is (own i) v) (Contains-append_right st.tells (Is (own i) v ∷ []) (Is (own i) v) (contains_head (Is (own i) v) [])) in
          g later q (later_then t cs (λ j. j ≡ i) st (with_value i v st) later first (later_wider t cs Nothing (λ j. j ≡ i) (with_value i v st) later (λ j n. absurd n) r))
          (record { variable = own i; equal = itself; told = r.keeps (Is (own i) v) there })

      pub value_ready : (f : Frame) → Answers st (f ∷ rest) (Acts (GivesValue (own i) v)) → Continues (λ j. j ≡ i) (λ later. HasValue (view_of t later) (own i) v) st rest → Ready st (f ∷ rest)
      value_ready f a g = (
        turns.acts_plain k t cs top_fits R back failing st (f ∷ rest) (GivesValue (own i) v) a,
        λ rests. turns.gives_value k t cs top_fits R back failing Nothing st h f rest rests i v free other l below a (after_value g),
      )

    -- ---- an equation

    module _ (i : ℕ) (y : Ident) (v : Value) (l : i < st.next) (free : IsFree (view_of t st) (own i)) (other : Contains st.variables (own i) → ⊥) (top : y.space ≡ []) (known : Contains t.tells (Is y v)) where
      after_equation : Continues (λ j. j ≡ i) (λ later. HasValue (view_of t later) (own i) v) st rest → (later : State) → IsGood t cs later → IsLater t cs Nothing (with_equation i y st) later → Ready later rest
      after_equation g later q r =
          let first = equated_later t cs st h i y free other top in
          let there : Contains (view_of t (with_equation i y st)) (Equal (own i) y) = Contains-append_right t.tells (st.tells ++ Equal (own i) y ∷ []) (Equal (own i) y) (Contains-append_right st.tells (Equal (own i) y ∷ []) (Equal (own i) y) (contains_head (Equal (own i) y) [])) in
          g later q (later_then t cs (λ j. j ≡ i) st (with_equation i y st) later first (later_wider t cs Nothing (λ j. j ≡ i) (with_equation i y st) later (λ j n. absurd n) r))
          (record { variable = y; equal = equal_told (r.keeps (Equal (own i) y) there); told = Contains-append_left t.tells later.tells (Is y v) known })

      pub equation_ready : (f : Frame) → Answers st (f ∷ rest) (Acts (GivesVariable (own i) y)) → Continues (λ j. j ≡ i) (λ later. HasValue (view_of t later) (own i) v) st rest → Ready st (f ∷ rest)
      equation_ready f a g = (
        turns.acts_plain k t cs top_fits R back failing st (f ∷ rest) (GivesVariable (own i) y) a,
        λ rests. turns.gives_variable k t cs top_fits R back failing Nothing st h f rest rests i y free other top l a (after_equation g),
      )

    -- ---- a `local`

    abbrev pub scope : List Identifier → Environment
    scope names = binding_all names (map own (range_with_len st.next (length names))) e

    pub local_ready : (b : ℕ) (names : List Identifier) (body : Stmts) → AreAt k.statements b (just (kernel.local names body))
        → Continues Nothing (λ later. IsLater t cs Nothing (with_room (length names) st) later) st (block (scope names) b body rest) → Ready st (block e b (just (kernel.local names body)) rest)
    local_ready b names body a g =
        let f = frame e b (kernel.local names body) in
        let said = answers st e b (kernel.local names body) kernel.none rest a in (
          turns.acts_plain k t cs top_fits R back failing st (f ∷ rest) (Declares e names (numbers b body)) said,
          λ rests. turns.declares k t cs top_fits R back failing Nothing st h f rest rests e names (numbers b body) said
              (λ later q r. g later q (later_then t cs Nothing st (with_room (length names) st) later (given_later t cs st h Nothing (length names)) r) r),
        )

    pub body_at : (b : ℕ) (names : List Identifier) (body : Stmts) → AreAt k.statements b (just (kernel.local names body)) → AreAt k.statements b body
    body_at b names body a = (split_statement k.statements (kernel.local names body) kernel.none b a).0
