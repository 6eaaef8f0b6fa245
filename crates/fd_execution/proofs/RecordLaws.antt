-- The first statements of a script: its variables are declared, and the root becomes its record.
use Rattle.std.proofs.Common.{◌≡◌, inr, ℕ, ◌+◌, true, List, [], ◌∷◌, length, map, refl, sym, ◌∙◌, ap, subst, arith}
use Rattle.std.proofs.lemmas.List.{length-map}
use Rattle.std.specs.List.{range_with_len}
use Rattle.environments.specs.Environments.{Environment, bound, binding_all}
use Rattle.oz_language.specs.declared.token.Literal.{Literal}
use Rattle.oz_language.specs.declared.kernel.Identifier.{Identifier}
use Rattle.oz_language.specs.declared.kernel.Identifier.TheVariants.{Word}
use Rattle.oz_language.specs.declared.kernel.Constant.{Constant}
use Rattle.oz_language.specs.declared.kernel.Constant.TheVariants as constant
use Rattle.oz_language.specs.declared.kernel.Kernel.{Kernel}
use Rattle.oz_language.specs.Kernels.{Stmts, followed}
use Rattle.oz_language.specs.Kernels as kernel
use Rattle.oz_language.specs.Translation.{scoped, record_or_label}
use Rattle.oz_semantics.specs.Store.{is_consistent}
use Rattle.oz_semantics.specs.Answers.{Acts, GivesValue}
use Rattle.oz_semantics.specs.Spaces.{goes_on}
use Rattle.oz_semantics.specs.declared.value.Value.{Value}
use Rattle.oz_semantics.specs.declared.value.Value.TheVariants as value
use Rattle.oz_semantics.specs.declared.configuration.Frame.{Frame}
use Rattle.oz_semantics.specs.declared.configuration.Configuration.{Configuration}
use Rattle.fd_stores.specs.Stores.{Store, Constraint, Runs, Fails}
use Rattle.fd_stores.specs.Stores as stores
use Rattle.fd_stores.proofs.Lists.{contains_none}
use Rattle.fd_views.specs.Views.{HasValue}
use Rattle.fd_turns.specs.Nodes.{Top, node_space, own, failed_config}
use Rattle.fd_steps.specs.States.{State, with_room, view_of, IsGood, IsLater}
use Rattle.fd_steps.proofs.DueTurns.{MovesTo, Nothing, later_itself}
use Rattle.fd_codes.specs.Codes.{named_field}
use Rattle.fd_execution.specs.Further.{root_value}
use Rattle.fd_execution.proofs.ScopeLaws.{AreAt, block}
use Rattle.fd_execution.proofs.UntoldLaws.{IsUntold}
use Rattle.fd_execution.proofs.NameLaws.{named_scope}
use Rattle.fd_execution.proofs.StatementLaws as single

-- ---- fields

features_named : (fs : List (Constant × ℕ)) → map (λ (f : Constant × Identifier). f.0) (map named_field fs) ≡ map (λ (f : Constant × ℕ). f.0) fs
features_named [] = refl
features_named (f ∷ fs) = ap (λ z. f.0 ∷ z) (features_named fs)

fields_named : (e : Environment) (fs : List (Constant × ℕ)) → map (bound e) (map (λ (f : Constant × Identifier). f.1) (map named_field fs)) ≡ map (λ w. bound e (Word w)) (map (λ (f : Constant × ℕ). f.1) fs)
fields_named e [] = refl
fields_named e (f ∷ fs) = ap (λ z. bound e (Word f.1) ∷ z) (fields_named e fs)

module _ (k : Kernel) (t : Top) (cs : List Constraint) (top_fits : is_consistent t.tells ≡ true) (R : Configuration → Store → Type 0)
    (back : (c d : Configuration) (s m : Store) → goes_on k.statements c.layers node_space ≡ true → MovesTo k c d → Runs cs s m → R d m → R c s)
    (failing : (c : Configuration) (n : ℕ) (s : Store) → goes_on k.statements c.layers node_space ≡ true → MovesTo k c (failed_config t n) → Fails cs s → R c s) where
  abbrev Ready : State → List Frame → Type 0
  Ready st frames = single.Ready k t cs top_fits R back failing st frames

  module _ (st : State) (h : IsGood t cs st) (e : Environment) (rest : List Frame) (b : ℕ) where
    -- the names of a script, which may be none
    pub names_ready : (names : List ℕ) (body : Stmts) → AreAt k.statements b (scoped (map Word names) body)
        → ((made : State) → IsGood t cs made → IsLater t cs Nothing st made → IsLater t cs Nothing (with_room (length names) st) made → AreAt k.statements b body → Ready made (block (named_scope names st.next e) b body rest))
        → Ready st (block e b (scoped (map Word names) body) rest)
    names_ready [] body a g = g st h (later_itself t cs Nothing st) (record { keeps = λ u d. d; runs = none'; next = omega arith; variables = refl; posted = refl; free = λ i l m f. f }) a where
      none' : Runs cs st.store st.store
      none' = stores.none
    names_ready (v ∷ vs) body a g =
        let names = map Word (v ∷ vs) in
        let same : length names ≡ length (v ∷ vs) = length-map (v ∷ vs) Word in
        single.local_ready k t cs top_fits R back failing st h e rest b names body a
        (λ made good later room.
        subst (λ m. Ready made (block (binding_all names (map own (range_with_len st.next m)) e) b body rest)) (sym same)
        (g made good later (subst (λ m. IsLater t cs Nothing (with_room m st) made) same room) (single.body_at k t cs top_fits R back failing st h e rest b names body a)))

    -- the record
    module _ (root : ℕ) (root_is : bound e (Word root) ≡ own 0) (u : IsUntold t st 0) (l : Literal) (ss : Stmts) where
      abbrev Continues : Value → Type 0
      Continues v = single.Continues k t cs top_fits R back failing (λ j. j ≡ 0) (λ later. HasValue (view_of t later) (own 0) v) st (block e (b + 1) ss rest)

      pub record_ready : (fs : List (Constant × ℕ)) → map (λ w. bound e (Word w)) (map (λ (f : Constant × ℕ). f.1) fs) ≡ st.variables
          → AreAt k.statements b (followed (record_or_label (Word root) l (map named_field fs)) ss) → Continues (root_value l fs st.variables)
          → Ready st (block e b (followed (record_or_label (Word root) l (map named_field fs)) ss) rest)
      record_ready [] all a g =
          let s = kernel.bind (Word root) (constant.Literal l) in
          single.value_ready k t cs top_fits R back failing st h e (block e (b + 1) ss rest) 0 (value.Constant (constant.Literal l)) u.inside u.free u.other (λ x c. absurd (contains_none x c)) (single.frame e b s)
          (single.answers k t cs top_fits R back failing st e b s ss (block e (b + 1) ss rest) a ∙ ap (λ y. Acts (GivesValue y (value.Constant (constant.Literal l)))) root_is) g
      record_ready (f ∷ fs) all a g =
          let s = record_or_label (Word root) l (map named_field (f ∷ fs)) in
          let features = features_named (f ∷ fs) in
          let fields = fields_named e (f ∷ fs) ∙ all in
          single.value_ready k t cs top_fits R back failing st h e (block e (b + 1) ss rest) 0 (root_value l (f ∷ fs) st.variables) u.inside u.free u.other (λ x c. inr (h.given x c)) (single.frame e b s)
          (single.answers k t cs top_fits R back failing st e b s ss (block e (b + 1) ss rest) a
          ∙ (λ i. Acts (GivesValue (root_is i) (value.Record (record { label = l; features = features i; fields = fields i }))))) g
