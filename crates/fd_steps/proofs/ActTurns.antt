-- What a thread's statements do to a state.
use Rattle.std.proofs.Common.{◌≡◌, ◌⊎◌, inl, inr, ℕ, zero, suc, ◌+◌, ◌<◌, ◌≤◌, Bool, true, false, ◌||◌, List, [], ◌∷◌, ◌++◌, pos, codes, length, map, flat_map, Contains, All, Option, Some, None, slice_get, refl, sym, ◌∙◌, ap, subst, arith}
use Rattle.std.proofs.lemmas.List.{append_assoc}
use Rattle.std.proofs.lemmas.List.Elements.{Contains-append_right}
use Rattle.std.specs.List.{find, list_any, range_with_len}
use Rattle.environments.specs.Environments.{Environment, bound, binding_all}
use Rattle.oz_base.specs.declared.names.Ident.{Ident}
use Rattle.oz_base.specs.declared.relation.Relation.{Relation}
use Rattle.oz_base.specs.declared.interval.Interval.{Interval}
use Rattle.oz_language.specs.declared.kernel.Identifier.{Identifier}
use Rattle.oz_language.specs.declared.kernel.Constant.{Constant}
use Rattle.oz_language.specs.declared.kernel.Statement.{Statement}
use Rattle.oz_language.specs.declared.kernel.Kernel.{Kernel}
use Rattle.oz_semantics.specs.Values.{fields_of}
use Rattle.oz_semantics.specs.Store.{View, itself, is_consistent}
use Rattle.oz_semantics.specs.Configurations.{frames_of}
use Rattle.oz_semantics.specs.Sights.{can_step}
use Rattle.oz_semantics.specs.Answers.{Answer, Act, Acts, Widens, RaisesKind, Passes, GoesOn as Proceeds, Declares, GivesValue, GivesVariable, Confines, Posts}
use Rattle.oz_semantics.specs.Readiness.{answer_ready}
use Rattle.oz_semantics.specs.Propagation.{is_due}
use Rattle.oz_semantics.specs.Spaces.{goes_on}
use Rattle.oz_semantics.specs.declared.value.Value.{Value}
use Rattle.oz_semantics.specs.declared.value.Tell.{Tell}
use Rattle.oz_semantics.specs.declared.value.Tell.TheVariants.{Equal, Is, Within}
use Rattle.oz_semantics.specs.declared.configuration.Frame.{Frame}
use Rattle.oz_semantics.specs.declared.configuration.Configuration.{Configuration}
use Rattle.fd_stores.specs.Stores.{Store, Constraint, Posted, Runs, none, Fails}
use Rattle.oz_language.specs.Wording.{given_atom}
use Rattle.oz_language.specs.declared.kernel.Constant.TheVariants as constant
use Rattle.oz_base.specs.Lists.{holds_of}
use Rattle.oz_domains.specs.Domains.{whole}
use Rattle.oz_domains.specs.Positions.{AreDomains}
use Rattle.oz_semantics.specs.Builtins.{interval_news}
use Rattle.oz_semantics.specs.Exceptions.{is_failure_label, is_failure, unwound}
use Rattle.oz_semantics.specs.declared.value.Value.TheVariants as value
use Rattle.oz_semantics.specs.declared.outcome.RaiseKind.TheVariants.{FailureTell}
use Rattle.fd_stores.proofs.Lists.{contains_none, contains_cases, contains_head}
use Rattle.fd_views.proofs.ValueLaws.{value_is}
use Rattle.fd_runs.proofs.OfferLaws.{posted_stands, posted_domains, posted_have}
use Rattle.fd_views.specs.Views.{IsPlain as IsPlain', variables_at, HaveDomains, IsFree, StandsFor, OnlyDomains}
use Rattle.fd_turns.specs.Nodes.{Top, Node, node_space, own, answered, config, failed_config}
use Rattle.fd_turns.proofs.SettleLaws.{IsPlainAnswer}
use Rattle.fd_turns.proofs.RestLaws.{goes_on_is}
use Rattle.fd_turns.proofs.StepLaws.{passes_on, goes_on_with, declares_on, tells_value, tells_equation, tells_domains, posts_on, widens_on, domains_fail, refusal_fails}
use Rattle.fd_steps.specs.States.{State, told_more, with_value, with_equation, with_room, with_post, post_tells, after_post, node_of, view_of, IsBelow, IsGood, NoneDue, IsLater}
use Rattle.fd_steps.proofs.GoodLaws.{view_more, domains_good, new_free, new_other}
use Rattle.fd_steps.proofs.MoreLaws.{valued_good, valued_later, equated_good, given_good, posting_good}
use Rattle.fd_steps.proofs.DueTurns as due
use Rattle.fd_steps.proofs.DueTurns.{MovesTo, Nothing}

module _ (k : Kernel) (t : Top) (cs : List Constraint) (top_fits : is_consistent t.tells ≡ true) (R : Configuration → Store → Type 0)
    (back : (c d : Configuration) (s m : Store) → goes_on k.statements c.layers node_space ≡ true → MovesTo k c d → Runs cs s m → R d m → R c s)
    (failing : (c : Configuration) (n : ℕ) (s : Store) → goes_on k.statements c.layers node_space ≡ true → MovesTo k c (failed_config t n) → Fails cs s → R c s) where
  abbrev pub conf : State → List Frame → Configuration
  conf st frames = config k.statements t (node_of st frames)

  abbrev pub IsPlain : State → List Frame → Type 0
  IsPlain st frames = IsPlainAnswer (answered k.statements t (node_of st frames))

  abbrev pub GoesOn : (ℕ → Type 0) → State → List Frame → Type 0
  GoesOn told st frames = due.GoesOn k t cs top_fits R back failing told st frames

  abbrev pub Answers : State → List Frame → Answer → Type 0
  Answers st frames a = answered k.statements t (node_of st frames) ≡ a

  pub acts_plain : (st : State) (frames : List Frame) (act : Act) → Answers st frames (Acts act) → IsPlain st frames
  acts_plain st frames act e = subst IsPlainAnswer (sym e) tt

  pub acts_able : (st : State) (frames : List Frame) (act : Act) → Answers st frames (Acts act) → can_step (answer_ready (answered k.statements t (node_of st frames))) ≡ true
  acts_able st frames act e = ap (λ a. can_step (answer_ready a)) e

  pub acts_on : (st : State) (frames : List Frame) (act : Act) → Answers st frames (Acts act) → goes_on k.statements (conf st frames).layers node_space ≡ true
  acts_on st frames act e =
      goes_on_is k.statements t (node_of st frames) (acts_plain st frames act e)
      ∙ ap (λ b. b || list_any (is_due (view_of t st)) st.propagators) (acts_able st frames act e)

  -- a step, and then what goes on
  stepped : (told : ℕ → Type 0) (st next : State) (frames rest : List Frame) (act : Act) → Answers st frames (Acts act) → MovesTo k (conf st frames) (conf next rest) → Runs cs st.store next.store → IsGood t cs next → GoesOn told next rest
      → R (conf st frames) st.store
  stepped told st next frames rest act e turn r h g =
      back (conf st frames) (conf next rest) st.store next.store (acts_on st frames act e) turn r (due.settle k t cs top_fits R back failing told rest next h g)

  -- the next state's stack answers no operation on a space
  plain_next : (told : ℕ → Type 0) (next : State) (rest : List Frame) → IsGood t cs next → GoesOn told next rest → IsPlain next rest
  plain_next told next rest h g = (g next h (due.later_itself t cs told next)).0

  fits : (next : State) → IsGood t cs next → is_consistent (view_of t next) ≡ true
  fits next h = due.good_consistent k t cs top_fits R back failing next h

  module _ (told : ℕ → Type 0) (st : State) (h : IsGood t cs st) (f : Frame) (fs : List Frame) (rests : NoneDue t st) where
    -- nothing
    pub passes : Answers st (f ∷ fs) (Acts Passes) → GoesOn told st fs → R (conf st (f ∷ fs)) st.store
    passes e g =
        stepped told st st (f ∷ fs) fs Passes e
        (passes_on k t top_fits st.tells f fs st.propagators st.next rests (acts_plain st (f ∷ fs) Passes e) (acts_able st (f ∷ fs) Passes e) e (fits st h) (plain_next told st fs h g)) none h g

    -- a body
    pub proceeds : (gs : List Frame) → Answers st (f ∷ fs) (Acts (Proceeds gs)) → GoesOn told st (gs ++ fs) → R (conf st (f ∷ fs)) st.store
    proceeds gs e g =
        stepped told st st (f ∷ fs) (gs ++ fs) (Proceeds gs) e
        (goes_on_with k t top_fits st.tells f fs st.propagators st.next rests (acts_plain st (f ∷ fs) (Proceeds gs) e) (acts_able st (f ∷ fs) (Proceeds gs) e) gs e (fits st h) (plain_next told st (gs ++ fs) h g)) none h g

    -- a `local`
    abbrev pub opened : Environment → List Identifier → List ℕ → List Frame
    opened environment names body = frames_of (binding_all names (map own (range_with_len st.next (length names))) environment) body

    pub declares : (environment : Environment) (names : List Identifier) (body : List ℕ) → Answers st (f ∷ fs) (Acts (Declares environment names body))
        → GoesOn told (with_room (length names) st) (opened environment names body ++ fs) → R (conf st (f ∷ fs)) st.store
    declares environment names body e g =
        let next = with_room (length names) st in
        let good = given_good t cs st h (length names) in
        let act = Declares environment names body in
        stepped told st next (f ∷ fs) (opened environment names body ++ fs) act e
        (declares_on k t top_fits st.tells f fs st.propagators st.next rests (acts_plain st (f ∷ fs) act e) (acts_able st (f ∷ fs) act e) environment names body e (fits st h) (plain_next told next (opened environment names body ++ fs) good g)) none good g

    -- a value
    pub gives_value : (i : ℕ) (v : Value) (free : IsFree (view_of t st) (own i)) (other : Contains st.variables (own i) → ⊥) → i < st.next → ((x : Ident) → Contains (fields_of v) x → IsBelow st.next x)
        → Answers st (f ∷ fs) (Acts (GivesValue (own i) v)) → GoesOn told (with_value i v st) fs → R (conf st (f ∷ fs)) st.store
    gives_value i v free other l below e g =
        let next = with_value i v st in
        let good = valued_good t cs st h i v free other l below in
        let act = GivesValue (own i) v in
        stepped told st next (f ∷ fs) fs act e
        (tells_value k t top_fits st.tells f fs st.propagators st.next rests (acts_plain st (f ∷ fs) act e) (acts_able st (f ∷ fs) act e) (own i) v (node_of next fs) refl e (fits next good) (plain_next told next fs good g)) none good g

    -- an equation with a variable of the top
    pub gives_variable : (i : ℕ) (y : Ident) (free : IsFree (view_of t st) (own i)) (other : Contains st.variables (own i) → ⊥) (top : y.space ≡ []) → i < st.next
        → Answers st (f ∷ fs) (Acts (GivesVariable (own i) y)) → GoesOn told (with_equation i y st) fs → R (conf st (f ∷ fs)) st.store
    gives_variable i y free other top l e g =
        let next = with_equation i y st in
        let good = equated_good t cs st h i y free other top l in
        let act = GivesVariable (own i) y in
        stepped told st next (f ∷ fs) fs act e
        (tells_equation k t top_fits st.tells f fs st.propagators st.next rests (acts_plain st (f ∷ fs) act e) (acts_able st (f ∷ fs) act e) (own i) y (node_of next fs) refl e (fits next good) (plain_next told next fs good g)) none good g

    -- domains
    pub gives_domains : (us : List Tell) (m : Store) → OnlyDomains us → StandsFor (view_of t st ++ us) st.variables m → Runs cs st.store m
        → Answers st (f ∷ fs) (Acts (Confines us)) → GoesOn told (told_more us m st) fs → R (conf st (f ∷ fs)) st.store
    gives_domains us m o s r e g =
        let next = told_more us m st in
        let good = domains_good t cs st h us m o s r in
        let act = Confines us in
        stepped told st next (f ∷ fs) fs act e
        (tells_domains k t top_fits st.tells f fs st.propagators st.next rests (acts_plain st (f ∷ fs) act e) (acts_able st (f ∷ fs) act e) us (node_of next fs) refl e (fits next good) (plain_next told next fs good g)) r good g

    -- a constraint
    module _ (r : Relation) (is : List ℕ) (among : Contains cs (Posted r is)) (a : All (λ x. x < length st.variables) is) where
      abbrev vars : List Ident
      vars = variables_at st.variables is

      domains : AreDomains st.store
      domains = (let o = h.over in o.domains)

      told_all : IsGood t cs (told_more (post_tells t st is) st.store st)
      told_all = domains_good t cs st h (post_tells t st is) st.store (posted_domains (view_of t st) st.variables st.store is h.stands domains a) (posted_stands (view_of t st) st.variables st.store is h.stands domains a) none

      all_have : HaveDomains (view_of t (told_more (post_tells t st is) st.store st)) vars
      all_have = subst (λ v. HaveDomains v vars) (sym (view_more t cs st h (post_tells t st is) st.store)) (posted_have (view_of t st) st.variables st.store is h.stands domains a)

      pub posts : Answers st (f ∷ fs) (Acts (Posts (post_tells t st is) r vars)) → GoesOn told (after_post t r is st) fs → R (conf st (f ∷ fs)) st.store
      posts e g =
          let good = posting_good t cs (told_more (post_tells t st is) st.store st) told_all r is among a all_have in
          let act = Posts (post_tells t st is) r vars in
          stepped told st (after_post t r is st) (f ∷ fs) fs act e
          (posts_on k t top_fits st.tells f fs st.propagators st.next rests (acts_plain st (f ∷ fs) act e) (acts_able st (f ∷ fs) act e) (post_tells t st is) r vars (node_of (after_post t r is st) fs) refl e (fits (after_post t r is st) good) (plain_next told (after_post t r is st) fs good g)) none good g

    -- a distributor that tells domains first
    pub widens : (us : List Tell) → OnlyDomains us → StandsFor (view_of t st ++ us) st.variables st.store → Answers st (f ∷ fs) (Widens us) → GoesOn told (told_more us st.store st) (f ∷ fs) → R (conf st (f ∷ fs)) st.store
    widens us o s e g =
        let next = told_more us st.store st in
        let good = domains_good t cs st h us st.store o s none in
        let plain = subst IsPlainAnswer (sym e) tt in
        let able = ap (λ a. can_step (answer_ready a)) e in
        back (conf st (f ∷ fs)) (conf next (f ∷ fs)) st.store st.store (goes_on_is k.statements t (node_of st (f ∷ fs)) plain ∙ ap (λ b. b || list_any (is_due (view_of t st)) st.propagators) able)
        (widens_on k t top_fits st.tells f fs st.propagators st.next rests plain able us (node_of next (f ∷ fs)) refl e (fits next good) (plain_next told next (f ∷ fs) good g)) none
        (due.settle k t cs top_fits R back failing told (f ∷ fs) next good g)

    -- ---- failure

    module _ (unmarked : (x : Ident) → unwound x fs ≡ None) where
      abbrev n : ℕ
      n = st.next

      abbrev failure_value : Value
      failure_value = value.Record (record { label = given_atom (codes "failure"); features = constant.Int (pos 1) ∷ []; fields = own (n + 1) ∷ [] })

      abbrev tell_value : Value
      tell_value = value.Constant (constant.Literal (given_atom (codes "tell")))

      abbrev room : State
      room = with_room 2 st

      room_good : IsGood t cs room
      room_good = given_good t cs st h 2

      first_free : IsFree (view_of t st) (own n)
      first_free = new_free t cs st h n (omega arith)

      first_other : Contains st.variables (own n) → ⊥
      first_other = new_other t cs st h n (omega arith)

      abbrev first : State
      first = with_value n failure_value room

      first_good : IsGood t cs first
      first_good = valued_good t cs room room_good n failure_value first_free first_other (omega arith) (λ x c. elim (contains_cases (own (n + 1)) x [] c) [ inl e ↦ inr (n + 1, omega arith, sym e) | inr g ↦ absurd (contains_none x g) ])

      second_free : IsFree (view_of t first) (own (n + 1))
      second_free = (let l = valued_later t cs room room_good n failure_value first_free first_other in l.free (n + 1) (omega arith) (λ e. omega (arith, e)) (new_free t cs st h (n + 1) (omega arith)))

      second_good : IsGood t cs (with_value (n + 1) tell_value first)
      second_good = valued_good t cs first first_good (n + 1) tell_value second_free (new_other t cs st h (n + 1) (omega arith)) (omega arith) (λ x c. absurd (contains_none x c))

      fails_label : is_failure (t.tells ++ (st.tells ++ Is (own n) failure_value ∷ Is (own (n + 1)) tell_value ∷ [])) (own n) ≡ true
      fails_label =
          let g = second_good in
          let s = g.stands in
          let same : (st.tells ++ Is (own n) failure_value ∷ []) ++ Is (own (n + 1)) tell_value ∷ [] ≡ st.tells ++ Is (own n) failure_value ∷ Is (own (n + 1)) tell_value ∷ [] = append_assoc st.tells (Is (own n) failure_value ∷ []) (Is (own (n + 1)) tell_value ∷ []) in
          let there : Contains (t.tells ++ (st.tells ++ Is (own n) failure_value ∷ Is (own (n + 1)) tell_value ∷ [])) (Is (own n) failure_value) =
          Contains-append_right t.tells (st.tells ++ Is (own n) failure_value ∷ Is (own (n + 1)) tell_value ∷ []) (Is (own n) failure_value)
          (Contains-append_right st.tells (Is (own n) failure_value ∷ Is (own (n + 1)) tell_value ∷ []) (Is (own n) failure_value) (contains_head (Is (own n) failure_value) (Is (own (n + 1)) tell_value ∷ []))) in
          ap (holds_of is_failure_label) (value_is (t.tells ++ (st.tells ++ Is (own n) failure_value ∷ Is (own (n + 1)) tell_value ∷ [])) st.variables (own n) failure_value (subst (λ ts. IsPlain' (t.tells ++ ts) st.variables) same s.plain) (record { variable = own n; equal = itself; told = there }))

      -- domains that clash with what is seen
      pub domains_clash : (us : List Tell) → is_consistent (t.tells ++ (st.tells ++ us)) ≡ false → Answers st (f ∷ fs) (Acts (Confines us)) → Fails cs st.store → R (conf st (f ∷ fs)) st.store
      domains_clash us a e q =
          let act = Confines us in
          failing (conf st (f ∷ fs)) (n + 2) st.store (acts_on st (f ∷ fs) act e)
          (domains_fail k t top_fits st.tells f fs st.propagators st.next rests (acts_plain st (f ∷ fs) act e) (acts_able st (f ∷ fs) act e) (unmarked (own n)) fails_label us e a) q

      -- bounds that no domain has
      pub refuses : Answers st (f ∷ fs) (RaisesKind FailureTell) → Fails cs st.store → R (conf st (f ∷ fs)) st.store
      refuses e q =
          let plain = subst IsPlainAnswer (sym e) tt in
          let able = ap (λ a. can_step (answer_ready a)) e in
          failing (conf st (f ∷ fs)) (n + 2) st.store (goes_on_is k.statements t (node_of st (f ∷ fs)) plain ∙ ap (λ b. b || list_any (is_due (view_of t st)) st.propagators) able)
          (refusal_fails k t top_fits st.tells f fs st.propagators st.next rests plain able (unmarked (own n)) fails_label e) q
