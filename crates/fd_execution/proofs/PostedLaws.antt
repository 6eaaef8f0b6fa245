-- Code that posts relations.
use Rattle.std.proofs.Common.{◌≡◌, ◌⊎◌, inl, inr, ℕ, ℤ, ◌+◌, ◌<◌, true, List, [], ◌∷◌, ◌++◌, length, map, Contains, All, refl, sym, ◌∙◌, subst}
use Rattle.std.proofs.lemmas.List.Elements.{All-nil, All-cons, Contains-append_cases, Contains-append_left, Contains-append_right}
use Rattle.environments.specs.Environments.{Environment, bound}
use Rattle.oz_base.specs.declared.names.Ident.{Ident}
use Rattle.oz_base.specs.declared.relation.Relation.{Relation}
use Rattle.oz_base.specs.declared.relation.Relation.TheVariants.{Times}
use Rattle.oz_language.specs.declared.kernel.Identifier.{Identifier}
use Rattle.oz_language.specs.declared.kernel.LinearTerm.{LinearTerm}
use Rattle.oz_language.specs.declared.kernel.Sign.{Sign}
use Rattle.oz_language.specs.declared.kernel.Sign.TheVariants.{Zero, NotZero, Negative, NotPositive}
use Rattle.oz_language.specs.declared.kernel.Kernel.{Kernel}
use Rattle.oz_language.specs.Kernels.{Stmt, Stmts, none, followed, ◌⨾◌}
use Rattle.oz_language.specs.Kernels as kernel
use Rattle.oz_semantics.specs.Store.{is_consistent}
use Rattle.oz_semantics.specs.Constraints.{relation_of}
use Rattle.oz_semantics.specs.Answers.{Acts, Posts}
use Rattle.oz_semantics.specs.Builtins.{posts}
use Rattle.oz_semantics.specs.Spaces.{goes_on}
use Rattle.oz_semantics.specs.declared.configuration.Frame.{Frame}
use Rattle.oz_semantics.specs.declared.configuration.Configuration.{Configuration}
use Rattle.view_laws.specs.Readies.{Keeps}
use Rattle.kernel_form.proofs.Standing.{split_statement}
use Rattle.fd_stores.specs.Stores.{Store, Constraint, Posted, Runs, Fails}
use Rattle.fd_stores.specs.Stores as stores
use Rattle.fd_stores.proofs.Lists.{contains_none, contains_head, contains_tail}
use Rattle.fd_views.specs.Views.{variable_at, variables_at}
use Rattle.fd_views.proofs.SameLaws.{keeps_more}
use Rattle.fd_trees.specs.Scripts.{relation}
use Rattle.fd_form_law.specs.Numbered.{all_constraints}
use Rattle.fd_turns.specs.Nodes.{Top, node_space, failed_config}
use Rattle.fd_steps.specs.States.{State, post_tells, after_post, view_of, IsGood, IsLater}
use Rattle.fd_steps.proofs.GoodLaws.{view_more}
use Rattle.fd_steps.proofs.DueTurns.{MovesTo, Nothing, runs_then}
use Rattle.fd_steps.proofs.ActTurns as turns
use Rattle.fd_execution.proofs.ScopeLaws.{AreAt, block}
use Rattle.fd_execution.proofs.StatementLaws as single

-- an identifier is a variable of the search
pub record Reads (e : Environment) (index : Identifier → ℕ) (xs : List Ident) (z : Identifier) : Type 0 where
  pub bound_is : bound e z ≡ variable_at xs (index z)
  pub inside : index z < length xs

abbrev pub AreRead : Environment → (Identifier → ℕ) → List Ident → List LinearTerm → Type 0
AreRead e index xs [] = Unit {0}
AreRead e index xs (u ∷ us) = Reads e index xs u.variable × AreRead e index xs us

abbrev pub IsPost : Environment → (Identifier → ℕ) → List Ident → Stmt → Type 0
IsPost e index xs (kernel.post s c us) = AreRead e index xs us
IsPost e index xs (kernel.post_times x y z) = Reads e index xs x × Reads e index xs y × Reads e index xs z
IsPost e index xs s = ⊥

-- all statements post, over variables of the search
abbrev pub ArePosts : Environment → (Identifier → ℕ) → List Ident → Stmts → Type 0
ArePosts e index xs none = Unit {0}
ArePosts e index xs (followed s ss) = IsPost e index xs s × ArePosts e index xs ss

pub posts_joined : (e : Environment) (index : Identifier → ℕ) (xs : List Ident) (ss us : Stmts) → ArePosts e index xs ss → ArePosts e index xs us → ArePosts e index xs (ss ⨾ us)
posts_joined e index xs none us h g = g
posts_joined e index xs (followed s ss) us h g = (h.0, posts_joined e index xs ss us h.1 g)

-- the relation of a sum, by its sign
sums_same : (s : Sign) (c : ℤ) (us : List LinearTerm) → relation_of s c us ≡ relation s (record { constant = c; coefficients = map (λ (u : LinearTerm). u.coefficient) us })
sums_same Zero c us = refl
sums_same NotZero c us = refl
sums_same Negative c us = refl
sums_same NotPositive c us = refl

terms_read : (e : Environment) (index : Identifier → ℕ) (xs : List Ident) (us : List LinearTerm) → AreRead e index xs us
    → (map (λ (u : LinearTerm). bound e u.variable) us ≡ variables_at xs (map (λ (u : LinearTerm). index u.variable) us)) × All (λ x. x < length xs) (map (λ (u : LinearTerm). index u.variable) us)
terms_read e index xs [] h = (refl, All-nil (λ x. x < length xs))
terms_read e index xs (u ∷ us) h =
    let r = terms_read e index xs us h.1 in
    let first = h.0 in
    let a = first.bound_is in
    let b = r.0 in (
      (λ i. a i ∷ b i),
      All-cons (λ x. x < length xs) (index u.variable) (map (λ (w : LinearTerm). index w.variable) us) first.inside r.1,
    )

three_inside : (n x y z : ℕ) → x < n → y < n → z < n → All (λ i. i < n) (x ∷ y ∷ z ∷ [])
three_inside n x y z a b c = All-cons (λ i. i < n) x (y ∷ z ∷ []) a (All-cons (λ i. i < n) y (z ∷ []) b (All-cons (λ i. i < n) z [] c (All-nil (λ i. i < n))))

-- a state in which these constraints were posted besides
pub record IsPostedOn (t : Top) (cs ks : List Constraint) (before after : State) : Type 0 where
  pub keeps : Keeps (view_of t before) (view_of t after)
  pub runs : Runs cs before.store after.store
  pub variables : after.variables ≡ before.variables
  pub posted : (c : Constraint) → Contains before.posted c ⊎ Contains ks c → Contains after.posted c

module _ (k : Kernel) (t : Top) (cs : List Constraint) (top_fits : is_consistent t.tells ≡ true) (R : Configuration → Store → Type 0)
    (back : (c d : Configuration) (s m : Store) → goes_on k.statements c.layers node_space ≡ true → MovesTo k c d → Runs cs s m → R d m → R c s)
    (failing : (c : Configuration) (n : ℕ) (s : Store) → goes_on k.statements c.layers node_space ≡ true → MovesTo k c (failed_config t n) → Fails cs s → R c s) where
  abbrev Ready : State → List Frame → Type 0
  Ready st frames = single.Ready k t cs top_fits R back failing st frames

  abbrev PostsOn : List Constraint → State → List Frame → Type 0
  PostsOn ks st frames = (later : State) → IsGood t cs later → IsPostedOn t cs ks st later → Ready later frames

  -- one constraint
  module _ (st : State) (h : IsGood t cs st) (r : Relation) (is : List ℕ) (among : Contains cs (Posted r is)) (a : All (λ x. x < length st.variables) is) where
    posted_one : (later : State) → IsLater t cs Nothing (after_post t r is st) later → IsPostedOn t cs (Posted r is ∷ []) st later
    posted_one later l = record {
      keeps = λ u c. l.keeps u (subst (λ v. Contains v u) (sym (view_more t cs st h (post_tells t st is) st.store)) (keeps_more (view_of t st) (post_tells t st is) u c));
      runs = l.runs;
      variables = l.variables;
      posted = λ c d. subst (λ cs'. Contains cs' c) (sym l.posted) (elim d [ inl x ↦ Contains-append_left st.posted (Posted r is ∷ []) c x | inr x ↦ Contains-append_right st.posted (Posted r is ∷ []) c x ]);
    }

    pub post_ready : (f : Frame) (rest : List Frame) → single.Answers k t cs top_fits R back failing st (f ∷ rest) (Acts (Posts (post_tells t st is) r (variables_at st.variables is))) → PostsOn (Posted r is ∷ []) st rest → Ready st (f ∷ rest)
    post_ready f rest e g = (
      turns.acts_plain k t cs top_fits R back failing st (f ∷ rest) (Posts (post_tells t st is) r (variables_at st.variables is)) e,
      λ rests. turns.posts k t cs top_fits R back failing Nothing st h f rest rests r is among a e (λ later q l. g later q (posted_one later l)),
    )

  posted_then : (ks us : List Constraint) (a b c : State) → IsPostedOn t cs ks a b → IsPostedOn t cs us b c → IsPostedOn t cs (ks ++ us) a c
  posted_then ks us a b c h g = record {
    keeps = λ u d. g.keeps u (h.keeps u d);
    runs = runs_then cs h.runs g.runs;
    variables = g.variables ∙ h.variables;
    posted = λ x d. elim d [
      | inl y ↦ g.posted x (inl (h.posted x (inl y)))
      | inr y ↦ elim (Contains-append_cases ks us x y) [ inl z ↦ g.posted x (inl (h.posted x (inr z))) | inr z ↦ g.posted x (inr z) ]
    ];
  }

  posted_none : (a : State) → IsPostedOn t cs [] a a
  posted_none a = record { keeps = λ u d. d; runs = stores.none; variables = refl; posted = λ x d. elim d [ inl y ↦ y | inr y ↦ absurd (contains_none x y) ] }

  -- all of them
  pub all_ready : (index : Identifier → ℕ) (e : Environment) (b : ℕ) (ss : Stmts) (rest : List Frame) → AreAt k.statements b ss → (st : State) → IsGood t cs st → ArePosts e index st.variables ss
      → ((c : Constraint) → Contains (all_constraints index ss) c → Contains cs c) → PostsOn (all_constraints index ss) st rest → Ready st (block e b ss rest)
  all_ready index e b none rest a st h p among g = g st h (posted_none st)
  all_ready index e b (followed (kernel.post z c us) ss) rest a st h p among g =
      let s = kernel.post z c us in
      let read = terms_read e index st.variables us p.0 in
      let is = map (λ (u : LinearTerm). index u.variable) us in
      let r = relation z (record { constant = c; coefficients = map (λ (u : LinearTerm). u.coefficient) us }) in
      let answer = single.answers k t cs top_fits R back failing st e b s ss (block e (b + 1) ss rest) a ∙ (λ i. posts (view_of t st) (sums_same z c us i) (read.0 i)) in
      post_ready st h r is (among (Posted r is) (contains_head (Posted r is) (all_constraints index ss))) read.1 (single.frame e b s) (block e (b + 1) ss rest) answer
      (λ later q l. all_ready index e (b + 1) ss rest (split_statement k.statements s ss b a).2 later q (subst (λ xs. ArePosts e index xs ss) (sym l.variables) p.1) (λ x d. among x (contains_tail (Posted r is) x (all_constraints index ss) d))
      (λ last q2 l2. g last q2 (posted_then (Posted r is ∷ []) (all_constraints index ss) st later last l l2)))
  all_ready index e b (followed (kernel.post_times x y z) ss) rest a st h p among g =
      let s = kernel.post_times x y z in
      let is = index x ∷ index y ∷ index z ∷ [] in
      let first = p.0.0 in
      let second = p.0.1 in
      let third = p.0.2 in
      let fe = first.bound_is in
      let se = second.bound_is in
      let te = third.bound_is in
      let answer = single.answers k t cs top_fits R back failing st e b s ss (block e (b + 1) ss rest) a ∙ (λ i. posts (view_of t st) Times (fe i ∷ se i ∷ te i ∷ [])) in
      post_ready st h Times is (among (Posted Times is) (contains_head (Posted Times is) (all_constraints index ss))) (three_inside (length st.variables) (index x) (index y) (index z) first.inside second.inside third.inside) (single.frame e b s) (block e (b + 1) ss rest) answer
      (λ later q l. all_ready index e (b + 1) ss rest (split_statement k.statements s ss b a).2 later q (subst (λ xs. ArePosts e index xs ss) (sym l.variables) p.1) (λ w d. among w (contains_tail (Posted Times is) w (all_constraints index ss) d))
      (λ last q2 l2. g last q2 (posted_then (Posted Times is ∷ []) (all_constraints index ss) st later last l l2)))
  all_ready index e b (followed s ss) rest a st h p among g = elim p.0 [ ]
