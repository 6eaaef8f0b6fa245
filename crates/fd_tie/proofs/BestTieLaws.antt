-- The tie of a script's best search to the search of its problem.
use Rattle.std.proofs.Common.{◌≡◌, ℕ, zero, suc, ℤ, pos, ◌<◌, List, [], ◌∷◌, ◌++◌, codes, length, map, take, slice_get, position, Contains, Some, option_and_then, refl, sym, ◌∙◌, ap, subst, arith}
use Rattle.std.proofs.lemmas.List.{length-append, length-map}
use Rattle.std.specs.FinSet as set
use Rattle.environments.specs.Environments.{Environment}
use Rattle.oz_base.specs.declared.names.Ident.{Ident}
use Rattle.oz_domains.specs.Domains.{least, least_of}
use Rattle.oz_domains.specs.Positions.{domain, value}
use Rattle.oz_language.specs.Refusals.{Program}
use Rattle.oz_language.specs.Constants.{constant_eq}
use Rattle.oz_language.specs.Wording.{bar_word}
use Rattle.oz_language.specs.declared.kernel.Constant.{Constant}
use Rattle.oz_language.specs.Kernels.{word_text, numbers}
use Rattle.oz_search.specs.declared.best.Costed.{Costed}
use Rattle.oz_search.specs.declared.leaf.Outcome.TheVariants as outcome
use Rattle.oz_semantics.specs.Search.{script_variable, with_root, search_space}
use Rattle.oz_semantics.specs.BestSearch.{field_of, best_tree}
use Rattle.oz_semantics.specs.declared.configuration.Configuration.{Configuration}
use Rattle.text_laws.proofs.OwnWords.{words_stand}
use Rattle.text_laws.specs.Laws.{AreWords}
use Rattle.propagators.proofs.StepLaws.{parts_refl}
use Rattle.fd_domain.proofs.SetLaws.{has-empty, item-has}
use Rattle.fd_stores.specs.Stores.{Store}
use Rattle.fd_stores.proofs.Lists.{contains_head}
use Rattle.fd_trees.specs.Scripts.{IsProblem, tuple_at}
use Rattle.fd_trees.proofs.ScriptLaws as scripts
use Rattle.fd_bounds.specs.Bounds.{cost_of}
use Rattle.fd_bounds.specs.BoundedTrees.{BoundedTree}
use Rattle.fd_best.specs.Parts.{ShowsTree, solved_leaf}
use Rattle.fd_views.specs.Views.{variable_at}
use Rattle.fd_form.specs.declared.script.FdScript.{FdScript}
use Rattle.fd_form.specs.FdScripts.{answer_text}
use Rattle.fd_form_law.specs.FdOptimality.{ShowsBest, BestTie}
use Rattle.fd_form_law.specs.Shapes.{IsShaped}
use Rattle.fd_form_law.proofs.ProgramLaws.{form_is_problem}
use Rattle.fd_form_law.proofs.ShapeLaws.{scripts_shaped}
use Rattle.fd_turns.specs.Nodes.{Top, node_space}
use Rattle.fd_opening.specs.Opened.{IsTop, Begins}
use Rattle.fd_opening.proofs.ScriptLaws.{script_begins, body_stands}
use Rattle.fd_execution.specs.Further.{root_value}
use Rattle.fd_execution.proofs.ScopeLaws.{AreAt}
use Rattle.fd_search.specs.BestSearching.{IsCost, ComesBelow, ShowsBelow}
use Rattle.fd_search.proofs.BestBackLaws.{back_below, failing_below}
use Rattle.fd_search.proofs.BestRunLaws.{run_below_law}
use Rattle.fd_search.proofs.BestTreeLaws.{tree_below_law}
use Rattle.fd_tie.proofs.FeatureLaws.{Apart, features_apart, slice_inside, place_is}
use Rattle.fd_tie.proofs.TieLaws.{fields, fields_long, first, k, body, code_is, its, searched, begins, arrives}

-- ---- the cost of a leaf

least_none : least set.empty ≡ pos 0
unfolding least
least_none = ap least_of (no_items (set.items set.empty) (λ q c. has-empty q (item-has set.empty q c))) where
  no_items : (vs : List ℤ) → ((q : ℤ) → Contains vs q → ⊥) → vs ≡ []
  no_items [] h = refl
  no_items (v ∷ vs) h = absurd (h v (contains_head v vs))

-- the value of a variable among the first is the least of its domain
least_at : (m : Store) (n x : ℕ) → x < n → value (take n (map least m)) x ≡ least (domain m x)
least_at m zero x l = absurd (omega (arith, l))
least_at [] (suc n) x l = sym least_none
least_at (d ∷ m) (suc n) zero l = refl
least_at (d ∷ m) (suc n) (suc x) l = least_at m n x (omega (arith, l))

-- ---- the field of the cost

slice_at : (xs ys : List Ident) (i : ℕ) → i < length xs → slice_get xs i ≡ Some (variable_at (xs ++ ys) i)
slice_at [] ys i l = absurd (omega (arith, l))
slice_at (x ∷ xs) ys zero l = refl
slice_at (x ∷ xs) ys (suc i) l = slice_at xs ys i (omega (arith, l))

-- a feature of a record has the variable at its place
field_at : (s : FdScript) (fs : List (Constant × ℕ)) (base more : List Ident) (feature : Constant) (place : ℕ) → length base ≡ length fs → map (λ (f : Constant × ℕ). f.0) fs ≡ s.features → Apart s.features
    → slice_get s.features place ≡ Some feature → field_of feature (root_value s.label fs base) ≡ Some (variable_at (base ++ more) place)
field_at s [] base more feature place long same apart e = (let l = slice_inside s.features place feature e in let f = ap length same in absurd (omega (arith, l, f)))
field_at s (f ∷ fs) base more feature place long same apart e =
    let l = slice_inside s.features place feature e in
    let m = ap length same in
    let n = length-map fs (λ (g : Constant × ℕ). g.0) in
    ap (λ gs. option_and_then (slice_get base) (position (constant_eq feature) gs)) same ∙ ap (option_and_then (slice_get base)) (place_is s.features place feature apart e)
    ∙ slice_at base more place (omega (arith, l, m, n, long))

-- ---- a script with a cost

module _ (p : Program) (s : FdScript) (h : IsShaped p s) (problem : IsProblem s.problem) (bar : word_text p.words bar_word ≡ codes "|") (apart : Apart s.features)
    (place : ℕ) (feature : Constant) (field : slice_get s.features place ≡ Some feature) where
  inside : place < s.problem.count
  inside =
      let r = h.recorded in
      let l = slice_inside s.features place feature field in
      let e = ap length r.features in
      let f = length-map (fields p s h problem bar) (λ (g : Constant × ℕ). g.0) in
      let g = fields_long p s h problem bar in
      omega (arith, l, e, f, g)

  module _ (t : Top) (e0 : Environment) (top : IsTop t h.root (numbers 0 (body p s h problem bar)) e0) (stand : AreAt (k p s h problem bar).statements 0 (body p s h problem bar)) where
    is_cost : (base more : List Ident) → length base ≡ s.problem.count → IsCost (its p s h problem bar t e0 top base more) feature place
    is_cost base more long =
        let r = h.recorded in
        let e = length-append base more in
        let i = inside in
        record {
          inside = omega (arith, e, i, long);
          field = field_at s (fields p s h problem bar) base more feature place (long ∙ sym (fields_long p s h problem bar)) r.features apart field;
        }

    abbrev Below : List Ident → List Ident → Type 0
    Below base more = ComesBelow (its p s h problem bar t e0 top base more) feature place (begins p s h problem bar t e0 top) (first p s h problem bar)

    all_arrive : (base : List Ident) × (more : List Ident) × (length base ≡ s.problem.count) × Below base more
    all_arrive =
        arrives p s h problem bar t e0 top (λ base more. ComesBelow (its p s h problem bar t e0 top base more) feature place) (λ base more. back_below (its p s h problem bar t e0 top base more) feature place)
        (λ base more. failing_below (its p s h problem bar t e0 top base more) feature place)
        (λ base more c a long g q. run_below_law (its p s h problem bar t e0 top base more) feature place c a g (is_cost base more long) q) stand

    shows_search : (base more : List Ident) → length base ≡ s.problem.count → Below base more → ShowsBelow (its p s h problem bar t e0 top base more) feature place (begins p s h problem bar t e0 top) (first p s h problem bar)
    shows_search base more long a =
        let over = scripts.over s.problem problem in
        tree_below_law (its p s h problem bar t e0 top base more) feature place (begins p s h problem bar t e0 top) (first p s h problem bar) (searched p s h problem bar t e0 top base more long) (is_cost base more long)
        (parts_refl (first p s h problem bar)) over.domains a

  -- what is shown of a leaf
  leaf_is : (m : Store) → ◌≡◌ {A = Costed} (record { outcome = outcome.Solved (answer_text p.words s (tuple_at s.problem m)); cost = Some (cost_of place m) }) (solved_leaf (answer_text p.words s) s.problem place m)
  leaf_is m = ap (λ v. record { outcome = outcome.Solved (answer_text p.words s (tuple_at s.problem m)); cost = Some v }) (sym (least_at m s.problem.count place inside))

  module _ (top : Configuration) (b : Begins (k p s h problem bar) h.root (numbers 0 (body p s h problem bar)) top) (stand : AreAt (k p s h problem bar).statements 0 (body p s h problem bar)) where
    abbrev root : Configuration
    root = begins p s h problem bar b.top b.environment b.is_top

    shows_at : (tree : BoundedTree) (fuel : ℕ) → ShowsTree (λ m. record { outcome = outcome.Solved (answer_text p.words s (tuple_at s.problem m)); cost = Some (cost_of place m) }) (best_tree (k p s h problem bar) node_space feature root fuel) tree
        → ShowsTree (solved_leaf (answer_text p.words s) s.problem place) (best_tree (k p s h problem bar) (search_space top) feature (with_root (k p s h problem bar).statements script_variable top) fuel) tree
    shows_at tree fuel w =
        subst (λ c. ShowsTree (solved_leaf (answer_text p.words s) s.problem place) (best_tree (k p s h problem bar) (search_space top) feature c fuel) tree) (sym b.begins)
        (subst (λ sp. ShowsTree (solved_leaf (answer_text p.words s) s.problem place) (best_tree (k p s h problem bar) sp feature root fuel) tree) (sym b.space)
        (subst (λ shown. ShowsTree shown (best_tree (k p s h problem bar) node_space feature root fuel) tree) (λ i m. leaf_is m i) w))

    pub shows : ShowsBest p.words s place feature (k p s h problem bar) top
    shows =
        let a = all_arrive b.top b.environment b.is_top stand in
        let w = shows_search b.top b.environment b.is_top stand a.0 a.1 a.2 a.3 in
        record { tree = w.tree; is_tree = w.is_tree; shows = λ fuel. shows_at w.tree fuel (w.shows fuel); quiet = b.quiet }

pub best_tie : BestTie
best_tie text p s place feature budget left top acc has ran =
    let h = scripts_shaped p s has.script in
    let problem = form_is_problem p s acc.derived.program has.script in
    let words = subst AreWords (sym acc.words) (words_stand text acc.lexemes) in
    let bar : word_text p.words bar_word ≡ codes "|" = ap (λ ws. word_text ws bar_word) words.given in
    let apart = features_apart p s has.script acc.in_scope in
    let code = code_is p s h problem bar in
    let whole = body p s h problem bar in
    shows p s h problem bar apart place feature has.field top (script_begins p h.root whole code budget left top ran) (body_stands p h.root whole code)
