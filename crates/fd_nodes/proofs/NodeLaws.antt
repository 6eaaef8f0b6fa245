-- The traversal of a machine's nodes.
use Rattle.std.proofs.Common.{◌≡◌, ℕ, zero, suc, ◌+◌, ◌-◌, ◌<◌, ◌≤◌, inl, inr, List, [], ◌∷◌, ◌++◌, map, Some, None, refl, sym, ◌∙◌, ap, cond, false, arith}
use Rattle.std.proofs.lemmas.List.{append-nil, map-append}
use Rattle.oz_language.specs.declared.kernel.Kernel.{Kernel}
use Rattle.oz_search.specs.declared.leaf.Outcome.{Outcome}
use Rattle.oz_search.specs.declared.tree.Kind.{Kind}
use Rattle.oz_search.specs.declared.tree.Kind.TheVariants.{Alternatives, End}
use Rattle.oz_search.specs.Trees.{Found, with_front, then_find, visit_all, in_steps}
use Rattle.oz_search.specs.Nodes.{Reached}
use Rattle.oz_search.specs.Plain.{is_failed}
use Rattle.search_law.specs.NodeLaw.{leaves_alone}
use Rattle.oz_semantics.specs.Search.{chosen_in, node_at, script_found, script_variable, search_space, with_root}
use Rattle.oz_semantics.specs.declared.configuration.Configuration.{Configuration}
use Rattle.machine_search.specs.Visits.{leaf_of, children_of, found_at, explored, found_below}
use Rattle.machine_search.proofs.MakerLaws.{maker_law}
use Rattle.machine_search.proofs.SpaceLaws.{script_law}
use Rattle.fd_stores.specs.Stores.{Store}
use Rattle.fd_trees.specs.Trees.{Tree, Choice, leaves}
use Rattle.fd_nodes.specs.Nodes.{IsNode, ShowsTree, failed, leaf, choice, NodesLaw, FoundLaw}
use Rattle.fd_nodes.proofs.FuelLaws.{le_test, gt_test, at_most_or}

-- ---- a node

abbrev Place : Type 0
Place = Reached Configuration Outcome

module _ (k : Kernel) (space : List ℕ) where
  positive : (c : Configuration) (n : Place) → IsNode k space c n → 1 ≤ n.report.steps
  positive c n h = (maker_law k space h.0 c n h.1).0

  there : (c : Configuration) (n : Place) (fuel : ℕ) → IsNode k space c n → n.report.steps ≤ fuel → node_at k space fuel c ≡ Some n
  there c n fuel h l = (maker_law k space h.0 c n h.1).2 fuel ∙ ap (λ b. cond b (Some n) None) (le_test n.report.steps fuel l)

  missing : (c : Configuration) (n : Place) (fuel : ℕ) → IsNode k space c n → fuel < n.report.steps → node_at k space fuel c ≡ None
  missing c n fuel h l = (maker_law k space h.0 c n h.1).2 fuel ∙ ap (λ b. cond b (Some n) None) (gt_test n.report.steps fuel l)

  abbrev below : ℕ → Configuration → ℕ → Found Outcome
  below bound c fuel = explored k space bound c fuel

  -- what is found from a configuration whose node is of this kind
  abbrev of_kind : ℕ → Configuration → Kind Outcome → ℕ → Found Outcome
  of_kind bound d kind left = with_front (leaf_of kind) (visit_all (below bound) (children_of k space d kind) left)

  fits : (bound : ℕ) (c : Configuration) (n : Place) (kind : Kind Outcome) (fuel : ℕ) → IsNode k space c n → n.report.kind ≡ kind → n.report.steps ≤ fuel → below (suc bound) c fuel ≡ of_kind bound n.config kind (fuel - n.report.steps)
  unfolding explored
  fits bound c n kind fuel h e l = ap (found_at k space (below bound) fuel) (there c n fuel h l) ∙ ap (λ x. of_kind bound n.config x (fuel - n.report.steps)) e

  over : (bound : ℕ) (c : Configuration) (n : Place) (fuel : ℕ) → IsNode k space c n → fuel < n.report.steps → below bound c fuel ≡ None
  unfolding explored
  over zero c n fuel h l = refl
  over (suc bound) c n fuel h l = ap (found_at k space (below bound) fuel) (missing c n fuel h l)

  one_leaf : (bound : ℕ) (d : Configuration) (left : ℕ) (o : Outcome) → is_failed o ≡ false → of_kind bound d (End o) left ≡ Some (o ∷ [], left)
  one_leaf bound d left o e = ap (λ b. with_front (cond b [] (o ∷ [])) (Some ([], left))) e

  -- ---- a tree

  abbrev last : ℕ → Found Outcome
  last i = Some ([], i)

  abbrev first_child : Place → Configuration
  first_child n = chosen_in k.statements space 1 n.config

  abbrev second_child : Place → Configuration
  second_child n = chosen_in k.statements space 2 n.config

  two : (bound : ℕ) (n : Place) (left : ℕ) → of_kind bound n.config (Alternatives 2) left ≡ with_front [] (then_find (below bound (first_child n) left) (λ j. then_find (below bound (second_child n) j) last))
  two bound n left = refl

  module _ (shown : Store → Outcome) where
    abbrev Finds : ℕ → Configuration → Tree → ℕ → ℕ → Type 0
    Finds bound c t j fuel = below bound c fuel ≡ Some (map shown (leaves t), fuel - j)

    abbrev Lacks : ℕ → Configuration → ℕ → Type 0
    Lacks bound c fuel = below bound c fuel ≡ None

    module _ (bound : ℕ) (c : Configuration) (n : Place) (l r : Tree) (a b fuel : ℕ) (h : IsNode k space c n) (e : n.report.kind ≡ Alternatives 2) (q : n.report.steps ≤ fuel) where
      opens : below (suc bound) c fuel ≡ with_front [] (then_find (below bound (first_child n) (fuel - n.report.steps)) (λ j. then_find (below bound (second_child n) j) last))
      opens = fits bound c n (Alternatives 2) fuel h e q ∙ two bound n (fuel - n.report.steps)

      both_found : n.report.steps + (a + b) ≤ fuel → Finds bound (first_child n) l a (fuel - n.report.steps) → Finds bound (second_child n) r b (fuel - n.report.steps - a)
          → Finds (suc bound) c (Choice l r) (n.report.steps + (a + b)) fuel
      both_found w f g =
          let ls = map shown (leaves l) in
          let rs = map shown (leaves r) in
          let left : fuel - n.report.steps - a - b ≡ fuel - (n.report.steps + (a + b)) = omega arith in
          let all : ls ++ (rs ++ []) ≡ map shown (leaves l ++ leaves r) = ap (λ x. ls ++ x) (append-nil rs) ∙ sym (map-append shown (leaves l) (leaves r)) in
          opens
          ∙ ap (λ x. with_front [] (then_find x (λ j. then_find (below bound (second_child n) j) last))) f
          ∙ ap (λ x. with_front [] (with_front ls (then_find x last))) g
          ∙ (λ i. Some (all i, left i))

      first_lacks : Lacks bound (first_child n) (fuel - n.report.steps) → Lacks (suc bound) c fuel
      first_lacks f = opens ∙ ap (λ x. with_front [] (then_find x (λ j. then_find (below bound (second_child n) j) last))) f

      second_lacks : Finds bound (first_child n) l a (fuel - n.report.steps) → Lacks bound (second_child n) (fuel - n.report.steps - a) → Lacks (suc bound) c fuel
      second_lacks f g =
          opens
          ∙ ap (λ x. with_front [] (then_find x (λ j. then_find (below bound (second_child n) j) last))) f
          ∙ ap (λ x. with_front [] (with_front (map shown (leaves l)) (then_find x last))) g

    gives : (bound : ℕ) (c : Configuration) (t : Tree) (j fuel : ℕ) → ShowsTree k space shown c t j → j ≤ fuel → fuel < bound → Finds bound c t j fuel
    gives zero c t j fuel h l u = absurd (omega (arith, u))
    gives (suc bound) c t j fuel (failed n h e) l u = fits bound c n (End _) fuel h e l
    gives (suc bound) c t j fuel (leaf {m = m} n h e f) l u = fits bound c n (End (shown m)) fuel h e l ∙ one_leaf bound n.config (fuel - n.report.steps) (shown m) f
    gives (suc bound) c t j fuel (choice {l = x} {r = y} {a = a} {b = b} n h e hx hy) l u =
        let p = positive c n h in
        both_found bound c n x y a b fuel h e (omega arith) l (gives bound (first_child n) x a (fuel - n.report.steps) hx (omega arith) (omega arith))
        (gives bound (second_child n) y b (fuel - n.report.steps - a) hy (omega arith) (omega arith))

    lacks : (bound : ℕ) (c : Configuration) (t : Tree) (j fuel : ℕ) → ShowsTree k space shown c t j → fuel < j → fuel < bound → Lacks bound c fuel
    lacks zero c t j fuel h l u = absurd (omega (arith, u))
    lacks (suc bound) c t j fuel (failed n h e) l u = over (suc bound) c n fuel h l
    lacks (suc bound) c t j fuel (leaf n h e f) l u = over (suc bound) c n fuel h l
    lacks (suc bound) c t j fuel (choice {l = x} {r = y} {a = a} {b = b} n h e hx hy) l u =
        let p = positive c n h in
        elim (at_most_or n.report.steps fuel) [
          | inr g ↦ over (suc bound) c n fuel h g
          | inl q ↦ elim (at_most_or a (fuel - n.report.steps)) [
            | inr g ↦ first_lacks bound c n x y a b fuel h e q (lacks bound (first_child n) x a (fuel - n.report.steps) hx g (omega (arith, q)))
            | inl w ↦ second_lacks bound c n x y a b fuel h e q (gives bound (first_child n) x a (fuel - n.report.steps) hx w (omega (arith, q)))
                (lacks bound (second_child n) y b (fuel - n.report.steps - a) hy (omega (arith, q, w)) (omega (arith, q)))
          ]
        ]

pub nodes_law : NodesLaw
unfolding found_below
nodes_law k space shown c t j h = record {
  enough = λ fuel l. gives k space shown (suc fuel) c t j fuel h l (omega arith);
  short = λ fuel l. lacks k space shown (suc fuel) c t j fuel h l (omega arith);
}

-- ---- a script

none_alone : {B L : Type 0} (o : Found (List B × L)) → leaves_alone o ≡ None → o ≡ None
none_alone None e = refl
none_alone (Some r) e = cc

pub found_law : FoundLaw
found_law k shown c t j h =
    let space = search_space c in
    let root = with_root k.statements script_variable c in
    let finds = nodes_law k space shown root t j h in
    record {
      enough = λ fuel l. script_law k c fuel ∙ ap (in_steps fuel) (finds.enough fuel l) ∙ (let e : fuel - (fuel - j) ≡ j = omega (arith, l) in ap (λ s. Some (map shown (leaves t), s)) e);
      short = λ fuel l. none_alone (script_found k c fuel) (script_law k c fuel ∙ ap (in_steps fuel) (finds.short fuel l));
    }
