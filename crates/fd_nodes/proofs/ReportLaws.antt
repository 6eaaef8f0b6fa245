-- The traversal of a tree of reports.
use Rattle.std.proofs.Common.{◌≡◌, ℕ, zero, suc, ◌+◌, ◌-◌, ◌<◌, ◌≤◌, inl, inr, cond, true, false, List, [], ◌∷◌, ◌++◌, Some, None, refl, ◌∙◌, ap, arith}
use Rattle.std.proofs.lemmas.List.{append-nil}
use Rattle.oz_search.specs.declared.tree.Kind.{Kind}
use Rattle.oz_search.specs.declared.tree.Kind.TheVariants.{Alternatives, End}
use Rattle.oz_search.specs.Searches.{Search}
use Rattle.oz_search.specs.Paths.{Taking, children}
use Rattle.oz_search.specs.Trees.{Tree as ReportTree, report, Costs, leaf_at, Found, with_front, then_find, visit_all, found_by_kind, found_by, explore, in_steps, depth_first}
use Rattle.fd_stores.specs.Stores.{Store}
use Rattle.fd_trees.specs.Trees.{Tree, Choice}
use Rattle.fd_nodes.specs.Reports.{Shows, failed, leaf, choice, shown_leaves, ReportsLaw}
use Rattle.fd_nodes.proofs.FuelLaws.{le_test, gt_test, at_most_or}

-- what is given: a search, its branches, the tree of reports, and what is shown of a store
record Given (B L : Type 0) : Type 0 where
  k : Search B L
  branch : Taking B
  node : ReportTree B L
  shown : Store → L
  costs : Costs node

module _ {B L : Type 0} (its : Given B L) where
  abbrev below : ℕ → List B → ℕ → Found (List B × L)
  below bound p fuel = explore its.k its.branch its.node bound p fuel

  abbrev of_kind : ℕ → List B → Kind L → ℕ → Found (List B × L)
  of_kind bound p kind fuel = found_by_kind its.k its.branch (below bound) p kind fuel

  -- a node whose own steps fit, and one whose do not
  fits : (bound : ℕ) (p : List B) (kind : Kind L) (s fuel : ℕ) → its.node p ≡ Some (report kind s) → s ≤ fuel → below (suc bound) p fuel ≡ of_kind bound p kind (fuel - s)
  unfolding explore
  fits bound p kind s fuel e l =
      ap (λ x. found_by its.k its.branch (below bound) p x fuel) e ∙ ap (λ b. cond b (of_kind bound p kind (fuel - s)) None) (le_test s fuel l)

  over : (bound : ℕ) (p : List B) (kind : Kind L) (s fuel : ℕ) → its.node p ≡ Some (report kind s) → fuel < s → below bound p fuel ≡ None
  unfolding explore
  over zero p kind s fuel e l = refl
  over (suc bound) p kind s fuel e l =
      ap (λ x. found_by its.k its.branch (below bound) p x fuel) e ∙ ap (λ b. cond b (of_kind bound p kind (fuel - s)) None) (gt_test s fuel l)

  no_leaf : (p : List B) (l : L) → its.k.fails l ≡ true → leaf_at its.k p l ≡ []
  no_leaf p l e = ap (λ b. cond b [] ((p, l) ∷ [])) e

  one_leaf : (p : List B) (l : L) → its.k.fails l ≡ false → leaf_at its.k p l ≡ (p, l) ∷ []
  one_leaf p l e = ap (λ b. cond b [] ((p, l) ∷ [])) e

  abbrev first : List B → List B
  first p = p ++ its.branch p 1 ∷ []

  abbrev second : List B → List B
  second p = p ++ its.branch p 2 ∷ []

  abbrev last : ℕ → Found (List B × L)
  last i = Some ([], i)

  -- two children, one after the other
  two : (bound : ℕ) (p : List B) (fuel : ℕ) → visit_all (below bound) (children its.branch p 2) fuel ≡ then_find (below bound (first p) fuel) (λ j. then_find (below bound (second p) j) last)
  two bound p fuel = refl

  abbrev IsShown : List B → Tree → ℕ → Type 0
  IsShown p t n = Shows its.k its.branch its.node its.shown p t n

  positive : (p : List B) (t : Tree) (n : ℕ) → IsShown p t n → 1 ≤ n
  positive p t n (failed l e f) = its.costs p _ e
  positive p t n (leaf e f) = its.costs p _ e
  positive p t n (choice {s = s} {a = a} {b = b} e l r) = (let c = its.costs p (report (Alternatives 2) s) e in omega arith)

  abbrev Finds : ℕ → List B → Tree → ℕ → ℕ → Type 0
  Finds bound p t n fuel = below bound p fuel ≡ Some (shown_leaves its.branch its.shown p t, fuel - n)

  abbrev Lacks : ℕ → List B → ℕ → Type 0
  Lacks bound p fuel = below bound p fuel ≡ None

  module _ (bound : ℕ) (p : List B) (l r : Tree) (s a b fuel : ℕ) (e : its.node p ≡ Some (report (Alternatives 2) s)) (h : s ≤ fuel) where
    both_found : s + (a + b) ≤ fuel → Finds bound (first p) l a (fuel - s) → Finds bound (second p) r b (fuel - s - a) → Finds (suc bound) p (Choice l r) (s + (a + b)) fuel
    both_found k f g =
        let ls = shown_leaves its.branch its.shown (first p) l in
        let rs = shown_leaves its.branch its.shown (second p) r in
        let left : fuel - s - a - b ≡ fuel - (s + (a + b)) = omega arith in
        fits bound p (Alternatives 2) s fuel e h
        ∙ ap (λ x. then_find x (λ j. then_find (below bound (second p) j) last)) f
        ∙ ap (λ x. with_front ls (then_find x last)) g
        ∙ (λ i. Some (ls ++ append-nil rs i, left i))

    first_lacks : Lacks bound (first p) (fuel - s) → Lacks (suc bound) p fuel
    first_lacks f = fits bound p (Alternatives 2) s fuel e h ∙ ap (λ x. then_find x (λ j. then_find (below bound (second p) j) last)) f

    second_lacks : Finds bound (first p) l a (fuel - s) → Lacks bound (second p) (fuel - s - a) → Lacks (suc bound) p fuel
    second_lacks f g =
        fits bound p (Alternatives 2) s fuel e h
        ∙ ap (λ x. then_find x (λ j. then_find (below bound (second p) j) last)) f
        ∙ ap (λ x. with_front (shown_leaves its.branch its.shown (first p) l) (then_find x last)) g

  gives : (bound : ℕ) (p : List B) (t : Tree) (n fuel : ℕ) → IsShown p t n → n ≤ fuel → fuel ≤ bound → Finds bound p t n fuel
  gives zero p t n fuel h l u = absurd (let k = positive p t n h in omega arith)
  gives (suc bound) p t n fuel (failed x e f) l u = fits bound p (End x) n fuel e l ∙ ap (λ ls. Some (ls, fuel - n)) (no_leaf p x f)
  gives (suc bound) p t n fuel (leaf {m = m} e f) l u = fits bound p (End (its.shown m)) n fuel e l ∙ ap (λ ls. Some (ls, fuel - n)) (one_leaf p (its.shown m) f)
  gives (suc bound) p t n fuel (choice {l = x} {r = y} {s = s} {a = a} {b = b} e hx hy) l u =
      let c = its.costs p (report (Alternatives 2) s) e in
      both_found bound p x y s a b fuel e (omega arith) l (gives bound (first p) x a (fuel - s) hx (omega arith) (omega arith)) (gives bound (second p) y b (fuel - s - a) hy (omega arith) (omega arith))

  lacks : (bound : ℕ) (p : List B) (t : Tree) (n fuel : ℕ) → IsShown p t n → fuel < n → fuel ≤ bound → Lacks bound p fuel
  unfolding explore
  lacks zero p t n fuel h l u = refl
  lacks (suc bound) p t n fuel (failed x e f) l u = over (suc bound) p (End x) n fuel e l
  lacks (suc bound) p t n fuel (leaf {m = m} e f) l u = over (suc bound) p (End (its.shown m)) n fuel e l
  lacks (suc bound) p t n fuel (choice {l = x} {r = y} {s = s} {a = a} {b = b} e hx hy) l u =
      let c = its.costs p (report (Alternatives 2) s) e in
      elim (at_most_or s fuel) [
        | inr g ↦ over (suc bound) p (Alternatives 2) s fuel e g
        | inl h ↦ elim (at_most_or a (fuel - s)) [
          | inr g ↦ first_lacks bound p x y s a b fuel e h (lacks bound (first p) x a (fuel - s) hx g (omega (arith, h)))
          | inl k ↦ second_lacks bound p x y s a b fuel e h (gives bound (first p) x a (fuel - s) hx k (omega (arith, h))) (lacks bound (second p) y b (fuel - s - a) hy (omega (arith, h, k)) (omega (arith, h)))
        ]
      ]

pub reports_law : (B L : Type 0) → ReportsLaw B L
unfolding depth_first
reports_law B L k branch node shown t n costs h =
    let its : Given B L = record { k = k; branch = branch; node = node; shown = shown; costs = costs } in
    record {
      enough = λ fuel l. ap (in_steps fuel) (gives its fuel [] t n fuel h l (omega arith)) ∙ (let e : fuel - (fuel - n) ≡ n = omega (arith, l) in ap (λ j. Some (shown_leaves branch shown [] t, j)) e);
      short = λ fuel l. ap (in_steps fuel) (lacks its fuel [] t n fuel h l (omega arith));
    }
