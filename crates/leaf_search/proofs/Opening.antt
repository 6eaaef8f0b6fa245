-- The next alternative that waits.
use Rattle.std.proofs.Common.{◌≡◌, ℕ, zero, suc, ◌+◌, ◌-◌, ◌<◌, ◌≤◌, List, ◌∷◌, ◌++◌, map, refl, sym, subst, ap, ◌∙◌, arith}
use Rattle.std.specs.List.{range_with_len}
use Rattle.oz_semantics.specs.Search.{chosen_in}
use Rattle.oz_semantics.specs.declared.configuration.Configuration.{Configuration}
use Rattle.oz_machine.specs.Courses.{Loaded}
use Rattle.leaf_search.specs.declared.open.Open.{Open}
use Rattle.leaf_search.specs.Searching.{alternatives_of, waiting, AreOf, OpensNext}

first_waits : (f : ℕ → Configuration) (a n : ℕ) → 0 < n → map f (range_with_len a n) ≡ f a ∷ map f (range_with_len (a + 1) (n - 1))
first_waits f a zero h = absurd (omega arith)
first_waits f a (suc n) h = let e : suc n - 1 ≡ n = omega arith in rw e refl

-- a copy of the node is committed, and the node stands for the others
pub opens_next : (space : List ℕ) (node rest : Open) (os new : List Open) (child : Loaded) → 0 < node.left → new ≡ rest ∷ os
    → rest.machine ≡ node.machine → rest.taken ≡ node.taken + 1 → rest.left ≡ node.left - 1
    → child.kernel ≡ node.machine.kernel → child.config ≡ chosen_in node.machine.kernel.statements space (node.taken + 1) node.machine.config
    → OpensNext space (node ∷ os) new child
opens_next space node rest os new child some e m t l k c =
    let f : Loaded → ℕ → Configuration = λ x i. chosen_in x.kernel.statements space i x.config in
    let others : alternatives_of space rest ≡ map (f node.machine) (range_with_len (node.taken + 1 + 1) (node.left - 1)) =
    ap (λ (x : Loaded). map (f x) (range_with_len (rest.taken + 1) rest.left)) m
    ∙ ap (λ n. map (f node.machine) (range_with_len (n + 1) rest.left)) t
    ∙ ap (λ n. map (f node.machine) (range_with_len (node.taken + 1 + 1) n)) l in
    record {
      first =
          ap (λ cs. cs ++ waiting space os) (first_waits (f node.machine) (node.taken + 1) node.left some)
          ∙ ap (λ (x : Configuration). x ∷ (map (f node.machine) (range_with_len (node.taken + 1 + 1) (node.left - 1)) ++ waiting space os)) (sym c)
          ∙ ap (λ (cs : List Configuration). child.config ∷ (cs ++ waiting space os)) (sym others)
          ∙ ap (λ (xs : List Open). child.config ∷ waiting space xs) (sym e);
      kernel = λ q are. (k ∙ are.0, subst (λ (xs : List Open). AreOf q xs) (sym e) (ap (λ (x : Loaded). x.kernel) m ∙ are.0, are.1));
    }

-- a node without alternatives is passed over
pub none_left : (space : List ℕ) (node : Open) (os : List Open) → node.left ≤ 0 → waiting space (node ∷ os) ≡ waiting space os
none_left space node os h =
    let e : node.left ≡ 0 = omega arith in
    ap (λ n. map (λ i. chosen_in node.machine.kernel.statements space i node.machine.config) (range_with_len (node.taken + 1) n) ++ waiting space os) e
