-- The machine is a maker of the nodes of best search.
use Rattle.std.proofs.Common.{◌≡◌, ℕ, ◌≤◌, Bool, true, false, cond, if◌then◌else◌, List, [], ◌∷◌, ◌++◌, Option, Some, None, option_map, refl, ap, ◌∙◌, subst}
use lib.Dec.{leb}
use Rattle.std.proofs.lemmas.Option.{same_Some}
use Rattle.oz_base.specs.Lists.{edit_first}
use Rattle.oz_language.specs.declared.kernel.Constant.{Constant}
use Rattle.oz_search.specs.Nodes.{Reached, if_within}
use Rattle.oz_search.specs.Best.{best}
use Rattle.oz_search.specs.declared.best.Bounded.{Bounded}
use Rattle.oz_search.specs.declared.best.Costed.{Costed}
use Rattle.oz_search.specs.declared.leaf.Outcome.{Outcome}
use Rattle.search_law.proofs.NodeLaws as made
use Rattle.oz_semantics.specs.Configurations.{is_of, telling}
use Rattle.oz_semantics.specs.Edits.{committed}
use Rattle.oz_semantics.specs.Search.{node_at, followed}
use Rattle.oz_semantics.specs.declared.value.Tell.{Tell}
use Rattle.oz_semantics.specs.declared.configuration.Layer.{Layer}
use Rattle.oz_semantics.specs.declared.configuration.Configuration.{Configuration}
use Rattle.machine_search.proofs.MakerLaws.{maker_law}
use Rattle.oz_semantics.specs.BestSearch.{costed, best_maker}
use Rattle.machine_search.specs.BestNodes.{BestMakerLaw, BestTreeLaw, UnboundedLaw}

-- a node of best search is one of plain search with its cost
pub node_of : (space : List ℕ) (feature : Constant) (o : Option (Reached Configuration Outcome)) (r : Reached Configuration Costed) → option_map (costed space feature) o ≡ Some r
    → (n : Reached Configuration Outcome) × (o ≡ Some n) × (costed space feature n ≡ r)
node_of space feature None r e = absurd (cc)
node_of space feature (Some n) r e = (n, refl, same_Some (costed space feature n) r e)

within : (space : List ℕ) (feature : Constant) (g : ℕ) (n : Reached Configuration Outcome) → option_map (costed space feature) (if_within g n) ≡ if_within g (costed space feature n)
within space feature g n = by (leb n.report.steps g)
  where
    by : (b : Bool) → option_map (costed space feature) (if b then Some n else None) ≡ (if b then Some (costed space feature n) else None)
    by true = refl
    by false = refl

pub best_maker_law : BestMakerLaw
best_maker_law k space feature f c r e =
    let q = node_of space feature (node_at k space f c) r e in
    let m = maker_law k space f c q.0 q.1 in
    subst (λ z. (1 ≤ z.report.steps) × (z.report.steps ≤ f) × ((g : ℕ) → option_map (costed space feature) (node_at k space g c) ≡ if_within g z)) q.2
    (m.0, m.1, λ g. ap (option_map (costed space feature)) (m.2 g) ∙ within space feature g q.0)

pub best_tree_law : BestTreeLaw
best_tree_law k space feature c = made.tree_law Bounded Costed Configuration best (best_maker k space feature) (best_maker_law k space feature) c

-- ---- no bound

nothing_behind : (ts : List Tell) → ts ++ [] ≡ ts
nothing_behind [] = refl
nothing_behind (t ∷ ts) = ap (λ us. t ∷ us) (nothing_behind ts)

told_nothing : (l : Layer) → telling [] l ≡ l
told_nothing l = ap (λ ts. record l { tells = ts }) (nothing_behind l.tells)

none_told : (test : Layer → Bool) (ls : List Layer) → edit_first test (telling []) ls ≡ ls
none_told test [] = refl
none_told test (l ∷ ls) = by (test l) (none_told test ls)
  where
    by : (b : Bool) → edit_first test (telling []) ls ≡ ls → cond b (telling [] l ∷ ls) (l ∷ edit_first test (telling []) ls) ≡ l ∷ ls
    by true e = ap (λ x. x ∷ ls) (told_nothing l)
    by false e = ap (λ xs. l ∷ xs) e

pub unbounded_law : UnboundedLaw
unbounded_law statements space feature i c = ap (followed statements c) (none_told (is_of space) (committed statements space i c.layers))
