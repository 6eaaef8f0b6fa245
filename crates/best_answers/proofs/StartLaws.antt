-- The tree that is searched from where the search of a script begins.
use Rattle.std.proofs.Common.{◌≡◌, ◌∙◌, ℕ, List, ap}
use Rattle.oz_base.specs.declared.names.Ident.{Ident}
use Rattle.oz_language.specs.declared.kernel.Constant.{Constant}
use Rattle.oz_language.specs.declared.kernel.Kernel.{Kernel}
use Rattle.oz_semantics.specs.BestSearch.{best_tree, script_best}
use Rattle.oz_semantics.specs.Search.{script_variable, with_root, search_space}
use Rattle.oz_semantics.specs.declared.configuration.Configuration.{Configuration}
use Rattle.oz_machine.specs.Courses.{Loaded}
use Rattle.recompute.specs.Origins.{Origin, origin}
use Rattle.recompute.specs.Bests.{BestOrigin, best_origin, best_tree_of}

-- it is the tree of the script
pub script_tree : (k : Kernel) (c : Configuration) (x : Ident) (m : Loaded) (space : List ℕ) (feature : Constant) (left : ℕ) (f : Origin) (o : BestOrigin) → o ≡ best_origin f feature → f ≡ origin m space left
    → x ≡ script_variable → m.kernel ≡ k → space ≡ search_space c → m.config ≡ with_root k.statements x c → best_tree_of o ≡ script_best k feature c
script_tree k c x m space feature left f o is from script kernel name root =
    let config : m.config ≡ with_root k.statements script_variable c = root ∙ ap (λ (y : Ident). with_root k.statements y c) script in
    ap best_tree_of (is ∙ ap (λ (y : Origin). best_origin y feature) from) ∙ (λ i. best_tree (kernel i) (name i) feature (config i))
