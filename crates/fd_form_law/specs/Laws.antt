-- What ties the run of a finite-domain script to the search of its problem, and what follows from that (scripts, CTM 12.2; their search
-- with computation spaces, CTM 12.4; Schulte, LNCS 2302, chapters 2 and 4).
use Rattle.std.specs.Prelude.{◌≡◌, ℕ, true, List, [], Some}
use Rattle.oz_language.specs.Grammar.{is_body}
use Rattle.oz_language.specs.Refusals.{Program, Accepts}
use Rattle.oz_language.specs.Translation.{kernel_of}
use Rattle.oz_semantics.specs.Runs.{Ended, run, opening}
use Rattle.oz_semantics.specs.Search.{search_space, script_variable, with_root}
use Rattle.fd_form.specs.declared.script.FdScript.{FdScript}
use Rattle.fd_form.specs.FdScripts.{fd_form, answer_text}
use Rattle.fd_form_law.specs.FdCompleteness.{FdCompleteness, FdReply}
use Rattle.oz_language.specs.declared.kernel.Kernel.{Kernel}
use Rattle.oz_semantics.specs.declared.configuration.Configuration.{Configuration}
use Rattle.oz_search.specs.declared.leaf.Outcome.{Outcome}
use Rattle.oz_search.specs.declared.leaf.Outcome.TheVariants.{Solved}
use Rattle.fd_stores.specs.Stores.{Store}
use Rattle.fd_trees.specs.Trees.{Tree, IsTree}
use Rattle.fd_nodes.specs.Nodes.{ShowsTree}
use Rattle.fd_trees.specs.Scripts.{IsProblem, constraints, start, tuple_at}

-- the problem of a script is one of those that the laws of search speak of
abbrev pub FormIsProblem : Type 0
FormIsProblem = (p : Program) (s : FdScript) → is_body p.phrase ≡ true → fd_form p ≡ Some s → IsProblem s.problem

-- what is shown at a solved leaf: the answer of the script with the values of its variables in the store of that leaf
abbrev pub shown : List (List ℕ) → FdScript → Store → Outcome
shown words s m = Solved (answer_text words s (tuple_at s.problem m))

-- the nodes from the search root on show a search tree of the problem, and nothing was shown before
pub record Shows (words : List (List ℕ)) (s : FdScript) (k : Kernel) (top : Configuration) : Type 0 where
  pub tree : Tree
  pub is_tree : IsTree (constraints s.problem) s.problem.distribution (start s.problem) tree
  pub steps : ℕ
  pub shows : ShowsTree k (search_space top) (shown words s) (with_root k.statements script_variable top) tree steps
  pub quiet : top.shown ≡ []

-- the tie: so it is for each script, whenever its top has come to rest
abbrev pub Tie : Type 0
Tie = (text : List ℕ) (p : Program) (s : FdScript) (budget left : ℕ) (top : Configuration)
    → Accepts text p → fd_form p ≡ Some s → run (kernel_of p) [] (opening (kernel_of p)) budget ≡ Ended top left → Shows p.words s (kernel_of p) top

-- then the leaves of a script are its answers, and they are what is written
pub record TieSuffices : Type 0 where
  pub leaves : Tie → FdCompleteness
  pub reply : Tie → FdReply
