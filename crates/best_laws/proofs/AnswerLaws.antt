-- What a history of the best search of a script tells is a right answer.
use Rattle.std.proofs.Common.{◌≡◌, ℕ, ℤ, ◌+◌, ◌-◌, ◌≤◌, List, [], Some, None, refl, sym, ◌∙◌, subst, arith}
use Rattle.oz_language.specs.declared.kernel.Constant.{Constant}
use Rattle.oz_language.specs.declared.kernel.Kernel.{Kernel}
use Rattle.oz_language.specs.Refusals.{Program, Accepts}
use Rattle.oz_language.specs.Translation.{kernel_of}
use Rattle.oz_search.specs.declared.leaf.Outcome.TheVariants.{Solved}
use Rattle.oz_search.specs.declared.history.Entry.TheVariants.{Stop}
use Rattle.oz_search.specs.Histories.{stop_of}
use Rattle.oz_search.specs.Best.{BestEntry, best_of}
use Rattle.search_law.specs.OneWorker.{FinishesLaw}
use Rattle.oz_semantics.specs.Runs.{Ended, run, opening}
use Rattle.oz_semantics.specs.Search.{script_variable, with_root, search_space}
use Rattle.oz_semantics.specs.BestSearch.{script_best}
use Rattle.oz_semantics.specs.declared.configuration.Configuration.{Configuration}
use Rattle.machine_search.proofs.BestMakerLaws.{best_tree_law}
use Rattle.fd_best.specs.Laws.{Finds}
use Rattle.fd_form.specs.FdScripts.{answer_text}
use Rattle.fd_form.specs.Costs.{HasCost}
use Rattle.fd_form.specs.declared.script.FdScript.{FdScript}
use Rattle.fd_form_law.specs.FdOptimality.{FdOptimality}
use Rattle.oz_replies.specs.BestReplies.{BestAnswer, NotFd, Best, NoSolution, Spent, Exceeds, solved, HasSolution, IsStopped, IsSearchOf, Tells, IsToldOf, IsFound, optimum, no_solution, exceeded, IsBestAnswer}
use Rattle.best_laws.specs.Laws.{BestAnswerLaw}
use Rattle.best_laws.proofs.SameLaws.{same_feature, same_left, same_top, left_within}
use Rattle.best_laws.proofs.StopLaws.{passes, finished, alone_none, alone_stopped, has_stopped}

-- ---- a history that exceeds the budget

exceeds : (k : Kernel) (feature : Constant) (top : Configuration) (budget left workers total steps : ℕ) (h : List BestEntry) → left ≤ budget → IsSearchOf (script_best k feature top) left workers h → IsStopped left h steps
    → total ≡ budget - left + steps → Exceeds k feature top budget left workers total h
exceeds k feature top budget left workers total steps h fits search stopped sum =
    let legal = search.legal in
    let halt = stopped.halt in
    let may = (legal.0 stopped.before (Stop halt) [] stopped.ends).1 in
    let over = passes left halt.worker steps stopped.before halt.cause may stopped.stops in
    record {
      legal = search.legal;
      among = search.among;
      before = stopped.before;
      halt = stopped.halt;
      ends = stopped.ends;
      steps = steps;
      stops = stopped.stops;
      sum = sum;
      above = omega (arith, fits, over, sum);
    }

-- ---- what is found

module _ (p : Program) (s : FdScript) (place : ℕ) (feature : Constant) (top : Configuration) (left workers budget : ℕ) where
  abbrev Right : BestAnswer → Type 0
  Right a = IsFound p s place feature top left workers budget a

  least_found : (h : List BestEntry) (text : List ℕ) (cost : ℤ) → Finds s.problem place (answer_text p.words s) h → best_of h ≡ Some cost → HasSolution h text cost → Right (Best text cost)
  least_found h text cost finds least has =
      let r = finds.shown has.0 has.1 (solved text cost) has.2 cost has.3 refl least in
      let shown : Solved text ≡ Solved (answer_text p.words s r.0) = r.3 in
      let same : text ≡ answer_text p.words s r.0 = cc (shown) in
      subst (λ t. Right (Best t cost)) (sym same) (subst (λ c. Right (Best (answer_text p.words s r.0) c)) r.2 (optimum r.0 r.1))

  told_found : (h : List BestEntry) (a : BestAnswer) → left ≤ budget → (stop_of h ≡ None → Finds s.problem place (answer_text p.words s) h) → IsSearchOf (script_best (kernel_of p) feature top) left workers h
      → Tells budget left h a → Right a
  told_found h NotFd fits finds search tells = absurd tells
  told_found h (Best text cost) fits finds search tells = least_found h text cost (finds tells.0) tells.1 tells.2
  told_found h NoSolution fits finds search tells = (let f = finds tells.0 in no_solution (f.none tells.1))
  told_found h (Spent total entries) fits finds search tells =
      subst (λ es. Right (Spent total es)) (sym tells.0) (exceeded total h (exceeds (kernel_of p) feature top budget left workers total tells.1 h fits search tells.2 tells.3))

-- ---- one worker

module _ (k : Kernel) (feature : Constant) (top : Configuration) (budget left : ℕ) (finishes : FinishesLaw) where
  one_finishes : (total : ℕ) (h g : List BestEntry) → IsSearchOf (script_best k feature top) left 1 h → stop_of h ≡ None → Exceeds k feature top budget left 1 total g → ⊥
  one_finishes total h g search none other =
      let both = finished (script_best k feature top) left 1 h search none in
      let legal = other.legal in
      let halt = other.halt in
      finishes (script_best k feature top) left h g (best_tree_law k (search_space top) feature (with_root k.statements script_variable top)) search.legal (alone_none h search.among none) none both.0 both.1 other.legal
      (alone_stopped left other.steps g other.before halt other.ends legal.0 other.stops other.among) (has_stopped left other.steps g other.before halt other.ends legal.0 other.stops)

  alone_spent : (total : ℕ) (h g : List BestEntry) (a : BestAnswer) → IsSearchOf (script_best k feature top) left 1 h → Exceeds k feature top budget left 1 total g → Tells budget left h a
      → (n : ℕ) × (es : List BestEntry) × (a ≡ Spent n es)
  alone_spent total h g NotFd search other tells = absurd tells
  alone_spent total h g (Best text cost) search other tells = absurd (one_finishes total h g search tells.0 other)
  alone_spent total h g NoSolution search other tells = absurd (one_finishes total h g search tells.0 other)
  alone_spent total h g (Spent n es) search other tells = (n, es, refl)

-- ---- the answer

-- what is told by another name of the same cost and the same top
same_told : (p : Program) (s t : FdScript) (i j : ℕ) (f g : Constant) (budget left more : ℕ) (top end : Configuration) (workers : ℕ) (a : BestAnswer) → HasCost p s i f → HasCost p t j g
    → run (kernel_of p) [] (opening (kernel_of p)) budget ≡ Ended top left → run (kernel_of p) [] (opening (kernel_of p)) budget ≡ Ended end more
    → IsToldOf (kernel_of p) f top budget left workers a → IsToldOf (kernel_of p) g end budget more workers a
same_told p s t i j f g budget left more top end workers a has too ran again told =
    let rests = sym ran ∙ again in
    subst (λ n. IsToldOf (kernel_of p) g end budget n workers a) (same_left top end left more rests)
    (subst (λ c. IsToldOf (kernel_of p) g c budget left workers a) (same_top top end left more rests) (subst (λ x. IsToldOf (kernel_of p) x top budget left workers a) (same_feature p s t i j f g has too) told))

module _ (optimality : FdOptimality) (finishes : FinishesLaw) (text : List ℕ) (p : Program) (budget workers : ℕ) (a : BestAnswer) (accepts : Accepts text p) where
  abbrev Rests : Configuration → ℕ → Type 0
  Rests top left = run (kernel_of p) [] (opening (kernel_of p)) budget ≡ Ended top left

  right : (s : FdScript) (place : ℕ) (feature : Constant) (top : Configuration) (left : ℕ) → HasCost p s place feature → Rests top left → IsToldOf (kernel_of p) feature top budget left workers a
      → IsFound p s place feature top left workers budget a
  right s place feature top left has ran told =
      let h = told.history in
      let search = told.search in
      let finds : stop_of h ≡ None → Finds s.problem place (answer_text p.words s) h = λ none.
      (let both = finished (script_best (kernel_of p) feature top) left workers h search none in
      optimality text p s place feature budget left top h accepts has ran search.legal both.0 both.1) in
      told_found p s place feature top left workers budget h a (left_within (kernel_of p) [] (opening (kernel_of p)) top budget left ran) finds search told.tells

  alone : (feature : Constant) (top : Configuration) (left total : ℕ) (entries : List BestEntry) → workers ≡ 1 → IsToldOf (kernel_of p) feature top budget left workers a → Exceeds (kernel_of p) feature top budget left 1 total entries
      → (n : ℕ) × (es : List BestEntry) × (a ≡ Spent n es)
  alone feature top left total entries one told other =
      alone_spent (kernel_of p) feature top budget left finishes total told.history entries a (subst (λ w. IsSearchOf (script_best (kernel_of p) feature top) left w told.history) one told.search) other told.tells

  answer_of : (s : FdScript) (place : ℕ) (feature : Constant) (top : Configuration) (left : ℕ) → HasCost p s place feature → Rests top left → IsToldOf (kernel_of p) feature top budget left workers a
      → IsBestAnswer p workers budget a
  answer_of s place feature top left has ran told = record {
    not_fd = λ none. absurd (none s place feature has);
    found = λ t j g end more too again. right t j g end more too again (same_told p s t place j feature g budget left more top end workers a has too ran again told);
    alone = λ one t j g end more total entries too again other. alone g end more total entries one (same_told p s t place j feature g budget left more top end workers a has too ran again told) other;
  }

pub best_answers : FdOptimality → FinishesLaw → BestAnswerLaw
best_answers optimality finishes text p s place feature budget left top workers a accepts has ran told = answer_of optimality finishes text p budget workers a accepts s place feature top left has ran told
