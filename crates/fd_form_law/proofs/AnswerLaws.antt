-- The clause of a script's leaves, from the tree that its nodes show.
use Rattle.std.proofs.Common.{◌≡◌, ◌≢◌, ℕ, ◌<◌, ◌≤◌, ◌⊎◌, inl, inr, ℤ, Bool, true, false, List, [], ◌++◌, map, AllPairs, Option, Some, None, refl, sym, ◌∙◌, ap, subst, arith, if◌then◌else◌, slice_index_or, nat_le, codes}
use Rattle.std.specs.List.{flat_map}
use Rattle.std.proofs.lemmas.List.{length-map, get_or-map}
use Rattle.std.proofs.lemmas.Simd.{map-map}
use Rattle.fd_problems.specs.Problems.{values_at, IsLeft}
use Rattle.oz_language.specs.Translation.{kernel_of}
use Rattle.oz_semantics.specs.Runs.{Ran, Ended, TopRaised, Over, run, opening}
use Rattle.oz_search.specs.Trees.{Found}
use Rattle.search_law.specs.NodeLaw.{leaves_alone}
use Rattle.oz_semantics.specs.Search.{has_script, script_found}
use Rattle.oz_replies.specs.Replies.{Answer, answer_of_top, answer_of_tree, searched, all_answer, leaves_reply, line, spent, shown_lines}
use Rattle.fd_form.specs.declared.script.FdScript.{FdScript}
use Rattle.fd_form.specs.FdScripts.{answer_text}
use Rattle.fd_form_law.specs.FdCompleteness.{AreAnswers}
use Rattle.oz_language.specs.declared.kernel.Kernel.{Kernel}
use Rattle.oz_semantics.specs.declared.configuration.Configuration.{Configuration}
use Rattle.oz_replies.specs.declared.cause.Cause.TheVariants as causes
use Rattle.oz_search.specs.declared.leaf.Outcome.{Outcome}
use Rattle.oz_search.specs.declared.leaf.Outcome.TheVariants.{Solved}
use Rattle.fd_trees.specs.Trees as trees
use Rattle.fd_trees.specs.Scripts.{IsProblem, tuple_at, tuples}
use Rattle.fd_trees.proofs.ScriptLaws.{script_law}
use Rattle.fd_nodes.proofs.NodeLaws.{found_law}
use Rattle.oz_semantics.specs.Texts.{Printed, term_text}
use Rattle.oz_semantics.specs.Configurations.{view}
use Rattle.fd_form_law.specs.Laws.{Shows, shown, TieSuffices, FormIsProblem}

-- ---- pairs

pairs_mapped : {A B : Type 0} (R : B → B → Type 0) (f : A → B) (xs : List A) → AllPairs R (map f xs) → AllPairs (λ x y. R (f x) (f y)) xs
pairs_mapped R f xs h i j d l m =
    let long = length-map xs f in
    let k = h i j (f d) l (omega (arith, m)) in
    subst (λ z. R z (f (slice_index_or xs j d))) (get_or-map f xs i d (f d) (omega (arith, l, m))) (subst (R (slice_index_or (map f xs) i (f d))) (get_or-map f xs j d (f d) m) k)

-- ---- what is found

none_some : {A : Type 0} (o : Option A) (x : A) → o ≡ None → o ≡ Some x → ⊥
none_some o x e f = (let g : None ≡ Some x = sym e ∙ f in cc)

at_most_or : (a b : ℕ) → (a ≤ b) ⊎ (b < a)
at_most_or a b = grind arith

abbrev Leaves : Type 0
Leaves = List (List ℕ × Outcome)

abbrev outcomes_of : Leaves → List Outcome
outcomes_of leaves = map (λ (leaf : List ℕ × Outcome). leaf.1) leaves

abbrev outcomes_in : Found Outcome → List Outcome
outcomes_in None = []
outcomes_in (Some f) = f.0

module _ (words : List (List ℕ)) (s : FdScript) (k : Kernel) (top : Configuration) (w : IsProblem s.problem) (h : Shows words s k top) where
  abbrev in_order : List ℤ → List ℤ
  in_order t = values_at t s.problem.distribution.over

  pub are_answers : (fuel : ℕ) (leaves : Leaves) (steps : ℕ) → script_found k top fuel ≡ Some (leaves, steps) → AreAnswers words s (outcomes_of leaves)
  are_answers fuel leaves steps e =
      let a = script_law s.problem h.tree w h.is_tree in
      let n = found_law k (shown words s) top h.tree h.steps h.shows in
      let ts = tuples s.problem h.tree in
      elim (at_most_or h.steps fuel) [
        | inr g ↦ absurd (none_some (script_found k top fuel) (leaves, steps) (n.short fuel g) e)
        | inl l ↦ record {
          assignments = ts;
          shown = sym (ap outcomes_in (sym (n.enough fuel l) ∙ ap leaves_alone e)) ∙ sym (map-map (λ t. Solved (answer_text words s t)) (tuple_at s.problem) (trees.leaves h.tree));
          all = a.each;
          once = (let r = pairs_mapped (λ u v. u ≢ v) in_order ts (subst (AllPairs (λ u v. u ≢ v)) a.reads a.once) in λ i j d x y q. r i j d x y (ap in_order q));
          ordered = λ z. pairs_mapped IsLeft in_order ts (subst (AllPairs IsLeft) a.reads (a.ordered z));
        }
      ]

-- ---- what is written

abbrev Replied : List (List ℕ) → FdScript → List ℕ → Type 0
Replied words s bytes = (leaves : List Outcome) × AreAnswers words s leaves × (bytes ≡ leaves_reply leaves)

module _ (words : List (List ℕ)) (s : FdScript) (k : Kernel) (budget : ℕ) (bytes : List ℕ) (w : IsProblem s.problem) where
  abbrev found_from : Configuration → ℕ → Found (List ℕ × Outcome)
  found_from top left = script_found k top left

  by_found : (top : Configuration) (left : ℕ) (h : Shows words s k top) (f : Found (List ℕ × Outcome)) → found_from top left ≡ f → answer_of_tree (shown_lines top) budget f ≡ (causes.Done, bytes) → Replied words s bytes
  by_found top left h None e a = (let b = ap (λ (x : Answer). x.0) a in cc)
  by_found top left h (Some f) e a =
      (outcomes_of f.0, are_answers words s k top w h left f.0 f.1 e, sym (ap (λ (x : Answer). x.1) a) ∙ ap (λ ls. flat_map line ls ++ leaves_reply (outcomes_of f.0)) h.quiet)

  abbrev searched_if : Configuration → ℕ → Bool → Answer
  searched_if top left b = if b then answer_of_tree (shown_lines top) budget (found_from top left) else (causes.NoScript, shown_lines top ++ line (codes "no script"))

  by_script : (top : Configuration) (left : ℕ) (h : Shows words s k top) (b : Bool) → searched_if top left b ≡ (causes.Done, bytes) → Replied words s bytes
  by_script top left h true a = by_found top left h (found_from top left) refl a
  by_script top left h false a = (let b = ap (λ (x : Answer). x.0) a in cc)

  abbrev raised_if : Configuration → ℕ → Printed → Bool → Answer
  raised_if c left printed b = if b then (causes.Raised printed.bytes, shown_lines c ++ line (codes "raised " ++ printed.bytes)) else spent (shown_lines c) budget

  by_raise : (c : Configuration) (left : ℕ) (printed : Printed) (b : Bool) → raised_if c left printed b ≡ (causes.Done, bytes) → Replied words s bytes
  by_raise c left printed true a = (let b = ap (λ (x : Answer). x.0) a in cc)
  by_raise c left printed false a = (let b = ap (λ (x : Answer). x.0) a in cc)

  by_run : (r : Ran) → ((top : Configuration) (left : ℕ) → r ≡ Ended top left → Shows words s k top) → answer_of_top k (searched k budget) budget r ≡ (causes.Done, bytes) → Replied words s bytes
  by_run (TopRaised c left x) h a = by_raise c left (term_text k.words (view c.layers []) x) (nat_le (term_text k.words (view c.layers []) x).nodes left) a
  by_run (Over c) h a = (let b = ap (λ (x : Answer). x.0) a in cc)
  by_run (Ended c left) h a = by_script c left (h c left refl) (has_script c) a

  by_answer : ((top : Configuration) (left : ℕ) → run k [] (opening k) budget ≡ Ended top left → Shows words s k top) → all_answer k budget ≡ (causes.Done, bytes) → Replied words s bytes
  unfolding all_answer
  by_answer h a = by_run (run k [] (opening k) budget) h a

pub tie_suffices : FormIsProblem → TieSuffices
tie_suffices form = record {
  leaves = λ tie text p s budget leaves steps acc e found. are_answers p.words s (kernel_of p) found.top (form p s acc.derived.program e) (tie text p s budget found.left found.top acc e found.ended) found.left leaves steps found.searched;
  reply = λ tie text p s budget bytes acc e a. by_answer p.words s (kernel_of p) budget bytes (form p s acc.derived.program e) (λ top left r. tie text p s budget left top acc e r) a;
}
