-- The leaves of a history at its end.
use Rattle.std.proofs.Common.{◌≡◌, ℕ, zero, suc, Bool, true, false, cond, List, [], ◌∷◌, ◌++◌, map, Option, Some, None, length, slice_index_or, nat_lt, inl, inr, refl, sym, ap, arith, ◌∙◌}
use Rattle.std.proofs.lemmas.Bool.Decides.{nat_tests}
use Rattle.std.proofs.lemmas.Option.{same_Some}
use Rattle.oz_search.specs.Histories.{History, stop_of, total_of}
use Rattle.oz_search.specs.Leaves.{Names, leaf_of, leaf_at_place}
use Rattle.oz_search.specs.Plain.{outcomes, itself, is_failed}
use Rattle.oz_search.specs.Trees.{Found, in_steps, depth_first}
use Rattle.oz_search.specs.declared.history.Entry.{Entry}
use Rattle.oz_search.specs.declared.history.Entry.TheVariants.{Leaf}
use Rattle.oz_search.specs.declared.history.Halt.{Halt}
use Rattle.oz_search.specs.declared.history.StopCause.{StopCause}
use Rattle.oz_search.specs.declared.history.StopCause.TheVariants as causes
use Rattle.oz_search.specs.declared.leaf.Outcome.{Outcome}
use Rattle.search_law.specs.Law.{IsSpent}
use Rattle.search_law.specs.NodeLaw.{leaves_alone}
use Rattle.machine_search.specs.Visits.{found_below, leaves_of}
use Rattle.machine_search.proofs.SpaceLaws.{space_law}
use Rattle.recompute.specs.Origins.{Origin, tree_of}
use Rattle.search_crew.specs.Crews.{IsOver}
use Rattle.search_all.specs.Answers.{leaves_in, answer_of, Closes}

-- the entry at a place is the leaf there
pub entry_there : (h : History ℕ Outcome) (place : ℕ) (x : List ℕ × Outcome) (e : Entry (List ℕ) Outcome) → leaf_at_place outcomes h place ≡ Some x → e ≡ slice_index_or h place e → leaf_of outcomes e ≡ Some x
entry_there [] place x e there got = absurd (cc (there))
entry_there (y ∷ h) zero x e there got = ap (leaf_of outcomes) got ∙ there
entry_there (y ∷ h) (suc n) x e there got = entry_there h n x e there got

-- which is one of the history
pub place_within : (h : History ℕ Outcome) (place : ℕ) (x : List ℕ × Outcome) → leaf_at_place outcomes h place ≡ Some x → nat_lt place (length h) ≡ false → ⊥
place_within [] place x there out = absurd (cc (there))
place_within (y ∷ h) zero x there out = grind (arith, nat_tests, out)
place_within (y ∷ h) (suc n) x there out =
    let further : nat_lt n (length h) ≡ false = grind (arith, nat_tests, out) in
    place_within h n x there further

pub leaf_is : (w : ℕ) (p : List ℕ) (l : Outcome) (s : ℕ) (x : List ℕ × Outcome) → leaf_of outcomes (Leaf w p l s) ≡ Some x → l ≡ x.1
leaf_is w p l s x e = by (is_failed l) e
  where
    by : (b : Bool) → cond b None (Some (p, l)) ≡ Some x → l ≡ x.1
    by true g = absurd (cc (g))
    by false g = ap (λ (y : List ℕ × Outcome). y.1) (same_Some (p, l) x g)

-- what is left to be taken, after these leaves
pub record Left (h : History ℕ Outcome) (places : List (List ℕ × ℕ)) (taken : List Outcome) (ls : List (List ℕ × Outcome)) : Type 0 where
  pub rest : List (List ℕ × Outcome)
  pub names : Names outcomes h places rest
  pub parts : map (λ (x : List ℕ × Outcome). x.1) ls ≡ taken ++ map (λ (x : List ℕ × Outcome). x.1) rest

leaves_steps : (fuel : ℕ) (o : Found Outcome) → leaves_of (in_steps fuel o) ≡ leaves_of o
leaves_steps fuel None = refl
leaves_steps fuel (Some found) = refl

-- the answer by the traversal over paths
answer_is : (o : Origin) (found : Found (List ℕ × Outcome)) → depth_first outcomes itself (tree_of o o.budget) o.budget ≡ found → leaves_of (leaves_alone found) ≡ answer_of o
answer_is o found e =
    ap (λ (x : Found (List ℕ × Outcome)). leaves_of (leaves_alone x)) (sym e)
    ∙ ap leaves_of (space_law o.kernel o.space o.config o.budget)
    ∙ leaves_steps o.budget (found_below o.kernel o.space o.config o.budget)

-- nobody has stopped
pub found_all : (o : Origin) (h : History ℕ Outcome) (leaves : List Outcome) → Closes o h → stop_of h ≡ None → leaves ≡ map (λ (x : List ℕ × Outcome). x.1) (leaves_in h)
    → ◌≡◌ {A = Option (List Outcome)} (Some leaves) (answer_of o)
found_all o h leaves closes none e = by closes.over
  where
    by : IsOver outcomes h → ◌≡◌ {A = Option (List Outcome)} (Some leaves) (answer_of o)
    by (inl is) = ap (λ (x : List Outcome). Some x) e ∙ answer_is o (Some (leaves_in h, total_of h)) (closes.finished is.0 is.1)
    by (inr (x, i)) = absurd (cc (i, none))

-- somebody has stopped for want of steps
pub found_none : (o : Origin) (h : History ℕ Outcome) (e : Halt) → Closes o h → stop_of h ≡ Some e → IsSpent e.cause
    → ◌≡◌ {A = Option (List Outcome)} None (answer_of o)
found_none o h e closes stop spent = answer_is o None (closes.spent e stop spent)

-- which stops are for want of steps
pub spent_fuel : (cause : StopCause) → cause ≡ causes.Fuel → IsSpent cause
spent_fuel causes.Fuel e = tt
spent_fuel causes.Memory e = absurd (cc (e))
spent_fuel (causes.Total t) e = tt

pub spent_total : (cause : StopCause) (t : ℕ) → cause ≡ causes.Total t → IsSpent cause
spent_total causes.Fuel t e = tt
spent_total causes.Memory t e = absurd (cc (e))
spent_total (causes.Total u) t e = tt
