-- What the whole of clap's walk over the words after a command comes to.
use Rattle.std.proofs.Common.{◌≡◌, ◌∙◌, ap, refl, sym, subst, Bool, true, false, List, [], ◌∷◌, Option, Some, None, cond, ◌||◌}
use Rattle.std.specs.Prelude.{fold}
use Rattle.clap.specs.Words.{Row, Text}
use Rattle.clap.specs.Walk.{Held, Walk, finished, settled, walked, with_default}
use Rattle.clap.specs.Faults.{check_fault, defaults_fault, settle_fault, turn_fault, walk_fault}
use Rattle.clap.specs.Kinds.{Kinds, or_else}
use Rattle.oz_commands.specs.Commands.{Given, Verb, all, run, best, kernel}
use Rattle.command_line.specs.Table.{rows_for}
use Rattle.command_line.proofs.Leaf.{leaf, rules_for}

-- ---- small facts

pub or_else_assoc : (a b c : Kinds) → or_else (or_else a b) c ≡ or_else a (or_else b c)
or_else_assoc [] b c = refl
or_else_assoc (k ∷ ks) b c = refl

pub first_is : (a b : Kinds) → (a ≡ [] → ⊥) → or_else a b ≡ [] → ⊥
first_is [] b h e = h refl
first_is (k ∷ ks) b h e = h e

or_true : (b : Bool) → (b || true) ≡ true
or_true true = refl
or_true false = refl

cond_same : {X : Type 0} (b : Bool) (x : X) → cond b x x ≡ x
cond_same true x = refl
cond_same false x = refl

pub leaf_once : (v : Verb) → (leaf v).args_override_self ≡ false
leaf_once all = refl
leaf_once run = refl
leaf_once best = refl
leaf_once kernel = refl

pub leaf_is : (v : Verb) → (leaf v).is_leaf ≡ true
leaf_is all = refl
leaf_is run = refl
leaf_is best = refl
leaf_is kernel = refl

-- ---- after the walk

no_defaults : (v : Verb) (rows : List Row) → defaults_fault rows (rules_for v) ≡ []
unfolding defaults_fault
no_defaults all rows = simp (or_true, cond_same)
no_defaults run rows = simp or_true
no_defaults best rows = simp (or_true, cond_same)
no_defaults kernel rows = refl

same_rows : (v : Verb) (rows : List Row) → fold with_default rows (rules_for v) ≡ rows
same_rows all rows = simp cond_same
same_rows run rows = simp cond_same
same_rows best rows = simp cond_same
same_rows kernel rows = refl

checked : (v : Verb) (given : List Given) → check_fault (leaf v) (rows_for given) false ≡ []
checked all given = refl
checked run given = refl
checked best given = refl
checked kernel given = refl

abbrev pub end_fault : Verb → Held → Kinds
end_fault v h = or_else (settle_fault (rules_for v) (leaf v).args_override_self h)
    (or_else (defaults_fault (settled (rules_for v) h).rows (rules_for v)) (check_fault (leaf v) (finished (rules_for v) h) false))

-- where nothing is left to settle, nothing fails
pub ended : (v : Verb) (h : Held) (given : List Given) → settle_fault (rules_for v) false h ≡ [] → (settled (rules_for v) h).rows ≡ rows_for given
    → (end_fault v h ≡ []) × (finished (rules_for v) h ≡ rows_for given)
ended v h given none rows =
    let same : finished (rules_for v) h ≡ rows_for given = same_rows v (settled (rules_for v) h).rows ∙ rows in
    (rw (leaf_once v, none, no_defaults v (settled (rules_for v) h).rows, same) (checked v given), same)

pub unsettled : (v : Verb) (h : Held) → (settle_fault (rules_for v) false h ≡ [] → ⊥) → end_fault v h ≡ [] → ⊥
unsettled v h some = rw (leaf_once v) (first_is _ _ some)

-- ---- the whole of a walk

abbrev pub total : Verb → Walk → List Text → Kinds
total v w ws = or_else (walk_fault (leaf v) [] w ws) (end_fault v (fold (walked (rules_for v) []) w ws).held)

abbrev pub final : Verb → Walk → List Text → List Row
final v w ws = finished (rules_for v) (fold (walked (rules_for v) []) w ws).held

-- what clap answers and holds is what was read
abbrev pub Ends : Kinds → List Row → Option (List Given) → Type 0
Ends kinds rows None = kinds ≡ [] → ⊥
Ends kinds rows (Some given) = (kinds ≡ []) × (rows ≡ rows_for given)

pub total_nil : (v : Verb) (w : Walk) → total v w [] ≡ end_fault v w.held
unfolding walk_fault
total_nil v w = refl

pub total_more : (v : Verb) (w : Walk) (x : Text) (ws : List Text) → total v w (x ∷ ws) ≡ or_else (turn_fault (leaf v) [] w x) (total v (walked (rules_for v) [] w x) ws)
unfolding walk_fault
total_more v w x ws = or_else_assoc (turn_fault (leaf v) [] w x) _ _

-- a word that fails, and spells nothing
pub stops : (v : Verb) (w : Walk) (x : Text) (ws : List Text) (og : Option (List Given)) → (turn_fault (leaf v) [] w x ≡ [] → ⊥) → og ≡ None
    → Ends (total v w (x ∷ ws)) (final v w (x ∷ ws)) og
stops v w x ws og some none = subst (λ o. Ends (total v w (x ∷ ws)) (final v w (x ∷ ws)) o) (sym none)
    (subst (λ k. k ≡ [] → ⊥) (sym (total_more v w x ws)) (first_is _ _ some))

-- a word that passes, with the walk after it
pub goes : (v : Verb) (w next : Walk) (x : Text) (ws : List Text) (og : Option (List Given)) → turn_fault (leaf v) [] w x ≡ [] → walked (rules_for v) [] w x ≡ next
    → Ends (total v next ws) (final v next ws) og → Ends (total v w (x ∷ ws)) (final v w (x ∷ ws)) og
goes v w next x ws og none is h =
    let same : total v w (x ∷ ws) ≡ total v next ws = total_more v w x ws ∙ ap (λ k. or_else k (total v (walked (rules_for v) [] w x) ws)) none
    ∙ ap (λ u. total v u ws) is in
    subst (λ k. Ends k (final v w (x ∷ ws)) og) (sym same) (subst (λ r. Ends (total v next ws) r og) (sym (ap (λ u. final v u ws) is)) h)
