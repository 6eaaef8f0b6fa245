use Rattle.std.proofs.Common.{◌≡◌, ℕ, Bool, true, false, nat_eq, List, [], ◌∷◌, length, refl, ap, sym, ◌∙◌, arith, eqb-true}
use Rattle.std.specs.Bool.{OnTrue}
use Rattle.oz_search.specs.Plain.{outcomes}
use Rattle.pool_state.specs.Branching.{last_number}
use Rattle.base_tests.proofs.workers.is_child.Goals as goal

is_one : (p : List ℕ) (x i : ℕ) → length p ≡ 1 → x ≡ last_number outcomes p → OnTrue (nat_eq x i) (p ≡ i ∷ [])
is_one [] x i one last = absurd (omega arith)
is_one (y ∷ []) x i one last =
    let step : (b : Bool) → nat_eq x i ≡ b → OnTrue b (y ∷ [] ≡ i ∷ []) = elim [ true ↦ λ e. ap (λ n. n ∷ []) (sym last ∙ eqb-true x i e) | false ↦ λ e. tt ] in
    step (nat_eq x i) refl
is_one (y ∷ z ∷ p) x i one last = absurd (omega arith)

pub returns-then-len-eq1 : goal.returns-then-len-eq1
returns-then-len-eq1 c = is_one c.args.path.now c.last.result c.args.alternative (sym c.len.ensures ∙ c.if-len-eq1.true) c.last.ensures
