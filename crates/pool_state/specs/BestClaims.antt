-- In best search a claim bears the least cost so far.
use Rattle.std.proofs.Common.{◌≡◌, ℤ, true, List, [], ◌∷◌, Option, None, refl, ap, ◌∙◌}
use Rattle.std.specs.Cmp.{IsTotalOrder}
use Rattle.std.specs.Cmp.Lexicographic.{options_total}
use Rattle.std.proofs.lemmas.Cmp.{nat_cmp_total, int_cmp_total, on_total, then_total}
use Rattle.std.specs.List.{fold}
use Rattle.std.specs.Option.{option_eq}
use Rattle.std.specs.Ordering.{int_eq}
use Rattle.oz_search.specs.declared.best.Bounded.{Bounded}
use Rattle.oz_search.specs.declared.best.Costed.{Costed}
use Rattle.oz_search.specs.declared.history.Entry.TheVariants.{Claim, Split, Leaf, Stop}
use Rattle.oz_search.specs.Best.{BestEntry, lesser, cost_of, best_after, best_of, bears_best, branch_cmp}
use Rattle.search_law.proofs.Instances.{bound_exact}
use Rattle.pool_state.specs.Branching.{by_last, so_far}

-- the least cost after a leaf
abbrev pub least : Option ℤ → Costed → Option ℤ
least c l = lesser c (cost_of l)

-- the branch under the bound c
abbrev pub under : Option ℤ → Bounded → Bounded
under c b = record { alternative = b.alternative; bound = c }

-- the least cost of a history is what is so far
best_from : (h : List BestEntry) (c : Option ℤ) → so_far least c h ≡ fold best_after c h
best_from [] c = refl
best_from (Claim w p ∷ h) c = best_from h c
best_from (Split w p n s ∷ h) c = best_from h c
best_from (Leaf w p l s ∷ h) c = best_from h (least c l)
best_from (Stop e ∷ h) c = best_from h c

bound_itself : (b : Option ℤ) → option_eq int_eq b b ≡ true
bound_itself b = (bound_exact b b).1 refl

bears_at : (h : List BestEntry) (c : Option ℤ) → c ≡ best_of h → (p : List Bounded) → bears_best h (by_last (under c) p) ≡ true
bears_at h c e [] = refl
bears_at h c e (b ∷ []) = ap (λ x. option_eq int_eq x (best_of h)) e ∙ bound_itself (best_of h)
bears_at h c e (b ∷ d ∷ []) = bears_at h c e (d ∷ [])
bears_at h c e (b ∷ d ∷ f ∷ p) = bears_at h c e (d ∷ f ∷ p)

-- a claim under what is so far is admitted
pub claim_admitted : (h : List BestEntry) (p : List Bounded) → bears_best h (by_last (under (so_far least None h)) p) ≡ true
claim_admitted h p = bears_at h (so_far least None h) (best_from h None) p

-- the order of branches is total
pub branches_total : IsTotalOrder branch_cmp
branches_total = then_total (on_total (λ b. b.alternative) nat_cmp_total) (on_total (λ b. b.bound) (options_total int_cmp_total))
