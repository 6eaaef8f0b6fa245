-- The cost of a script.
use Rattle.std.proofs.Common.{◌≡◌, ⊎_elim, ℕ, ◌<◌, List, length, slice_get, codes, Some, sym, ◌∙◌, ap, arith}
use Rattle.std.proofs.lemmas.List.{length-map}
use Rattle.std.proofs.lemmas.List.Quantifiers.{position-Some}
use Rattle.std.proofs.lemmas.Option.{slice_get_cases}
use Rattle.oz_base.specs.Lists.{list_eq}
use Rattle.oz_language.specs.Kernels.{word_text}
use Rattle.oz_language.specs.Refusals.{Program}
use Rattle.oz_language.specs.declared.kernel.Constant.{Constant}
use Rattle.fd_form.specs.FdScripts.{fd_form}
use Rattle.fd_form.specs.Costs.{cost_place, CostLaw}
use Rattle.fd_form.specs.declared.script.FdScript.{FdScript}
use Rattle.fd_form_law.proofs.ShapeLaws.{scripts_shaped}

-- the cost is one of the variables
pub cost_within : (words : List (List ℕ)) (s : FdScript) (place : ℕ) → cost_place words s ≡ Some place → place < length s.variables
cost_within words s place e = (position-Some (λ v. list_eq (word_text words v) (codes "Cost")) s.variables place 0 e).0

-- of which each has a feature
features_long : (p : Program) (s : FdScript) → fd_form p ≡ Some s → length s.features ≡ length s.variables
features_long p s e =
    let r = (scripts_shaped p s e).recorded in
    ap length (sym r.features) ∙ (length-map r.fields (λ (f : Constant × ℕ). f.0) ∙ (sym (length-map r.fields (λ (f : Constant × ℕ). f.1)) ∙ ap length r.variables))

element : {A : Type 0} (xs : List A) (i : ℕ) → i < length xs → (x : A) × (slice_get xs i ≡ Some x)
element xs i l =
    ⊎_elim
    (λ c. (c.0, c.2))
    (λ c. let past = c.0 in absurd (omega (arith, l, past)))
    (slice_get_cases xs i).1

pub cost_law : CostLaw
cost_law p s place e c =
    let l = cost_within p.words s place c in
    let long = features_long p s e in
    let f = element s.features place (omega (arith, l, long)) in
    (f.0, record { script = e; cost = c; field = f.1 })
