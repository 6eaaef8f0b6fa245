-- The features of a record, one field after the other.
use Rattle.std.proofs.Common.{◌≡◌, ℕ, suc, pos, Bool, true, false, ◌||◌, List, [], ◌∷◌, ◌++◌, Option, Some, None, if◌then◌else◌, ◌<◌, ◌+◌, length, drop, get_or, drop-cons, add-one, refl, ap, sym, ◌∙◌}
use Rattle.std.specs.List.{list_any}
use Rattle.std.proofs.Math.Bool.{or_comm, or-false}
use Rattle.std.proofs.lemmas.List.Folds.{list_any-append}
use Rattle.indexmap.specs.IndexSet.{insert_key}
use Rattle.oz_language.specs.Grammar.{Phrase, Phrases, more, keyed}
use Rattle.oz_language.specs.Refusals.{features, place_of, repeat_faults, not_linear}
use Rattle.oz_language.specs.declared.fault.Fault.{Fault}
use Rattle.oz_scope.specs.Keeps.{kept}
use Rattle.oz_scope.proofs.Keeping.{kept_append}
use Rattle.oz_language.specs.Constants.{constant_eq}
use Rattle.oz_language.specs.declared.kernel.Constant.{Constant}
use Rattle.oz_language.specs.declared.kernel.Constant.TheVariants as constant
use Rattle.oz_scope.specs.Declares.{key_of}
use Rattle.oz_scope.specs.FeatureLaws.{constant_same}

-- a field with a key
pub features_keyed : (n : ℕ) (p : Phrase) (ps : Phrases) (f : Constant × ℕ) → key_of p ≡ Some f → features n (more p ps) ≡ f ∷ features n ps
features_keyed n (keyed k at e) ps f h = cc
features_keyed n p ps f h = absurd (cc)

-- a field without one
pub features_next : (n : ℕ) (p : Phrase) (ps : Phrases) → key_of p ≡ None → features n (more p ps) ≡ (constant.Int (pos n), place_of p) ∷ features (suc n) ps
features_next n (keyed k at e) ps h = absurd (cc)
features_next n p ps h = refl

-- what stands twice depends on what stood before, and not on its order or on how often
abbrev Agree : List Constant → List Constant → Type 0
Agree cs ds = (c : Constant) → list_any (constant_eq c) cs ≡ list_any (constant_eq c) ds

repeats_agree : (cs ds : List Constant) → Agree cs ds → (ps : List (Constant × ℕ)) → repeat_faults constant_eq cs ps ≡ repeat_faults constant_eq ds ps
repeats_agree cs ds same [] = refl
repeats_agree cs ds same (p ∷ ps) =
    let here : list_any (constant_eq p.0) cs ≡ list_any (constant_eq p.0) ds = same p.0 in
    let rest : repeat_faults constant_eq (p.0 ∷ cs) ps ≡ repeat_faults constant_eq (p.0 ∷ ds) ps =
    repeats_agree (p.0 ∷ cs) (p.0 ∷ ds) (λ c. ap (λ b. constant_eq c p.0 || b) (same c)) ps in
    rw (here, rest) refl

put_agree : (cs : List Constant) (c : Constant) (b : Bool) → list_any (constant_eq c) cs ≡ b → Agree (if b then cs else cs ++ c ∷ []) (c ∷ cs)
put_agree cs c true there d = by (constant_eq d c) refl
  where
    by : (b : Bool) → constant_eq d c ≡ b → list_any (constant_eq d) cs ≡ (b || list_any (constant_eq d) cs)
    by true e = ap (λ x. list_any (constant_eq x) cs) (constant_same d c e) ∙ there
    by false e = refl
put_agree cs c false there d =
    list_any-append (constant_eq d) cs (c ∷ []) ∙ or_comm (list_any (constant_eq d) cs) (constant_eq d c || false)
    ∙ ap (λ b. b || list_any (constant_eq d) cs) (or-false (constant_eq d c))

-- a feature goes into a table once
pub repeats_put : (cs : List Constant) (c : Constant) (ps : List (Constant × ℕ)) → repeat_faults constant_eq (insert_key constant_eq cs c) ps ≡ repeat_faults constant_eq (c ∷ cs) ps
repeats_put cs c ps = repeats_agree (insert_key constant_eq cs c) (c ∷ cs) (put_agree cs c (list_any (constant_eq c) cs) refl) ps

-- one feature of a record after the other
pub repeats_step : (places : List (Constant × ℕ)) (i : ℕ) (d : Constant × ℕ) (seen : List Constant) (found : Option Fault) → i < length places
    → kept (repeat_faults constant_eq (insert_key constant_eq seen (get_or places i d).0) (drop (i + 1) places))
    (kept (if list_any (constant_eq (get_or places i d).0) seen then not_linear (get_or places i d).1 ∷ [] else []) found)
    ≡ kept (repeat_faults constant_eq seen (drop i places)) found
repeats_step places i d seen found h =
    let p : Constant × ℕ = get_or places i d in
    let rest : List (Constant × ℕ) = drop (i + 1) places in
    rw (repeats_put seen p.0 rest)
    (sym (kept_append (if list_any (constant_eq p.0) seen then not_linear p.1 ∷ [] else []) (repeat_faults constant_eq (p.0 ∷ seen) rest) found)
    ∙ ap (λ ps. kept (repeat_faults constant_eq seen ps) found) (sym (drop-cons places i d h ∙ ap (λ n. p ∷ drop n places) (sym (add-one i)))))
