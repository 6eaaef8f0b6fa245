-- The feature of one field, and those of the others behind it.
use Rattle.std.proofs.Common.{◌≡◌, ℕ, ◌+◌, ◌<◌, Option, Some, None, List, [], ◌∷◌, ◌++◌, length, slice_get, get_or, drop, map, append_assoc, refl, ap, sym, ◌∙◌}
use Rattle.oz_language.specs.Grammar.{Phrase, Phrases, more, keyed, of_list}
use Rattle.oz_language.specs.Refusals.{features}
use Rattle.oz_language.specs.declared.kernel.Constant.{Constant}
use Rattle.oz_syntax.specs.declared.phrase.Phrase.{Phrase as Tree}
use Rattle.oz_syntax.specs.View.{view, views}
use Rattle.kernel_patterns.specs.Keys.{key_of, feature_or, place_after, with_field}
use Rattle.std.specs.List.{zip}
use Rattle.kernel_output.proofs.Listing.{next_one}

-- the features of fields, those without a key having n, n + 1, ..
abbrev pub keys_from : ℕ → Phrases → List Constant
keys_from n fs = map (λ (f : Constant × ℕ). f.0) (features n fs)

pub keys_more : (n : ℕ) (f : Phrase) (fs : Phrases) → keys_from n (more f fs) ≡ feature_or n (key_of f) ∷ keys_from (place_after n (key_of f)) fs
keys_more n (keyed k at e) fs = refl
keys_more n f fs = refl

pub keys_loop : (xs xs' ys : List Constant) (n n' : ℕ) (ps : List Tree) (i : ℕ) (e : Tree) →
    i < length ps → e ≡ get_or ps i e →
    xs' ≡ xs ++ feature_or n (key_of (view e)) ∷ [] → n' ≡ place_after n (key_of (view e)) →
    ys ≡ xs ++ keys_from n (of_list (views (drop i ps))) →
    ys ≡ xs' ++ keys_from n' (of_list (views (drop (i + 1) ps)))
keys_loop xs xs' ys n n' ps i e lt is ex en h =
    let rest = of_list (views (drop (i + 1) ps)) in
    h ∙ ap (λ q. xs ++ keys_from n q) (next_one ps i e lt is)
    ∙ ap (λ q. xs ++ q) (keys_more n (view e) rest)
    ∙ sym (append_assoc xs (feature_or n (key_of (view e)) ∷ []) _)
    ∙ sym (ap (λ q. q ++ keys_from n' rest) ex ∙ ap (λ q. (xs ++ feature_or n (key_of (view e)) ∷ []) ++ keys_from q rest) en)

-- with one more value, one more field
field_before : {A : Type 0} (f : Constant × A) (k : Option Constant) (fs : List (Constant × A)) (v : A) → with_field k (f ∷ fs) v ≡ f ∷ with_field k fs v
field_before f None fs v = refl
field_before f (Some k) fs v = refl

pub zip_none : {A : Type 0} (keys : List Constant) → ◌≡◌ {A = List (Constant × A)} (zip keys []) []
zip_none [] = refl
zip_none (k ∷ ks) = refl

pub zip_more : {A : Type 0} (keys : List Constant) (vs : List A) (v : A) →
    zip keys (vs ++ v ∷ []) ≡ with_field (slice_get keys (length (zip keys vs))) (zip keys vs) v
zip_more [] vs v = refl
zip_more (k ∷ ks) [] v =
    ap (λ q. (k, v) ∷ q) (zip_none ks)
zip_more (k ∷ ks) (w ∷ vs) v = ap (λ fs. (k, w) ∷ fs) (zip_more ks vs v) ∙ sym (field_before (k, w) (slice_get ks (length (zip ks vs))) (zip ks vs) v)
