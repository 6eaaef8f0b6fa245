-- The code of a script's record.
use Rattle.std.proofs.Common.{◌≡◌, ℕ, Bool, true, false, if◌then◌else◌, List, [], ◌∷◌, map, Some, refl, ◌∙◌, ap, subst}
use Rattle.std.specs.List.{zip}
use Rattle.oz_language.specs.declared.token.Literal.{Literal}
use Rattle.oz_language.specs.declared.kernel.Identifier.{Identifier}
use Rattle.oz_language.specs.declared.kernel.Identifier.TheVariants.{Word}
use Rattle.oz_language.specs.declared.kernel.Constant.{Constant}
use Rattle.oz_language.specs.Grammar.{Phrase, Phrases, nothing, more, literal, rec, keyed, paren}
use Rattle.oz_language.specs.Arities.{feature_lt, placed_field, in_arity_order}
use Rattle.oz_language.specs.Kernels.{none, just}
use Rattle.oz_language.specs.Translation.{Made, made, and_then, value, variable_of, name_or, next_after, names_of, behind_names, fresh_among, scoped, within, part_made, preceded, keys_of, record_or_label, filled, translated}
use Rattle.fd_form.specs.Parts.{both, each, field_name, record_of}
use Rattle.fd_form_law.proofs.FormLaws.{map_some, both_some}
use Rattle.fd_form_law.proofs.PostLaws.{name_variable}
use Rattle.fd_codes.specs.Codes.{named_field}

-- ---- the order of fields does not go by what they are

placed_named : (words : List (List ℕ)) (f : Constant × ℕ) (gs : List (Constant × ℕ)) → placed_field words (named_field f) (map named_field gs) ≡ map named_field (placed_field words f gs)
placed_named words f [] = refl
placed_named words f (g ∷ gs) = by (feature_lt words g.0 f.0) (placed_named words f gs) where
  by : (b : Bool) → placed_field words (named_field f) (map named_field gs) ≡ map named_field (placed_field words f gs)
      → (if b then named_field g ∷ placed_field words (named_field f) (map named_field gs) else named_field f ∷ named_field g ∷ map named_field gs) ≡ map named_field (if b then g ∷ placed_field words f gs else f ∷ g ∷ gs)
  by true h = ap (λ z. named_field g ∷ z) h
  by false h = refl

order_named : (words : List (List ℕ)) (fs : List (Constant × ℕ)) → in_arity_order words (map named_field fs) ≡ map named_field (in_arity_order words fs)
order_named words [] = refl
order_named words (f ∷ fs) = ap (placed_field words (named_field f)) (order_named words fs) ∙ placed_named words f (in_arity_order words fs)

zip_named : (ks : List Constant) (xs : List ℕ) → zip ks (map Word xs) ≡ map named_field (zip ks xs)
zip_named [] xs = refl
zip_named (k ∷ ks) [] = refl
zip_named (k ∷ ks) (x ∷ xs) = ap (λ z. (k, Word x) ∷ z) (zip_named ks xs)

-- ---- fields are variables

field_variable : (p : Phrase) (name : ℕ) → field_name p ≡ Some name → variable_of p ≡ Some (Word name)
field_variable (keyed c at p) name e = name_variable p name e
field_variable p name e = name_variable p name e

no_fresh : (xs : List ℕ) → fresh_among (map Word xs) ≡ []
no_fresh [] = refl
no_fresh (x ∷ xs) = no_fresh xs

record AreNamed (words : List (List ℕ)) (n : ℕ) (ps : Phrases) (xs : List ℕ) : Type 0 where
  names : names_of n ps ≡ map Word xs
  behind : behind_names n ps ≡ n
  none_made : (m : ℕ) → filled words n ps m ≡ made none m

are_named : (words : List (List ℕ)) (n : ℕ) (ps : Phrases) (xs : List ℕ) → each field_name ps ≡ Some xs → AreNamed words n ps xs
are_named words n nothing xs e = (let f : Some [] ≡ Some xs = e in let g : [] ≡ xs = cc in subst (AreNamed words n nothing) g (record { names = refl; behind = refl; none_made = λ m. refl }))
are_named words n (more p ps) xs e =
    let r = map_some (λ (a : ℕ × List ℕ). a.0 ∷ a.1) (both (field_name p) (each field_name ps)) xs e in
    let o = both_some (field_name p) (each field_name ps) r.0 r.1 in
    let v = field_variable p r.0.0 o.0 in
    let rest = are_named words n ps r.0.1 o.1 in
    subst (AreNamed words n (more p ps)) r.2 (record {
      names = (λ i. name_or n (v i) ∷ names_of (next_after n (v i)) ps) ∙ ap (λ z. Word r.0.0 ∷ z) rest.names;
      behind = ap (λ w. behind_names (next_after n w) ps) v ∙ rest.behind;
      none_made = λ m.
          (λ i. and_then (part_made (v i) (λ j. translated words (value (name_or n (variable_of p))) j p) m) (λ j. filled words (next_after n (v i)) ps j))
          ∙ ap (λ (z : Made). made z.code z.next) (rest.none_made m);
    })

-- ---- the record

abbrev Fields : Type 0
Fields = Literal × List (Constant × ℕ)

one_pair : (a b : Fields) → Some a ≡ Some b → a ≡ b
one_pair a b e = cc

-- it is made of the variables at its fields, and nothing else is
pub record_code : (words : List (List ℕ)) (p : Phrase) (l : Literal) (fs : List (Constant × ℕ)) → record_of words p ≡ Some (l, fs) → (x : Identifier) (n : ℕ) → translated words (value x) n p ≡ made (just (record_or_label x l (map named_field fs))) n
record_code words (rec l' at ps) l fs e x n =
    let r = map_some (λ xs. (l', in_arity_order words (zip (keys_of ps) xs))) (each field_name ps) (l, fs) e in
    let w = are_named words n ps r.0 r.1 in
    let order : in_arity_order words (zip (keys_of ps) (map Word r.0)) ≡ map named_field (in_arity_order words (zip (keys_of ps) r.0)) = ap (in_arity_order words) (zip_named (keys_of ps) r.0) ∙ order_named words (zip (keys_of ps) r.0) in
    let code : translated words (value x) n (rec l' at ps) ≡ made (just (record_or_label x l' (map named_field (in_arity_order words (zip (keys_of ps) r.0))))) n =
    (λ i. within (w.names i) (preceded (record_or_label x l' (in_arity_order words (zip (keys_of ps) (w.names i)))) (filled words n ps (w.behind i))))
    ∙ (λ i. within (map Word r.0) (preceded (record_or_label x l' (order i)) (w.none_made n i)))
    ∙ ap (λ xs. made (scoped xs (just (record_or_label x l' (map named_field (in_arity_order words (zip (keys_of ps) r.0)))))) n) (no_fresh r.0) in
    code ∙ ap (λ (f : Fields). made (just (record_or_label x f.0 (map named_field f.1))) n) r.2
record_code words (literal l' at) l fs e x n = ap (λ (f : Fields). made (just (record_or_label x f.0 (map named_field f.1))) n) (one_pair (l', []) (l, fs) e)
record_code words (paren at (more p nothing)) l fs e x n = record_code words p l fs e x n
record_code words p l fs e x n = absurd (cc)
