-- The features of a script's answer are different, so a feature has one field.
use Rattle.std.proofs.Common.{◌≡◌, ◌⊎◌, inl, inr, ℕ, zero, suc, ◌+◌, ◌<◌, nat_eq, nat_lt, ◌&&◌, ◌||◌, Bool, true, false, not, if◌then◌else◌, List, [], ◌∷◌, ◌++◌, length, map, position, slice_get, Contains, Some, None, option_map, option_and_then, refl, sym, ◌∙◌, ap, subst, arith}
use Rattle.std.proofs.lemmas.Bool.Decides.{nat_tests}
use Rattle.std.specs.List.{zip, list_any, position_or_len}
use Rattle.oz_language.specs.Arities.{feature_lt, placed_field, in_arity_order}
use Rattle.oz_language.specs.Constants.{constant_eq}
use Rattle.oz_language.specs.declared.kernel.Constant.{Constant}
use Rattle.oz_language.specs.declared.token.Connective.TheVariants as connective
use Rattle.oz_language.specs.declared.token.Literal.{Literal}
use Rattle.oz_language.specs.Grammar.{Phrase, Phrases, nothing, more, var, literal, rec, paren, connected, body, proc, head}
use Rattle.oz_language.specs.Refusals.{Program, features, repeat_faults, not_linear, feature_faults, faults, faults_each, declaring, with_names, parameters_in, first_scope}
use Rattle.oz_language.specs.SimpleTexts.{form_of, is_bars}
use Rattle.oz_language.specs.Translation.{keys_of}
use Rattle.oz_laws.proofs.AlikeLaws.{constant_eq-true, constant_eq-refl}
use Rattle.fd_stores.proofs.Lists.{contains_none, contains_cases, contains_head, contains_tail}
use Rattle.fd_form.specs.FdScripts as form
use Rattle.fd_form.specs.FdScripts.{fd_form}
use Rattle.fd_form.specs.Parts.{both, each, field_name, is_named, record_of, script_word, fd_word}
use Rattle.fd_form.specs.declared.script.FdScript.{FdScript}
use Rattle.fd_form_law.proofs.FormLaws.{map_some, then_some, both_some, if_some}

-- ---- lists of different features

abbrev pub Apart : List Constant → Type 0
Apart [] = Unit {0}
Apart (f ∷ fs) = (Contains fs f → ⊥) × Apart fs

not_equal : (f g : Constant) → (f ≡ g → ⊥) → constant_eq f g ≡ false
not_equal f g n = by (constant_eq f g) refl where
  by : (b : Bool) → constant_eq f g ≡ b → b ≡ false
  by true e = absurd (n (constant_eq-true f g e))
  by false e = refl

slice_in : (fs : List Constant) (i : ℕ) (f : Constant) → slice_get fs i ≡ Some f → Contains fs f
slice_in [] i f e = absurd (cc)
slice_in (g ∷ fs) zero f e = (let same : g ≡ f = cc in subst (Contains (g ∷ fs)) same (contains_head g fs))
slice_in (g ∷ fs) (suc i) f e = contains_tail g f fs (slice_in fs i f e)

-- the place of one of them
before_it : (fs : List Constant) (i : ℕ) (f : Constant) → Apart fs → slice_get fs i ≡ Some f → position_or_len (constant_eq f) fs ≡ i
before_it [] i f a e = absurd (cc)
before_it (g ∷ fs) zero f a e =
    let same : g ≡ f = cc in
    ap (λ b. if not b then 1 + position_or_len (constant_eq f) fs else 0) (subst (λ z. constant_eq f z ≡ true) (sym same) (constant_eq-refl f))
before_it (g ∷ fs) (suc i) f a e =
    let rest = before_it fs i f a.1 e in
    ap (λ b. if not b then 1 + position_or_len (constant_eq f) fs else 0) (not_equal f g (λ same. a.0 (subst (Contains fs) same (slice_in fs i f e)))) ∙ omega (arith, rest)

pub slice_inside : {A : Type 0} (xs : List A) (i : ℕ) (x : A) → slice_get xs i ≡ Some x → i < length xs
slice_inside [] i x e = absurd (cc)
slice_inside (y ∷ xs) zero x e = omega arith
slice_inside (y ∷ xs) (suc i) x e = (let l = slice_inside xs i x e in omega (arith, l))

pub place_is : (fs : List Constant) (i : ℕ) (f : Constant) → Apart fs → slice_get fs i ≡ Some f → position (constant_eq f) fs ≡ Some i
place_is fs i f a e =
    let l = slice_inside fs i f e in
    let inside : nat_lt i (length fs) ≡ true = grind (arith, nat_tests, l) in
    ap (λ n. if nat_lt n (length fs) then Some n else None) (before_it fs i f a e) ∙ ap (λ b. if b then Some i else None) inside

-- ---- the order of arities

abbrev keys : List (Constant × ℕ) → List Constant
keys fs = map (λ (f : Constant × ℕ). f.0) fs

placed_in : (words : List (List ℕ)) (f : Constant × ℕ) (gs : List (Constant × ℕ)) (x : Constant) → Contains (keys (placed_field words f gs)) x → (f.0 ≡ x) ⊎ Contains (keys gs) x
placed_in words f [] x c = contains_cases f.0 x [] c
placed_in words f (g ∷ gs) x c = by (feature_lt words g.0 f.0) c (placed_in words f gs x) where
  by : (b : Bool) → Contains (keys (if b then g ∷ placed_field words f gs else f ∷ g ∷ gs)) x → (Contains (keys (placed_field words f gs)) x → (f.0 ≡ x) ⊎ Contains (keys gs) x) → (f.0 ≡ x) ⊎ Contains (keys (g ∷ gs)) x
  by true d again = elim (contains_cases g.0 x (keys (placed_field words f gs)) d) [
    | inl e ↦ inr (subst (Contains (keys (g ∷ gs))) e (contains_head g.0 (keys gs)))
    | inr k ↦ elim (again k) [ inl e ↦ inl e | inr m ↦ inr (contains_tail g.0 x (keys gs) m) ]
  ]
  by false d again = contains_cases f.0 x (keys (g ∷ gs)) d

placed_apart : (words : List (List ℕ)) (f : Constant × ℕ) (gs : List (Constant × ℕ)) → (Contains (keys gs) f.0 → ⊥) → Apart (keys gs) → Apart (keys (placed_field words f gs))
placed_apart words f [] n a = (n, tt)
placed_apart words f (g ∷ gs) n a = by (feature_lt words g.0 f.0) (placed_apart words f gs (λ c. n (contains_tail g.0 f.0 (keys gs) c)) a.1) where
  by : (b : Bool) → Apart (keys (placed_field words f gs)) → Apart (keys (if b then g ∷ placed_field words f gs else f ∷ g ∷ gs))
  by true k = (λ c. elim (placed_in words f gs g.0 c) [ inl e ↦ n (subst (Contains (keys (g ∷ gs))) (sym e) (contains_head g.0 (keys gs))) | inr m ↦ a.0 m ], k)
  by false k = (n, a)

ordered_in : (words : List (List ℕ)) (fs : List (Constant × ℕ)) (x : Constant) → Contains (keys (in_arity_order words fs)) x → Contains (keys fs) x
ordered_in words [] x c = c
ordered_in words (f ∷ fs) x c = elim (placed_in words f (in_arity_order words fs) x c) [
  | inl e ↦ subst (Contains (keys (f ∷ fs))) e (contains_head f.0 (keys fs))
  | inr k ↦ contains_tail f.0 x (keys fs) (ordered_in words fs x k)
]

ordered_apart : (words : List (List ℕ)) (fs : List (Constant × ℕ)) → Apart (keys fs) → Apart (keys (in_arity_order words fs))
ordered_apart words [] a = tt
ordered_apart words (f ∷ fs) a = placed_apart words f (in_arity_order words fs) (λ c. a.0 (ordered_in words fs f.0 c)) (ordered_apart words fs a.1)

zipped_in : (ks : List Constant) (xs : List ℕ) (x : Constant) → Contains (keys (zip ks xs)) x → Contains ks x
zipped_in [] xs x c = absurd (contains_none x c)
zipped_in (k ∷ ks) [] x c = absurd (contains_none x c)
zipped_in (k ∷ ks) (y ∷ xs) x c = elim (contains_cases k x (keys (zip ks xs)) c) [
  | inl e ↦ subst (Contains (k ∷ ks)) e (contains_head k ks)
  | inr m ↦ contains_tail k x ks (zipped_in ks xs x m)
]

zipped_apart : (ks : List Constant) (xs : List ℕ) → Apart ks → Apart (keys (zip ks xs))
zipped_apart [] xs a = tt
zipped_apart (k ∷ ks) [] a = tt
zipped_apart (k ∷ ks) (x ∷ xs) a = (λ c. a.0 (zipped_in ks xs k c), zipped_apart ks xs a.1)

-- ---- no fault

nothing_left : {A : Type 0} (xs ys : List A) → xs ++ ys ≡ [] → (xs ≡ []) × (ys ≡ [])
nothing_left [] ys e = (refl, e)
nothing_left (x ∷ xs) ys e = absurd (cc)

-- a feature that is not among those seen
unseen : (f : Constant) (seen : List Constant) → list_any (constant_eq f) seen ≡ false → Contains seen f → ⊥
unseen f [] e c = contains_none f c
unseen f (g ∷ seen) e c = elim (contains_cases g f seen c) [ inl same ↦ first (constant_eq f g) (list_any (constant_eq f) seen) e (subst (λ z. constant_eq f z ≡ true) (sym same) (constant_eq-refl f)) | inr k ↦ unseen f seen (others (constant_eq f g) (list_any (constant_eq f) seen) e) k ] where
  first : (a b : Bool) → (a || b) ≡ false → a ≡ true → ⊥
  first true b h i = absurd (cc)
  first false b h i = absurd (cc)

  others : (a b : Bool) → (a || b) ≡ false → b ≡ false
  others true b h = absurd (cc)
  others false b h = h

no_repeat : (b : Bool) (at : ℕ) → (if b then not_linear at ∷ [] else []) ≡ [] → b ≡ false
no_repeat true at e = absurd (cc)
no_repeat false at e = refl

-- where none repeats, they are different, and none of those seen before
repeats_apart : (ps : List (Constant × ℕ)) (seen : List Constant) → repeat_faults constant_eq seen ps ≡ [] → Apart (keys ps) × ((f : Constant) → Contains seen f → Contains (keys ps) f → ⊥)
repeats_apart [] seen e = (tt, λ f c d. contains_none f d)
repeats_apart (p ∷ ps) seen e =
    let two = nothing_left (if list_any (constant_eq p.0) seen then not_linear p.1 ∷ [] else []) (repeat_faults constant_eq (p.0 ∷ seen) ps) e in
    let new = unseen p.0 seen (no_repeat (list_any (constant_eq p.0) seen) p.1 two.0) in
    let rest = repeats_apart ps (p.0 ∷ seen) two.1 in (
      (rest.1 p.0 (contains_head p.0 seen), rest.0),
      λ f c d. elim (contains_cases p.0 f (keys ps) d) [ inl same ↦ new (subst (Contains seen) (sym same) c) | inr k ↦ rest.1 f (contains_tail p.0 f seen c) k ],
    )

-- ---- the answer

record_apart : (words : List (List ℕ)) (scope : List ℕ) (e : Phrase) (r : Literal × List (Constant × ℕ)) → record_of words e ≡ Some r → faults scope e ≡ [] → Apart (keys r.1)
record_apart words scope (rec l at fs) r q h =
    let m = map_some (λ xs. (l, in_arity_order words (zip (keys_of fs) xs))) (each field_name fs) r q in
    let two = nothing_left (feature_faults fs) (faults_each scope fs) h in
    subst (λ (z : Literal × List (Constant × ℕ)). Apart (keys z.1)) m.2 (ordered_apart words (zip (keys_of fs) m.0) (zipped_apart (keys_of fs) m.0 (repeats_apart (features 1 fs) [] two.0).0))
record_apart words scope (literal l at) r q h = (let same : (l, []) ≡ r = cc in subst (λ (z : Literal × List (Constant × ℕ)). Apart (keys z.1)) same tt)
record_apart words scope (paren at (more e nothing)) r q h = record_apart words scope e r q (nothing_left (faults scope e) [] h).0
record_apart words scope p r q h = absurd (cc)

-- ---- the script

answer_apart : (words : List (List ℕ)) (root : ℕ) (ss : Phrases) (p : List ℕ × (Literal × List (Constant × ℕ))) (s : FdScript) → form.with_record words root ss p ≡ Some s → Apart (keys p.1.1) → Apart s.features
answer_apart words root ss p s e a =
    let l = p.1.0 in
    let fs = keys p.1.1 in
    let vs = map (λ (f : Constant × ℕ). f.1) p.1.1 in
    let i = if_some (form.are_apart (root ∷ script_word ∷ fd_word ∷ []) p.0 && form.are_fields p.0 vs && not (is_bars (form_of words l fs))) (option_map (form.script_of l fs vs) (form.stated root vs ss)) s e in
    let m = map_some (form.script_of l fs vs) (form.stated root vs ss) s i.1 in
    subst (λ (z : FdScript). Apart z.features) m.2 a

body_apart : (words : List (List ℕ)) (root : ℕ) (scope : List ℕ) (p : Phrase) (s : FdScript) → form.in_body words root p ≡ Some s → faults scope p ≡ [] → Apart s.features
body_apart words root scope (body ds (more (connected connective.Equates r e) ss)) s q h =
    let inner = declaring ds scope in
    let fields = both (each form.bare_variable ds) (record_of words e) in
    let i = if_some (is_named root r) (option_and_then (form.with_record words root ss) fields) s q in
    let t = then_some (form.with_record words root ss) fields s i.1 in
    let o = both_some (each form.bare_variable ds) (record_of words e) t.0 t.1 in
    let statements = nothing_left (faults_each inner ds) (faults_each inner (more (connected connective.Equates r e) ss)) h in
    let equation = nothing_left (faults inner (connected connective.Equates r e)) (faults_each inner ss) statements.1 in
    let answer = nothing_left (faults inner r) (faults inner e) equation.0 in
    answer_apart words root ss t.0 s t.2 (record_apart words inner e t.0.1 o.1 answer.1)
body_apart words root scope p s q h = absurd (cc)

program_apart : (words : List (List ℕ)) (q : Phrase) (s : FdScript) → form.in_program words q ≡ Some s → faults first_scope q ≡ [] → Apart s.features
program_apart words (body nothing (more (proc at (head place (more (var name there) (more (var root here) nothing))) b) nothing)) s e h =
    let i = if_some (nat_eq name script_word && not (nat_eq root fd_word)) (form.in_body words root b) s e in
    let scope = declaring nothing first_scope in
    let the_head = head place (more (var name there) (more (var root here) nothing)) in
    let the_script = proc at the_head b in
    let one = nothing_left (faults scope the_script) [] h in
    let two = nothing_left (faults scope the_head) (faults (with_names (parameters_in the_head) scope) b) one.0 in
    body_apart words root (with_names (parameters_in the_head) scope) b s i.1 two.1
program_apart words q s e h = absurd (cc)

-- of a program that is accepted
pub features_apart : (p : Program) (s : FdScript) → fd_form p ≡ Some s → faults first_scope p.phrase ≡ [] → Apart s.features
unfolding fd_form
features_apart p s e h = program_apart p.words p.phrase s e h
