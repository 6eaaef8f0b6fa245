-- The kernel of a script.
use Rattle.std.proofs.Common.{◌≡◌, ℕ, nat_eq, ◌&&◌, ◌||◌, Bool, true, false, not, if◌then◌else◌, List, [], ◌∷◌, length, map, Option, Some, None, option_map, option_and_then, refl, sym, ◌∙◌, ap, subst, arith}
use Rattle.std.proofs.lemmas.Bool.Decides.{nat_tests}
use Rattle.oz_base.specs.Lists.{holds_of}
use Rattle.oz_language.specs.declared.token.Literal.{Literal}
use Rattle.oz_language.specs.declared.kernel.Constant.{Constant}
use Rattle.oz_language.specs.declared.kernel.Identifier.{Identifier}
use Rattle.oz_language.specs.declared.kernel.Identifier.TheVariants.{Word}
use Rattle.oz_language.specs.declared.token.Connective.TheVariants as connective
use Rattle.oz_language.specs.Grammar.{Phrase, Phrases, nothing, more, var, connected, body, proc, head}
use Rattle.oz_language.specs.Refusals.{Program, contains}
use Rattle.oz_language.specs.Kernels.{Stmts, just, ◌⨾◌}
use Rattle.oz_language.specs.Kernels as kernel
use Rattle.oz_language.specs.SimpleTexts.{form_of, is_bars}
use Rattle.oz_language.specs.Translation.{Made, made, and_then, value, statement, translated, translated_each, scoped, declared, variable_of, equated}
use Rattle.fd_form.specs.FdScripts as form
use Rattle.fd_form.specs.Parts as parts
use Rattle.fd_form.specs.declared.script.FdScript.{FdScript}
use Rattle.fd_form.specs.Parts.{both, each, name_of, script_word, fd_word}
use Rattle.fd_form.specs.FdScripts.{fd_form}
use Rattle.fd_domain.proofs.SetLaws.{and_left, and_right}
use Rattle.fd_form_law.specs.Shapes.{Differ, IsRecord, IsShaped, ScriptsShaped}
use Rattle.fd_form_law.proofs.FormLaws.{map_some, then_some, both_some, if_some}
use Rattle.fd_form_law.proofs.PostLaws.{name_variable}
use Rattle.fd_form_law.proofs.VariableLaws.{fields_differ}

-- ---- declarations

bare_names : (words : List (List ℕ)) (n : ℕ) (ds : Phrases) (names : List ℕ) → each form.bare_variable ds ≡ Some names → translated_each words n ds ≡ made kernel.none n
bare_names words n nothing names e = refl
bare_names words n (more (var name at) ds) names e =
    let r = map_some (λ (a : ℕ × List ℕ). a.0 ∷ a.1) (both (Some name) (each form.bare_variable ds)) names e in
    let o = both_some (Some name) (each form.bare_variable ds) r.0 r.1 in
    ap (λ (z : Made). made z.code z.next) (bare_names words n ds r.0.1 o.1)
bare_names words n (more d ds) names e = absurd (cc)

abbrev IsAmong : List ℕ → List ℕ → Type 0
IsAmong seen others = (x : ℕ) → contains seen x ≡ true → contains others x ≡ true

by_test : (t b c : Bool) → (b ≡ true → c ≡ true) → (t || b) ≡ true → (t || c) ≡ true
by_test true b c h k = refl
by_test false b c h k = h k

among_more : (seen others : List ℕ) (y : ℕ) → IsAmong seen others → IsAmong (y ∷ seen) (y ∷ others)
among_more seen others y h x k = by_test (nat_eq x y) (contains seen x) (contains others x) (h x) k

not_true : (b : Bool) → not b ≡ true → b ≡ false
not_true true e = cc
not_true false e = refl

not_among : (b c : Bool) → (b ≡ true → c ≡ true) → c ≡ false → b ≡ false
not_among true c h e = (let f = h refl in cc)
not_among false c h e = refl

declared_names : (others seen : List ℕ) → IsAmong seen others → (ds : Phrases) (names : List ℕ) → each form.bare_variable ds ≡ Some names → form.are_apart others names ≡ true → declared seen ds ≡ map Word names
declared_names others seen h nothing names e a = (let f : Some [] ≡ Some names = e in let g : [] ≡ names = cc in ap (λ z. map Word z) g)
declared_names others seen h (more (var name at) ds) names e a =
    let r = map_some (λ (a : ℕ × List ℕ). a.0 ∷ a.1) (both (Some name) (each form.bare_variable ds)) names e in
    let o = both_some (Some name) (each form.bare_variable ds) r.0 r.1 in
    let first : Some name ≡ Some r.0.0 = o.0 in
    let same : r.0.0 ≡ name = cc in
    let apart = subst (λ z. form.are_apart others z ≡ true) (sym r.2) a in
    let new = not_true (contains others r.0.0) (and_left _ _ apart) in
    let fresh = not_among (contains seen name) (contains others name) (h name) (subst (λ z. contains others z ≡ false) same new) in
    let rest = declared_names (r.0.0 ∷ others) (name ∷ seen) (subst (λ z. IsAmong (name ∷ seen) (z ∷ others)) (sym same) (among_more seen others name h)) ds r.0.1 o.1 (and_right (not (contains others r.0.0)) _ apart) in
    ap (λ b. if b then declared seen ds else Word name ∷ declared (name ∷ seen) ds) fresh
    ∙ ap (λ z. Word name ∷ z) rest ∙ ap (λ z. Word z ∷ map Word r.0.1) (sym same) ∙ ap (λ z. map Word z) r.2
declared_names others seen h (more d ds) names e a = absurd (cc)

-- ---- the body

equated_is : (n : ℕ) (x : Identifier) (v w : Option Identifier) (make_left make_right : Identifier → ℕ → Made) → v ≡ Some x → equated n v w make_left make_right ≡ make_right x n
equated_is n x v w make_left make_right e = ap (λ z. equated n z w make_left make_right) e

named_is : (name : ℕ) (p : Phrase) (o : Option ℕ) → name_of p ≡ o → holds_of (nat_eq name) o ≡ true → variable_of p ≡ Some (Word name)
named_is name p None e h = absurd (cc)
named_is name p (Some x) e h = (let same : x ≡ name = grind (arith, nat_tests, h) in subst (λ z. variable_of p ≡ Some (Word z)) same (name_variable p x e))

module _ (words : List (List ℕ)) (root : ℕ) (r0 e : Phrase) (ss : Phrases) (named : parts.is_named root r0 ≡ true) where
  abbrev first : Made
  first = translated words (value (Word root)) 1 e

  abbrev all : Stmts
  all = first.code ⨾ (translated_each words first.next ss).code

  abbrev statements_from : ℕ → Made
  statements_from n = translated_each words n (more (connected connective.Equates r0 e) ss)

  first_is : translated words statement 1 (connected connective.Equates r0 e) ≡ first
  first_is = equated_is 1 (Word root) (variable_of r0) (variable_of e) (λ y i. translated words (value y) i r0) (λ y i. translated words (value y) i e) (named_is root r0 (name_of r0) refl named)

  all_is : (statements_from 1).code ≡ all
  all_is = ap (λ (z : Made). (and_then z (λ i. translated_each words i ss)).code) first_is

  body_is : (ds : Phrases) (names : List ℕ) → each form.bare_variable ds ≡ Some names → form.are_apart (root ∷ script_word ∷ fd_word ∷ []) names ≡ true
      → (translated words statement 1 (body ds (more (connected connective.Equates r0 e) ss))).code ≡ scoped (map Word names) all
  body_is nothing names f a = (let g : Some [] ≡ Some names = f in let h : [] ≡ names = cc in all_is ∙ ap (λ z. scoped (map Word z) all) h)
  body_is (more d ds) names f a =
      let none_made = bare_names words 1 (more d ds) names f in
      let code : (and_then (translated_each words 1 (more d ds)) statements_from).code ≡ all = ap (λ (z : Made). (and_then z statements_from).code) none_made ∙ all_is in
      let names_are = declared_names (root ∷ script_word ∷ fd_word ∷ []) [] (λ x k. absurd (cc)) (more d ds) names f a in
      let r = map_some (λ (a : ℕ × List ℕ). a.0 ∷ a.1) (both (form.bare_variable d) (each form.bare_variable ds)) names f in
      let locals : declared [] (more d ds) ≡ map Word (r.0.0 ∷ r.0.1) = names_are ∙ ap (λ z. map Word z) (sym r.2) in
      subst (λ z. (translated words statement 1 (body (more d ds) (more (connected connective.Equates r0 e) ss))).code ≡ scoped (map Word z) all) r.2 (λ i. just (kernel.local (locals i) (code i)))

-- ---- scripts

abbrev Fields : Type 0
Fields = List ℕ × (Literal × List (Constant × ℕ))

-- what the record and the statements give
record IsRecorded (words : List (List ℕ)) (root : ℕ) (ss : Phrases) (p : Fields) (s : FdScript) : Type 0 where
  apart : form.are_apart (root ∷ script_word ∷ fd_word ∷ []) p.0 ≡ true
  declared : form.are_fields p.0 s.variables ≡ true
  different : Differ s.variables
  count : s.problem.count ≡ length s.variables
  label : p.1.0 ≡ s.label
  features : map (λ (f : Constant × ℕ). f.0) p.1.1 ≡ s.features
  variables : map (λ (f : Constant × ℕ). f.1) p.1.1 ≡ s.variables
  no_cell : is_bars (form_of words s.label s.features) ≡ false
  states : form.stated root s.variables ss ≡ Some (s.problem.items, s.problem.distribution)

recorded : (words : List (List ℕ)) (root : ℕ) (ss : Phrases) (p : Fields) (s : FdScript) → form.with_record words root ss p ≡ Some s → IsRecorded words root ss p s
recorded words root ss p s e =
    let l = p.1.0 in
    let fs = map (λ (f : Constant × ℕ). f.0) p.1.1 in
    let vs = map (λ (f : Constant × ℕ). f.1) p.1.1 in
    let test = form.are_apart (root ∷ script_word ∷ fd_word ∷ []) p.0 && form.are_fields p.0 vs && not (is_bars (form_of words l fs)) in
    let i = if_some test (option_map (form.script_of l fs vs) (form.stated root vs ss)) s e in
    let m = map_some (form.script_of l fs vs) (form.stated root vs ss) s i.1 in
    let two = and_left (form.are_apart (root ∷ script_word ∷ fd_word ∷ []) p.0 && form.are_fields p.0 vs) (not (is_bars (form_of words l fs))) i.0 in
    let no_cell = and_right (form.are_apart (root ∷ script_word ∷ fd_word ∷ []) p.0 && form.are_fields p.0 vs) (not (is_bars (form_of words l fs))) i.0 in
    let apart = and_left (form.are_apart (root ∷ script_word ∷ fd_word ∷ []) p.0) (form.are_fields p.0 vs) two in
    let fields = and_right (form.are_apart (root ∷ script_word ∷ fd_word ∷ []) p.0) (form.are_fields p.0 vs) two in
    subst (IsRecorded words root ss p) m.2 (record {
      apart = apart;
      declared = fields;
      different = fields_differ (root ∷ script_word ∷ fd_word ∷ []) p.0 vs apart fields;
      count = refl;
      label = refl;
      features = refl;
      variables = refl;
      no_cell = not_true (is_bars (form_of words l fs)) no_cell;
      states = m.1;
    })

-- the shape of a procedure's body
record IsBody (words : List (List ℕ)) (root : ℕ) (b : Phrase) (s : FdScript) : Type 0 where
  names : List ℕ
  answer : Phrase
  statements : Phrases
  apart : form.are_apart (root ∷ script_word ∷ fd_word ∷ []) names ≡ true
  declared : form.are_fields names s.variables ≡ true
  different : Differ s.variables
  count : s.problem.count ≡ length s.variables
  recorded : IsRecord words s answer
  states : form.stated root s.variables statements ≡ Some (s.problem.items, s.problem.distribution)
  code : (translated words statement 1 b).code ≡ scoped (map Word names) ((translated words (value (Word root)) 1 answer).code ⨾ (translated_each words (translated words (value (Word root)) 1 answer).next statements).code)

body_shape : (words : List (List ℕ)) (root : ℕ) (p : Phrase) (s : FdScript) → form.in_body words root p ≡ Some s → IsBody words root p s
body_shape words root (body ds (more (connected connective.Equates r e) ss)) s q =
    let fields = both (each form.bare_variable ds) (parts.record_of words e) in
    let i = if_some (parts.is_named root r) (option_and_then (form.with_record words root ss) fields) s q in
    let t = then_some (form.with_record words root ss) fields s i.1 in
    let o = both_some (each form.bare_variable ds) (parts.record_of words e) t.0 t.1 in
    let w = recorded words root ss t.0 s t.2 in
    record {
      names = t.0.0;
      answer = e;
      statements = ss;
      apart = w.apart;
      declared = w.declared;
      different = w.different;
      count = w.count;
      recorded = record { fields = t.0.1.1; read = o.1 ∙ ap (λ (l : Literal). Some (l, t.0.1.1)) w.label; features = w.features; variables = w.variables; no_cell = w.no_cell };
      states = w.states;
      code = body_is words root r e ss i.0 ds t.0.0 o.0 w.apart;
    }
body_shape words root p s q = absurd (cc)

program_shape : (p : Program) (q : Phrase) (s : FdScript) → p.phrase ≡ q → form.in_program p.words q ≡ Some s → IsShaped p s
program_shape p (body nothing (more (proc at (head place (more (var name there) (more (var root here) nothing))) b) nothing)) s f e =
    let i = if_some (nat_eq name script_word && not (nat_eq root fd_word)) (form.in_body p.words root b) s e in
    let test = and_left (nat_eq name script_word) (not (nat_eq root fd_word)) i.0 in
    let same : name ≡ script_word = grind (arith, nat_tests, test) in
    let w = body_shape p.words root b s i.1 in
    record {
      root = root;
      names = w.names;
      answer = w.answer;
      statements = w.statements;
      other = not_true (nat_eq root fd_word) (and_right (nat_eq name script_word) (not (nat_eq root fd_word)) i.0);
      apart = w.apart;
      declared = w.declared;
      different = w.different;
      count = w.count;
      recorded = w.recorded;
      states = w.states;
      code = ap (λ z. (translated p.words statement 1 z).code) f ∙ (λ j. just (kernel.bind_procedure (Word (same j)) (Word root ∷ []) (w.code j)));
    }
program_shape p q s f e = absurd (cc)

pub scripts_shaped : ScriptsShaped
unfolding fd_form
scripts_shaped p s e = program_shape p p.phrase s refl e
