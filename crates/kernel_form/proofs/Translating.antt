-- The statements of a program have whole records: the translation gives each feature its field.
use Rattle.std.proofs.Common.{◌≡◌, ◌∙◌, ℕ, suc, ℤ, pos, ◌+ℤ◌, Bool, true, false, if◌then◌else◌, List, [], ◌∷◌, ◌++◌, Option, Some, None, length, map, ap, refl, sym}
use Rattle.std.specs.List.{zip}
use Rattle.std.proofs.lemmas.List.{length-map}
use Rattle.oz_language.specs.declared.kernel.Identifier.{Identifier}
use Rattle.oz_language.specs.declared.kernel.Identifier.TheVariants.{Word, Fresh}
use Rattle.oz_language.specs.declared.kernel.Constant.{Constant}
use Rattle.oz_language.specs.declared.kernel.Constant.TheVariants as constant
use Rattle.oz_language.specs.declared.kernel.Kernel.{Kernel}
use Rattle.oz_language.specs.declared.kernel.LinearTerm.{LinearTerm}
use Rattle.oz_language.specs.declared.kernel.Operation.TheVariants as operation
use Rattle.oz_language.specs.declared.token.Comparison.{Comparison}
use Rattle.oz_language.specs.declared.token.Comparison.TheVariants as comparison
use Rattle.oz_language.specs.declared.token.Connective.TheVariants.{Equates, Assigns, Bounds, BoundsEach}
use Rattle.oz_language.specs.declared.token.Literal.{Literal}
use Rattle.oz_language.specs.declared.token.Operator.TheVariants as operator
use Rattle.oz_language.specs.Arities.{feature_lt, placed_field, in_arity_order}
use Rattle.oz_language.specs.Grammar.{Phrase, Phrases, nothing, more, var, any, int, string, literal, rec, keyed, list, paren, binary, bars, hashes, select, access, connected, relate, proc, fun, choice, when, choose, arm, cases, cases_or, clause, body}
use Rattle.oz_language.specs.Grammar as g
use Rattle.oz_language.specs.KernelTexts.{kernel_text}
use Rattle.oz_language.specs.Kernels.{word_text, Pattern, Stmt, Stmts, none, followed, ◌⨾◌, numbered}
use Rattle.oz_language.specs.Kernels as k
use Rattle.oz_language.specs.Refusals.{Program}
use Rattle.oz_language.specs.Translation.{Made, made, and_then, preceded, Goal, statement, value, result_in, variable_of, name_or, next_after, names_of, behind_names, fresh_among, scoped, within, part_made, with_part, with_parts, keys_of, record_or_label, record_bound, atom, cell_bound, cell_made, last_variable, codes_made, side_by_side, labelled_or_literal, list_pattern, chain_pattern, patterned, patterned_each, operation_of, and_made, or_made, equated, called, or_skip, declaring, caught_in, attempted, parameter_names, behind_parameters, parameters_of, procedure_name, function_made, behind_factor, behind_side, terms_of, constant_of, products_of, sum_posted, posted, between, selected, translated, translated_each, valued_last, filled, list_made, chain_made, references, alternatives, arms_made, clauses_made, handled, statements_of, kernel_of}
use Rattle.oz_language.specs.Wording.{access_word, assign_word, hash_word}
use Rattle.kernel_form.specs.Whole.{width, IsWhole, AreWhole, AreWholeBodies, IsWholePattern, AreWholePatterns}

-- What is made

-- of what is made, each record has as many fields as features
abbrev MadeWhole : Made → Type 0
MadeWhole a = AreWhole a.code

both_whole : (a b : Stmts) → AreWhole a → AreWhole b → AreWhole (a ⨾ b)
both_whole none b v w = w
both_whole (followed s a) b v w = (v.0, both_whole a b v.1 w)

and_then_whole : (a : Made) (make : ℕ → Made) → MadeWhole a → ((i : ℕ) → MadeWhole (make i)) → MadeWhole (and_then a make)
and_then_whole a make v w = both_whole a.code (make a.next).code v (w a.next)

scoped_whole : (xs : List Identifier) (ss : Stmts) → AreWhole ss → AreWhole (scoped xs ss)
scoped_whole [] ss w = w
scoped_whole (x ∷ xs) ss w = (w, tt)

within_whole : (xs : List Identifier) (a : Made) → MadeWhole a → MadeWhole (within xs a)
within_whole xs a w = scoped_whole (fresh_among xs) a.code w

part_made_whole : (v : Option Identifier) (make : ℕ → Made) (n : ℕ) → ((i : ℕ) → MadeWhole (make i)) → MadeWhole (part_made v make n)
part_made_whole (Some x) make n w = tt
part_made_whole None make n w = w n

-- and so whatever the identifier and the number of the next one
abbrev EachMakes : (Identifier → ℕ → Made) → Type 0
EachMakes make = (x : Identifier) (i : ℕ) → MadeWhole (make x i)

part_whole : (n : ℕ) (v : Option Identifier) (make use_of : Identifier → ℕ → Made) → EachMakes make → EachMakes use_of → MadeWhole (with_part n v make use_of)
part_whole n v make use_of w u =
    let x = name_or n v in
    let part = part_made v (make x) (next_after n v) in
    within_whole (x ∷ []) (and_then part (use_of x)) (and_then_whole part (use_of x) (part_made_whole v (make x) (next_after n v) (w x)) (u x))

-- two parts, one made behind the other
two_whole : (v w : Option Identifier) (make_first make_second : Identifier → ℕ → Made) (x y : Identifier) (n : ℕ) → EachMakes make_first → EachMakes make_second
    → MadeWhole (and_then (part_made v (make_first x) n) (part_made w (make_second y)))
two_whole v w make_first make_second x y n a b =
    and_then_whole (part_made v (make_first x) n) (part_made w (make_second y)) (part_made_whole v (make_first x) n (a x)) (λ i. part_made_whole w (make_second y) i (b y))

parts_whole : (n : ℕ) (v w : Option Identifier) (make_first make_second : Identifier → ℕ → Made) (use_of : Identifier → Identifier → Stmt)
    → EachMakes make_first → EachMakes make_second → ((x y : Identifier) → IsWhole (use_of x y)) → MadeWhole (with_parts n v w make_first make_second use_of)
parts_whole n v w make_first make_second use_of a b u =
    let x = name_or n v in
    let m = next_after n v in
    let y = name_or m w in
    let both = and_then (part_made v (make_first x) (next_after m w)) (part_made w (make_second y)) in
    let last : ℕ → Made = λ i. made (k.just (use_of x y)) i in
    within_whole (x ∷ y ∷ []) (and_then both last) (and_then_whole both last (two_whole v w make_first make_second x y (next_after m w) a b) (λ i. (u x y, tt)))

selected_whole : (n : ℕ) (x : Identifier) (v w : Option Identifier) (make_first make_second : Identifier → ℕ → Made) → EachMakes make_first → EachMakes make_second
    → MadeWhole (selected n x v w make_first make_second)
selected_whole n x v w make_first make_second a b =
    parts_whole n v w make_first make_second (λ y z. k.operate operation.Select (y ∷ z ∷ x ∷ [])) a b (λ y z. tt)

-- Records and chains

label_whole : (x : Identifier) (l : Literal) (fs : List (Constant × Identifier)) → IsWhole (record_or_label x l fs)
label_whole x l [] = tt
label_whole x l (f ∷ fs) = length-map (f ∷ fs) (λ (g : Constant × Identifier). g.0) ∙ sym (length-map (f ∷ fs) (λ (g : Constant × Identifier). g.1))

cell_whole : (n : ℕ) (x : Identifier) (v w : Option Identifier) (make_head make_tail : Identifier → ℕ → Made) → EachMakes make_head → EachMakes make_tail
    → MadeWhole (cell_made n x v w make_head make_tail)
cell_whole n x v w make_head make_tail a b =
    let y = name_or n v in
    let m = next_after n v in
    let z = name_or m w in
    let both = and_then (part_made v (make_head y) (next_after m w)) (part_made w (make_tail z)) in
    within_whole (y ∷ z ∷ []) (preceded (cell_bound x y z) both) (refl, two_whole v w make_head make_tail y z (next_after m w) a b)

codes_whole : (x : Identifier) (cs : List ℕ) (n : ℕ) → MadeWhole (codes_made x cs n)
codes_whole x [] n = (tt, tt)
codes_whole x (c ∷ cs) n =
    cell_whole n x None None (λ y i. made (k.just (k.bind y (constant.Int (pos c)))) i) (λ z i. codes_made z cs i) (λ y i. (tt, tt)) (λ z i. codes_whole z cs i)

-- Patterns

abbrev EachWhole : List Pattern → Type 0
EachWhole [] = Unit {0}
EachWhole (p ∷ ps) = IsWholePattern p × EachWhole ps

abbrev FieldsWhole : List (Constant × Pattern) → Type 0
FieldsWhole [] = Unit {0}
FieldsWhole (f ∷ fs) = IsWholePattern f.1 × FieldsWhole fs

zip_whole : (ks : List Constant) (ps : List Pattern) → EachWhole ps → FieldsWhole (zip ks ps)
zip_whole [] ps w = tt
zip_whole (k ∷ ks) [] w = tt
zip_whole (k ∷ ks) (p ∷ ps) w = (w.0, zip_whole ks ps w.1)

placed_whole : (words : List (List ℕ)) (f : Constant × Pattern) (fs : List (Constant × Pattern)) → IsWholePattern f.1 → FieldsWhole fs → FieldsWhole (placed_field words f fs)
placed_whole words f [] v w = (v, tt)
placed_whole words f (g ∷ gs) v w = by (feature_lt words g.0 f.0) (placed_whole words f gs v w.1)
  where
    by : (b : Bool) → FieldsWhole (placed_field words f gs) → FieldsWhole (if b then g ∷ placed_field words f gs else f ∷ g ∷ gs)
    by true placed = (w.0, placed)
    by false placed = (v, w)

sorted_whole : (words : List (List ℕ)) (fs : List (Constant × Pattern)) → FieldsWhole fs → FieldsWhole (in_arity_order words fs)
sorted_whole words [] w = tt
sorted_whole words (f ∷ fs) w = placed_whole words f (in_arity_order words fs) w.0 (sorted_whole words fs w.1)

side_whole : (fs : List (Constant × Pattern)) → FieldsWhole fs → AreWholePatterns (side_by_side (map (λ (f : Constant × Pattern). f.1) fs))
side_whole [] w = tt
side_whole (f ∷ fs) w = (w.0, side_whole fs w.1)

side_width : (fs : List (Constant × Pattern)) → length (map (λ (f : Constant × Pattern). f.0) fs) ≡ width (side_by_side (map (λ (f : Constant × Pattern). f.1) fs))
side_width [] = refl
side_width (f ∷ fs) = ap suc (side_width fs)

labelled_whole : (l : Literal) (fs : List (Constant × Pattern)) → FieldsWhole fs → IsWholePattern (labelled_or_literal l fs)
labelled_whole l [] w = tt
labelled_whole l (f ∷ fs) w = (side_width (f ∷ fs), side_whole (f ∷ fs) w)

list_pattern_whole : (ps : List Pattern) → EachWhole ps → IsWholePattern (list_pattern ps)
list_pattern_whole [] w = tt
list_pattern_whole (p ∷ ps) w = (refl, (w.0, (list_pattern_whole ps w.1, tt)))

chain_pattern_whole : (ps : List Pattern) → EachWhole ps → IsWholePattern (chain_pattern ps)
chain_pattern_whole [] w = tt
chain_pattern_whole (p ∷ []) w = w.0
chain_pattern_whole (p ∷ q ∷ ps) w = (refl, (w.0, (chain_pattern_whole (q ∷ ps) w.1, tt)))

codes_pattern_whole : (cs : List ℕ) → EachWhole (map (λ c. k.constant (constant.Int (pos c))) cs)
codes_pattern_whole [] = tt
codes_pattern_whole (c ∷ cs) = (tt, codes_pattern_whole cs)

mutual
  patterned_whole : (words : List (List ℕ)) (p : Phrase) → IsWholePattern (patterned words p)
  patterned_whole words (var name at) = tt
  patterned_whole words (any at) = tt
  patterned_whole words (int i at) = tt
  patterned_whole words (string s at) = list_pattern_whole (map (λ c. k.constant (constant.Int (pos c))) (word_text words s)) (codes_pattern_whole (word_text words s))
  patterned_whole words (literal l at) = tt
  patterned_whole words (rec l at fs) =
      let fields = zip (keys_of fs) (patterned_each words fs) in
      labelled_whole l (in_arity_order words fields) (sorted_whole words fields (zip_whole (keys_of fs) (patterned_each words fs) (patterned_each_whole words fs)))
  patterned_whole words (keyed k at p) = patterned_whole words p
  patterned_whole words (list at ps) = list_pattern_whole (patterned_each words ps) (patterned_each_whole words ps)
  patterned_whole words (paren at (more p nothing)) = patterned_whole words p
  patterned_whole words (bars ps) = chain_pattern_whole (patterned_each words ps) (patterned_each_whole words ps)
  patterned_whole words (hashes ps) =
      labelled_whole (atom hash_word) (zip (keys_of ps) (patterned_each words ps)) (zip_whole (keys_of ps) (patterned_each words ps) (patterned_each_whole words ps))
  patterned_whole words p = tt

  patterned_each_whole : (words : List (List ℕ)) (ps : Phrases) → EachWhole (patterned_each words ps)
  patterned_each_whole words nothing = tt
  patterned_each_whole words (more p ps) = (patterned_whole words p, patterned_each_whole words ps)

-- Statements

equated_whole : (n : ℕ) (x y : Option Identifier) (make_left make_right : Identifier → ℕ → Made) → EachMakes make_left → EachMakes make_right
    → MadeWhole (equated n x y make_left make_right)
equated_whole n (Some x) y make_left make_right a b = b x n
equated_whole n None (Some y) make_left make_right a b = a y n
equated_whole n None None make_left make_right a b =
    (both_whole (make_left (Fresh n) (suc n)).code (make_right (Fresh n) (make_left (Fresh n) (suc n)).next).code (a (Fresh n) (suc n)) (b (Fresh n) (make_left (Fresh n) (suc n)).next), tt)

called_whole : (xs : List Identifier) → AreWhole (called xs)
called_whole [] = tt
called_whole (x ∷ xs) = (tt, tt)

skip_whole : (ps : Phrases) (a : Made) → MadeWhole a → MadeWhole (or_skip ps a)
skip_whole nothing a w = (tt, tt)
skip_whole (more p ps) a w = w

declaring_whole : (ds : Phrases) (a : Made) → MadeWhole a → MadeWhole (declaring ds a)
declaring_whole nothing a w = w
declaring_whole (more d ds) a w = (w, tt)

attempted_whole : (n : ℕ) (v : Option Identifier) (body_made handler_made : ℕ → Made) (chain_made : Identifier → ℕ → Made)
    → ((i : ℕ) → MadeWhole (body_made i)) → ((i : ℕ) → MadeWhole (handler_made i)) → EachMakes chain_made → MadeWhole (attempted n v body_made handler_made chain_made)
attempted_whole n (Some y) body_made handler_made chain_made a b c = ((a n, b (body_made n).next), tt)
attempted_whole n None body_made handler_made chain_made a b c = ((a (suc n), c (Fresh n) (body_made (suc n)).next), tt)

function_whole : (x : Identifier) (xs : List Identifier) (lazy : Option ℕ) (make : Identifier → ℕ → Made) (n : ℕ) → EachMakes make → MadeWhole (function_made x xs lazy make n)
function_whole x xs None make n w = (w (Fresh n) (suc n), tt)
function_whole x xs (Some at) make n w = (((w (Fresh (suc (suc n))) (suc (suc (suc n))), (tt, tt)), tt), tt)

-- Relations

products_whole : (p : Phrase) (n : ℕ) → AreWhole (products_of n p)
products_whole (binary operator.Plus a b) n = both_whole (products_of n a) (products_of (behind_side n a) b) (products_whole a n) (products_whole b (behind_side n a))
products_whole (binary operator.Minus a b) n = both_whole (products_of n a) (products_of (behind_side n a) b) (products_whole a n) (products_whole b (behind_side n a))
products_whole (binary operator.Times (int i at) b) n = tt
products_whole (binary operator.Times a (int i at)) n = tt
products_whole (binary operator.Times a b) n = (tt, tt)
products_whole p n = tt

sum_whole : (r : Comparison) (c : ℤ) (ts : List LinearTerm) (d : ℤ) (us : List LinearTerm) → IsWhole (sum_posted r c ts d us)
sum_whole comparison.Equal c ts d us = tt
sum_whole comparison.Unequal c ts d us = tt
sum_whole comparison.Below c ts d us = tt
sum_whole comparison.NotAbove c ts d us = tt
sum_whole comparison.Above c ts d us = tt
sum_whole comparison.NotBelow c ts d us = tt

posted_whole : (r : Comparison) (n : ℕ) (a b : Phrase) → IsWhole (posted r n a b)
posted_whole r n a b =
    let m = behind_side n a in
    sum_whole r (constant_of false a +ℤ constant_of true b) (terms_of false n a ++ terms_of true m b) (constant_of false b +ℤ constant_of true a) (terms_of false m b ++ terms_of true n a)

relation_whole : (r : Comparison) (n : ℕ) (a b : Phrase) → AreWhole ((products_of n a ⨾ products_of (behind_side n a) b) ⨾ k.just (posted r n a b))
relation_whole r n a b =
    let m = behind_side n a in
    both_whole (products_of n a ⨾ products_of m b) (k.just (posted r n a b))
    (both_whole (products_of n a) (products_of m b) (products_whole a n) (products_whole b m)) (posted_whole r n a b, tt)

-- The table

mutual
  translated_whole : (words : List (List ℕ)) (goal : Goal) (p : Phrase) (n : ℕ) → MadeWhole (translated words goal n p)
  translated_whole words (value x) (var name at) n = (tt, tt)
  translated_whole words (value x) (any at) n = ((tt, tt), tt)
  translated_whole words (value x) (int i at) n = (tt, tt)
  translated_whole words (value x) (string s at) n = codes_whole x (word_text words s) n
  translated_whole words (value x) (literal l at) n = (tt, tt)
  translated_whole words (value x) (rec l at fs) n =
      within_whole (names_of n fs) (preceded (record_bound words x l fs (names_of n fs)) (filled words n fs (behind_names n fs)))
      (label_whole x l (in_arity_order words (zip (keys_of fs) (names_of n fs))), filled_whole words fs n (behind_names n fs))
  translated_whole words (value x) (keyed c at e) n = translated_whole words (value x) e n
  translated_whole words (value x) (list at es) n = list_whole words es x n
  translated_whole words (value x) (paren at (more e nothing)) n = translated_whole words (value x) e n
  translated_whole words (value x) (binary operator.AndThen a b) n =
      part_whole n (variable_of a) (λ y i. translated words (value y) i a) (λ y i. and_made x y (translated words (value x) i b))
      (λ y i. translated_whole words (value y) a i) (λ y i. ((translated_whole words (value x) b i, (tt, tt)), tt))
  translated_whole words (value x) (binary operator.OrElse a b) n =
      part_whole n (variable_of a) (λ y i. translated words (value y) i a) (λ y i. or_made x y (translated words (value x) i b))
      (λ y i. translated_whole words (value y) a i) (λ y i. (((tt, tt), translated_whole words (value x) b i), tt))
  translated_whole words (value x) (binary op a b) n =
      parts_whole n (variable_of a) (variable_of b) (λ y i. translated words (value y) i a) (λ y i. translated words (value y) i b)
      (λ y z. k.operate (operation_of op) (y ∷ z ∷ x ∷ [])) (λ y i. translated_whole words (value y) a i) (λ y i. translated_whole words (value y) b i) (λ y z. tt)
  translated_whole words (value x) (bars es) n = chain_whole words es x n
  translated_whole words (value x) (hashes es) n =
      within_whole (names_of n es) (preceded (record_bound words x (atom hash_word) es (names_of n es)) (filled words n es (behind_names n es)))
      (label_whole x (atom hash_word) (in_arity_order words (zip (keys_of es) (names_of n es))), filled_whole words es n (behind_names n es))
  translated_whole words (value x) (select e f) n =
      selected_whole n x (variable_of e) (variable_of f) (λ y i. translated words (value y) i e) (λ y i. translated words (value y) i f)
      (λ y i. translated_whole words (value y) e i) (λ y i. translated_whole words (value y) f i)
  translated_whole words (value x) (access at e) n =
      part_whole n (variable_of e) (λ y i. translated words (value y) i e) (λ y i. made (k.just (k.call (Word access_word) (y ∷ x ∷ []))) i)
      (λ y i. translated_whole words (value y) e i) (λ y i. (tt, tt))
  translated_whole words goal g.skip n = (tt, tt)
  translated_whole words goal (g.fail at) n = (tt, tt)
  translated_whole words goal (g.raise at e) n =
      part_whole n (variable_of e) (λ y i. translated words (value y) i e) (λ y i. made (k.just (k.raise y)) i) (λ y i. translated_whole words (value y) e i) (λ y i. (tt, tt))
  translated_whole words goal (connected Equates a b) n =
      equated_whole n (variable_of a) (variable_of b) (λ y i. translated words (value y) i a) (λ y i. translated words (value y) i b)
      (λ y i. translated_whole words (value y) a i) (λ y i. translated_whole words (value y) b i)
  translated_whole words goal (connected Assigns a b) n =
      parts_whole n (variable_of a) (variable_of b) (λ y i. translated words (value y) i a) (λ y i. translated words (value y) i b)
      (λ y z. k.call (Word assign_word) (y ∷ z ∷ [])) (λ y i. translated_whole words (value y) a i) (λ y i. translated_whole words (value y) b i) (λ y z. tt)
  translated_whole words goal (connected Bounds a b) n =
      parts_whole n (variable_of a) (variable_of b) (λ y i. translated words (value y) i a) (λ y i. translated words (value y) i b)
      (λ y z. k.operate operation.Bound (y ∷ z ∷ [])) (λ y i. translated_whole words (value y) a i) (λ y i. translated_whole words (value y) b i) (λ y z. tt)
  translated_whole words goal (connected BoundsEach a b) n =
      parts_whole n (variable_of a) (variable_of b) (λ y i. translated words (value y) i a) (λ y i. translated words (value y) i b)
      (λ y z. k.operate operation.BoundEach (y ∷ z ∷ [])) (λ y i. translated_whole words (value y) a i) (λ y i. translated_whole words (value y) b i) (λ y z. tt)
  translated_whole words goal (relate r a b) n =
      let m = behind_side n a in
      let l = behind_side m b in
      let left = references words n a l in
      let right : ℕ → Made = λ i. references words m b i in
      let last : ℕ → Made = λ i. made ((products_of n a ⨾ products_of m b) ⨾ k.just (posted r n a b)) i in
      within_whole (between n l) (and_then (and_then left right) last)
      (and_then_whole (and_then left right) last (and_then_whole left right (references_whole words a n l) (λ i. references_whole words b m i)) (λ i. relation_whole r n a b))
  translated_whole words goal (g.call at es) n =
      let parts = filled words n es (behind_names n es) in
      let last : ℕ → Made = λ i. made (called (names_of n es ++ result_in goal)) i in
      within_whole (names_of n es) (and_then parts last) (and_then_whole parts last (filled_whole words es n (behind_names n es)) (λ i. called_whole (names_of n es ++ result_in goal)))
  translated_whole words goal (proc at h b) n = (translated_whole words statement b (behind_parameters n (parameters_of h)), tt)
  translated_whole words goal (fun at lazy h b) n =
      let ps = parameters_of h in
      function_whole (procedure_name goal h) (parameter_names n ps) lazy (λ r i. translated words (value r) i b) (behind_parameters n ps) (λ r i. translated_whole words (value r) b i)
  translated_whole words goal (g.local at ds b) n =
      declaring_whole ds (and_then (translated_each words n ds) (λ i. translated words goal i b))
      (and_then_whole (translated_each words n ds) (λ i. translated words goal i b) (each_whole words ds n) (λ i. translated_whole words goal b i))
  translated_whole words goal (g.thread at b) n = (translated_whole words goal b n, tt)
  translated_whole words goal (choice at bs) n = (alternatives_whole words goal bs n, tt)
  translated_whole words goal (when at xs) n = arms_whole words goal xs (λ i. made (k.just k.skip) i) n (λ i. (tt, tt))
  translated_whole words goal (choose at xs b) n = arms_whole words goal xs (λ i. translated words goal i b) n (λ i. translated_whole words goal b i)
  translated_whole words goal (cases at e cs) n =
      part_whole n (variable_of e) (λ y i. translated words (value y) i e) (λ y i. clauses_made words goal y cs (λ j. made (k.just k.no_match) j) i)
      (λ y i. translated_whole words (value y) e i) (λ y i. clauses_whole words goal cs y (λ j. made (k.just k.no_match) j) i (λ j. (tt, tt)))
  translated_whole words goal (cases_or at e cs b) n =
      part_whole n (variable_of e) (λ y i. translated words (value y) i e) (λ y i. clauses_made words goal y cs (λ j. translated words goal j b) i)
      (λ y i. translated_whole words (value y) e i) (λ y i. clauses_whole words goal cs y (λ j. translated words goal j b) i (λ j. translated_whole words goal b j))
  translated_whole words goal (g.attempt b cs) n =
      attempted_whole n (caught_in cs) (λ i. translated words statement i b) (λ i. handled words cs i)
      (λ y i. clauses_made words statement y cs (λ j. made (k.just (k.raise y)) j) i)
      (λ i. translated_whole words statement b i) (λ i. handled_whole words cs i)
      (λ y i. clauses_whole words statement cs y (λ j. made (k.just (k.raise y)) j) i (λ j. (tt, tt)))
  translated_whole words statement (paren at ss) n = each_whole words ss n
  translated_whole words statement (body ds ss) n =
      declaring_whole ds (and_then (translated_each words n ds) (λ i. or_skip ss (translated_each words i ss)))
      (and_then_whole (translated_each words n ds) (λ i. or_skip ss (translated_each words i ss)) (each_whole words ds n)
      (λ i. skip_whole ss (translated_each words i ss) (each_whole words ss i)))
  translated_whole words (value x) (body ds ss) n =
      declaring_whole ds (and_then (translated_each words n ds) (λ i. valued_last words x ss i))
      (and_then_whole (translated_each words n ds) (λ i. valued_last words x ss i) (each_whole words ds n) (λ i. last_whole words ss x i))
  translated_whole words goal p n = tt

  each_whole : (words : List (List ℕ)) (ps : Phrases) (n : ℕ) → MadeWhole (translated_each words n ps)
  each_whole words nothing n = tt
  each_whole words (more p ps) n =
      and_then_whole (translated words statement n p) (λ i. translated_each words i ps) (translated_whole words statement p n) (λ i. each_whole words ps i)

  last_whole : (words : List (List ℕ)) (ps : Phrases) (x : Identifier) (n : ℕ) → MadeWhole (valued_last words x ps n)
  last_whole words nothing x n = tt
  last_whole words (more e nothing) x n = translated_whole words (value x) e n
  last_whole words (more p (more q ps)) x n =
      and_then_whole (translated words statement n p) (λ i. valued_last words x (more q ps) i) (translated_whole words statement p n) (λ i. last_whole words (more q ps) x i)

  filled_whole : (words : List (List ℕ)) (es : Phrases) (m n : ℕ) → MadeWhole (filled words m es n)
  filled_whole words nothing m n = tt
  filled_whole words (more e es) m n =
      let x = name_or m (variable_of e) in
      and_then_whole (part_made (variable_of e) (λ i. translated words (value x) i e) n) (λ i. filled words (next_after m (variable_of e)) es i)
      (part_made_whole (variable_of e) (λ i. translated words (value x) i e) n (λ i. translated_whole words (value x) e i))
      (λ i. filled_whole words es (next_after m (variable_of e)) i)

  list_whole : (words : List (List ℕ)) (es : Phrases) (x : Identifier) (n : ℕ) → MadeWhole (list_made words x es n)
  list_whole words nothing x n = (tt, tt)
  list_whole words (more e es) x n =
      cell_whole n x (variable_of e) None (λ y i. translated words (value y) i e) (λ z i. list_made words z es i)
      (λ y i. translated_whole words (value y) e i) (λ z i. list_whole words es z i)

  chain_whole : (words : List (List ℕ)) (es : Phrases) (x : Identifier) (n : ℕ) → MadeWhole (chain_made words x es n)
  chain_whole words nothing x n = tt
  chain_whole words (more e nothing) x n = translated_whole words (value x) e n
  chain_whole words (more e (more f es)) x n =
      cell_whole n x (variable_of e) (last_variable (more f es)) (λ y i. translated words (value y) i e) (λ z i. chain_made words z (more f es) i)
      (λ y i. translated_whole words (value y) e i) (λ z i. chain_whole words (more f es) z i)

  references_whole : (words : List (List ℕ)) (p : Phrase) (m n : ℕ) → MadeWhole (references words m p n)
  references_whole words (binary operator.Plus a b) m n =
      and_then_whole (references words m a n) (λ i. references words (behind_side m a) b i) (references_whole words a m n) (λ i. references_whole words b (behind_side m a) i)
  references_whole words (binary operator.Minus a b) m n =
      and_then_whole (references words m a n) (λ i. references words (behind_side m a) b i) (references_whole words a m n) (λ i. references_whole words b (behind_side m a) i)
  references_whole words (binary operator.Times a b) m n =
      and_then_whole (references words m a n) (λ i. references words (behind_factor m a) b i) (references_whole words a m n) (λ i. references_whole words b (behind_factor m a) i)
  references_whole words (select e f) m n =
      selected_whole n (Fresh m) (variable_of e) (variable_of f) (λ y i. translated words (value y) i e) (λ y i. translated words (value y) i f)
      (λ y i. translated_whole words (value y) e i) (λ y i. translated_whole words (value y) f i)
  references_whole words p m n = tt

  alternatives_whole : (words : List (List ℕ)) (goal : Goal) (bs : Phrases) (n : ℕ) → AreWholeBodies (alternatives words goal n bs).bodies
  alternatives_whole words goal nothing n = tt
  alternatives_whole words goal (more b bs) n = (translated_whole words goal b n, alternatives_whole words goal bs (translated words goal n b).next)

  arms_whole : (words : List (List ℕ)) (goal : Goal) (xs : Phrases) (last : ℕ → Made) (n : ℕ) → ((i : ℕ) → MadeWhole (last i)) → MadeWhole (arms_made words goal xs last n)
  arms_whole words goal nothing last n w = w n
  arms_whole words goal (more (arm e b) xs) last n w =
      part_whole n (variable_of e) (λ y i. translated words (value y) i e)
      (λ y i.
      let a = translated words goal i b in
      let rest = arms_made words goal xs last a.next in
      made (k.just (k.test y a.code rest.code)) rest.next)
      (λ y i. translated_whole words (value y) e i) (λ y i. ((translated_whole words goal b i, arms_whole words goal xs last (translated words goal i b).next w), tt))
  arms_whole words goal (more p xs) last n w = arms_whole words goal xs last n w

  clauses_whole : (words : List (List ℕ)) (goal : Goal) (cs : Phrases) (x : Identifier) (last : ℕ → Made) (n : ℕ) → ((i : ℕ) → MadeWhole (last i))
      → MadeWhole (clauses_made words goal x cs last n)
  clauses_whole words goal nothing x last n w = w n
  clauses_whole words goal (more (clause p b) cs) x last n w =
      ((patterned_whole words p, (translated_whole words goal b n, clauses_whole words goal cs x last (translated words goal n b).next w)), tt)
  clauses_whole words goal (more p cs) x last n w = clauses_whole words goal cs x last n w

  handled_whole : (words : List (List ℕ)) (cs : Phrases) (n : ℕ) → MadeWhole (handled words cs n)
  handled_whole words (more (clause p b) cs) n = translated_whole words statement b n
  handled_whole words cs n = tt

pub statements_whole : (p : Program) → AreWhole (statements_of p)
statements_whole p = translated_whole p.words statement p.phrase 1

-- the text of a translated program
pub translated_text : (k : Kernel) (p : Program) (text : List ℕ) → k ≡ kernel_of p → ((ss : Stmts) → AreWhole ss → k ≡ numbered k.words ss → text ≡ kernel_text k.words ss)
    → text ≡ kernel_text p.words (statements_of p)
unfolding kernel_of
translated_text k p text same law =
    let words : k.words ≡ p.words = ap (λ (j : Kernel). j.words) same in
    law (statements_of p) (statements_whole p) (same ∙ ap (λ ws. numbered ws (statements_of p)) (sym words)) ∙ ap (λ ws. kernel_text ws (statements_of p)) words
