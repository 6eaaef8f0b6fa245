-- Spines of lists. They are walked without a list of the cells that were passed: one that comes back to a cell has no end.
use Rattle.std.proofs.Common.{◌≡◌, ◌⊎◌, inl, inr, ℕ, zero, suc, Bool, true, false, if◌then◌else◌, ◌||◌, List, [], ◌∷◌, ◌++◌, Option, Some, None, refl, sym, ap, subst, ◌∙◌, append_assoc}
use Rattle.std.proofs.lemmas.List.{append-nil}
use Rattle.std.specs.List.{list_any}
use Rattle.oz_base.specs.declared.names.Ident.{Ident}
use Rattle.oz_language.specs.Wording.{nil_word, bar_word}
use Rattle.oz_semantics.specs.Values.{is_like, atom, pair_in}
use Rattle.oz_semantics.specs.Store.{View, same, value_of}
use Rattle.oz_semantics.specs.Inputs.{Input, Known, Unknown, OtherKind, and_further, read}
use Rattle.oz_semantics.specs.Vectors.{cell_elements, list_in, list_elements}
use Rattle.oz_semantics.specs.declared.value.Value.{Value}
use Rattle.oz_laws.proofs.SameLaws.{tests_same}
use Rattle.oz_laws.proofs.StoreLaws.{value_row}

-- at most so many cells
abbrev pub walked : View → ℕ → Ident → Input (List Ident)
walked view zero x = OtherKind
walked view (suc n) x = read (list_in (walked view n)) x (value_of view x)

-- with an element in front
abbrev pub after_head : Ident → Input (List Ident) → Input (List Ident)
after_head h i = and_further (λ xs. Known (h ∷ xs)) i

-- a cell with this head and this tail
abbrev pub IsCell : View → Ident → Ident → Ident → Type 0
IsCell view x head tail = (rest : Ident → Input (List Ident)) → read (list_in rest) x (value_of view x) ≡ after_head head (rest tail)

-- one variable is the tail of another, or of what follows it
pub data Reaches (view : View) : Ident → Ident → Type 0 where
  last : {x y h : Ident} → IsCell view x h y → Reaches view x y
  more : {x y z h : Ident} → IsCell view x h z → Reaches view z y → Reaches view x y

pub reaches_on : (view : View) (x y z h : Ident) → Reaches view x y → IsCell view y h z → Reaches view x z
reaches_on view x y z h (last c) d = more c (last d)
reaches_on view x y z h (more {z = w} c r) d = more c (reaches_on view w y z h r d)

-- A spine that comes back

-- a cell has a value
valued : (view : View) (x h t : Ident) → IsCell view x h t → (o : Option Value) → value_of view x ≡ o → (v : Value) × (o ≡ Some v)
valued view x h t c (Some v) e = (v, refl)
valued view x h t c None e = absurd (unknown_other (sym (ap (read (list_in (λ y. OtherKind)) x) e) ∙ c (λ y. OtherKind)))
  where
    unknown_other : ◌≡◌ {A = Input (List Ident)} (Unknown x) OtherKind → ⊥
    unknown_other k = cc

reaching_valued : (view : View) (x y : Ident) → Reaches view x y → (v : Value) × (value_of view x ≡ Some v)
reaching_valued view x y (last {h = h} c) = valued view x h y c (value_of view x) refl
reaching_valued view x y (more {z = z} {h = h} c r) = valued view x h z c (value_of view x) refl

same_walk : (view : View) (x q y : Ident) → same view x q ≡ true → Reaches view q y → (n : ℕ) → walked view n x ≡ walked view n q
same_walk view x q y s r zero = refl
same_walk view x q y s r (suc n) =
    let v = reaching_valued view q y r in
    ap (read (list_in (walked view n)) x) (value_row view x q ((tests_same view x q).0 s) ∙ v.1)
    ∙ sym (ap (read (list_in (walked view n)) q) v.1)

other_from : (view : View) (x q : Ident) → same view x q ≡ true → Reaches view q x → (n : ℕ) (z : Ident) → Reaches view z x → walked view n z ≡ OtherKind
other_from view x q s r zero z k = refl
other_from view x q s r (suc n) z (last {h = h} c) = c (walked view n) ∙ ap (after_head h) (same_walk view x q x s r n ∙ other_from view x q s r n q r)
other_from view x q s r (suc n) z (more {z = w} {h = h} c k) = c (walked view n) ∙ ap (after_head h) (other_from view x q s r n w k)

-- it has no end
pub comes_back : (view : View) (x q : Ident) → same view x q ≡ true → Reaches view q x → (n : ℕ) → walked view n x ≡ OtherKind
comes_back view x q s r n = same_walk view x q x s r n ∙ other_from view x q s r n q r

-- The cells that were passed

-- these were passed on the way to x, the last one first
pub data Passed (view : View) : List Ident → Ident → Type 0 where
  none_passed : {x : Ident} → Passed view [] x
  one_passed : {p x h : Ident} {ps : List Ident} → IsCell view p h x → Passed view ps p → Passed view (p ∷ ps) x

passed_again : (view : View) (ps : List Ident) (x y : Ident) → Passed view ps y → list_any (same view x) ps ≡ true → (q : Ident) × (same view x q ≡ true) × Reaches view q y
passed_again view [] x y k e = cc
passed_again view (p ∷ ps) x y (one_passed {h = h} c k) e = by (same view x p) refl e (λ f. passed_again view ps x p k f)
  where
    by : (b : Bool) → same view x p ≡ b → (b || list_any (same view x) ps) ≡ true → (list_any (same view x) ps ≡ true → (q : Ident) × (same view x q ≡ true) × Reaches view q p) → (q : Ident) × (same view x q ≡ true) × Reaches view q y
    by true s f rest = (p, s, last c)
    by false s f rest = let r = rest f in (r.0, r.1, reaches_on view r.0 p y h r.2 c)

cell_is : (view : View) (x : Ident) (v : Value) (cell : Ident × Ident) → value_of view x ≡ Some v → is_like (atom nil_word) v ≡ false → pair_in bar_word v ≡ Some cell → IsCell view x cell.0 cell.1
cell_is view x v cell e n p rest =
    ap (read (list_in rest) x) e
    ∙ ap (λ b. if b then Known [] else cell_elements rest (pair_in bar_word v)) n
    ∙ ap (cell_elements rest) p

pub elements_walked : (view : View) (n : ℕ) (ps : List Ident) (x : Ident) → Passed view ps x → list_elements view n ps x ≡ walked view n x
elements_walked view zero ps x k = refl
elements_walked view (suc n) ps x k = by (list_any (same view x) ps) refl (λ t h c. elements_walked view n (x ∷ ps) t (one_passed {h = h} c k))
  where
    in_value : (o : Option Value) → value_of view x ≡ o → ((t h : Ident) → IsCell view x h t → list_elements view n (x ∷ ps) t ≡ walked view n t) → read (list_in (list_elements view n (x ∷ ps))) x o ≡ read (list_in (walked view n)) x o
    in_value None e rest = refl
    in_value (Some v) e rest = at_end (is_like (atom nil_word) v) refl (pair_in bar_word v) refl
      where
        at_end : (b : Bool) → is_like (atom nil_word) v ≡ b → (o : Option (Ident × Ident)) → pair_in bar_word v ≡ o
            → (if b then Known [] else cell_elements (list_elements view n (x ∷ ps)) o) ≡ (if b then Known [] else cell_elements (walked view n) o)
        at_end true f o p = refl
        at_end false f None p = refl
        at_end false f (Some cell) p = ap (after_head cell.0) (rest cell.1 cell.0 (cell_is view x v cell e f p))

    by : (b : Bool) → list_any (same view x) ps ≡ b → ((t h : Ident) → IsCell view x h t → list_elements view n (x ∷ ps) t ≡ walked view n t)
        → (if b then OtherKind else read (list_in (list_elements view n (x ∷ ps))) x (value_of view x)) ≡ read (list_in (walked view n)) x (value_of view x)
    by true e rest = let q = passed_again view ps x x k e in sym (comes_back view x q.0 q.1 q.2 (suc n))
    by false e rest = in_value (value_of view x) refl rest

-- One cell after another

-- elements in front of others
abbrev pub after_all : List Ident → Input (List Ident) → Input (List Ident)
after_all hs i = and_further (λ xs. Known (hs ++ xs)) i

pub after_none : (i : Input (List Ident)) → after_all [] i ≡ i
after_none (Known xs) = refl
after_none (Unknown x) = refl
after_none OtherKind = refl

pub after_one : (hs : List Ident) (h : Ident) (i : Input (List Ident)) → after_all hs (after_head h i) ≡ after_all (hs ++ h ∷ []) i
after_one hs h (Known xs) = ap Known (sym (append_assoc hs (h ∷ []) xs))
after_one hs h (Unknown x) = refl
after_one hs h OtherKind = refl

pub cell_walked : (view : View) (hs : List Ident) (n : ℕ) (x h t : Ident) → IsCell view x h t → after_all hs (walked view (suc n) x) ≡ after_all (hs ++ h ∷ []) (walked view n t)
cell_walked view hs n x h t c = ap (after_all hs) (c (walked view n)) ∙ after_one hs h (walked view n t)

-- What stands at a place

abbrev Stands : View → Ident → Input (List Ident) → Type 0
Stands view x i = (rest : Ident → Input (List Ident)) → read (list_in rest) x (value_of view x) ≡ i

pub at_unknown : (view : View) (hs : List Ident) (n : ℕ) (x : Ident) (whole : Input (List Ident)) → Stands view x (Unknown x) → after_all hs (walked view (suc n) x) ≡ whole → Unknown x ≡ whole
at_unknown view hs n x whole s was = sym (ap (after_all hs) (s (walked view n))) ∙ was

pub at_other : (view : View) (hs : List Ident) (n : ℕ) (x : Ident) (whole : Input (List Ident)) → Stands view x OtherKind → after_all hs (walked view (suc n) x) ≡ whole → OtherKind ≡ whole
at_other view hs n x whole s was = sym (ap (after_all hs) (s (walked view n))) ∙ was

pub at_end : (view : View) (hs : List Ident) (n : ℕ) (x : Ident) (whole : Input (List Ident)) → Stands view x (Known []) → after_all hs (walked view (suc n) x) ≡ whole → Known hs ≡ whole
at_end view hs n x whole s was = ap Known (sym (append-nil hs)) ∙ sym (ap (after_all hs) (s (walked view n))) ∙ was

-- no cell is left to be walked
pub at_limit : (view : View) (hs : List Ident) (n : ℕ) (x h t : Ident) (whole : Input (List Ident)) → IsCell view x h t → n ≡ 0 → after_all hs (walked view (suc n) x) ≡ whole → OtherKind ≡ whole
at_limit view hs n x h t whole c e was = sym (cell_walked view hs n x h t c ∙ ap (λ m. after_all (hs ++ h ∷ []) (walked view m t)) e) ∙ was

-- a cell that was passed, or this one
abbrev pub WasPassed : View → Ident → Ident → Type 0
WasPassed view q x = (q ≡ x) ⊎ Reaches view q x

reached : (view : View) (q x h t : Ident) → WasPassed view q x → IsCell view x h t → Reaches view q t
reached view q x h t (inl e) c = subst (λ y. Reaches view y t) (sym e) (last c)
reached view q x h t (inr r) c = reaches_on view q x t h r c

pub at_return : (view : View) (hs : List Ident) (n : ℕ) (x h t q : Ident) (whole : Input (List Ident)) → IsCell view x h t → same view t q ≡ true → WasPassed view q x → after_all hs (walked view (suc n) x) ≡ whole → OtherKind ≡ whole
at_return view hs n x h t q whole c s w was =
    sym (cell_walked view hs n x h t c ∙ ap (after_all (hs ++ h ∷ [])) (comes_back view t q s (reached view q x h t w c) n)) ∙ was

pub at_cell : (view : View) (hs new : List Ident) (n m : ℕ) (x h t : Ident) (whole : Input (List Ident)) → IsCell view x h t → n ≡ suc m → new ≡ hs ++ h ∷ [] → after_all hs (walked view (suc n) x) ≡ whole → after_all new (walked view (suc m) t) ≡ whole
at_cell view hs new n m x h t whole c e k was =
    ap (λ l. after_all l (walked view (suc m) t)) k
    ∙ ap (λ i. after_all (hs ++ h ∷ []) (walked view i t)) (sym e)
    ∙ sym (cell_walked view hs n x h t c)
    ∙ was

pub still_passed : (view : View) (q p x h t : Ident) → (p ≡ x) ⊎ (p ≡ q) → WasPassed view q x → IsCell view x h t → WasPassed view p t
still_passed view q p x h t (inl e) w c = inr (subst (λ y. Reaches view y t) (sym e) (last c))
still_passed view q p x h t (inr e) w c = inr (subst (λ y. Reaches view y t) (sym e) (reached view q x h t w c))

pub from_start : (view : View) (n : ℕ) (x : Ident) → after_all [] (walked view n x) ≡ list_elements view n [] x
from_start view n x = after_none (walked view n x) ∙ sym (elements_walked view n [] x none_passed)
