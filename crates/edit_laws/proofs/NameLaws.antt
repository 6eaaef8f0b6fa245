-- Names that go on from another name.
use Rattle.std.proofs.Common.{◌≡◌, ℕ, nat_eq, Bool, true, false, not, if◌then◌else◌, List, [], ◌∷◌, ◌++◌, drop, length, refl, sym, ap, ap₂, ◌∙◌, append_assoc}
use Rattle.std.proofs.lemmas.Bool.{false≢true}
use Rattle.std.proofs.Math.Seq.{drop-append_seam}
use Rattle.oz_semantics.specs.Names.{is_below, is_properly_below, is_top, parent_of, child_name, is_child_of}
use Rattle.oz_semantics.specs.Edits.{moved}
use Rattle.oz_laws.proofs.SameLaws.{and-left, and-right, eq-true, eq-refl}
use Rattle.view_laws.proofs.Members.{and_both}
use Rattle.view_laws.proofs.NameLaws.{equal_names, properly_by}

pub cons_head : (m n : ℕ) (a b : List ℕ) → m ∷ a ≡ n ∷ b → m ≡ n
cons_head m n a b e = ap (λ xs. first_of m xs) e
  where
    first_of : ℕ → List ℕ → ℕ
    first_of d [] = d
    first_of d (x ∷ xs) = x

pub cons_tail : (m n : ℕ) (a b : List ℕ) → m ∷ a ≡ n ∷ b → a ≡ b
cons_tail m n a b e = ap (λ xs. drop 1 xs) e

pub append_cancel : (t a b : List ℕ) → t ++ a ≡ t ++ b → a ≡ b
append_cancel [] a b e = e
append_cancel (x ∷ t) a b e = append_cancel t a b (cons_tail x x (t ++ a) (t ++ b) e)

-- what a name goes on with
pub goes_on_from : (s u : List ℕ) → is_below s u ≡ true → u ≡ s ++ drop (length s) u
goes_on_from [] u e = refl
goes_on_from (a ∷ s) [] e = absurd (false≢true e)
goes_on_from (a ∷ s) (b ∷ u) e =
    ap₂ (λ m ms. m ∷ ms) (sym (eq-true a b (and-left (nat_eq a b) (is_below s u) e))) (goes_on_from s u (and-right (nat_eq a b) (is_below s u) e))

pub below_front : (s u : List ℕ) → is_below s (s ++ u) ≡ true
below_front [] u = refl
below_front (a ∷ s) u = and_both _ _ (eq-refl a) (below_front s u)

pub longer : (s : List ℕ) (n : ℕ) (r : List ℕ) → s ≡ s ++ n ∷ r → ⊥
longer [] n r e = cc
longer (x ∷ s) n r e = longer s n r (cons_tail x x s (s ++ n ∷ r) e)

pub properly_front : (s : List ℕ) (n : ℕ) (q : List ℕ) → is_properly_below s (s ++ n ∷ q) ≡ true
properly_front s n q = properly_by s (s ++ n ∷ q) (below_front s (n ∷ q)) (longer s n q)

pub not_top_longer : (s : List ℕ) (n : ℕ) (q : List ℕ) → is_top (s ++ n ∷ q) ≡ false
not_top_longer [] n q = refl
not_top_longer (a ∷ s) n q = refl

pub not_above_top : (s : List ℕ) → is_below s [] ≡ true → s ≡ []
not_above_top [] e = refl
not_above_top (a ∷ s) e = absurd (false≢true e)

pub top_is : (s : List ℕ) → is_top s ≡ true → s ≡ []
top_is [] e = refl
top_is (a ∷ s) e = absurd (false≢true e)

pub parent_child : (s : List ℕ) (n : ℕ) → parent_of (child_name s n) ≡ s
parent_child [] n = refl
parent_child (a ∷ []) n = refl
parent_child (a ∷ b ∷ s) n = ap (λ u. a ∷ u) (parent_child (b ∷ s) n)

-- A name from its end

pub data Built : List ℕ → Type 0 where
  empty : {xs : List ℕ} → xs ≡ [] → Built xs
  more : {xs front : List ℕ} (last : ℕ) → xs ≡ front ++ last ∷ [] → Built front → Built xs

built_cons : (x : ℕ) (xs : List ℕ) → Built xs → Built (x ∷ xs)
built_cons x xs (empty e) = more {front = []} x (ap (λ u. x ∷ u) e) (empty refl)
built_cons x xs (more {front = front} last e b) = more {front = x ∷ front} last (ap (λ u. x ∷ u) e) (built_cons x front b)

pub built : (xs : List ℕ) → Built xs
built [] = empty refl
built (x ∷ xs) = built_cons x xs (built xs)

-- a child's name, with its number
pub child_of : (p c : List ℕ) → is_child_of p c ≡ true → (n : ℕ) × (c ≡ child_name p n)
child_of p c e = by (built c)
  where
    same : parent_of c ≡ p
    same = equal_names (parent_of c) p (and-right (not (is_top c)) _ e)

    by : Built c → (n : ℕ) × (c ≡ child_name p n)
    by (empty k) = absurd (false≢true (sym (ap (λ u. not (is_top u)) k) ∙ and-left _ _ e))
    by (more {front = front} last k b) = (last, k ∙ ap (λ u. u ++ last ∷ []) (sym (parent_child front last) ∙ sym (ap parent_of k) ∙ same))

-- a name that goes on from the one that gives way
pub moved_front : (from to u : List ℕ) → moved from to (from ++ u) ≡ to ++ u
moved_front from to u =
    ap (λ (b : Bool). if b then to ++ drop (length from) (from ++ u) else from ++ u) (below_front from u)
    ∙ ap (λ v. to ++ v) (drop-append_seam from u)

-- the child of a name that goes on
pub child_front : (s u : List ℕ) (n : ℕ) → child_name (s ++ u) n ≡ s ++ (u ++ n ∷ [])
child_front s u n = append_assoc s u (n ∷ [])
