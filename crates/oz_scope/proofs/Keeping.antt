-- The fault that is kept decides.
use Rattle.std.proofs.Common.{◌≡◌, ℕ, ◌<◌, ◌+◌, ◌&&◌, ◌||◌, ◌==◌, nat_lt, Bool, true, false, if◌then◌else◌, List, [], ◌∷◌, ◌++◌, Option, Some, None, refl, ap, sym, ◌∙◌, arith, length, drop, get_or, drop-cons, add-one}
use Rattle.std.proofs.Common.{Result, Ok, Err}
use Rattle.std.specs.Result.{OnOk}
use Rattle.std.proofs.lemmas.Bool.Decides.{nat_tests}
use Rattle.oz_language.specs.Grammar.{of_list}
use Rattle.oz_syntax.specs.declared.phrase.Phrase.{Phrase as Tree}
use Rattle.oz_syntax.specs.View.{view, views}
use Rattle.oz_language.specs.Refusals.{faults, faults_each, comes_before, is_unbound, sooner, first_of}
use Rattle.oz_language.specs.declared.fault.Fault.{Fault}
use Rattle.oz_scope.specs.Keeps.{keep, kept}

pub kept_append : (fs gs : List Fault) (found : Option Fault) → kept (fs ++ gs) found ≡ kept gs (kept fs found)
kept_append [] gs found = refl
kept_append (f ∷ fs) gs found = kept_append fs gs (keep f found)

-- the fault that decides of two, where there are
abbrev either : Option Fault → Option Fault → Option Fault
either None other = other
either (Some f) other = sooner f other

-- the order of faults: by place, and at one place what is unbound before what is not
abbrev before : ℕ → Bool → ℕ → Bool
before m u n = nat_lt m n || ((m == n) && u)

before_before : (l m n : ℕ) (u v : Bool) → before l u m ≡ true → before m v n ≡ true → before l u n ≡ true
before_before l m n true v p q = grind (arith, nat_tests)
before_before l m n false v p q = grind (arith, nat_tests)

not_before : (l m n : ℕ) (u v : Bool) → before l u m ≡ false → before m v n ≡ false → before l u n ≡ false
not_before l m n true v p q = grind (arith, nat_tests)
not_before l m n false v p q = grind (arith, nat_tests)

three : (f g h : Fault) → either (keep g (Some f)) (Some h) ≡ sooner f (sooner g (Some h))
three f g h = by (comes_before g f) (comes_before h g) refl refl
  where
    by : (a b : Bool) → comes_before g f ≡ a → comes_before h g ≡ b
        → either (if a then Some g else Some f) (Some h) ≡ sooner f (if b then Some h else Some g)
    by true true p q = rw (q, before_before h.at g.at f.at (is_unbound h) (is_unbound g) q p) refl
    by true false p q = rw (p, q) refl
    by false true p q = refl
    by false false p q = rw (p, not_before h.at g.at f.at (is_unbound h) (is_unbound g) q p) refl

keep_either : (g : Fault) (found rest : Option Fault) → either (keep g found) rest ≡ either found (sooner g rest)
keep_either g None rest = refl
keep_either g (Some f) None = by (comes_before g f)
  where
    by : (a : Bool) → either (if a then Some g else Some f) None ≡ (if a then Some g else Some f)
    by true = refl
    by false = refl
keep_either g (Some f) (Some h) = three f g h

kept_either : (fs : List Fault) (found : Option Fault) → kept fs found ≡ either found (first_of fs)
kept_either [] None = refl
kept_either [] (Some f) = refl
kept_either (f ∷ fs) found = kept_either fs (keep f found) ∙ keep_either f found (first_of fs)

pub kept_first : (fs : List Fault) → kept fs None ≡ first_of fs
kept_first fs = kept_either fs None

-- one part after the other, where the last may want memory
pub two_kept : {T E : Type 0} (r : Result T E) (fs gs : List Fault) (a b c : Option Fault) → b ≡ kept fs a → OnOk r (c ≡ kept gs b) → OnOk r (c ≡ kept (fs ++ gs) a)
two_kept (Ok x) fs gs a b c first second = second ∙ ap (kept gs) first ∙ sym (kept_append fs gs a)
two_kept (Err x) fs gs a b c first second = tt

pub three_kept : {T E : Type 0} (r : Result T E) (fs gs hs : List Fault) (a b c d : Option Fault) → b ≡ kept fs a → c ≡ kept gs b → OnOk r (d ≡ kept hs c)
    → OnOk r (d ≡ kept (fs ++ (gs ++ hs)) a)
three_kept r fs gs hs a b c d first second third = two_kept r fs (gs ++ hs) a b d first (two_kept r gs hs b c d second third)

-- one phrase of several
pub each_step : (scope : List ℕ) (ps : List Tree) (i : ℕ) (p : Tree) (a b : Option Fault) → i < length ps → p ≡ get_or ps i p → b ≡ kept (faults scope (view p)) a
    → kept (faults_each scope (of_list (views (drop (i + 1) ps)))) b ≡ kept (faults_each scope (of_list (views (drop i ps)))) a
each_step scope ps i p a b h at e =
    ap (kept (faults_each scope (of_list (views (drop (i + 1) ps))))) e
    ∙ sym (kept_append (faults scope (view p)) (faults_each scope (of_list (views (drop (i + 1) ps)))) a)
    ∙ ap (λ qs. kept (faults_each scope (of_list (views qs))) a) (ap (λ q. q ∷ drop (i + 1) ps) at ∙ sym (drop-cons ps i p h ∙ ap (λ n. get_or ps i p ∷ drop n ps) (sym (add-one i))))
