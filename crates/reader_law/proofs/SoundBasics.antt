-- What follows from good stacks at once, for the steps of the machine.
use Rattle.std.proofs.Common.{◌≡◌, ℕ, ℤ, arith, zero, suc, ◌+◌, List, [], ◌∷◌, ◌++◌, Option, Some, None, Bool, true, false, not, ◌&&◌, ◌||◌, nat_le, nat_lt, refl, sym, ap, ◌∙◌, subst}
use Rattle.std.proofs.lemmas.Bool.Decides.{nat_tests}
use Rattle.oz_language.specs.Grammar.{level_of_selection, tightest, Phrase, var, int, binary, select, tokens_of, is_small, is_small_int, is_reference, is_product, is_side_term, is_side, terms_in, terms_limit, term, stmt, decl}
use Rattle.oz_language.specs.declared.token.Operator.{Operator}
use Rattle.oz_language.specs.declared.token.Token.{Token}
use Rattle.oz_language.specs.declared.token.Operator.TheVariants.{Plus, Minus, Times}
use Rattle.reader_law.specs.Machine.{block, whole, left_of, barred, hashed, dotted, accessing, relating, fields, key, listing, enclosing, heading, heads, accepted, Stack, guard, may_state, Kind, side, kind_by, kind_of, had, takes_int, binds, allows, takes_factor, declares}
use Rattle.reader_law.proofs.Basics.{split, both, or_left}
use Rattle.reader_law.proofs.Good.{spelled, Says, Spot, Stands, is_kind_of_patterns, in_pattern, Expresses, Holds, Encloses, Makes, is_looser, is_factor, fits_side, fits_sign, FitsSign, GoodItems, Has, Under, Good, Leads, spot_stands, fits_kind, kind_pattern, looser_tightest}

-- ---- what flags say

pub told : (a : Bool) (P : Type 0) → Says a P → a ≡ true → P
told true P s h = s
told false P s h = absurd (cc)

pub says : (a : Bool) (P : Type 0) → (a ≡ true → P) → Says a P
says true P f = f refl
says false P f = tt

pub says_and : (a b : Bool) (P Q R : Type 0) → Says a P → Says b Q → (P → Q → R) → Says (a && b) R
says_and true true P Q R p q f = f p q
says_and true false P Q R p q f = tt
says_and false b P Q R p q f = tt

-- ---- leading on

pub leads_from : (k j : Stack) (ts us : List Token) (o : Option Stack) → spelled k ++ ts ≡ spelled j ++ us → Leads k ts o → Leads j us o
leads_from k j ts us None e l = tt
leads_from k j ts us (Some m) e l = (l.0 ∙ e, l.1)

pub guard_leads : (b : Bool) (k : Stack) (ts : List Token) (o : Option Stack) → (b ≡ true → Leads k ts o) → Leads k ts (guard b o)
guard_leads true k ts o f = f refl
guard_leads false k ts o f = tt

pub fresh_items : GoodItems true true [] []
fresh_items = ((tt, refl), refl, refl, refl)

-- ---- kinds

pub no_side : (w : Bool) → side ≡ kind_by w → ⊥
no_side true h = absurd (cc)
no_side false h = absurd (cc)

-- what a phrase is where it stands
pub term_in : (w : Bool) (m : ℕ) (p : Phrase) (c : Kind) → c ≡ kind_by w → term w m p ≡ true → term (is_kind_of_patterns c) m p ≡ true
term_in w m p c h t = subst (λ v. term v m p ≡ true) (sym (kind_pattern w c h)) t

pub term_of : (w : Bool) (m : ℕ) (p : Phrase) (c : Kind) → c ≡ kind_by w → term (is_kind_of_patterns c) m p ≡ true → term w m p ≡ true
term_of w m p c h t = subst (λ v. term v m p ≡ true) (kind_pattern w c h) t

-- an operator may stand where an expression may
pub stands_spot : (d s e : Bool) (m : ℕ) (k : Stack) → Stands d s e k → allows m k ≡ true → Spot k
stands_spot d s e m (block o bd bs ds ps ∷ k) h i = i
stands_spot d s e m [] h i = h
stands_spot d s e m (whole p s' e' ∷ k) h i = h
stands_spot d s e m (dotted a ∷ k) h i = h
stands_spot d s e m (accessing at ∷ k) h i = h
stands_spot d s e m (heading m' ∷ k) h i = h
stands_spot d s e m (heads m' at hs ∷ k) h i = h
stands_spot d s e m (accepted p ∷ k) h i = h
stands_spot d s e m (f ∷ k) h i = tt

-- an expression may stand where a statement may
pub state_expresses : (k : Stack) → may_state k ≡ true → Expresses k
state_expresses (block o d s ds ps ∷ k) h = (h, refl)
state_expresses [] h = absurd (cc)
state_expresses (f ∷ k) h = absurd (cc)

pub holds_encloses : (w : Bool) (k : Stack) → Holds w k → Encloses w k
holds_encloses w (dotted a ∷ k) h = elim h.0 [ ]
holds_encloses w (accessing at ∷ k) h = elim h.0 [ ]
holds_encloses w [] h = h
holds_encloses w (f ∷ k) h = h

pub expresses_makes : (k : Stack) → Expresses k → Makes k
expresses_makes (block o d s ds ps ∷ k) h = tt
expresses_makes [] h = h
expresses_makes (f ∷ k) h = h

-- ---- phrases that end

pub had_leads : (p : Phrase) (s e : Bool) (k j : Stack) (ts : List Token) → spelled k ++ tokens_of p ≡ spelled j ++ ts → Has p s e k → nat_le level_of_selection (binds p) ≡ true → Under k → Leads j ts (Some (had p s e k))
had_leads p s e (dotted a ∷ k) j ts q h b u = elim h.3 [ ]
had_leads p s e (accessing at ∷ k) j ts q h b u = elim h.3 [ ]
had_leads p s e [] j ts q h b u = elim h.3 [ ]
had_leads p s e (f ∷ k) j ts q h b u = (q, ((h, b), u))

-- what binds as tightly as possible stands where its flags allow
pub has_tight : (w : Bool) (p : Phrase) (s e : Bool) (k : Stack) → kind_of k ≡ kind_by w → Says s (stmt p ≡ true) → (e ≡ true → term w zero p ≡ true) → Says (declares p) (decl p ≡ true) → Stands (declares p) s e k → binds p ≡ tightest → Has p s e k
has_tight w p s e k h i t d q b = (
  i,
  says e (term (in_pattern k) zero p ≡ true) (λ x. term_in w zero p (kind_of k) h (t x)),
  d,
  q,
  subst (λ n. is_looser n k ≡ true) (sym b) (looser_tightest k),
  fits_kind w (kind_of k) p k h,
)

pub tight_leads : (w : Bool) (p : Phrase) (s e : Bool) (k j : Stack) (ts : List Token) → spelled k ++ tokens_of p ≡ spelled j ++ ts → kind_of k ≡ kind_by w → Says s (stmt p ≡ true) → (e ≡ true → term w zero p ≡ true) → Says (declares p) (decl p ≡ true) → Stands (declares p) s e k → binds p ≡ tightest → Under k
    → Leads j ts (Some (had p s e k))
tight_leads w p s e k j ts q h i t d x b u = had_leads p s e k j ts q (has_tight w p s e k h i t d x b) (ap (nat_le level_of_selection) b) u

-- a value
pub value_leads : (w : Bool) (p : Phrase) (s : Bool) (k j : Stack) (ts : List Token) → spelled k ++ tokens_of p ≡ spelled j ++ ts → Holds w k → Says s (stmt p ≡ true) → term w zero p ≡ true → Says (declares p) (decl p ≡ true) → binds p ≡ tightest → Under k
    → Leads j ts (Some (had p s true k))
value_leads w p s k j ts q h i t d b u = tight_leads w p s true k j ts q h.1 i (λ x. t) d (spot_stands (declares p) s k h.0) b u

-- ---- the right side of a relation

-- what is open there is an operator of it, or its sign
abbrev pub InSide : Stack → Type 0
InSide (left_of op a ∷ k) = fits_sign op a k ≡ true
InSide (relating r a ∷ k) = nat_lt (terms_in a) terms_limit ≡ true
InSide k = ⊥

pub in_side : (k : Stack) → Under k → side ≡ kind_of k → InSide k
in_side (left_of op a ∷ k) u h = subst (λ c. FitsSign c op a k) (sym h) u.0.2
in_side (relating r a ∷ k) u h = u.0.2
in_side (barred es ∷ k) u h = absurd (no_side (in_pattern k) (h ∙ u.0.3))
in_side (hashed es ∷ k) u h = absurd (no_side (in_pattern k) (h ∙ u.0.3))
in_side (fields w l at fs ∷ k) u h = absurd (no_side w h)
in_side (key w c place ∷ k) u h = absurd (no_side w h)
in_side (listing w at es ∷ k) u h = absurd (no_side w h)
in_side (enclosing w at ∷ k) u h = absurd (no_side w h)
in_side [] u h = absurd (cc)
in_side (f ∷ k) u h = absurd (cc)

-- one more term
pub one_term : (n : ℕ) → nat_lt n terms_limit ≡ true → nat_le (n + 1) terms_limit ≡ true
one_term n h = grind (arith, nat_tests, h)

pub next_term : (n m : ℕ) → nat_lt (n + m) terms_limit ≡ true → nat_le (n + suc m) terms_limit ≡ true
next_term n m h = grind (arith, nat_tests, h)

product_var : (x y : Bool) → x || y ≡ true → (x && true) || (y && true) ≡ true
product_var true y h = refl
product_var false true h = refl
product_var false false h = absurd (cc)

pub fits_var : (name at : ℕ) (k : Stack) → InSide k → fits_side (var name at) k ≡ true
fits_var name at (left_of Times a ∷ k) h = let i = split (is_factor a) (takes_factor k) h in product_var (is_small_int a) (is_reference a) i.fst
fits_var name at (left_of op a ∷ k) h = refl
fits_var name at (relating r a ∷ k) h = one_term (terms_in a) h
fits_var name at [] h = elim h [ ]
fits_var name at (f ∷ k) h = elim h [ ]

product_int : (x y z : Bool) → x || y ≡ true → z && not x ≡ true → (x && false) || (y && (z || false)) ≡ true
product_int true y true h i = absurd (cc)
product_int false true true h i = refl
product_int false false z h i = absurd (cc)
product_int x y false h i = absurd (cc)

pub fits_int : (i : ℤ) (at : ℕ) (k : Stack) → InSide k → is_small i && takes_int k ≡ true → fits_side (int i at) k ≡ true
fits_int i at (left_of Times a ∷ k) h t = let j = split (is_factor a) (takes_factor k) h in product_int (is_small_int a) (is_reference a) (is_small i) j.fst t
fits_int i at (left_of op a ∷ k) h t = let j = split (is_small i) true t in or_left (is_small i) false j.fst
fits_int i at (relating r a ∷ k) h t =
    let j = split (is_small i) true t in
    both (is_small i || false) (nat_le (terms_in a + 1) terms_limit) (or_left (is_small i) false j.fst) (one_term (terms_in a) h)
fits_int i at [] h t = elim h [ ]
fits_int i at (f ∷ k) h t = elim h [ ]

-- what is selected from a reference stands where it stands
select_var : (name at : ℕ) (p : Phrase) (k : Stack) → fits_side (var name at) k ≡ true → fits_side (select (var name at) p) k ≡ true
select_var name at p (left_of Times a ∷ k) h = h
select_var name at p (left_of op a ∷ k) h = refl
select_var name at p (relating r a ∷ k) h = h
select_var name at p [] h = h
select_var name at p (f ∷ k) h = h

select_again : (a q p : Phrase) (k : Stack) → fits_side (select a q) k ≡ true → fits_side (select (select a q) p) k ≡ true
select_again a q p (left_of Times b ∷ k) h = h
select_again a q p (left_of op b ∷ k) h = h
select_again a q p (relating r b ∷ k) h = h
select_again a q p [] h = h
select_again a q p (f ∷ k) h = h

pub fits_select : (a p : Phrase) (k : Stack) → is_reference a ≡ true → fits_side a k ≡ true → fits_side (select a p) k ≡ true
fits_select (var name at) p k i h = select_var name at p k h
fits_select (select a q) p k i h = select_again a q p k h
fits_select a p k i h = absurd (cc)

-- a sum and a product stand where their operator stands
fits_sum : (a b p : Phrase) → is_side a && nat_lt (terms_in b + terms_in a) terms_limit ≡ true → is_side_term p ≡ true → (is_side a && is_side_term p) && nat_le (terms_in b + suc (terms_in a)) terms_limit ≡ true
fits_sum a b p h i =
    let j = split (is_side a) (nat_lt (terms_in b + terms_in a) terms_limit) h in
    both (is_side a && is_side_term p) (nat_le (terms_in b + suc (terms_in a)) terms_limit) (both (is_side a) (is_side_term p) j.fst i) (next_term (terms_in b) (terms_in a) j.snd)

fits_product : (a p : Phrase) (k : Stack) → is_factor a && takes_factor k ≡ true → is_product a p ≡ true → InSide k → fits_side (binary Times a p) k ≡ true
fits_product a p (left_of Times b ∷ k) h i s = let j = split (is_factor a) false h in absurd (cc (j.snd))
fits_product a p (left_of op b ∷ k) h i s = i
fits_product a p (relating r b ∷ k) h i s = both (is_product a p) (nat_le (terms_in b + 1) terms_limit) i (one_term (terms_in b) s)
fits_product a p [] h i s = elim s [ ]
fits_product a p (f ∷ k) h i s = elim s [ ]

pub fits_binary : (op : Operator) (a p : Phrase) (k : Stack) → fits_sign op a k ≡ true → fits_side p (left_of op a ∷ k) ≡ true → InSide k → fits_side (binary op a p) k ≡ true
fits_binary Plus a p (relating r b ∷ k) h i s = fits_sum a b p h i
fits_binary Minus a p (relating r b ∷ k) h i s = fits_sum a b p h i
fits_binary Plus a p [] h i s = absurd (cc)
fits_binary Plus a p (f ∷ k) h i s = absurd (cc)
fits_binary Minus a p [] h i s = absurd (cc)
fits_binary Minus a p (f ∷ k) h i s = absurd (cc)
fits_binary Times a p k h i s = fits_product a p k h i s
fits_binary op a p k h i s = absurd (cc)

-- ---- what is under a good stack

pub under_good : (k : Stack) → Good k → Under k
under_good [] g = tt
under_good (f ∷ k) g = g
