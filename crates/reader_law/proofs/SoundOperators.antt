-- An operator behind a phrase spells its token, and leaves what is open good.
use Rattle.std.proofs.Common.{◌≡◌, ℕ, arith, zero, suc, ◌+◌, [], ◌∷◌, ◌++◌, Some, Bool, true, false, ◌&&◌, nat_le, nat_lt, refl, sym, ap, ◌∙◌, subst, append_assoc}
use Rattle.std.proofs.lemmas.Bool.{leb-true, le-leb}
use Rattle.std.proofs.Math.Nat.{le_trans}
use Rattle.std.proofs.lemmas.Bool.Decides.{nat_tests}
use Rattle.oz_language.specs.Grammar.{level_of, left_level, level_of_bars, level_of_hashes, level_of_selection, Phrase, binary, tokens_of, is_reference, is_side_term, is_side, terms_in, terms_limit, term}
use Rattle.oz_language.specs.declared.token.Operator.{Operator}
use Rattle.oz_language.specs.declared.token.Comparison.{Comparison}
use Rattle.oz_language.specs.declared.token.Token.{Token}
use Rattle.oz_language.specs.declared.token.Token.TheVariants.{Bar, Hash, Dot, Infix}
use Rattle.oz_language.specs.declared.token.Operator.TheVariants.{OrElse, AndThen, Plus, Minus, Times, Div, Mod}
use Rattle.oz_language.specs.declared.token.Connective.TheVariants.{Equates, Assigns, Bounds, BoundsEach}
use Rattle.reader_law.specs.Machine.{whole, left_of, barred, hashed, dotted, connecting, relating, Stack, guard, Kind, expression, pattern, side, kind_by, kind_of, binds, Reduced, reduce, allows, add_bar, shift_bar, add_hash, shift_hash, shift_expression, shift_pattern, add_term, shift_sign, takes_factor, shift_side, shift_in, declares}
use Rattle.reader_law.proofs.Basics.{split, both, some_snoc, trailed_snoc, term_at, terms_snoc}
use Rattle.reader_law.proofs.Good.{spelled, is_kind_of_patterns, in_pattern, is_looser, is_factor, fits_side, fits_sign, Fits, FitsSign, Selects, Has, Waits, Under, Good, Leads, kind_pattern}
use Rattle.reader_law.proofs.SoundBasics.{leads_from, guard_leads, term_of, stands_spot, InSide, in_side}
use Rattle.reader_law.proofs.SoundTerms.{Stopped, Reduces, reduces}

-- ---- levels

-- each operator binds looser than a selection
level_selection : (op : Operator) → nat_le (level_of op) level_of_selection ≡ true
level_selection OrElse = refl
level_selection AndThen = refl
level_selection Plus = refl
level_selection Minus = refl
level_selection Times = refl
level_selection Div = refl
level_selection Mod = refl
level_selection op = refl

below_selection : (op : Operator) → nat_lt (level_of op) level_of_selection ≡ true
below_selection OrElse = refl
below_selection AndThen = refl
below_selection Plus = refl
below_selection Minus = refl
below_selection Times = refl
below_selection Div = refl
below_selection Mod = refl
below_selection op = refl

pub at_least : (m n : ℕ) → nat_le m level_of_selection ≡ true → nat_le level_of_selection n ≡ true → nat_le m n ≡ true
at_least m n h i = le-leb m n (le_trans (leb-true m level_of_selection h) (leb-true level_of_selection n i))

not_below : (m n : ℕ) → nat_le m n ≡ false → nat_lt n m ≡ true
not_below m n h = grind (arith, nat_tests, h)

-- where nothing waits that binds as tightly, and an operator may stand, what waits binds looser
stopped_looser : (m : ℕ) (k : Stack) → Stopped m k → allows m k ≡ true → is_looser m k ≡ true
stopped_looser m (left_of op a ∷ k) h i = not_below m (level_of op) h
stopped_looser m (barred es ∷ k) h i = not_below m level_of_bars h
stopped_looser m (hashed es ∷ k) h i = not_below m level_of_hashes h
stopped_looser m (connecting c a ∷ k) h i = i
stopped_looser m [] h i = refl
stopped_looser m (f ∷ k) h i = refl

-- so does each that waits
looser_selection : (k : Stack) → is_looser level_of_selection k ≡ true
looser_selection (left_of op a ∷ k) = below_selection op
looser_selection (barred es ∷ k) = refl
looser_selection (hashed es ∷ k) = refl
looser_selection (connecting Equates a ∷ k) = refl
looser_selection (connecting Assigns a ∷ k) = refl
looser_selection (connecting Bounds a ∷ k) = refl
looser_selection (connecting BoundsEach a ∷ k) = refl
looser_selection [] = refl
looser_selection (f ∷ k) = refl

-- no operator binds as `|` or as `#`
operator_bars : (op : Operator) → nat_le level_of_hashes (level_of op) ≡ false → nat_lt (level_of op) level_of_bars ≡ true
operator_bars OrElse h = refl
operator_bars AndThen h = refl
operator_bars Plus h = absurd (cc)
operator_bars Minus h = absurd (cc)
operator_bars Times h = absurd (cc)
operator_bars Div h = absurd (cc)
operator_bars Mod h = absurd (cc)
operator_bars op h = refl

operator_hashes : (op : Operator) → nat_le (suc level_of_hashes) (level_of op) ≡ false → nat_lt (level_of op) level_of_hashes ≡ true
operator_hashes OrElse h = refl
operator_hashes AndThen h = refl
operator_hashes Plus h = absurd (cc)
operator_hashes Minus h = absurd (cc)
operator_hashes Times h = absurd (cc)
operator_hashes Div h = absurd (cc)
operator_hashes Mod h = absurd (cc)
operator_hashes op h = refl

-- ---- operators of expressions

fits_expression : (c : Kind) (op : Operator) (a : Phrase) (k : Stack) → c ≡ expression → FitsSign c op a k
fits_expression expression op a k h = tt
fits_expression pattern op a k h = absurd (cc)
fits_expression side op a k h = absurd (cc)

-- an operator with two sides, behind what has ended
infix_from : (op : Operator) (p : Phrase) (s : Bool) (k : Stack) (r : Reduced) → Reduces (level_of op) p true k r → kind_of k ≡ expression
    → Leads (whole p s true ∷ k) (Infix op ∷ []) (guard (nat_le (left_level op) (binds r.phrase) && allows (level_of op) r.rest) (Some (left_of op r.phrase ∷ r.rest)))
infix_from op p s k r h i =
    guard_leads (nat_le (left_level op) (binds r.phrase) && allows (level_of op) r.rest) (whole p s true ∷ k) (Infix op ∷ []) (Some (left_of op r.phrase ∷ r.rest)) (λ q.
    let j = split (nat_le (left_level op) (binds r.phrase)) (allows (level_of op) r.rest) q in
    let e : kind_of r.rest ≡ expression = h.kind ∙ i in (
      sym (append_assoc (spelled r.rest) (tokens_of r.phrase) (Infix op ∷ [])) ∙ ap (λ ts. ts ++ Infix op ∷ []) h.same,
      (
        (
          term_at false (left_level op) r.phrase (term_of false zero r.phrase (kind_of r.rest) e h.has.1) j.fst,
          (stands_spot (declares r.phrase) r.states true (level_of op) r.rest h.has.3 j.snd, stopped_looser (level_of op) r.rest h.stopped j.snd, j.snd),
          fits_expression (kind_of r.rest) op r.phrase r.rest e,
        ),
        h.under,
      ),
    ))

-- ---- chains

abbrev is_barred : Stack → Bool
is_barred (barred es ∷ k) = true
is_barred k = false

abbrev is_hashed : Stack → Bool
is_hashed (hashed es ∷ k) = true
is_hashed k = false

bars_looser : (k : Stack) → is_barred k ≡ false → Stopped level_of_hashes k → allows level_of_bars k ≡ true → is_looser level_of_bars k ≡ true
bars_looser (left_of op a ∷ k) n h i = operator_bars op h
bars_looser (barred es ∷ k) n h i = absurd (cc)
bars_looser (hashed es ∷ k) n h i = absurd (cc)
bars_looser (connecting c a ∷ k) n h i = i
bars_looser [] n h i = refl
bars_looser (f ∷ k) n h i = refl

hashes_looser : (k : Stack) → is_hashed k ≡ false → Stopped (suc level_of_hashes) k → allows level_of_hashes k ≡ true → is_looser level_of_hashes k ≡ true
hashes_looser (left_of op a ∷ k) n h i = operator_hashes op h
hashes_looser (barred es ∷ k) n h i = refl
hashes_looser (hashed es ∷ k) n h i = absurd (cc)
hashes_looser (connecting c a ∷ k) n h i = i
hashes_looser [] n h i = refl
hashes_looser (f ∷ k) n h i = refl

kind_again : (w : Bool) (c : Kind) → c ≡ kind_by w → c ≡ kind_by (is_kind_of_patterns c)
kind_again w c h = h ∙ ap kind_by (sym (kind_pattern w c h))

-- a chain begins
first_bar : (w : Bool) (p : Phrase) (s : Bool) (k : Stack) → is_barred k ≡ false → Has p s true k → Under k → kind_of k ≡ kind_by w → nat_le level_of_hashes (binds p) ≡ true → Stopped level_of_hashes k
    → Leads (whole p s true ∷ k) (Bar ∷ []) (guard (allows level_of_bars k) (Some (barred (p ∷ []) ∷ k)))
first_bar w p s k n h u c b o =
    guard_leads (allows level_of_bars k) (whole p s true ∷ k) (Bar ∷ []) (Some (barred (p ∷ []) ∷ k)) (λ q. (
      simp append_assoc,
      (
        (
          refl,
          both (term (in_pattern k) level_of_hashes p) true (term_at (in_pattern k) level_of_hashes p h.1 b) refl,
          (stands_spot (declares p) s true level_of_bars k h.3 q, bars_looser k n o q, q),
          kind_again w (kind_of k) c,
        ),
        u,
      ),
    ))

-- a chain goes on, or begins
bar_leads : (w : Bool) (p : Phrase) (s : Bool) (k : Stack) → Has p s true k → Under k → kind_of k ≡ kind_by w → nat_le level_of_hashes (binds p) ≡ true → Stopped level_of_hashes k → Leads (whole p s true ∷ k) (Bar ∷ []) (add_bar p k)
bar_leads w p s (barred es ∷ k) h u c b o = (
  ap (λ ts. spelled k ++ ts) (trailed_snoc Bar es p) ∙ simp append_assoc,
  ((some_snoc es p, terms_snoc (in_pattern k) level_of_hashes es p u.0.1 (term_at (in_pattern k) level_of_hashes p h.1 b), u.0.2, u.0.3), u.1),
)
bar_leads w p s [] h u c b o = elim h.3 [ ]
bar_leads w p s (f ∷ k) h u c b o = first_bar w p s (f ∷ k) refl h u c b o

-- the same of `#`
first_hash : (w : Bool) (p : Phrase) (s : Bool) (k : Stack) → is_hashed k ≡ false → Has p s true k → Under k → kind_of k ≡ kind_by w → nat_le (suc level_of_hashes) (binds p) ≡ true → Stopped (suc level_of_hashes) k
    → Leads (whole p s true ∷ k) (Hash ∷ []) (guard (allows level_of_hashes k) (Some (hashed (p ∷ []) ∷ k)))
first_hash w p s k n h u c b o =
    guard_leads (allows level_of_hashes k) (whole p s true ∷ k) (Hash ∷ []) (Some (hashed (p ∷ []) ∷ k)) (λ q. (
      simp append_assoc,
      (
        (
          refl,
          both (term (in_pattern k) (suc level_of_hashes) p) true (term_at (in_pattern k) (suc level_of_hashes) p h.1 b) refl,
          (stands_spot (declares p) s true level_of_hashes k h.3 q, hashes_looser k n o q, q),
          kind_again w (kind_of k) c,
        ),
        u,
      ),
    ))

hash_leads : (w : Bool) (p : Phrase) (s : Bool) (k : Stack) → Has p s true k → Under k → kind_of k ≡ kind_by w → nat_le (suc level_of_hashes) (binds p) ≡ true → Stopped (suc level_of_hashes) k → Leads (whole p s true ∷ k) (Hash ∷ []) (add_hash p k)
hash_leads w p s (hashed es ∷ k) h u c b o = (
  ap (λ ts. spelled k ++ ts) (trailed_snoc Hash es p) ∙ simp append_assoc,
  ((some_snoc es p, terms_snoc (in_pattern k) (suc level_of_hashes) es p u.0.1 (term_at (in_pattern k) (suc level_of_hashes) p h.1 b), u.0.2, u.0.3), u.1),
)
hash_leads w p s [] h u c b o = elim h.3 [ ]
hash_leads w p s (f ∷ k) h u c b o = first_hash w p s (f ∷ k) refl h u c b o

shift_bar_leads : (w : Bool) (p : Phrase) (s : Bool) (k : Stack) → Good (whole p s true ∷ k) → kind_of k ≡ kind_by w → Leads (whole p s true ∷ k) (Bar ∷ []) (shift_bar p s k)
shift_bar_leads w p s k g c =
    let h = reduces level_of_hashes p s true k g.0.0 g.1 (at_least level_of_hashes (binds p) refl g.0.1) in
    let r = reduce level_of_hashes p s k in
    leads_from (whole r.phrase r.states true ∷ r.rest) (whole p s true ∷ k) (Bar ∷ []) (Bar ∷ []) (add_bar r.phrase r.rest) (ap (λ ts. ts ++ Bar ∷ []) h.same)
    (bar_leads w r.phrase r.states r.rest h.has h.under (h.kind ∙ c) h.tight h.stopped)

shift_hash_leads : (w : Bool) (p : Phrase) (s : Bool) (k : Stack) → Good (whole p s true ∷ k) → kind_of k ≡ kind_by w → Leads (whole p s true ∷ k) (Hash ∷ []) (shift_hash p s k)
shift_hash_leads w p s k g c =
    let h = reduces (suc level_of_hashes) p s true k g.0.0 g.1 (at_least (suc level_of_hashes) (binds p) refl g.0.1) in
    let r = reduce (suc level_of_hashes) p s k in
    leads_from (whole r.phrase r.states true ∷ r.rest) (whole p s true ∷ k) (Hash ∷ []) (Hash ∷ []) (add_hash r.phrase r.rest) (ap (λ ts. ts ++ Hash ∷ []) h.same)
    (hash_leads w r.phrase r.states r.rest h.has h.under (h.kind ∙ c) h.tight h.stopped)

-- ---- selections

-- `.` behind an expression
dot_leads : (c : Kind) (p : Phrase) (s : Bool) (k : Stack) → Good (whole p s true ∷ k) → kind_of k ≡ c → is_kind_of_patterns c ≡ false → allows level_of_selection k ≡ true → Selects c p → Leads (whole p s true ∷ k) (Dot ∷ []) (Some (dotted p ∷ k))
dot_leads c p s k g i n a f = (
  simp append_assoc,
  (
    (
      term_at false level_of_selection p (subst (λ v. term v zero p ≡ true) (ap is_kind_of_patterns i ∙ n) g.0.0.1) g.0.1,
      (stands_spot (declares p) s true level_of_selection k g.0.0.3 a, looser_selection k, a),
      g.0.0.5,
      subst (λ d. Selects d p) (sym i) f,
    ),
    g.1,
  ),
)

expression_shifts : (t : Token) (p : Phrase) (s : Bool) (k : Stack) → Good (whole p s true ∷ k) → kind_of k ≡ expression → Leads (whole p s true ∷ k) (t ∷ []) (shift_expression t p s k)
expression_shifts (Infix op) p s k g c = infix_from op p s k (reduce (level_of op) p s k) (reduces (level_of op) p s true k g.0.0 g.1 (at_least (level_of op) (binds p) (level_selection op) g.0.1)) c
expression_shifts Bar p s k g c = shift_bar_leads false p s k g c
expression_shifts Hash p s k g c = shift_hash_leads false p s k g c
expression_shifts Dot p s k g c = guard_leads (allows level_of_selection k) (whole p s true ∷ k) (Dot ∷ []) (Some (dotted p ∷ k)) (λ a. dot_leads expression p s k g c refl a tt)
expression_shifts t p s k g c = tt

pattern_shifts : (t : Token) (p : Phrase) (s : Bool) (k : Stack) → Good (whole p s true ∷ k) → kind_of k ≡ pattern → Leads (whole p s true ∷ k) (t ∷ []) (shift_pattern t p s k)
pattern_shifts Bar p s k g c = shift_bar_leads true p s k g c
pattern_shifts Hash p s k g c = shift_hash_leads true p s k g c
pattern_shifts t p s k g c = tt

-- ---- the right side of a relation

fits_at : (c : Kind) (p : Phrase) (k : Stack) → c ≡ side → Fits c p k → fits_side p k ≡ true
fits_at c p k h f = subst (λ d. Fits d p k) h f

-- `+` and `-`
abbrev is_sum : Operator → Bool
is_sum Plus = true
is_sum Minus = true
is_sum op = false

sum_level : (op : Operator) → is_sum op ≡ true → level_of Plus ≡ left_level op
sum_level Plus h = refl
sum_level Minus h = refl
sum_level op h = absurd (cc)

sum_sign : (op : Operator) (p : Phrase) (r : Comparison) (b : Phrase) (k : Stack) → is_sum op ≡ true → is_side p && nat_lt (terms_in b + terms_in p) terms_limit ≡ true → fits_sign op p (relating r b ∷ k) ≡ true
sum_sign Plus p r b k h i = i
sum_sign Minus p r b k h i = i
sum_sign op p r b k h i = absurd (cc)

sum_looser : (op : Operator) (r : Comparison) (b : Phrase) (k : Stack) → Waits (level_of op) (relating r b ∷ k)
sum_looser op r b k = (tt, refl, refl)

-- a further term
term_leads : (op : Operator) (p : Phrase) (s : Bool) (k : Stack) → is_sum op ≡ true → Has p s true k → Under k → nat_le (level_of Plus) (binds p) ≡ true → Leads (whole p s true ∷ k) (Infix op ∷ []) (add_term op p k)
term_leads op p s (relating r a ∷ k) i h u b =
    guard_leads (nat_lt (terms_in a + terms_in p) terms_limit) (whole p s true ∷ relating r a ∷ k) (Infix op ∷ []) (Some (left_of op p ∷ relating r a ∷ k)) (λ q.
    let j = split (is_side p) (nat_le (terms_in a + terms_in p) terms_limit) h.5 in (
      simp append_assoc,
      (
        (
          subst (λ n. term false n p ≡ true) (sum_level op i) (term_at false (level_of Plus) p h.1 b),
          sum_looser op r a k,
          sum_sign op p r a k i (both (is_side p) (nat_lt (terms_in a + terms_in p) terms_limit) j.fst q),
        ),
        u,
      ),
    ))
term_leads op p s [] i h u b = tt
term_leads op p s (f ∷ k) i h u b = tt

sign_leads : (op : Operator) (p : Phrase) (s : Bool) (k : Stack) → is_sum op ≡ true → Good (whole p s true ∷ k) → Leads (whole p s true ∷ k) (Infix op ∷ []) (shift_sign op p s k)
sign_leads op p s k i g =
    let h = reduces (level_of Plus) p s true k g.0.0 g.1 (at_least (level_of Plus) (binds p) refl g.0.1) in
    let r = reduce (level_of Plus) p s k in
    leads_from (whole r.phrase r.states true ∷ r.rest) (whole p s true ∷ k) (Infix op ∷ []) (Infix op ∷ []) (add_term op r.phrase r.rest) (ap (λ ts. ts ++ Infix op ∷ []) h.same)
    (term_leads op r.phrase r.states r.rest i h.has h.under h.tight)

-- no operator binds as tightly as a selection
tight_operator : (op : Operator) → nat_le level_of_selection (level_of op) ≡ true → ⊥
tight_operator OrElse h = absurd (cc)
tight_operator AndThen h = absurd (cc)
tight_operator Plus h = absurd (cc)
tight_operator Minus h = absurd (cc)
tight_operator Times h = absurd (cc)
tight_operator Div h = absurd (cc)
tight_operator Mod h = absurd (cc)
tight_operator op h = absurd (cc)

-- a term that binds tightly is a factor
term_factor : (p : Phrase) → nat_le level_of_selection (binds p) ≡ true → is_side_term p ≡ true → is_factor p ≡ true
term_factor (binary op a b) h i = absurd (tight_operator op h)
term_factor p h i = i

side_factor : (p : Phrase) → nat_le level_of_selection (binds p) ≡ true → is_side p ≡ true → is_factor p ≡ true
side_factor (binary op a b) h i = absurd (tight_operator op h)
side_factor p h i = i

-- a product stands behind `+`, behind `-` or alone
other_sign : (op : Operator) (a : Phrase) (k : Stack) → is_sum op ≡ false → takes_factor (left_of op a ∷ k) ≡ true → fits_sign op a k ≡ true → ⊥
other_sign Plus a k n t h = absurd (cc)
other_sign Minus a k n t h = absurd (cc)
other_sign Times a k n t h = absurd (cc)
other_sign op a k n t h = absurd (cc)

-- what stands on the left of `*`
times_waits : (p : Phrase) (s : Bool) (k : Stack) → Has p s true k → Under k → kind_of k ≡ side → nat_le level_of_selection (binds p) ≡ true → takes_factor k ≡ true → Waits (level_of Times) k × (is_factor p ≡ true)
times_waits p s (relating r a ∷ k) h u c b t = ((tt, refl, refl), side_factor p b (let j = split (is_side p) (nat_le (terms_in a + terms_in p) terms_limit) h.5 in j.fst))
times_waits p s (left_of Plus a ∷ k) h u c b t = ((tt, refl, refl), term_factor p b (fits_at (kind_of k) p (left_of Plus a ∷ k) c h.5))
times_waits p s (left_of Minus a ∷ k) h u c b t = ((tt, refl, refl), term_factor p b (fits_at (kind_of k) p (left_of Minus a ∷ k) c h.5))
times_waits p s (left_of op a ∷ k) h u c b t = absurd (other_sign op a k refl t (in_side (left_of op a ∷ k) u (sym c)))
times_waits p s [] h u c b t = elim h.3 [ ]
times_waits p s (f ∷ k) h u c b t = elim (in_side (f ∷ k) u (sym c)) [ ]

-- `*` behind a factor
times_leads : (p : Phrase) (s : Bool) (k : Stack) → Good (whole p s true ∷ k) → kind_of k ≡ side → takes_factor k ≡ true → Leads (whole p s true ∷ k) (Infix Times ∷ []) (Some (left_of Times p ∷ k))
times_leads p s k g c t =
    let w = times_waits p s k g.0.0 g.1 c g.0.1 t in (
      simp append_assoc,
      (
        (
          term_at false (level_of Times) p (subst (λ d. term (is_kind_of_patterns d) zero p ≡ true) c g.0.0.1) (at_least (level_of Times) (binds p) refl g.0.1),
          w.0,
          subst (λ d. FitsSign d Times p k) (sym c) (both (is_factor p) (takes_factor k) w.1 t),
        ),
        g.1,
      ),
    )

-- a selection may stand on the right side of a relation
allows_side : (k : Stack) → InSide k → allows level_of_selection k ≡ true
allows_side (left_of op a ∷ k) h = refl
allows_side (relating r a ∷ k) h = refl
allows_side [] h = elim h [ ]
allows_side (f ∷ k) h = elim h [ ]

side_shifts : (t : Token) (p : Phrase) (s : Bool) (k : Stack) → Good (whole p s true ∷ k) → kind_of k ≡ side → Leads (whole p s true ∷ k) (t ∷ []) (shift_side t p s k)
side_shifts (Infix Plus) p s k g c = sign_leads Plus p s k refl g
side_shifts (Infix Minus) p s k g c = sign_leads Minus p s k refl g
side_shifts (Infix Times) p s k g c = guard_leads (takes_factor k) (whole p s true ∷ k) (Infix Times ∷ []) (Some (left_of Times p ∷ k)) (λ t. times_leads p s k g c t)
side_shifts Dot p s k g c = guard_leads (is_reference p) (whole p s true ∷ k) (Dot ∷ []) (Some (dotted p ∷ k)) (λ t. dot_leads side p s k g c refl (allows_side k (in_side k g.1 (sym c))) t)
side_shifts t p s k g c = tt

-- an operator of each kind
shifts : (c : Kind) (t : Token) (p : Phrase) (s : Bool) (k : Stack) → Good (whole p s true ∷ k) → kind_of k ≡ c → Leads (whole p s true ∷ k) (t ∷ []) (shift_in c t p s k)
shifts expression t p s k g c = expression_shifts t p s k g c
shifts pattern t p s k g c = pattern_shifts t p s k g c
shifts side t p s k g c = side_shifts t p s k g c

-- an operator behind a phrase that is an expression or a pattern
pub operator_leads : (t : Token) (p : Phrase) (s e : Bool) (k : Stack) → Good (whole p s e ∷ k) → Leads (whole p s e ∷ k) (t ∷ []) (guard e (shift_in (kind_of k) t p s k))
operator_leads t p s true k g = shifts (kind_of k) t p s k g refl
operator_leads t p s false k g = tt
