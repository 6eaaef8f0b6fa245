-- Vectors where more is told. The spine of a list is followed cell by cell up to what is no cell, or until it comes back to a cell.
use Rattle.std.proofs.Common.{◌≡◌, ◌⊎◌, inl, inr, ℕ, zero, suc, ◌<◌, Bool, true, false, if◌then◌else◌, ◌||◌, List, [], ◌∷◌, length, refl, sym, ap, subst, ◌∙◌, Option, Some, None, is_some, option_map, arith}
use Rattle.std.specs.List.{list_any}
use Rattle.std.proofs.lemmas.Bool.{false≢true}
use Rattle.oz_base.specs.declared.names.Ident.{Ident}
use Rattle.oz_language.specs.declared.kernel.Constant.TheVariants as constant
use Rattle.oz_language.specs.Wording.{nil_word, bar_word}
use Rattle.oz_semantics.specs.Values.{is_like, atom, pair_in, fields_of}
use Rattle.oz_semantics.specs.Store.{Same, itself, reversed, joined, IsConsistent, same, value_of, is_determined}
use Rattle.oz_semantics.specs.Inputs.{Input, Known, Unknown, OtherKind, and_further, known_if, read}
use Rattle.oz_semantics.specs.Vectors.{cell_elements, list_in, list_elements, elements_in, vector_in, vector}
use Rattle.oz_semantics.specs.declared.value.Record.{Record}
use Rattle.oz_semantics.specs.declared.value.Value.{Value}
use Rattle.oz_semantics.specs.declared.value.Value.TheVariants as value
use Rattle.oz_semantics.specs.declared.value.Tell.{Tell}
use Rattle.oz_laws.proofs.SameLaws.{tests_same}
use Rattle.oz_laws.proofs.StoreLaws.{value_row, record_told}
use Rattle.oz_laws.proofs.OpeningLaws.{left_of, left_at_first, one_opened}
use Rattle.view_laws.specs.Readies.{Keeps}
use Rattle.view_laws.proofs.Members.{or_left, or_right, or_cases}
use Rattle.view_laws.proofs.ViewLaws.{same_kept, determined_same, none_is}
use Rattle.view_laws.proofs.MatchLaws.{AreSame, Found, value_later}
use Rattle.view_laws.proofs.InputLaws.{PairSame, like_same, pair_same, InputStays, read_stays, further_stays}

-- Spines

-- what follows a cell
abbrev next_of : Option (Ident × Ident) → Option Ident
next_of c = option_map (λ (p : Ident × Ident). p.1) c

abbrev next_in : Option Value → Option Ident
next_in None = None
next_in (Some v) = next_of (pair_in bar_word v)

abbrev next : List Tell → Ident → Option Ident
next ts x = next_in (value_of ts x)

-- k cells from x on, and then e, which is none
abbrev Chain : List Tell → ℕ → Ident → Ident → Type 0
Chain ts zero x e = (x ≡ e) × (next ts x ≡ None)
Chain ts (suc k) x e = (t : Ident) × (next ts x ≡ Some t) × Chain ts k t e

-- each of these has more than k cells
data Longer (ts : List Tell) (k : ℕ) : List Ident → Type 0 where
  none_passed : Longer ts k []
  one_passed : {x : Ident} {xs : List Ident} (j : ℕ) (e : Ident) → k < j → Chain ts j x e → Longer ts k xs → Longer ts k (x ∷ xs)

longer_less : (ts : List Tell) (k : ℕ) {xs : List Ident} → Longer ts (suc k) xs → Longer ts k xs
longer_less ts k none_passed = none_passed
longer_less ts k (one_passed j e l c h) = one_passed j e (omega (arith, l)) c (longer_less ts k h)

next_same : (ts : List Tell) (x y : Ident) → Same ts x y → next ts x ≡ next ts y
next_same ts x y s = ap next_in (value_row ts x y s)

none_some : {A : Type 0} (o : Option A) (a : A) → o ≡ None → o ≡ Some a → ⊥
none_some o a e f = cc

some_one : (s t : Ident) → ◌≡◌ {A = Option Ident} (Some s) (Some t) → s ≡ t
some_one s t e = let k : s ≡ t = cc in k

-- equal variables have equally many cells
one_length : (ts : List Tell) (k j : ℕ) (x y e f : Ident) → Same ts x y → Chain ts k x e → Chain ts j y f → k ≡ j
one_length ts zero zero x y e f s c d = refl
one_length ts zero (suc j) x y e f s c d = absurd (none_some (next ts x) d.0 c.1 (next_same ts x y s ∙ d.1))
one_length ts (suc k) zero x y e f s c d = absurd (none_some (next ts y) c.0 d.1 (sym (next_same ts x y s) ∙ c.1))
one_length ts (suc k) (suc j) x y e f s c d =
    let t : c.0 ≡ d.0 = some_one c.0 d.0 (sym c.1 ∙ next_same ts x y s ∙ d.1) in
    ap suc (one_length ts k j c.0 d.0 e f (subst (Same ts c.0) t itself) c.2 d.2)

not_passed : (ts : List Tell) (k : ℕ) (x e : Ident) {xs : List Ident} → Chain ts k x e → Longer ts k xs → list_any (same ts x) xs ≡ false
not_passed ts k x e c none_passed = refl
not_passed ts k x e c (one_passed {x = y} {xs = xs} j f l d h) = by (same ts x y) refl (not_passed ts k x e c h)
  where
    by : (b : Bool) → same ts x y ≡ b → list_any (same ts x) xs ≡ false → (b || list_any (same ts x) xs) ≡ false
    by true q rest = absurd (let k_is_j = one_length ts k j x y e f ((tests_same ts x y).0 q) c d in omega (arith, l, k_is_j))
    by false q rest = rest

-- a cell is a record, which was told
next_record : (ts : List Tell) (x t : Ident) → next ts x ≡ Some t → (r : Record) × (value_of ts x ≡ Some (value.Record r))
next_record ts x t e = by (value_of ts x) refl e
  where
    by : (o : Option Value) → value_of ts x ≡ o → next_in o ≡ Some t → (r : Record) × (value_of ts x ≡ Some (value.Record r))
    by None q k = cc
    by (Some (value.Record r)) q k = (r, q)
    by (Some (value.Constant c)) q k = cc
    by (Some (value.Procedure p)) q k = cc
    by (Some (value.Builtin b)) q k = cc
    by (Some (value.Name n)) q k = cc
    by (Some (value.Cell c)) q k = cc
    by (Some (value.Port p)) q k = cc
    by (Some (value.Space s)) q k = cc

cell_opened : (ts : List Tell) (x t : Ident) (xs : List Ident) → next ts x ≡ Some t → list_any (same ts x) xs ≡ false → left_of ts (x ∷ xs) < left_of ts xs
cell_opened ts x t xs e a = let r = next_record ts x t e in one_opened ts x xs (value.Record r.0) (record_told ts x r.0 r.1) a

-- A spine that comes back to a cell

data Returns (ts : List Tell) : List Ident → Ident → Type 0 where
  back : {passed : List Ident} {x : Ident} → list_any (same ts x) passed ≡ true → Returns ts passed x
  on : {passed : List Ident} {x : Ident} (t : Ident) → next ts x ≡ Some t → Returns ts (x ∷ passed) t → Returns ts passed x

-- the elements, by one step
elements_suc : (ts : List Tell) (n : ℕ) (passed : List Ident) (x : Ident) → list_any (same ts x) passed ≡ false
    → list_elements ts (suc n) passed x ≡ read (list_in (list_elements ts n (x ∷ passed))) x (value_of ts x)
elements_suc ts n passed x e = ap (λ (b : Bool). if b then OtherKind else read (list_in (list_elements ts n (x ∷ passed))) x (value_of ts x)) e

-- a cell is not `nil`
not_nil : (v : Value) (c : Ident × Ident) → pair_in bar_word v ≡ Some c → is_like (atom nil_word) v ≡ false
not_nil (value.Record r) c e = refl
not_nil (value.Constant d) c e = cc
not_nil (value.Procedure p) c e = cc
not_nil (value.Builtin b) c e = cc
not_nil (value.Name n) c e = cc
not_nil (value.Cell d) c e = cc
not_nil (value.Port p) c e = cc
not_nil (value.Space s) c e = cc

pub record IsCell (ts : List Tell) (x t : Ident) : Type 0 where
  pub val : Value
  pub given : value_of ts x ≡ Some val
  pub cell : Ident × Ident
  pub pair : pair_in bar_word val ≡ Some cell
  pub rest : cell.1 ≡ t

is_cell : (ts : List Tell) (x t : Ident) → next ts x ≡ Some t → IsCell ts x t
is_cell ts x t e = by (value_of ts x) refl e
  where
    by_pair : (v : Value) (c : Option (Ident × Ident)) → value_of ts x ≡ Some v → pair_in bar_word v ≡ c → next_of c ≡ Some t → IsCell ts x t
    by_pair v None q p k = cc
    by_pair v (Some c) q p k = record { val = v; given = q; cell = c; pair = p; rest = some_one c.1 t k }

    by : (o : Option Value) → value_of ts x ≡ o → next_in o ≡ Some t → IsCell ts x t
    by None q k = cc
    by (Some v) q k = by_pair v (pair_in bar_word v) q refl k

-- what a cell reads, by what the rest does
cell_reads : (ts : List Tell) (rest : Ident → Input (List Ident)) (x t : Ident) (c : IsCell ts x t) → read (list_in rest) x (value_of ts x) ≡ and_further (λ xs. Known (c.cell.0 ∷ xs)) (rest t)
cell_reads ts rest x t c =
    ap (read (list_in rest) x) c.given
    ∙ ap (λ (b : Bool). if b then Known [] else cell_elements rest (pair_in bar_word c.val)) (not_nil c.val c.cell c.pair)
    ∙ ap (cell_elements rest) c.pair
    ∙ ap (λ u. and_further (λ xs. Known (c.cell.0 ∷ xs)) (rest u)) c.rest

returns_other : (ts : List Tell) (n : ℕ) {passed : List Ident} {x : Ident} → Returns ts passed x → list_elements ts n passed x ≡ OtherKind
returns_other ts zero r = refl
returns_other ts (suc n) (back {passed = passed} {x = x} e) = ap (λ (b : Bool). if b then OtherKind else read (list_in (list_elements ts n (x ∷ passed))) x (value_of ts x)) e
returns_other ts (suc n) (on {passed = passed} {x = x} t e r) = by (list_any (same ts x) passed) (returns_other ts n r)
  where
    by : (b : Bool) → list_elements ts n (x ∷ passed) t ≡ OtherKind → (if b then OtherKind else read (list_in (list_elements ts n (x ∷ passed))) x (value_of ts x)) ≡ OtherKind
    by true rest = refl
    by false rest = cell_reads ts (list_elements ts n (x ∷ passed)) x t (is_cell ts x t e) ∙ ap (and_further _) rest

-- each spine ends or comes back
walks : (ts : List Tell) (n : ℕ) (passed : List Ident) (x : Ident) → left_of ts passed < n → ((k : ℕ) × (e : Ident) × Chain ts k x e) ⊎ Returns ts passed x
walks ts zero passed x l = absurd (omega (arith, l))
walks ts (suc n) passed x l = by (list_any (same ts x) passed) refl (λ t e a. walks ts n (x ∷ passed) t (let m = cell_opened ts x t passed e a in omega (arith, l, m)))
  where
    by_next : list_any (same ts x) passed ≡ false → (o : Option Ident) → next ts x ≡ o
        → ((t : Ident) → next ts x ≡ Some t → list_any (same ts x) passed ≡ false → ((k : ℕ) × (e : Ident) × Chain ts k t e) ⊎ Returns ts (x ∷ passed) t)
        → ((k : ℕ) × (e : Ident) × Chain ts k x e) ⊎ Returns ts passed x
    by_next a None q more = inl (0, x, (refl, q))
    by_next a (Some t) q more = elim (more t q a) [ inl c ↦ inl (suc c.0, c.1, (t, q, c.2)) | inr r ↦ inr (on t q r) ]

    by : (b : Bool) → list_any (same ts x) passed ≡ b
        → ((t : Ident) → next ts x ≡ Some t → list_any (same ts x) passed ≡ false → ((k : ℕ) × (e : Ident) × Chain ts k t e) ⊎ Returns ts (x ∷ passed) t)
        → ((k : ℕ) × (e : Ident) × Chain ts k x e) ⊎ Returns ts passed x
    by true a more = inr (back a)
    by false a more = by_next a (next ts x) refl more

-- the elements up to what is not determined
chain_unknown : (ts : List Tell) (k n : ℕ) (passed : List Ident) (x e : Ident) → Chain ts k x e → Longer ts k passed → left_of ts passed < n → value_of ts e ≡ None → list_elements ts n passed x ≡ Unknown e
chain_unknown ts k zero passed x e c h l free = absurd (omega (arith, l))
chain_unknown ts zero (suc n) passed x e c h l free =
    elements_suc ts n passed x (not_passed ts zero x e c h)
    ∙ ap (read (list_in (list_elements ts n (x ∷ passed))) x) (ap (value_of ts) c.0 ∙ free)
    ∙ ap (λ y. Unknown y) c.0
chain_unknown ts (suc k) (suc n) passed x e c h l free =
    let a = not_passed ts (suc k) x e c h in
    let m = cell_opened ts x c.0 passed c.1 a in
    elements_suc ts n passed x a ∙ cell_reads ts (list_elements ts n (x ∷ passed)) x c.0 (is_cell ts x c.0 c.1)
    ∙ ap (and_further _) (chain_unknown ts k n (x ∷ passed) c.0 e c.2 (one_passed (suc k) e (omega arith) c (longer_less ts k h)) (omega (arith, l, m)) free)

-- Where more is told

module _ (before after : List Tell) (keeps : Keeps before after) (sound : IsConsistent after) where
  abbrev Elements : Input (List Ident) → Input (List Ident) → Type 0
  Elements = InputStays before after keeps sound (AreSame after)

  next_pair : (x t y u : Ident) (v w : Value) (c : Ident × Ident) (d : Option (Ident × Ident)) → c.1 ≡ t → PairSame after (Some c) d → next_of d ≡ None → ⊥
  next_pair x t y u v w c None e h k = elim h [ ]
  next_pair x t y u v w c (Some d) e h k = cc

  next_later : (x y t : Ident) → Same after x y → next before x ≡ Some t → (u : Ident) × (next after y ≡ Some u) × Same after t u
  next_later x y t s e =
      let c = is_cell before x t e in
      let w = value_later before after keeps sound x y c.val c.given s in
      by w.0 (pair_in bar_word w.0) w.1 refl (subst (λ o. PairSame after o (pair_in bar_word w.0)) c.pair (pair_same after bar_word c.val w.0 w.2)) c.rest
    where
      by : (w : Value) (d : Option (Ident × Ident)) → value_of after y ≡ Some w → pair_in bar_word w ≡ d → PairSame after (Some (is_cell before x t e).cell) d → (is_cell before x t e).cell.1 ≡ t
          → (u : Ident) × (next after y ≡ Some u) × Same after t u
      by w None q p h k = elim h [ ]
      by w (Some d) q p h k = (d.1, ap next_in q ∙ ap next_of p, subst (λ z. Same after z d.1) k h.1)

  same_any : (x y : Ident) (passed others : List Ident) → Same after x y → AreSame after passed others → list_any (same before x) passed ≡ true → list_any (same after y) others ≡ true
  same_any x y [] [] s h e = absurd (false≢true e)
  same_any x y (p ∷ ps) (q ∷ qs) s h e = elim (or_cases _ _ e) [
    | inl k ↦ or_left _ _ ((tests_same after y q).1 (joined (reversed s) (joined (same_kept before after keeps ((tests_same before x p).0 k)) h.0)))
    | inr k ↦ or_right _ _ (same_any x y ps qs s h.1 k)
  ]
  same_any x y [] (q ∷ qs) s h e = elim h [ ]
  same_any x y (p ∷ ps) [] s h e = elim h [ ]

  returns_later : {passed : List Ident} {x : Ident} → Returns before passed x → (others : List Ident) (y : Ident) → AreSame after passed others → Same after x y → Returns after others y
  returns_later (back {passed = passed} {x = x} e) others y h s = back (same_any x y passed others s h e)
  returns_later (on {passed = passed} {x = x} t e r) others y h s =
      let u = next_later x y t s e in
      on u.0 u.1 (returns_later r (y ∷ others) u.0 (s, h) u.2)

  -- an end that is determined, or is not in the later view either
  data Ends (e : Ident) : Type 0 where
    with_value : (v : Value) → value_of before e ≡ Some v → next_of (pair_in bar_word v) ≡ None → Ends e
    without : is_determined after e ≡ false → Ends e

  none_pair : (c d : Option (Ident × Ident)) → next_of c ≡ None → PairSame after c d → next_of d ≡ None
  none_pair None None e h = refl
  none_pair None (Some d) e h = elim h [ ]
  none_pair (Some c) d e h = cc

  end_later : (e f : Ident) → Same after e f → Ends e → next after f ≡ None
  end_later e f s (with_value v q k) =
      let w = value_later before after keeps sound e f v q s in
      ap next_in w.1 ∙ none_pair (pair_in bar_word v) (pair_in bar_word w.0) k (pair_same after bar_word v w.0 w.2)
  end_later e f s (without free) = ap next_in (none_is (value_of after f) (sym (determined_same after e f s) ∙ free))

  chain_later : (k : ℕ) (x y e : Ident) → Same after x y → Ends e → Chain before k x e → (f : Ident) × Chain after k y f
  chain_later zero x y e s end c = (y, (refl, end_later e y (subst (λ z. Same after z y) c.0 s) end))
  chain_later (suc k) x y e s end c =
      let u = next_later x y c.0 s c.1 in
      let d = chain_later k c.0 u.0 e u.2 end c.2 in
      (d.0, (u.0, u.1, d.1))

  -- what a list reads, by the rest
  list_stays : (rest more : Ident → Input (List Ident)) (v w : Value) → Found after v w → ((t u : Ident) → next_of (pair_in bar_word v) ≡ Some t → next_of (pair_in bar_word w) ≡ Some u → Same after t u → Elements (rest t) (more u))
      → Elements (list_in rest v) (list_in more w)
  list_stays rest more v w f h =
      by (is_like (atom nil_word) v) (is_like (atom nil_word) w) (like_same (atom nil_word) v w f.like)
    where
      consed : (a b : Ident) (us vs : List Ident) → Same after a b → AreSame after us vs → Elements (Known (a ∷ us)) (Known (b ∷ vs))
      consed a b us vs s k = (b ∷ vs, refl, (s, k))

      by_pair : (c d : Option (Ident × Ident)) → PairSame after c d → ((t u : Ident) → next_of c ≡ Some t → next_of d ≡ Some u → Same after t u → Elements (rest t) (more u))
          → Elements (cell_elements rest c) (cell_elements more d)
      by_pair (Some c) (Some d) p g =
          further_stays before after keeps sound (AreSame after) (AreSame after) (λ xs. Known (c.0 ∷ xs)) (λ xs. Known (d.0 ∷ xs)) (rest c.1) (more d.1) (λ us vs k. consed c.0 d.0 us vs p.0 k) (g c.1 d.1 refl refl p.1)
      by_pair None None p g = refl
      by_pair None (Some d) p g = elim p [ ]
      by_pair (Some c) None p g = elim p [ ]

      by : (b c : Bool) → b ≡ c → Elements (if b then Known [] else cell_elements rest (pair_in bar_word v)) (if c then Known [] else cell_elements more (pair_in bar_word w))
      by true true q = ([], refl, tt)
      by false false q = by_pair (pair_in bar_word v) (pair_in bar_word w) (pair_same after bar_word v w f) h
      by true false q = absurd (false≢true (sym q))
      by false true q = absurd (false≢true q)

  -- along two spines of one length
  chain_leads :
      (k n m : ℕ) (passed others : List Ident) (x y e f : Ident) → Same after x y → Chain before k x e → Longer before k passed → left_of before passed < n
      → Chain after k y f → Longer after k others → left_of after others < m → Elements (list_elements before n passed x) (list_elements after m others y)
  chain_leads k zero m passed others x y e f s c h l d g o = absurd (omega (arith, l))
  chain_leads k (suc n) zero passed others x y e f s c h l d g o = absurd (omega (arith, o))
  chain_leads zero (suc n) (suc m) passed others x y e f s c h l d g o =
      subst (λ i. Elements i (list_elements after (suc m) others y)) (sym (elements_suc before n passed x (not_passed before zero x e c h)))
      (subst (λ i. Elements (read (list_in (list_elements before n (x ∷ passed))) x (value_of before x)) i) (sym (elements_suc after m others y (not_passed after zero y f d g)))
      (by (value_of before x) refl))
    where
      more : (v w : Value) → value_of before x ≡ Some v → Found after v w → Elements (list_in (list_elements before n (x ∷ passed)) v) (list_in (list_elements after m (y ∷ others)) w)
      more v w q found =
          list_stays (list_elements before n (x ∷ passed)) (list_elements after m (y ∷ others)) v w found
          (λ t u p r z. absurd (none_some (next before x) t c.1 (ap next_in q ∙ p)))

      by : (p : Option Value) → value_of before x ≡ p
          → Elements (read (list_in (list_elements before n (x ∷ passed))) x p) (read (list_in (list_elements after m (y ∷ others))) y (value_of after y))
      by None q = λ free. (y, ap (read (list_in (list_elements after m (y ∷ others))) y) (none_is (value_of after y) (sym (determined_same after x y s) ∙ free)), s)
      by (Some v) q =
          let w = value_later before after keeps sound x y v q s in
          subst (λ p. Elements (list_in (list_elements before n (x ∷ passed)) v) (read (list_in (list_elements after m (y ∷ others))) y p)) (sym w.1) (more v w.0 q w.2)
  chain_leads (suc k) (suc n) (suc m) passed others x y e f s c h l d g o =
      let a = not_passed before (suc k) x e c h in
      let b = not_passed after (suc k) y f d g in
      let i = cell_opened before x c.0 passed c.1 a in
      let j = cell_opened after y d.0 others d.1 b in
      let u = next_later x y c.0 s c.1 in
      let same_rest : u.0 ≡ d.0 = some_one u.0 d.0 (sym u.1 ∙ d.1) in
      let rest = chain_leads k n m (x ∷ passed) (y ∷ others) c.0 d.0 e f (subst (Same after c.0) same_rest u.2) c.2 (one_passed (suc k) e (omega arith) c (longer_less before k h)) (omega (arith, l, i))
      d.2 (one_passed (suc k) f (omega arith) d (longer_less after k g)) (omega (arith, o, j)) in
      subst (λ z. Elements z (list_elements after (suc m) others y)) (sym (elements_suc before n passed x a))
      (subst (λ z. Elements (read (list_in (list_elements before n (x ∷ passed))) x (value_of before x)) z) (sym (elements_suc after m others y b))
      (read_stays_cell rest))
    where
      read_stays_cell : Elements (list_elements before n (x ∷ passed) c.0) (list_elements after m (y ∷ others) d.0)
          → Elements (read (list_in (list_elements before n (x ∷ passed))) x (value_of before x)) (read (list_in (list_elements after m (y ∷ others))) y (value_of after y))
      read_stays_cell rest =
          let p = is_cell before x c.0 c.1 in
          let w = value_later before after keeps sound x y p.val p.given s in
          subst (λ z. Elements (read (list_in (list_elements before n (x ∷ passed))) x z) (read (list_in (list_elements after m (y ∷ others))) y (value_of after y))) (sym p.given)
          (subst (λ z. Elements (list_in (list_elements before n (x ∷ passed)) p.val) (read (list_in (list_elements after m (y ∷ others))) y z)) (sym w.1)
          (list_stays (list_elements before n (x ∷ passed)) (list_elements after m (y ∷ others)) p.val w.0 w.2
          (λ t u q r z.
          let t_is : c.0 ≡ t = some_one c.0 t (sym c.1 ∙ ap next_in p.given ∙ q) in
          let u_is : d.0 ≡ u = some_one d.0 u (sym d.1 ∙ ap next_in w.1 ∙ r) in
          subst (λ v. Elements (list_elements before n (x ∷ passed) v) (list_elements after m (y ∷ others) u)) t_is
          (subst (λ v. Elements (list_elements before n (x ∷ passed) c.0) (list_elements after m (y ∷ others) v)) u_is rest))))

  list_leads : (x y : Ident) → Same after x y → Elements (list_elements before (suc (length before)) [] x) (list_elements after (suc (length after)) [] y)
  list_leads x y s = elim (walks before (suc (length before)) [] x (left_at_first before)) [
    | inr r ↦ subst (λ i. Elements i (list_elements after (suc (length after)) [] y)) (sym (returns_other before (suc (length before)) r))
        (returns_other after (suc (length after)) (returns_later r [] y tt s))
    | inl c ↦ by c.0 c.1 c.2 (value_of before c.1) refl
  ]
    where
      along : (k : ℕ) (e : Ident) → Chain before k x e → Ends e → Elements (list_elements before (suc (length before)) [] x) (list_elements after (suc (length after)) [] y)
      along k e c end =
          let d = chain_later k x y e s end c in
          chain_leads k (suc (length before)) (suc (length after)) [] [] x y e d.0 s c none_passed (left_at_first before) d.1 none_passed (left_at_first after)

      last : (k : ℕ) (z e : Ident) → Chain before k z e → next before e ≡ None
      last zero z e c = subst (λ u. next before u ≡ None) c.0 c.1
      last (suc k) z e c = last k c.0 e c.2

      by : (k : ℕ) (e : Ident) → Chain before k x e → (o : Option Value) → value_of before e ≡ o → Elements (list_elements before (suc (length before)) [] x) (list_elements after (suc (length after)) [] y)
      by k e c (Some v) q = along k e c (with_value v q (sym (ap next_in q) ∙ last k x e c))
      by k e c None q =
          let unknown = chain_unknown before k (suc (length before)) [] x e c none_passed (left_at_first before) q in
          subst (λ i. Elements i (list_elements after (suc (length after)) [] y)) (sym unknown)
          (λ free. subst (λ i. Elements i (list_elements after (suc (length after)) [] y)) unknown (along k e c (without free)) free)

  -- Vectors

  elements_stay : (v w : Value) → is_like v w ≡ true → AreSame after (fields_of v) (fields_of w) → Elements (known_if (elements_in v)) (known_if (elements_in w))
  elements_stay (value.Record r) (value.Record s) e h = (s.fields, refl, h)
  elements_stay (value.Constant (constant.Literal a)) (value.Constant (constant.Literal b)) e h = ([], refl, tt)
  elements_stay (value.Constant (constant.Int a)) (value.Constant (constant.Int b)) e h = refl
  elements_stay (value.Procedure p) (value.Procedure q) e h = refl
  elements_stay (value.Builtin p) (value.Builtin q) e h = refl
  elements_stay (value.Name m) (value.Name n) e h = refl
  elements_stay (value.Cell c) (value.Cell d) e h = refl
  elements_stay (value.Port p) (value.Port q) e h = refl
  elements_stay (value.Space s) (value.Space t) e h = refl
  elements_stay v w e h = absurd (false≢true e)

  some_pair : (c d : Option (Ident × Ident)) → PairSame after c d → is_some c ≡ is_some d
  some_pair None None h = refl
  some_pair (Some c) (Some d) h = refl
  some_pair None (Some d) h = elim h [ ]
  some_pair (Some c) None h = elim h [ ]

  vector_in_stays : (x y : Ident) → Same after x y → (v w : Value) → Found after v w → Elements (vector_in before x v) (vector_in after y w)
  vector_in_stays x y s v w f = by _ _ (some_pair (pair_in bar_word v) (pair_in bar_word w) (pair_same after bar_word v w f))
    where
      by : (b c : Bool) → b ≡ c
          → Elements (if b then list_elements before (suc (length before)) [] x else known_if (elements_in v)) (if c then list_elements after (suc (length after)) [] y else known_if (elements_in w))
      by true true q = list_leads x y s
      by false false q = elements_stay v w f.like f.fields
      by true false q = absurd (false≢true (sym q))
      by false true q = absurd (false≢true q)

  pub vector_stays : (x y : Ident) → Same after x y → Elements (vector before x) (vector after y)
  vector_stays x y s = read_stays before after keeps sound (AreSame after) (vector_in before x) (vector_in after y) x y s (vector_in_stays x y s)
