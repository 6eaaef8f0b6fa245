-- What a thread waits for where more is told.
use Rattle.std.proofs.Common.{◌≡◌, ℕ, ℤ, suc, Bool, true, false, ◌&&◌, if◌then◌else◌, List, [], ◌∷◌, ◌++◌, length, refl, sym, ap, ap₂, subst, ◌∙◌, Option, Some, None, is_some, slice_get, arith}
use Rattle.std.proofs.lemmas.Bool.{false≢true}
use Rattle.oz_base.specs.declared.names.Ident.{Ident}
use Rattle.oz_language.specs.Constants.{literal_eq, constant_eq, same_arity}
use Rattle.oz_semantics.specs.Values.{is_like, integer, fields_of}
use Rattle.oz_semantics.specs.Store.{Same, itself, reversed, joined, field, IsConsistent, value_of, is_determined}
use Rattle.oz_semantics.specs.Matching.{Match, Matches, Differs, MatchWaits, is_as_asked, match_value, match_node, with_piece, matched}
use Rattle.oz_language.specs.declared.token.Literal.{Literal}
use Rattle.oz_language.specs.declared.kernel.Constant.{Constant}
use Rattle.oz_language.specs.declared.kernel.Piece.{Piece}
use Rattle.oz_language.specs.declared.kernel.Piece.TheVariants as piece
use Rattle.environments.specs.Environments.{Environment}
use Rattle.oz_semantics.specs.declared.value.Value.{Value}
use Rattle.oz_semantics.specs.declared.value.Value.TheVariants as value
use Rattle.oz_semantics.specs.declared.value.Tell.{Tell}
use Rattle.oz_laws.proofs.SameLaws.{and-left, and-right, eq-true}
use Rattle.oz_laws.proofs.AlikeLaws.{literal_eq-true, constant_eq-true, same_arity-true}
use Rattle.view_laws.specs.Readies.{Keeps}
use Rattle.view_laws.proofs.ViewLaws.{same_kept, value_same, some_is, none_is}
use Rattle.view_laws.proofs.KnownLaws.{Known, was_told, is_only, known_value, known_same, known_later, known_alike, known_determined}

-- Lists of variables that are equal, place by place
abbrev pub AreSame : List Tell → List Ident → List Ident → Type 0
AreSame ts [] [] = Unit {0}
AreSame ts (x ∷ xs) (y ∷ ys) = Same ts x y × AreSame ts xs ys
AreSame ts [] (y ∷ ys) = ⊥
AreSame ts (x ∷ xs) [] = ⊥

pub same_themselves : (ts : List Tell) (xs : List Ident) → AreSame ts xs xs
same_themselves ts [] = tt
same_themselves ts (x ∷ xs) = (itself, same_themselves ts xs)

same_append : (ts : List Tell) (xs ys us vs : List Ident) → AreSame ts xs ys → AreSame ts us vs → AreSame ts (xs ++ us) (ys ++ vs)
same_append ts [] [] us vs h k = k
same_append ts (x ∷ xs) (y ∷ ys) us vs h k = (h.0, same_append ts xs ys us vs h.1 k)
same_append ts [] (y ∷ ys) us vs h k = elim h [ ]
same_append ts (x ∷ xs) [] us vs h k = elim h [ ]

same_places : (ts : List Tell) (xs ys : List Ident) → length xs ≡ length ys → ((i : ℕ) (a b : Ident) → slice_get xs i ≡ Some a → slice_get ys i ≡ Some b → Same ts a b) → AreSame ts xs ys
same_places ts [] [] e h = tt
same_places ts (x ∷ xs) (y ∷ ys) e h = (h 0 x y refl refl, same_places ts xs ys (omega (arith, e)) (λ i a b p q. h (suc i) a b p q))
same_places ts [] (y ∷ ys) e h = absurd (omega (arith, e))
same_places ts (x ∷ xs) [] e h = absurd (omega (arith, e))

-- Values that are alike have equally many fields
fields_alike : (v w : Value) → is_like v w ≡ true → length (fields_of v) ≡ length (fields_of w)
fields_alike (value.Record r) (value.Record s) e = eq-true _ _ (and-right (same_arity r.features s.features) _ (and-right (literal_eq r.label s.label) _ e))
fields_alike (value.Constant c) (value.Constant d) e = refl
fields_alike (value.Procedure p) (value.Procedure q) e = refl
fields_alike (value.Builtin b) (value.Builtin c) e = refl
fields_alike (value.Name m) (value.Name n) e = refl
fields_alike (value.Cell c) (value.Cell d) e = refl
fields_alike (value.Port p) (value.Port q) e = refl
fields_alike (value.Space s) (value.Space t) e = refl
fields_alike v w e = absurd (false≢true e)

-- and are asked alike
asked_alike : (p : Piece) (v w : Value) → is_like v w ≡ true → is_as_asked p v ≡ is_as_asked p w
asked_alike (piece.Constant c) (value.Constant d) (value.Constant e) h = ap (constant_eq c) (constant_eq-true d e h)
asked_alike (piece.Record label features) (value.Record r) (value.Record s) h =
    ap₂ (λ (l : Literal) (fs : List Constant). literal_eq label l && same_arity features fs) (literal_eq-true r.label s.label (and-left _ _ h))
    (same_arity-true r.features s.features (and-left _ _ (and-right (literal_eq r.label s.label) _ h)))
asked_alike (piece.Constant c) (value.Record r) (value.Record s) h = refl
asked_alike (piece.Constant c) (value.Procedure p) (value.Procedure q) h = refl
asked_alike (piece.Constant c) (value.Builtin p) (value.Builtin q) h = refl
asked_alike (piece.Constant c) (value.Name m) (value.Name n) h = refl
asked_alike (piece.Constant c) (value.Cell p) (value.Cell q) h = refl
asked_alike (piece.Constant c) (value.Port p) (value.Port q) h = refl
asked_alike (piece.Constant c) (value.Space s) (value.Space t) h = refl
asked_alike (piece.Record label features) (value.Constant c) (value.Constant d) h = refl
asked_alike (piece.Record label features) (value.Procedure p) (value.Procedure q) h = refl
asked_alike (piece.Record label features) (value.Builtin p) (value.Builtin q) h = refl
asked_alike (piece.Record label features) (value.Name m) (value.Name n) h = refl
asked_alike (piece.Record label features) (value.Cell p) (value.Cell q) h = refl
asked_alike (piece.Record label features) (value.Space s) (value.Space t) h = refl
asked_alike (piece.Record label features) (value.Port p) (value.Port q) h = refl
asked_alike (piece.Variable name) v w h = refl
asked_alike piece.Any v w h = refl
asked_alike p v w h = absurd (false≢true h)

-- One value more or less like it: what is found for a class

pub record Found (after : List Tell) (v w : Value) : Type 0 where
  pub like : is_like v w ≡ true
  pub fields : AreSame after (fields_of v) (fields_of w)

module _ (before after : List Tell) (keeps : Keeps before after) (sound : IsConsistent after) where
  pub later : {x y : Ident} → Same before x y → Same after x y
  later s = same_kept before after keeps s

  -- values of one class
  no_field : (v : Value) (n : ℤ) (i : ℕ) (a : Ident) → v ≡ integer n → slice_get (fields_of v) i ≡ Some a → ⊥
  no_field v n i a e p = let none : slice_get (fields_of (integer n)) i ≡ Some a = sym (ap (λ u. slice_get (fields_of u) i) e) ∙ p in cc

  fields_found :
      (x y : Ident) (v w : Value) → Same after x y → is_like v w ≡ true → Known after x v → Known after y w → (i : ℕ) (a b : Ident)
      → slice_get (fields_of v) i ≡ Some a → slice_get (fields_of w) i ≡ Some b → Same after a b
  fields_found x y v w s like (was_told g) (was_told h) i a b p q = field i (joined g.equal (joined s (reversed h.equal))) g.told h.told like p q
  fields_found x y v w s like (is_only n e o) k i a b p q = absurd (no_field v n i a e p)
  fields_found x y v w s like (was_told g) (is_only n e o) i a b p q = absurd (no_field w n i b e q)

  pub found_alike : (x y : Ident) (v w : Value) → Same after x y → Known after x v → Known after y w → Found after v w
  found_alike x y v w s k l =
      let like = known_alike after sound x y v w s k l in
      record { like = like; fields = same_places after (fields_of v) (fields_of w) (fields_alike v w like) (fields_found x y v w s like k l) }

  pub value_known_later : (x : Ident) (v : Value) → value_of before x ≡ Some v → Known after x v
  value_known_later x v e = known_later before after keeps x v (known_value before x v e)

  -- a variable that had a value has one like it, and so has each that is equal to it
  pub value_later : (x y : Ident) (v : Value) → value_of before x ≡ Some v → Same after x y → (w : Value) × (value_of after y ≡ Some w) × Found after v w
  value_later x y v e s =
      let k = value_known_later x v e in
      let w = some_is (value_of after y) (known_determined after sound y v (known_same after x y v s k)) in
      (w.0, w.1, found_alike x y v w.0 s k (known_value after y w.0 w.1))

  pub determined_later : (x : Ident) → is_determined before x ≡ true → is_determined after x ≡ true
  determined_later x e = let v = some_is (value_of before x) e in ap is_some (value_later x x v.0 v.1 itself).1

  -- Matches

  abbrev pub MatchStays : Match → Match → Type 0
  MatchStays (Matches environment) m = (other : Environment) × (m ≡ Matches other)
  MatchStays Differs m = m ≡ Differs
  MatchStays (MatchWaits x) m = is_determined after x ≡ false → (y : Ident) × (m ≡ MatchWaits y) × Same after x y

  -- what follows a node goes on with lists of equal variables
  abbrev NextStays : (List Ident → Match) → (List Ident → Match) → Type 0
  NextStays next more = (xs ys : List Ident) → AreSame after xs ys → MatchStays (next xs) (more ys)

  value_stays :
      (next more : List Ident → Match) (x y : Ident) (p : Piece) (o u : Option Value) → NextStays next more → Same after x y → value_of before x ≡ o → value_of after y ≡ u
      → MatchStays (match_value next x p o) (match_value more y p u)
  value_stays next more x y p None u h s e f = λ free. (y, ap (match_value more y p) (sym f ∙ none_is (value_of after y) (ap is_some (value_same after y x (reversed s)) ∙ free)), s)
  value_stays next more x y p (Some v) u h s e f =
      let w = value_later x y v e s in
      subst (λ o. MatchStays (match_value next x p (Some v)) (match_value more y p o)) (sym w.1 ∙ f)
      (by (next (fields_of v)) (more (fields_of w.0)) (is_as_asked p v) (is_as_asked p w.0) (asked_alike p v w.0 w.2.like) (h (fields_of v) (fields_of w.0) w.2.fields))
    where
      by : (m n : Match) (a b : Bool) → a ≡ b → MatchStays m n → MatchStays (if a then m else Differs) (if b then n else Differs)
      by m n true true k g = g
      by m n false false k g = refl
      by m n true false k g = absurd (false≢true (sym k))
      by m n false true k g = absurd (false≢true k)

  node_stays : (next more : List Ident → Match) (x y : Ident) (p : Piece) → NextStays next more → Same after x y → MatchStays (match_node before next x p) (match_node after more y p)
  node_stays next more x y (piece.Variable name) h s = h [] [] tt
  node_stays next more x y piece.Any h s = h [] [] tt
  node_stays next more x y (piece.Constant c) h s = value_stays next more x y (piece.Constant c) (value_of before x) (value_of after y) h s refl refl
  node_stays next more x y (piece.Record label features) h s = value_stays next more x y (piece.Record label features) (value_of before x) (value_of after y) h s refl refl

  pub match_stays : (ps : List Piece) (xs ys : List Ident) (environment other : Environment) → AreSame after xs ys → MatchStays (matched before ps xs environment) (matched after ps ys other)
  match_stays [] xs ys environment other h = (other, refl)
  match_stays (p ∷ ps) [] [] environment other h = (other, refl)
  match_stays (p ∷ ps) (x ∷ xs) (y ∷ ys) environment other h =
      node_stays (λ fields. matched before ps (fields ++ xs) (with_piece p x environment)) (λ fields. matched after ps (fields ++ ys) (with_piece p y other)) x y p
      (λ us vs k. match_stays ps (us ++ xs) (vs ++ ys) (with_piece p x environment) (with_piece p y other) (same_append after us vs xs ys k h.1)) h.0
  match_stays (p ∷ ps) [] (y ∷ ys) environment other h = elim h [ ]
  match_stays (p ∷ ps) (x ∷ xs) [] environment other h = elim h [ ]
