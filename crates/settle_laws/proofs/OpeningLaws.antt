-- What a program opens with is consistent: each built-in is the value of a variable of its own.
use Rattle.std.proofs.Common.{◌≡◌, ◌⊎◌, inl, inr, ℕ, suc, ◌+◌, ◌<◌, ◌≤◌, true, false, not, List, [], ◌∷◌, ◌++◌, refl, sym, ap, subst, ◌∙◌, arith, Contains, Option, Some, length, slice_get}
use Rattle.std.proofs.lemmas.List.{append-nil}
use Rattle.oz_base.specs.declared.names.Ident.{Ident}
use Rattle.oz_base.specs.declared.interval.Interval.{Interval}
use Rattle.oz_semantics.specs.Names.{named}
use Rattle.oz_semantics.specs.Values.{is_like, fields_of}
use Rattle.oz_semantics.specs.Store.{Same, told, itself, reversed, joined, field, is_consistent}
use Rattle.oz_semantics.specs.Builtins.{Row, Operator, Named, Part, rows}
use Rattle.oz_semantics.specs.Configurations.{frames_of, giving_out, telling, spawning, new_layer}
use Rattle.oz_semantics.specs.Settling.{is_inconsistent}
use Rattle.oz_semantics.specs.Runs.{builtin_tells, fd_record, fd_number, opening_environment, top_layer}
use Rattle.oz_semantics.specs.declared.value.Builtin.{Builtin}
use Rattle.oz_semantics.specs.declared.value.Builtin.TheVariants.{Operation}
use Rattle.oz_semantics.specs.declared.value.Value.{Value}
use Rattle.oz_semantics.specs.declared.value.Value.TheVariants as value
use Rattle.oz_semantics.specs.declared.value.Tell.{Tell}
use Rattle.oz_semantics.specs.declared.value.Tell.TheVariants.{Equal, Is, Within}
use Rattle.oz_semantics.specs.declared.configuration.Frame.{Frame}
use Rattle.oz_semantics.specs.declared.configuration.Layer.{Layer}
use Rattle.oz_laws.proofs.SameLaws.{In, In-from_contains}
use Rattle.oz_laws.proofs.StoreLaws.{tests_consistent}
use Rattle.oz_laws.proofs.AlikeLaws.{alike-refl}
use Rattle.view_laws.proofs.Members.{In-cases}
use Rattle.settle_laws.specs.Sound.{OpeningSound}

-- a tell of a built-in, of a variable whose number is n at least and below m
record OfBuiltin (n m : ℕ) (t : Tell) : Type 0 where
  variable : Ident
  builtin : Builtin
  is : t ≡ Is variable (value.Builtin builtin)
  least : n ≤ variable.number
  below : variable.number < m

of_more : (n k : ℕ) (t : Tell) → OfBuiltin (n + 1) (n + 1 + k) t → OfBuiltin n (n + suc k) t
of_more n k t o = record { variable = o.variable; builtin = o.builtin; is = o.is; least = omega (arith, o.least); below = omega (arith, o.below) }

here : (n k : ℕ) (b : Builtin) (t : Tell) → Is (named [] n) (value.Builtin b) ≡ t → OfBuiltin n (n + suc k) t
here n k b t e = record { variable = named [] n; builtin = b; is = sym e; least = omega arith; below = omega arith }

each_builtin : (n : ℕ) (rs : List Row) (t : Tell) → In t (builtin_tells n rs) → OfBuiltin n (n + length rs) t
each_builtin n [] t h = elim h [ ]
each_builtin n (Operator op ∷ rs) t (inl e) = here n (length rs) (Operation op) t e
each_builtin n (Operator op ∷ rs) t (inr h) = of_more n (length rs) t (each_builtin (n + 1) rs t h)
each_builtin n (Named word b ∷ rs) t (inl e) = here n (length rs) b t e
each_builtin n (Named word b ∷ rs) t (inr h) = of_more n (length rs) t (each_builtin (n + 1) rs t h)
each_builtin n (Part feature b ∷ rs) t (inl e) = here n (length rs) b t e
each_builtin n (Part feature b ∷ rs) t (inr h) = of_more n (length rs) t (each_builtin (n + 1) rs t h)

later_number : (n : ℕ) (rs : List Row) (x : Ident) (v : Value) → In (Is x v) (builtin_tells (n + 1) rs) → named [] n ≡ x → ⊥
later_number n rs x v h e =
    let o = each_builtin (n + 1) rs (Is x v) h in
    let is : Is x v ≡ Is o.variable (value.Builtin o.builtin) = o.is in
    let same : x ≡ o.variable = cc in
    let least : n + 1 ≤ x.number = subst (λ (y : Ident). n + 1 ≤ y.number) (sym same) o.least in
    let number : n ≡ x.number = ap (λ (y : Ident). y.number) e in
    absurd (omega (arith, least, number))

module _ (n : ℕ) (b : Builtin) (rs : List Row) (again : (x : Ident) (v w : Value) → In (Is x v) (builtin_tells (n + 1) rs) → In (Is x w) (builtin_tells (n + 1) rs) → v ≡ w) where
  one_more :
      (x : Ident) (v w : Value) → In (Is x v) (Is (named [] n) (value.Builtin b) ∷ builtin_tells (n + 1) rs) → In (Is x w) (Is (named [] n) (value.Builtin b) ∷ builtin_tells (n + 1) rs) → v ≡ w
  one_more x v w (inl e) (inl k) = let left : value.Builtin b ≡ v = cc in let right : value.Builtin b ≡ w = cc in sym left ∙ right
  one_more x v w (inl e) (inr k) = let same : named [] n ≡ x = cc in absurd (later_number n rs x w k same)
  one_more x v w (inr e) (inl k) = let same : named [] n ≡ x = cc in absurd (later_number n rs x v e same)
  one_more x v w (inr e) (inr k) = again x v w e k

one_value : (n : ℕ) (rs : List Row) (x : Ident) (v w : Value) → In (Is x v) (builtin_tells n rs) → In (Is x w) (builtin_tells n rs) → v ≡ w
one_value n [] x v w h k = elim h [ ]
one_value n (Operator op ∷ rs) x v w h k = one_more n (Operation op) rs (one_value (n + 1) rs) x v w h k
one_value n (Named word b ∷ rs) x v w h k = one_more n b rs (one_value (n + 1) rs) x v w h k
one_value n (Part feature b ∷ rs) x v w h k = one_more n b rs (one_value (n + 1) rs) x v w h k

-- the built-ins, and behind them one more value of a variable of its own
module _ (rs : List Row) (m : ℕ) (fd : Value) (behind : 1 + length rs ≤ m) where
  abbrev tells : List Tell
  tells = builtin_tells 1 rs ++ Is (named [] m) fd ∷ []

  own_number : (x : Ident) (v : Value) → In (Is x v) (builtin_tells 1 rs) → named [] m ≡ x → ⊥
  own_number x v h e =
      let o = each_builtin 1 rs (Is x v) h in
      let is : Is x v ≡ Is o.variable (value.Builtin o.builtin) = o.is in
      let same : x ≡ o.variable = cc in
      let below : x.number < 1 + length rs = subst (λ (y : Ident). y.number < 1 + length rs) (sym same) o.below in
      let number : m ≡ x.number = ap (λ (y : Ident). y.number) e in
      absurd (omega (arith, below, number, behind))

  by_place : (x : Ident) (v w : Value) → In (Is x v) (builtin_tells 1 rs) ⊎ In (Is x v) (Is (named [] m) fd ∷ []) → In (Is x w) (builtin_tells 1 rs) ⊎ In (Is x w) (Is (named [] m) fd ∷ []) → v ≡ w
  by_place x v w (inl h) (inl k) = one_value 1 rs x v w h k
  by_place x v w (inl h) (inr (inl e)) = let same : named [] m ≡ x = cc in absurd (own_number x v h same)
  by_place x v w (inr (inl e)) (inl k) = let same : named [] m ≡ x = cc in absurd (own_number x w k same)
  by_place x v w (inr (inl e)) (inr (inl f)) = let left : fd ≡ v = cc in let right : fd ≡ w = cc in sym left ∙ right
  by_place x v w (inl h) (inr (inr e)) = elim e [ ]
  by_place x v w (inr (inr e)) k = elim e [ ]
  by_place x v w (inr (inl e)) (inr (inr f)) = elim f [ ]

  one_each : (x : Ident) (v w : Value) → Contains tells (Is x v) → Contains tells (Is x w) → v ≡ w
  one_each x v w c d =
      by_place x v w (In-cases (Is x v) (builtin_tells 1 rs) (Is (named [] m) fd ∷ []) (In-from_contains tells (Is x v) c))
      (In-cases (Is x w) (builtin_tells 1 rs) (Is (named [] m) fd ∷ []) (In-from_contains tells (Is x w) d))

  -- nothing else is told
  no_equation : (x y : Ident) → Contains tells (Equal x y) → ⊥
  no_equation x y c = elim (In-cases (Equal x y) (builtin_tells 1 rs) (Is (named [] m) fd ∷ []) (In-from_contains tells (Equal x y) c)) [
    | inl h ↦ (let is : Equal x y ≡ Is (each_builtin 1 rs (Equal x y) h).variable (value.Builtin (each_builtin 1 rs (Equal x y) h).builtin) = (each_builtin 1 rs (Equal x y) h).is in cc)
    | inr h ↦ elim h [ inl e ↦ cc | inr e ↦ elim e [ ] ]
  ]

  no_domain : (x : Ident) (is : List Interval) → Contains tells (Within x is) → ⊥
  no_domain x is c = elim (In-cases (Within x is) (builtin_tells 1 rs) (Is (named [] m) fd ∷ []) (In-from_contains tells (Within x is) c)) [
    | inl h ↦ (let same : Within x is ≡ Is (each_builtin 1 rs (Within x is) h).variable (value.Builtin (each_builtin 1 rs (Within x is) h).builtin) = (each_builtin 1 rs (Within x is) h).is in cc)
    | inr h ↦ elim h [ inl e ↦ cc | inr e ↦ elim e [ ] ]
  ]

  -- so each variable is equal to itself alone
  one_field : (x y a b : Ident) (v w : Value) (i : ℕ) → x ≡ y → Contains tells (Is x v) → Contains tells (Is y w) → slice_get (fields_of v) i ≡ Some a → slice_get (fields_of w) i ≡ Some b → a ≡ b
  one_field x y a b v w i e c d p q =
      let same : v ≡ w = one_each x v w c (subst (λ z. Contains tells (Is z w)) (sym e) d) in
      let both : ◌≡◌ {A = Option Ident} (Some a) (Some b) = sym p ∙ ap (λ u. slice_get (fields_of u) i) same ∙ q in
      let k : a ≡ b = cc in k

  one_variable : {x y : Ident} → Same tells x y → x ≡ y
  one_variable (told {x = x} {y = y} c) = absurd (no_equation x y c)
  one_variable itself = refl
  one_variable (reversed s) = sym (one_variable s)
  one_variable (joined s t) = one_variable s ∙ one_variable t
  one_variable (field {x = x} {y = y} {a = a} {b = b} {v = v} {w = w} i s c d l p q) = one_field x y a b v w i (one_variable s) c d p q

  builtins_consistent : is_consistent tells ≡ true
  builtins_consistent = (tests_consistent tells).1 (record {
    agree = λ x y v w s c d. subst (λ u. is_like v u ≡ true) (one_each x v w c (subst (λ z. Contains tells (Is z w)) (sym (one_variable s)) d)) (alike-refl v);
    inhabited = λ x is c. absurd (no_domain x is c);
    inside = λ x y v is s c d. absurd (no_domain y is d);
  })

  -- the top alone
  sound_with : (n : ℕ) (frames : List Frame) (l : Layer) → In l (spawning frames (telling tells (giving_out n (new_layer []))) ∷ [])
      → is_inconsistent (spawning frames (telling tells (giving_out n (new_layer []))) ∷ []) l ≡ false
  sound_with n frames l (inl e) =
      ap (is_inconsistent (spawning frames (telling tells (giving_out n (new_layer []))) ∷ [])) (sym e)
      ∙ ap (λ (ts : List Tell). not (is_consistent ts)) (append-nil tells)
      ∙ ap not builtins_consistent
  sound_with n frames l (inr h) = elim h [ ]

pub opening_sound : OpeningSound
opening_sound k l c =
    sound_with rows fd_number fd_record (omega arith) fd_number (frames_of opening_environment k.body) l
    (In-from_contains (spawning (frames_of opening_environment k.body) top_layer ∷ []) l c)
