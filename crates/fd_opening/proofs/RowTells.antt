-- The tells of built-ins, with a value behind them and a value of the top's first variable.
use Rattle.std.proofs.Common.{◌≡◌, inl, inr, ℕ, zero, suc, ◌+◌, ◌<◌, true, List, [], ◌∷◌, ◌++◌, length, map, flat_map, Contains, refl, sym, ◌∙◌, ap, subst, arith}
use Rattle.std.proofs.lemmas.List.{length-append, length-map}
use Rattle.std.proofs.lemmas.List.Elements.{Contains-append_left, Contains-append_right, Contains-append_cases}
use Rattle.std.proofs.lemmas.Grind.{flat_map-append}
use Rattle.std.specs.List.{range_with_len}
use Rattle.oz_base.specs.declared.names.Ident.{Ident}
use Rattle.oz_language.specs.declared.kernel.Constant.{Constant}
use Rattle.oz_semantics.specs.Names.{named}
use Rattle.oz_semantics.specs.Store.{itself, is_consistent, named_by}
use Rattle.oz_semantics.specs.Builtins.{Row, Operator, Named, Part}
use Rattle.oz_semantics.specs.Runs.{builtin_tells, fd_parts}
use Rattle.oz_semantics.specs.declared.value.Builtin.TheVariants.{Operation}
use Rattle.oz_semantics.specs.declared.value.Value.{Value}
use Rattle.oz_semantics.specs.declared.value.Value.TheVariants as value
use Rattle.oz_semantics.specs.declared.value.Tell.{Tell}
use Rattle.oz_semantics.specs.declared.value.Tell.TheVariants.{Is}
use Rattle.fd_stores.proofs.Lists.{contains_none, contains_cases, contains_head, contains_mapped}
use Rattle.fd_views.specs.Views.{IsPlain, HasValue}
use Rattle.fd_opening.proofs.ValueTells.{AreValues, values_plain, values_fit, values_behind, valued, numbered_from, valued_values, valued_at, valued_joined, FieldsTop, AllFieldsTop, value_names, valued_names}

-- ---- rows

row_value : Row → Value
row_value (Operator op) = value.Builtin (Operation op)
row_value (Named word b) = value.Builtin b
row_value (Part feature b) = value.Builtin b

rows_valued : (n : ℕ) (rs : List Row) → builtin_tells n rs ≡ valued n (map row_value rs)
unfolding row_value
rows_valued n [] = refl
rows_valued n (Operator op ∷ rs) = ap (λ ts. Is (named [] n) (value.Builtin (Operation op)) ∷ ts) (rows_valued (n + 1) rs)
rows_valued n (Named word b ∷ rs) = ap (λ ts. Is (named [] n) (value.Builtin b) ∷ ts) (rows_valued (n + 1) rs)
rows_valued n (Part feature b ∷ rs) = ap (λ ts. Is (named [] n) (value.Builtin b) ∷ ts) (rows_valued (n + 1) rs)

rows_top : (rs : List Row) (v : Value) → FieldsTop v → AllFieldsTop (map row_value rs ++ v ∷ [])
unfolding row_value
rows_top [] v f = (f, tt)
rows_top (Operator op ∷ rs) v f = (λ y c. absurd (contains_none y c), rows_top rs v f)
rows_top (Named word b ∷ rs) v f = (λ y c. absurd (contains_none y c), rows_top rs v f)
rows_top (Part feature b ∷ rs) v f = (λ y c. absurd (contains_none y c), rows_top rs v f)

pub parts_top : (n : ℕ) (rs : List Row) (y : Ident) → Contains (map (λ (p : Constant × Ident). p.1) (fd_parts n rs)) y → y.space ≡ []
parts_top n [] y c = absurd (contains_none y c)
parts_top n (Operator op ∷ rs) y c = parts_top (n + 1) rs y c
parts_top n (Named word b ∷ rs) y c = parts_top (n + 1) rs y c
parts_top n (Part feature b ∷ rs) y c = elim (contains_cases (named [] n) y (map (λ (p : Constant × Ident). p.1) (fd_parts (n + 1) rs)) c) [
  | inl e ↦ ap (λ (z : Ident). z.space) (sym e)
  | inr k ↦ parts_top (n + 1) rs y k
]

below : (a c x : ℕ) → Contains (range_with_len a c) x → x < a + c
below a zero x h = absurd (contains_none x h)
below a (suc c) x h = elim (contains_cases a x (range_with_len (a + 1) c) h) [ inl e ↦ omega (arith, e) | inr k ↦ (let r = below (a + 1) c x k in omega (arith, r)) ]

-- ---- what the top was told: the built-ins, a value behind them, and a value of its variable 0

module _ (rs : List Row) (fd script : Value) (fd_top : FieldsTop fd) (script_top : FieldsTop script) where
  abbrev behind : ℕ
  behind = 1 + length rs

  abbrev first_tells : List Tell
  first_tells = builtin_tells 1 rs ++ Is (named [] behind) fd ∷ []

  abbrev told : List Tell
  told = first_tells ++ Is (named [] 0) script ∷ []

  abbrev vs : List Value
  vs = map row_value rs ++ fd ∷ []

  first_valued : first_tells ≡ valued 1 vs
  first_valued =
      (λ i. rows_valued 1 rs i ++ Is (named [] (1 + sym (length-map rs row_value) i)) fd ∷ [])
      ∙ sym (valued_joined 1 (map row_value rs) fd)

  vs_long : length vs ≡ behind
  vs_long = (let a = length-append (map row_value rs) (fd ∷ []) in let b = length-map rs row_value in omega (arith, a, b))

  first_values : AreValues first_tells
  first_values = subst AreValues (sym first_valued) (valued_values 1 vs)

  zero_new : (w : Value) → Contains first_tells (Is (named [] 0) w) → ⊥
  zero_new w c = (let l = numbered_from 1 vs (named [] 0) w (subst (λ ts. Contains ts (Is (named [] 0) w)) first_valued c) in absurd (omega (arith, l)))

  all_values : AreValues told
  all_values = values_behind first_tells first_values (named [] 0) script zero_new

  pub first_fits : is_consistent first_tells ≡ true
  first_fits = values_fit first_tells first_values

  pub told_fits : is_consistent told ≡ true
  told_fits = values_fit told all_values

  pub told_plain : IsPlain told []
  told_plain = values_plain told all_values

  has : (x : Ident) (v : Value) → Contains told (Is x v) → HasValue told x v
  has x v c = record { variable = x; equal = itself; told = c }

  by_number : (n : ℕ) → n < 1 + behind → (v : Value) × HasValue told (named [] n) v
  by_number zero l = (script, has (named [] 0) script (Contains-append_right first_tells (Is (named [] 0) script ∷ []) (Is (named [] 0) script) (contains_head (Is (named [] 0) script) [])))
  by_number (suc i) l =
      let a = vs_long in
      let r = valued_at 1 vs i (omega (arith, a, l)) in
      let e : 1 + i ≡ suc i = omega arith in
      let there : Contains first_tells (Is (named [] (suc i)) r.0) = subst (λ ts. Contains ts (Is (named [] (suc i)) r.0)) (sym first_valued) (subst (λ m. Contains (valued 1 vs) (Is (named [] m) r.0)) e r.1) in
      (r.0, has (named [] (suc i)) r.0 (Contains-append_left first_tells (Is (named [] 0) script ∷ []) (Is (named [] (suc i)) r.0) there))

  pub told_known : (x : Ident) → Contains (map (named []) (range_with_len 0 (1 + behind))) x → (v : Value) × HasValue told x v
  told_known x c =
      let r = contains_mapped (named []) (range_with_len 0 (1 + behind)) x c in
      let l = below 0 (1 + behind) r.0 r.1 in
      subst (λ y. (v : Value) × HasValue told y v) r.2 (by_number r.0 (omega (arith, l)))

  pub told_named : (x : Ident) → Contains (flat_map named_by told) x → x.space ≡ []
  told_named x c = elim (Contains-append_cases (flat_map named_by first_tells) (flat_map named_by (Is (named [] 0) script ∷ [])) x (subst (λ ys. Contains ys x) (flat_map-append named_by first_tells (Is (named [] 0) script ∷ [])) c)) [
    | inl k ↦ valued_names 1 vs (rows_top rs fd fd_top) x (subst (λ ts. Contains (flat_map named_by ts) x) first_valued k)
    | inr k ↦ value_names (named [] 0) script [] refl script_top (λ y d. absurd (contains_none y d)) x k
  ]

  pub script_there : Contains told (Is (named [] 0) script)
  script_there = Contains-append_right first_tells (Is (named [] 0) script ∷ []) (Is (named [] 0) script) (contains_head (Is (named [] 0) script) [])

  pub fd_there : Contains told (Is (named [] behind) fd)
  fd_there = Contains-append_left first_tells (Is (named [] 0) script ∷ []) (Is (named [] behind) fd) (Contains-append_right (builtin_tells 1 rs) (Is (named [] behind) fd ∷ []) (Is (named [] behind) fd) (contains_head (Is (named [] behind) fd) []))

  pub row_there : (u : Tell) → Contains (builtin_tells 1 rs) u → Contains told u
  row_there u c = Contains-append_left first_tells (Is (named [] 0) script ∷ []) u (Contains-append_left (builtin_tells 1 rs) (Is (named [] behind) fd ∷ []) u c)
