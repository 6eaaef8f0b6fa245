-- Values that are known: told ones, and those of domains with one integer. In a consistent view each class has a value that fits all
-- that it was told.
use Rattle.std.proofs.Common.{◌≡◌, inl, ℤ, Bool, true, false, if◌then◌else◌, List, [], ◌∷◌, refl, sym, ap, subst, ◌∙◌, Contains, Option, Some, None, is_some, option_map, option_and_then, pos, arith}
use Rattle.std.proofs.lemmas.Bool.{false≢true}
use Rattle.std.proofs.lemmas.Int.{ints}
use Rattle.std.proofs.lemmas.Bool.Decides.{Decides-int_eq}
use Rattle.oz_base.specs.Lists.{given_or, holds_of}
use Rattle.oz_base.specs.declared.names.Ident.{Ident}
use Rattle.oz_base.specs.declared.interval.Interval.{Interval}
use Rattle.oz_domains.specs.Domains.{IntSet, Has, union, among, least, greatest, is_single, only}
use Rattle.oz_language.specs.declared.kernel.Constant.TheVariants as constant
use Rattle.oz_semantics.specs.Values.{is_like, integer, integer_in}
use Rattle.oz_semantics.specs.Store.{Same, itself, reversed, joined, IsConsistent, common, told_value, told_domain, value_of, is_determined}
use Rattle.oz_semantics.specs.declared.value.Value.{Value}
use Rattle.oz_semantics.specs.declared.value.Value.TheVariants as value
use Rattle.oz_semantics.specs.declared.value.Tell.{Tell}
use Rattle.oz_semantics.specs.declared.value.Tell.TheVariants.{Is, Within}
use Rattle.fd_domain.proofs.SetLaws.{least-below, greatest-above, has-least, has-greatest}
use Rattle.oz_laws.proofs.SameLaws.{In}
use Rattle.oz_laws.proofs.AlikeLaws.{alike-sym, alike-trans, alike-integer, constant_eq-refl}
use Rattle.oz_laws.proofs.DomainLaws.{AllHave, common-has, has-common, common-some, among-is}
use Rattle.oz_laws.proofs.StoreLaws.{told_sets, set_told, told_set_by}
use Rattle.view_laws.specs.Readies.{Keeps}
use Rattle.view_laws.proofs.ViewLaws.{same_kept, Given, given_told, told_some, some_or}

-- What is known

-- the integer is the only one that all domains have which were told of the class
pub record OnlyOne (ts : List Tell) (x : Ident) (n : ℤ) : Type 0 where
  pub variable : Ident
  pub intervals : List Interval
  pub told : Contains ts (Within variable intervals)
  pub equal : Same ts variable x
  pub only : (m : ℤ) → ((y : Ident) (js : List Interval) → Same ts y x → Contains ts (Within y js) → among js m ≡ true) → m ≡ n

pub data Known (ts : List Tell) (x : Ident) (v : Value) : Type 0 where
  was_told : Given ts x v → Known ts x v
  is_only : (n : ℤ) → v ≡ integer n → OnlyOne ts x n → Known ts x v

-- an integer of all domains of a class is one of all of its sets
pub in_all : (ts : List Tell) (x : Ident) (m : ℤ) → ((y : Ident) (js : List Interval) → Same ts y x → Contains ts (Within y js) → among js m ≡ true) → AllHave (told_sets ts x) m
in_all ts x m h t k =
    let b = told_set_by ts x t k in
    subst (λ s. Has s m) b.is_set (sym (among-is b.intervals m) ∙ h b.variable b.intervals b.equal b.tells)

-- and the other way round
pub of_all : (ts : List Tell) (x : Ident) (m : ℤ) → AllHave (told_sets ts x) m → (y : Ident) (js : List Interval) → Same ts y x → Contains ts (Within y js) → among js m ≡ true
of_all ts x m h y js s c = among-is js m ∙ h (union js) (set_told ts x y js s c)

pub head_in : (ss : List IntSet) (s : IntSet) → common ss ≡ Some s → (t : IntSet) × In t ss
head_in [] s e = cc
head_in (u ∷ us) s e = (u, inl refl)

-- a domain with one integer
only_known : (ts : List Tell) (x : Ident) (s : IntSet) → told_domain ts x ≡ Some s → is_single s ≡ true → OnlyOne ts x (least s)
only_known ts x s e one =
    let t = head_in (told_sets ts x) s e in
    let b = told_set_by ts x t.0 t.1 in
    let ends : least s ≡ greatest s = (Decides-int_eq (least s) (greatest s)).0 one in
    record {
      variable = b.variable;
      intervals = b.intervals;
      told = b.tells;
      equal = b.equal;
      only = λ m h.
          let k : Has s m = has-common (told_sets ts x) s m e (in_all ts x m h) in
          let low = least-below s m k in
          let high = greatest-above s m k in
          omega (arith, ints, low, high, ends);
    }

pub single_value : (s : IntSet) (v : Value) → option_map integer (only s) ≡ Some v → (is_single s ≡ true) × (v ≡ integer (least s))
single_value s v e = by (is_single s) refl e
  where
    by : (b : Bool) → is_single s ≡ b → option_map integer (if b then Some (least s) else None) ≡ Some v → (is_single s ≡ true) × (v ≡ integer (least s))
    by true k q = (k, (let same : integer (least s) ≡ v = cc in sym same))
    by false k q = cc

pub known_value : (ts : List Tell) (x : Ident) (v : Value) → value_of ts x ≡ Some v → Known ts x v
known_value ts x v e = by (told_value ts x) refl e
  where
    by_domain : (o : Option IntSet) → told_domain ts x ≡ o → option_map integer (option_and_then only o) ≡ Some v → Known ts x v
    by_domain None k q = cc
    by_domain (Some s) k q = let r = single_value s v q in is_only (least s) r.1 (only_known ts x s k r.0)

    by : (o : Option Value) → told_value ts x ≡ o → given_or o (option_map integer (option_and_then only (told_domain ts x))) ≡ Some v → Known ts x v
    by None k q = by_domain (told_domain ts x) refl q
    by (Some w) k q = was_told (given_told ts x v (k ∙ q))

pub known_same : (ts : List Tell) (x y : Ident) (v : Value) → Same ts x y → Known ts x v → Known ts y v
known_same ts x y v s (was_told g) = was_told (record { variable = g.variable; told = g.told; equal = joined g.equal s })
known_same ts x y v s (is_only n e o) = is_only n e (record {
  variable = o.variable;
  intervals = o.intervals;
  told = o.told;
  equal = joined o.equal s;
  only = λ m h. o.only m (λ z js t c. h z js (joined t s) c);
})

pub known_later : (before after : List Tell) → Keeps before after → (x : Ident) (v : Value) → Known before x v → Known after x v
known_later before after keeps x v (was_told g) =
    was_told (record { variable = g.variable; told = keeps (Is g.variable v) g.told; equal = same_kept before after keeps g.equal })
known_later before after keeps x v (is_only n e o) = is_only n e (record {
  variable = o.variable;
  intervals = o.intervals;
  told = keeps (Within o.variable o.intervals) o.told;
  equal = same_kept before after keeps o.equal;
  only = λ m h. o.only m (λ z js t c. h z js (same_kept before after keeps t) (keeps (Within z js) c));
})

-- What fits

-- the value agrees with all that the class of x was told
pub record FitsAll (ts : List Tell) (x : Ident) (v : Value) : Type 0 where
  pub values : (y : Ident) (w : Value) → Same ts y x → Contains ts (Is y w) → is_like v w ≡ true
  pub domains : (y : Ident) (js : List Interval) → Same ts y x → Contains ts (Within y js) → holds_of (among js) (integer_in v) ≡ true

pub fits_same : (ts : List Tell) (x y : Ident) (v : Value) → Same ts x y → FitsAll ts x v → FitsAll ts y v
fits_same ts x y v s f = record {
  values = λ z w t c. f.values z w (joined t (reversed s)) c;
  domains = λ z js t c. f.domains z js (joined t (reversed s)) c;
}

pub fits_like : (ts : List Tell) (x : Ident) (u v : Value) → is_like u v ≡ true → FitsAll ts x u → FitsAll ts x v
fits_like ts x u v e f = record {
  values = λ y w s c. alike-trans v u w (alike-sym u v e) (f.values y w s c);
  domains = λ y js s c. ap (holds_of (among js)) (sym (alike-integer u v e)) ∙ f.domains y js s c;
}

-- what is integer_in
pub integer_is : (js : List Interval) (o : Option ℤ) → holds_of (among js) o ≡ true → (n : ℤ) × (o ≡ Some n) × (among js n ≡ true)
integer_is js None e = cc
integer_is js (Some n) e = (n, refl, e)

some_integer : (m n : ℤ) → ◌≡◌ {A = Option ℤ} (Some m) (Some n) → m ≡ n
some_integer m n e = let k : m ≡ n = cc in k

like_number : (v : Value) (n : ℤ) → integer_in v ≡ Some n → is_like v (integer n) ≡ true
like_number (value.Constant (constant.Int m)) n e = subst (λ k. is_like (integer m) (integer k) ≡ true) (some_integer m n e) (constant_eq-refl (constant.Int m))
like_number (value.Constant (constant.Literal l)) n e = cc
like_number (value.Record r) n e = cc
like_number (value.Procedure p) n e = cc
like_number (value.Builtin b) n e = cc
like_number (value.Name m) n e = cc
like_number (value.Cell c) n e = cc
like_number (value.Port p) n e = cc
like_number (value.Space s) n e = cc

pub among_value : (js : List Interval) (v : Value) (m : ℤ) → integer_in v ≡ Some m → holds_of (among js) (integer_in v) ≡ true → among js m ≡ true
among_value js v m e h = sym (ap (holds_of (among js)) e) ∙ h

pub fits_known : (ts : List Tell) (x : Ident) (u v : Value) → FitsAll ts x u → Known ts x v → is_like u v ≡ true
fits_known ts x u v f (was_told g) = f.values g.variable v g.equal g.told
fits_known ts x u v f (is_only n e o) =
    let i = integer_is o.intervals (integer_in u) (f.domains o.variable o.intervals o.equal o.told) in
    let same : i.0 ≡ n = o.only i.0 (λ y js s c. among_value js u i.0 i.1 (f.domains y js s c)) in
    subst (λ w. is_like u w ≡ true) (sym e) (like_number u n (i.1 ∙ ap (λ (k : ℤ). Some k) same))

pub all_fit : (ts : List Tell) → ((x : Ident) → (v : Value) × FitsAll ts x v) → IsConsistent ts
all_fit ts h = record {
  agree = λ x y v w s c d.
      let f = h x in
      alike-trans v f.0 w (alike-sym f.0 v (f.1.values x v itself c)) (f.1.values y w (reversed s) d);
  inhabited = λ x is c.
      let f = h x in
      let i = integer_is is (integer_in f.0) (f.1.domains x is itself c) in
      (i.0, λ y js s d. among_value js f.0 i.0 i.1 (f.1.domains y js (reversed s) d));
  inside = λ x y v is s c d.
      let f = h x in
      let i = integer_is is (integer_in f.0) (f.1.domains y is (reversed s) d) in
      (i.0, sym (alike-integer f.0 v (f.1.values x v itself c)) ∙ i.1, i.2);
}

-- each class of a consistent view
module _ (ts : List Tell) (sound : IsConsistent ts) where
  told_fits : (x : Ident) (v : Value) → Given ts x v → FitsAll ts x v
  told_fits x v g = record {
    values = λ y w s c. sound.agree g.variable y v w (joined g.equal (reversed s)) g.told c;
    domains = λ y js s c. let i = sound.inside g.variable y v js (joined g.equal (reversed s)) g.told c in ap (holds_of (among js)) i.1 ∙ i.2;
  }

  none_told : (x y : Ident) (w : Value) → told_value ts x ≡ None → Same ts y x → Contains ts (Is y w) → ⊥
  none_told x y w e s c = false≢true (sym (ap is_some e) ∙ told_some ts x y w (reversed s) c)

  domain_fits : (x : Ident) (s : IntSet) → told_value ts x ≡ None → told_domain ts x ≡ Some s → (v : Value) × FitsAll ts x v
  domain_fits x s e k =
      let t = head_in (told_sets ts x) s k in
      let b = told_set_by ts x t.0 t.1 in
      let n = sound.inhabited b.variable b.intervals b.tells in (
        integer n.0,
        record {
          values = λ y w p c. absurd (none_told x y w e p c);
          domains = λ y js p c. n.1 y js (joined b.equal (reversed p)) c;
        },
      )

  bare_fits : (x : Ident) → told_value ts x ≡ None → told_domain ts x ≡ None → FitsAll ts x (integer (pos 0))
  bare_fits x e k = record {
    values = λ y w s c. absurd (none_told x y w e s c);
    domains = λ y js s c.
        let some = common-some (told_sets ts x) (union js) (set_told ts x y js s c) in
        absurd (false≢true (ap is_some (sym k ∙ some.1)));
  }

  pub class_fits : (x : Ident) → (v : Value) × FitsAll ts x v
  class_fits x = by (told_value ts x) refl
    where
      by_domain : (o : Option IntSet) → told_value ts x ≡ None → told_domain ts x ≡ o → (v : Value) × FitsAll ts x v
      by_domain None e k = (integer (pos 0), bare_fits x e k)
      by_domain (Some s) e k = domain_fits x s e k

      by : (o : Option Value) → told_value ts x ≡ o → (v : Value) × FitsAll ts x v
      by None e = by_domain (told_domain ts x) e refl
      by (Some v) e = (v, told_fits x v (given_told ts x v e))

  pub known_fits : (x : Ident) (v : Value) → Known ts x v → FitsAll ts x v
  known_fits x v k = let u = class_fits x in fits_like ts x u.0 v (fits_known ts x u.0 v u.1 k) u.1

  pub known_alike : (x y : Ident) (v w : Value) → Same ts x y → Known ts x v → Known ts y w → is_like v w ≡ true
  known_alike x y v w s k l = fits_known ts x v w (known_fits x v k) (known_same ts y x w (reversed s) l)

  -- a class with a known value is determined
  domain_single : (x : Ident) (n : ℤ) (s : IntSet) → OnlyOne ts x n → told_domain ts x ≡ Some s → is_single s ≡ true
  domain_single x n s o e =
      let one : (m : ℤ) → Has s m → m ≡ n = λ m h. o.only m (of_all ts x m (common-has (told_sets ts x) s m e h)) in
      let i = sound.inhabited o.variable o.intervals o.told in
      let has : Has s i.0 = has-common (told_sets ts x) s i.0 e (in_all ts x i.0 (λ y js t c. i.1 y js (joined o.equal (reversed t)) c)) in
      (Decides-int_eq (least s) (greatest s)).1 (one (least s) (has-least s i.0 has) ∙ sym (one (greatest s) (has-greatest s i.0 has)))

  pub known_determined : (x : Ident) (v : Value) → Known ts x v → is_determined ts x ≡ true
  known_determined x v (was_told g) = some_or (told_value ts x) _ (told_some ts x g.variable v (reversed g.equal) g.told)
  known_determined x v (is_only n e o) = by (told_value ts x)
    where
      domain : (s : IntSet) × (told_domain ts x ≡ Some s)
      domain = common-some (told_sets ts x) (union o.intervals) (set_told ts x o.variable o.intervals o.equal o.told)

      by : (u : Option Value) → is_some (given_or u (option_map integer (option_and_then only (told_domain ts x)))) ≡ true
      by None =
          ap (λ d. is_some (option_map integer (option_and_then only d))) domain.1
          ∙ ap (λ (b : Bool). is_some (option_map integer (if b then Some (least domain.0) else None))) (domain_single x n domain.0 o domain.1)
      by (Some u) = refl
