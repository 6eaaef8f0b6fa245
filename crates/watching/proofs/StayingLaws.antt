-- A variable that has a domain keeps one where more is told and all is consistent.
use Rattle.std.proofs.Common.{◌≡◌, ℤ, true, List, ◌++◌, refl, sym, ap, ◌∙◌, Contains, Option, Some, None, is_some, option_map}
use Rattle.std.proofs.lemmas.Bool.{false≢true}
use Rattle.oz_base.specs.declared.names.Ident.{Ident}
use Rattle.oz_base.specs.declared.interval.Interval.{Interval}
use Rattle.oz_domains.specs.Domains.{IntSet, union, single}
use Rattle.oz_semantics.specs.Values.{is_like, integer_in}
use Rattle.oz_semantics.specs.Store.{Same, reversed, joined, IsConsistent, is_consistent, told_value, told_domain, domain_by, domain_of}
use Rattle.oz_semantics.specs.declared.value.Value.{Value}
use Rattle.oz_semantics.specs.declared.value.Tell.{Tell}
use Rattle.oz_semantics.specs.declared.value.Tell.TheVariants.{Is, Within}
use Rattle.oz_laws.proofs.AlikeLaws.{alike-integer}
use Rattle.oz_laws.proofs.DomainLaws.{common-some}
use Rattle.oz_laws.proofs.StoreLaws.{tests_consistent, told_value_by, told_sets, set_told, told_set_by}
use Rattle.view_laws.proofs.Members.{has-left}
use Rattle.view_laws.proofs.ViewLaws.{same_kept, told_some, some_is}
use Rattle.view_laws.proofs.KnownLaws.{head_in}

single_some : (o : Option ℤ) (n : ℤ) → o ≡ Some n → is_some (option_map single o) ≡ true
single_some None n e = cc
single_some (Some m) n e = refl

some_single : (o : Option ℤ) → is_some (option_map single o) ≡ true → (n : ℤ) × (o ≡ Some n)
some_single None e = absurd (false≢true e)
some_single (Some n) e = (n, refl)

some_set : (o : Option IntSet) → is_some o ≡ true → (s : IntSet) × (o ≡ Some s)
some_set None e = absurd (false≢true e)
some_set (Some s) e = (s, refl)

module _ (ts : List Tell) (c : IsConsistent ts) (x y : Ident) (s : Same ts y x) where
  -- its class was told an integer
  pub domain_told : (v : Value) (n : ℤ) → Contains ts (Is y v) → integer_in v ≡ Some n → is_some (domain_of ts x) ≡ true
  domain_told v n h e =
      let w = some_is (told_value ts x) (told_some ts x y v (reversed s) h) in
      let t = told_value_by ts x w.0 w.1 in
      let like : is_like v w.0 ≡ true = c.agree y t.variable v w.0 (joined s (reversed t.equal)) h t.tells in
      ap (λ o. is_some (domain_by o (told_domain ts x))) w.1 ∙ single_some (integer_in w.0) n (sym (alike-integer v w.0 like) ∙ e)

  by_value : (js : List Interval) → Contains ts (Within y js) → (o : Option Value) → told_value ts x ≡ o → is_some (domain_by o (told_domain ts x)) ≡ true
  by_value js h None e = ap is_some (common-some (told_sets ts x) (union js) (set_told ts x y js s h)).1
  by_value js h (Some w) e =
      let t = told_value_by ts x w e in
      let n = c.inside t.variable y w js (joined t.equal (reversed s)) t.tells h in
      single_some (integer_in w) n.0 n.1

  -- or a domain
  pub domain_bound : (js : List Interval) → Contains ts (Within y js) → is_some (domain_of ts x) ≡ true
  domain_bound js h = by_value js h (told_value ts x) refl

module _ (before more : List Tell) (e : is_consistent (before ++ more) ≡ true) (x : Ident) where
  abbrev after : List Tell
  after = before ++ more

  keeps : {a b : Ident} → Same before a b → Same after a b
  keeps s = same_kept before after (λ t c. has-left t before more c) s

  consistent : IsConsistent after
  consistent = (tests_consistent after).0 e

  stays_by : (o : Option Value) → told_value before x ≡ o → is_some (domain_by o (told_domain before x)) ≡ true → is_some (domain_of after x) ≡ true
  stays_by None none d =
      let s = some_set (told_domain before x) d in
      let t = head_in (told_sets before x) s.0 s.1 in
      let b = told_set_by before x t.0 t.1 in
      domain_bound after consistent x b.variable (keeps b.equal) b.intervals (has-left (Within b.variable b.intervals) before more b.tells)
  stays_by (Some v) some d =
      let n = some_single (integer_in v) d in
      let t = told_value_by before x v some in
      domain_told after consistent x t.variable (keeps t.equal) v n.0 (has-left (Is t.variable v) before more t.tells) n.1

  pub domain_stays : is_some (domain_of before x) ≡ true → is_some (domain_of after x) ≡ true
  domain_stays d = stays_by (told_value before x) refl d
