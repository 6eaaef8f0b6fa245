-- Parts of sets of integers.
use Rattle.std.proofs.Common.{◌≡◌, ℕ, zero, suc, ◌-◌, ◌≤◌, ℤ, Bool, true, false, cond, not, ◌&&◌, List, [], ◌∷◌, Contains, refl, sym, ◌∙◌, ap, subst, arith}
use Rattle.std.proofs.lemmas.Int.{ints}
use Rattle.std.specs.Ordering.{int_cmp, int_eq, eq_by_cmp, is_eq}
use Rattle.std.specs.Cmp.{int_cmp_total, Equal-is, tied_itself}
use Rattle.std.specs.FinSet as set
use Rattle.std.specs.FinSet.{int_cmp-IsAntisymmetric}
use Rattle.oz_domains.specs.Domains.{IntSet, Has, least, greatest, is_single, IsDomain}
use Rattle.fd_domain.proofs.SetLaws.{has-item, item-has, same_members, has-least, has-greatest, least-below, greatest-above, and_left, and_right, and_both}

abbrev pub IsPart : IntSet → IntSet → Type 0
IsPart s t = (q : ℤ) → Has s q → Has t q

pub int_same : (a b : ℤ) → int_eq a b ≡ true → a ≡ b
int_same a b t = int_cmp-IsAntisymmetric a b ((Equal-is (int_cmp a b)).0 t)

pub same_int : (a b : ℤ) → a ≡ b → int_eq a b ≡ true
same_int a b e = ap (λ z. int_eq a z) (sym e) ∙ ap is_eq (tied_itself int_cmp_total a)

-- ---- how many members

none_in : (q : ℤ) → Contains [] q → ⊥
none_in q c = (let l = c.1 in omega arith)

some_of : (s : IntSet) (items : List ℤ) → set.items s ≡ items → (set.len s ≡ 0 → ⊥) → (q : ℤ) × Has s q
some_of s [] e n =
    let none = λ (q : ℤ) (h : Has s q). absurd (none_in q (subst (λ xs. Contains xs q) e (has-item s q h))) in
    let same : s ≡ set.empty = same_members s set.empty none (λ q h. let f = set.contains-empty int_cmp q in cc) in
    absurd (n (ap set.len same ∙ set.len-empty int_cmp))
some_of s (x ∷ xs) e n = (x, item-has s x (subst (λ ys. Contains ys x) (sym e) (0, omega arith, refl)))

-- a set that is not empty has a member
pub some_member : (s : IntSet) → (set.len s ≡ 0 → ⊥) → (q : ℤ) × Has s q
some_member s n = some_of s (set.items s) refl n

pub has_some : (s : IntSet) (q : ℤ) → Has s q → set.len s ≡ 0 → ⊥
has_some s q h e = (let f = set.contains-empty int_cmp q in let g : set.contains set.empty q ≡ true = subst (λ z. Has z q) (set.empty_of_len s e) h in cc)

module _ (s t : IntSet) (x : ℤ) (hs : Has s x) (ht : Has t x) where
  fewer : (r : IntSet) → Has r x → set.len (set.remove r x) ≡ set.len r - 1
  fewer r h = set.len-remove int_cmp_total r x ∙ ap (λ b. cond b (set.len r - 1) (set.len r)) h

  part_without : IsPart s t → IsPart (set.remove s x) (set.remove t x)
  part_without p q h =
      let g = sym (set.contains-remove int_cmp_total s x q) ∙ h in
      set.contains-remove int_cmp_total t x q ∙ and_both _ _ (and_left (not (eq_by_cmp int_cmp q x)) _ g) (p q (and_right (not (eq_by_cmp int_cmp q x)) _ g))

  same_with : IsPart s t → set.remove s x ≡ set.remove t x → s ≡ t
  same_with p e = same_members s t p (λ q h. by q h (eq_by_cmp int_cmp q x) refl) where
    by : (q : ℤ) → Has t q → (b : Bool) → eq_by_cmp int_cmp q x ≡ b → Has s q
    by q h true f = subst (Has s) (sym (int_cmp-IsAntisymmetric q x ((Equal-is (int_cmp q x)).0 f))) hs
    by q h false f =
        let g : Has (set.remove t x) q = set.contains-remove int_cmp_total t x q ∙ ap (λ b. not b && set.contains t q) f ∙ h in
        let k : Has (set.remove s x) q = subst (λ z. Has z q) (sym e) g in
        and_right (not (eq_by_cmp int_cmp q x)) _ (sym (set.contains-remove int_cmp_total s x q) ∙ k)

-- a part has no more members, and where it has as many it is the whole
pub part_len : (n : ℕ) (s t : IntSet) → set.len s ≡ n → IsPart s t → (set.len s ≤ set.len t) × (set.len t ≤ set.len s → s ≡ t)
part_len zero s t e p = (omega arith, λ l. set.empty_of_len s e ∙ sym (set.empty_of_len t (omega (arith, l))))
part_len (suc n) s t e p =
    let some = some_member s (λ z. omega (arith, z)) in
    let x = some.0 in
    let h = some.1 in
    let k = p x h in
    let a = fewer s t x h k s h in
    let b = fewer s t x h k t k in
    let c = has_some t x k in
    let again = part_len n (set.remove s x) (set.remove t x) (omega arith) (part_without s t x h k p) in
    let d = again.0 in
    (omega (arith, c), λ l. same_with s t x h k p (again.1 (omega (arith, l))))

-- ---- parts of domains

pub domain_part : (s m : IntSet) (q : ℤ) → IsDomain s → Has m q → IsPart m s → IsDomain m
domain_part s m q k h p = record {
  some = has-least m q h;
  low = (let a = least-below s (least m) (p (least m) (has-least m q h)) in let b = k.low in omega (arith, ints));
  high = (let a = greatest-above s (greatest m) (p (greatest m) (has-greatest m q h)) in let b = k.high in omega (arith, ints));
}

-- ---- determined domains

pub single_value : (d : IntSet) (v : ℤ) → is_single d ≡ true → Has d v → v ≡ least d
single_value d v e h = (let s = int_same (least d) (greatest d) e in let a = least-below d v h in let b = greatest-above d v h in omega (arith, ints))

-- what all members equal
pub is_single_of : (d : IntSet) (q v : ℤ) → Has d q → ((w : ℤ) → Has d w → w ≡ v) → is_single d ≡ true
is_single_of d q v h a = same_int (least d) (greatest d) (a (least d) (has-least d q h) ∙ sym (a (greatest d) (has-greatest d q h)))

-- a part of a single set that is not empty is the set
pub single_part : (s m : IntSet) (q : ℤ) → is_single s ≡ true → Has m q → IsPart m s → m ≡ s
single_part s m q e h p = same_members m s p (λ v k. subst (Has m) (single_value s q e (p q h) ∙ sym (single_value s v e k)) h)
