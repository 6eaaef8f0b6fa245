-- A map in which each value gives way to another.
use Rattle.std.proofs.Common.{◌≡◌, ℕ, suc, zero, Bool, true, false, cond, ◌&&◌, ◌/◌, ◌%◌, ◌^◌, T, List, [], ◌∷◌, map, length, Option, Some, None, refl, sym, ap, subst, ◌∙◌, arith, ⊎_elim}
use Rattle.std.specs.Prelude.{option_map}
use Rattle.std.specs.Ordering.{nat_cmp, eq_by_cmp, is_lt}
use Rattle.std.specs.FinMap as maps
use Rattle.std.specs.FinMap.Entries.{below_all}
use Rattle.std.proofs.Math.Path.{fun_ext}
use Rattle.std.proofs.lemmas.Cmp.{nat_cmp_total}
use Rattle.std.proofs.lemmas.Bool.{cases_lt}
use Rattle.shared_map.specs.Whole.{whole}
use Rattle.shared_map.specs.Lookup.{choice, join, nothing}
use Rattle.shared_map.specs.Changes.{changed_at, changed_values}
use Rattle.shared_map.proofs.Joins.{choice_beyond, joined}
use Rattle.shared_map.proofs.Wholes.{get_whole, get_whole_above}

-- what is chosen of four changed values is the change of what is chosen of them
choice_under : {X Y : Type 0} (f : X → Y) (i : ℕ) (a b c d e : X) → choice i (f a) (f b) (f c) (f d) (f e) ≡ f (choice i a b c d e)
choice_under f zero a b c d e = refl
choice_under f (suc zero) a b c d e = refl
choice_under f (suc (suc zero)) a b c d e = refl
choice_under f (suc (suc (suc zero))) a b c d e = refl
choice_under f (suc (suc (suc (suc i)))) a b c d e =
    choice_beyond (suc (suc (suc (suc i)))) (f a) (f b) (f c) (f d) (f e) (omega arith)
    ∙ sym (ap f (choice_beyond (suc (suc (suc (suc i)))) a b c d e (omega arith)))

join_changed : {V : Type 0} (f : V → V) (p : ℕ) (a b c d : ℕ → Option V) → join p (changed_at f a) (changed_at f b) (changed_at f c) (changed_at f d) ≡ changed_at f (join p a b c d)
join_changed f p a b c d = fun_ext (λ k. choice_under (option_map f) (k / p) (a (k % p)) (b (k % p)) (c (k % p)) (d (k % p)) None)

-- four changed functions side by side
pub changed_join : {V : Type 0} (f : V → V) (p : ℕ) (a b c d a' b' c' d' : ℕ → Option V) → a' ≡ changed_at f a → b' ≡ changed_at f b → c' ≡ changed_at f c → d' ≡ changed_at f d → join p a' b' c' d' ≡ changed_at f (join p a b c d)
changed_join f p a b c d a' b' c' d' ea eb ec ed =
    joined p a' b' c' d' (changed_at f a) (changed_at f b) (changed_at f c) (changed_at f d) ea eb ec ed ∙ join_changed f p a b c d

-- a tree holds the same as its node, or nothing where that is no node of its height
pub changed_above : {V : Type 0} (f : V → V) (b : Bool) (g g' : ℕ → Option V) → g' ≡ changed_at f g → cond b nothing g' ≡ changed_at f (cond b nothing g)
changed_above f true g g' e = refl
changed_above f false g g' e = e

cond_changed : {V : Type 0} (f : V → V) (b : Bool) (x : V) (o : Option V) → cond b (Some (f x)) (option_map f o) ≡ option_map f (cond b (Some x) o)
cond_changed f true x o = refl
cond_changed f false x o = refl

find_changed : {V : Type 0} (f : V → V) (q : ℕ) (es : List (ℕ × V)) → maps.find nat_cmp q (map (λ (e : ℕ × V). (e.0, f e.1)) es) ≡ option_map f (maps.find nat_cmp q es)
find_changed f q [] = refl
find_changed f q (e ∷ es) =
    ap (cond (eq_by_cmp nat_cmp q e.0) (Some (f e.1))) (find_changed f q es) ∙ cond_changed f (eq_by_cmp nat_cmp q e.0) e.1 (maps.find nat_cmp q es)

-- what the changed map has at a number
pub get_changed : {V : Type 0} (f : V → V) (m : maps.FinMap nat_cmp V) (q : ℕ) → maps.get (changed_values f m) q ≡ option_map f (maps.get m q)
get_changed f m q = maps.get-from_entries nat_cmp_total _ q ∙ find_changed f q (maps.entries m) ∙ ap (option_map f) (sym (maps.get-entries m q))

below_changed : {V : Type 0} (f : V → V) (x : ℕ) (es : List (ℕ × V)) → below_all nat_cmp x (map (λ (e : ℕ × V). (e.0, f e.1)) es) ≡ below_all nat_cmp x es
below_changed f x [] = refl
below_changed f x (e ∷ es) = ap (λ b. is_lt (nat_cmp x e.0) && b) (below_changed f x es)

sorted_changed : {V : Type 0} (f : V → V) (es : List (ℕ × V)) → maps.is_sorted nat_cmp (map (λ (e : ℕ × V). (e.0, f e.1)) es) ≡ maps.is_sorted nat_cmp es
sorted_changed f [] = refl
sorted_changed f (e ∷ es) =
    ap (λ b. b && maps.is_sorted nat_cmp (map (λ (e : ℕ × _). (e.0, f e.1)) es)) (below_changed f e.0 es)
    ∙ ap (λ b. below_all nat_cmp e.0 es && b) (sorted_changed f es)

-- the map of entries in order has these entries
entries_made : {V : Type 0} (es : List (ℕ × V)) → T (maps.is_sorted nat_cmp es) → maps.entries (maps.from_entries {R = nat_cmp} es) ≡ es
entries_made es sorted =
    ap maps.entries (maps.same_map nat_cmp_total maps.nat_cmp-IsAntisymmetric (maps.from_entries es) (maps.from_sorted es)
    (λ q. maps.get-from_entries nat_cmp_total es q ∙ sym (maps.get-from_sorted nat_cmp es q sorted)))
    ∙ maps.entries-from_sorted nat_cmp es sorted

length_changed : {V : Type 0} (f : V → V) (es : List (ℕ × V)) → length {A = ℕ × V} (map (λ (e : ℕ × V). (e.0, f e.1)) es) ≡ length es
length_changed f [] = refl
length_changed f (e ∷ es) = ap suc (length_changed f es)

len_changed : {V : Type 0} (f : V → V) (m : maps.FinMap nat_cmp V) → maps.len (changed_values f m) ≡ maps.len m
len_changed f m =
    maps.len-entries (changed_values f m)
    ∙ ap length (entries_made _ (subst T (sym (sorted_changed f (maps.entries m))) (maps.entries_sorted m)))
    ∙ length_changed f (maps.entries m) ∙ sym (maps.len-entries m)

whole_changed : {V : Type 0} (f : V → V) (g : ℕ → Option V) → whole (changed_at f g) ≡ changed_values f (whole g)
whole_changed f g =
    maps.same_map nat_cmp_total maps.nat_cmp-IsAntisymmetric _ _
    (λ q. ⊎_elim
    (λ less. get_whole (changed_at f g) q less ∙ ap (option_map f) (sym (get_whole g q less)))
    (λ above. get_whole_above (changed_at f g) q above ∙ ap (option_map f) (sym (get_whole_above g q above)))
    (cases_lt q (2 ^ 64))
    ∙ sym (get_changed f (whole g) q))

-- the map after a change, and the number of its entries
pub whole_after : {V : Type 0} (f : V → V) (g g' : ℕ → Option V) (m : maps.FinMap nat_cmp V) → g' ≡ changed_at f g → whole g ≡ m → whole g' ≡ changed_values f m
whole_after f g g' m e is = ap whole e ∙ whole_changed f g ∙ ap (changed_values f) is

pub count_after : {V : Type 0} (f : V → V) (g g' : ℕ → Option V) (n : ℕ) → g' ≡ changed_at f g → n ≡ maps.len (whole g) → n ≡ maps.len (whole g')
count_after f g g' n e count = count ∙ sym (ap maps.len (ap whole e ∙ whole_changed f g) ∙ len_changed f (whole g))

-- four functions side by side that a change leaves
pub kept_join : {V : Type 0} (f : V → V) (p : ℕ) (a b c d : ℕ → Option V) → changed_at f a ≡ a → changed_at f b ≡ b → changed_at f c ≡ c → changed_at f d ≡ d → changed_at f (join p a b c d) ≡ join p a b c d
kept_join f p a b c d ea eb ec ed = sym (changed_join f p a b c d a b c d (sym ea) (sym eb) (sym ec) (sym ed))

pub kept_above : {V : Type 0} (f : V → V) (b : Bool) (g : ℕ → Option V) → changed_at f g ≡ g → changed_at f (cond b nothing g) ≡ cond b nothing g
kept_above f true g e = refl
kept_above f false g e = e
