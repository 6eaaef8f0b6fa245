-- Threads, cells and ports of one space that come to those of another.
use Rattle.std.proofs.Common.{◌≡◌, ℕ, zero, suc, ◌+◌, ◌-◌, ◌<◌, ◌≤◌, Bool, true, false, List, [], ◌∷◌, ◌++◌, refl, sym, ap, subst, ◌∙◌, arith, Some, map, take, drop, length, slice_get, slice_index_or}
use Rattle.std.specs.Prelude.{◌||◌}
use Rattle.std.specs.List.{list_all}
use Rattle.std.proofs.lemmas.Option.{slice_get-get_or}
use Rattle.oz_semantics.specs.Configurations.{with_frames}
use Rattle.oz_semantics.specs.Renamings.{Renaming, renamed_thread, renamed_trigger, renamed_propagator, renamed_layer}
use Rattle.oz_semantics.specs.Edits.{joined}
use Rattle.oz_semantics.specs.declared.configuration.Trigger.{Trigger}
use Rattle.cells_ports.specs.Objects.{Contents}
use Rattle.oz_semantics.specs.declared.configuration.Thread.{Thread}
use Rattle.space_core.specs.Constraints.{Held}
use Rattle.space_core.specs.Merging.{raised_by, with_joined, joining_by}
use Rattle.space_core.specs.Shown.{next_with, shown, IsQuiet}
use Rattle.space_core.specs.declared.level.Level.{Level}
use Rattle.space_core.specs.declared.level.Numbers.{Numbers}
use Rattle.space_core.specs.declared.ended.Ended.{Ended}
use Rattle.space_core.specs.declared.ended.Ended.TheVariants.{Nobody, AtMost, Several}
use Rattle.space_core.specs.Threads.{Running, Ascends, goes_on, may_end, with_other, is_noted, IsKept}
use Rattle.std.proofs.lemmas.List.Folds.{list_all-append}
use Rattle.view_laws.proofs.Members.{and_both}
use Rattle.oz_laws.proofs.SameLaws.{and-left, and-right}
use Rattle.space_core.proofs.ThreadLaws.{or_first}
use Rattle.space_core.proofs.RenamedLaws.{kept_renamed}

nested_more : {A B C : Type 0} (f : B → C) (g : A → B) (xs : List A) (n : ℕ) (x : A) → slice_get xs n ≡ Some x → map f (map g (take n xs)) ++ f (g x) ∷ [] ≡ map f (map g (take (suc n) xs))
nested_more f g [] n x e = cc
nested_more f g (y ∷ xs) zero x e = let same : y ≡ x = cc in ap (λ z. f (g z) ∷ []) (sym same)
nested_more f g (y ∷ xs) (suc n) x e = ap (λ zs. f (g y) ∷ zs) (nested_more f g xs n x e)

pub nested_next : {A B C : Type 0} (f : B → C) (g : A → B) (xs : List A) (n : ℕ) (x : A) (z : C) → n < length xs → x ≡ slice_index_or xs n x → z ≡ f (g x)
    → map f (map g (take n xs)) ++ z ∷ [] ≡ map f (map g (take (n + 1) xs))
nested_next f g xs n x z within e is =
    let next : suc n ≡ n + 1 = omega arith in
    ap (λ w. map f (map g (take n xs)) ++ w ∷ []) is
    ∙ nested_more f g xs n x (slice_get-get_or xs n x within ∙ ap (λ w. Some w) (sym e))
    ∙ ap (λ (k : ℕ). map f (map g (take k xs))) next

appended_more : {A : Type 0} (xs ys : List A) (n : ℕ) (y : A) → slice_get ys n ≡ Some y → take n ys ++ y ∷ [] ≡ take (suc n) ys
appended_more xs [] n y e = cc
appended_more xs (z ∷ ys) zero y e = let same : z ≡ y = cc in ap (λ w. w ∷ []) (sym same)
appended_more xs (z ∷ ys) (suc n) y e = ap (λ ws. z ∷ ws) (appended_more xs ys n y e)

behind : {A : Type 0} (xs ys zs : List A) → (xs ++ ys) ++ zs ≡ xs ++ (ys ++ zs)
behind [] ys zs = refl
behind (x ∷ xs) ys zs = ap (λ ws. x ∷ ws) (behind xs ys zs)

pub appended_next : {A : Type 0} (xs ys : List A) (n : ℕ) (y : A) → slice_get ys n ≡ Some y → (xs ++ take n ys) ++ y ∷ [] ≡ xs ++ take (n + 1) ys
appended_next xs ys n y e =
    let next : suc n ≡ n + 1 = omega arith in
    behind xs (take n ys) (y ∷ []) ∙ ap (λ zs. xs ++ zs) (appended_more xs ys n y e ∙ ap (λ (k : ℕ). take k ys) next)

-- Threads

ascends_low : (low high : ℕ) (ts : List Thread) → Ascends low high ts → low ≤ high
ascends_low low high [] h = h
ascends_low low high (t ∷ ts) h = let a = h.0 in let b = ascends_low (t.number + 1) high ts h.1 in omega (arith, a, b)

ascends_raised : (by low high : ℕ) (ts : List Thread) → Ascends low high ts → (a b : ℕ) → a ≤ low + by → high + by ≤ b → Ascends a b (map (raised_by by) ts)
ascends_raised by low high [] h a b p q = let r : low ≤ high = h in omega (arith, r, p, q)
ascends_raised by low high (t ∷ ts) h a b p q =
    let r : low ≤ t.number = h.0 in
    (omega (arith, r, p), ascends_raised by (t.number + 1) high ts h.1 (t.number + by + 1) b (omega arith) q)

ascends_both : (low mid high : ℕ) (ts us : List Thread) → Ascends low mid ts → Ascends mid high us → Ascends low high (ts ++ us)
ascends_both low mid high [] us h k = lower us h k
  where
    lower : (us : List Thread) → low ≤ mid → Ascends mid high us → Ascends low high us
    lower [] p q = let r : mid ≤ high = q in omega (arith, p, r)
    lower (u ∷ us) p q = let r : mid ≤ u.number = q.0 in (omega (arith, p, r), q.1)
ascends_both low mid high (t ∷ ts) us h k = (h.0, ascends_both (t.number + 1) mid high ts us h.1 k)

any_noted : (ts : List Thread) → list_all (is_noted Several) ts ≡ true
any_noted [] = refl
any_noted (t ∷ ts) = and_both _ _ (by (goes_on t)) (any_noted ts)
  where
    by : (b : Bool) → (b || true) ≡ true
    by true = refl
    by false = refl

raised_noted : (by : ℕ) (ended : Ended) (us : List Thread) → list_all (is_noted Nobody) us ≡ true → list_all (is_noted ended) (map (raised_by by) us) ≡ true
raised_noted by ended [] h = refl
raised_noted by ended (u ∷ us) h =
    and_both _ _ (ap (λ (b : Bool). b || may_end ended (u.number + by)) (or_first (goes_on u) false refl (and-left _ _ h))) (raised_noted by ended us (and-right (is_noted Nobody u) _ h))

joined_noted : (by : ℕ) (ts us : List Thread) (ended more : Ended) → list_all (is_noted ended) ts ≡ true → list_all (is_noted more) us ≡ true → list_all (is_noted (with_other more ended)) (ts ++ map (raised_by by) us) ≡ true
joined_noted by ts us ended Nobody h k = list_all-append (is_noted ended) ts (map (raised_by by) us) ∙ and_both _ _ h (raised_noted by ended us k)
joined_noted by ts us ended (AtMost one) h k = any_noted (ts ++ map (raised_by by) us)
joined_noted by ts us ended Several h k = any_noted (ts ++ map (raised_by by) us)

pub kept_joined : (r : Renaming) (ts us : List Thread) (next other : ℕ) (ended more : Ended) → IsKept ts next ended → IsKept us other more
    → IsKept (ts ++ map (raised_by (next - 1)) (map (renamed_thread r) us)) (next + (other - 1)) (with_other more ended)
kept_joined r ts us next other ended more h k =
    let g = kept_renamed r us other more k in
    let a : 1 ≤ next = ascends_low 1 next ts h.ascends in
    let b : 1 ≤ other = ascends_low 1 other us k.ascends in
    record {
      ascends = ascends_both 1 next (next + (other - 1)) ts (map (raised_by (next - 1)) (map (renamed_thread r) us)) h.ascends
          (ascends_raised (next - 1) 1 other (map (renamed_thread r) us) g.ascends next (next + (other - 1)) (omega (arith, a)) (omega (arith, a, b)));
      noted = joined_noted (next - 1) ts (map (renamed_thread r) us) ended more h.noted g.noted;
    }

-- none is left
pub kept_none : (ts : List Thread) (next : ℕ) (ended : Ended) → IsKept ts next ended → IsKept [] next ended
kept_none ts next ended h = record { ascends = ascends_low 1 next ts h.ascends; noted = refl }

-- What is kept of a space that all of a child came to
module _ (r : Renaming) (child l m : Level) (number : ℕ) (q : IsQuiet (with_frames number (λ stack. drop 1 stack)) l m)
    (threads : Running) (are_threads : threads ≡ with_joined r child.threads m.threads)
    (triggers : List Trigger) (are_triggers : triggers ≡ m.triggers ++ map (renamed_trigger r) child.triggers)
    (held : Held) (is_held : held ≡ record m.constraints { propagators = m.constraints.propagators ++ map (renamed_propagator r) child.constraints.propagators })
    (objects : Contents) (are_objects : objects ≡ record { cells = m.objects.cells ++ map r.variable child.objects.cells; ports = m.objects.ports ++ map r.variable child.objects.ports })
    (numbers : Numbers) (are_numbers : numbers ≡ record {
      variable = m.numbers.variable + child.numbers.variable;
      procedure = m.numbers.procedure + (child.numbers.procedure - 1);
      name = m.numbers.name + (child.numbers.name - 1);
      child = m.numbers.child + (child.numbers.child - 1);
    }) where
  abbrev new : Level
  new = record m { constraints = held; threads = threads; triggers = triggers; objects = objects; numbers = numbers }

  shows_joined : shown new ≡ joined (renamed_layer r (shown child)) (shown m)
  shows_joined = λ i. record {
    space = m.space;
    status = m.status;
    tells = drop m.told_from (is_held i).store;
    threads = (are_threads i).list;
    triggers = are_triggers i;
    propagators = (is_held i).propagators;
    cells = (are_objects i).cells;
    ports = (are_objects i).ports;
    next = next_with (are_threads i).next (are_numbers i);
  }

  pub joins_quietly : IsQuiet (joining_by r (shown child) number) l new
  joins_quietly =
      let a : numbers.variable ≡ m.numbers.variable + child.numbers.variable = ap (λ (n : Numbers). n.variable) are_numbers in
      let b : numbers.child ≡ m.numbers.child + (child.numbers.child - 1) = ap (λ (n : Numbers). n.child) are_numbers in
      record {
        becomes = shows_joined ∙ ap (joined (renamed_layer r (shown child))) q.becomes;
        space = q.space;
        store = ap (λ (h : Held). h.store) is_held ∙ q.store;
        told_from = q.told_from;
        touched = q.touched;
        traced = q.traced;
        knows = q.knows;
        bare = q.bare;
        variables = omega (arith, a, q.variables);
        children = omega (arith, b, q.children);
      }

-- by what they came to
pub kept_by : (r : Renaming) (ts us : List Thread) (next other : ℕ) (ended more : Ended) → IsKept ts next ended → IsKept us other more → (after : List Thread) → after ≡ ts ++ map (raised_by (next - 1)) (map (renamed_thread r) us)
    → (n : ℕ) → n ≡ next + (other - 1) → (now : Ended) → now ≡ with_other more ended → IsKept after n now
kept_by r ts us next other ended more h k after e n f now s =
    subst (IsKept after n) (sym s)
    (subst (λ (vs : List Thread). IsKept vs n (with_other more ended)) (sym e)
    (subst (λ (m : ℕ). IsKept (ts ++ map (raised_by (next - 1)) (map (renamed_thread r) us)) m (with_other more ended)) (sym f) (kept_joined r ts us next other ended more h k)))
