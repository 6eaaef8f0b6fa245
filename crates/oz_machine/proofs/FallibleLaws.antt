-- How many spaces may fail tells whether one failed.
use Rattle.std.proofs.Common.{◌≡◌, ◌∙◌, ℕ, ◌+◌, ◌<◌, ◌≤◌, not, Bool, true, false, cond, List, [], ◌∷◌, filter, map, length, take, Some, refl, sym, ap, arith, inl, inr}
use Rattle.std.specs.Prelude.{slice_get}
use Rattle.std.specs.List.{fold}
use Rattle.std.proofs.lemmas.List.Filters.{length-filter_more}
use Rattle.std.proofs.lemmas.Option.{get_or_from_slice_get}
use Rattle.oz_base.specs.Lists.{list_eq}
use Rattle.oz_base.specs.ListLaws.{list_eq-decides}
use Rattle.oz_semantics.specs.Names.{is_properly_below}
use Rattle.oz_semantics.specs.Store.{is_consistent}
use Rattle.oz_semantics.specs.Configurations.{layer_at, in_layer, failed, view, telling}
use Rattle.oz_semantics.specs.Settling.{may_fail, is_inconsistent, inconsistent_spaces, failing, without_inconsistent}
use Rattle.oz_semantics.specs.declared.value.Tell.{Tell}
use Rattle.oz_semantics.specs.declared.configuration.Status.{Status}
use Rattle.oz_semantics.specs.declared.configuration.Layer.{Layer}
use Rattle.oz_laws.proofs.SameLaws.{In, and-left}
use Rattle.view_laws.specs.Trees.{IsTree}
use Rattle.view_laws.proofs.NameLaws.{properly}
use Rattle.turn_laws.proofs.HeadLaws.{find_layer}
use Rattle.stability.proofs.PlaceLaws.{item_at}
use Rattle.oz_machine.specs.Propagating.{fallible}

-- with one layer more in front
one_more : (l : Layer) (ls : List Layer) → fallible (l ∷ ls) ≡ cond (may_fail l.status) 1 0 + fallible ls
one_more l ls = by (may_fail l.status) refl
  where
    by : (b : Bool) → may_fail l.status ≡ b → length (cond b (l ∷ filter (λ (m : Layer). may_fail m.status) ls) (filter (λ (m : Layer). may_fail m.status) ls)) ≡ cond b 1 0 + fallible ls
    by true e = omega arith
    by false e = omega arith

-- less where some are left out
fewer : (keep : Layer → Bool) (ls : List Layer) → fallible (filter keep ls) ≤ fallible ls
fewer keep [] = omega arith
fewer keep (l ∷ ls) = by (keep l) refl (fewer keep ls)
  where
    by : (b : Bool) → keep l ≡ b → fallible (filter keep ls) ≤ fallible ls → fallible (cond b (l ∷ filter keep ls) (filter keep ls)) ≤ fallible (l ∷ ls)
    by true e h = omega (arith, h, one_more l (filter keep ls), one_more l ls)
    by false e h = omega (arith, h, one_more l ls)

-- and where one fails
fails_fewer : (space : List ℕ) (ls : List Layer) → fallible (in_layer space failed ls) ≤ fallible ls
fails_fewer space [] = omega arith
fails_fewer space (l ∷ ls) = by (list_eq l.space space) refl (fails_fewer space ls)
  where
    none : fallible (failed l ∷ ls) ≡ fallible ls
    none = refl

    by : (b : Bool) → list_eq l.space space ≡ b → fallible (in_layer space failed ls) ≤ fallible ls → fallible (cond b (failed l ∷ ls) (l ∷ in_layer space failed ls)) ≤ fallible (l ∷ ls)
    by true e h = omega (arith, none, one_more l ls)
    by false e h = omega (arith, h, one_more l (in_layer space failed ls), one_more l ls)

-- one less, where it could
one_fewer : (space : List ℕ) (ls : List Layer) (l : Layer) → layer_at ls space ≡ Some l → may_fail l.status ≡ true → fallible (in_layer space failed ls) < fallible ls
one_fewer space [] l e h = cc
one_fewer space (m ∷ ls) l e h = by (list_eq m.space space) refl e (one_fewer space ls l)
  where
    none : fallible (failed m ∷ ls) ≡ fallible ls
    none = refl

    by : (b : Bool) → list_eq m.space space ≡ b → cond b (Some m) (layer_at ls space) ≡ Some l → (layer_at ls space ≡ Some l → may_fail l.status ≡ true → fallible (in_layer space failed ls) < fallible ls)
        → fallible (cond b (failed m ∷ ls) (m ∷ in_layer space failed ls)) < fallible (m ∷ ls)
    by true k q rest =
        let same : m ≡ l = cc in
        let one : fallible (m ∷ ls) ≡ 1 + fallible ls = one_more m ls ∙ ap (λ (b : Bool). cond b 1 0 + fallible ls) (ap (λ (n : Layer). may_fail n.status) same ∙ h) in
        omega (arith, none, one)
    by false k q rest = let less = rest q h in omega (arith, less, one_more m (in_layer space failed ls), one_more m ls)

fails_some : (space : List ℕ) (ls : List Layer) → fallible (failing ls space) ≤ fallible ls
fails_some space ls =
    let kept = filter (λ (l : Layer). not (is_properly_below space l.space)) ls in
    omega (arith, fails_fewer space kept, fewer (λ (l : Layer). not (is_properly_below space l.space)) ls)

all_fail : (spaces : List (List ℕ)) (ls : List Layer) → fallible (fold failing ls spaces) ≤ fallible ls
all_fail [] ls = omega arith
all_fail (s ∷ ss) ls = omega (arith, all_fail ss (failing ls s), fails_some s ls)

-- the space stays the first of its name, where those below it are left out
first_kept : (space : List ℕ) (keep : Layer → Bool) (ls : List Layer) (l : Layer) → ((m : Layer) → list_eq m.space space ≡ true → keep m ≡ true) → layer_at ls space ≡ Some l
    → layer_at (filter keep ls) space ≡ Some l
first_kept space keep [] l own e = e
first_kept space keep (m ∷ ls) l own e = by (list_eq m.space space) refl e (first_kept space keep ls l own)
  where
    by : (b : Bool) → list_eq m.space space ≡ b → cond b (Some m) (layer_at ls space) ≡ Some l → (layer_at ls space ≡ Some l → layer_at (filter keep ls) space ≡ Some l)
        → layer_at (filter keep (m ∷ ls)) space ≡ Some l
    by true k q rest = ap (λ (b : Bool). layer_at (cond b (m ∷ filter keep ls) (filter keep ls)) space) (own m k) ∙ ap (λ (b : Bool). cond b (Some m) (layer_at (filter keep ls) space)) k ∙ q
    by false k q rest = later (keep m) refl
      where
        later : (b : Bool) → keep m ≡ b → layer_at (cond b (m ∷ filter keep ls) (filter keep ls)) space ≡ Some l
        later true g = ap (λ (b : Bool). cond b (Some m) (layer_at (filter keep ls) space)) k ∙ rest q
        later false g = rest q

not_below_itself : (s t : List ℕ) → t ≡ s → is_properly_below s t ≡ false
not_below_itself s t e = by (is_properly_below s t) refl
  where
    by : (b : Bool) → is_properly_below s t ≡ b → b ≡ false
    by true k = absurd ((properly s t k).1 (sym e))
    by false k = refl

fails_it : (space : List ℕ) (ls : List Layer) (l : Layer) → layer_at ls space ≡ Some l → may_fail l.status ≡ true → fallible (failing ls space) < fallible ls
fails_it space ls l e h =
    let keep : Layer → Bool = λ m. not (is_properly_below space m.space) in
    let there = first_kept space keep ls l (λ m k. ap not (not_below_itself space m.space ((list_eq-decides m.space space).0 k))) e in
    omega (arith, one_fewer space (filter keep ls) l there h, fewer keep ls)

failed_layer : (ls all : List Layer) (s : List ℕ) (ss : List (List ℕ)) → map (λ (l : Layer). l.space) (filter (is_inconsistent all) ls) ≡ s ∷ ss → (l : Layer) × In l ls × (l.space ≡ s) × (may_fail l.status ≡ true)
failed_layer [] all s ss e = cc
failed_layer (m ∷ ls) all s ss e = by (is_inconsistent all m) refl e (failed_layer ls all s ss)
  where
    by : (b : Bool) → is_inconsistent all m ≡ b → map (λ (l : Layer). l.space) (cond b (m ∷ filter (is_inconsistent all) ls) (filter (is_inconsistent all) ls)) ≡ s ∷ ss
        → (map (λ (l : Layer). l.space) (filter (is_inconsistent all) ls) ≡ s ∷ ss → (l : Layer) × In l ls × (l.space ≡ s) × (may_fail l.status ≡ true))
        → (l : Layer) × In l (m ∷ ls) × (l.space ≡ s) × (may_fail l.status ≡ true)
    by true k q rest = (m, inl refl, cc, and-left (may_fail m.status) (not (is_consistent (view all m.space))) k)
    by false k q rest = let f = rest q in (f.0, inr f.1, f.2, f.3)

-- where as many may fail as before, none did
pub none_failed : (before : List Layer) → IsTree before → fallible (without_inconsistent before) ≡ fallible before → without_inconsistent before ≡ before
none_failed before tree e = by (inconsistent_spaces before) refl
  where
    by : (ss : List (List ℕ)) → inconsistent_spaces before ≡ ss → without_inconsistent before ≡ before
    by [] k = ap (fold failing before) k
    by (s ∷ ss) k =
        let found = failed_layer before before s ss k in
        let there : layer_at before s ≡ Some found.0 = ap (layer_at before) (sym found.2) ∙ find_layer before found.0 tree.ordered found.1 in
        let less = fails_it s before found.0 there found.3 in
        let all = all_fail ss (failing before s) in
        let same : fallible (fold failing (failing before s) ss) ≡ fallible before = ap (λ (xs : List (List ℕ)). fallible (fold failing before xs)) (sym k) ∙ e in
        absurd (omega (arith, less, all, same))

-- what is told changes no status
pub told_fallible : (space : List ℕ) (ts : List Tell) (ls : List Layer) → fallible (in_layer space (telling ts) ls) ≡ fallible ls
told_fallible space ts [] = refl
told_fallible space ts (l ∷ ls) = by (list_eq l.space space) refl (told_fallible space ts ls)
  where
    own : fallible (telling ts l ∷ ls) ≡ fallible (l ∷ ls)
    own = one_more (telling ts l) ls ∙ sym (one_more l ls)

    by : (b : Bool) → list_eq l.space space ≡ b → fallible (in_layer space (telling ts) ls) ≡ fallible ls → fallible (cond b (telling ts l ∷ ls) (l ∷ in_layer space (telling ts) ls)) ≡ fallible (l ∷ ls)
    by true e h = own
    by false e h = one_more l (in_layer space (telling ts) ls) ∙ ap (λ n. cond (may_fail l.status) 1 0 + n) h ∙ sym (one_more l ls)

-- Counted layer by layer

pub fallible_more : (ls : List Layer) (place n : ℕ) (st : Status) → place < length ls → ((l : Layer) → slice_get ls place ≡ Some l → st ≡ l.status) → n ≡ cond (may_fail st) 1 0
    → fallible (take (place + 1) ls) ≡ fallible (take place ls) + n
fallible_more ls place n st within read e =
    let item = item_at ls place within in
    length-filter_more (λ (l : Layer). may_fail l.status) ls place item.0 within
    ∙ ap (λ (l : Layer). fallible (take place ls) + cond (may_fail l.status) 1 0) (get_or_from_slice_get ls place item.0 item.0 item.1)
    ∙ ap (λ k. fallible (take place ls) + k) (sym (e ∙ ap (λ (s : Status). cond (may_fail s) 1 0) (read item.0 item.1)))

pub one_at_most : (b : Bool) (n : ℕ) → n ≡ cond b 1 0 → n ≤ 1
one_at_most true n e = omega (arith, e)
one_at_most false n e = omega (arith, e)
