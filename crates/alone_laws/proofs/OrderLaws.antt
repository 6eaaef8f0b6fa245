-- Layers that stand in the order of the names of their spaces, and edits that leave them so.
use Rattle.std.proofs.Common.{◌≡◌, inl, inr, ℕ, Bool, true, false, not, ◌&&◌, List, [], ◌∷◌, filter, refl, sym, ap, subst, ◌∙◌}
use Rattle.std.specs.List.{list_all}
use Rattle.oz_base.specs.Lists.{list_eq}
use Rattle.oz_semantics.specs.Names.{space_lt}
use Rattle.oz_semantics.specs.Configurations.{is_of, in_layer, placed}
use Rattle.oz_semantics.specs.Edits.{all_placed}
use Rattle.oz_semantics.specs.declared.configuration.Layer.{Layer}
use Rattle.oz_laws.proofs.SameLaws.{and-left, and-right}
use Rattle.view_laws.specs.Trees.{is_ascending, names_of}
use Rattle.view_laws.proofs.Members.{not_both, and_both, decide}
use Rattle.view_laws.proofs.NameLaws.{equal_names, names_equal}
use Rattle.view_laws.proofs.TreeLaws.{lt_trans, lt_itself, lt_other}
use Rattle.view_laws.proofs.QueueLaws.{not_false}
use Rattle.alone_laws.proofs.Lists.{all_by, all_edited, all_filtered, all_put, all_mapped}

lt_asym : (s t : List ℕ) → space_lt s t ≡ true → space_lt t s ≡ false
lt_asym s t e = elim (decide (space_lt t s)) [
  | inl k ↦ absurd (not_both _ (lt_trans s t s e k) (lt_itself s))
  | inr k ↦ k
]

-- less than one, which a third is not less than
lt_weak : (s t u : List ℕ) → space_lt s t ≡ true → space_lt u t ≡ false → space_lt s u ≡ true
lt_weak s t u e f = elim (decide (list_eq t u)) [
  | inl k ↦ subst (λ v. space_lt s v ≡ true) (equal_names t u k) e
  | inr k ↦ lt_trans s t u e (lt_other u t f (λ q. not_both _ (subst (λ v. list_eq t v ≡ true) q (names_equal t)) k))
]

-- no later layer is less
abbrev pub not_less : Layer → Layer → Bool
not_less l m = not (space_lt m.space l.space)

abbrev pub is_less : Layer → Layer → Bool
is_less l m = space_lt l.space m.space

abbrev pub is_sorted : List Layer → Bool
is_sorted [] = true
is_sorted (l ∷ ls) = list_all (not_less l) ls && is_sorted ls

pub ascending_sorted : (ls : List Layer) → is_ascending (names_of ls) ≡ true → is_sorted ls ≡ true
ascending_sorted [] e = refl
ascending_sorted (l ∷ ls) e =
    and_both _ _ (all_by (is_less l) (not_less l) (λ m k. ap not (lt_asym l.space m.space k)) ls (sym (all_mapped (space_lt l.space) (λ (m : Layer). m.space) ls) ∙ and-left _ _ e))
    (ascending_sorted ls (and-right _ _ e))

-- Edits

pub sorted_changed : (u : List ℕ) (f : Layer → Layer) → ((l : Layer) → (f l).space ≡ l.space) → (ls : List Layer) → is_sorted (in_layer u f ls) ≡ is_sorted ls
sorted_changed u f h [] = refl
sorted_changed u f h (l ∷ ls) = by (list_eq l.space u) refl (sorted_changed u f h ls)
  where
    by : (b : Bool) → list_eq l.space u ≡ b → is_sorted (in_layer u f ls) ≡ is_sorted ls → is_sorted (in_layer u f (l ∷ ls)) ≡ is_sorted (l ∷ ls)
    by true e rest = rw e (ap (λ v. list_all (λ (m : Layer). not (space_lt m.space v)) ls && is_sorted ls) (h l))
    by false e rest = rw e (rw (all_edited (not_less l) (is_of u) f (λ m. ap (λ v. not (space_lt v l.space)) (h m)) ls) (ap (λ b. list_all (not_less l) ls && b) rest))

pub sorted_filtered : (keep : Layer → Bool) (ls : List Layer) → is_sorted ls ≡ true → is_sorted (filter keep ls) ≡ true
sorted_filtered keep [] e = refl
sorted_filtered keep (l ∷ ls) e = by (keep l) refl (sorted_filtered keep ls (and-right _ _ e))
  where
    by : (b : Bool) → keep l ≡ b → is_sorted (filter keep ls) ≡ true → is_sorted (filter keep (l ∷ ls)) ≡ true
    by true k rest = rw k (and_both _ _ (all_filtered (not_less l) keep ls (and-left _ _ e)) rest)
    by false k rest = rw k rest

-- one that is less than the first is less than all
pub less_than_all : (l m : Layer) (ms : List Layer) → is_sorted (m ∷ ms) ≡ true → space_lt l.space m.space ≡ true → list_all (is_less l) (m ∷ ms) ≡ true
less_than_all l m ms e k = and_both _ _ k (all_by (not_less m) (is_less l) (λ n f. lt_weak l.space m.space n.space k (not_false _ f)) ms (and-left _ _ e))

pub sorted_put : (l : Layer) (ls : List Layer) → is_sorted ls ≡ true → is_sorted (placed l ls) ≡ true
sorted_put l [] e = refl
sorted_put l (m ∷ ms) e = by (space_lt l.space m.space) refl (sorted_put l ms (and-right _ _ e))
  where
    by : (b : Bool) → space_lt l.space m.space ≡ b → is_sorted (placed l ms) ≡ true → is_sorted (placed l (m ∷ ms)) ≡ true
    by true k rest = rw k (and_both _ _ (all_by (is_less l) (not_less l) (λ n f. ap not (lt_asym l.space n.space f)) (m ∷ ms) (less_than_all l m ms e k)) e)
    by false k rest = rw k (and_both _ _ (all_put (not_less m) (λ (other : Layer). space_lt l.space other.space) l (ap not k) ms (and-left _ _ e)) rest)

pub sorted_all_put : (news ls : List Layer) → is_sorted ls ≡ true → is_sorted (all_placed news ls) ≡ true
sorted_all_put [] ls e = e
sorted_all_put (n ∷ ns) ls e = sorted_all_put ns (placed n ls) (sorted_put n ls e)
