-- The leaves of a tree.
use Rattle.std.proofs.Common.{◌≡◌, ◌≢◌, ◌<◌, inl, inr, ℤ, List, [], ◌∷◌, ◌++◌, length, map, Contains, All, AllPairs, Option, Some, None, IsSomeAnd, refl, sym, ◌∙◌, subst}
use Rattle.std.proofs.lemmas.List.{map-append}
use Rattle.std.proofs.lemmas.List.Elements.{All-nil, All-cons, All-append, All-contains, All-weaker, Contains-append_cases, Contains-append_left, Contains-append_right}
use Rattle.oz_base.specs.declared.distribution.Rule.TheVariants.{Naive}
use Rattle.oz_base.specs.declared.distribution.Split.{Split}
use Rattle.oz_domains.specs.Domains.{least}
use Rattle.oz_domains.specs.Positions.{IsIn, AreParts}
use Rattle.propagators.proofs.StepLaws.{parts_trans}
use Rattle.fd_problems.specs.declared.problem.Distribution.{Distribution}
use Rattle.fd_problems.specs.Problems.{IsLeft, values_at}
use Rattle.fd_stores.specs.Stores.{Store, Constraint, Solves, Fails, Rests}
use Rattle.fd_stores.specs.Choices.{choice, first_store, second_store}
use Rattle.fd_stores.specs.Laws.{AreOver, AreAlternatives}
use Rattle.fd_stores.proofs.Lists.{contains_none, contains_head, contains_cases, contains_mapped, pairs_nil, pairs_one, pairs_append}
use Rattle.fd_stores.proofs.StoreLaws.{tuple_in, values_of_least}
use Rattle.fd_stores.proofs.RunLaws.{in_parts, solves_parts, runs_keep, fails_none}
use Rattle.fd_stores.proofs.PlaceLaws.{choice_none}
use Rattle.fd_stores.proofs.SplitLaws.{Halved, halved, split_law, differ_at, is_left, naive_first, naive_test}
use Rattle.fd_trees.specs.Trees.{Tree, Failed, Leaf, Choice, leaves, IsTree, failed, leaf, split, answer, answers}
use Rattle.fd_trees.specs.Laws.{IsEnd, AreLeaves, LeavesLaw}

-- ---- a store where nothing is due

pub record Kept (cs : List Constraint) (s m : Store) : Type 0 where
  pub over : AreOver cs m
  pub parts : AreParts m s
  pub solves : (t : List ℤ) → Solves cs s t → Solves cs m t

pub rests_keep : (cs : List Constraint) (s m : Store) → AreOver cs s → Rests cs s m → Kept cs s m
rests_keep cs s m o r = (let k = runs_keep cs s m o r.runs in record { over = k.0; parts = k.1; solves = k.2 })

-- ---- each kind of tree

failed_leaves : (cs : List Constraint) (d : Distribution) (s : Store) → AreOver cs s → Fails cs s → AreLeaves cs d s Failed
failed_leaves cs d s o f = record {
  found = λ u. (λ h. absurd (fails_none cs s o f u h), λ h. absurd (contains_none h.0 h.1));
  ends = All-nil (IsEnd cs d s);
  once = pairs_nil (λ u v. u ≢ v);
  ordered = λ e. pairs_nil IsLeft;
}

one_leaf : (cs : List Constraint) (d : Distribution) (s m : Store) → AreOver cs s → Rests cs s m → choice d m ≡ None → AreLeaves cs d s (Leaf m)
one_leaf cs d s m o r e =
    let k = rests_keep cs s m o r in
    let back : (u : List ℤ) → (n : Store) × Contains (m ∷ []) n × Solves cs n u → Solves cs s u
    = λ u h. elim (contains_cases m h.0 [] h.1) [
      | inl f ↦ solves_parts cs s m u k.parts (subst (λ z. Solves cs z u) (sym f) h.2)
      | inr g ↦ absurd (contains_none h.0 g)
    ] in
    record {
      found = λ u. (λ h. (m, contains_head m [], k.solves u h), back u);
      ends = All-cons (IsEnd cs d s) m [] (record { over = k.over; parts = k.parts; rest = r.rest; determined = choice_none d m e }) (All-nil (IsEnd cs d s));
      once = pairs_one (λ u v. u ≢ v) (answer d m);
      ordered = λ e. pairs_one IsLeft (answer d m);
    }

-- an answer at a leaf is of a tuple of the store
pub answer_in : (cs : List Constraint) (d : Distribution) (s : Store) (t : Tree) (u : List ℤ) → All (λ x. x < length s) d.over → AreLeaves cs d s t → Contains (answers d t) u
    → (v : List ℤ) × IsIn s v × (values_at v d.over ≡ u)
answer_in cs d s t u w h c =
    let a = contains_mapped (answer d) (leaves t) u c in
    let m = a.0 in
    let e = All-contains (IsEnd cs d s) (leaves t) m h.ends a.1 in
    let o = e.over in
    let p = e.parts in
    (map least m, in_parts s m (map least m) p (tuple_in m o.domains), values_of_least m d.over (subst (λ n. All (λ x. x < n) d.over) (sym p.long) w) ∙ a.2)

-- a leaf of a part is one of the whole
pub end_of : (cs : List Constraint) (d : Distribution) (s m a n : Store) → AreParts m s → AreParts a m → IsEnd cs d a n → IsEnd cs d s n
end_of cs d s m a n p q h = record { over = h.over; parts = parts_trans s m n p (parts_trans m a n q h.parts); rest = h.rest; determined = h.determined }

module _ (cs : List Constraint) (d : Distribution) (m a b : Store) (p : Split) (l r : Tree) (o : AreOver cs m) (w : All (λ x. x < length m) d.over) (e : choice d m ≡ Some p)
    (f : first_store d p m ≡ Some a) (g : second_store d p m ≡ Some b) where
  pub parted : AreAlternatives cs m a b
  parted = subst (AreAlternatives cs m a) refl (both (first_store d p m) (second_store d p m) (split_law cs d m p o w e) f g) where
    both : (x y : Option Store) → IsSomeAnd x (λ a. IsSomeAnd y (AreAlternatives cs m a)) → x ≡ Some a → y ≡ Some b → AreAlternatives cs m a b
    both x y h i j = subst (λ z. IsSomeAnd z (AreAlternatives cs m a)) j (subst (λ z. IsSomeAnd z (λ a. IsSomeAnd y (AreAlternatives cs m a))) i h)

  module _ (hl : AreLeaves cs d a l) (hr : AreLeaves cs d b r) where
    within_a : All (λ x. x < length a) d.over
    within_a = (let k = parted.first in let q = k.1 in subst (λ n. All (λ x. x < n) d.over) (sym q.long) w)

    within_b : All (λ x. x < length b) d.over
    within_b = (let k = parted.second in let q = k.1 in subst (λ n. All (λ x. x < n) d.over) (sym q.long) w)

    halves : Halved d m p a b
    halves = halved d m a b p o.domains w e f g

    forth : (u : List ℤ) → Solves cs m u → (n : Store) × Contains (leaves l ++ leaves r) n × Solves cs n u
    forth u h = elim ((parted.cover u).0 h) [
      | inl i ↦ (let k = (hl.found u).0 i in (k.0, Contains-append_left (leaves l) (leaves r) k.0 k.1, k.2))
      | inr i ↦ (let k = (hr.found u).0 i in (k.0, Contains-append_right (leaves l) (leaves r) k.0 k.1, k.2))
    ]

    back : (u : List ℤ) → (n : Store) × Contains (leaves l ++ leaves r) n × Solves cs n u → Solves cs m u
    back u h = (parted.cover u).1 (elim (Contains-append_cases (leaves l) (leaves r) h.0 h.1) [
      | inl i ↦ inl ((hl.found u).1 (h.0, i, h.2))
      | inr i ↦ inr ((hr.found u).1 (h.0, i, h.2))
    ])

    apart : (x y : List ℤ) → Contains (answers d l) x → Contains (answers d r) y → x ≢ y
    apart x y i j k =
        let t = answer_in cs d a l x within_a hl i in
        let u = answer_in cs d b r y within_b hr j in
        differ_at d m a b p halves w t.0 u.0 t.1 u.1 (t.2 ∙ k ∙ sym u.2)

    left : d.rule ≡ Naive → (x y : List ℤ) → Contains (answers d l) x → Contains (answers d r) y → IsLeft x y
    left n x y i j =
        let t = answer_in cs d a l x within_a hl i in
        let u = answer_in cs d b r y within_b hr j in
        let h = halves in
        subst (λ z. IsLeft z y) t.2 (subst (IsLeft (values_at t.0 d.over)) u.2 (is_left d m a b p h w t.0 u.0 t.1 u.1 (naive_first d m p n e) (naive_test d m p n e h.splits)))

    joined_answers : answers d (Choice l r) ≡ answers d l ++ answers d r
    joined_answers = map-append (answer d) (leaves l) (leaves r)

    pub split_leaves : (s : Store) → Kept cs s m → AreLeaves cs d s (Choice l r)
    split_leaves s k =
        let first = parted.first in
        let second = parted.second in
        record {
          found = λ u. (λ h. forth u (k.solves u h), λ h. solves_parts cs s m u k.parts (back u h));
          ends = All-append (IsEnd cs d s) (leaves l) (leaves r)
              (All-weaker (IsEnd cs d a) (IsEnd cs d s) (λ n h. end_of cs d s m a n k.parts first.1 h) (leaves l) hl.ends)
              (All-weaker (IsEnd cs d b) (IsEnd cs d s) (λ n h. end_of cs d s m b n k.parts second.1 h) (leaves r) hr.ends);
          once = subst (AllPairs (λ u v. u ≢ v)) (sym joined_answers) (pairs_append (λ u v. u ≢ v) (answers d l) (answers d r) hl.once hr.once apart);
          ordered = λ n. subst (AllPairs IsLeft) (sym joined_answers) (pairs_append IsLeft (answers d l) (answers d r) (hl.ordered n) (hr.ordered n) (left n));
        }

-- ---- all trees

pub leaves_of : (cs : List Constraint) (d : Distribution) (s : Store) (t : Tree) → AreOver cs s → All (λ x. x < length s) d.over → IsTree cs d s t → AreLeaves cs d s t
leaves_of cs d s t o w (failed f) = failed_leaves cs d s o f
leaves_of cs d s t o w (leaf {m = m} r e) = one_leaf cs d s m o r e
leaves_of cs d s t o w (split {m = m} {a = a} {b = b} {l = l} {r = r} p rests e f g il ir) =
    let k = rests_keep cs s m o rests in
    let q = k.parts in
    let v = subst (λ n. All (λ x. x < n) d.over) (sym q.long) w in
    let parts = parted cs d m a b p l r k.over v e f g in
    let first = parts.first in
    let second = parts.second in
    let pa = first.1 in
    let pb = second.1 in
    split_leaves cs d m a b p l r k.over v e f g
    (leaves_of cs d a l first.0 (subst (λ n. All (λ x. x < n) d.over) (sym pa.long) v) il)
    (leaves_of cs d b r second.0 (subst (λ n. All (λ x. x < n) d.over) (sym pb.long) v) ir)
    s k

pub leaves_law : LeavesLaw
leaves_law cs d s t h i = leaves_of cs d s t h.over h.within i
