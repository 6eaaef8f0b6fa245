-- The tree of a search for a least cost.
use Rattle.std.proofs.Common.{◌≡◌, ℕ, ◌<◌, ◌⊎◌, inl, inr, ℤ, ◌≤ℤ◌, int_lt, Bool, true, false, List, [], ◌∷◌, ◌++◌, length, map, Contains, All, Option, Some, None, IsSomeAnd, option_to_list, refl, sym, ◌∙◌, subst, arith}
use Rattle.std.proofs.lemmas.Int.{ints}
use Rattle.std.proofs.lemmas.List.Elements.{Contains-append_left, Contains-append_right, Contains-append_cases}
use Rattle.oz_domains.specs.Domains.{least, is_single}
use Rattle.oz_domains.specs.Positions.{domain, value, IsIn, AreParts}
use Rattle.oz_domains.specs.Passes.{keep}
use Rattle.propagators.proofs.StepLaws.{parts_refl, parts_trans}
use Rattle.fd_problems.specs.declared.problem.Distribution.{Distribution}
use Rattle.fd_stores.specs.Stores.{Store, Constraint, Rests, Solves}
use Rattle.fd_stores.specs.Laws.{AreOver, AreAlternatives}
use Rattle.fd_stores.proofs.Sets.{single_value}
use Rattle.fd_stores.proofs.Lists.{at_some, contains_none, contains_head, contains_cases}
use Rattle.fd_stores.proofs.StoreLaws.{Kept, keep_some, keep_kept, kept_in, kept_parts, kept_domains}
use Rattle.fd_stores.proofs.RunLaws.{solves_parts, over_parts, fails_none}
use Rattle.fd_stores.proofs.PlaceLaws.{choice_none}
use Rattle.fd_trees.specs.Trees.{Tree, Choice, leaves}
use Rattle.fd_trees.specs.Laws.{IsEnd}
use Rattle.fd_trees.proofs.TreeLaws.{rests_keep, parted, end_of}
use Rattle.fd_trees.proofs.AnswerLaws.{follows_single, solved_end}
use Rattle.fd_bounds.specs.Bounds.{below, IsBounded, cut, failed, leaf, split, cost_of, BestLaw, BoundedLaw}

lt_false : (a b : ℤ) → int_lt a b ≡ false → b ≤ℤ a
lt_false a b e = grind (arith, ints)

some_is : (a b : Store) → Some a ≡ Some b → a ≡ b
some_is a b e = cc

not_none : (o : Option Store) (P : Store → Type 0) → IsSomeAnd o P → o ≡ None → ⊥
not_none None P h e = h
not_none (Some a) P h e = cc

some_at : (o : Option Store) (e : Store) (P : Store → Type 0) → IsSomeAnd o P → o ≡ Some e → P e
some_at o e P h k = subst (λ z. IsSomeAnd z P) k h

some_weaker : (o : Option Store) (P Q : Store → Type 0) → IsSomeAnd o P → ((x : Store) → P x → Q x) → IsSomeAnd o Q
some_weaker None P Q h k = h
some_weaker (Some x) P Q h k = k x h

module _ (cs : List Constraint) (d : Distribution) (cost : ℕ) where
  pub record Bounded (s e : Store) : Type 0 where
    pub over : AreOver cs e
    pub parts : AreParts e s

  -- what a bound leaves
  pub bounded_by : (u : Option ℤ) (s e : Store) → AreOver cs s → cost < length s → below cost u s ≡ Some e → Bounded s e
  bounded_by None s e o l h = (let f = some_is s e h in record { over = subst (AreOver cs) f o; parts = subst (λ z. AreParts z s) f (parts_refl s) })
  bounded_by (Some b) s e o l h =
      let test = λ (v : ℤ). int_lt v b in
      let k = at_some (keep cost test s) e (Kept cost test s) (keep_kept cost test s l) h in
      let p = kept_parts cost test s e l k in
      record { over = over_parts cs s e o p (kept_domains cost test s e l k o.domains); parts = p }

  abbrev Above : List ℤ → List ℤ → Type 0
  Above bs v = (b : ℤ) × Contains bs b × (b ≤ℤ value v cost)

  -- a solution is below the bound, or its cost is not
  below_keeps : (u : Option ℤ) (s : Store) (v : List ℤ) → cost < length s → Solves cs s v → IsSomeAnd (below cost u s) (λ e. Solves cs e v) ⊎ Above (option_to_list u) v
  below_keeps None s v l h = inl h
  below_keeps (Some b) s v l h = by (int_lt (value v cost) b) refl where
    by : (c : Bool) → int_lt (value v cost) b ≡ c → IsSomeAnd (keep cost (λ w. int_lt w b) s) (λ e. Solves cs e v) ⊎ Above (b ∷ []) v
    by true e = (let i = h.inside in inl (some_weaker (keep cost (λ w. int_lt w b) s) (Kept cost (λ w. int_lt w b) s) (λ z. Solves cs z v)
        (keep_some cost (λ w. int_lt w b) s (value v cost) l (i.each cost l) e)
        (λ z k. record { inside = kept_in cost (λ w. int_lt w b) s z v k i e; met = h.met })))
    by false e = inr (b, contains_head b [], lt_false (value v cost) b e)

  pub record BoundedLeaves (s : Store) (t : Tree) (bs : List ℤ) : Type 0 where
    pub ends : (m : Store) → Contains (leaves t) m → IsEnd cs d s m
    pub found : (v : List ℤ) → Solves cs s v → ((m : Store) × Contains (leaves t) m × Solves cs m v) ⊎ Above bs v

  -- where a solution of the store below the bound is found, or is above a further bound
  found_by : (u : Option ℤ) (s e : Store) (v : List ℤ) (P : Type 0) → cost < length s → below cost u s ≡ Some e → Solves cs s v → (Solves cs e v → P ⊎ Above (option_to_list u) v) → P ⊎ Above (option_to_list u) v
  found_by u s e v P l b h k = elim (below_keeps u s v l h) [ inl g ↦ k (some_at (below cost u s) e (λ z. Solves cs z v) g b) | inr a ↦ inr a ]

  abbrev Within : Store → Type 0
  Within s = All (λ x. x < length s) d.over

  above_more : (u : Option ℤ) (bs : List ℤ) (v : List ℤ) → Above bs v → Above (option_to_list u ++ bs) v
  above_more u bs v a = (a.0, Contains-append_right (option_to_list u) bs a.0 a.1, a.2)

  above_first : (u : Option ℤ) (bs : List ℤ) (v : List ℤ) → Above (option_to_list u) v → Above (option_to_list u ++ bs) v
  above_first u bs v a = (a.0, Contains-append_left (option_to_list u) bs a.0 a.1, a.2)

  above_left : (ls rs : List ℤ) (v : List ℤ) → Above ls v → Above (ls ++ rs) v
  above_left ls rs v a = (a.0, Contains-append_left ls rs a.0 a.1, a.2)

  above_right : (ls rs : List ℤ) (v : List ℤ) → Above rs v → Above (ls ++ rs) v
  above_right ls rs v a = (a.0, Contains-append_right ls rs a.0 a.1, a.2)

  -- a choice
  module _ (u : Option ℤ) (s e m a b : Store) (l r : Tree) (ls rs : List ℤ) (inside : cost < length s) (kept : below cost u s ≡ Some e) (bounded : Bounded s e) (rests : Rests cs e m)
      (parts : AreAlternatives cs m a b) (hl : BoundedLeaves a l ls) (hr : BoundedLeaves b r rs) where
    to_m : AreParts m s
    to_m = (let k = rests_keep cs e m bounded.over rests in parts_trans s e m bounded.parts k.parts)

    choice_ends : (n : Store) → Contains (leaves l ++ leaves r) n → IsEnd cs d s n
    choice_ends n c = elim (Contains-append_cases (leaves l) (leaves r) n c) [
      | inl i ↦ (let f = parts.first in end_of cs d s m a n to_m f.1 (hl.ends n i))
      | inr i ↦ (let f = parts.second in end_of cs d s m b n to_m f.1 (hr.ends n i))
    ]

    choice_found : (v : List ℤ) → Solves cs e v → ((n : Store) × Contains (leaves l ++ leaves r) n × Solves cs n v) ⊎ Above (ls ++ rs) v
    choice_found v h =
        let k = rests_keep cs e m bounded.over rests in
        elim ((parts.cover v).0 (k.solves v h)) [
          | inl f ↦ elim (hl.found v f) [ inl g ↦ inl (g.0, Contains-append_left (leaves l) (leaves r) g.0 g.1, g.2) | inr g ↦ inr (above_left ls rs v g) ]
          | inr f ↦ elim (hr.found v f) [ inl g ↦ inl (g.0, Contains-append_right (leaves l) (leaves r) g.0 g.1, g.2) | inr g ↦ inr (above_right ls rs v g) ]
        ]

    choice_leaves : BoundedLeaves s (Choice l r) (option_to_list u ++ (ls ++ rs))
    choice_leaves = record {
      ends = choice_ends;
      found = λ v h. elim (below_keeps u s v inside h) [
        | inl g ↦ elim (choice_found v (some_at (below cost u s) e (λ z. Solves cs z v) g kept)) [ inl f ↦ inl f | inr f ↦ inr (above_more u (ls ++ rs) v f) ]
        | inr g ↦ inr (above_first u (ls ++ rs) v g)
      ];
    }

  pub bounded_leaves : (u : Option ℤ) (s : Store) (t : Tree) (bs : List ℤ) → AreOver cs s → Within s → cost < length s → IsBounded cs d cost u s t bs → BoundedLeaves s t bs
  bounded_leaves u s t bs o w l (cut e) = record {
    ends = λ m c. absurd (contains_none m c);
    found = λ v h. elim (below_keeps u s v l h) [ inl g ↦ absurd (not_none (below cost u s) (λ z. Solves cs z v) g e) | inr a ↦ inr a ];
  }
  bounded_leaves u s t bs o w l (failed {e = z} e f) =
      let k = bounded_by u s z o l e in record {
        ends = λ m c. absurd (contains_none m c);
        found = λ v h. found_by u s z v _ l e h (λ g. absurd (fails_none cs z k.over f v g));
      }
  bounded_leaves u s t bs o w l (leaf {e = z} {m = m} e r c) =
      let k = bounded_by u s z o l e in
      let q = rests_keep cs z m k.over r in record {
        ends = λ n i. elim (contains_cases m n [] i) [
          | inl f ↦ subst (IsEnd cs d s) f (record { over = q.over; parts = parts_trans s z m k.parts q.parts; rest = r.rest; determined = choice_none d m c })
          | inr g ↦ absurd (contains_none n g)
        ];
        found = λ v h. found_by u s z v _ l e h (λ g. inl (m, contains_head m [], q.solves v g));
      }
  bounded_leaves u s t bs o w l (split {v = v} {w = x} {e = z} {m = m} {a = a} {b = b} {l = left} {r = right} {ls = ls} {rs = rs} p e rests c f g il ir) =
      let k = bounded_by u s z o l e in
      let q = rests_keep cs z m k.over rests in
      let pk = k.parts in
      let pq = q.parts in
      let wm : Within m = subst (λ n. All (λ y. y < n) d.over) (sym (pq.long ∙ pk.long)) w in
      let parts = parted cs d m a b p left right q.over wm c f g in
      let first = parts.first in
      let second = parts.second in
      let pa = first.1 in
      let pb = second.1 in
      choice_leaves u s z m a b left right ls rs l e k rests parts
      (bounded_leaves v a left ls first.0 (subst (λ n. All (λ y. y < n) d.over) (sym pa.long) wm) (let l1 = pa.long in let l2 = pq.long in let l3 = pk.long in omega arith) il)
      (bounded_leaves x b right rs second.0 (subst (λ n. All (λ y. y < n) d.over) (sym pb.long) wm) (let l1 = pb.long in let l2 = pq.long in let l3 = pk.long in omega arith) ir)

-- the cost of a solution at a leaf is that of the leaf
cost_at : (m : Store) (cost : ℕ) (v : List ℤ) → cost < length m → is_single (domain m cost) ≡ true → IsIn m v → cost_of cost m ≤ℤ value v cost
cost_at m cost v l h i = (let e = single_value (domain m cost) (value v cost) h (i.each cost l) in omega (arith, ints))

pub best_law : BestLaw
best_law cs d cost u s t bs h l f i c v k =
    let b = bounded_leaves cs d cost u s t bs h.over h.within l i in
    elim (b.found v k) [
      | inl g ↦ (
          let m = g.0 in
          let e = b.ends m g.1 in
          let p = e.parts in
          let q = g.2 in
          (m, g.1, cost_at m cost v (let r = p.long in omega (arith, l)) (follows_single cs d s m h.over e cost l f) q.inside))
      | inr g ↦ (let n = c g.0 g.1 in (n.0, n.1, (let e = n.2 in let a = g.2 in omega (arith, ints))))
    ]

pub bounded_law : BoundedLaw
bounded_law cs d cost u s t bs h l f i m c =
    let b = bounded_leaves cs d cost u s t bs h.over h.within l i in
    let e = b.ends m c in
    solves_parts cs s m (map least m) e.parts (solved_end cs d s m h.over e f).2
