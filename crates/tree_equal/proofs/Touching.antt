-- The variables that an equation affects, by those that it touches and the classes before and after.
use Rattle.std.proofs.Common.{◌≡◌, inl, inr, Bool, true, false, not, ◌&&◌, List, [], ◌∷◌, Contains, filter, refl, sym, ap, subst, ◌∙◌}
use Rattle.std.specs.List.{list_any}
use Rattle.std.proofs.lemmas.Bool.{false≢true}
use Rattle.oz_base.specs.Names.{ident_eq}
use Rattle.oz_base.specs.declared.names.Ident.{Ident}
use Rattle.oz_laws.proofs.SameLaws.{In-from_contains, contains-from_In, and-left, and-right, tests_same, ident_eq-true, ident_eq-refl}
use Rattle.oz_laws.specs.Touched.{Meets, Touches}
use Rattle.oz_semantics.specs.Entailment.{equated, equality}
use Rattle.oz_semantics.specs.Store.{Same, reversed, joined, same, is_determined, is_consistent}
use Rattle.oz_semantics.specs.declared.value.Tell.{Tell}
use Rattle.oz_semantics.specs.declared.value.Tell.TheVariants.{Equal}
use Rattle.term_store.specs.Classes.{Table, root_in, IsPartition}
use Rattle.view_laws.proofs.ListLaws.{filter_in, in_filter}
use Rattle.view_laws.proofs.Members.{decide, not_both, and_both, has-left, some_of, by_some}
use Rattle.view_laws.proofs.ViewLaws.{same_kept, determined_same}
use Rattle.tree_equal.specs.Answers.{IsEquality, unless}
use Rattle.tree_equal.specs.Grown.{has_moved, has_grown, awaits}
use Rattle.tree_equal.proofs.Affecting.{Affects, Covers, covered}

not_is : (b : Bool) → not b ≡ true → b ≡ false
not_is true e = absurd (false≢true e)
not_is false e = refl

module _ (ts : List Tell) (x y : Ident) (t : Table) (touched : List Ident) (part : IsPartition (equated ts x y) t) (notes : Touches ts (Equal x y ∷ []) touched) where
  abbrev after : List Tell
  after = equated ts x y

  abbrev root : Ident → Ident
  root = root_in t

  one : (z w : Ident) → root z ≡ root w → Same after z w
  one z w e = (tests_same after z w).0 ((part.classes z w).1 e)

  one_root : (z w : Ident) → Same after z w → root z ≡ root w
  one_root z w s = (part.classes z w).0 ((tests_same after z w).1 s)

  at_root : (z : Ident) → Same after z (root z)
  at_root z = one z (root z) (sym (part.roots z))

  still : {z w : Ident} → Same ts z w → Same after z w
  still s = same_kept ts after (λ u c. has-left u ts (Equal x y ∷ []) c) s

  -- what waits is affected
  waits_affects : (z : Ident) → awaits ts t touched z ≡ true → Affects ts x y z
  waits_affects z e =
      let r = root z in
      let free : is_determined ts z ≡ false = not_is _ (and-left _ _ e) in
      let w = some_of (has_moved ts t r) touched (and-right _ _ e) in
      let is : r ≡ root w.0 = ident_eq-true r (root w.0) (and-left _ _ w.2) in
      let moved : same ts w.0 r ≡ false = ap (same ts w.0) is ∙ not_is _ (and-right _ _ w.2) in
      elim (decide (same ts z r)) [
        | inr apart ↦ record { free = free; other = r; joins = at_root z; apart = apart }
        | inl near ↦ record {
          free = free;
          other = w.0;
          joins = one z w.0 is;
          apart = elim (decide (same ts z w.0)) [
            | inr apart ↦ apart
            | inl k ↦ absurd (not_both _ ((tests_same ts w.0 r).1 (joined (reversed ((tests_same ts z w.0).0 k)) ((tests_same ts z r).0 near))) moved)
          ];
        }
      ]

  -- what is touched and has moved
  moves : (c d : Ident) → Contains touched d → root c ≡ root d → same ts d (root c) ≡ false → has_grown ts t touched (root c) ≡ true
  moves c d k e n =
      by_some (has_moved ts t (root c)) touched d k
      (and_both _ _ (subst (λ z. ident_eq (root c) z ≡ true) e (ident_eq-refl (root c))) (ap (λ z. not (same ts d z)) (sym e) ∙ ap not n))

  grown : (c d : Ident) → Contains touched c → Contains touched d → Same after c d → (Same ts c d → ⊥) → has_grown ts t touched (root c) ≡ true
  grown c d k l s never = elim (decide (same ts c (root c))) [
    | inr n ↦ moves c c k refl n
    | inl near ↦ elim (decide (same ts d (root c))) [
      | inr n ↦ moves c d l (one_root c d s) n
      | inl far ↦ absurd (never (joined ((tests_same ts c (root c)).0 near) (reversed ((tests_same ts d (root c)).0 far))))
    ]
  ]

  -- what is affected waits
  affects_waits : (z : Ident) → Affects ts x y z → (c : Ident) × Contains (filter (awaits ts t touched) touched) c × Same ts z c
  affects_waits z a = elim (notes.joins z a.other a.joins) [
    | inl s ↦ absurd (not_both _ ((tests_same ts z a.other).1 s) a.apart)
    | inr m ↦ elim (notes.joins a.other z (reversed a.joins)) [
      | inl s ↦ absurd (not_both _ ((tests_same ts z a.other).1 (reversed s)) a.apart)
      | inr n ↦ (
        m.0,
        contains-from_In (filter (awaits ts t touched) touched) m.0
            (in_filter (awaits ts t touched) touched m.0 (In-from_contains touched m.0 m.1)
            (and_both _ _ (ap not (sym (determined_same ts z m.0 m.2) ∙ a.free))
            (grown m.0 n.0 m.1 n.1 (joined (reversed (still m.2)) (joined a.joins (still n.2)))
            (λ s. not_both _ ((tests_same ts z a.other).1 (joined m.2 (joined s (reversed n.2)))) a.apart)))),
        m.2,
      )
    ]
  ]

  covers : Covers ts x y (filter (awaits ts t touched) touched)
  covers = record {
    sound = λ z c. waits_affects z (filter_in (awaits ts t touched) touched z (In-from_contains (filter (awaits ts t touched) touched) z c)).1;
    complete = affects_waits;
  }

  pub found : is_consistent (equated ts x y) ≡ true → IsEquality ts (equality ts x y) (unless (filter (awaits ts t touched) touched))
  found e = covered ts x y (filter (awaits ts t touched) touched) covers e
