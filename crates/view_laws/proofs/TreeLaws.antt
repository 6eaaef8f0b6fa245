-- That the layers are those of a tree.
use Rattle.std.proofs.Common.{◌≡◌, ◌⊎◌, inl, inr, ℕ, ◌<◌, ◌≤◌, nat_eq, Bool, true, false, not, cond, List, [], ◌∷◌, filter, refl, sym, ap, ap₂, subst, ◌∙◌, arith, Option, Some, unwrap_or}
use Rattle.std.specs.List.{list_all, find}
use Rattle.std.specs.Ordering.{is_lt, nat_cmp, ordering_then, ordering_reverse}
use Rattle.std.specs.declared.cmp.Ordering.{Ordering}
use Rattle.std.specs.declared.cmp.Ordering.TheVariants.{Less, Equal as Level, Greater}
use Rattle.std.specs.Cmp.Lexicographic.{slice_cmp}
use Rattle.std.proofs.lemmas.Bool.{false≢true}
use Rattle.std.proofs.lemmas.Cmp.{nat_list_cmp_total, nat_cmp_total, tied_itself}
use Rattle.std.proofs.lemmas.Map.Lookups.{exact_bytes}
use Rattle.oz_base.specs.Lists.{edit_first, put_before}
use Rattle.oz_base.specs.declared.names.Ident.{Ident}
use Rattle.oz_semantics.specs.Names.{is_below, is_properly_below, is_top, space_lt, child_name}
use Rattle.oz_semantics.specs.Configurations.{is_of, layer_at, in_layer, failed, raised_by, placed, next_child, new_layer, counting_child}
use Rattle.oz_semantics.specs.Edits.{starting}
use Rattle.oz_semantics.specs.declared.configuration.Next.{Next}
use Rattle.oz_semantics.specs.declared.configuration.Layer.{Layer}
use Rattle.oz_laws.proofs.SameLaws.{In, In-from_contains, contains-from_In, and-left, and-right, eq-true, eq-refl}
use Rattle.view_laws.specs.Sights.{is_led}
use Rattle.view_laws.specs.Trees.{is_ascending, names_of, IsGivenOut, IsTree, TreesLead, ChangeTree, EndTree, FailureTree, RaiseTree, CreationTree}
use Rattle.view_laws.proofs.Members.{decide, not_both, and_both, each, by_each}
use Rattle.view_laws.proofs.NameLaws.{properly_trans}
use Rattle.view_laws.proofs.ListLaws.{map_in, in_map, filter_in, in_filter, in_edit, edit_in, edited_in, found_in}

-- The order of names

less_is : (o : Ordering) → is_lt o ≡ true → o ≡ Less
less_is Less e = refl
less_is Level e = absurd (false≢true e)
less_is Greater e = absurd (false≢true e)

pub lt_trans : (s t u : List ℕ) → space_lt s t ≡ true → space_lt t u ≡ true → space_lt s u ≡ true
lt_trans s t u e f = ap is_lt (nat_list_cmp_total.trans s t u (less_is (slice_cmp nat_cmp s t) e) (less_is (slice_cmp nat_cmp t u) f))

pub lt_itself : (s : List ℕ) → space_lt s s ≡ false
lt_itself s = ap is_lt (tied_itself nat_list_cmp_total s)

pub lt_other : (s t : List ℕ) → space_lt s t ≡ false → (t ≡ s → ⊥) → space_lt t s ≡ true
lt_other s t e n = by (slice_cmp nat_cmp s t) refl
  where
    by : (o : Ordering) → slice_cmp nat_cmp s t ≡ o → space_lt t s ≡ true
    by Less k = absurd (false≢true (sym e ∙ ap is_lt k))
    by Level k = absurd (n (sym (exact_bytes s t k)))
    by Greater k = ap is_lt (nat_list_cmp_total.antisymm t s ∙ ap ordering_reverse k)

-- a name that another goes on from is not greater
pub above_not_less : (s t : List ℕ) → is_below t s ≡ true → space_lt s t ≡ false
above_not_less [] [] e = refl
above_not_less (b ∷ s) [] e = refl
above_not_less [] (a ∷ t) e = absurd (false≢true e)
above_not_less (b ∷ s) (a ∷ t) e =
    let same : a ≡ b = eq-true a b (and-left (nat_eq a b) (is_below t s) e) in
    ap (λ (n : ℕ). is_lt (ordering_then (nat_cmp b n) (slice_cmp nat_cmp s t))) same
    ∙ ap (λ (o : Ordering). is_lt (ordering_then o (slice_cmp nat_cmp s t))) (tied_itself nat_cmp_total b)
    ∙ above_not_less s t (and-right (nat_eq a b) (is_below t s) e)

-- Lists of names

all_in : (p : List ℕ → Bool) (ss : List (List ℕ)) → list_all p ss ≡ true → (s : List ℕ) → In s ss → p s ≡ true
all_in p ss e s h = each p ss e s (contains-from_In ss s h)

by_all : (p : List ℕ → Bool) (ss : List (List ℕ)) → ((s : List ℕ) → In s ss → p s ≡ true) → list_all p ss ≡ true
by_all p ss h = by_each p ss (λ s c. h s (In-from_contains ss s c))

-- a layer that stands later is not one of the same name
pub one_of_name : (l : Layer) (ls : List Layer) (m : Layer) → is_ascending (names_of (l ∷ ls)) ≡ true → In m ls → m.space ≡ l.space → ⊥
one_of_name l ls m e h k =
    not_both _ (all_in (space_lt l.space) (names_of ls) (and-left _ _ e) m.space (map_in (λ (n : Layer). n.space) ls m h)) (ap (space_lt l.space) k ∙ lt_itself l.space)

pub same_named_layer : (ls : List Layer) (l m : Layer) → is_ascending (names_of ls) ≡ true → In l ls → In m ls → l.space ≡ m.space → l ≡ m
same_named_layer [] l m e h k q = elim h [ ]
same_named_layer (n ∷ ls) l m e (inl a) (inl b) q = sym a ∙ b
same_named_layer (n ∷ ls) l m e (inl a) (inr b) q = absurd (one_of_name n ls m e b (sym q ∙ ap (λ (o : Layer). o.space) (sym a)))
same_named_layer (n ∷ ls) l m e (inr a) (inl b) q = absurd (one_of_name n ls l e a (q ∙ ap (λ (o : Layer). o.space) (sym b)))
same_named_layer (n ∷ ls) l m e (inr a) (inr b) q = same_named_layer ls l m (and-right _ _ e) a b q

-- Names after edits

pub names_edited : (test : Layer → Bool) (change : Layer → Layer) (ls : List Layer) → ((l : Layer) → find test ls ≡ Some l → (change l).space ≡ l.space) → names_of (edit_first test change ls) ≡ names_of ls
names_edited test change [] h = refl
names_edited test change (l ∷ ls) h = by (test l) h (names_edited test change ls)
  where
    by : (b : Bool) → ((m : Layer) → cond b (Some l) (find test ls) ≡ Some m → (change m).space ≡ m.space)
        → (((m : Layer) → find test ls ≡ Some m → (change m).space ≡ m.space) → names_of (edit_first test change ls) ≡ names_of ls)
        → names_of (cond b (change l ∷ ls) (l ∷ edit_first test change ls)) ≡ l.space ∷ names_of ls
    by true g rest = ap (λ s. s ∷ names_of ls) (g l refl)
    by false g rest = ap (λ ss. l.space ∷ ss) (rest g)

pub ascending_filter : (keep : Layer → Bool) (ls : List Layer) → is_ascending (names_of ls) ≡ true → is_ascending (names_of (filter keep ls)) ≡ true
ascending_filter keep [] e = refl
ascending_filter keep (l ∷ ls) e = by (keep l) (ascending_filter keep ls (and-right _ _ e))
  where
    kept : (s : List ℕ) → In s (names_of (filter keep ls)) → space_lt l.space s ≡ true
    kept s h =
        let m = in_map (λ (n : Layer). n.space) (filter keep ls) s h in
        all_in (space_lt l.space) (names_of ls) (and-left _ _ e) s (subst (λ t. In t (names_of ls)) m.2 (map_in (λ (n : Layer). n.space) ls m.0 (filter_in keep ls m.0 m.1).0))

    by : (b : Bool) → is_ascending (names_of (filter keep ls)) ≡ true → is_ascending (names_of (cond b (l ∷ filter keep ls) (filter keep ls))) ≡ true
    by true h = and_both _ _ (by_all (space_lt l.space) (names_of (filter keep ls)) kept) h
    by false h = h

pub in_put : {A : Type 0} (test : A → Bool) (new : A) (xs : List A) (x : A) → In x (put_before test new xs) → (x ≡ new) ⊎ In x xs
in_put test new [] x (inl e) = inl (sym e)
in_put test new [] x (inr h) = elim h [ ]
in_put {A = A} test new (y ∷ ys) x h = by (test y) h (in_put test new ys x)
  where
    by : (b : Bool) → In x (cond b (new ∷ y ∷ ys) (y ∷ put_before test new ys)) → (In x (put_before test new ys) → (x ≡ new) ⊎ In x ys) → (x ≡ new) ⊎ In x (y ∷ ys)
    by true (inl e) rest = inl (sym e)
    by true (inr k) rest = inr k
    by false (inl e) rest = inr (inl e)
    by false (inr k) rest = elim (rest k) [ inl e ↦ inl e | inr i ↦ inr (inr i) ]

pub put_in : {A : Type 0} (test : A → Bool) (new : A) (xs : List A) (x : A) → In x xs → In x (put_before test new xs)
put_in test new [] x h = elim h [ ]
put_in {A = A} test new (y ∷ ys) x h = by (test y) h (put_in test new ys x)
  where
    by : (b : Bool) → In x (y ∷ ys) → (In x ys → In x (put_before test new ys)) → In x (cond b (new ∷ y ∷ ys) (y ∷ put_before test new ys))
    by true k rest = inr k
    by false (inl e) rest = inl e
    by false (inr k) rest = inr (rest k)

pub ascending_put : (new : Layer) (ls : List Layer) → is_ascending (names_of ls) ≡ true → ((m : Layer) → In m ls → m.space ≡ new.space → ⊥) → is_ascending (names_of (placed new ls)) ≡ true
ascending_put new [] e fresh = refl
ascending_put new (l ∷ ls) e fresh = by (space_lt new.space l.space) refl (ascending_put new ls (and-right _ _ e) (λ m h. fresh m (inr h)))
  where
    test : Layer → Bool
    test m = space_lt new.space m.space

    after_new : space_lt new.space l.space ≡ true → (s : List ℕ) → In s (l.space ∷ names_of ls) → space_lt new.space s ≡ true
    after_new k s (inl q) = subst (λ t. space_lt new.space t ≡ true) q k
    after_new k s (inr q) = lt_trans new.space l.space s k (all_in (space_lt l.space) (names_of ls) (and-left _ _ e) s q)

    after_old : space_lt new.space l.space ≡ false → (s : List ℕ) → In s (names_of (placed new ls)) → space_lt l.space s ≡ true
    after_old k s h =
        let m = in_map (λ (n : Layer). n.space) (placed new ls) s h in
        elim (in_put (λ (other : Layer). space_lt new.space other.space) new ls m.0 m.1) [
          | inl q ↦ subst (λ t. space_lt l.space t ≡ true) (ap (λ (n : Layer). n.space) (sym q) ∙ m.2) (lt_other new.space l.space k (λ j. fresh l (inl refl) j))
          | inr q ↦ all_in (space_lt l.space) (names_of ls) (and-left _ _ e) s (subst (λ t. In t (names_of ls)) m.2 (map_in (λ (n : Layer). n.space) ls m.0 q))
        ]

    by : (b : Bool) → space_lt new.space l.space ≡ b → is_ascending (names_of (placed new ls)) ≡ true
        → is_ascending (names_of (cond b (new ∷ l ∷ ls) (l ∷ put_before (λ (other : Layer). space_lt new.space other.space) new ls))) ≡ true
    by true k rest = and_both _ _ (by_all (space_lt new.space) (l.space ∷ names_of ls) (after_new k)) e
    by false k rest = and_both _ _ (by_all (space_lt l.space) (names_of (placed new ls)) (after_old k)) rest

-- Trees lead

pub ascending_leads : (ls : List Layer) → is_ascending (names_of ls) ≡ true → is_led ls ≡ true
ascending_leads [] e = refl
ascending_leads (l ∷ ls) e = and_both _ _ (by_each (λ (m : Layer). not (is_below m.space l.space)) ls (λ m c. apart m (In-from_contains ls m c))) (ascending_leads ls (and-right _ _ e))
  where
    apart : (m : Layer) → In m ls → not (is_below m.space l.space) ≡ true
    apart m h = elim (decide (is_below m.space l.space)) [
      | inl k ↦ absurd (not_both _ (all_in (space_lt l.space) (names_of ls) (and-left _ _ e) m.space (map_in (λ (n : Layer). n.space) ls m h)) (above_not_less l.space m.space k))
      | inr k ↦ ap not k
    ]

pub trees_lead : TreesLead
trees_lead layers h = ascending_leads layers h.ordered

-- Edits keep the tree

pub given_in : (layers after : List Layer) (space : List ℕ) → ((p : Layer) → In p layers → (q : Layer) × In q after × (q.space ≡ p.space) × (p.next.child ≤ q.next.child)) → IsGivenOut layers space → IsGivenOut after space
given_in layers after space h g =
    let q = h g.parent (In-from_contains layers g.parent g.among) in
    record { parent = q.0; among = contains-from_In after q.0 q.1; number = g.number; name = g.name ∙ ap (λ s. child_name s g.number) (sym q.2); counted = g.counted; given = omega (arith, g.given, q.3) }

module _ (space : List ℕ) (change : Layer → Layer) (layers : List Layer)
    (keeps : (l : Layer) → layer_at layers space ≡ Some l → ((change l).space ≡ l.space) × (l.next.child ≤ (change l).next.child)) where
  abbrev changed : List Layer
  changed = in_layer space change layers

  parent_after : (p : Layer) → In p layers → (q : Layer) × In q changed × (q.space ≡ p.space) × (p.next.child ≤ q.next.child)
  parent_after p h = elim (edit_in (is_of space) change layers p h) [
    | inl k ↦ (p, k, refl, omega arith)
    | inr e ↦ (change p, edited_in (is_of space) change layers p e, (keeps p e).0, (keeps p e).1)
  ]

  given_after : IsTree layers → (l : Layer) → In l changed → is_top l.space ≡ false → IsGivenOut changed l.space
  given_after t l h top = elim (in_edit (is_of space) change layers l h) [
    | inl k ↦ given_in layers changed l.space parent_after (t.given l (contains-from_In layers l k) top)
    | inr r ↦ (let same : l.space ≡ r.0.space = ap (λ (n : Layer). n.space) r.2 ∙ (keeps r.0 r.1).0 in
        subst (IsGivenOut changed) (sym same)
        (given_in layers changed r.0.space parent_after (t.given r.0 (contains-from_In layers r.0 (found_in (is_of space) change layers r.0 r.1).0) (subst (λ s. is_top s ≡ false) same top))))
  ]

  begins_after : IsTree layers → (l : Layer) → In l changed → 1 ≤ l.next.child
  begins_after t l h = elim (in_edit (is_of space) change layers l h) [
    | inl k ↦ t.begins l (contains-from_In layers l k)
    | inr r ↦ (let before = t.begins r.0 (contains-from_In layers r.0 (found_in (is_of space) change layers r.0 r.1).0) in
        let more = (keeps r.0 r.1).1 in
        subst (λ (m : Layer). 1 ≤ m.next.child) (sym r.2) (omega (arith, before, more)))
  ]

  pub tree_changed : IsTree layers → IsTree changed
  tree_changed t = record {
    ordered = ap is_ascending (names_edited (is_of space) change layers (λ l e. (keeps l e).0)) ∙ t.ordered;
    begins = λ l c. begins_after t l (In-from_contains changed l c);
    given = λ l c top. given_after t l (In-from_contains changed l c) top;
  }

-- The end of a space

pub below_child : (s : List ℕ) (n : ℕ) → is_below s (child_name s n) ≡ true
below_child [] n = refl
below_child (a ∷ s) n = and_both _ _ (eq-refl a) (below_child s n)

module _ (space : List ℕ) (layers : List Layer) where
  abbrev left : Layer → Bool
  left l = not (is_properly_below space l.space)

  parent_left : (l p : Layer) (n : ℕ) → left l ≡ true → l.space ≡ child_name p.space n → left p ≡ true
  parent_left l p n e k = elim (decide (is_properly_below space p.space)) [
    | inl b ↦ absurd (false≢true (sym (ap not (properly_trans space p.space l.space b (subst (λ s. is_below p.space s ≡ true) (sym k) (below_child p.space n)))) ∙ e))
    | inr b ↦ ap not b
  ]

  given_left : IsTree layers → (l : Layer) → In l (filter left layers) → is_top l.space ≡ false → IsGivenOut (filter left layers) l.space
  given_left t l h top =
      let f = filter_in left layers l h in
      let g = t.given l (contains-from_In layers l f.0) top in
      record {
        parent = g.parent;
        among = contains-from_In (filter left layers) g.parent (in_filter left layers g.parent (In-from_contains layers g.parent g.among) (parent_left l g.parent g.number f.1 g.name));
        number = g.number;
        name = g.name;
        counted = g.counted;
        given = g.given;
      }

  pub tree_left : IsTree layers → IsTree (filter left layers)
  tree_left t = record {
    ordered = ascending_filter left layers t.ordered;
    begins = λ l c. t.begins l (contains-from_In layers l (filter_in left layers l (In-from_contains (filter left layers) l c)).0);
    given = λ l c top. given_left t l (In-from_contains (filter left layers) l c) top;
  }

pub end_tree : EndTree
end_tree space how layers keeps t =
    tree_changed space how (filter (left space layers) layers) (λ l e. ((keeps l).0, le_same l.next (how l).next (sym (keeps l).1))) (tree_left space layers t)
  where
    le_same : (n m : Next) → n ≡ m → n.child ≤ m.child
    le_same n m e = omega (arith, ap (λ (k : Next). k.child) e)

pub failure_tree : FailureTree
failure_tree space layers t = end_tree space failed layers (λ l. (refl, refl)) t

pub raise_tree : RaiseTree
raise_tree space x layers t = end_tree space (raised_by x) layers (λ l. (refl, refl)) t

-- A new space

pub last_apart : (s t : List ℕ) (m n : ℕ) → child_name s m ≡ child_name t n → (s ≡ t) × (m ≡ n)
last_apart [] [] m n e = (refl, let k : m ≡ n = cc in k)
last_apart [] (b ∷ []) m n e = cc
last_apart [] (b ∷ c ∷ t) m n e = cc
last_apart (a ∷ []) [] m n e = cc
last_apart (a ∷ c ∷ s) [] m n e = cc
last_apart (a ∷ s) (b ∷ t) m n e =
    let head : a ≡ b = cc in
    let tail : child_name s m ≡ child_name t n = cc in
    let r = last_apart s t m n tail in (ap₂ (λ x xs. x ∷ xs) head r.0, r.1)

pub not_top_child : (s : List ℕ) (n : ℕ) → is_top (child_name s n) ≡ false
not_top_child [] n = refl
not_top_child (a ∷ s) n = refl

module _ (layers : List Layer) (t : IsTree layers) (parent : List ℕ) (procedure : Ident) (l : Layer) (at : layer_at layers parent ≡ Some l) where
  abbrev grown : List Layer
  grown = in_layer parent counting_child layers

  abbrev new : Layer
  new = starting procedure (new_layer (next_child l))

  abbrev before_new : Layer → Bool
  before_new other = space_lt new.space other.space

  tree_grown : IsTree grown
  tree_grown = tree_changed parent counting_child layers (λ m e. (refl, omega arith)) t

  pub fresh_before : (m : Layer) → In m layers → m.space ≡ next_child l → ⊥
  fresh_before m h e =
      let g = t.given m (contains-from_In layers m h) (ap is_top e ∙ not_top_child l.space l.next.child) in
      let r = last_apart g.parent.space l.space g.number l.next.child (sym g.name ∙ e) in
      let same : g.parent ≡ l = same_named_layer layers g.parent l t.ordered (In-from_contains layers g.parent g.among) (found_in (is_of parent) counting_child layers l at).0 r.0 in
      let less : g.number < l.next.child = subst (λ (p : Layer). g.number < p.next.child) same g.given in
      let equal : g.number ≡ l.next.child = r.1 in
      absurd (omega (arith, less, equal))

  fresh : (m : Layer) → In m grown → m.space ≡ next_child l → ⊥
  fresh m h e = elim (in_edit (is_of parent) counting_child layers m h) [
    | inl k ↦ fresh_before m k e
    | inr r ↦ fresh_before r.0 (found_in (is_of parent) counting_child layers r.0 r.1).0 (ap (λ (n : Layer). n.space) (sym r.2) ∙ e)
  ]

  parent_there : In (counting_child l) (placed new grown)
  parent_there = put_in before_new new grown (counting_child l) (edited_in (is_of parent) counting_child layers l at)

  given_there : (m : Layer) → In m (placed new grown) → is_top m.space ≡ false → IsGivenOut (placed new grown) m.space
  given_there m h top = elim (in_put before_new new grown m h) [
    | inl e ↦ subst (IsGivenOut (placed new grown)) (ap (λ (n : Layer). n.space) (sym e)) (record {
      parent = counting_child l;
      among = contains-from_In (placed new grown) (counting_child l) parent_there;
      number = l.next.child;
      name = refl;
      counted = t.begins l (contains-from_In layers l (found_in (is_of parent) counting_child layers l at).0);
      given = omega arith;
    })
    | inr k ↦ given_in grown (placed new grown) m.space (λ p i. (p, put_in before_new new grown p i, refl, omega arith)) (tree_grown.given m (contains-from_In grown m k) top)
  ]

  begins_there : (m : Layer) → In m (placed new grown) → 1 ≤ m.next.child
  begins_there m h = elim (in_put before_new new grown m h) [
    | inl e ↦ subst (λ (n : Layer). 1 ≤ n.next.child) (sym e) (omega arith)
    | inr k ↦ tree_grown.begins m (contains-from_In grown m k)
  ]

  tree_placed : IsTree (placed new grown)
  tree_placed = record {
    ordered = ascending_put new grown tree_grown.ordered fresh;
    begins = λ m c. begins_there m (In-from_contains (placed new grown) m c);
    given = λ m c top. given_there m (In-from_contains (placed new grown) m c) top;
  }

pub tree_created : CreationTree
tree_created parent procedure layers l t at =
    subst IsTree (sym (ap (λ (o : Option Layer). placed (starting procedure (new_layer (next_child (unwrap_or o (new_layer parent))))) (in_layer parent counting_child layers)) at))
    (tree_placed layers t parent procedure l at)

pub change_tree : ChangeTree
change_tree space change layers keeps t = tree_changed space change layers keeps t
