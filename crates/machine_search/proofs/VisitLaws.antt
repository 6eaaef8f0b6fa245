-- The traversal over configurations: its bound does not matter, and the loop finds what it finds.
use Rattle.std.proofs.Common.{◌≡◌, ℕ, zero, suc, ◌-◌, ◌<◌, ◌≤◌, true, List, [], ◌∷◌, ◌++◌, Option, Some, None, refl, sym, ap, arith, ◌∙◌, append_assoc}
use Rattle.oz_language.specs.declared.kernel.Kernel.{Kernel}
use Rattle.oz_search.specs.Trees.{Found, with_front, then_find, visit_all}
use Rattle.oz_search.specs.Nodes.{Reached}
use Rattle.oz_search.specs.declared.leaf.Outcome.{Outcome}
use Rattle.search_law.proofs.Booleans.{append_nil}
use Rattle.oz_semantics.specs.Search.{node_at}
use Rattle.oz_semantics.specs.declared.configuration.Configuration.{Configuration}
use Rattle.machine_search.specs.Visits.{leaf_of, children_of, found_at, explored, found_below, found_from, Visits}
use Rattle.machine_search.specs.Laws.{BelowLaw, BeginsLaw, VisitsLaw, StopsLaw, EndsLaw}
use Rattle.machine_search.proofs.MakerLaws.{makes}

-- ---- leaves in front, and parts one after another
pub front_nil : (o : Found Outcome) → with_front [] o ≡ o
front_nil None = refl
front_nil (Some r) = refl

front_front : (xs ys : List Outcome) (o : Found Outcome) → with_front xs (with_front ys o) ≡ with_front (xs ++ ys) o
front_front xs ys None = refl
front_front xs ys (Some r) = ap (λ (zs : List Outcome). Some (zs, r.1)) (sym (append_assoc xs ys r.0))

then_front : (xs : List Outcome) (o : Found Outcome) (next : ℕ → Found Outcome) → then_find (with_front xs o) next ≡ with_front xs (then_find o next)
then_front xs None next = refl
then_front xs (Some r) next = sym (front_front xs r.0 (next r.1))

then_then : (o : Found Outcome) (g h : ℕ → Found Outcome) → then_find (then_find o g) h ≡ then_find o (λ j. then_find (g j) h)
then_then None g h = refl
then_then (Some r) g h = then_front r.0 (g r.1) h

all_append : (v : Configuration → ℕ → Found Outcome) (cs ds : List Configuration) (fuel : ℕ) → visit_all v (cs ++ ds) fuel ≡ then_find (visit_all v cs fuel) (visit_all v ds)
all_append v [] ds fuel = sym (front_nil (visit_all v ds fuel))
all_append v (c ∷ cs) ds fuel =
    ap (then_find (v c fuel)) (λ i j. all_append v cs ds j i) ∙ sym (then_then (v c fuel) (visit_all v cs) (visit_all v ds))

then_nil : (v : Configuration → ℕ → Found Outcome) (o : Found Outcome) → then_find o (visit_all v []) ≡ o
then_nil v None = refl
then_nil v (Some r) = ap (λ (xs : List Outcome). Some (xs, r.1)) (append_nil r.0)

-- ---- no more fuel is left than there was
abbrev AtMost : Found Outcome → ℕ → Type 0
AtMost None fuel = true ≡ true
AtMost (Some r) fuel = r.1 ≤ fuel

less_more : (o : Found Outcome) (f g : ℕ) → f ≤ g → AtMost o f → AtMost o g
less_more None f g low h = refl
less_more (Some r) f g low h = omega (arith, low, h)

front_less : (xs : List Outcome) (o : Found Outcome) (f : ℕ) → AtMost o f → AtMost (with_front xs o) f
front_less xs None f h = refl
front_less xs (Some r) f h = h

then_less : (o : Found Outcome) (next : ℕ → Found Outcome) (f : ℕ) → AtMost o f → ((g : ℕ) → AtMost (next g) g) → AtMost (then_find o next) f
then_less None next f h rest = refl
then_less (Some r) next f h rest = front_less r.0 (next r.1) f (less_more (next r.1) r.1 f h (rest r.1))

abbrev IsLess : (Configuration → ℕ → Found Outcome) → Type 0
IsLess v = (c : Configuration) (f : ℕ) → AtMost (v c f) f

all_less : (v : Configuration → ℕ → Found Outcome) → IsLess v → (cs : List Configuration) (f : ℕ) → AtMost (visit_all v cs f) f
all_less v less [] f = omega arith
all_less v less (c ∷ cs) f = then_less (v c f) (visit_all v cs) f (less c f) (all_less v less cs)

-- ---- two visits that agree below some fuel find the same
abbrev IsSame : (Configuration → ℕ → Found Outcome) → (Configuration → ℕ → Found Outcome) → ℕ → Type 0
IsSame v w n = (c : Configuration) (g : ℕ) → g < n → v c g ≡ w c g

then_same : (o : Found Outcome) (n : ℕ) (v w : ℕ → Found Outcome) → AtMost o n → ((g : ℕ) → g ≤ n → v g ≡ w g) → then_find o v ≡ then_find o w
then_same None n v w less h = refl
then_same (Some r) n v w less h = ap (with_front r.0) (h r.1 less)

all_same : (v w : Configuration → ℕ → Found Outcome) → IsLess v → (n : ℕ) → IsSame v w n → (cs : List Configuration) (f : ℕ) → f < n → visit_all v cs f ≡ visit_all w cs f
all_same v w less n h [] f low = refl
all_same v w less n h (c ∷ cs) f low =
    then_same (v c f) f (visit_all v cs) (visit_all w cs) (less c f) (λ g l. all_same v w less n h cs g (omega (arith, l, low)))
    ∙ ap (λ o. then_find o (visit_all w cs)) (h c f low)

module _ (k : Kernel) (space : List ℕ) where
  node_less : (v : Configuration → ℕ → Found Outcome) → IsLess v → (f : ℕ) (o : Option (Reached Configuration Outcome)) → AtMost (found_at k space v f o) f
  node_less v less f None = refl
  node_less v less f (Some r) =
      let all = visit_all v (children_of k space r.config r.report.kind) (f - r.report.steps) in
      front_less (leaf_of r.report.kind) all f
      (less_more all (f - r.report.steps) f (omega arith) (all_less v less (children_of k space r.config r.report.kind) (f - r.report.steps)))

  explored_less : (bound : ℕ) → IsLess (explored k space bound)
  unfolding explored
  explored_less zero c f = refl
  explored_less (suc bound) c f = node_less (explored k space bound) (explored_less bound) f (node_at k space f c)

  node_same : (v w : Configuration → ℕ → Found Outcome) → IsLess v → (f : ℕ) → IsSame v w f → (c : Configuration) (o : Option (Reached Configuration Outcome)) → node_at k space f c ≡ o
      → found_at k space v f o ≡ found_at k space w f o
  node_same v w less f h c None e = refl
  node_same v w less f h c (Some r) e =
      let own = makes k space f c r e in
      let one = own.0 in
      let fits = own.1 in
      ap (with_front (leaf_of r.report.kind)) (all_same v w less f h (children_of k space r.config r.report.kind) (f - r.report.steps) (omega (arith, one, fits)))

  -- the bound does not matter where it is above the fuel
  bound_same : (b d : ℕ) (c : Configuration) (f : ℕ) → f < b → f < d → explored k space b c f ≡ explored k space d c f
  unfolding explored
  bound_same zero d c f p q = absurd (omega (arith, p))
  bound_same (suc b) zero c f p q = absurd (omega (arith, q))
  bound_same (suc b) (suc d) c f p q =
      node_same (explored k space b) (explored k space d) (explored_less b) f (λ e g l. bound_same b d e g (omega (arith, p, l)) (omega (arith, q, l))) c
      (node_at k space f c) refl

  -- it goes from a node to its children
  below : (c : Configuration) (fuel : ℕ) → found_below k space c fuel ≡ found_at k space (found_below k space) fuel (node_at k space fuel c)
  unfolding explored found_below
  below c fuel =
      node_same (explored k space fuel) (found_below k space) (explored_less fuel) fuel (λ e g l. bound_same fuel (suc g) e g l (omega arith)) c
      (node_at k space fuel c) refl

  -- ---- the loop
  visit_node : (c : Configuration) (left : ℕ) (opened : List Configuration) (leaves : List Outcome) (r : Reached Configuration Outcome) → node_at k space left c ≡ Some r
      → found_from k space (leaves ++ leaf_of r.report.kind) (children_of k space r.config r.report.kind ++ opened) (left - r.report.steps) ≡ found_from k space leaves (c ∷ opened) left
  visit_node c left opened leaves r made =
      let v = found_below k space in
      let leaf = leaf_of r.report.kind in
      let children = children_of k space r.config r.report.kind in
      let rest = left - r.report.steps in
      let once : v c left ≡ with_front leaf (visit_all v children rest) = below c left ∙ ap (found_at k space v left) made in
      let all : visit_all v (c ∷ opened) left ≡ with_front leaf (visit_all v (children ++ opened) rest) =
      ap (λ o. then_find o (visit_all v opened)) once
      ∙ (then_front leaf (visit_all v children rest) (visit_all v opened)
      ∙ ap (with_front leaf) (sym (all_append v children opened rest))) in
      sym (front_front leaves leaf (visit_all v (children ++ opened) rest)) ∙ ap (with_front leaves) (sym all)

  visited : (c : Configuration) (left next : ℕ) (opened after : List Configuration) (leaves leaves_after : List Outcome) → Visits k space c left next opened after leaves leaves_after
      → (next < left) × (found_from k space leaves_after after next ≡ found_from k space leaves (c ∷ opened) left)
  visited c left next opened after leaves leaves_after h =
      let r = h.node in
      let own = makes k space left c r h.made in
      let one = own.0 in
      let fits = own.1 in
      let spends = h.spends in (
        omega (arith, one, fits, spends),
        ap (λ ls. found_from k space ls after next) h.adds
            ∙ (ap (λ cs. found_from k space (leaves ++ leaf_of r.report.kind) cs next) h.opens
            ∙ (ap (found_from k space (leaves ++ leaf_of r.report.kind) (children_of k space r.config r.report.kind ++ opened)) spends
            ∙ visit_node c left opened leaves r h.made)),
      )

  stopped : (c : Configuration) (left : ℕ) (opened : List Configuration) (leaves : List Outcome) → node_at k space left c ≡ None → found_from k space leaves (c ∷ opened) left ≡ None
  stopped c left opened leaves none =
      let v = found_below k space in
      ap (λ o. with_front leaves (then_find o (visit_all v opened))) (below c left ∙ ap (found_at k space v left) none)

pub below_law : BelowLaw
below_law k space c fuel = below k space c fuel

pub begins_law : BeginsLaw
begins_law k space c fuel = front_nil (visit_all (found_below k space) (c ∷ []) fuel) ∙ then_nil (found_below k space) (found_below k space c fuel)

pub visits_law : VisitsLaw
visits_law k space c left next opened after leaves leaves_after h = visited k space c left next opened after leaves leaves_after h

pub stops_law : StopsLaw
stops_law k space c left opened leaves none = stopped k space c left opened leaves none

pub ends_law : EndsLaw
ends_law k space leaves left = ap (λ (ls : List Outcome). Some (ls, left)) (append_nil leaves)
