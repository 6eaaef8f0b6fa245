-- Ways, and what is at the paths that go on from them.
use Rattle.std.proofs.Common.{◌≡◌, ℕ, suc, ◌+◌, ◌-◌, ◌==◌, ◌&&◌, Bool, true, false, cond, List, [], ◌∷◌, ◌++◌, length, slice_get, Option, Some, None, refl, sym, ap, subst, arith, ◌∙◌}
use lib.Dec.{leb}
use Rattle.std.specs.Ordering.{is_eq}
use Rattle.std.specs.declared.cmp.Ordering.{Ordering}
use Rattle.std.specs.declared.cmp.Ordering.TheVariants.{Less, Equal, Greater}
use Rattle.std.proofs.lemmas.Bool.Decides.{nat_tests}
use Rattle.std.proofs.lemmas.Option.{same_Some}
use Rattle.oz_language.specs.declared.kernel.Kernel.{Kernel}
use Rattle.oz_machine.specs.Courses.{Loaded}
use Rattle.oz_search.specs.Trees.{report}
use Rattle.oz_search.specs.Searches.{Search, IsSearch}
use Rattle.oz_search.specs.Nodes.{Reached, Maker, IsMaker, Met, OutOfFuel, NotANode, met_last, met_by_kind, met_next, met_from}
use Rattle.oz_search.specs.declared.tree.Kind.{Kind}
use Rattle.oz_search.specs.declared.tree.Kind.TheVariants.{Alternatives, End}
use Rattle.oz_semantics.specs.declared.configuration.Configuration.{Configuration}
use Rattle.recompute.specs.Origins.{Origin, met_by}
use Rattle.recompute.specs.Ways.{reached, offers, MakesNode, Opens, IsMadeOf, AreBelow, IsWay, last_of, met_behind, met_on, rest_behind, rest_of, answer_of}
use Rattle.recompute.specs.declared.explorer.Solved.TheVariants as solved
use Rattle.recompute.specs.declared.waypoint.Waypoint.{Waypoint}

pub both_true : (a b : Bool) → (a && b) ≡ true → (a ≡ true) × (b ≡ true)
both_true true b e = (refl, e)
both_true false b e = absurd (cc (e))

equal_by : (r : Ordering) → is_eq r ≡ true → r ≡ Equal
equal_by Less e = absurd (cc (e))
equal_by Equal e = refl
equal_by Greater e = absurd (cc (e))

no_nodes : {A : Type 0} (xs : List A) → (length xs == 0) ≡ true → xs ≡ []
no_nodes [] e = refl
no_nodes (x ∷ xs) e = absurd (grind (arith, nat_tests, e))

length_pushed : {A : Type 0} (xs : List A) (y : A) → length (xs ++ y ∷ []) ≡ suc (length xs)
length_pushed [] y = refl
length_pushed (x ∷ xs) y = ap suc (length_pushed xs y)

-- ---- the end of a way

module _ {B L : Type 0} where
  last_pushed : (x : Waypoint B L) (way : List (Waypoint B L)) (y : Waypoint B L) → last_of x (way ++ y ∷ []) ≡ y
  last_pushed x [] y = refl
  last_pushed x (z ∷ way) y = last_pushed z way y

  last_got : (x : Waypoint B L) (way : List (Waypoint B L)) (y : Waypoint B L) (n : ℕ) → n ≡ length way → slice_get (x ∷ way) n ≡ Some y → last_of x way ≡ y
  last_got x [] y n sum e = same_Some x y (ap (slice_get (x ∷ [])) (sym sum) ∙ e)
  last_got x (z ∷ way) y n sum e = last_got z way y (length way) refl (ap (slice_get (x ∷ z ∷ way)) (sym sum) ∙ e)

module _ {B L : Type 0} (k : Search B L) where
  -- ---- one branch

  pub by_offer : (at : ℕ) (b : B) (kind : Kind L) (next : Met Configuration L) → offers k kind b ≡ true → met_by_kind k at b kind next ≡ next
  by_offer at b (Alternatives n) next e = ap (λ t. cond t next (NotANode (suc at))) e
  by_offer at b (End l) next e = absurd (cc (e))

  pub by_refusal : (at : ℕ) (b : B) (kind : Kind L) (next : Met Configuration L) → offers k kind b ≡ false → met_by_kind k at b kind next ≡ NotANode (suc at)
  by_refusal at b (Alternatives n) next e = ap (λ t. cond t next (NotANode (suc at))) e
  by_refusal at b (End l) next e = refl

  module _ (m : Maker B L Configuration) where
    -- what is at the path p from a configuration, which is so many branches below the root
    abbrev pub met_below : ℕ → ℕ → Configuration → List B → Met Configuration L
    met_below fuel at c p = met_from k m fuel at c p

    -- a path from a configuration goes on from its node
    pub met_there : (fuel at : ℕ) (c : Configuration) (x : Waypoint B L) (p : List B) → m.run fuel c ≡ Some (reached x) → met_below fuel at c p ≡ met_behind k m fuel at x p
    met_there fuel at c x [] e = ap (met_last k at) e
    met_there fuel at c x (b ∷ p) e = ap (met_next k at b (λ d. met_below fuel (suc at) (m.commit b d) p)) e

    -- and ends where there is none
    pub met_missing : (fuel at : ℕ) (c : Configuration) (p : List B) → m.run fuel c ≡ None → met_below fuel at c p ≡ OutOfFuel at
    met_missing fuel at c [] e = ap (met_last k at) e
    met_missing fuel at c (b ∷ p) e = ap (met_next k at b (λ d. met_below fuel (suc at) (m.commit b d) p)) e

    -- a node is left by a branch that it offers
    pub offered : (fuel at : ℕ) (x : Waypoint B L) (b : B) (p : List B) → offers k x.report.kind b ≡ true
        → met_behind k m fuel at x (b ∷ p) ≡ met_below fuel (suc at) (m.commit b x.machine.config) p
    offered fuel at x b p e = by_offer at b x.report.kind (met_below fuel (suc at) (m.commit b x.machine.config) p) e

    pub refused : (fuel at : ℕ) (x : Waypoint B L) (b : B) (p : List B) → offers k x.report.kind b ≡ false → met_behind k m fuel at x (b ∷ p) ≡ NotANode (suc at)
    refused fuel at x b p e = by_refusal at b x.report.kind (met_below fuel (suc at) (m.commit b x.machine.config) p) e

    -- ---- shorter ways

    below_popped : (q : Kernel) (x : Waypoint B L) (way : List (Waypoint B L)) (y : Waypoint B L) → AreBelow k m q x (way ++ y ∷ []) → AreBelow k m q x way
    below_popped q x [] y are = tt
    below_popped q x (z ∷ way) y are = (are.0, are.1, below_popped q z way y are.2)

    popped : (o : Origin) (way : List (Waypoint B L)) (y : Waypoint B L) → IsWay k m o (way ++ y ∷ []) → IsWay k m o way
    popped o [] y is = tt
    popped o (x ∷ way) y is = (is.0, below_popped o.kernel x way y is.1)

    pub popped_from : (o : Origin) (way new : List (Waypoint B L)) (y : Waypoint B L) → way ≡ new ++ y ∷ [] → IsWay k m o way → IsWay k m o new
    popped_from o way new y e is = popped o new y (subst (IsWay k m o) e is)

    last_of_pushed : (o : Origin) (fuel : ℕ) (way : List (Waypoint B L)) (y : Waypoint B L) (p : List B) → met_on k m o fuel (way ++ y ∷ []) p ≡ met_behind k m fuel (length way) y p
    last_of_pushed o fuel [] y p = refl
    last_of_pushed o fuel (x ∷ way) y p =
        ap (λ n. met_behind k m fuel n (last_of x (way ++ y ∷ [])) p) (length_pushed way y) ∙ ap (λ z. met_behind k m fuel (suc (length way)) z p) (last_pushed x way y)

    pub reported : (o : Origin) (fuel : ℕ) (way new : List (Waypoint B L)) (y : Waypoint B L) (kind : Kind L) → way ≡ new ++ y ∷ [] → y.report.kind ≡ kind
        → solved.Node (report kind y.report.steps) ≡ answer_of (met_on k m o fuel way [])
    reported o fuel way new y kind e i =
        ap (λ (x : Kind L). solved.Node (report x y.report.steps)) (sym i)
        ∙ sym (ap answer_of (ap (λ (w : List (Waypoint B L)). met_on k m o fuel w []) e ∙ last_of_pushed o fuel new y []))

    -- ---- one node

    module _ (is : IsMaker m) where
      -- a node that was made with some fuel is made with its own steps
      made_of : (q : Kernel) (c : Configuration) (fuel : ℕ) (x : Waypoint B L) → x.machine.kernel ≡ q → m.run fuel c ≡ Some (reached x) → IsMadeOf k m q c x
      made_of q c fuel x i e =
          let its = is fuel c (reached x) e in
          let fits : leb x.report.steps x.report.steps ≡ true = grind (arith, nat_tests) in
          (i, its.2 x.report.steps ∙ ap (λ b. cond b (Some (reached x)) None) fits)

      -- and with any fuel that suffices for these
      with_fuel : (q : Kernel) (c : Configuration) (fuel : ℕ) (x : Waypoint B L) → IsMadeOf k m q c x → leb x.report.steps fuel ≡ true → m.run fuel c ≡ Some (reached x)
      with_fuel q c fuel x made fits = (is x.report.steps c (reached x) made.1).2 fuel ∙ ap (λ b. cond b (Some (reached x)) None) fits

      -- from a node to the one below it
      below : (q : Kernel) (fuel at : ℕ) (x y : Waypoint B L) (p : List B) → offers k x.report.kind y.branch ≡ true → IsMadeOf k m q (m.commit y.branch x.machine.config) y
          → leb y.report.steps fuel ≡ true → met_behind k m fuel at x (y.branch ∷ p) ≡ met_behind k m fuel (suc at) y p
      below q fuel at x y p offer made fits =
          offered fuel at x y.branch p offer ∙ met_there fuel (suc at) (m.commit y.branch x.machine.config) y p (with_fuel q (m.commit y.branch x.machine.config) fuel y made fits)

      -- ---- along a way

      module _ (its : IsSearch k) where
        behind_leads : (o : Kernel) (fuel at n : ℕ) (x : Waypoint B L) (way : List (Waypoint B L)) (p q : List B) → n ≡ at + length way → AreBelow k m o x way
            → rest_behind k fuel way p ≡ Some q → met_behind k m fuel n (last_of x way) q ≡ met_behind k m fuel at x p
        behind_leads o fuel at n x [] p q sum are e =
            let same : n ≡ at = omega (arith, sum) in
            ap (λ i. met_behind k m fuel i x q) same ∙ ap (met_behind k m fuel at x) (sym (same_Some p q e))
        behind_leads o fuel at n x (y ∷ way) [] q sum are e = absurd (cc (e))
        behind_leads o fuel at n x (y ∷ way) (b ∷ p) q sum are e =
            by (λ g. behind_leads o fuel (suc at) n y way p q (omega (arith, sum)) are.2 g) (is_eq (k.cmp y.branch b) && leb y.report.steps fuel) refl e
          where
            by : (rest_behind k fuel way p ≡ Some q → met_behind k m fuel n (last_of y way) q ≡ met_behind k m fuel (suc at) y p)
                → (t : Bool) → (is_eq (k.cmp y.branch b) && leb y.report.steps fuel) ≡ t → cond t (rest_behind k fuel way p) None ≡ Some q
                → met_behind k m fuel n (last_of y way) q ≡ met_behind k m fuel at x (b ∷ p)
            by further false i g = absurd (cc (g))
            by further true i g =
                let tests = both_true (is_eq (k.cmp y.branch b)) (leb y.report.steps fuel) i in
                let same : y.branch ≡ b = its.tied y.branch b (equal_by (k.cmp y.branch b) tests.0) in
                further g ∙ sym (below o fuel at x y p are.0 are.1 tests.1) ∙ ap (λ c. met_behind k m fuel at x (c ∷ p)) same

        -- what is at a path that leads through the way is what is at the rest of it
        pub leads : (o : Origin) (fuel : ℕ) (way : List (Waypoint B L)) (p q : List B) → IsWay k m o way → rest_of k fuel way p ≡ Some q → met_on k m o fuel way q ≡ met_by k m o fuel p
        leads o fuel [] p q along e = ap (met_by k m o fuel) (sym (same_Some p q e))
        leads o fuel (x ∷ way) p q along e = by (leb x.report.steps fuel) refl e
          where
            by : (t : Bool) → leb x.report.steps fuel ≡ t → cond t (rest_behind k fuel way p) None ≡ Some q → met_behind k m fuel (length way) (last_of x way) q ≡ met_by k m o fuel p
            by false i g = absurd (cc (g))
            by true i g =
                let sum : length way ≡ 0 + length way = omega arith in
                behind_leads o.kernel fuel 0 (length way) x way p q sum along.1 g ∙ sym (met_there fuel 0 o.config x p (with_fuel o.kernel o.config fuel x along.0 i))

      -- ---- longer ways

      below_pushed : (q : Kernel) (x : Waypoint B L) (way : List (Waypoint B L)) (y : Waypoint B L) → AreBelow k m q x way → offers k (last_of x way).report.kind y.branch ≡ true
          → IsMadeOf k m q (m.commit y.branch (last_of x way).machine.config) y → AreBelow k m q x (way ++ y ∷ [])
      below_pushed q x [] y are offer made = (offer, made, tt)
      below_pushed q x (z ∷ way) y are offer made = (are.0, are.1, below_pushed q z way y are.2 offer made)

      last_kernel : (q : Kernel) (x : Waypoint B L) (way : List (Waypoint B L)) → x.machine.kernel ≡ q → AreBelow k m q x way → (last_of x way).machine.kernel ≡ q
      last_kernel q x [] i are = i
      last_kernel q x (y ∷ way) i are = last_kernel q y way are.1.0 are.2

      -- y is the last node of the way
      pub record EndsAt (o : Origin) (fuel : ℕ) (way : List (Waypoint B L)) (y : Waypoint B L) : Type 0 where
        pub depth : ℕ
        pub long : length way ≡ suc depth
        pub kernel : y.machine.kernel ≡ o.kernel
        pub met : (p : List B) → met_on k m o fuel way p ≡ met_behind k m fuel depth y p
        pub pushed : (z : Waypoint B L) → offers k y.report.kind z.branch ≡ true → IsMadeOf k m o.kernel (m.commit z.branch y.machine.config) z → IsWay k m o (way ++ z ∷ [])

      pub ends_at : (o : Origin) (fuel : ℕ) (way : List (Waypoint B L)) (y : Waypoint B L) → IsWay k m o way → slice_get way (length way - 1) ≡ Some y → EndsAt o fuel way y
      ends_at o fuel [] y along e = absurd (cc (e))
      ends_at o fuel (x ∷ way) y along e =
          let one : length (x ∷ way) - 1 ≡ length way = omega arith in
          let same : last_of x way ≡ y = last_got x way y (length (x ∷ way) - 1) one e in
          record {
            depth = length way;
            long = refl;
            kernel = subst (λ (z : Waypoint B L). z.machine.kernel ≡ o.kernel) same (last_kernel o.kernel x way along.0.0 along.1);
            met = λ p. ap (λ z. met_behind k m fuel (length way) z p) same;
            pushed = λ z offer made. (
              along.0,
              below_pushed o.kernel x way z along.1
                  (subst (λ (w : Waypoint B L). offers k w.report.kind z.branch ≡ true) (sym same) offer)
                  (subst (λ (w : Waypoint B L). IsMadeOf k m o.kernel (m.commit z.branch w.machine.config) z) (sym same) made),
            );
          }

      -- ---- the root

      root_node : (o : Origin) (fuel : ℕ) (d : Loaded) (r : Option (Reached Configuration L)) → d.config ≡ o.config → m.run fuel d.config ≡ r → m.run fuel o.config ≡ r
      root_node o fuel d r c e = subst (λ (x : Configuration). m.run fuel x ≡ r) c e

      -- it needs too many steps
      pub begins_short : (o : Origin) (fuel : ℕ) (way : List (Waypoint B L)) (d : Loaded) (b : B) (p : List B) → (length way == 0) ≡ true → d.config ≡ o.config
          → MakesNode m b fuel d None → solved.OutOfFuel 0 ≡ answer_of (met_on k m o fuel way p)
      begins_short o fuel way d b p none c made =
          sym (ap (λ (w : List (Waypoint B L)). answer_of (met_on k m o fuel w p)) (no_nodes way none)
          ∙ ap answer_of (met_missing fuel 0 o.config p (root_node o fuel d None c made)))

      -- the way begins with it
      pub begins_way : (o : Origin) (fuel : ℕ) (way new : List (Waypoint B L)) (d : Loaded) (b : B) (x : Waypoint B L) → (length way == 0) ≡ true → new ≡ way ++ x ∷ []
          → d.kernel ≡ o.kernel → d.config ≡ o.config → MakesNode m b fuel d (Some x) → IsWay k m o new
      begins_way o fuel way new d b x none n i c made =
          subst (IsWay k m o) (sym (n ∙ ap (λ w. w ++ x ∷ []) (no_nodes way none)))
          (made_of o.kernel o.config fuel x (made.1 ∙ i) (root_node o fuel d (Some (reached x)) c made.0), tt)

      pub begins : (o : Origin) (fuel : ℕ) (way new : List (Waypoint B L)) (d : Loaded) (b : B) (x : Waypoint B L) (p : List B) → (length way == 0) ≡ true → new ≡ way ++ x ∷ []
          → d.config ≡ o.config → MakesNode m b fuel d (Some x) → met_on k m o fuel way p ≡ met_on k m o fuel new p
      begins o fuel way new d b x p none n c made =
          let empty = no_nodes way none in
          ap (λ (w : List (Waypoint B L)). met_on k m o fuel w p) empty
          ∙ met_there fuel 0 o.config x p (root_node o fuel d (Some (reached x)) c made.0)
          ∙ sym (ap (λ (w : List (Waypoint B L)). met_on k m o fuel w p) (n ∙ ap (λ w. w ++ x ∷ []) empty))

      -- ---- a step

      pub opened_node : (fuel : ℕ) (b : B) (y : Waypoint B L) (d : Loaded) (r : Option (Reached Configuration L)) → Opens k m y b (Some d) → m.run fuel d.config ≡ r
          → m.run fuel (m.commit b y.machine.config) ≡ r
      opened_node fuel b y d r opens e = subst (λ (x : Configuration). m.run fuel x ≡ r) opens.2 e

      -- to what the node does not offer
      pub goes_refused : (o : Origin) (fuel : ℕ) (b : B) (way : List (Waypoint B L)) (y : Waypoint B L) (p : List B) → IsWay k m o way → slice_get way (length way - 1) ≡ Some y
          → Opens k m y b None → solved.NotANode (length way) ≡ answer_of (met_on k m o fuel way (b ∷ p))
      goes_refused o fuel b way y p along last opens =
          let end = ends_at o fuel way y along last in
          ap (λ (n : ℕ). solved.NotANode n) end.long ∙ sym (ap answer_of (end.met (b ∷ p) ∙ refused fuel end.depth y b p opens))

      -- to a node that needs too many steps
      pub goes_short : (o : Origin) (fuel : ℕ) (b : B) (way : List (Waypoint B L)) (y : Waypoint B L) (d : Loaded) (p : List B) → IsWay k m o way → slice_get way (length way - 1) ≡ Some y
          → Opens k m y b (Some d) → MakesNode m b fuel d None → solved.OutOfFuel (length way) ≡ answer_of (met_on k m o fuel way (b ∷ p))
      goes_short o fuel b way y d p along last opens none =
          let end = ends_at o fuel way y along last in
          ap (λ (n : ℕ). solved.OutOfFuel n) end.long
          ∙ sym (ap answer_of
          (end.met (b ∷ p)
          ∙ offered fuel end.depth y b p opens.0
          ∙ met_missing fuel (suc end.depth) (m.commit b y.machine.config) p (opened_node fuel b y d None opens none)))

      -- to a node
      pub goes_way : (o : Origin) (fuel : ℕ) (b : B) (way new : List (Waypoint B L)) (y z : Waypoint B L) (d : Loaded) → IsWay k m o way → slice_get way (length way - 1) ≡ Some y
          → Opens k m y b (Some d) → MakesNode m b fuel d (Some z) → new ≡ way ++ z ∷ [] → IsWay k m o new
      goes_way o fuel b way new y z d along last opens made n =
          let end = ends_at o fuel way y along last in
          let node = opened_node fuel b y d (Some (reached z)) opens made.0 in
          subst (IsWay k m o) (sym n)
          (end.pushed z (subst (λ (c : B). offers k y.report.kind c ≡ true) (sym made.2) opens.0)
          (subst (λ (c : B). IsMadeOf k m o.kernel (m.commit c y.machine.config) z) (sym made.2)
          (made_of o.kernel (m.commit b y.machine.config) fuel z (made.1 ∙ opens.1 ∙ end.kernel) node)))

      pub goes_on : (o : Origin) (fuel : ℕ) (b : B) (way new : List (Waypoint B L)) (y z : Waypoint B L) (d : Loaded) (p : List B) → IsWay k m o way → slice_get way (length way - 1) ≡ Some y
          → Opens k m y b (Some d) → MakesNode m b fuel d (Some z) → new ≡ way ++ z ∷ [] → met_on k m o fuel way (b ∷ p) ≡ met_on k m o fuel new p
      goes_on o fuel b way new y z d p along last opens made n =
          let end = ends_at o fuel way y along last in
          end.met (b ∷ p)
          ∙ offered fuel end.depth y b p opens.0
          ∙ met_there fuel (suc end.depth) (m.commit b y.machine.config) z p (opened_node fuel b y d (Some (reached z)) opens made.0)
          ∙ ap (λ i. met_behind k m fuel i z p) (sym end.long)
          ∙ sym (last_of_pushed o fuel way z p)
          ∙ ap (λ (w : List (Waypoint B L)). met_on k m o fuel w p) (sym n)
