-- A finished history of best search has found the least cost.
use Rattle.std.proofs.Common.{◌≡◌, ⊎_elim, ℕ, zero, suc, ◌≤◌, ℤ, Bool, true, false, cond, List, [], ◌∷◌, ◌++◌, Option, Some, None, refl, ap, sym, ◌∙◌, subst, arith, append_assoc}
use lib.Dec.{leb}
use Rattle.std.specs.Prelude.{◌≤ℤ◌}
use Rattle.std.proofs.lemmas.Bool.Decides.{nat_tests}
use Rattle.oz_search.specs.declared.best.Bounded.{Bounded}
use Rattle.oz_search.specs.declared.best.Costed.{Costed}
use Rattle.oz_search.specs.declared.history.Entry.TheVariants.{Claim, Split, Leaf, Stop}
use Rattle.oz_search.specs.declared.tree.Kind.TheVariants.{Alternatives, End}
use Rattle.oz_search.specs.Paths.{Taking, same_alternative, children}
use Rattle.oz_search.specs.Trees.{Tree, Costs, report}
use Rattle.oz_search.specs.Nodes.{Fuelled}
use Rattle.oz_search.specs.Histories.{IsLegal, IsNothingOpen, IsNothingOut, AgreesAt}
use Rattle.oz_search.specs.Best.{BestEntry, best, best_after, best_of, cost_of, unbounded}
use Rattle.search_law.specs.Counting.{one_if}
use Rattle.search_law.specs.Law.{Follows}
use Rattle.search_law.specs.Taken.{taken, last_or}
use Rattle.search_law.specs.BestLaw.{IsUnder, bounded, Solves, BestLaw}
use Rattle.search_law.proofs.Settings.{Setting, of_search}
use Rattle.search_law.proofs.Booleans.{append_nil}
use Rattle.search_law.proofs.Places.{same_itself, place_is}
use Rattle.search_law.proofs.Fronts.{Item, Todo, Done, path_of, todos, replace, awaiting, front, front_after, All_below, Closed}
use Rattle.search_law.proofs.Items.{by_item}
use Rattle.search_law.proofs.FrontLaws.{along, AllTold, front_push}
use Rattle.search_law.proofs.Explores.{IsInner}
use Rattle.search_law.proofs.Followed.{not_due}
use Rattle.search_law.proofs.Finish.{folded, legal_cuts}
use Rattle.search_law.proofs.Takings.{taken_law, last_is}
use Rattle.search_law.proofs.Instances.{best_search, bound_exact}
use Rattle.search_law.proofs.Costs.{IsWithin, within_more, below_or_not, cost_itself, lesser_one, best_push, after_within, leaf_within, later_within, bears_last}

-- ---- the bound of a branch that was taken stood in a claim
none_or_some : {P : Type 0} (w : ℤ) → ◌≡◌ {A = Option ℤ} None (Some w) → P
none_or_some w e = absurd (cc (e))

claim_taken : (h : List BestEntry) (p : List Bounded) (i : ℕ) (x : Bounded) (w : ℤ) → taken best h p i ≡ x → x.bound ≡ Some w
    → (b : List BestEntry) × (u : ℕ) × (a : List BestEntry) × (h ≡ b ++ Claim u (p ++ x ∷ []) ∷ a)
claim_taken [] p i x w e bound = none_or_some w (ap (λ (y : Bounded). y.bound) e ∙ bound)
claim_taken (Claim u q ∷ h) p i x w e bound =
    let step : (t : Bool) → same_alternative best (p ++ unbounded i ∷ []) q ≡ t → cond t (last_or (unbounded i) q) (taken best h p i) ≡ x
    → (b : List BestEntry) × (v : ℕ) × (a : List BestEntry) × (Claim u q ∷ h ≡ b ++ Claim v (p ++ x ∷ []) ∷ a)
    = elim [
      | true ↦ λ i' g.
          let r = place_is (of_search best best_search) p (unbounded i) q i' in
          let end : r.0 ≡ x = sym (ap (last_or (unbounded i)) r.1 ∙ last_is (unbounded i) p r.0) ∙ g in
          let path : q ≡ p ++ x ∷ [] = r.1 ∙ ap (λ y. p ++ y ∷ []) end in
          ([], u, h, ap (λ z. Claim u z ∷ h) path)
      | false ↦ λ i' g. let r = claim_taken h p i x w g bound in (Claim u q ∷ r.0, r.1, r.2, ap (λ z. Claim u q ∷ z) r.3)
    ] in
    step (same_alternative best (p ++ unbounded i ∷ []) q) refl e
claim_taken (Split u q n s ∷ h) p i x w e bound = let r = claim_taken h p i x w e bound in (Split u q n s ∷ r.0, r.1, r.2, ap (λ z. Split u q n s ∷ z) r.3)
claim_taken (Leaf u q l s ∷ h) p i x w e bound = let r = claim_taken h p i x w e bound in (Leaf u q l s ∷ r.0, r.1, r.2, ap (λ z. Leaf u q l s ∷ z) r.3)
claim_taken (Stop y ∷ h) p i x w e bound = let r = claim_taken h p i x w e bound in (Stop y ∷ r.0, r.1, r.2, ap (λ z. Stop y ∷ z) r.3)

-- ---- the leaves of the front cost no less than the best
module _ (its : Setting Bounded Costed) where
  abbrev IsPriced : Option ℤ → Item Bounded Costed → Type 0
  IsPriced c (Todo p) = Unit {0}
  IsPriced c (Done p l s) = (v : ℤ) → cost_of l ≡ Some v → IsWithin c v

  abbrev pub AllPriced : Option ℤ → List (Item Bounded Costed) → Type 0
  AllPriced c [] = Unit {0}
  AllPriced c (x ∷ f) = IsPriced c x × AllPriced c f

  priced_append : (c : Option ℤ) (f g : List (Item Bounded Costed)) → AllPriced c f → AllPriced c g → AllPriced c (f ++ g)
  priced_append c [] g a b = b
  priced_append c (x ∷ f) g a b = (a.0, priced_append c f g a.1 b)

  priced_todos : (c : Option ℤ) (ps : List (List Bounded)) → AllPriced c (todos ps)
  priced_todos c [] = tt
  priced_todos c (p ∷ ps) = (tt, priced_todos c ps)

  priced_replace : (c : Option ℤ) (p : List Bounded) (xs f : List (Item Bounded Costed)) → AllPriced c xs → AllPriced c f → AllPriced c (replace its p xs f)
  priced_replace c p xs [] a b = tt
  priced_replace c p xs (y ∷ ys) a b = by_item its p xs (AllPriced c) y ys (λ e. priced_append c xs ys a b.1) (λ e. (b.0, priced_replace c p xs ys a b.1))

  priced_item : (c : Option ℤ) (e : BestEntry) (x : Item Bounded Costed) → IsPriced c x → IsPriced (best_after c e) x
  priced_item c e (Todo p) h = tt
  priced_item c e (Done p l s) h = λ v is. after_within c e v (h v is)

  priced_more : (c : Option ℤ) (e : BestEntry) (f : List (Item Bounded Costed)) → AllPriced c f → AllPriced (best_after c e) f
  priced_more c e [] h = tt
  priced_more c e (x ∷ f) h = (priced_item c e x h.0, priced_more c e f h.1)

  priced_after : (c : Option ℤ) (e : BestEntry) (f : List (Item Bounded Costed)) → AllPriced (best_after c e) f → AllPriced (best_after c e) (front_after its f e)
  priced_after c (Claim w p) f h = h
  priced_after c (Split w p n s) f h = priced_replace c p (todos (children its.branch p n)) f (priced_todos c (children its.branch p n)) h
  priced_after c (Leaf w p l s) f h = priced_replace (best_after c (Leaf w p l s)) p (Done p l s ∷ []) f (λ v is. leaf_within c (cost_of l) v is, tt) h
  priced_after c (Stop x) f h = h

  abbrev AtBest : List BestEntry → Type 0
  AtBest h = AllPriced (best_of h) (front its h)

  priced_push : (h : List BestEntry) (e : BestEntry) → Unit {0} → AtBest h → AtBest (h ++ e ∷ [])
  priced_push h e u now =
      let P : List (Item Bounded Costed) → Type 0 = λ f. AllPriced (best_of (h ++ e ∷ [])) f in
      let Q : Option ℤ → Type 0 = λ c. AllPriced c (front_after its (front its h) e) in
      subst P (sym (front_push its h e)) (subst Q (sym (best_push h e)) (priced_after (best_of h) e (front its h) (priced_more (best_of h) e (front its h) now)))

  pub priced : (h : List BestEntry) → AtBest h
  priced h = along (λ b e. Unit {0}) AtBest priced_push (tt, tt) h (λ b e a eq. tt)

-- ---- the law, for any word of what is below a path
record Tells (node : Tree Bounded Costed) (Has : List Bounded → ℤ → Type 0) : Type 0 where
  -- what is below a node is below its parent
  pub rises : (p : List Bounded) (b : Bounded) (v : ℤ) → Has (p ++ b ∷ []) v → Has p v
  -- the cost of a solved leaf is that of a solution
  pub sound : (p : List Bounded) (l : Costed) (s : ℕ) (v : ℤ) → node p ≡ Some (report (End l) s) → cost_of l ≡ Some v → Has p v
  -- where there is a solution at a leaf, this is solved, and costs no more
  pub ends : (p : List Bounded) (l : Costed) (s : ℕ) (v : ℤ) → node p ≡ Some (report (End l) s) → Has p v → (w : ℤ) × (cost_of l ≡ Some w) × (w ≤ℤ v)
  -- a solution below a choice is below one of its alternatives, under each bound that its cost is below
  pub falls : (p : List Bounded) (n s : ℕ) (v : ℤ) → node p ≡ Some (report (Alternatives n) s) → Has p v
      → (i : ℕ) × (1 ≤ i) × (i ≤ n) × ((bound : Option ℤ) → IsUnder v bound → Has (p ++ bounded i bound ∷ []) v)

module _ (within : Fuelled Bounded Costed) (budget : ℕ) (Has : List Bounded → ℤ → Type 0) (solves : Tells (within budget) Has) (costs : Costs (within budget)) (h : List BestEntry) (legal : IsLegal within best budget h) where
  the_taken : Taking Bounded
  the_taken = taken best h

  abbrev its : Setting Bounded Costed
  its = record { k = best; is = best_search; branch = taken best h; taking = (taken_law Bounded Costed best best_search budget h legal.0).0 }

  follows : Follows best (taken best h) h
  follows = (taken_law Bounded Costed best best_search budget h legal.0).1

  -- a bound that stood is no less than the best
  bound_within : (p : List Bounded) (i : ℕ) (w : ℤ) → (taken best h p i).bound ≡ Some w → IsWithin (best_of h) w
  bound_within p i w e =
      let x = taken best h p i in
      let c = claim_taken h p i x w refl e in
      let admits = (legal.0 c.0 (Claim c.1 (p ++ x ∷ [])) c.2 c.3).1.2 in
      let same : x.bound ≡ best_of c.0 = (bound_exact x.bound (best_of c.0)).0 (sym (bears_last c.0 p x) ∙ admits) in
      let P : List BestEntry → Type 0 = λ z. IsWithin (best_of z) w in
      subst P (sym c.3) (later_within c.0 (Claim c.1 (p ++ x ∷ []) ∷ c.2) w (w, sym same ∙ e, cost_itself w))

  -- solutions below these paths cost no less than the best
  abbrev below : List Bounded → List ℕ → ℕ → Type 0
  below p ls n = (v : ℤ) → Has p v → IsWithin (best_of h) v

  abbrev Each : List (Item Bounded Costed) → Type 0
  Each [] = Unit {0}
  Each (x ∷ f) = ((v : ℤ) → Has (path_of x) v → IsWithin (best_of h) v) × Each f

  each : (f : List (Item Bounded Costed)) (ls : List ℕ) (n : ℕ) → All_below its below f ls n → Each f
  each [] ls n all = tt
  each (x ∷ f) ls n all = (all.4, each f all.2 all.3 all.5)

  split_each : (ps : List (List Bounded)) (q : List Bounded) → Each (todos (ps ++ q ∷ [])) → Each (todos ps) × ((v : ℤ) → Has q v → IsWithin (best_of h) v)
  split_each [] q all = (tt, all.0)
  split_each (p ∷ ps) q all = let r = split_each ps q all.1 in ((all.0, r.0), r.1)

  kid : (p : List Bounded) (n : ℕ) → Each (todos (children (taken best h) p n)) → (i : ℕ) → 1 ≤ i → i ≤ n → (v : ℤ) → Has (p ++ taken best h p i ∷ []) v → IsWithin (best_of h) v
  kid p zero all i low high v has = absurd (omega (arith, low, high))
  kid p (suc n) all i low high v has =
      let r = split_each (children (taken best h) p n) (p ++ taken best h p (suc n) ∷ []) all in
      let step : (t : Bool) → leb i n ≡ t → IsWithin (best_of h) v
      = elim [
        | true ↦ λ e. kid p n r.0 i low (grind (arith, nat_tests, e)) v has
        | false ↦ λ e.
            let last : i ≡ suc n = grind (arith, nat_tests, e, high) in
            let P : ℕ → Type 0 = λ j. Has (p ++ taken best h p j ∷ []) v in
            r.1 v (subst P last has)
      ] in
      step (leb i n) refl

  by_bound : (p : List Bounded) (i : ℕ) (v : ℤ) (bound : Option ℤ) → (taken best h p i).bound ≡ bound → (IsUnder v bound → IsWithin (best_of h) v) → IsWithin (best_of h) v
  by_bound p i v None e under = under tt
  by_bound p i v (Some w) e under = ⊎_elim under (λ l. within_more (best_of h) w v (bound_within p i w e) l) (below_or_not v w)

  same_branch : (x : Bounded) (i : ℕ) → x.alternative ≡ i → bounded i x.bound ≡ x
  same_branch x i e = λ j. record { alternative = sym e j; bound = x.bound }

  closed : Closed its below (IsInner its (within budget) costs)
  closed p n s ls m inner all v has =
      let c = solves.falls p n s v inner has in
      let x = taken best h p c.0 in
      let number : x.alternative ≡ c.0 = its.taking p c.0 in
      let P : Bounded → Type 0 = λ y. Has (p ++ y ∷ []) v in
      by_bound p c.0 v x.bound refl (λ under. kid p n (each (todos (children (taken best h) p n)) ls m all) c.0 c.1 c.2 v (subst P (same_branch x c.0 number) (c.3 x.bound under)))

  done : (f : List (Item Bounded Costed)) → ((q : List Bounded) → awaiting its q f ≡ 0) → AllTold its (within budget) f → AllPriced its (best_of h) f → All_below its below f [] 0
  done [] none told prices = (refl, refl)
  done (Todo q ∷ f) none told prices = let a = none q in let b = ap one_if (same_itself its q) in absurd (omega (arith, a, b))
  done (Done q l s ∷ f) none told prices = (
    [],
    0,
    [],
    0,
    λ v has. let w = solves.ends q l s v told.0 has in within_more (best_of h) w.0 v (prices.0 w.0 w.1) w.2,
    done f (λ p. let a = none p in omega (arith, a)) told.1 prices.1,
    refl,
    refl,
  )

  complete : IsNothingOpen best h → IsNothingOut best h → (v : ℤ) → Has [] v → IsWithin (best_of h) v
  complete open_none out_none v has =
      let all = folded its within budget costs below closed h (legal_cuts its within budget costs h legal follows) in
      let kept = all.0 in
      let here = done (front its h) (λ q. kept.due q ∙ ap one_if (not_due its h follows open_none out_none q)) all.1 (priced its h) in
      (all.2 [] 0 here).4 v has

  rises_all : (q p : List Bounded) (v : ℤ) → Has (q ++ p) v → Has q v
  rises_all q [] v has = let P : List Bounded → Type 0 = λ z. Has z v in subst P (append_nil q) has
  rises_all q (b ∷ p) v has =
      let P : List Bounded → Type 0 = λ z. Has z v in
      solves.rises q b v (rises_all (q ++ b ∷ []) p v (subst P (sym (append_assoc q (b ∷ []) p)) has))

  abbrev Reached : List BestEntry → Type 0
  Reached b = (v : ℤ) → best_of b ≡ Some v → Has [] v

  reached_after : (b : List BestEntry) (e : BestEntry) → AgreesAt within budget b e → Reached b → (v : ℤ) → best_after (best_of b) e ≡ Some v → Has [] v
  reached_after b (Claim w p) told now v is = now v is
  reached_after b (Split w p n s) told now v is = now v is
  reached_after b (Leaf w p l s) told now v is =
      ⊎_elim (now v) (λ e. rises_all [] p v (solves.sound p l s v told e)) (lesser_one (best_of b) (cost_of l) v is)
  reached_after b (Stop x) told now v is = now v is

  reached : Reached h
  reached =
      along (AgreesAt within budget) Reached (λ b e told now v is. reached_after b e told now v (sym (best_push b e) ∙ is)) (λ v is. none_or_some v is) h legal.1

-- ---- the law, for solutions
module _ {A : Type 0} (node : Tree Bounded Costed) (cost : A → ℤ) (has_below : List Bounded → A → Bool) (solves : Solves node cost has_below) where
  abbrev Has : List Bounded → ℤ → Type 0
  Has p v = (x : A) × (has_below p x ≡ true) × (cost x ≡ v)

  tells : Tells node Has
  tells = record {
    rises = λ p b v has. (has.0, solves.rises p b has.0 has.1, has.2);
    sound = λ p l s v at is. solves.sound p l s v at is;
    ends = λ p l s v at has. let r = solves.ends p l s has.0 at has.1 in let P : ℤ → Type 0 = λ z. r.0 ≤ℤ z in (r.0, r.1, subst P has.2 r.2);
    falls = λ p n s v at has.
        let r = solves.falls p n s has.0 at has.1 in
        (r.0, r.1, r.2, λ bound under. let P : ℤ → Type 0 = λ z. IsUnder z bound in (has.0, r.3 bound (subst P (sym has.2) under), has.2));
  }

pub best_law : (A : Type 0) → BestLaw A
best_law A within budget cost has_below solves costs h legal open_none out_none =
    let all = tells (within budget) cost has_below solves in
    let has = Has (within budget) cost has_below solves in
    record {
      reached = reached within budget has all costs h legal;
      least = λ x at. complete within budget has all costs h legal open_none out_none (cost x) (x, at, refl);
    }
