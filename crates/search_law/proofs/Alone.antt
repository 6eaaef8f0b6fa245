-- One worker alone goes on in one way.
use Rattle.std.proofs.Common.{◌≡◌, ◌⊎◌, inl, inr, ⊎_elim, ℕ, ◌+◌, ◌≤◌, ◌<◌, map, true, false, List, [], ◌∷◌, ◌++◌, Option, Some, None, refl, ap, sym, ◌∙◌, subst, arith, append_assoc}
use Rattle.std.specs.Prelude.{Contains, is_some}
use Rattle.std.specs.declared.cmp.Ordering.{Ordering}
use Rattle.std.specs.declared.cmp.Ordering.TheVariants.{Less, Equal, Greater}
use Rattle.std.specs.Ordering.{is_gt, nat_cmp, ordering_then}
use Rattle.std.specs.Cmp.Lexicographic.{slice_cmp}
use Rattle.std.proofs.lemmas.Bool.Decides.{nat_tests}
use Rattle.std.proofs.lemmas.Bool.{both_ways}
use Rattle.std.proofs.lemmas.List.Elements.{Contains-append_right}
use Rattle.oz_search.specs.declared.best.Bounded.{Bounded}
use Rattle.oz_search.specs.declared.best.Costed.{Costed}
use Rattle.oz_search.specs.declared.history.Entry.TheVariants.{Claim, Split, Leaf, Stop}
use Rattle.oz_search.specs.declared.history.Halt.{Halt}
use Rattle.oz_search.specs.declared.history.StopCause.{StopCause}
use Rattle.oz_search.specs.declared.history.StopCause.TheVariants.{Memory, Fuel, Total}
use Rattle.oz_search.specs.declared.tree.Kind.TheVariants.{Alternatives, End}
use Rattle.oz_search.specs.declared.tree.Report.{Report}
use Rattle.oz_search.specs.Trees.{report}
use Rattle.oz_search.specs.Paths.{same_path, same_alternative, alternatives_cmp}
use Rattle.oz_search.specs.Nodes.{Fuelled, IsFuelled}
use Rattle.oz_search.specs.Histories.{Replays, IsAllowed, MayStop, IsLeftmost, is_out_to, claim_of, total_of, stop_of, worker_of, AgreesAt, AgreesStop, IsLegal}
use Rattle.oz_search.specs.Best.{BestEntry, best, best_of, bears_best}
use Rattle.search_law.specs.Law.{IsSpent, is_at}
use Rattle.search_law.specs.OneWorker.{IsAlone, before_stop, GoesOn, OneWorkerLaw}
use Rattle.search_law.proofs.Settings.{Setting, of_search}
use Rattle.search_law.proofs.Booleans.{append_nil}
use Rattle.search_law.proofs.Places.{same_is, same_itself, place_is, root_place}
use Rattle.search_law.proofs.Entries.{halt_of, stop_push}
use Rattle.search_law.proofs.Orders.{claims_law}
use Rattle.search_law.proofs.NodeLaws.{unique_law}
use Rattle.search_law.proofs.OpenOrder.{open_law, ends}
use Rattle.search_law.proofs.Claimed.{legal_before}
use Rattle.search_law.proofs.Instances.{best_search, bound_exact}
use Rattle.search_law.proofs.Costs.{bears_last}

abbrev plainly : Setting Bounded Costed
plainly = of_search best best_search

-- ---- what is claimed next
branch_by : (x y : Bounded) → x.alternative ≡ y.alternative → x.bound ≡ y.bound → x ≡ y
branch_by x y e f = λ i. record { alternative = e i; bound = f i }

-- one alternative under the one bound
one_child : (b : List BestEntry) (p : List Bounded) (x y : Bounded) → x.alternative ≡ y.alternative → bears_best b (p ++ x ∷ []) ≡ true → bears_best b (p ++ y ∷ []) ≡ true → x ≡ y
one_child b p x y number low high =
    let first : x.bound ≡ best_of b = (bound_exact x.bound (best_of b)).0 (sym (bears_last b p x) ∙ low) in
    let second : y.bound ≡ best_of b = (bound_exact y.bound (best_of b)).0 (sym (bears_last b p y) ∙ high) in
    branch_by x y number (first ∙ sym second)

one_branch : (b : List BestEntry) (p q : List Bounded) → same_alternative best p q ≡ true → bears_best b p ≡ true → bears_best b q ≡ true → p ≡ q
one_branch b p q same low high = by (ends plainly p)
  where
    below : (z : List Bounded) (x : Bounded) → p ≡ z ++ x ∷ [] → (y : Bounded) → q ≡ z ++ y ∷ [] → x.alternative ≡ y.alternative → p ≡ q
    below z x e y f number =
        let P : List Bounded → Type 0 = λ t. bears_best b t ≡ true in
        let same_end = one_child b z x y number (subst P e low) (subst P f high) in
        rw (e, f) (ap (λ t. z ++ t ∷ []) same_end)

    by : (p ≡ []) ⊎ ((z : List Bounded) × (x : Bounded) × (p ≡ z ++ x ∷ [])) → p ≡ q
    by (inl root) =
        let P : List Bounded → Type 0 = λ t. same_alternative best t q ≡ true in
        root ∙ sym (root_place plainly q (subst P root same))
    by (inr r) =
        let P : List Bounded → Type 0 = λ t. same_alternative best t q ≡ true in
        let c = place_is plainly r.0 r.1 q (subst P r.2 same) in
        below r.0 r.1 r.2 c.0 c.1 c.2

greater_not : {P : Type 0} (o : Ordering) → o ≡ Greater → is_gt o ≡ false → P
greater_not o e f = absurd (both_ways (is_gt o) f (ap is_gt e))

-- the order from the other side
flipped : (xs ys : List ℕ) → slice_cmp nat_cmp xs ys ≡ Less → slice_cmp nat_cmp ys xs ≡ Greater
flipped [] [] e = absurd (cc (e))
flipped [] (y ∷ ys) e = refl
flipped (x ∷ xs) [] e = absurd (cc (e))
flipped (x ∷ xs) (y ∷ ys) e = by (flipped xs ys) (nat_cmp x y) refl e
  where
    by : (slice_cmp nat_cmp xs ys ≡ Less → slice_cmp nat_cmp ys xs ≡ Greater) → (o : Ordering) → nat_cmp x y ≡ o → ordering_then o (slice_cmp nat_cmp xs ys) ≡ Less → ordering_then (nat_cmp y x) (slice_cmp nat_cmp ys xs) ≡ Greater
    by tails Less i f = let g : nat_cmp y x ≡ Greater = grind (arith, nat_tests, i) in ap (λ o. ordering_then o (slice_cmp nat_cmp ys xs)) g
    by tails Equal i f = let g : nat_cmp y x ≡ Equal = grind (arith, nat_tests, i) in ap (λ o. ordering_then o (slice_cmp nat_cmp ys xs)) g ∙ tails f
    by tails Greater i f = absurd (cc (f))

none_some : {A P : Type 0} (o : Option A) (x : A) → o ≡ None → o ≡ Some x → P
none_some o x e f = absurd (cc (e, f))

-- ---- what comes next

-- what may come after b, as an entry of the worker 0 that is no stop for want of memory
record Comes (within : Fuelled Bounded Costed) (budget : ℕ) (b : List BestEntry) (e : BestEntry) : Type 0 where
  pub allowed : IsAllowed best budget b e
  pub told : AgreesAt within budget b e
  pub own : worker_of e ≡ 0
  pub spent : (x : Halt) → e ≡ Stop x → IsSpent x.cause

-- both are stops, or they are the same and none
abbrev Alike : BestEntry → BestEntry → Type 0
Alike e d = ((x : Halt) × (y : Halt) × (e ≡ Stop x) × (d ≡ Stop y)) ⊎ ((e ≡ d) × (halt_of e ≡ None))

module _ (within : Fuelled Bounded Costed) (budget : ℕ) (tree : IsFuelled best within) (b : List BestEntry) (replays : Replays best budget b) where
  -- the leftmost open path, under the bound
  one_leftmost : (p q : List Bounded) → IsLeftmost best b p → IsLeftmost best b q → bears_best b p ≡ true → bears_best b q ≡ true → p ≡ q
  one_leftmost p q left right low high =
      ⊎_elim
      (λ same. one_branch b p q same low high)
      (λ r.
      ⊎_elim
      (λ less. greater_not (alternatives_cmp best q p) (flipped (map best.number p) (map best.number q) less.1) (right.1 p left.0))
      (λ more. greater_not (alternatives_cmp best p q) more.1 (left.1 q right.0))
      r)
      (open_law Bounded Costed best best_search budget b replays p q left.0 right.0)

  -- ---- what is out
  abbrev out : Option (List Bounded)
  out = claim_of b 0

  out_is : (p : List Bounded) → is_out_to best b 0 p ≡ is_at best out p
  out_is p = claims_law Bounded Costed best best_search budget b replays 0 p

  at_is : (o : Option (List Bounded)) (p : List Bounded) → is_at best o p ≡ true → o ≡ Some p
  at_is None p e = absurd (both_ways false refl e)
  at_is (Some q) p e = ap (λ z. Some z) (sym (same_is plainly p q e))

  no_at : (o : Option (List Bounded)) → ((p : List Bounded) → is_at best o p ≡ false) → o ≡ None
  no_at None none = refl
  no_at (Some q) none = absurd (both_ways (same_path best q q) (none q) (same_itself plainly q))

  -- w is the worker 0
  has : (w : ℕ) (p : List Bounded) → w ≡ 0 → is_out_to best b w p ≡ true → out ≡ Some p
  has w p own t =
      let P : ℕ → Type 0 = λ v. is_out_to best b v p ≡ true in
      at_is out p (sym (out_is p) ∙ subst P own t)

  free : (w : ℕ) → w ≡ 0 → ((p : List Bounded) → is_out_to best b w p ≡ false) → out ≡ None
  free w own none =
      let P : ℕ → Type 0 = λ v. (p : List Bounded) → is_out_to best b v p ≡ false in
      no_at out (λ p. sym (out_is p) ∙ subst P own none p)

  one_out : (p q : List Bounded) → out ≡ Some p → out ≡ Some q → p ≡ q
  one_out p q e f = cc (e, f)

  -- ---- what an entry says
  abbrev Says : BestEntry → Type 0
  Says (Claim w p) = (w ≡ 0) × (out ≡ None) × IsLeftmost best b p × (bears_best b p ≡ true)
  Says (Split w p n s) = (w ≡ 0) × (out ≡ Some p) × (within budget p ≡ Some (report (Alternatives n) s)) × (total_of b + s ≤ budget)
  Says (Leaf w p l s) = (w ≡ 0) × (out ≡ Some p) × (within budget p ≡ Some (report (End l) s)) × (total_of b + s ≤ budget)
  Says (Stop x) = (p : List Bounded) × (out ≡ Some p) × ((r : Report Costed) → within budget p ≡ Some r → budget < total_of b + r.steps)

  stop_says : (w : ℕ) (cause : StopCause) → w ≡ 0 → IsSpent cause → MayStop best budget b w cause → AgreesStop within budget b w cause
      → (p : List Bounded) × (out ≡ Some p) × ((r : Report Costed) → within budget p ≡ Some r → budget < total_of b + r.steps)
  stop_says w Memory own spent may told = absurd spent
  stop_says w Fuel own spent may told = (told.0, ap (claim_of b) (sym own) ∙ told.1, λ r at. none_some (within budget told.0) r told.2 at)
  stop_says w (Total t) own spent may told = (
    told.0,
    ap (claim_of b) (sym own) ∙ told.2,
    λ r at.
        let same : r ≡ told.1 = unique_law Bounded Costed best within tree told.0 r told.1 (budget, at) told.3 in
        let steps = ap (λ (z : Report Costed). z.steps) same in
        let total = told.4 in
        let over = may.1 in
        omega (arith, steps, total, over),
  )

  says : (e : BestEntry) → Comes within budget b e → Says e
  says (Claim w p) c = (c.own, free w c.own c.allowed.1, c.allowed.0, c.allowed.2)
  says (Split w p n s) c = (c.own, has w p c.own c.allowed.0, c.told, c.allowed.3)
  says (Leaf w p l s) c = (c.own, has w p c.own c.allowed.0, c.told, c.allowed.2)
  says (Stop x) c = stop_says x.worker x.cause c.own (c.spent x refl) c.allowed c.told

  -- ---- two entries
  one_report : (p q : List Bounded) (r s : Report Costed) → out ≡ Some p → out ≡ Some q → within budget p ≡ Some r → within budget q ≡ Some s → r ≡ s
  one_report p q r s e f a c =
      let P : List Bounded → Type 0 = λ z. within budget z ≡ Some s in
      same_some (sym a ∙ subst P (one_out q p f e) c)
    where
      same_some : {x y : Report Costed} → Some x ≡ Some y → x ≡ y
      same_some e = cc (e)

  no_split_leaf : {P : Type 0} (p q : List Bounded) (n s t : ℕ) (l : Costed) → out ≡ Some p → out ≡ Some q → within budget p ≡ Some (report (Alternatives n) s) → within budget q ≡ Some (report (End l) t) → P
  no_split_leaf p q n s t l e f a c =
      let same = one_report p q (report (Alternatives n) s) (report (End l) t) e f a c in
      let kinds : Alternatives n ≡ End l = ap (λ (z : Report Costed). z.kind) same in
      absurd (cc (kinds))

  no_stop : {P : Type 0} (p q : List Bounded) (r : Report Costed) → out ≡ Some p → out ≡ Some q → within budget p ≡ Some r → total_of b + r.steps ≤ budget
      → ((r : Report Costed) → within budget q ≡ Some r → budget < total_of b + r.steps) → P
  no_stop p q r e f a fits over =
      let P : List Bounded → Type 0 = λ z. within budget z ≡ Some r in
      let more = over r (subst P (one_out p q e f) a) in
      absurd (omega (arith, fits, more))

  alike : (e d : BestEntry) → Says e → Says d → Alike e d
  alike (Claim w p) (Claim v q) c d =
      let path = one_leftmost p q c.2 d.2 c.3 d.3 in
      let worker : w ≡ v = c.0 ∙ sym d.0 in
      inr (cc (path, worker), refl)
  alike (Claim w p) (Split v q n s) c d = none_some out q c.1 d.1
  alike (Claim w p) (Leaf v q l s) c d = none_some out q c.1 d.1
  alike (Claim w p) (Stop x) c d = none_some out d.0 c.1 d.1
  alike (Split w p n s) (Claim v q) c d = none_some out p d.1 c.1
  alike (Split w p n s) (Split v q m t) c d =
      let path = one_out p q c.1 d.1 in
      let same = one_report p q (report (Alternatives n) s) (report (Alternatives m) t) c.1 d.1 c.2 d.2 in
      let kinds : Alternatives n ≡ Alternatives m = ap (λ (z : Report Costed). z.kind) same in
      let number : n ≡ m = cc (kinds) in
      let steps : s ≡ t = ap (λ (z : Report Costed). z.steps) same in
      let worker : w ≡ v = c.0 ∙ sym d.0 in
      inr (cc (path, number, steps, worker), refl)
  alike (Split w p n s) (Leaf v q l t) c d = no_split_leaf p q n s t l c.1 d.1 c.2 d.2
  alike (Split w p n s) (Stop x) c d = no_stop p d.0 (report (Alternatives n) s) c.1 d.1 c.2 c.3 d.2
  alike (Leaf w p l s) (Claim v q) c d = none_some out p d.1 c.1
  alike (Leaf w p l s) (Split v q n t) c d = no_split_leaf q p n t s l d.1 c.1 d.2 c.2
  alike (Leaf w p l s) (Leaf v q k t) c d =
      let path = one_out p q c.1 d.1 in
      let same = one_report p q (report (End l) s) (report (End k) t) c.1 d.1 c.2 d.2 in
      let kinds : End l ≡ End k = ap (λ (z : Report Costed). z.kind) same in
      let leaf : l ≡ k = cc (kinds) in
      let steps : s ≡ t = ap (λ (z : Report Costed). z.steps) same in
      let worker : w ≡ v = c.0 ∙ sym d.0 in
      inr (cc (path, leaf, steps, worker), refl)
  alike (Leaf w p l s) (Stop x) c d = no_stop p d.0 (report (End l) s) c.1 d.1 c.2 c.3 d.2
  alike (Stop x) (Claim v q) c d = none_some out c.0 d.1 c.1
  alike (Stop x) (Split v q n s) c d = no_stop q c.0 (report (Alternatives n) s) d.1 c.1 d.2 d.3 c.2
  alike (Stop x) (Leaf v q l s) c d = no_stop q c.0 (report (End l) s) d.1 c.1 d.2 d.3 c.2
  alike (Stop x) (Stop y) c d = inl (x, y, refl, refl)

-- ---- two histories

before_more : (b rest : List BestEntry) → stop_of b ≡ None → before_stop (b ++ rest) ≡ b ++ before_stop rest
before_more [] rest none = refl
before_more (Claim w p ∷ b) rest none = ap (λ z. Claim w p ∷ z) (before_more b rest none)
before_more (Split w p n s ∷ b) rest none = ap (λ z. Split w p n s ∷ z) (before_more b rest none)
before_more (Leaf w p l s ∷ b) rest none = ap (λ z. Leaf w p l s ∷ z) (before_more b rest none)
before_more (Stop x ∷ b) rest none = absurd (cc (none))

no_stop_in : (b : List BestEntry) → stop_of b ≡ None → is_some (stop_of b) ≡ true → ⊥
no_stop_in b none some = both_ways (is_some (stop_of b)) (ap is_some none) some

module _ (within : Fuelled Bounded Costed) (budget : ℕ) (tree : IsFuelled best within) where
  comes : (h b : List BestEntry) (e : BestEntry) (a : List BestEntry) → IsLegal within best budget h → IsAlone h → h ≡ b ++ e ∷ a → Comes within budget b e
  comes h b e a legal alone eq =
      let P : List BestEntry → Type 0 = λ z. Contains z e in
      let there : Contains h e = subst P (sym eq) (Contains-append_right b (e ∷ a) e (0, omega arith, refl)) in
      let Q : BestEntry → Type 0 = λ z. Contains h z in
      record {
        allowed = (legal.0 b e a eq).1;
        told = legal.1 b e a eq;
        own = alone.own e there;
        spent = λ x is. alone.spent x (subst Q is there);
      }

  -- b is the beginning of both
  module _ (g h : List BestEntry) (g_legal : IsLegal within best budget g) (h_legal : IsLegal within best budget h) (g_alone : IsAlone g) (h_alone : IsAlone h) where
    ends_in : (b more : List BestEntry) → stop_of b ≡ None → (x y : List BestEntry) → x ≡ b → y ≡ b ++ more → GoesOn x y
    ends_in b more none x y e f =
        let begins : before_stop y ≡ before_stop x ++ before_stop more =
        ap before_stop f
        ∙ (before_more b more none
        ∙ sym (ap (λ z. z ++ before_stop more) (ap before_stop (e ∙ sym (append_nil b)) ∙ (before_more b [] none ∙ append_nil b)))) in
        record {
          rest = before_stop more;
          begins = begins;
          ended = λ some. absurd (no_stop_in b none (sym (ap (λ z. is_some (stop_of z)) e) ∙ some));
        }

    both_stop : (b u v : List BestEntry) (x y : Halt) → stop_of b ≡ None → g ≡ b ++ Stop x ∷ u → h ≡ b ++ Stop y ∷ v → GoesOn g h
    both_stop b u v x y none e f =
        let left : before_stop g ≡ b ++ [] = ap before_stop e ∙ before_more b (Stop x ∷ u) none in
        let right : before_stop h ≡ b ++ [] = ap before_stop f ∙ before_more b (Stop y ∷ v) none in
        record { rest = []; begins = right ∙ (sym left ∙ sym (append_nil (before_stop g))); ended = λ some. refl }

    walk : (b u v : List BestEntry) → stop_of b ≡ None → g ≡ b ++ u → h ≡ b ++ v → GoesOn g h ⊎ GoesOn h g
    walk b [] v none e f = inl (ends_in b v none g h (e ∙ append_nil b) f)
    walk b (x ∷ u) [] none e f = inr (ends_in b (x ∷ u) none h g (f ∙ append_nil b) e)
    walk b (x ∷ u) (y ∷ v) none e f =
        let before = legal_before best within budget g b u x g_legal e in
        let one = says within budget tree b before.0 x (comes g b x u g_legal g_alone e) in
        let other = says within budget tree b before.0 y (comes h b y v h_legal h_alone f) in
        ⊎_elim
        (λ stops.
        let P : BestEntry → Type 0 = λ z. g ≡ b ++ z ∷ u in
        let Q : BestEntry → Type 0 = λ z. h ≡ b ++ z ∷ v in
        inl (both_stop b u v stops.0 stops.1 none (subst P stops.2 e) (subst Q stops.3 f)))
        (λ same.
        let Q : BestEntry → Type 0 = λ z. h ≡ b ++ z ∷ v in
        walk (b ++ x ∷ []) u v (stop_push b x none ∙ same.1) (e ∙ sym (append_assoc b (x ∷ []) u)) (subst Q (sym same.0) f ∙ sym (append_assoc b (x ∷ []) v)))
        (alike within budget tree b before.0 x y one other)

pub one_worker_law : OneWorkerLaw
one_worker_law within budget g h tree g_legal h_legal g_alone h_alone = walk within budget tree g h g_legal h_legal g_alone h_alone [] g h refl refl refl
