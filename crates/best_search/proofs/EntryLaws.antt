-- Solved leaves among the entries of a history.
use Rattle.std.proofs.Common.{◌≡◌, ⊎_elim, ◌⊎◌, inl, inr, ℕ, zero, suc, ℤ, List, [], ◌∷◌, Option, Some, None, IfNone, Result, Ok, Err, IfOk, refl, sym, ◌∙◌, ap, subst, arith}
use Rattle.std.specs.List.{fold}
use Rattle.oz_search.specs.declared.best.Bounded.{Bounded}
use Rattle.oz_search.specs.declared.best.Costed.{Costed}
use Rattle.oz_search.specs.declared.leaf.Outcome.{Outcome}
use Rattle.oz_search.specs.declared.leaf.Outcome.TheVariants as outcome
use Rattle.oz_search.specs.declared.history.Entry.TheVariants.{Claim, Split, Leaf, Stop}
use Rattle.oz_search.specs.Best.{BestEntry, best_after, best_of, cost_of, cost_by}
use Rattle.search_law.proofs.Costs.{lesser_one}
use Rattle.oz_replies.specs.BestReplies.{solved, HasSolution}
use Rattle.best_search.specs.Found.{IsSolution}

-- ---- one entry

pub leaf_only : (w : ℕ) (q : List Bounded) (l : Costed) (s : ℕ) (text : List ℕ) (cost : ℤ) → IsSolution text cost (Leaf w q l s) → l ≡ solved text cost
leaf_only w q l s text cost (v, p, k, e) = cc (e)

pub none_by : {A P Q : Type 0} (o : Option A) → (P → Q) → IfNone o P → IfNone o Q
none_by None f h = f h
none_by (Some x) f h = h

-- ---- a list of entries

pub here : (text : List ℕ) (cost : ℤ) (e : BestEntry) (h : List BestEntry) → IsSolution text cost e → HasSolution (e ∷ h) text cost
here text cost e h (w, q, s, i) = (w, q, s, (0, omega arith, i))

pub later : (text : List ℕ) (cost : ℤ) (e : BestEntry) (h : List BestEntry) → HasSolution h text cost → HasSolution (e ∷ h) text cost
later text cost e h (w, q, s, c) = (w, q, s, (suc c.0, (let l = c.1 in omega (arith, l)), c.2))

pub further : (text : List ℕ) (cost : ℤ) (e : BestEntry) (h : List BestEntry) → (IsSolution text cost e → ⊥) → HasSolution (e ∷ h) text cost → HasSolution h text cost
further text cost e h not (w, q, s, (zero, l, i)) = absurd (not (w, q, s, i))
further text cost e h not (w, q, s, (suc k, l, i)) = (w, q, s, (k, omega (arith, l), i))

pub nowhere : (text : List ℕ) (cost : ℤ) → HasSolution [] text cost → ⊥
nowhere text cost (w, q, s, c) = let l = c.1 in omega (arith, l)

-- ---- the rest of a history in which a leaf is looked for

-- there is such a leaf in the rest, and it is one of the history
pub record IsLeft (h : List BestEntry) (cost : ℤ) (rest : List BestEntry) : Type 0 where
  pub text : List ℕ
  pub there : HasSolution rest text cost
  pub whole : (t : List ℕ) → HasSolution rest t cost → HasSolution h t cost

pub all_left : (h : List BestEntry) (cost : ℤ) → (text : List ℕ) × HasSolution h text cost → IsLeft h cost h
all_left h cost has = record { text = has.0; there = has.1; whole = λ t f. f }

pub none_left : (h : List BestEntry) (cost : ℤ) → IsLeft h cost [] → ⊥
none_left h cost left = nowhere left.text cost left.there

-- the first entry of the rest is another
pub left_after : (h rest more : List BestEntry) (cost : ℤ) (e : BestEntry) → rest ≡ e ∷ more → ((t : List ℕ) → IsSolution t cost e → ⊥) → IsLeft h cost rest → IsLeft h cost more
left_after h rest more cost e i not left =
    let P : List BestEntry → Type 0 = λ r. HasSolution r left.text cost in
    record {
      text = left.text;
      there = further left.text cost e more (not left.text) (subst P i left.there);
      whole = λ t has. left.whole t (subst (λ r. HasSolution r t cost) (sym i) (later t cost e more has));
    }

-- or it is the one
pub found_first : {E : Type 0} (h rest more : List BestEntry) (cost : ℤ) (e : BestEntry) (text : List ℕ) (r : Result (List ℕ) E) → rest ≡ e ∷ more → IsSolution text cost e → IsLeft h cost rest → IfOk r (λ copy. copy ≡ text)
    → IfOk r (λ t. HasSolution h t cost)
found_first h rest more cost e text (Ok copy) i is left same =
    let has : HasSolution h text cost = left.whole text (subst (λ r. HasSolution r text cost) (sym i) (here text cost e more is)) in
    subst (λ t. HasSolution h t cost) (sym same) has
found_first h rest more cost e text (Err x) i is left same = tt

-- ---- the least cost is that of a solved leaf

abbrev leaf_with : Outcome → Option ℤ → Costed
leaf_with o c = record { outcome = o; cost = c }

is_solved : (l : Costed) (text : List ℕ) (c : ℤ) → l.outcome ≡ outcome.Solved text → l.cost ≡ Some c → l ≡ solved text c
is_solved l text c i k = ap (λ o. leaf_with o l.cost) i ∙ ap (leaf_with (outcome.Solved text)) k

solved_at : (w : ℕ) (q : List Bounded) (l : Costed) (s : ℕ) (c : ℤ) → cost_of l ≡ Some c → (text : List ℕ) × IsSolution text c (Leaf w q l s)
solved_at w q l s c e = by l.outcome refl e
  where
    by : (o : Outcome) → l.outcome ≡ o → cost_by o l.cost ≡ Some c → (text : List ℕ) × IsSolution text c (Leaf w q l s)
    by outcome.Failed i k = absurd (cc (k))
    by (outcome.Solved text) i k = (text, (w, q, s, ap (λ x. Leaf w q x s) (is_solved l text c i k)))
    by (outcome.Stuck text) i k = absurd (cc (k))
    by (outcome.Raised text) i k = absurd (cc (k))
    by outcome.Suspended i k = absurd (cc (k))

abbrev HasCosted : List BestEntry → ℤ → Type 0
HasCosted h c = (text : List ℕ) × HasSolution h text c

costed_later : (e : BestEntry) (h : List BestEntry) (c : ℤ) → HasCosted h c → HasCosted (e ∷ h) c
costed_later e h c f = (f.0, later f.0 c e h f.1)

costed_from : (h : List BestEntry) (b : Option ℤ) (c : ℤ) → fold best_after b h ≡ Some c → (b ≡ Some c) ⊎ HasCosted h c
costed_from [] b c e = inl e
costed_from (Claim w p ∷ h) b c e = ⊎_elim (λ f. inl f) (λ f. inr (costed_later (Claim w p) h c f)) (costed_from h b c e)
costed_from (Split w p n s ∷ h) b c e = ⊎_elim (λ f. inl f) (λ f. inr (costed_later (Split w p n s) h c f)) (costed_from h b c e)
costed_from (Leaf w p l s ∷ h) b c e =
    ⊎_elim
    (λ f. ⊎_elim (λ k. inl k) (λ g. let t = solved_at w p l s c g in inr (t.0, here t.0 c (Leaf w p l s) h t.1)) (lesser_one b (cost_of l) c f))
    (λ f. inr (costed_later (Leaf w p l s) h c f))
    (costed_from h (best_after b (Leaf w p l s)) c e)
costed_from (Stop x ∷ h) b c e = ⊎_elim (λ f. inl f) (λ f. inr (costed_later (Stop x) h c f)) (costed_from h b c e)

pub least_solved : (h : List BestEntry) (c : ℤ) → best_of h ≡ Some c → (text : List ℕ) × HasSolution h text c
least_solved h c e = ⊎_elim (λ f. absurd (cc (f))) (λ f. f) (costed_from h None c e)
