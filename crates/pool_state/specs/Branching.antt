-- Paths by their last branch, and what a claim bears of the leaves before it: in best search the cost of the best solution so far
-- (Schulte, LNCS 2302, on search).
use Rattle.std.specs.Prelude.{ℕ, suc, List, [], ◌∷◌}
use Rattle.std.specs.List.{fold}
use Rattle.oz_search.specs.declared.history.Entry.{Entry}
use Rattle.oz_search.specs.declared.history.Entry.TheVariants.{Claim, Split, Leaf, Stop}
use Rattle.oz_search.specs.Searches.{Search}
use Rattle.oz_search.specs.Histories.{History}

-- the path with its last branch b changed to f b. The root has none
abbrev pub by_last : {B : Type 0} → (B → B) → List B → List B
by_last f [] = []
by_last f (b ∷ []) = f b ∷ []
by_last f (b ∷ c ∷ p) = b ∷ by_last f (c ∷ p)

module _ {B L : Type 0} (k : Search B L) where
  -- the alternative of the last branch, or 0 at the root
  abbrev pub last_number : List B → ℕ
  last_number [] = 0
  last_number (b ∷ []) = k.number b
  last_number (b ∷ c ∷ p) = last_number (c ∷ p)

  -- the free branch to the next alternative
  abbrev pub next_branch : B → B
  next_branch b = k.free (suc (k.number b))

  -- the free path of the next sibling
  abbrev pub next_sibling : List B → List B
  next_sibling p = by_last next_branch p

module _ {B L C : Type 0} (more : C → L → C) where
  -- what is so far after one entry more: each leaf adds to it
  abbrev pub so_far_after : C → Entry (List B) L → C
  so_far_after c (Claim w p) = c
  so_far_after c (Split w p n s) = c
  so_far_after c (Leaf w p l s) = more c l
  so_far_after c (Stop e) = c

  -- what is so far after the history, where it begins with c
  abbrev pub so_far : C → History B L → C
  so_far c h = fold so_far_after c h
