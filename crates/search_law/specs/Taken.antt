-- The branches that a history has taken.
use Rattle.std.specs.Prelude.{ℕ, List, [], ◌∷◌, ◌++◌, if◌then◌else◌}
use Rattle.oz_search.specs.declared.history.Entry.TheVariants.{Claim, Split, Leaf, Stop}
use Rattle.oz_search.specs.Searches.{Search}
use Rattle.oz_search.specs.Paths.{same_alternative}
use Rattle.oz_search.specs.Histories.{History}

-- the last branch of a path, and b at the root
abbrev pub last_or : {B : Type 0} → B → List B → B
last_or b [] = b
last_or b (c ∷ p) = last_or c p

-- the branch by which the history has claimed the alternative i of p, and the free one where it has not
abbrev pub taken : {B L : Type 0} → Search B L → History B L → List B → ℕ → B
taken k [] p i = k.free i
taken k (Claim w q ∷ h) p i = if same_alternative k (p ++ k.free i ∷ []) q then last_or (k.free i) q else taken k h p i
taken k (Split w q n s ∷ h) p i = taken k h p i
taken k (Leaf w q l s ∷ h) p i = taken k h p i
taken k (Stop e ∷ h) p i = taken k h p i
