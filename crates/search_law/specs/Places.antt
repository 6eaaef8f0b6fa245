-- Where the unfailed leaves of a history stand in it, by their paths, noted as each comes. A place is the number of entries before.
use Rattle.std.specs.Prelude.{ℕ, suc, List, [], if◌then◌else◌}
use Rattle.std.specs.List.{fold}
use Rattle.std.specs.BTreeMap.{insert_entry}
use Rattle.oz_search.specs.declared.history.Entry.{Entry}
use Rattle.oz_search.specs.declared.history.Entry.TheVariants.{Claim, Split, Leaf, Stop}
use Rattle.oz_search.specs.Searches.{Search}
use Rattle.oz_search.specs.Paths.{path_cmp}
use Rattle.oz_search.specs.Histories.{History}

module _ {B L : Type 0} (k : Search B L) where
  -- the places with n at the path, where the leaf is an unfailed one
  abbrev pub noted_leaf : ℕ → List (List B × ℕ) → List B → L → List (List B × ℕ)
  noted_leaf n places p l = if k.fails l then places else insert_entry (path_cmp k) places p n

  -- the places after the entry at the place n
  abbrev pub noted : ℕ → List (List B × ℕ) → Entry (List B) L → List (List B × ℕ)
  noted n places (Claim w p) = places
  noted n places (Split w p m s) = places
  noted n places (Leaf w p l s) = noted_leaf n places p l
  noted n places (Stop e) = places

  -- the same with the place of the next entry before them
  abbrev pub noted_next : ℕ × List (List B × ℕ) → Entry (List B) L → ℕ × List (List B × ℕ)
  noted_next a e = (suc a.0, noted a.0 a.1 e)

  -- where each unfailed leaf stands, in the order of the paths
  unfoldable pub places_of : History B L → List (List B × ℕ)
  places_of h = (fold noted_next (0, []) h).1
