-- What the variables that are touched decide of a view and of what is told besides.
use Rattle.std.specs.Prelude.{◌≡◌, Bool, true, not, ◌&&◌, ◌||◌, List, [], ◌++◌, Contains}
use Rattle.std.specs.List.{list_any, list_all, find, flat_map}
use Rattle.oz_base.specs.declared.names.Ident.{Ident}
use Rattle.oz_base.specs.Lists.{holds_of}
use Rattle.oz_semantics.specs.Store.{Same, same, value_of, domain_of, is_determined, named_by}
use Rattle.oz_semantics.specs.Settling.{is_among}
use Rattle.oz_semantics.specs.Spaces.{values_eq, domains_eq, alike_on, is_held}
use Rattle.oz_semantics.specs.declared.value.Tell.{Tell}
use Rattle.oz_laws.specs.Touched.{Touches}

-- the tells name these variables alone
abbrev pub NamesWithin : List Tell → List Ident → Type 0
NamesWithin ts xs = (x : Ident) → Contains (flat_map named_by ts) x → Contains xs x

-- ys has those of xs that are in the list, and no variable that is not in xs
pub record IsPart (touched xs ys : List Ident) : Type 0 where
  pub only : (y : Ident) → Contains ys y → Contains xs y
  pub all : (t : Ident) → Contains touched t → Contains xs t → Contains ys t

-- Two views are alike on all variables of xs exactly where they are on those that were touched
abbrev pub TouchedDecide : Type 0
TouchedDecide =
    (before more : List Tell) (touched xs ys : List Ident) → Touches before more touched → NamesWithin before xs → IsPart touched xs ys
    → alike_on xs (before ++ more) before ≡ alike_on ys (before ++ more) before

-- a variable has the same value and the same domain in both views
abbrev pub alike_at : List Tell → List Tell → Ident → Bool
alike_at one other y = values_eq (value_of one y) (value_of other y) && domains_eq (domain_of one y) (domain_of other y)

-- the first of the list whose class in the one view is that of y, if there is one, is equal to y in the other view
abbrev pub equal_to_first : List Ident → List Tell → List Tell → Ident → Bool
equal_to_first ys one other y = holds_of (same other y) (find (same one y) ys)

-- Where the other view has no equality that the one has not, each variable need be compared with one other alone
abbrev pub FirstsDecide : Type 0
FirstsDecide =
    (one other : List Tell) (ys : List Ident) → ((x y : Ident) → Same other x y → Same one x y)
    → alike_on ys one other ≡ list_all (λ y. alike_at one other y && equal_to_first ys one other y) ys

-- A wait is for variables of xs exactly where it is for one that is among them itself, or equal to one that was touched
abbrev pub TouchedHold : Type 0
TouchedHold =
    (before more : List Tell) (touched xs ys : List Ident) → Touches before more touched → NamesWithin before xs → IsPart touched xs ys → (x : Ident)
    → is_held (before ++ more) xs x ≡ (not (is_determined (before ++ more) x) && (is_among xs x || list_any (same (before ++ more) x) ys))

-- What is told besides names no variable of xs: then nothing need be looked at
abbrev pub UntouchedAlike : Type 0
UntouchedAlike =
    (before more : List Tell) (xs : List Ident) → NamesWithin before xs → ((x : Ident) → Contains (flat_map named_by more) x → Contains xs x → ⊥)
    → alike_on xs (before ++ more) before ≡ true

-- Where nothing is told besides, nothing is touched
abbrev pub TouchesNothing : Type 0
TouchesNothing = (before : List Tell) → Touches before [] []

-- What is told in two parts touches what the one touches, and then the other
abbrev pub TouchesTwice : Type 0
TouchesTwice =
    (before more further : List Tell) (touched others : List Ident) → Touches before more touched → Touches (before ++ more) further others
    → Touches before (more ++ further) (touched ++ others)
