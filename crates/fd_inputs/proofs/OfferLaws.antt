-- A distributor offers two parts as long as an element is not determined, and waits for these elements.
use Rattle.std.proofs.Common.{◌≡◌, ◌<◌, ℕ, suc, nat_lt, length, arith, Bool, true, false, not, if◌then◌else◌, List, [], ◌∷◌, Option, Some, None, option_map, unwrap_or, slice_get, refl, sym, ap, ◌∙◌}
use Rattle.std.specs.FinSet as set
use Rattle.oz_base.specs.declared.names.Ident.{Ident}
use Rattle.oz_base.specs.declared.distribution.Rule.{Rule}
use Rattle.oz_base.specs.declared.distribution.Rule.TheVariants.{Naive, FirstFail, Split as Halve}
use Rattle.oz_domains.specs.Domains.{is_single}
use Rattle.oz_domains.specs.Positions.{domain}
use Rattle.oz_domains.specs.Splits.{first_place, smaller_place, smallest_place, place_of, test_of}
use Rattle.oz_semantics.specs.Store.{View, is_determined}
use Rattle.oz_semantics.specs.Propagation.{domain_in}
use Rattle.oz_semantics.specs.Distributors.{Finished, undetermined, parts_of, splits}
use Rattle.fd_inputs.specs.Answers.{offered}
use Rattle.fd_inputs.proofs.PlaceLaws.{AllInDomain, determined_is, domains, split_among, split_at, splits_are}

-- an element stands at the place, if there is one
abbrev There : List Ident → Option ℕ → Type 0
There ys None = Unit {0}
There ys (Some i) = (x : Ident) × (slice_get ys i ≡ Some x)

first_there : (view : View) (ys : List Ident) → There ys (first_place (domains view ys))
first_there view [] = tt
first_there view (y ∷ ys) = by (is_single (domain_in view y)) (first_place (domains view ys)) (first_there view ys)
  where
    by : (b : Bool) (o : Option ℕ) → There ys o → There (y ∷ ys) (if b then option_map suc o else Some 0)
    by true None h = tt
    by true (Some i) h = h
    by false o h = (y, refl)

smallest_there : (view : View) (ys : List Ident) → There ys (smallest_place (domains view ys))
smallest_there view [] = tt
smallest_there view (y ∷ ys) = by (is_single (domain_in view y)) (smallest_place (domains view ys)) (smallest_there view ys)
  where
    either : (i : ℕ) (c : Bool) → There ys (Some i) → There (y ∷ ys) (Some (if c then suc i else 0))
    either i true h = h
    either i false h = (y, refl)

    by : (b : Bool) (o : Option ℕ) → There ys o → There (y ∷ ys) (if b then option_map suc o else Some (smaller_place (domain_in view y) (domains view ys) o))
    by true None h = tt
    by true (Some i) h = h
    by false None h = (y, refl)
    by false (Some i) h = either i (nat_lt (set.len (domain (domains view ys) i)) (set.len (domain_in view y))) h

there : (view : View) (rule : Rule) (ys : List Ident) → There ys (place_of rule (domains view ys))
there view Naive ys = first_there view ys
there view FirstFail ys = smallest_there view ys
there view Halve ys = smallest_there view ys

-- a place is taken where the first element is not determined
taken : (view : View) (rule : Rule) (y : Ident) (ys : List Ident) → is_single (domain_in view y) ≡ false → (i : ℕ) × (place_of rule (domains view (y ∷ ys)) ≡ Some i)
taken view Naive y ys e = (0, ap (λ c. if c then option_map suc (first_place (domains view ys)) else Some 0) e)
taken view FirstFail y ys e = (
  smaller_place (domain_in view y) (domains view ys) (smallest_place (domains view ys)),
  ap (λ c. if c then option_map suc (smallest_place (domains view ys)) else Some (smaller_place (domain_in view y) (domains view ys) (smallest_place (domains view ys)))) e,
)
taken view Halve y ys e = (
  smaller_place (domain_in view y) (domains view ys) (smallest_place (domains view ys)),
  ap (λ c. if c then option_map suc (smallest_place (domains view ys)) else Some (smaller_place (domain_in view y) (domains view ys) (smallest_place (domains view ys)))) e,
)

-- the first of those that are not determined has a domain of several values
abbrev IsFirstOpen : View → List Ident → Type 0
IsFirstOpen view [] = Unit {0}
IsFirstOpen view (y ∷ ys) = is_single (domain_in view y) ≡ false

first_open : (view : View) (xs : List Ident) → AllInDomain view xs → IsFirstOpen view (undetermined view xs)
first_open view [] a = tt
first_open view (x ∷ xs) a = by (is_determined view x) refl (first_open view xs a.1)
  where
    by : (b : Bool) → is_determined view x ≡ b → IsFirstOpen view (undetermined view xs) → IsFirstOpen view (if not b then x ∷ undetermined view xs else undetermined view xs)
    by true e h = h
    by false e h = sym (determined_is view x a.0) ∙ e

-- the elements, if there are some
abbrev pub any_of : List Ident → Option (List Ident)
any_of [] = None
any_of (y ∷ ys) = Some (y ∷ ys)

pub any_none : (ys : List Ident) → length ys ≡ 0 → None ≡ any_of ys
any_none [] e = refl
any_none (y ∷ ys) e = absurd (omega (arith, e))

pub any_some : (ys : List Ident) → 0 < length ys → Some ys ≡ any_of ys
any_some [] h = absurd (omega (arith, h))
any_some (y ∷ ys) h = refl

among : (view : View) (rule : Rule) (ys : List Ident) → IsFirstOpen view ys → offered (split_among view ys (split_at rule (domains view ys) (place_of rule (domains view ys)))) ≡ any_of ys
among view Naive [] h = refl
among view FirstFail [] h = refl
among view Halve [] h = refl
among view rule (y ∷ ys) h = by (place_of rule (domains view (y ∷ ys))) (there view rule (y ∷ ys)) (taken view rule y ys h)
  where
    by : (o : Option ℕ) → There (y ∷ ys) o → (i : ℕ) × (o ≡ Some i) → offered (split_among view (y ∷ ys) (split_at rule (domains view (y ∷ ys)) o)) ≡ Some (y ∷ ys)
    by None t f = absurd (cc (f.1))
    by (Some i) t f = ap (λ q. offered (unwrap_or (option_map (parts_of (y ∷ ys) (test_of rule (domain (domains view (y ∷ ys)) i)) (domain (domains view (y ∷ ys)) i)) q) Finished)) t.1

pub offers : (view : View) (rule : Rule) (xs waits : List Ident) → AllInDomain view xs → waits ≡ undetermined view xs → any_of waits ≡ offered (splits view rule xs)
offers view rule xs waits a w =
    ap any_of w
    ∙ sym (among view rule (undetermined view xs) (first_open view xs a))
    ∙ ap offered (sym (splits_are view rule xs a))
