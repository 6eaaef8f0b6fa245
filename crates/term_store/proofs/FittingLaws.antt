-- Whether values fit domains, and what is kept of two classes.
use Rattle.std.proofs.Common.{ℕ, ◌≡◌, ◌∙◌, Bool, true, false, List, Option, Some, refl, sym, ap, subst}
use Rattle.oz_base.specs.declared.names.Ident.{Ident}
use Rattle.oz_domains.specs.Domains.{IntSet}
use Rattle.oz_semantics.specs.declared.value.Value.{Value}
use Rattle.oz_semantics.specs.declared.value.Tell.{Tell}
use Rattle.term_store.specs.Bounds.{has_value, Fits}
use Rattle.term_store.specs.Classes.{Table, first_in}
use Rattle.term_store.specs.Closing.{Going, Follows, GoesOn, Comes}
use Rattle.term_store.specs.Logs.{Written, told_in}
use Rattle.term_store.specs.Places.{value_at}
use Rattle.term_store.specs.Taking.{FirstsMeet, JoinsKept, Takes, kept}
use Rattle.term_store.specs.declared.closing.FirstOfTwo.{FirstOfTwo}
use Rattle.term_store.specs.declared.closing.FirstOfTwo.TheVariants.{First}
use Rattle.term_store.proofs.ClosingLaws.{some_is}

pub fits_value : (ts : List Tell) (place : ℕ) (v : Value) (s : IntSet) (fit : Bool) → value_at ts place ≡ Some v → fit ≡ has_value s v → Fits ts (Some place) (Some s) fit
fits_value ts place v s true at e = λ p w u ep ew eu.
    subst (λ z. has_value z w ≡ true) (some_is s u eu)
    (subst (λ z. has_value s z ≡ true) (some_is v w (sym at ∙ ap (value_at ts) (some_is place p ep) ∙ ew)) (sym e))
fits_value ts place v s false at e = record { place = place; value = v; integers = s; found = refl; told = at; left = refl; missing = sym e }

pub takes_kept : (ts us : List Tell) (t u t' : Table) (x y : Ident) (ps qs ps' : List (Ident × Ident)) (met : FirstOfTwo) (first : Option ℕ) (goes : Bool)
    → us ≡ ts → u ≡ t → ps' ≡ qs → FirstsMeet ts (first_in t x) (first_in t y) ps qs met → met ≡ First first → JoinsKept us u t' x y first goes → Takes ts t t' x y ps ps' goes
takes_kept ts us t u t' x y ps qs ps' met first goes el et ep m em j =
    kept first
    (subst (λ rs. FirstsMeet ts (first_in t x) (first_in t y) ps rs (First first)) (sym ep) (subst (FirstsMeet ts (first_in t x) (first_in t y) ps qs) em m))
    (subst (λ ws. JoinsKept ws t t' x y first goes) el (subst (λ w. JoinsKept us w t' x y first goes) et j))

-- A pair was joined, of those that wait

pub joined_on : (start log log' : Written) (t0 t t' : Table) (ps ps' : List (Ident × Ident)) (first now now' : List Ident) (goes : Bool) → goes ≡ true → log' ≡ log → log ≡ start
    → Comes (told_in log) t t' ps ps' now now' goes → Follows first now t0 t → (log' ≡ start) × Going (told_in log') t' ps' × Follows first now' t0 t'
joined_on start log log' t0 t t' ps ps' first now now' goes e k same comes follows =
    let g : GoesOn (told_in log) t t' ps ps' now now' = subst (Comes (told_in log) t t' ps ps' now now') e comes in (
      k ∙ same,
      subst (λ l. Going (told_in l) t' ps') (sym k) g.going,
      λ before h. g.follows before (follows before h),
    )
