-- Runs of propagators.
use Rattle.std.proofs.Common.{◌≡◌, ℕ, suc, ◌+◌, ◌<◌, ◌≤◌, Bool, true, false, not, if◌then◌else◌, List, [], ◌∷◌, ◌++◌, Option, Some, None, map, unwrap_or, refl, sym, ap, ◌∙◌, arith, length, get_or, drop, append_assoc}
use Rattle.std.proofs.lemmas.List.{drop_more, drop_all, append-nil}
use Rattle.std.proofs.lemmas.Bool.{false≢true}
use Rattle.std.specs.FinSet as set
use Rattle.oz_base.specs.Lists.{holds_of}
use Rattle.oz_base.specs.declared.names.Ident.{Ident}
use Rattle.oz_domains.specs.Domains.{IntSet, is_within, intervals_of}
use Rattle.fd_domain.proofs.MemberLaws.{within_intervals}
use Rattle.oz_semantics.specs.Store.{View, domain_of, is_consistent, is_news, news}
use Rattle.oz_domains.specs.Passes.{pass}
use Rattle.propagators.specs.Answers.{Steps}
use Rattle.propagators.specs.declared.cuts.Narrowed.{Narrowed}
use Rattle.propagators.specs.declared.cuts.Narrowed.TheVariants.{Changed, Same, Fail}
use Rattle.oz_semantics.specs.declared.configuration.Propagator.{Propagator}
use Rattle.oz_semantics.specs.Propagation.{Fails, Narrows, domain_in, if_consistent, narrowed, after_pass, run_of}
use Rattle.oz_semantics.specs.declared.value.Tell.{Tell}
use Rattle.oz_semantics.specs.declared.value.Tell.TheVariants.{Within}
use Rattle.term_store.proofs.ClosingLaws.{consistent_prefix}
use Rattle.propagation.specs.Runs.{AreDomainsOf}

-- The domains of variables

pub are_more : (view : View) (xs : List Ident) (ds : List IntSet) (x : Ident) (d : IntSet) → AreDomainsOf view xs ds → domain_of view x ≡ Some d → AreDomainsOf view (xs ++ x ∷ []) (ds ++ d ∷ [])
are_more view [] [] x d a e = (e, tt)
are_more view [] (c ∷ ds) x d a e = absurd a
are_more view (y ∷ xs) [] x d a e = absurd a
are_more view (y ∷ xs) (c ∷ ds) x d a e = (a.0, are_more view xs ds x d a.1 e)

pub are_in : (view : View) (xs : List Ident) (ds : List IntSet) → AreDomainsOf view xs ds → map (domain_in view) xs ≡ ds
are_in view [] [] a = refl
are_in view [] (d ∷ ds) a = absurd a
are_in view (x ∷ xs) [] a = absurd a
are_in view (x ∷ xs) (d ∷ ds) a = λ i. unwrap_or (a.0 i) set.empty ∷ are_in view xs ds a.1 i

pub are_long : (view : View) (xs : List Ident) (ds : List IntSet) → AreDomainsOf view xs ds → length ds ≡ length xs
are_long view [] [] a = refl
are_long view [] (d ∷ ds) a = absurd a
are_long view (x ∷ xs) [] a = absurd a
are_long view (x ∷ xs) (d ∷ ds) a = ap suc (are_long view xs ds a.1)

-- the domains of some variables, and those of the others
pub confined_more : (ts whole : List Tell) (xs : List Ident) (ds : List IntSet) (i : ℕ) (x : Ident) (d : IntSet) → i < length xs → length ds ≡ length xs → x ≡ get_or xs i x → d ≡ get_or ds i d
    → ts ++ narrowed (drop i xs) (drop i ds) ≡ whole → (ts ++ Within x (intervals_of d) ∷ []) ++ narrowed (drop (i + 1) xs) (drop (i + 1) ds) ≡ whole
confined_more ts whole xs ds i x d h long at_x at_d was =
    append_assoc ts (Within x (intervals_of d) ∷ []) (narrowed (drop (i + 1) xs) (drop (i + 1) ds))
    ∙ sym (
    ap (λ l. ts ++ narrowed l (drop i ds)) (drop_more xs i x h ∙ ap (λ y. y ∷ drop (i + 1) xs) (sym at_x))
    ∙ ap (λ l. ts ++ narrowed (x ∷ drop (i + 1) xs) l) (drop_more ds i d (omega (arith, h, long)) ∙ ap (λ c. c ∷ drop (i + 1) ds) (sym at_d))
    )
    ∙ was

pub confined_all : (ts whole : List Tell) (xs : List Ident) (ds : List IntSet) (i : ℕ) → length xs ≤ i → ts ++ narrowed (drop i xs) (drop i ds) ≡ whole → ts ≡ whole
confined_all ts whole xs ds i h was = sym (ap (λ l. ts ++ narrowed l (drop i ds)) (drop_all i xs h) ∙ append-nil ts) ∙ was

-- a domain that a variable has is no news
old_domain : (view : View) (x : Ident) (d : IntSet) → domain_of view x ≡ Some d → is_news view (Within x (intervals_of d)) ≡ false
old_domain view x d e = ap (λ o. not (holds_of (is_within (intervals_of d)) o)) e ∙ ap not (within_intervals d)

-- What is news, step by step

pub news_no : (view : View) (t : Tell) (us : List Tell) → is_news view t ≡ false → news view (t ∷ us) ≡ news view us
news_no view t us e = ap (λ b. if b then t ∷ news (view ++ t ∷ []) us else news view us) e

pub news_yes : (view : View) (t : Tell) (us : List Tell) → is_news view t ≡ true → news view (t ∷ us) ≡ t ∷ news (view ++ t ∷ []) us
news_yes view t us e = ap (λ b. if b then t ∷ news (view ++ t ∷ []) us else news view us) e

pub none_new : (view : View) (xs : List Ident) (ds : List IntSet) → AreDomainsOf view xs ds → news view (narrowed xs ds) ≡ []
none_new view [] [] a = refl
none_new view [] (d ∷ ds) a = absurd a
none_new view (x ∷ xs) [] a = absurd a
none_new view (x ∷ xs) (d ∷ ds) a = news_no view (Within x (intervals_of d)) (narrowed xs ds) (old_domain view x d a.0) ∙ none_new view xs ds a.1

pub if_is_consistent : (view : View) (ts : List Tell) → is_consistent (view ++ ts) ≡ true → if_consistent view ts ≡ Narrows ts
if_is_consistent view ts e = ap (λ b. if b then Narrows ts else Fails) e

pub if_inconsistent : (view : View) (ts : List Tell) → is_consistent (view ++ ts) ≡ false → if_consistent view ts ≡ Fails
if_inconsistent view ts e = ap (λ b. if b then Narrows ts else Fails) e

-- a propagator rests
pub rests : (view : View) (xs : List Ident) (ds : List IntSet) → AreDomainsOf view xs ds → is_consistent view ≡ true → if_consistent view (news view (narrowed xs ds)) ≡ Narrows []
rests view xs ds a e =
    ap (if_consistent view) (none_new view xs ds a)
    ∙ if_is_consistent view [] (ap is_consistent (append-nil view) ∙ e)

-- of these tells, the first i were looked at, and those that are news were told
pub record Told (view copy : View) (all told : List Tell) (i : ℕ) : Type 0 where
  pub copied : copy ≡ view ++ told
  pub split : news view all ≡ told ++ news copy (drop i all)

pub none_told : (view : View) (all : List Tell) → Told view view all [] 0
none_told view all = record { copied = sym (append-nil view); split = refl }

rest_of : (all : List Tell) (i : ℕ) (t : Tell) → i < length all → t ≡ get_or all i t → drop i all ≡ t ∷ drop (i + 1) all
rest_of all i t h at = drop_more all i t h ∙ ap (λ u. u ∷ drop (i + 1) all) (sym at)

pub told_on : (view copy : View) (all told : List Tell) (i : ℕ) (t : Tell) → Told view copy all told i → i < length all → t ≡ get_or all i t → is_news copy t ≡ false → Told view copy all told (i + 1)
told_on view copy all told i t k h at e = record {
  copied = k.copied;
  split = k.split ∙ ap (λ us. told ++ us) (ap (news copy) (rest_of all i t h at) ∙ news_no copy t (drop (i + 1) all) e);
}

told_split : (view copy : View) (all told : List Tell) (i : ℕ) (t : Tell) → Told view copy all told i → i < length all → t ≡ get_or all i t → is_news copy t ≡ true → news view all ≡ told ++ t ∷ news (copy ++ t ∷ []) (drop (i + 1) all)
told_split view copy all told i t k h at e = k.split ∙ ap (λ us. told ++ us) (ap (news copy) (rest_of all i t h at) ∙ news_yes copy t (drop (i + 1) all) e)

pub told_more : (view copy new : View) (all told : List Tell) (i : ℕ) (t : Tell) → Told view copy all told i → i < length all → t ≡ get_or all i t → is_news copy t ≡ true → new ≡ copy ++ t ∷ [] → Told view new all (told ++ t ∷ []) (i + 1)
told_more view copy new all told i t k h at e n = record {
  copied = n ∙ ap (λ v. v ++ t ∷ []) k.copied ∙ append_assoc view told (t ∷ []);
  split =
      told_split view copy all told i t k h at e
      ∙ ap (λ v. told ++ t ∷ news v (drop (i + 1) all)) (sym n)
      ∙ sym (append_assoc told (t ∷ []) (news new (drop (i + 1) all)));
}

-- where it is inconsistent so far, all of it is
longer_inconsistent : (ts us : List Tell) → is_consistent ts ≡ false → is_consistent (ts ++ us) ≡ false
longer_inconsistent ts us f = by (is_consistent (ts ++ us)) refl
  where
    by : (b : Bool) → is_consistent (ts ++ us) ≡ b → b ≡ false
    by true c = absurd (false≢true (sym f ∙ consistent_prefix ts us c))
    by false c = refl

pub told_fails : (view copy : View) (all told : List Tell) (i : ℕ) (t : Tell) → Told view copy all told i → i < length all → t ≡ get_or all i t → is_news copy t ≡ true → is_consistent (copy ++ t ∷ []) ≡ false → if_consistent view (news view all) ≡ Fails
told_fails view copy all told i t k h at e f =
    let rest = news (copy ++ t ∷ []) (drop (i + 1) all) in
    let whole : view ++ news view all ≡ (copy ++ t ∷ []) ++ rest =
    ap (λ us. view ++ us) (told_split view copy all told i t k h at e)
    ∙ sym (append_assoc view told (t ∷ rest))
    ∙ ap (λ v. v ++ t ∷ rest) (sym k.copied)
    ∙ sym (append_assoc copy (t ∷ []) rest)
    in
    if_inconsistent view (news view all) (ap is_consistent whole ∙ longer_inconsistent (copy ++ t ∷ []) rest f)

pub told_all : (view copy : View) (all told : List Tell) (i : ℕ) → Told view copy all told i → length all ≤ i → is_consistent copy ≡ true → if_consistent view (news view all) ≡ Narrows told
told_all view copy all told i k h c =
    let ends : news view all ≡ told = k.split ∙ ap (λ us. told ++ news copy us) (drop_all i all h) ∙ append-nil told in
    ap (if_consistent view) ends ∙ if_is_consistent view told (ap is_consistent (sym k.copied) ∙ c)

-- A run, by what its pass did

after_passed : (view : View) (p : Propagator) (xs : List Ident) (ds old : List IntSet) (o : Option (List IntSet)) → xs ≡ p.variables → AreDomainsOf view xs ds → old ≡ ds → pass p.relation old ≡ o → run_of view p ≡ after_pass view xs o
after_passed view p xs ds old o at a same e =
    ap (λ ys. after_pass view ys (pass p.relation (map (domain_in view) ys))) (sym at)
    ∙ ap (λ l. after_pass view xs (pass p.relation l)) (are_in view xs ds a ∙ sym same)
    ∙ ap (after_pass view xs) e

pub run_fails : (view : View) (p : Propagator) (xs : List Ident) (ds old new : List IntSet) (n : Narrowed) → xs ≡ p.variables → AreDomainsOf view xs ds → old ≡ ds → Steps (pass p.relation old) old new n → n ≡ Fail → Fails ≡ run_of view p
run_fails view p xs ds old new Fail at a same k e = sym (after_passed view p xs ds old None at a same k.0)
run_fails view p xs ds old new Same at a same k e = cc
run_fails view p xs ds old new Changed at a same k e = cc

pub run_rests : (view : View) (p : Propagator) (xs : List Ident) (ds old new : List IntSet) (n : Narrowed) (ts : List Tell) → xs ≡ p.variables → AreDomainsOf view xs ds → old ≡ ds → Steps (pass p.relation old) old new n → n ≡ Same
    → is_consistent view ≡ true → ts ≡ [] → Narrows ts ≡ run_of view p
run_rests view p xs ds old new Same ts at a same k e c none =
    ap Narrows none
    ∙ sym (
    after_passed view p xs ds old (Some old) at a same k.0
    ∙ ap (λ l. if_consistent view (news view (narrowed xs l))) same
    ∙ rests view xs ds a c
    )
run_rests view p xs ds old new Fail ts at a same k e c none = cc
run_rests view p xs ds old new Changed ts at a same k e c none = cc

pub run_narrows : (view : View) (p : Propagator) (xs : List Ident) (ds old new : List IntSet) (n : Narrowed) (ts : List Tell) → xs ≡ p.variables → AreDomainsOf view xs ds → old ≡ ds → Steps (pass p.relation old) old new n → n ≡ Changed
    → ts ≡ narrowed xs new → run_of view p ≡ if_consistent view (news view ts)
run_narrows view p xs ds old new Changed ts at a same k e told =
    after_passed view p xs ds old (Some new) at a same k.0
    ∙ ap (λ us. if_consistent view (news view us)) (sym told)
run_narrows view p xs ds old new Fail ts at a same k e told = cc
run_narrows view p xs ds old new Same ts at a same k e told = cc
