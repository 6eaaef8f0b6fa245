-- Notes tell what is due.
use Rattle.std.proofs.Common.{◌≡◌, ℕ, zero, suc, ◌<◌, ◌≤◌, ◌⊎◌, inl, inr, ℤ, Bool, true, List, [], ◌∷◌, length, get_or, All, Option, Some, None, IsSomeAnd, option_and_then, refl, sym, ◌∙◌, ap, subst, arith}
use Rattle.std.proofs.lemmas.List.Elements.{All-head, All-tail}
use Rattle.std.proofs.lemmas.Option.{option_and_then_some}
use Rattle.std.proofs.lemmas.Bool.{cases_eq}
use Rattle.std.specs.FinSet as set
use Rattle.oz_base.specs.declared.relation.Relation.{Relation}
use Rattle.oz_domains.specs.Domains.{IntSet, Has, least}
use Rattle.oz_domains.specs.Positions.{domain, AreParts, AreDomains}
use Rattle.oz_domains.specs.Passes.{keep, pass}
use Rattle.fd_domain.proofs.DomainLaws.{all_kept}
use Rattle.fd_stores.specs.Stores.{Store, Constraint, Posted, Told, variables, domains_at, IsOver, told, run, total}
use Rattle.fd_stores.specs.Notes.{Note, IsNoted, IsDone, Stands, NotesStand, ToldStays}
use Rattle.fd_stores.proofs.Sets.{IsPart}
use Rattle.fd_stores.proofs.Lists.{at_some}
use Rattle.fd_stores.proofs.StoreLaws.{Kept, keep_some, keep_kept, kept_passes, ToldTo, told_to, domain_of_position, run_shrinks}
use Rattle.fd_stores.proofs.RunLaws.{parts_total}

-- stores with the same domains
same_store : (m s : Store) → length m ≡ length s → ((i : ℕ) → domain m i ≡ domain s i) → m ≡ s
same_store [] [] l h = refl
same_store [] (d ∷ s) l h = absurd (omega (arith, l))
same_store (c ∷ m) [] l h = absurd (omega (arith, l))
same_store (c ∷ m) (d ∷ s) l h = (let e = h 0 in let f = same_store m s (omega (arith, l)) (λ i. h (suc i)) in λ i. e i ∷ f i)

kept_same : (i : ℕ) (test : ℤ → Bool) (s m : Store) → ((q : ℤ) → Has (domain s i) q → test q ≡ true) → Kept i test s m → m ≡ s
kept_same i test s m h k = same_store m s k.long (λ j. elim (cases_eq j i) [
  | inl e ↦ subst (λ z. domain m z ≡ domain s z) (sym e) (k.here ∙ sym (all_kept (domain s i) test h))
  | inr n ↦ k.others j n
])

-- where all values pass, the store is as it was
keep_same : (i : ℕ) (test : ℤ → Bool) (s : Store) → i < length s → AreDomains s → ((q : ℤ) → Has (domain s i) q → test q ≡ true) → keep i test s ≡ Some s
keep_same i test s l d h = by (keep i test s) (let k = d i l in keep_some i test s (least (domain s i)) l k.some (h (least (domain s i)) k.some)) where
  by : (o : Option Store) → IsSomeAnd o (Kept i test s) → o ≡ Some s
  by None k = absurd k
  by (Some m) k = ap Some (kept_same i test s m h k)

told_same : (xs : List ℕ) (ds : List IntSet) (s : Store) → All (λ x. x < length s) xs → AreDomains s → ((i : ℕ) → i < length xs → i < length ds → IsPart (domain s (get_or xs i 0)) (domain ds i)) → told xs ds s ≡ Some s
unfolding told
told_same [] ds s a d h = refl
told_same (x ∷ xs) [] s a d h = refl
told_same (x ∷ xs) (c ∷ ds) s a d h =
    ap (option_and_then (told xs ds)) (keep_same x (set.contains c) s (All-head (λ y. y < length s) x xs a) d (h 0 (omega arith) (omega arith)))
    ∙ told_same xs ds s (All-tail (λ y. y < length s) x xs a) d (λ i l k. h (suc i) (omega (arith, l)) (omega (arith, k)))

-- stores with the same domains of positions
same_at : (s e : Store) (xs : List ℕ) → domains_at e xs ≡ domains_at s xs → (i : ℕ) → i < length xs → domain e (get_or xs i 0) ≡ domain s (get_or xs i 0)
same_at s e xs f i l = sym (domain_of_position e xs i l) ∙ ap (λ ds. domain ds i) f ∙ domain_of_position s xs i l

-- a run that left the domains of its positions as they were changes no store with these domains
module _ (r : Relation) (xs : List ℕ) (s m : Store) (o : IsOver (length s) (Posted r xs)) (d : AreDomains s) (e : run (Posted r xs) s ≡ Some m) (f : domains_at m xs ≡ domains_at s xs) where
  done_by : (new : List IntSet) → pass r (domains_at s xs) ≡ Some new → told xs new s ≡ Some m → IsDone (Posted r xs) (domains_at s xs)
  done_by new p q g over dg h =
      let t = at_some (told xs new s) m (ToldTo xs new s) (told_to xs new s o.1 d) q in
      ap (λ ds. option_and_then (λ es. told xs es g) (pass r ds)) h
      ∙ ap (option_and_then (λ es. told xs es g)) p
      ∙ told_same xs new g over.1 dg (λ i l k v w. t.within i l k v (subst (λ z. Has z v) (same_at m g xs (h ∙ sym f) i l) w))

  posted_done : IsDone (Posted r xs) (domains_at s xs)
  posted_done = option_and_then_some (λ ds. told xs ds s) (pass r (domains_at s xs)) m e (λ new p q. done_by new p q)

-- a told variable has only values of the set
pub told_has : (x : ℕ) (v : IntSet) (s m : Store) → x < length s → keep x (set.contains v) s ≡ Some m → IsPart (domain m x) v
told_has x v s m l e = (let k = at_some (keep x (set.contains v) s) m (Kept x (set.contains v) s) (keep_kept x (set.contains v) s l) e in kept_passes x (set.contains v) s m l k)

done : (c : Constraint) (s m : Store) → IsOver (length s) c → AreDomains s → run c s ≡ Some m → domains_at m (variables c) ≡ domains_at s (variables c) → IsDone c (domains_at s (variables c))
done (Posted r xs) s m o d e f = posted_done r xs s m o d e f
done (Told x v) s m o d e f = λ g over dg h. keep_same x (set.contains v) g over dg (λ q w. told_has x v s m o e q (subst (λ z. Has z q) (ap (λ ds. domain ds 0) (h ∙ sym f)) w))

positions_parts : (s m : Store) (xs : List ℕ) → AreParts m s → AreParts (domains_at m xs) (domains_at s xs)
positions_parts s m [] p = record { long = refl; each = λ i v h. h }
positions_parts s m (x ∷ xs) p = (let r = positions_parts s m xs p in record { long = (let l = r.long in omega arith); each = each r }) where
  each : AreParts (domains_at m xs) (domains_at s xs) → (i : ℕ) → IsPart (domain (domains_at m (x ∷ xs)) i) (domain (domains_at s (x ∷ xs)) i)
  each r zero = p.each x
  each r (suc i) = r.each i

less_or_not : (a b : ℕ) → (a < b) ⊎ (b ≤ a)
less_or_not a b = grind arith

ran : (c : Constraint) (s m : Store) → IsOver (length s) c → AreDomains s → run c s ≡ Some m → Stands c (Some (domains_at s (variables c))) m
ran c s m o d e = elim (less_or_not (total (domains_at m (variables c))) (total (domains_at s (variables c)))) [
  | inl l ↦ inl l
  | inr g ↦ inr (done c s m o d e (
      let p = at_some (run c s) m (λ z. AreParts z s × AreDomains z) (run_shrinks c s o d) e in
      (parts_total (domains_at s (variables c)) (domains_at m (variables c)) (positions_parts s m (variables c) p.0)).1 g))
]

stays : (c : Constraint) (note : Note) (s m : Store) → IsOver (length s) c → Stands c note s → AreParts m s → Stands c note m
stays c None s m o h p = tt
stays c (Some ds) s m o h p = elim h [
  | inl l ↦ inl (let k = (parts_total (domains_at s (variables c)) (domains_at m (variables c)) (positions_parts s m (variables c) p)).0 in omega (arith, l))
  | inr g ↦ inr g
]

rests : (c : Constraint) (note : Note) (s : Store) → IsOver (length s) c → AreDomains s → Stands c note s → IsNoted c note s → run c s ≡ Some s
rests c None s o d h n = cc
rests c (Some ds) s o d h n = elim h [ inl l ↦ absurd (omega (arith, l, ap total same)) | inr g ↦ g s o d (sym same) ] where
  some_is : (a b : List IntSet) → Some a ≡ Some b → a ≡ b
  some_is a b e = cc

  same : ds ≡ domains_at s (variables c)
  same = some_is ds (domains_at s (variables c)) n

pub notes_stand : NotesStand
notes_stand = record { ran = ran; stays = stays; rests = rests }

pub told_stays : ToldStays
told_stays x v s m e l f p d =
    let k = at_some (keep x (set.contains v) s) m (Kept x (set.contains v) s) (keep_kept x (set.contains v) s l) f in
    keep_same x (set.contains v) e (let a = k.long in let b = p.long in omega arith) d (λ q h. told_has x v s m l f q (p.each x q h))
