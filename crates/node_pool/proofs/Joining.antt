-- Two workers become one, and one becomes two.
use Rattle.oz_search.specs.Histories.{History}
use Rattle.std.proofs.Common.{cond, ◌≡◌, ℕ, ◌+◌, ◌<◌, Bool, true, false, not, ◌&&◌, ◌||◌, nat_eq, List, [], ◌∷◌, ◌++◌, length, Option, Some, None, refl, ap, sym, ◌∙◌, subst, arith}
use Rattle.std.specs.Option.{is_some, option_or}
use Rattle.std.proofs.lemmas.List.Folds.{list_any-append}
use mathlib.Core.List.{IsPrefix}
use Rattle.atomic_table.specs.Seated.{TableId}
use Rattle.oz_search.specs.declared.history.Entry.{Entry}
use Rattle.oz_search.specs.Histories.{claim_of, own, worker_of}
use Rattle.turn_lock.specs.declared.kept.Told.{Told}
use Rattle.turn_lock.specs.declared.kept.View.{View}
use Rattle.turn_lock.specs.Views.{IsOnceEach, drawer, first, gave, giver, has, joined, or_zero, plus_one, telling, took}
use Rattle.turn_lock.specs.Turns as lock
use Rattle.turn_lock.proofs.Prefixes.{first_has}
use Rattle.node_pool.specs.declared.tree.Mark.{Mark}
use Rattle.node_pool.specs.Workers.{IsOnlyLater, StandsForAll, IsWorker, WorkerView, claim, number, worker_view}
use Rattle.node_pool.specs.Calls.{Enrolled, TurnFinds, Joined, in_order}
use Rattle.node_pool.proofs.Turning.{same_claim}

-- ---- the order
or_swap : (a b : Bool) → (a || b) ≡ (b || a)
or_swap true true = refl
or_swap true false = refl
or_swap false true = refl
or_swap false false = refl

module _ {T B L : Type 0} (v w : WorkerView T B L) where
  abbrev pick : Bool → WorkerView T B L × WorkerView T B L
  pick x = cond x (w, v) (v, w)

  both_found : (h : History B L) → TurnFinds (in_order v w).0 h → TurnFinds (in_order v w).1 h → TurnFinds v h × TurnFinds w h
  both_found h a b =
      let step : (x : Bool) → TurnFinds (pick x).0 h → TurnFinds (pick x).1 h → TurnFinds v h × TurnFinds w h = elim [ true ↦ λ c d. (d, c) | false ↦ λ c d. (c, d) ] in
      step (not (is_some (claim v)) && is_some (claim w)) a b

  pub first_claim : claim (in_order v w).0 ≡ option_or (claim v) (claim w)
  first_claim =
      let step : (a b : Option (List B)) → claim v ≡ a → claim w ≡ b → claim (pick (not (is_some a) && is_some b)).0 ≡ option_or a b = elim [
        | None ↦ elim [
          | None ↦ λ i j. i
          | Some q ↦ λ i j. j
        ]
        | Some p ↦ λ b i j. i
      ] in
      step (claim v) (claim w) refl refl

  either : (n : ℕ) → has n ((in_order v w).0.numbers ++ (in_order v w).1.numbers) ≡ (has n v.numbers || has n w.numbers)
  either n =
      let step : (x : Bool) → has n ((pick x).0.numbers ++ (pick x).1.numbers) ≡ (has n v.numbers || has n w.numbers) = elim [
        | true ↦ list_any-append (nat_eq n) w.numbers v.numbers ∙ or_swap (has n w.numbers) (has n v.numbers)
        | false ↦ list_any-append (nat_eq n) v.numbers w.numbers
      ] in
      step (not (is_some (claim v)) && is_some (claim w))

  -- for callers: where the first draws numbers, and the second does not, the joined one does
  pub drawn_by_first : (k : ℕ) → v.drawn ≡ Some k → w.drawn ≡ None → option_or (in_order v w).0.drawn (in_order v w).1.drawn ≡ Some k
  drawn_by_first k e f =
      let step : (x : Bool) → option_or (pick x).0.drawn (pick x).1.drawn ≡ Some k = elim [ true ↦ (λ i. option_or (f i) (e i)) | false ↦ (λ i. option_or (e i) (f i)) ] in
      step (not (is_some (claim v)) && is_some (claim w))

  pub drawn_by_second : (k : ℕ) → v.drawn ≡ None → w.drawn ≡ Some k → option_or (in_order v w).0.drawn (in_order v w).1.drawn ≡ Some k
  drawn_by_second k e f =
      let step : (x : Bool) → option_or (pick x).0.drawn (pick x).1.drawn ≡ Some k = elim [ true ↦ (λ i. option_or (f i) (e i)) | false ↦ (λ i. option_or (e i) (f i)) ] in
      step (not (is_some (claim v)) && is_some (claim w))

  pub first_mark : (o : Option (Mark T)) → v.mark ≡ o → w.mark ≡ o → (in_order v w).0.mark ≡ o
  first_mark o e f =
      let step : (x : Bool) → (pick x).0.mark ≡ o = elim [ true ↦ f | false ↦ e ] in
      step (not (is_some (claim v)) && is_some (claim w))

  pub first_lock : (l : TableId) → v.lock ≡ l → w.lock ≡ l → (in_order v w).0.lock ≡ l
  first_lock l e f =
      let step : (x : Bool) → (pick x).0.lock ≡ l = elim [ true ↦ f | false ↦ e ] in
      step (not (is_some (claim v)) && is_some (claim w))

-- ---- a join
first_of_both : (xs ys : List ℕ) → 0 < length xs → first (xs ++ ys) ≡ first xs
first_of_both [] ys many = absurd (omega arith)
first_of_both (x ∷ xs) ys many = refl

-- the seats of a and b are joined, and the turn after it finds h
pub record JoinTurn {T B L : Type 0} (a b s : View (Mark T) (Entry (List B) L)) (h : History B L) : Type 0 where
  pub is : s ≡ gave (took (joined a b) h) h
  pub many : 0 < length a.numbers
  pub once : IsOnceEach (a.numbers ++ b.numbers)
  pub first_later : IsPrefix a.seen h
  pub first_same : (n : ℕ) → has n a.numbers ≡ true → own n h ≡ own n a.seen
  pub second_later : IsPrefix b.seen h
  pub second_same : (n : ℕ) → has n b.numbers ≡ true → own n h ≡ own n b.seen

pub join_turn : {T B L X F : Type 0} (fixed : X → F) (entries : X → History B L) (a b z t s : View (Mark T) (Entry (List B) L)) (h : History B L) → a.told ≡ [] → b.told ≡ [] → z ≡ joined a b → t ≡ took z h → s ≡ gave t h
    → 0 < length a.numbers → IsOnceEach z.numbers → lock.AllTold fixed entries worker_of h z.told → JoinTurn a b s h
join_turn {T} {B} {L} {X} {F} fixed entries a b z t s h one two e f g many once told =
    let P : View (Mark T) (Entry (List B) L) → Type 0 = λ y. lock.AllTold fixed entries worker_of h y.told in
    let Q : View (Mark T) (Entry (List B) L) → Type 0 = λ y. IsOnceEach y.numbers in
    let R : List (Told (Entry (List B) L)) → Type 0 = λ ts. lock.AllTold fixed entries worker_of h (ts ++ (b.told ++ telling a ∷ telling b ∷ [])) in
    let S : List (Told (Entry (List B) L)) → Type 0 = λ ts. lock.AllTold fixed entries worker_of h (ts ++ telling a ∷ telling b ∷ []) in
    let all = subst S two (subst R one (subst P e told)) in record {
      is = g ∙ ap (λ y. gave y h) (f ∙ ap (λ y. took y h) e);
      many = many;
      once = subst Q e once;
      first_later = all.0;
      first_same = all.1;
      second_later = all.2.0;
      second_same = all.2.1;
    }

module _ {T B L : Type 0} (a b s : View (Mark T) (Entry (List B) L)) (h : History B L) (turn : JoinTurn a b s h) where
  first_number : first (a.numbers ++ b.numbers) ≡ first a.numbers
  first_number = first_of_both a.numbers b.numbers turn.many

  -- the claim is that of the first
  kept_claim : claim_of h (first (a.numbers ++ b.numbers)) ≡ claim_of a.seen (first a.numbers)
  kept_claim = ap (claim_of h) first_number ∙ same_claim (first a.numbers) h a.seen (turn.first_same (first a.numbers) (first_has a.numbers turn.many))

  pub joined_is_worker : (m n : ℕ) (d e x : Option ℕ) (c k : Bool) → IsWorker a n d c → IsWorker b m e k → x ≡ option_or d e → IsWorker s n x c
  joined_is_worker m n d e x c k one two or =
      let P : View (Mark T) (Entry (List B) L) → Type 0 = λ z. IsWorker z n x c in
      subst P (sym turn.is) (record {
        named = one.named ∙ sym first_number;
        draws = or ∙ (λ i. option_or (one.draws i) (two.draws i));
        alone = refl;
        claims = one.claims ∙ ap is_some (sym kept_claim);
      })

  module _ (l m o : TableId) (v w : WorkerView T B L) (p : WorkerView T B L × WorkerView T B L) (order : p ≡ in_order v w) (first_is : worker_view l a ≡ p.0) (second_is : worker_view m b ≡ p.1) where
    first_view : worker_view l a ≡ (in_order v w).0
    first_view = first_is ∙ ap (λ (q : WorkerView T B L × WorkerView T B L). q.0) order

    second_view : worker_view m b ≡ (in_order v w).1
    second_view = second_is ∙ ap (λ (q : WorkerView T B L × WorkerView T B L). q.1) order

    pub joined_worker : Joined v w (worker_view o s)
    joined_worker =
        let P : WorkerView T B L → Type 0 = λ z. TurnFinds z h in
        let both = both_found v w h (subst P first_view (record { later = turn.first_later; own_same = turn.first_same })) (subst P second_view (record { later = turn.second_later; own_same = turn.second_same })) in
        let Q : View (Mark T) (Entry (List B) L) → Type 0 = λ z. Joined v w (worker_view o z) in
        subst Q (sym turn.is) (record {
          first = both.0;
          second = both.1;
          stands = λ n. ap (has n) (λ i. (first_view i).numbers ++ (second_view i).numbers) ∙ either v w n;
          numbers = λ i. (first_view i).numbers ++ (second_view i).numbers;
          drawn = λ i. option_or (first_view i).drawn (second_view i).drawn;
          once = turn.once;
        })

    pub joined_claim : claim (worker_view o s) ≡ option_or (claim v) (claim w)
    joined_claim =
        let Q : View (Mark T) (Entry (List B) L) → Type 0 = λ z. claim (worker_view o z) ≡ option_or (claim v) (claim w) in
        subst Q (sym turn.is) (kept_claim ∙ (ap (λ (z : WorkerView T B L). claim z) first_view ∙ first_claim v w))

-- ---- an enrolment
module _ {T B L : Type 0} (v t s u x : View (Mark T) (Entry (List B) L)) (h : History B L) (n k : ℕ) (d : Option ℕ) (c : Bool) (was : IsWorker v n d c) (draws : d ≡ Some k) (took_is : t ≡ took v h) (gave_is : s ≡ gave t h)
    (giver_is : u ≡ giver s) (drawer_is : x ≡ drawer s) where
  seat_is : s ≡ gave (took v h) h
  seat_is = gave_is ∙ ap (λ z. gave z h) took_is

  drew : v.drawn ≡ Some k
  drew = sym was.draws ∙ draws

  pub giver_is_worker : c ≡ is_some (claim_of h n) → IsWorker u n (Some (k + 1)) c
  giver_is_worker now =
      let P : View (Mark T) (Entry (List B) L) → Type 0 = λ z. IsWorker z n (Some (k + 1)) c in
      subst P (sym (giver_is ∙ ap giver seat_is)) (record {
        named = was.named;
        draws = ap plus_one (sym drew);
        alone = refl;
        claims = now ∙ ap (λ m. is_some (claim_of h m)) was.named;
      })

  number_is : k ≡ or_zero v.drawn
  number_is = ap or_zero (sym drew)

  pub newcomer_is_worker : own k h ≡ [] → IsWorker x k None false
  newcomer_is_worker none =
      let P : View (Mark T) (Entry (List B) L) → Type 0 = λ z. IsWorker z k None false in
      subst P (sym (drawer_is ∙ ap drawer seat_is)) (record {
        named = number_is;
        draws = refl;
        alone = refl;
        claims = ap is_some (sym (same_claim k h [] none)) ∙ ap (λ m. is_some (claim_of h m)) number_is;
      })

  module _ (l m o : TableId) (w : WorkerView T B L) (is : worker_view l v ≡ w) (same : m ≡ l) (again : o ≡ l) (found : TurnFinds w h) where
    pub enrolled : Enrolled w (worker_view m u) (worker_view o x)
    enrolled = record {
      h = h;
      found = found;
      k = k;
      drew = sym (ap (λ (z : WorkerView T B L). z.drawn) is) ∙ drew;
      giver = (λ i. worker_view (same i) ((giver_is ∙ ap giver seat_is) i)) ∙ ((λ i. record (worker_view l v) { seen = h; drawn = plus_one (drew i) }) ∙ (λ i. record (is i) { seen = h; drawn = Some (k + 1) }));
      newcomer = (λ i. worker_view (again i) ((drawer_is ∙ ap drawer seat_is) i)) ∙ ((λ i. record (worker_view l v) { numbers = sym number_is i ∷ []; seen = h; drawn = None }) ∙ (λ i. record (is i) { numbers = k ∷ []; seen = h; drawn = None }));
    }

    pub giver_claim : claim_of h (number w) ≡ claim w → claim (worker_view m u) ≡ claim w
    giver_claim now =
        let P : View (Mark T) (Entry (List B) L) → Type 0 = λ z. claim (worker_view m z) ≡ claim w in
        subst P (sym (giver_is ∙ ap giver seat_is)) (ap (λ (z : WorkerView T B L). claim_of h (number z)) is ∙ now)

    pub newcomer_claim : own k h ≡ [] → claim (worker_view o x) ≡ None
    newcomer_claim none =
        let P : View (Mark T) (Entry (List B) L) → Type 0 = λ z. claim (worker_view o z) ≡ None in
        subst P (sym (drawer_is ∙ ap drawer seat_is)) (ap (claim_of h) (sym number_is) ∙ same_claim k h [] none)

-- ---- for callers
-- where one of two workers draws numbers, and the two have all that were drawn, the joined one stands for all, whatever it has seen since
module _ {T B L : Type 0} (v w u x : WorkerView T B L) (k : ℕ) (both : Joined v w u) (later : IsOnlyLater u x) (all : (n : ℕ) → n < k → (has n v.numbers || has n w.numbers) ≡ true) where
  stands : option_or (in_order v w).0.drawn (in_order v w).1.drawn ≡ Some k → StandsForAll x
  stands drawn = (
    k,
    ap (λ (z : WorkerView T B L). z.drawn) later ∙ (both.drawn ∙ drawn),
    λ n lt. ap (λ (z : WorkerView T B L). has n z.numbers) later ∙ (both.stands n ∙ all n lt),
  )

  pub stands_by_first : v.drawn ≡ Some k → w.drawn ≡ None → StandsForAll x
  stands_by_first one two = stands (drawn_by_first v w k one two)

  pub stands_by_second : v.drawn ≡ None → w.drawn ≡ Some k → StandsForAll x
  stands_by_second one two = stands (drawn_by_second v w k one two)
