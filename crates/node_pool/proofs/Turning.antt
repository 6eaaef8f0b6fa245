-- What a worker knows after its turn.
use Rattle.oz_search.specs.Histories.{History}
use Rattle.std.proofs.Common.{eq-eqb, ◌≡◌, ℕ, ◌==◌, ◌<◌, ◌≤◌, cond, Bool, true, false, List, [], ◌∷◌, length, Option, Some, None, Result, Ok, Err, IfOk, OnErr, MatchResult, refl, ap, sym, ◌∙◌, subst, arith, ⊎_elim}
use Rattle.std.specs.List.{fold, All, Contains}
use Rattle.std.specs.Option.{is_some}
use Rattle.std.proofs.lemmas.List.Elements.{All-nil, All-cons, All-contains}
use Rattle.std.proofs.lemmas.Bool.{both_ways, cases_lt}
use Rattle.std.proofs.lemmas.Bool.Decides.{nat_tests}
use mathlib.Core.List.{IsPrefix}
use Rattle.atomic_table.specs.Seated.{TableId}
use Rattle.oz_search.specs.declared.history.Entry.{Entry}
use Rattle.oz_search.specs.declared.history.Entry.TheVariants.{Claim, Split, Leaf, Stop}
use Rattle.oz_search.specs.declared.history.Halt.{Halt}
use Rattle.oz_search.specs.declared.history.StopCause.{StopCause}
use Rattle.oz_search.specs.declared.history.StopCause.TheVariants.{Total}
use Rattle.oz_search.specs.declared.tree.Report.{Report}
use Rattle.oz_search.specs.Searches.{Search}
use Rattle.oz_search.specs.Paths.{Taking}
use Rattle.oz_search.specs.Trees.{Tree}
use Rattle.oz_search.specs.Nodes.{Fuelled, IsNodeAt}
use Rattle.oz_search.specs.Histories.{IsLegal, claim_after, claim_of, own, stop_of, worker_of}
use Rattle.search_law.specs.Law.{HoldsTree}
use Rattle.search_law.proofs.Entries.{claim_of_push}
use Rattle.pool_state.specs.declared.pool.Claimed.{Claimed}
use Rattle.pool_state.specs.declared.pool.Claimed.TheVariants as claimed
use Rattle.pool_state.specs.declared.pool.Settled.{Settled}
use Rattle.pool_state.specs.declared.pool.Settled.TheVariants as settled
use Rattle.pool_state.specs.Pool.{AnswersClaim, after_stop, halt, unless_stopped}
use Rattle.pool_state.specs.Settles.{AnswersSettle}
use Rattle.turn_lock.specs.declared.kept.View.{View}
use Rattle.turn_lock.specs.Views.{gave, has, took}
use Rattle.turn_lock.proofs.Prefixes.{first_has}
use Rattle.node_pool.specs.declared.tree.Mark.{Mark}
use Rattle.node_pool.specs.Boards.{IsCause}
use Rattle.node_pool.specs.Workers.{IsWorker, WorkerView, claim, mark, number, worker_view}
use Rattle.node_pool.specs.Calls.{ClaimTurn, TurnFinds, SettleTurn, StopTurn, claim_left, claimed_path}

-- ---- a worker's claim is known from its own entries
claim_other : {B L : Type 0} (w : ℕ) (c : Option (List B)) (e : Entry (List B) L) → (worker_of e == w) ≡ false → claim_after w c e ≡ c
claim_other w c (Claim v q) off = let e : (w == v) ≡ false = grind (arith, nat_tests) in ap (λ b. cond b (Some q) c) e
claim_other w c (Split v q n s) off = let e : (w == v) ≡ false = grind (arith, nat_tests) in ap (λ b. cond b None c) e
claim_other w c (Leaf v q o s) off = let e : (w == v) ≡ false = grind (arith, nat_tests) in ap (λ b. cond b None c) e
claim_other w c (Stop x) off = refl

claim_from : {B L : Type 0} (w : ℕ) (c : Option (List B)) (h : History B L) → fold (claim_after w) c h ≡ fold (claim_after w) c (own w h)
claim_from w c [] = refl
claim_from w c (e ∷ h) =
    let step : (b : Bool) → (worker_of e == w) ≡ b → fold (claim_after w) (claim_after w c e) h ≡ fold (claim_after w) c (cond b (e ∷ own w h) (own w h)) = elim [
      | true ↦ λ i. claim_from w (claim_after w c e) h
      | false ↦ λ i. ap (λ o. fold (claim_after w) o h) (claim_other w c e i) ∙ claim_from w c h
    ] in
    step (worker_of e == w) refl

pub same_claim : {B L : Type 0} (n : ℕ) (h k : History B L) → own n h ≡ own n k → claim_of h n ≡ claim_of k n
same_claim n h k same = claim_from n None h ∙ (ap (fold (claim_after n) None) same ∙ sym (claim_from n None k))

-- ---- whose the entries are
abbrev IsNotOf : {B L : Type 0} → ℕ → Entry (List B) L → Type 0
IsNotOf n e = worker_of e ≡ n → ⊥

none_of : {B L : Type 0} (n : ℕ) (h : History B L) → own n h ≡ [] → All (IsNotOf n) h
none_of n [] none = All-nil (IsNotOf n)
none_of n (e ∷ h) none =
    let step : (b : Bool) → (worker_of e == n) ≡ b → cond b (e ∷ own n h) (own n h) ≡ [] → All (IsNotOf n) (e ∷ h) = elim [
      | true ↦ λ i some. absurd (cc (some))
      | false ↦ λ i rest. All-cons (IsNotOf n) e h (λ same. both_ways (worker_of e == n) i (eq-eqb (worker_of e) n same)) (none_of n h rest)
    ] in
    step (worker_of e == n) refl none

among : {B L : Type 0} (k : ℕ) (h : History B L) → ((n : ℕ) → k ≤ n → own n h ≡ []) → (e : Entry (List B) L) → Contains h e → worker_of e < k
among k h none e there =
    let n = worker_of e in
    ⊎_elim (λ below. below) (λ above. absurd (All-contains (IsNotOf n) h e (none_of n h (none n above)) there refl)) (cases_lt n k)

pub number_itself : (n : ℕ) → (n == n) ≡ true
number_itself n = eq-eqb n n refl

-- the worker w, whose number is n, finds h at its turn
pub record Ready {T B L : Type 0} (w : WorkerView T B L) (h : History B L) (n : ℕ) : Type 0 where
  pub found : TurnFinds w h
  pub many : 0 < length w.numbers
  pub is : n ≡ number w

-- ---- two marks of one pool are the same
same_marks : {T : Type 0} (x y : T) (a b : ℕ) (o : Option (Mark T)) → o ≡ Some (mark x a) → o ≡ Some (mark y b) → mark y b ≡ mark x a
same_marks x y a b o pool board = cc (sym board ∙ pool)

pub same_budget : {T : Type 0} (x y : T) (a b : ℕ) (o : Option (Mark T)) → o ≡ Some (mark x a) → o ≡ Some (mark y b) → b ≡ a
same_budget {T} x y a b o pool board = ap (λ (m : Mark T). m.budget) (same_marks x y a b o pool board)

module _ {T B L : Type 0} where
  pub ready : (l : TableId) (v : View (Mark T) (Entry (List B) L)) (w : WorkerView T B L) (n : ℕ) (d : Option ℕ) (c : Bool) (h : History B L) → worker_view l v ≡ w → IsWorker v n d c
      → IsPrefix v.seen h → ((m : ℕ) → has m v.numbers ≡ true → own m h ≡ own m v.seen) → 0 < length v.numbers → Ready w h n
  ready l v w n d c h e was later same many =
      let P : WorkerView T B L → Type 0 = λ z. Ready z h n in
      subst P e (record { found = record { later = later; own_same = same }; many = many; is = was.named })

  -- of numbers that were not drawn there is no entry
  pub among_drawn : (l : TableId) (v : View (Mark T) (Entry (List B) L)) (w : WorkerView T B L) (h : History B L) → worker_view l v ≡ w → w.seen ≡ h → ((k n : ℕ) → v.drawn ≡ Some k → k ≤ n → own n h ≡ [])
      → (k : ℕ) (e : Entry (List B) L) → w.drawn ≡ Some k → Contains w.seen e → worker_of e < k
  among_drawn l v w h is seen none k e drew there =
      let P : History B L → Type 0 = λ z. Contains z e in among k h (λ n. none k n (ap (λ (z : WorkerView T B L). z.drawn) is ∙ drew)) e (subst P seen there)

  pub found_claim : (w : WorkerView T B L) (h : History B L) (n : ℕ) → Ready w h n → claim_of h (number w) ≡ claim w
  found_claim w h n r = same_claim (number w) h w.seen (r.found.own_same (number w) (first_has w.numbers r.many))

  -- what the pool knows of its claim is what the worker knows
  pub claim_there : (w : WorkerView T B L) (h : History B L) (n : ℕ) → Ready w h n → claim_of h n ≡ claim w
  claim_there w h n r = ap (claim_of h) r.is ∙ found_claim w h n r

  -- the worker is still one, with another history seen
  pub worker_after : (v t s : View (Mark T) (Entry (List B) L)) (n : ℕ) (d : Option ℕ) (c b : Bool) (h k : History B L) → IsWorker v n d c → t ≡ took v h → s ≡ gave t k → b ≡ is_some (claim_of k n) → IsWorker s n d b
  worker_after v t s n d c b h k was e f now =
      let P : View (Mark T) (Entry (List B) L) → Type 0 = λ z. IsWorker z n d b in
      let same : s ≡ gave (took v h) k = f ∙ ap (λ z. gave z k) e in
      subst P (sym same) (record { named = was.named; draws = was.draws; alone = refl; claims = now ∙ ap (λ m. is_some (claim_of k m)) was.named })

  pub claim_after_turn : (l m : TableId) (v t s : View (Mark T) (Entry (List B) L)) (w : WorkerView T B L) (h k : History B L) (c : Option (List B)) → worker_view l v ≡ w → t ≡ took v h → s ≡ gave t k → claim_of k (number w) ≡ c → claim (worker_view m s) ≡ c
  claim_after_turn l m v t s w h k c is e f now =
      let P : View (Mark T) (Entry (List B) L) → Type 0 = λ z. claim (worker_view m z) ≡ c in
      let same : s ≡ gave (took v h) k = f ∙ ap (λ z. gave z k) e in
      subst P (sym same) (ap (λ (z : WorkerView T B L). claim_of k (number z)) is ∙ now)

  -- what is legal for the board is legal for the pool
  pub legal_for : (kind : Search B L) (node : T → Fuelled B L) (x y z : T) (a b c : ℕ) (o : Option (Mark T)) (h k : History B L) → o ≡ Some (mark x a) → o ≡ Some (mark y b) → (z ≡ y) × (c ≡ b)
      → k ≡ h → IsLegal (node z) kind c h → IsLegal (node x) kind a k
  legal_for kind node x y z a b c o h k pool board same seen legal =
      let marks : mark z c ≡ mark x a =
      let m : mark y b ≡ mark x a = cc (sym board ∙ pool) in
      let n : mark z c ≡ mark y b = λ i. mark (same.0 i) (same.1 i) in n ∙ m in
      let P : Mark T → Type 0 = λ m. IsLegal (node m.tag) kind m.budget k in
      let Q : History B L → Type 0 = λ z'. IsLegal (node z) kind c z' in
      subst P marks (subst Q (sym seen) legal)

  -- the node is that of the board's tag
  pub node_for : (node : T → Fuelled B L) (x y : T) (a b : ℕ) (o : Option (Mark T)) (p : List B) (k : Report L) → o ≡ Some (mark x a) → o ≡ Some (mark y b) → IsNodeAt (node x) p k → IsNodeAt (node y) p k
  node_for node x y a b o p k pool board is = let P : Mark T → Type 0 = λ m. IsNodeAt (node m.tag) p k in subst P (sym (same_marks x y a b o pool board)) is

  -- the board's tree is the pool's
  pub tree_for : (kind : Search B L) (takes : History B L → Taking B) (node : T → ℕ → Tree B L) (x y : T) (a b : ℕ) (o : Option (Mark T)) (h k : History B L) → o ≡ Some (mark x a) → o ≡ Some (mark y b) → k ≡ h → HoldsTree kind (takes h) (node y b) b h → HoldsTree kind (takes k) (node x a) a k
  tree_for kind takes node x y a b o h k pool board seen holds =
      let P : Mark T → Type 0 = λ m. HoldsTree kind (takes k) (node m.tag m.budget) m.budget k in
      let Q : History B L → Type 0 = λ z. HoldsTree kind (takes z) (node y b) b z in
      subst P (same_marks x y a b o pool board) (subst Q (sym seen) holds)

  -- the cause is one for the board
  pub cause_for : (node : T → ℕ → Tree B L) (x y : T) (a b : ℕ) (o : Option (Mark T)) (c : Option (List B)) (cause : StopCause) → o ≡ Some (mark x a) → o ≡ Some (mark y b) → IsCause (node x a) c cause → IsCause (node y b) c cause
  cause_for node x y a b o c cause pool board is =
      let P : Mark T → Type 0 = λ m. IsCause (node m.tag m.budget) c cause in subst P (sym (same_marks x y a b o pool board)) is

  module _ (w : WorkerView T B L) (h k : History B L) (n : ℕ) (r : Ready w h n) where
    kept : k ≡ h → claim_of k (number w) ≡ claim w
    kept same = ap (λ z. claim_of z (number w)) same ∙ found_claim w h n r

    -- ---- a claim
    claim_answers : {E : Type 0} (kind : Search B L) (a : Result (Claimed (List B)) E) → IfOk a (λ x. AnswersClaim kind h n x k) → OnErr a (k ≡ h) → MatchResult a (λ x. AnswersClaim kind h (number w) x k) (λ _. k ≡ h)
    claim_answers kind (Ok x) ok err = let P : ℕ → Type 0 = λ m. AnswersClaim kind h m x k in subst P r.is ok
    claim_answers kind (Err e) ok err = err

    pub claim_turn : {E : Type 0} (kind : Search B L) (u : WorkerView T B L) (a : Result (Claimed (List B)) E) → u.seen ≡ k → IfOk a (λ x. AnswersClaim kind h n x k) → OnErr a (k ≡ h) → ClaimTurn kind w a u
    claim_turn kind u a seen ok err =
        let P : History B L → Type 0 = λ z. MatchResult a (λ x. AnswersClaim kind h (number w) x z) (λ _. z ≡ h) in (h, r.found, subst P (sym seen) (claim_answers kind a ok err))

    pub claim_now : {E : Type 0} (kind : Search B L) (a : Result (Claimed (List B)) E) → claim w ≡ None → IfOk a (λ x. AnswersClaim kind h n x k) → OnErr a (k ≡ h) → claim_of k (number w) ≡ claimed_path a
    claim_now kind (Ok (claimed.Node p)) free ok err =
        let m = number w in
        ap (λ z. claim_of z m) ok.2 ∙ (claim_of_push h (Claim n p) m ∙ ap (λ b. cond b (Some p) (claim_of h m)) (ap (λ z. m == z) r.is ∙ number_itself m))
    claim_now kind (Ok claimed.Idle) free ok err = kept ok.3 ∙ free
    claim_now kind (Ok claimed.Finished) free ok err = kept ok.3 ∙ free
    claim_now kind (Ok (claimed.Stopped e)) free ok err = kept ok.1 ∙ free
    claim_now kind (Err e) free ok err = kept err ∙ free

    -- ---- a split or a leaf, of which e is the entry under a number
    module _ (budget steps : ℕ) (e : ℕ → Entry (List B) L) where
      settle_answers : {E : Type 0} (a : Result Settled E) → IfOk a (λ x. AnswersSettle budget h n steps (e n) x k) → OnErr a (k ≡ h) → MatchResult a (λ x. AnswersSettle budget h (number w) steps (e (number w)) x k) (λ _. k ≡ h)
      settle_answers (Ok x) ok err = let P : ℕ → Type 0 = λ m. AnswersSettle budget h m steps (e m) x k in subst P r.is ok
      settle_answers (Err x) ok err = err

      pub settle_turn : {E : Type 0} (u : WorkerView T B L) (a : Result Settled E) → u.seen ≡ k → IfOk a (λ x. AnswersSettle budget h n steps (e n) x k) → OnErr a (k ≡ h) → SettleTurn budget steps (e (number w)) w a u
      settle_turn u a seen ok err =
          let P : History B L → Type 0 = λ z. MatchResult a (λ x. AnswersSettle budget h (number w) steps (e (number w)) x z) (λ _. z ≡ h) in (h, r.found, subst P (sym seen) (settle_answers a ok err))

      pub settle_now : {E : Type 0} (a : Result Settled E) → ((m : ℕ) (c : Option (List B)) → claim_after m c (e m) ≡ None) → IfOk a (λ x. AnswersSettle budget h n steps (e n) x k) → OnErr a (k ≡ h) → claim_of k (number w) ≡ claim_left (claim w) a
      settle_now (Ok settled.Done) frees ok err =
          let m = number w in
          ap (λ z. claim_of z m) ok.2 ∙ (claim_of_push h (e n) m ∙ (ap (λ z. claim_after m (claim_of h m) (e z)) r.is ∙ frees m (claim_of h m)))
      settle_now (Ok (settled.Spent t)) frees ok err =
          let m = number w in
          ap (λ z. claim_of z m) ok.3 ∙ (claim_of_push h (Stop (halt n (Total t))) m ∙ found_claim w h n r)
      settle_now (Ok (settled.Stopped x)) frees ok err = kept ok.1
      settle_now (Err x) frees ok err = kept err

    -- ---- a stop
    pub stop_turn : (cause : StopCause) (u : WorkerView T B L) → u.seen ≡ k → k ≡ after_stop h (halt n cause) → StopTurn cause w u
    stop_turn cause u seen now = (h, r.found, seen ∙ (now ∙ ap (λ m. after_stop h (halt m cause)) r.is))

    pub stop_now : (cause : StopCause) → k ≡ after_stop h (halt n cause) → claim_of k (number w) ≡ claim w
    stop_now cause now =
        let m = number w in
        let step : (o : Option Halt) → claim_of (unless_stopped o h (halt n cause)) m ≡ claim_of h m = elim [ None ↦ claim_of_push h (Stop (halt n cause)) m | Some x ↦ refl ] in
        ap (λ z. claim_of z m) now ∙ (step (stop_of h) ∙ found_claim w h n r)
