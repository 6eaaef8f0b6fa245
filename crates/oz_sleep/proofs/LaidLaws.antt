-- Who sleeps, and is found.
use Rattle.std.proofs.Common.{◌≡◌, ◌⊎◌, inl, inr, ℕ, Bool, true, false, not, ◌&&◌, if◌then◌else◌, List, [], ◌∷◌, ◌++◌, ◌+◌, ◌≤◌, length, take, map, filter, refl, sym, ap, ap₂, subst, ◌∙◌, Contains, Option, Some, None, unwrap_or, slice_get, Result, Ok, Err}
use Rattle.std.specs.List.{list_any, list_all}
use Rattle.std.specs.Result.{OnOk, OnErr}
use Rattle.std.proofs.lemmas.Bool.{false≢true}
use Rattle.std.proofs.lemmas.List.{take_all, map-append, append_assoc}
use Rattle.std.proofs.lemmas.List.Elements.{filter-append}
use Rattle.oz_base.specs.Lists.{first, list_eq}
use Rattle.oz_base.specs.declared.names.Ident.{Ident}
use Rattle.oz_language.specs.declared.kernel.Statement.{Statement}
use Rattle.oz_semantics.specs.Names.{named}
use Rattle.oz_semantics.specs.Store.{View, Same, itself, joined, same, is_determined}
use Rattle.oz_semantics.specs.Configurations.{is_open, layer_at, layer_of, thread_at, frames_in, new_layer, stack_of, view}
use Rattle.oz_semantics.specs.Sights.{Sight, Readiness, can_step}
use Rattle.oz_semantics.specs.Statements.{stack_answer, code_answer}
use Rattle.oz_semantics.specs.Readiness.{answer_ready}
use Rattle.oz_semantics.specs.Spaces.{sight}
use Rattle.oz_semantics.specs.Settling.{is_among, queue_after, runnable}
use Rattle.oz_semantics.specs.declared.configuration.Frame.{Frame}
use Rattle.oz_semantics.specs.declared.configuration.Thread.{Thread}
use Rattle.oz_semantics.specs.declared.configuration.Layer.{Layer}
use Rattle.oz_laws.proofs.SameLaws.{In, In-from_contains, contains-from_In, and-left, and-right, tests_same}
use Rattle.view_laws.specs.Readies.{SameClasses}
use Rattle.view_laws.proofs.Members.{decide, not_both, each, some_of, by_some, In-left, In-right, In-cases}
use Rattle.view_laws.proofs.ListLaws.{among_in, in_among, in_filter, in_map}
use Rattle.view_laws.proofs.NameLaws.{names_equal, equal_names}
use Rattle.view_laws.proofs.ViewLaws.{determined_same}
use Rattle.view_laws.specs.Queues.{IsExact}
use Rattle.view_laws.proofs.QueueLaws.{queue_exact}
use Rattle.quiet_laws.proofs.AwakeLaws.{able_runs}
use Rattle.space_core.specs.Levels.{OfLayer}
use Rattle.sleep_laws.proofs.RestLaws.{rests_all}
use Rattle.suspension.specs.Sleeping.{AreKeys, IsFound}
use Rattle.suspension.specs.declared.sleepers.Sleepers.{Sleepers}
use Rattle.sleep_laws.specs.Asleep.{waits_only, rests_for, IsAsleep, thread_of, AreAtRest}
use Rattle.sleep_laws.specs.Woken.{top_able, is_asked_still, rest_asked}
use Rattle.sleep_laws.proofs.AsleepLaws.{rests_by}
use Rattle.oz_sleep.specs.Laid.{Lays, RestsIn, RestsOr, LaysMore, PutsDown}
use Rattle.oz_sleep.specs.declared.sleeping.Sleeping.{Sleeping}

-- Classes

pub class_of : (view : View) (xs ys : List Ident) → SameClasses view xs ys → (y : Ident) → Contains ys y → (x : Ident) × Contains xs x × Same view y x
class_of view xs ys alike y c =
    let here : list_any (same view y) ys ≡ true = by_some (same view y) ys y c ((tests_same view y y).1 itself) in
    let there = some_of (same view y) xs (alike y ∙ here) in
    (there.0, there.1, (tests_same view y there.0).0 there.2)

pub found_class : (view : View) (sleepers : Sleepers) (n : ℕ) (xs ys : List Ident) → SameClasses view xs ys → IsFound view sleepers n xs → IsFound view sleepers n ys
found_class view sleepers n xs ys alike found y c =
    let x = class_of view xs ys alike y c in
    let k = found x.0 x.1 in
    (k.0, joined x.2 k.1, k.2)

pub free_class : (view : View) (xs ys : List Ident) → SameClasses view xs ys → ((x : Ident) → Contains xs x → is_determined view x ≡ false) → (y : Ident) → Contains ys y → is_determined view y ≡ false
free_class view xs ys alike free y c = let x = class_of view xs ys alike y c in determined_same view y x.0 x.2 ∙ free x.0 x.1

-- More sleeps

pub more_itself : (layers : List Layer) (s : Sleeping) → LaysMore layers s s
more_itself layers s known = record { known = known; space = refl; keys = λ k. k; found = λ n xs k. k }

pub more_same : (layers : List Layer) (s t : Sleeping) → t ≡ s → LaysMore layers s t
more_same layers s t e = subst (LaysMore layers s) (sym e) (more_itself layers s)

pub more_none : (layers : List Layer) (s t : Sleeping) → t.known ≡ false → LaysMore layers s t
more_none layers s t e known = absurd (not_both t.known known e)

pub rests_none : (statements : List Statement) (layers : List Layer) (s : Sleeping) (id : Ident) → s.known ≡ false → RestsIn statements layers s id
rests_none statements layers s id e known own = absurd (not_both s.known known e)

pub more_then : (layers : List Layer) (s t u : Sleeping) → LaysMore layers s t → LaysMore layers t u → LaysMore layers s u
more_then layers s t u one other known =
    let b = other known in
    let a = one b.known in
    record {
      known = a.known;
      space = b.space ∙ a.space;
      keys = λ k. subst (λ v. AreKeys v u.sleepers) (ap (view layers) a.space) (b.keys (subst (λ v. AreKeys v t.sleepers) (sym (ap (view layers) a.space)) (a.keys k)));
      found = λ n xs k. subst (λ v. IsFound v u.sleepers n xs) (ap (view layers) a.space) (b.found n xs (subst (λ v. IsFound v t.sleepers n xs) (sym (ap (view layers) a.space)) (a.found n xs k)));
    }

pub rests_then : (statements : List Statement) (layers : List Layer) (s t : Sleeping) (id : Ident) → LaysMore layers s t → RestsIn statements layers s id → RestsIn statements layers t id
rests_then statements layers s t id more rests known own =
    let m = more known in
    let r = rests m.known (own ∙ m.space) in (
      r.0,
      subst (λ (sp : List ℕ). IsAsleep statements sp (view layers sp) (thread_of layers id) r.0) (sym m.space) r.1,
      subst (λ (sp : List ℕ). IsFound (view layers sp) t.sleepers id.number r.0) (sym m.space) (m.found id.number r.0 r.2),
    )

pub or_then : (statements : List Statement) (layers : List Layer) (s t : Sleeping) (id : Ident) → LaysMore layers s t → RestsOr statements layers s id → RestsOr statements layers t id
or_then statements layers s t id more (inl e) = inl e
or_then statements layers s t id more (inr r) = inr (rests_then statements layers s t id more r)

pub or_from : (statements : List Statement) (layers : List Layer) (s : Sleeping) (id : Ident) → (top_able statements layers id ≡ false → RestsIn statements layers s id) → RestsOr statements layers s id
or_from statements layers s id h = elim (decide (top_able statements layers id)) [ inl e ↦ inl e | inr e ↦ inr (h e) ]

-- what sleeps after is all but these, where each of those before is one of these or sleeps
pub lays_then : (statements : List Statement) (layers : List Layer) (s t : Sleeping) (ids others : List Ident) → LaysMore layers s t
    → ((id : Ident) → Contains ids id → Contains others id ⊎ RestsIn statements layers t id) → Lays statements layers s ids → Lays statements layers t others
lays_then statements layers s t ids others more each lays known =
    let m = more known in
    let l = lays m.known in
    record {
      keys = subst (λ (sp : List ℕ). AreKeys (view layers sp) t.sleepers) (sym m.space) (m.keys l.keys);
      rest = subst (λ (sp : List ℕ). AreAtRest statements layers sp (IsFound (view layers sp) t.sleepers) others) (sym m.space)
          (λ u c. elim (l.rest u c) [
            | inl k ↦ elim (each (named s.space u.number) k) [
              | inl h ↦ inl h
              | inr h ↦ (let r = h known (sym m.space) in inr (
                r.0,
                subst (λ (sp : List ℕ). IsAsleep statements sp (view layers sp) (thread_of layers (named s.space u.number)) r.0) m.space r.1,
                subst (λ (sp : List ℕ). IsFound (view layers sp) t.sleepers u.number r.0) m.space r.2,
              ))
            ]
            | inr k ↦ inr (k.0, k.1, m.found u.number k.0 k.2)
          ]);
    }

-- One that is put down

module _ (layers : List Layer) (statements : List Statement) (id : Ident) (old new : Sleeping) (own : old.space ≡ id.space) (was : old.known ≡ true) (ready : Readiness)
    (puts : PutsDown (view layers id.space) id.number ready old new) where
  same_view : view layers old.space ≡ view layers id.space
  same_view = ap (view layers) own

  pub put_more : LaysMore layers old new
  put_more known = record {
    known = was;
    space = puts.space;
    keys = λ k. subst (λ v. AreKeys v new.sleepers) (sym same_view) (puts.falls.keys (subst (λ v. AreKeys v old.sleepers) same_view k));
    found = λ n xs k. subst (λ v. IsFound v new.sleepers n xs) (sym same_view) (puts.falls.kept n xs (subst (λ v. IsFound v old.sleepers n xs) same_view k));
  }

  pub put_rests : ready ≡ answer_ready (stack_answer (sight statements layers id.space) (stack_of layers id)) → RestsIn statements layers new id
  put_rests e known place =
      let seen : view layers id.space ≡ view layers new.space = ap (view layers) place in (
        puts.variables,
        subst (λ (sp : List ℕ). IsAsleep statements sp (view layers sp) (thread_of layers id) puts.variables) place (record {
          waits = rests_by (stack_answer (sight statements layers id.space) (stack_of layers id)) ∙ ap waits_only (sym e) ∙ puts.waits;
          free = free_class (view layers id.space) puts.names puts.variables puts.same puts.free;
        }),
        subst (λ v. IsFound v new.sleepers id.number puts.variables) seen (found_class (view layers id.space) new.sleepers id.number puts.names puts.variables puts.same puts.falls.found),
      )

-- one without statements waits for nothing
pub empty_rests : (statements : List Statement) (layers : List Layer) (s : Sleeping) (id : Ident) → stack_of layers id ≡ [] → RestsIn statements layers s id
empty_rests statements layers s id e known place = (
  [],
  record {
    waits = ap (λ (fs : List Frame). rests_for (stack_answer (sight statements layers s.space) fs)) e;
    free = λ x c. elim (In-from_contains [] x c) [ ];
  },
  λ x c. elim (In-from_contains [] x c) [ ],
)

pub empty_stack : (frames : List Frame) → None ≡ first frames → frames ≡ []
empty_stack [] e = refl
empty_stack (frame ∷ frames) e = absurd (cc)

pub nowhere_stack : (layers : List Layer) (id : Ident) → layer_at layers id.space ≡ None → stack_of layers id ≡ []
nowhere_stack layers id e = ap (λ (o : Option Layer). frames_in (thread_at (unwrap_or o (new_layer id.space)).threads id.number)) e

pub empty_able : (statements : List Statement) (layers : List Layer) (id : Ident) → stack_of layers id ≡ [] → false ≡ top_able statements layers id
empty_able statements layers id e = sym (ap (λ (fs : List Frame). can_step (answer_ready (stack_answer (sight statements layers id.space) fs))) e)

pub top_answers : (s : Sight) (frames : List Frame) (frame : Frame) → Some frame ≡ first frames → stack_answer s frames ≡ code_answer s frame.environment frame.code
top_answers s [] frame e = absurd (cc)
top_answers s (other ∷ frames) frame e = let same : other ≡ frame = cc in subst (λ (f : Frame). code_answer s other.environment other.code ≡ code_answer s f.environment f.code) same refl

-- one of another space need not sleep
pub other_rests : (statements : List Statement) (layers : List Layer) (s : Sleeping) (id : Ident) → (s.known && list_eq s.space id.space) ≡ false → RestsIn statements layers s id
other_rests statements layers s id e known own =
    absurd (not_both (s.known && list_eq s.space id.space) (ap₂ (λ (a b : Bool). a && b) known (subst (λ (sp : List ℕ). list_eq sp id.space ≡ true) own (names_equal id.space))) e)

pub attends_own : (s : Sleeping) (id : Ident) → (s.known && list_eq s.space id.space) ≡ true → (s.known ≡ true) × (s.space ≡ id.space)
attends_own s id e = (and-left s.known (list_eq s.space id.space) e, equal_names s.space id.space (and-right s.known (list_eq s.space id.space) e))

-- Variables that are not determined

not_true : (b : Bool) → not b ≡ true → b ≡ false
not_true true e = absurd (false≢true e)
not_true false e = refl

pub all_free : (view : View) (xs : List Ident) → list_all (λ (x : Ident). not (is_determined view x)) xs ≡ true → (x : Ident) → Contains xs x → is_determined view x ≡ false
all_free view xs e x c = not_true (is_determined view x) (each (λ (y : Ident). not (is_determined view y)) xs e x c)

-- What a thread can do that has this on top of its stack

pub ready_is : (statements : List Statement) (layers : List Layer) (id : Ident) (seen : View) (frame : Frame) → seen ≡ view layers id.space → Some frame ≡ first (stack_of layers id)
    → answer_ready (code_answer (record { statements = statements; space = id.space; view = seen }) frame.environment frame.code) ≡ answer_ready (stack_answer (sight statements layers id.space) (stack_of layers id))
ready_is statements layers id seen frame e top =
    ap (λ (v : View). answer_ready (code_answer (record { statements = statements; space = id.space; view = v }) frame.environment frame.code)) e
    ∙ sym (ap answer_ready (top_answers (sight statements layers id.space) (stack_of layers id) frame top))

module _ (statements : List Statement) (layers : List Layer) (id : Ident) (old new : Sleeping) (seen : View) (ready : Readiness) (e : seen ≡ view layers id.space)
    (attends : (old.known && list_eq old.space id.space) ≡ true) (lay : old.known ≡ true → new.known ≡ true → PutsDown seen id.number ready old new) where
  pub lay_more : LaysMore layers old new
  lay_more known =
      let own = attends_own old id attends in
      put_more layers statements id old new own.1 own.0 ready (subst (λ (v : View). PutsDown v id.number ready old new) e (lay own.0 known)) known

  pub lay_rests : ready ≡ answer_ready (stack_answer (sight statements layers id.space) (stack_of layers id)) → RestsIn statements layers new id
  lay_rests is known place =
      let own = attends_own old id attends in
      put_rests layers statements id old new own.1 own.0 ready (subst (λ (v : View). PutsDown v id.number ready old new) e (lay own.0 known)) is known place

-- One more was asked

pub taken_more : {A : Type 0} (xs : List A) (i : ℕ) (x y : A) → take (i + 1) xs ≡ take i xs ++ x ∷ [] → Contains (take (i + 1) xs) y → Contains (take i xs) y ⊎ (y ≡ x)
taken_more xs i x y e c = elim (In-cases y (take i xs) (x ∷ []) (In-from_contains (take i xs ++ x ∷ []) y (subst (λ zs. Contains zs y) e c))) [
  | inl k ↦ inl (contains-from_In (take i xs) y k)
  | inr k ↦ elim k [ inl q ↦ inr (sym q) | inr q ↦ elim q [ ] ]
]

pub taken_all : {A : Type 0} (xs : List A) (i : ℕ) (y : A) → length xs ≤ i → Contains xs y → Contains (take i xs) y
taken_all xs i y e c = subst (λ zs. Contains zs y) (sym (take_all i xs e)) c

-- All threads of a space were asked

pub on_ok : {A E P Q : Type 0} (r : Result A E) → (P → Q) → OnOk r P → OnOk r Q
on_ok (Ok a) f h = f h
on_ok (Err e) f h = h

pub learn_lays : (statements : List Statement) (layers : List Layer) (mid new : Sleeping) (place : ℕ) (ids : List Ident) → slice_get layers place ≡ Some (layer_of layers mid.space)
    → LaysMore layers mid new → ((v : View) → AreKeys v mid.sleepers) → OfLayer layers place (λ l. (t : Thread) → Contains l.threads t → RestsOr statements layers new (named mid.space t.number))
    → ((id : Ident) → id.space ≡ mid.space → top_able statements layers id ≡ true → Contains ids id) → Lays statements layers new ids
learn_lays statements layers mid new place ids at more keys rests able =
    lays_then statements layers mid new (ids ++ map (λ (t : Thread). named mid.space t.number) (layer_of layers mid.space).threads) ids more each (λ known. record {
      keys = keys (view layers mid.space);
      rest = rests_all statements layers mid.space (IsFound (view layers mid.space) mid.sleepers) ids;
    })
  where
    each : (id : Ident) → Contains (ids ++ map (λ (t : Thread). named mid.space t.number) (layer_of layers mid.space).threads) id → Contains ids id ⊎ RestsIn statements layers new id
    each id c = elim (In-cases id ids (map (λ (t : Thread). named mid.space t.number) (layer_of layers mid.space).threads) (In-from_contains (ids ++ map (λ (t : Thread). named mid.space t.number) (layer_of layers mid.space).threads) id c)) [
      | inl k ↦ inl (contains-from_In ids id k)
      | inr k ↦ (let t = in_map (λ (u : Thread). named mid.space u.number) (layer_of layers mid.space).threads id k in
          elim (subst (RestsOr statements layers new) t.2 (rests (layer_of layers mid.space) at t.0 (contains-from_In (layer_of layers mid.space).threads t.0 t.1))) [
            | inl e ↦ inl (able id (sym (ap (λ (o : Ident). o.space) t.2)) e)
            | inr r ↦ inr r
          ])
    ]

-- what can step is among those of which it is told exactly who can
pub able_exact : (statements : List Statement) (layers : List Layer) (ids : List Ident) (id : Ident) (l : Layer) → IsExact statements layers ids → layer_at layers id.space ≡ Some l → is_open l.status ≡ true
    → top_able statements layers id ≡ true → Contains ids id
able_exact statements layers ids id l exact at opened able =
    contains-from_In ids id (among_in ids id (exact id ∙ in_among (runnable statements layers) id (able_runs statements layers id l at opened able)))

-- of the numbers so far those that pass, and the next
pub filter_more : (p : Ident → Bool) (space : List ℕ) (ns : List ℕ) (i n : ℕ) (front all : List Ident) → take (i + 1) ns ≡ take i ns ++ n ∷ [] → all ≡ front ++ filter p (map (named space) (take i ns))
    → all ++ (if p (named space n) then named space n ∷ [] else []) ≡ front ++ filter p (map (named space) (take (i + 1) ns))
filter_more p space ns i n front all e k =
    ap (λ (xs : List Ident). xs ++ (if p (named space n) then named space n ∷ [] else [])) k
    ∙ append_assoc front (filter p (map (named space) (take i ns))) (if p (named space n) then named space n ∷ [] else [])
    ∙ ap (λ (xs : List Ident). front ++ xs) (sym (ap (λ (ms : List ℕ). filter p (map (named space) ms)) e ∙ ap (filter p) (map-append (named space) (take i ns) (n ∷ [])) ∙ filter-append p (map (named space) (take i ns)) (named space n ∷ [])))

-- The next of the queue is asked

pub filter_stays : (p : Ident → Bool) (all able queue rest : List Ident) (id : Ident) → queue ≡ id ∷ rest → true ≡ p id → all ≡ able ++ filter p queue → all ≡ (able ++ id ∷ []) ++ filter p rest
filter_stays p all able queue rest id e k h =
    h ∙ ap (λ (os : List Ident). able ++ filter p os) e ∙ ap (λ (b : Bool). able ++ (if b then id ∷ filter p rest else filter p rest)) (sym k) ∙ sym (append_assoc able (id ∷ []) (filter p rest))

pub filter_leaves : (p : Ident → Bool) (all able queue rest : List Ident) (id : Ident) → queue ≡ id ∷ rest → false ≡ p id → all ≡ able ++ filter p queue → all ≡ able ++ filter p rest
filter_leaves p all able queue rest id e k h =
    h ∙ ap (λ (os : List Ident). able ++ filter p os) e ∙ ap (λ (b : Bool). able ++ (if b then id ∷ filter p rest else filter p rest)) (sym k)

pub passed : (P : Ident → Type 0) (queue rest : List Ident) (id : Ident) → queue ≡ id ∷ rest → P id → (o : Ident) → Contains queue o → Contains rest o ⊎ P o
passed P queue rest id e p o c = elim (In-from_contains (id ∷ rest) o (subst (λ (os : List Ident). Contains os o) e c)) [
  | inl q ↦ inr (subst P q p)
  | inr i ↦ inl (contains-from_In rest o i)
]

pub asked_then : (statements : List Statement) (layers : List Layer) (s t : Sleeping) (p : Ident → Bool) (queue rest : List Ident) (id o : Ident) → LaysMore layers s t → queue ≡ id ∷ rest
    → (p id ≡ true) ⊎ RestsIn statements layers t id → Contains queue o ⊎ (p o ≡ true) ⊎ RestsIn statements layers s o → Contains rest o ⊎ (p o ≡ true) ⊎ RestsIn statements layers t o
asked_then statements layers s t p queue rest id o more e now (inl c) = passed (λ (x : Ident). (p x ≡ true) ⊎ RestsIn statements layers t x) queue rest id e now o c
asked_then statements layers s t p queue rest id o more e now (inr (inl k)) = inr (inl k)
asked_then statements layers s t p queue rest id o more e now (inr (inr r)) = inr (inr (rests_then statements layers s t o more r))

-- All who were asked after a tell

pub on_err : {A E P : Type 0} (r : Result A E) → P → OnErr r P
on_err (Ok a) h = tt
on_err (Err e) h = h

pub lays_on : (statements : List Statement) (layers : List Layer) (s t : Sleeping) (ids : List Ident) → LaysMore layers s t → Lays statements layers s ids → Lays statements layers t ids
lays_on statements layers s t ids more lays = lays_then statements layers s t ids ids more (λ id c. inl c) lays

module _ (statements : List Statement) (layers : List Layer) (old new : Sleeping) (mover : Ident) (numbers : List ℕ) (queue after : List Ident)
    (asked : (o : Ident) → Contains queue o → (is_asked_still statements layers mover.space o ≡ true) ⊎ RestsIn statements layers new o) (moves : RestsOr statements layers new mover)
    (wakes : (n : ℕ) → Contains numbers n → RestsOr statements layers new (named mover.space n))
    (is : after ≡ queue_after (rest_asked statements layers mover queue ++ filter (top_able statements layers) (map (named mover.space) numbers)) (Some mover) queue) where
  abbrev names : List Ident
  names = map (named mover.space) numbers

  abbrev all : List Ident
  all = rest_asked statements layers mover queue ++ filter (top_able statements layers) names

  in_after : (o : Ident) → In o all → Contains after o
  in_after o i =
      contains-from_In after o (among_in after o (ap (λ (q : List Ident). is_among q o) is ∙ queue_exact all (Some mover) queue o ∙ in_among all o i))

  in_rest : (o : Ident) → In o (rest_asked statements layers mover queue) → Contains after o
  in_rest o i = in_after o (In-left o (rest_asked statements layers mover queue) (filter (top_able statements layers) names) i)

  each_asked : (o : Ident) → Contains (queue ++ mover ∷ names) o → Contains after o ⊎ RestsIn statements layers new o
  each_asked o c = elim (In-cases o queue (mover ∷ names) (In-from_contains (queue ++ mover ∷ names) o c)) [
    | inl k ↦ elim (asked o (contains-from_In queue o k)) [
      | inl e ↦ inl (in_rest o (In-left o (filter (is_asked_still statements layers mover.space) queue) (if top_able statements layers mover then mover ∷ [] else []) (in_filter (is_asked_still statements layers mover.space) queue o k e)))
      | inr r ↦ inr r
    ]
    | inr k ↦ elim k [
      | inl q ↦ elim moves [
        | inl e ↦ inl (in_rest o (In-right o (filter (is_asked_still statements layers mover.space) queue) (if top_able statements layers mover then mover ∷ [] else [])
            (subst (λ (b : Bool). In o (if b then mover ∷ [] else [])) (sym e) (inl q))))
        | inr r ↦ inr (subst (RestsIn statements layers new) q r)
      ]
      | inr i ↦ (let n = in_map (named mover.space) numbers o i in
          elim (subst (RestsOr statements layers new) n.2 (wakes n.0 (contains-from_In numbers n.0 n.1))) [
            | inl e ↦ inl (in_after o (In-right o (rest_asked statements layers mover queue) (filter (top_able statements layers) names) (in_filter (top_able statements layers) names o i e)))
            | inr r ↦ inr r
          ])
    ]
  ]

  pub told_lays : LaysMore layers old new → Lays statements layers old (queue ++ mover ∷ map (named mover.space) numbers) → Lays statements layers new after
  told_lays more lays = lays_then statements layers old new (queue ++ mover ∷ names) after more each_asked lays
