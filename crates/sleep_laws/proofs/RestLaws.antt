-- Who sleeps after a step.
use Rattle.std.proofs.Common.{◌≡◌, ◌⊎◌, inl, inr, ℕ, List, [], ◌∷◌, ◌++◌, map, refl, sym, ap, subst, ◌∙◌, Contains}
use Rattle.std.proofs.lemmas.Bool.{false≢true}
use Rattle.oz_base.specs.declared.names.Ident.{Ident}
use Rattle.oz_language.specs.declared.kernel.Statement.{Statement}
use Rattle.oz_semantics.specs.Names.{named}
use Rattle.oz_semantics.specs.Configurations.{layer_of, frames_in, stack_of, view}
use Rattle.oz_semantics.specs.Spaces.{states_of}
use Rattle.oz_semantics.specs.declared.value.Tell.{Tell}
use Rattle.oz_semantics.specs.declared.configuration.Frame.{Frame}
use Rattle.oz_semantics.specs.declared.configuration.Thread.{Thread}
use Rattle.oz_semantics.specs.declared.configuration.Layer.{Layer}
use Rattle.oz_laws.specs.Touched.{Touches}
use Rattle.oz_laws.proofs.SameLaws.{In-from_contains, contains-from_In}
use Rattle.view_laws.specs.Readies.{SameClasses}
use Rattle.view_laws.specs.Steps.{IsNumbered}
use Rattle.view_laws.proofs.Members.{In-left, In-right}
use Rattle.view_laws.proofs.ListLaws.{map_in}
use Rattle.view_laws.proofs.NumberLaws.{first_numbered}
use Rattle.sleep_laws.specs.Asleep.{IsAsleep, SleepsOn, LeavesTold, LeavesThreads, thread_of, AreAtRest, AreForewarned}
use Rattle.sleep_laws.specs.Woken.{WakesThese}
use Rattle.sleep_laws.proofs.AsleepLaws.{asleep_rests, stays_asleep}

-- Lists of threads

abbrev pub AreAmong : List Ident → List Ident → Type 0
AreAmong ids others = (o : Ident) → Contains ids o → Contains others o

pub rests_among : (statements : List Statement) (layers : List Layer) (space : List ℕ) (found : ℕ → List Ident → Type 0) (ids others : List Ident) → AreAmong ids others
    → AreAtRest statements layers space found ids → AreAtRest statements layers space found others
rests_among statements layers space found ids others among rests t c = elim (rests t c) [ inl k ↦ inl (among (named space t.number) k) | inr k ↦ inr k ]

pub rests_found : (statements : List Statement) (layers : List Layer) (space : List ℕ) (one other : ℕ → List Ident → Type 0) (ids : List Ident) → ((n : ℕ) (xs : List Ident) → one n xs → other n xs)
    → AreAtRest statements layers space one ids → AreAtRest statements layers space other ids
rests_found statements layers space one other ids finds rests t c = elim (rests t c) [ inl k ↦ inl k | inr k ↦ inr (k.0, k.1, finds t.number k.0 k.2) ]

-- one that can't step is found from now on
pub rests_one : (statements : List Statement) (layers : List Layer) (space : List ℕ) (one other : ℕ → List Ident → Type 0) (id : Ident) (ids xs : List Ident) → id.space ≡ space
    → ((n : ℕ) (ys : List Ident) → one n ys → other n ys) → IsAsleep statements space (view layers space) (thread_of layers id) xs → other id.number xs
    → AreAtRest statements layers space one (id ∷ ids) → AreAtRest statements layers space other ids
rests_one statements layers space one other id ids xs own finds asleep found rests t c = elim (rests t c) [
  | inl k ↦ elim (In-from_contains (id ∷ ids) (named space t.number) k) [
    | inl e ↦ inr (
      xs,
      subst (λ (o : Ident). IsAsleep statements space (view layers space) (thread_of layers o) xs) e asleep,
      subst (λ (n : ℕ). other n xs) (ap (λ (o : Ident). o.number) e) found,
    )
    | inr i ↦ inl (contains-from_In ids (named space t.number) i)
  ]
  | inr k ↦ inr (k.0, k.1, finds t.number k.0 k.2)
]

-- one of another space is none of them
pub rests_other : (statements : List Statement) (layers : List Layer) (space : List ℕ) (found : ℕ → List Ident → Type 0) (id : Ident) (ids : List Ident) → (id.space ≡ space → ⊥)
    → AreAtRest statements layers space found (id ∷ ids) → AreAtRest statements layers space found ids
rests_other statements layers space found id ids apart rests t c = elim (rests t c) [
  | inl k ↦ elim (In-from_contains (id ∷ ids) (named space t.number) k) [
    | inl e ↦ absurd (apart (ap (λ (o : Ident). o.space) e))
    | inr i ↦ inl (contains-from_In ids (named space t.number) i)
  ]
  | inr k ↦ inr k
]

-- all are among the names of all
pub rests_all : (statements : List Statement) (layers : List Layer) (space : List ℕ) (found : ℕ → List Ident → Type 0) (ids : List Ident)
    → AreAtRest statements layers space found (ids ++ map (λ (t : Thread). named space t.number) (layer_of layers space).threads)
rests_all statements layers space found ids t c =
    let names : List Ident = map (λ (u : Thread). named space u.number) (layer_of layers space).threads in
    inl (contains-from_In (ids ++ names) (named space t.number) (In-right (named space t.number) ids names (map_in (λ (u : Thread). named space u.number) (layer_of layers space).threads t (In-from_contains (layer_of layers space).threads t c))))

-- The stack of a thread that is there

pub own_stack : (layers : List Layer) (space : List ℕ) (t : Thread) → IsNumbered (layer_of layers space) → Contains (layer_of layers space).threads t → stack_of layers (named space t.number) ≡ t.frames
own_stack layers space t numbered c = ap frames_in (first_numbered (layer_of layers space).threads t numbered.rising (In-from_contains (layer_of layers space).threads t c))

-- A step that tells nothing

-- with any list of tells that are seen
module _ (statements : List Statement) (id : Ident) (news : List Thread) (before after : List Layer) (found : ℕ → List Ident → Type 0) (ids others : List Ident)
    (numbered : IsNumbered (layer_of before id.space)) (ordered : IsNumbered (layer_of after id.space)) (mover : Contains others id) (new : (t : Thread) → Contains news t → Contains others (named id.space t.number))
    (among : AreAmong ids others) where
  same_stack : (t : Thread) → Contains (layer_of before id.space).threads t → Contains (layer_of after id.space).threads t → stack_of before (named id.space t.number) ≡ stack_of after (named id.space t.number)
  same_stack t b c = own_stack before id.space t numbered b ∙ sym (own_stack after id.space t ordered c)

  same_thread : (t : Thread) → Contains (layer_of before id.space).threads t → Contains (layer_of after id.space).threads t → thread_of before (named id.space t.number) ≡ thread_of after (named id.space t.number)
  same_thread t b c = ap (λ (fs : List Frame). record { number = t.number; frames = fs }) (same_stack t b c)

  pub quiet_rests : LeavesThreads id news before after → AreAtRest statements before id.space found ids → AreAtRest statements after id.space found others
  quiet_rests leaves rests t c = elim (leaves.threads t c) [
    | inl e ↦ inl (subst (λ (n : ℕ). Contains others (named id.space n)) (sym e) mover)
    | inr r ↦ elim r [
      | inl n ↦ inl (new t n)
      | inr b ↦ elim (rests t b) [
        | inl k ↦ inl (among (named id.space t.number) k)
        | inr k ↦ inr (
          k.0,
          subst (λ (u : Thread). IsAsleep statements id.space (view after id.space) u k.0) (same_thread t b c)
              (subst (λ (v : List Tell). IsAsleep statements id.space v (thread_of before (named id.space t.number)) k.0) (sym leaves.seen) k.1),
          k.2,
        )
      ]
    ]
  ]

-- A step that tells something

module _ (statements : List Statement) (id : Ident) (ts : List Tell) (before after : List Layer) (one : ℕ → List Ident → Type 0) (touched : List Ident) (numbers : List ℕ) (ids : List Ident)
    (numbered : IsNumbered (layer_of before id.space)) (ordered : IsNumbered (layer_of after id.space)) (leaves : LeavesTold id ts [] before after) (touches : Touches (view before id.space) ts touched)
    (forewarned : AreForewarned statements before id.space one touched numbers (id ∷ ids)) where
  abbrev here : Thread → Ident
  here t = named id.space t.number

  -- one that neither steps nor may wake sleeps on
  goes_on : (t : Thread) → Contains (layer_of after id.space).threads t
      → Contains (id ∷ ids) (here t) ⊎ Contains numbers t.number ⊎ ((xs : List Ident) × SleepsOn statements id.space (view after id.space) (thread_of after (here t)) xs × one t.number xs)
  goes_on t c = elim (leaves.threads t c) [
    | inl e ↦ inl (subst (λ (n : ℕ). Contains (id ∷ ids) (named id.space n)) (sym e) (contains-from_In (id ∷ ids) id (inl refl)))
    | inr r ↦ elim r [
      | inl n ↦ elim (In-from_contains [] t n) [ ]
      | inr b ↦ elim (forewarned t b) [
        | inl k ↦ inl k
        | inr k ↦ elim k [
          | inl m ↦ inr (inl m)
          | inr m ↦ inr (inr (
            m.0,
            subst (λ (fs : List Frame). SleepsOn statements id.space (view after id.space) (record { number = t.number; frames = fs }) m.0)
                (own_stack before id.space t numbered b ∙ sym (own_stack after id.space t ordered c))
                (stays_asleep statements id.space (view before id.space) ts (view after id.space) touched m.0 (thread_of before (here t)) leaves.seen leaves.consistent touches m.1 m.3),
            m.2,
          ))
        ]
      ]
    ]
  ]

  abbrev all : List Ident
  all = ids ++ id ∷ map (named id.space) numbers

  pub told_rests : (other : ℕ → List Ident → Type 0) → ((n : ℕ) (xs ys : List Ident) → one n xs → SameClasses (view after id.space) xs ys → other n ys)
      → AreAtRest statements after id.space other (ids ++ id ∷ map (named id.space) numbers)
  told_rests other finds t c = elim (goes_on t c) [
    | inl k ↦ inl (contains-from_In all (here t) (elim (In-from_contains (id ∷ ids) (here t) k) [
      | inl e ↦ In-right (here t) ids (id ∷ map (named id.space) numbers) (inl e)
      | inr i ↦ In-left (here t) ids (id ∷ map (named id.space) numbers) i
    ]))
    | inr k ↦ elim k [
      | inl m ↦ inl (contains-from_In all (here t) (In-right (here t) ids (id ∷ map (named id.space) numbers) (inr (map_in (named id.space) numbers t.number (In-from_contains numbers t.number m)))))
      | inr m ↦ inr (m.1.variables, m.1.asleep, finds t.number m.0 m.1.variables m.2 m.1.same)
    ]
  ]

  -- so no other can step
  pub told_wakes_these : WakesThese statements after id ids numbers
  told_wakes_these t c e = elim (goes_on t c) [
    | inl k ↦ inl k
    | inr k ↦ elim k [
      | inl m ↦ inr m
      | inr m ↦ (let asleep : IsAsleep statements id.space (view after id.space) t m.1.variables =
          subst (λ (fs : List Frame). IsAsleep statements id.space (view after id.space) (record { number = t.number; frames = fs }) m.1.variables) (own_stack after id.space t ordered c) m.1.asleep in
          absurd (false≢true (sym (asleep_rests statements after (states_of statements after) id.space t m.1.variables asleep) ∙ e)))
    ]
  ]
