-- A step in a space leaves the states of all spaces as they are that are not above it; those above it ran.
use Rattle.std.proofs.Common.{◌≡◌, inl, inr, ℕ, Bool, true, false, not, ◌&&◌, ◌||◌, if◌then◌else◌, List, [], ◌∷◌, ◌++◌, map, flat_map, refl, sym, ap, ap₂, subst, ◌∙◌, append_assoc, Option, Some}
use Rattle.std.specs.List.{list_any, filter_map}
use Rattle.oz_base.specs.Lists.{list_eq, first}
use Rattle.oz_base.specs.declared.names.Ident.{Ident}
use Rattle.oz_language.specs.declared.kernel.Statement.{Statement}
use Rattle.oz_semantics.specs.Names.{is_below, is_properly_below, is_child_of, parent_of}
use Rattle.oz_semantics.specs.Store.{View, same, is_determined}
use Rattle.oz_semantics.specs.Configurations.{is_open, view, ancestor_variables}
use Rattle.oz_semantics.specs.Sights.{States, state_in, Readiness, can_step, waits_of, offer_of}
use Rattle.oz_semantics.specs.Spaces.{readinesses, has_due, layer_goes_on, waited_in, undecided_in, layers_below, subtree_goes_on, is_held, layer_waits, waits_outside, alike_on, is_stable, offer_in, is_left, stable_state, open_state, state_by, states_behind, states_of, thread_ready, goes_on}
use Rattle.oz_semantics.specs.declared.configuration.Thread.{Thread}
use Rattle.oz_semantics.specs.declared.configuration.Status.{Status}
use Rattle.oz_semantics.specs.declared.configuration.Status.TheVariants as status
use Rattle.oz_semantics.specs.declared.configuration.Layer.{Layer}
use Rattle.oz_semantics.specs.declared.outcome.State.{State}
use Rattle.oz_semantics.specs.declared.outcome.State.TheVariants as states
use Rattle.oz_laws.proofs.SameLaws.{In, and-right}
use Rattle.view_laws.specs.Trees.{is_ascending, names_of}
use Rattle.view_laws.proofs.Members.{decide, not_both}
use Rattle.view_laws.proofs.ListLaws.{filter_in}
use Rattle.view_laws.proofs.NameLaws.{below_itself, below_trans, equal_names, properly_by, above_parent}
use Rattle.view_laws.proofs.ReadyLaws.{same_seen}
use Rattle.view_laws.proofs.BehindLaws.{ready_agrees, behind_goes_on}
use Rattle.edit_laws.proofs.ViewLaws.{child_above}
use Rattle.quiet_laws.proofs.MoveLaws.{Moves, ready_still}

-- Names and lists

pub parent_over : (u : List ℕ) → is_below (parent_of u) u ≡ true
parent_over u = elim (decide (list_eq (parent_of u) u)) [
  | inl k ↦ subst (λ v. is_below (parent_of u) v ≡ true) (equal_names (parent_of u) u k) (below_itself (parent_of u))
  | inr k ↦ (above_parent (parent_of u) u k ∙ below_itself (parent_of u))
]

pub child_under : (u c : List ℕ) → is_child_of u c ≡ true → is_below u c ≡ true
child_under u c e = subst (λ s. is_below s c ≡ true) (equal_names (parent_of c) u (and-right _ _ e)) (parent_over c)

-- a test of the members alone
pub any_in : {A : Type 0} (p q : A → Bool) (xs : List A) → ((x : A) → In x xs → p x ≡ q x) → list_any p xs ≡ list_any q xs
any_in p q [] h = refl
any_in p q (x ∷ xs) h = ap₂ (λ (a b : Bool). a || b) (h x (inl refl)) (any_in p q xs (λ y k. h y (inr k)))

-- Lists of states

-- the state of the first space, or that of a later one
pub head_state : (b : Bool) (v : List ℕ) (one other : State) (rest more : States) (c : List ℕ) → list_eq v c ≡ b → other ≡ one → state_in more c ≡ state_in rest c
    → state_in ((v, other) ∷ more) c ≡ state_in ((v, one) ∷ rest) c
head_state true v one other rest more c k e f = rw k (ap Some e)
head_state false v one other rest more c k e f = rw k f

-- one of another name is passed over
pub pass : (v : List ℕ) (one : State) (rest : States) (c : List ℕ) → list_eq v c ≡ false → state_in ((v, one) ∷ rest) c ≡ state_in rest c
pass v one rest c k = rw k refl

-- a space of which something can step runs
pub runs : (statements : List Statement) (layers front ls : List Layer) (l : Layer) → is_ascending (names_of layers) ≡ true → layers ≡ front ++ l ∷ ls → goes_on statements layers l.space ≡ true
    → open_state statements layers (states_behind statements layers ls) l ≡ states.Running
runs statements layers front ls l ordered parts goes =
    ap (λ (b : Bool). if b then states.Running
    else (if is_stable statements layers (states_behind statements layers ls) l.space then stable_state (offer_in statements layers (states_behind statements layers ls) l) (is_left (view layers l.space) l) else states.Suspended))
    (behind_goes_on statements layers front ls l parts ordered ∙ goes)

-- The layers before the step in a space and after it

-- of a space that is not above it the same
pub record Pair (space : List ℕ) (l m : Layer) : Type 0 where
  pub named : m.space ≡ l.space
  pub status : m.status ≡ l.status
  pub kept : is_below l.space space ≡ false → m ≡ l

abbrev pub Pairs : List ℕ → List Layer → List Layer → Type 0
Pairs space [] [] = Unit {0}
Pairs space (l ∷ ls) (m ∷ ms) = Pair space l m × Pairs space ls ms
Pairs space [] (m ∷ ms) = ⊥
Pairs space (l ∷ ls) [] = ⊥

module _ (statements : List Statement) (space : List ℕ) (old new : List Layer) where
  -- all by which the state of a layer's space goes, but for threads and states, stays
  pub record Rests (l : Layer) : Type 0 where
    pub seen : view new l.space ≡ view old l.space
    pub above : view new (parent_of l.space) ≡ view old (parent_of l.space)
    pub held :
        (m : Layer) (states : States) (x : Ident) → In m old → is_below l.space m.space ≡ true → In x (waited_in statements old states m ++ undecided_in (view old m.space) m)
        → list_any (same (view old m.space) x) (ancestor_variables new l.space) ≡ list_any (same (view old m.space) x) (ancestor_variables old l.space)
    pub alike :
        alike_on (ancestor_variables new l.space) (view old l.space) (view old (parent_of l.space))
        ≡ alike_on (ancestor_variables old l.space) (view old l.space) (view old (parent_of l.space))

  abbrev Apart : List ℕ → Type 0
  Apart u = is_below u space ≡ false

  apart_below : (u v : List ℕ) → is_below u v ≡ true → Apart u → Apart v
  apart_below u v e apart = elim (decide (is_below v space)) [ inl k ↦ absurd (not_both _ (below_trans u v space e k) apart) | inr k ↦ k ]

  module _ (pairs : Pairs space old new) (rests : (l : Layer) → In l old → Apart l.space → Rests l) where
    -- the same states of the spaces that are not above
    abbrev Agree : States → States → Type 0
    Agree before after = (c : List ℕ) → Apart c → state_in after c ≡ state_in before c

    below_pairs : (u : List ℕ) → Apart u → (ls ms : List Layer) → Pairs space ls ms → layers_below ms u ≡ layers_below ls u
    below_pairs u apart [] [] p = refl
    below_pairs u apart (l ∷ ls) (m ∷ ms) p = elim (decide (is_below u l.space)) [
      | inl k ↦ (ap₂ (λ (b : Bool) (n : Layer). if b then n ∷ layers_below ms u else layers_below ms u) (ap (is_below u) p.0.named ∙ k) (p.0.kept (apart_below u l.space k apart))
          ∙ ap (λ (ns : List Layer). l ∷ ns) (below_pairs u apart ls ms p.1) ∙ ap (λ (b : Bool). if b then l ∷ layers_below ls u else layers_below ls u) (sym k))
      | inr k ↦ (ap (λ (b : Bool). if b then m ∷ layers_below ms u else layers_below ms u) (ap (is_below u) p.0.named ∙ k)
          ∙ below_pairs u apart ls ms p.1 ∙ ap (λ (b : Bool). if b then l ∷ layers_below ls u else layers_below ls u) (sym k))
    ]
    below_pairs u apart [] (m ∷ ms) p = elim p [ ]
    below_pairs u apart (l ∷ ls) [] p = elim p [ ]

    module _ (before after : States) (agree : Agree before after) where
      ready_same : (m : Layer) → In m old → Apart m.space → readinesses statements new after m ≡ readinesses statements old before m
      ready_same m i apart =
          (same_seen statements old new m.space (rests m i apart).seen).layers after m refl
          ∙ ap (λ (f : Thread → Readiness). if is_open m.status then map f m.threads else [])
          (λ j t. ready_agrees statements old after before m.space (λ c k. agree c (apart_below m.space c (child_under m.space c k) apart)) t j)

      goes_same : (m : Layer) → In m old → Apart m.space → layer_goes_on statements new after m ≡ layer_goes_on statements old before m
      goes_same m i apart = ap₂ (λ (rs : List Readiness) (v : View). list_any can_step rs || has_due v m) (ready_same m i apart) (rests m i apart).seen

      -- of each layer of a space below it
      part_same : (p q : Layer → Bool) (u : List ℕ) → Apart u → ((m : Layer) → In m old → is_below u m.space ≡ true → p m ≡ q m) → list_any p (layers_below new u) ≡ list_any q (layers_below old u)
      part_same p q u apart h =
          ap (list_any p) (below_pairs u apart old new pairs)
          ∙ any_in p q (layers_below old u) (λ m i. let f = filter_in (λ (l : Layer). is_below u l.space) old m i in h m f.0 f.1)

      subtree_same : (u : List ℕ) → Apart u → subtree_goes_on statements new after u ≡ subtree_goes_on statements old before u
      subtree_same u apart = part_same (layer_goes_on statements new after) (layer_goes_on statements old before) u apart (λ m i k. goes_same m i (apart_below u m.space k apart))

      module _ (l : Layer) (there : In l old) (apart : Apart l.space) where
        abbrev u : List ℕ
        u = l.space

        abbrev still : Rests l
        still = rests l there apart

        waits_same : (m : Layer) → In m old → is_below u m.space ≡ true → layer_waits statements new after (ancestor_variables new u) m ≡ layer_waits statements old before (ancestor_variables old u) m
        waits_same m i k =
            let off = apart_below u m.space k apart in
            ap₂ (λ (rs : List Readiness) (v : View). list_any (is_held v (ancestor_variables new u)) (flat_map waits_of rs ++ undecided_in v m)) (ready_same m i off) (rests m i off).seen
            ∙ any_in (is_held (view old m.space) (ancestor_variables new u)) (is_held (view old m.space) (ancestor_variables old u))
            (waited_in statements old before m ++ undecided_in (view old m.space) m)
            (λ x j. ap (λ b. not (is_determined (view old m.space) x) && b) (still.held m before x i k j))

        outside_same : waits_outside statements new after u ≡ waits_outside statements old before u
        outside_same = part_same (layer_waits statements new after (ancestor_variables new u)) (layer_waits statements old before (ancestor_variables old u)) u apart waits_same

        abbrev stable_by : Bool → Bool → Bool → Bool
        stable_by b w a = not b && not w && a

        alike_same : alike_on (ancestor_variables new u) (view new u) (view new (parent_of u)) ≡ alike_on (ancestor_variables old u) (view old u) (view old (parent_of u))
        alike_same = ap₂ (λ (v p : View). alike_on (ancestor_variables new u) v p) still.seen still.above ∙ still.alike

        stable_same : is_stable statements new after u ≡ is_stable statements old before u
        stable_same =
            ap (λ b. stable_by b (waits_outside statements new after u) (alike_on (ancestor_variables new u) (view new u) (view new (parent_of u)))) (subtree_same u apart)
            ∙ ap₂ (λ (w a : Bool). stable_by (subtree_goes_on statements old before u) w a) outside_same alike_same

        abbrev open_by : View → Bool → Bool → List Readiness → State
        open_by v b c rs = if b then states.Running else (if c then stable_state (first (filter_map offer_of rs)) (is_left v l) else states.Suspended)

        open_same : open_state statements new after l ≡ open_state statements old before l
        open_same =
            ap₂ (λ (v : View) (b : Bool). open_by v b (is_stable statements new after u) (readinesses statements new after l)) still.seen (subtree_same u apart)
            ∙ ap₂ (λ (c : Bool) (rs : List Readiness). open_by (view old u) (subtree_goes_on statements old before u) c rs) stable_same (ready_same l there apart)

        state_same : (st : Status) → state_by statements new after l st ≡ state_by statements old before l st
        state_same status.Open = open_same
        state_same status.Failed = refl
        state_same (status.Raised x) = refl
        state_same status.Merged = refl

    not_named : (v c : List ℕ) → is_below v space ≡ true → Apart c → list_eq v c ≡ false
    not_named v c above apart = elim (decide (list_eq v c)) [
      | inl k ↦ absurd (not_both _ (subst (λ s. is_below s space ≡ true) (equal_names v c k) above) apart)
      | inr k ↦ k
    ]

    behind_rest : (ls ms : List Layer) → Pairs space ls ms → ((l : Layer) → In l ls → In l old) → Agree (states_behind statements old ls) (states_behind statements new ms)
    behind_rest [] [] p part c apart = refl
    behind_rest (l ∷ ls) (m ∷ ms) p part c apart = by (is_below l.space space) refl (behind_rest ls ms p.1 (λ k i. part k (inr i)))
      where
        by : (b : Bool) → is_below l.space space ≡ b → Agree (states_behind statements old ls) (states_behind statements new ms)
            → state_in (states_behind statements new (m ∷ ms)) c ≡ state_in (states_behind statements old (l ∷ ls)) c
        by true k rest =
            pass m.space (state_by statements new (states_behind statements new ms) m m.status) (states_behind statements new ms) c (ap (λ v. list_eq v c) p.0.named ∙ not_named l.space c k apart)
            ∙ rest c apart
            ∙ sym (pass l.space (state_by statements old (states_behind statements old ls) l l.status) (states_behind statements old ls) c (not_named l.space c k apart))
        by false k rest =
            ap (λ (n : Layer). state_in ((n.space, state_by statements new (states_behind statements new ms) n n.status) ∷ states_behind statements new ms) c) (p.0.kept k)
            ∙ head_state (list_eq l.space c) l.space _ _ (states_behind statements old ls) (states_behind statements new ms) c refl
            (state_same (states_behind statements old ls) (states_behind statements new ms) rest l (part l (inl refl)) k l.status) (rest c apart)
    behind_rest [] (m ∷ ms) p part c apart = elim p [ ]
    behind_rest (l ∷ ls) [] p part c apart = elim p [ ]

    pub states_rest : (c : List ℕ) → Apart c → state_in (states_of statements new) c ≡ state_in (states_of statements old) c
    states_rest = behind_rest old new pairs (λ l i. i)

    -- The spaces above, of which something could step

    module _ (ordered : is_ascending (names_of old) ≡ true) (goes : (u : List ℕ) → is_below u space ≡ true → goes_on statements old u ≡ true) where
      head_moves : (front ls ms : List Layer) (l m : Layer) → old ≡ front ++ l ∷ ls → is_below l.space space ≡ true → (st : Status)
          → Moves (Some (state_by statements old (states_behind statements old ls) l st)) (Some (state_by statements new (states_behind statements new ms) m st))
      head_moves front ls ms l m parts above status.Open = inr (ap Some (runs statements old front ls l ordered parts (goes l.space above)))
      head_moves front ls ms l m parts above status.Failed = inl refl
      head_moves front ls ms l m parts above (status.Raised x) = inl refl
      head_moves front ls ms l m parts above status.Merged = inl refl

      behind_moves : (front ls ms : List Layer) → Pairs space ls ms → old ≡ front ++ ls → (c : List ℕ) → is_below c space ≡ true
          → Moves (state_in (states_behind statements old ls) c) (state_in (states_behind statements new ms) c)
      behind_moves front [] [] p parts c above = inl refl
      behind_moves front (l ∷ ls) (m ∷ ms) p parts c above =
          by (list_eq l.space c) refl (behind_moves (front ++ l ∷ []) ls ms p.1 (parts ∙ sym (append_assoc front (l ∷ []) ls)) c above)
        where
          by : (b : Bool) → list_eq l.space c ≡ b → Moves (state_in (states_behind statements old ls) c) (state_in (states_behind statements new ms) c)
              → Moves (state_in (states_behind statements old (l ∷ ls)) c) (state_in (states_behind statements new (m ∷ ms)) c)
          by true k rest =
              let first : state_in (states_behind statements old (l ∷ ls)) c ≡ Some (state_by statements old (states_behind statements old ls) l l.status) = rw k refl in
              let later : state_in (states_behind statements new (m ∷ ms)) c ≡ Some (state_by statements new (states_behind statements new ms) m m.status) =
              rw (ap (λ v. list_eq v c) p.0.named ∙ k) refl in
              let above_l : is_below l.space space ≡ true = subst (λ s. is_below s space ≡ true) (sym (equal_names l.space c k)) above in
              subst (λ (o : Option State). Moves o (state_in (states_behind statements new (m ∷ ms)) c)) (sym first)
              (subst (λ (o : Option State). Moves (Some (state_by statements old (states_behind statements old ls) l l.status)) o)
              (ap (λ (st : Status). Some (state_by statements new (states_behind statements new ms) m st)) (sym p.0.status) ∙ sym later) (head_moves front ls ms l m parts above_l l.status))
          by false k rest =
              subst (λ (o : Option State). Moves o (state_in (states_behind statements new (m ∷ ms)) c))
              (sym (pass l.space (state_by statements old (states_behind statements old ls) l l.status) (states_behind statements old ls) c k))
              (subst (λ (o : Option State). Moves (state_in (states_behind statements old ls) c) o)
              (sym (pass m.space (state_by statements new (states_behind statements new ms) m m.status) (states_behind statements new ms) c (ap (λ v. list_eq v c) p.0.named ∙ k))) rest)
      behind_moves front [] (m ∷ ms) p parts c above = elim p [ ]
      behind_moves front (l ∷ ls) [] p parts c above = elim p [ ]

      states_move : (c : List ℕ) → Moves (state_in (states_of statements old) c) (state_in (states_of statements new) c)
      states_move c = elim (decide (is_below c space)) [ inl k ↦ behind_moves [] old new pairs refl c k | inr k ↦ inl (states_rest c k) ]

      -- a thread that could step can step, where its space sees the same
      pub thread_still : (u : List ℕ) → view new u ≡ view old u → (t : Thread) → can_step (thread_ready statements old u t) ≡ true → can_step (thread_ready statements new u t) ≡ true
      thread_still u seen t e =
          ap can_step ((same_seen statements old new u seen).threads (states_of statements new) t)
          ∙ ready_still statements old u (states_of statements old) (states_of statements new) (λ c k. states_move c) t e

    -- and where it has no child above, it can do the same
    pub thread_same : (u : List ℕ) → view new u ≡ view old u → is_properly_below u space ≡ false → (t : Thread) → thread_ready statements new u t ≡ thread_ready statements old u t
    thread_same u seen lower t =
        (same_seen statements old new u seen).threads (states_of statements new) t
        ∙ ready_agrees statements old (states_of statements new) (states_of statements old) u (λ c k. states_rest c (apart c k)) t
      where
        apart : (c : List ℕ) → is_child_of u c ≡ true → Apart c
        apart c k = elim (decide (is_below c space)) [
          | inl above ↦ (let over : is_below u space ≡ true = below_trans u c space (child_under u c k) above in
              absurd (not_both _ (properly_by u space over (λ q. not_both _ (subst (λ s. is_below c s ≡ true) (sym q) above) (child_above u c k))) lower))
          | inr off ↦ off
        ]
