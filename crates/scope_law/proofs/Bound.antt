-- What the grammar and the scope of names say of each phrase, as far as its identifiers go by it.
use Rattle.std.proofs.Common.{◌≡◌, ℕ, zero, List, [], ◌∷◌, ◌++◌, Option, Some, None, Bool, true, false, if◌then◌else◌, refl}
use Rattle.oz_language.specs.declared.fault.Fault.{Fault}
use Rattle.oz_language.specs.Grammar.{Phrase, Phrases, nothing, more, var, rec, keyed, list, paren, binary, bars, hashes, select, access, raise, connected, relate, call, dollar, head, proc, fun, local, thread, choice, when, choose, arm, cases, cases_or, clause, attempt, body, are_parameters, is_named_head, is_value_head, is_side, term}
use Rattle.oz_language.specs.Refusals.{contains, use_faults, unbound, variables_in, with_names, name_in, declaring, parameters_in, faults}
use Rattle.oz_language.specs.Translation.{parameters_of}

abbrev pub NameBound : List ℕ → Option ℕ → Type 0
NameBound names None = ⊥
NameBound names (Some name) = contains names name ≡ true

-- a procedure that is a statement has a name
abbrev pub NameOf : List ℕ → Bool → Phrase → Type 0
NameOf names true h = Unit {0}
NameOf names false h = NameBound names (name_in h)

-- the names that a phrase uses are among these, whether it stands for its value or as a statement
abbrev mutual
  pub Bound : List ℕ → Bool → Phrase → Type 0
  Bound names v (var name at) = contains names name ≡ true
  Bound names v (rec l at fs) = BoundEach names true fs
  Bound names v (keyed c at e) = Bound names true e
  Bound names v (list at es) = BoundEach names true es
  Bound names v (paren at es) = BoundEach names v es
  Bound names v (binary op a b) = Bound names true a × Bound names true b
  Bound names v (bars es) = BoundEach names true es
  Bound names v (hashes es) = BoundEach names true es
  Bound names v (select e f) = Bound names true e × Bound names true f
  Bound names v (access at e) = Bound names true e
  Bound names v (raise at e) = Bound names true e
  Bound names v (connected c a b) = Bound names true a × Bound names true b
  Bound names v (relate r a b) = Bound names true a × Bound names true b × (is_side a ≡ true) × (is_side b ≡ true)
  Bound names v (call at es) = BoundEach names true es
  Bound names v (proc at h b) = NameOf names v h × (are_parameters (parameters_of h) ≡ true) × Bound (with_names (parameters_in h) names) false b
  Bound names v (fun at lazy h b) = NameOf names v h × (are_parameters (parameters_of h) ≡ true) × Bound (with_names (parameters_in h) names) true b
  Bound names v (local at ds b) = BoundEach (declaring ds names) false ds × Bound (declaring ds names) v b
  Bound names v (thread at b) = Bound names v b
  Bound names v (choice at bs) = BoundEach names v bs
  Bound names v (when at xs) = BoundEach names v xs
  Bound names v (choose at xs b) = BoundEach names v xs × Bound names v b
  Bound names v (arm e b) = Bound names true e × Bound names v b
  Bound names v (cases at e cs) = Bound names true e × BoundEach names v cs
  Bound names v (cases_or at e cs b) = Bound names true e × BoundEach names v cs × Bound names v b
  Bound names v (clause p b) = (term true zero p ≡ true) × Bound (with_names (variables_in p) names) v b
  Bound names v (attempt b cs) = Bound names false b × BoundEach names false cs
  Bound names v (body ds ss) = BoundEach (declaring ds names) false ds × BoundLast (declaring ds names) v ss
  Bound names v p = Unit {0}

  pub BoundEach : List ℕ → Bool → Phrases → Type 0
  BoundEach names v nothing = Unit {0}
  BoundEach names v (more p ps) = Bound names v p × BoundEach names v ps

  -- statements, and the last phrase
  pub BoundLast : List ℕ → Bool → Phrases → Type 0
  BoundLast names v nothing = Unit {0}
  BoundLast names v (more p nothing) = Bound names v p
  BoundLast names v (more p ps) = Bound names false p × BoundLast names v ps

pub last_statement : (names : List ℕ) (ps : Phrases) → BoundLast names false ps → BoundEach names false ps
last_statement names nothing h = tt
last_statement names (more p nothing) h = (h, tt)
last_statement names (more p (more q ps)) h = (h.0, last_statement names (more q ps) h.1)

-- ---- no fault in parts

pub none_in : (xs ys : List Fault) → xs ++ ys ≡ [] → (xs ≡ []) × (ys ≡ [])
none_in [] ys h = (refl, h)
none_in (x ∷ xs) ys h = absurd (cc)

pub used : (names : List ℕ) (name at : ℕ) → use_faults names name at ≡ [] → contains names name ≡ true
used names name at h = by (contains names name) h where
  by : (b : Bool) → (if b then [] else unbound at ∷ []) ≡ [] → b ≡ true
  by true h = refl
  by false h = absurd (cc)

pub value_head : (h : Phrase) → is_value_head h ≡ true → are_parameters (parameters_of h) ≡ true
value_head (head at (more dollar hs)) h = h
value_head p h = absurd (cc)

pub named_parameters : (h : Phrase) → is_named_head h ≡ true → are_parameters (parameters_of h) ≡ true
named_parameters (head at (more (var name place) hs)) h = h
named_parameters p h = absurd (cc)

pub named_head : (names : List ℕ) (h : Phrase) → is_named_head h ≡ true → faults names h ≡ [] → NameBound names (name_in h)
named_head names (head at (more (var name place) hs)) h f = used names name place (none_in (use_faults names name place) _ f).0
named_head names p h f = absurd (cc)
