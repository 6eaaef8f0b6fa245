-- Facts on truth values and levels, and the two sorts of bodies, for the proof that what is spelled is read.
use Rattle.std.proofs.Common.{◌≡◌, ℕ, zero, suc, nat_le, List, ◌∷◌, Option, Some, Bool, true, false, ◌&&◌, ◌||◌, refl, ap, ◌∙◌, arith}
use Rattle.std.proofs.lemmas.Bool.Decides.{nat_tests}
use Rattle.oz_language.specs.Grammar.{Phrase, Phrases, more, is_body, is_value_body, bodies, value_bodies, arms, value_arms, clauses, value_clauses, stmts, stmts_value, decls, body, arm, clause, term}
use Rattle.oz_language.specs.declared.token.Token.{Token}
use Rattle.reader_law.proofs.Basics.{And, split, both, or_true}
use Rattle.reader_law.specs.Machine.{Stack, may_state, is_alive, step, run}

-- ---- truth values

pub never : (a : Bool) → a && false ≡ true → ⊥
never true h = absurd (cc)
never false h = absurd (cc)

-- ---- levels

pub le_through : (a b c : ℕ) → nat_le a b ≡ true → nat_le b c ≡ true → nat_le a c ≡ true
le_through a b c h i = grind (arith, nat_tests, h, i)

pub le_self : (a : ℕ) → nat_le a a ≡ true
le_self a = grind (arith, nat_tests)

pub le_next : (a : ℕ) → nat_le a (suc a) ≡ true
le_next a = grind (arith, nat_tests)

pub zero_least : (a : ℕ) → nat_le zero a ≡ true
zero_least a = grind (arith, nat_tests)

-- what is above a level is not at most the level
pub above : (a n : ℕ) → nat_le (suc a) n ≡ true → nat_le n a ≡ false
above a n h = grind (arith, nat_tests, h)

-- ---- runs

pub steps : (t : Token) (ts : List Token) (k : Stack) (j : Option Stack) → step t k ≡ j → run (Some k) (t ∷ ts) ≡ run j ts
steps t ts k j h = ap (λ q. run q ts) h

-- ---- bodies of statements, and bodies with a value

-- of two flags the one that is asked for: whether something is a statement, or whether it is a value
abbrev pub chosen : Bool → Bool → Bool → Bool
chosen true s e = e
chosen false s e = s

abbrev pub sort_body : Bool → Phrase → Bool
sort_body true b = is_value_body b
sort_body false b = is_body b

abbrev pub sort_stmts : Bool → Phrases → Bool
sort_stmts true ss = stmts_value ss
sort_stmts false ss = stmts ss

abbrev pub sort_bodies : Bool → Phrases → Bool
sort_bodies true bs = value_bodies bs
sort_bodies false bs = bodies bs

abbrev pub sort_arms : Bool → Phrases → Bool
sort_arms true xs = value_arms xs
sort_arms false xs = arms xs

abbrev pub sort_clauses : Bool → Phrases → Bool
sort_clauses true cs = value_clauses cs
sort_clauses false cs = clauses cs

pub body_parts : (v : Bool) (ds ss : Phrases) → sort_body v (body ds ss) ≡ true → And (decls ds) (sort_stmts v ss)
body_parts true ds ss h = split (decls ds) (stmts_value ss) h
body_parts false ds ss h = split (decls ds) (stmts ss) h

pub bodies_parts : (v : Bool) (b : Phrase) (bs : Phrases) → sort_bodies v (more b bs) ≡ true → And (sort_body v b) (sort_bodies v bs)
bodies_parts true b bs h = split (is_value_body b) (value_bodies bs) h
bodies_parts false b bs h = split (is_body b) (bodies bs) h

-- an arm or a clause, and those behind it
pub record Parts (t b r : Bool) : Type 0 where
  pub test : t ≡ true
  pub inner : b ≡ true
  pub others : r ≡ true

parts : (t b r : Bool) → (t && b) && r ≡ true → Parts t b r
parts true true r h = record { test = refl; inner = refl; others = h }
parts true false r h = absurd (cc)
parts false b r h = absurd (cc)

pub arm_parts : (v : Bool) (e b : Phrase) (xs : Phrases) → sort_arms v (more (arm e b) xs) ≡ true → Parts (term false 0 e) (sort_body v b) (sort_arms v xs)
arm_parts true e b xs h = parts (term false 0 e) (is_value_body b) (value_arms xs) h
arm_parts false e b xs h = parts (term false 0 e) (is_body b) (arms xs) h

pub clause_parts : (v : Bool) (p b : Phrase) (cs : Phrases) → sort_clauses v (more (clause p b) cs) ≡ true → Parts (term true 0 p) (sort_body v b) (sort_clauses v cs)
clause_parts true p b cs h = parts (term true 0 p) (is_value_body b) (value_clauses cs) h
clause_parts false p b cs h = parts (term true 0 p) (is_body b) (clauses cs) h

pub chosen_both : (v a b c d : Bool) → chosen v a b ≡ true → chosen v c d ≡ true → chosen v (a && c) (b && d) ≡ true
chosen_both true a b c d h i = both b d h i
chosen_both false a b c d h i = both a c h i

-- what is of the sort that may stand here is alive
pub alive : (v s e : Bool) (k : Stack) → v || may_state k ≡ true → chosen v s e ≡ true → is_alive s e k ≡ true
alive true s e k m h = ap (λ q. (may_state k && s) || q) h ∙ or_true (may_state k && s)
alive false s e k m h = ap (λ q. (q && s) || e) m ∙ ap (λ q. q || e) h
