-- The names that a text has in scope, in the scope of its kernel.
use Rattle.std.proofs.Common.{◌≡◌, inl, inr, ℕ, suc, List, [], ◌∷◌, ◌++◌, Option, Some, None, Bool, true, false, refl, subst, sym}
use Rattle.std.specs.List.{Contains}
use Rattle.std.proofs.lemmas.List.Elements.{Contains-append_left, Contains-append_right}
use Rattle.oz_language.specs.declared.kernel.Identifier.{Identifier}
use Rattle.oz_language.specs.declared.kernel.Identifier.TheVariants.{Word, Fresh}
use Rattle.oz_language.specs.Grammar.{Phrases, nothing, more, var, any, are_parameters}
use Rattle.oz_language.specs.Refusals as refusals
use Rattle.oz_language.specs.Refusals.{contains, variables_in_each, with_names, with_name, declared_by}
use Rattle.oz_language.specs.Wording.{access_word, assign_word, by_need_word}
use Rattle.oz_language.specs.Translation.{Made, parameter_names, once, declared, declaring}
use Rattle.scope_law.specs.Closed.{ClosedAll}
use Rattle.scope_law.proofs.Basics.{firsts, here, there, first_name, append_name}
use Rattle.scope_law.proofs.Scopes.{Within, within_self, within_more}

-- each name, and what the translation calls by itself
pub record Knows (names : List ℕ) (S : List Identifier) : Type 0 where
  pub word : (w : ℕ) → contains names w ≡ true → Contains S (Word w)
  pub access : Contains S (Word access_word)
  pub assign : Contains S (Word assign_word)
  pub by_need : Contains S (Word by_need_word)

pub known_within : {names : List ℕ} {S T : List Identifier} → Within S T → Knows names S → Knows names T
known_within w k = record {
  word = λ x h. w.kept (Word x) (k.word x h);
  access = w.kept (Word access_word) k.access;
  assign = w.kept (Word assign_word) k.assign;
  by_need = w.kept (Word by_need_word) k.by_need;
}

-- more names, each of them among more identifiers
pub known_more : (xs : List (ℕ × ℕ)) (names : List ℕ) (ys S : List Identifier) → ((w : ℕ) → contains (firsts xs) w ≡ true → Contains ys (Word w)) → Knows names S → Knows (with_names xs names) (ys ++ S)
known_more xs names ys S f k = let more = within_more ys S in record {
  word = λ w h. elim (append_name (firsts xs) names w h) [
    | inl l ↦ Contains-append_left ys S (Word w) (f w l)
    | inr r ↦ Contains-append_right ys S (Word w) (k.word w r)
  ];
  access = more.kept (Word access_word) k.access;
  assign = more.kept (Word assign_word) k.assign;
  by_need = more.kept (Word by_need_word) k.by_need;
}

-- ---- parameters

pub parameter_in : (n : ℕ) (ps : Phrases) (w : ℕ) → are_parameters ps ≡ true → contains (firsts (variables_in_each ps)) w ≡ true → Contains (parameter_names n ps) (Word w)
parameter_in n nothing w h k = absurd (cc)
parameter_in n (more (var name at) ps) w h k = elim (first_name name w (firsts (variables_in_each ps)) k) [
  | inl e ↦ subst (λ x. Contains (parameter_names n (more (var name at) ps)) (Word x)) (sym e) (here (Word name) (parameter_names n ps))
  | inr l ↦ there (Word name) (Word w) (parameter_names n ps) (parameter_in n ps w h l)
]
parameter_in n (more (any at) ps) w h k = there (Fresh n) (Word w) (parameter_names (suc n) ps) (parameter_in (suc n) ps w h k)
parameter_in n (more p ps) w h k = absurd (cc)

-- ---- declarations

-- a name was seen before, is declared, or was in scope
data Found (seen : List ℕ) (xs : List Identifier) (names : List ℕ) (w : ℕ) : Type 0 where
  before : contains seen w ≡ true → Found seen xs names w
  declared_now : Contains xs (Word w) → Found seen xs names w
  around : contains names w ≡ true → Found seen xs names w

-- one more that is declared
found_behind : (name : ℕ) (seen : List ℕ) (xs : List Identifier) (names : List ℕ) (w : ℕ) → Found (name ∷ seen) xs names w → Found seen (Word name ∷ xs) names w
found_behind name seen xs names w (before h) = elim (first_name name w seen h) [
  | inl e ↦ declared_now (subst (λ x. Contains (Word name ∷ xs) (Word x)) (sym e) (here (Word name) xs))
  | inr k ↦ before k
]
found_behind name seen xs names w (declared_now h) = declared_now (there (Word name) (Word w) xs h)
found_behind name seen xs names w (around h) = around h

found_once : (name : ℕ) (seen : List ℕ) (rest : List ℕ → List Identifier) (names : List ℕ) (w : ℕ) (b : Bool) → contains seen name ≡ b → ((more : List ℕ) → Found more (rest more) names w) → Found seen (once seen (Some name) rest) names w
found_once name seen rest names w true e f = rw e (f seen)
found_once name seen rest names w false e f = rw e (found_behind name seen (rest (name ∷ seen)) names w (f (name ∷ seen)))

-- the name itself
found_itself : (name : ℕ) (seen : List ℕ) (rest : List ℕ → List Identifier) (names : List ℕ) (b : Bool) → contains seen name ≡ b → Found seen (once seen (Some name) rest) names name
found_itself name seen rest names true e = before e
found_itself name seen rest names false e = rw e (declared_now (here (Word name) (rest (name ∷ seen))))

found_with : (v : Option ℕ) (seen : List ℕ) (rest : List ℕ → List Identifier) (names scope : List ℕ) (w : ℕ) → ((more : List ℕ) → contains scope w ≡ true → Found more (rest more) names w) → contains (with_name v scope) w ≡ true
    → Found seen (once seen v rest) names w
found_with None seen rest names scope w f h = f seen h
found_with (Some name) seen rest names scope w f h = elim (first_name name w scope h) [
  | inl e ↦ subst (λ x. Found seen (once seen (Some name) rest) names x) (sym e) (found_itself name seen rest names (contains seen name) refl)
  | inr k ↦ found_once name seen rest names w (contains seen name) refl (λ more. f more k)
]

found : (ds : Phrases) (seen names : List ℕ) (w : ℕ) → contains (refusals.declaring ds names) w ≡ true → Found seen (declared seen ds) names w
found nothing seen names w h = around h
found (more d ds) seen names w h = found_with (declared_by d) seen (λ more. declared more ds) names (refusals.declaring ds names) w (λ more k. found ds more names w k) h

word_declared : (xs S : List Identifier) (names : List ℕ) (w : ℕ) → Knows names S → Found [] xs names w → Contains (xs ++ S) (Word w)
word_declared xs S names w k (before h) = absurd (cc)
word_declared xs S names w k (declared_now h) = Contains-append_left xs S (Word w) h
word_declared xs S names w k (around h) = Contains-append_right xs S (Word w) (k.word w h)

known_declared : (ds : Phrases) (names : List ℕ) (S : List Identifier) → Knows names S → Knows (refusals.declaring ds names) (declared [] ds ++ S)
known_declared ds names S k = let more = within_more (declared [] ds) S in record {
  word = λ w h. word_declared (declared [] ds) S names w k (found ds [] names w h);
  access = more.kept (Word access_word) k.access;
  assign = more.kept (Word assign_word) k.assign;
  by_need = more.kept (Word by_need_word) k.by_need;
}

-- statements in the scope of what is declared
pub declaring_closed : (ds : Phrases) (names : List ℕ) (S : List Identifier) (a : Made) → Knows names S → ((T : List Identifier) → Within S T → Knows (refusals.declaring ds names) T → ClosedAll T a.code) → ClosedAll S (declaring ds a).code
declaring_closed nothing names S a k f = f S (within_self S) k
declaring_closed (more d ds) names S a k f = (f (declared [] (more d ds) ++ S) (within_more (declared [] (more d ds)) S) (known_declared (more d ds) names S k), tt)
