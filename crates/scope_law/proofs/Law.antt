-- The kernel of an accepted program is closed.
use Rattle.std.proofs.Common.{◌≡◌, inl, inr, ℕ, List, [], ◌∷◌, true, map, refl, sym, subst}
use Rattle.std.specs.List.{Contains}
use Rattle.oz_language.specs.declared.kernel.Identifier.TheVariants.{Word}
use Rattle.oz_language.specs.Wording.{access_word, assign_word, by_need_word}
use Rattle.oz_language.specs.Refusals.{contains, first_scope}
use Rattle.oz_language.specs.Translation.{statement}
use Rattle.scope_law.specs.Closed.{ClosedLaw}
use Rattle.scope_law.proofs.Basics.{here, there, first_name}
use Rattle.scope_law.proofs.Names.{Knows}
use Rattle.scope_law.proofs.Derived.{program_bound}
use Rattle.scope_law.proofs.Phrases.{closed}

word_among : (xs : List ℕ) (w : ℕ) → contains xs w ≡ true → Contains (map Word xs) (Word w)
word_among [] w h = absurd (cc)
word_among (x ∷ xs) w h = elim (first_name x w xs h) [
  | inl e ↦ subst (λ y. Contains (map Word (x ∷ xs)) (Word y)) (sym e) (here (Word x) (map Word xs))
  | inr k ↦ there (Word x) (Word w) (map Word xs) (word_among xs w k)
]

-- the names that every text has are in scope from the first
first_known : Knows first_scope (map Word first_scope)
first_known = record {
  word = λ w h. word_among first_scope w h;
  access = word_among first_scope access_word refl;
  assign = word_among first_scope assign_word refl;
  by_need = word_among first_scope by_need_word refl;
}

pub closed_law : ClosedLaw
closed_law text p a = closed p.words statement 1 p.phrase first_scope (map Word first_scope) first_known tt (program_bound first_scope p.phrase a.derived.program a.in_scope)
