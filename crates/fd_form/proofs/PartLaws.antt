-- Phrases whose parts stand in a list of so many.
use Rattle.std.proofs.Common.{◌≡◌, ℕ, List, refl}
use Rattle.oz_language.specs.Grammar.{Phrase, Phrases, nothing, more, hashes, call}
use Rattle.fd_form.specs.Parts.{bounds_of}
use Rattle.fd_form.specs.FdScripts.{items_of, distribution_of}
use Rattle.fd_form.specs.Steps.{two_of, bounds_by, distinct_by, distribution_by}

pub bounds_two : (ps : Phrases) → bounds_of (hashes ps) ≡ bounds_by (two_of ps)
bounds_two nothing = refl
bounds_two (more p nothing) = refl
bounds_two (more p (more q nothing)) = refl
bounds_two (more p (more q (more r ps))) = refl

pub items_two : (root : ℕ) (vs : List ℕ) (at : ℕ) (ps : Phrases) → items_of root vs (call at ps) ≡ distinct_by root vs (two_of ps)
items_two root vs at nothing = refl
items_two root vs at (more p nothing) = refl
items_two root vs at (more p (more q nothing)) = refl
items_two root vs at (more p (more q (more r ps))) = refl

pub distribution_two : (root : ℕ) (vs : List ℕ) (at : ℕ) (f : Phrase) (ps : Phrases) →
    distribution_of root vs (call at (more f ps)) ≡ distribution_by root vs f (two_of ps)
distribution_two root vs at f nothing = refl
distribution_two root vs at f (more p nothing) = refl
distribution_two root vs at f (more p (more q nothing)) = refl
distribution_two root vs at f (more p (more q (more r ps))) = refl
