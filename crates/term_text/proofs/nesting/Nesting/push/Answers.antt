use Rattle.std.proofs.Common.{◌≡◌, List, ℕ, None, nat_eq, position, sym, subst}
use Rattle.term_text.proofs.Reversed.{pushed}
use Rattle.term_text.proofs.nesting.Nesting.push.Goals as goal

pub returns : goal.returns
returns c =
    rw (← c.self.view_is) (pushed c.args.place c.self.inside.places.keys c.insert.new.self.keys c.self.invariant
    (subst (λ (xs : List ℕ). position (nat_eq c.args.place) xs ≡ None) (sym c.self.view_is) c.requires) c.in_ok-insert.ensures.keys)
