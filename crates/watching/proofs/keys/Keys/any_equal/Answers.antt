use Rattle.std.proofs.Common.{◌≤◌, List, Contains, length, arith, subst, sym}
use Rattle.std.proofs.lemmas.List.{take_all}
use Rattle.oz_base.specs.declared.names.Ident.{Ident}
use Rattle.watching.proofs.KeyLaws.{alone_all}
use Rattle.watching.proofs.keys.Keys.any_equal.Goals as goal

pub returns : goal.returns
returns c =
    let all : length c.args.self.now.variables ≤ c.keys.place = omega (arith, c.keys-test.false, c.len-place-end.ensures) in
    λ e listed. alone_all c.args.store.now c.args.root.now c.args.self.now
    (λ k m. c.keys.invariant k (subst (λ (xs : List Ident). Contains xs k) (sym (take_all c.keys.place c.args.self.now.variables all)) m)) listed
