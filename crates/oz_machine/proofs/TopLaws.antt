-- What the top sees where it is not there, and what is below it.
use Rattle.std.proofs.Common.{◌≡◌, ◌+◌, ℕ, true, false, cond, not, nat_eq, length, List, [], ◌∷◌, ◌++◌, Some, None, refl, ap, arith}
use Rattle.std.specs.Prelude.{if◌then◌else◌}
use Rattle.std.specs.List.{list_any}
use Rattle.std.proofs.lemmas.Bool.{false≢true}
use Rattle.std.proofs.lemmas.Bool.Decides.{nat_tests}
use Rattle.oz_base.specs.Lists.{is_empty, list_eq}
use Rattle.oz_base.specs.declared.names.Ident.{Ident}
use Rattle.oz_semantics.specs.Names.{is_below}
use Rattle.oz_semantics.specs.Configurations.{layer_at, view}
use Rattle.oz_semantics.specs.declared.configuration.Layer.{Layer}

-- nothing
pub no_top : (layers : List Layer) → layer_at layers [] ≡ None → view layers [] ≡ []
no_top [] e = refl
no_top (l ∷ ls) e = by l.space e (no_top ls)
  where
    by : (space : List ℕ) → cond (list_eq space []) (Some l) (layer_at ls []) ≡ None → (layer_at ls [] ≡ None → view ls [] ≡ []) → (if is_below space [] then l.tells else []) ++ view ls [] ≡ []
    by [] f rest = absurd (cc)
    by (n ∷ ns) f rest = rest f

-- all threads of a queue are of the top or below it
pub any_below_top : (space : List ℕ) (queue : List Ident) → is_empty space ≡ true → not (nat_eq (length queue) 0) ≡ list_any (λ (id : Ident). is_below space id.space) queue
any_below_top [] [] e = refl
any_below_top [] (id ∷ ids) e = let some : nat_eq (length (id ∷ ids)) 0 ≡ false = grind (arith, nat_tests) in ap not some
any_below_top (n ∷ space) queue e = absurd (false≢true e)
