-- From clap's answer to the command that is read from the left.
use Rattle.std.proofs.Common.{◌≡◌, ◌∙◌, ap, refl, subst, inl, inr, List, [], ◌∷◌, map, Bool, false, Option, Some, None, ◌||◌}
use Rattle.std.specs.List.{list_any}
use Rattle.clap.specs.Words.{HasKind, Text, fault_of, kind_of, subcommand_of}
use Rattle.clap.specs.declared.Error.{Error}
use Rattle.clap.specs.declared.error.ErrorKind.TheVariants.{OutOfMemory}
use Rattle.oz_commands.specs.declared.command.Command.{Command}
use Rattle.oz_commands.specs.Commands.{Given, Verb, Word, command_by}
use Rattle.command_line.specs.Reading.{command_of, is_odd}
use Rattle.command_line.specs.Table.{IsFound, oz_app}
use Rattle.command_line.proofs.WholeLine.{Tells, tells}

pub odd_map : {X : Type 0} (p : Text → Bool) (f : X → Text) (xs : List X) → list_any p (map f xs) ≡ list_any (λ x. p (f x)) xs
odd_map p f [] = refl
odd_map p f (x ∷ xs) = ap (λ b. p (f x) || b) (odd_map p f xs)

-- clap took the words: they spell the command that it found
pub taken : (words : List Word) (r : Option Command) → list_any is_odd words ≡ false → fault_of oz_app words ≡ []
    → ((v : Verb) (given : List Given) → IsFound (subcommand_of oz_app words) v given → r ≡ Some (command_by v given)) → r ≡ command_of words
taken words r odd none reads = go (command_of words) (tells words odd)
  where
    go : (o : Option Command) → Tells words o → r ≡ o
    go None h = absurd (h none)
    go (Some k) (e, (v, given, found, is)) = reads v given found ∙ ap Some is

-- clap refused the words, and not for want of memory: they spell no command
pub refused : (words : List Word) → list_any is_odd words ≡ false → (fault_of oz_app words ≡ [] → ⊥) → None ≡ command_of words
refused words odd some = go (command_of words) (tells words odd)
  where
    go : (o : Option Command) → Tells words o → None ≡ o
    go None h = refl
    go (Some k) h = absurd (some h.0)

pub refused_by : (words : List Word) (e : Error) → list_any is_odd words ≡ false → HasKind (fault_of oz_app words) e → (kind_of e ≡ OutOfMemory → ⊥) → None ≡ command_of words
refused_by words e odd kinds memory = refused words odd (λ none. go (subst (λ ks. HasKind ks e) none kinds))
  where
    go : HasKind [] e → ⊥
    go (inl m) = memory m
    go (inr bad) = bad

pub gives : (words : List Word) → list_any is_odd words ≡ false → fault_of oz_app words ≡ [] → (v : Verb) × (given : List Given) × IsFound (subcommand_of oz_app words) v given
gives words odd none = go (command_of words) (tells words odd)
  where
    go : (o : Option Command) → Tells words o → (v : Verb) × (given : List Given) × IsFound (subcommand_of oz_app words) v given
    go None h = absurd (h none)
    go (Some k) (e, (v, given, found, is)) = (v, given, found)
