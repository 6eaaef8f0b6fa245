-- Each command as clap builds it, and what its rules make of one value.
use Rattle.std.proofs.Common.{◌≡◌, ◌∙◌, ap, refl, sym, ℕ, Bool, true, false, true≢false, List, [], ◌∷◌, Option, Some, None, codes, cond, ◌||◌}
use Rattle.std.proofs.lemmas.Slice.Eq.{bytes_eq-Decides}
use Rattle.std.specs.Str.{bytes_eq}
use Rattle.std.specs.Prelude.{if◌then◌else◌}
use Rattle.clap.specs.Words.{Row, Rule, Shape, Text}
use Rattle.clap.specs.Walk.{arg_by_id, arg_by_index, arg_by_long, arg_by_short, takes_values}
use Rattle.clap.specs.Simple.{built_leaf, filled, inherited}
use Rattle.clap.specs.Faults.{repeat_fault, use_fault, values_fault}
use Rattle.clap.specs.Kinds.{or_else}
use Rattle.clap.specs.declared.error.ErrorKind.TheVariants.{InvalidValue}
use Rattle.oz_commands.specs.Commands.{OptionName, Verb, all, run, best, kernel, workers, budget, takes}
use Rattle.command_line.specs.Table.{all_app, best_app, id_of, kernel_app, option_rule, oz_start, run_app}

abbrev pub rule_for : OptionName → Rule
rule_for name = filled (option_rule name)

abbrev pub given_shape : Verb → Shape
given_shape all = all_app.top
given_shape run = run_app.top
given_shape best = best_app.top
given_shape kernel = kernel_app.top

abbrev pub leaf : Verb → Shape
leaf v = built_leaf (inherited oz_start.top (given_shape v))

abbrev pub rules_for : Verb → List Rule
rules_for v = (leaf v).rules

pub find_id : (v : Verb) (n : OptionName) → takes v n ≡ true → arg_by_id (rules_for v) (id_of n) ≡ Some (rule_for n)
find_id all workers e = refl
find_id all budget e = refl
find_id run budget e = refl
find_id run workers e = absurd (true≢false (sym e))
find_id best workers e = refl
find_id best budget e = refl
find_id kernel n e = absurd (true≢false (sym e))

-- the option of this long name
abbrev pub long_name : Text → Option OptionName
long_name name = if bytes_eq (codes "workers") name then Some workers
    else (if bytes_eq (codes "budget") name then Some budget else None)

abbrev pub taken : Verb → Option OptionName → Option Rule
taken v None = None
taken v (Some n) = if takes v n then Some (rule_for n) else None

look : Verb → Bool → Bool → Option Rule
look all a b = cond (a || false) (Some (rule_for workers)) (cond (b || false) (Some (rule_for budget)) None)
look run a b = cond (b || false) (Some (rule_for budget)) None
look best a b = cond (a || false) (Some (rule_for workers)) (cond (b || false) (Some (rule_for budget)) None)
look kernel a b = None

look_is : (v : Verb) (name : Text) → arg_by_long (rules_for v) name ≡ look v (bytes_eq (codes "workers") name) (bytes_eq (codes "budget") name)
unfolding look
look_is all name = refl
look_is run name = refl
look_is best name = refl
look_is kernel name = refl

-- a name is not that of both options
not_both : (name : Text) → bytes_eq (codes "workers") name ≡ true → bytes_eq (codes "budget") name ≡ false
not_both name e = ap (bytes_eq (codes "budget")) (sym ((bytes_eq-Decides (codes "workers") name).0 e))

look_taken : (v : Verb) (a b : Bool) → (a ≡ true → b ≡ false) → look v a b ≡ taken v (cond a (Some workers) (cond b (Some budget) None))
unfolding look
look_taken all true b h = refl
look_taken all false true h = refl
look_taken all false false h = refl
look_taken run true true h = absurd (true≢false (h refl))
look_taken run true false h = refl
look_taken run false true h = refl
look_taken run false false h = refl
look_taken best true b h = refl
look_taken best false true h = refl
look_taken best false false h = refl
look_taken kernel true b h = refl
look_taken kernel false true h = refl
look_taken kernel false false h = refl

pub find_long : (v : Verb) (name : Text) → arg_by_long (rules_for v) name ≡ taken v (long_name name)
find_long v name = look_is v name ∙ look_taken v _ _ (not_both name)

pub find_first : (v : Verb) → arg_by_index (rules_for v) 1 ≡ None
find_first all = refl
find_first run = refl
find_first best = refl
find_first kernel = refl

pub find_short : (v : Verb) (x : ℕ) → arg_by_short (rules_for v) x ≡ None
find_short all x = refl
find_short run x = refl
find_short best x = refl
find_short kernel x = refl

pub takes_one : (n : OptionName) → takes_values (rule_for n) ≡ true
takes_one workers = refl
takes_one budget = refl

-- no value
pub none_used : (n : OptionName) (rows : List Row) → use_fault false (rule_for n) [] rows ≡ InvalidValue ∷ []
none_used workers rows = refl
none_used budget rows = refl

pub one_used : (n : OptionName) (t : Text) (rows : List Row) → use_fault false (rule_for n) (t ∷ []) rows
    ≡ or_else (repeat_fault false (id_of n) rows) (values_fault (rule_for n) (t ∷ []))
one_used workers t rows = refl
one_used budget t rows = refl
