-- clap's whole answer on a list of words is the command that is read from the left.
use Rattle.std.proofs.Common.{◌≡◌, ◌∙◌, ap, ap₂, refl, sym, subst, Bool, true, false, List, [], ◌∷◌, ◌++◌, append_assoc, append-nil, Option, Some, None, is_some, cond, ◌&&◌, ◌||◌, codes}
use Rattle.std.specs.Prelude.{fold, option_and_then, option_map}
use Rattle.std.specs.List.{list_any}
use Rattle.std.specs.Str.{bytes_eq}
use Rattle.clap.specs.Words.{Rule, Shape, Text, fault_of, is_simple, subcommand_of}
use Rattle.clap.specs.Faults.{is_simple_and_free}
use Rattle.clap.specs.Simple.{built, entered, names_of}
use Rattle.clap.specs.Walk.{Walk, Names, idle, nothing_held, subcommand_met, walk, walked, finished, settled}
use Rattle.clap.specs.Faults.{check_fault, defaults_fault, entered_fault, settle_fault, turn_fault, walk_fault}
use Rattle.clap.specs.Kinds.{Kinds, or_else}
use Rattle.clap.specs.declared.error.ErrorKind.TheVariants.{InvalidSubcommand, MissingSubcommand, UnknownArgument}
use Rattle.clap.proofs.FaultLemmas.{stopped_fault}
use Rattle.oz_commands.specs.declared.command.Command.{Command}
use Rattle.oz_commands.specs.Commands.{Given, Verb, Word, all, run, best, kernel, command_by, verb_word}
use Rattle.command_line.specs.Reading.{command_of, is_odd, options_of, verb_of}
use Rattle.command_line.specs.Table.{IsFound, oz_app}
use Rattle.command_line.proofs.WordKinds.{Kind, long, short, plain, classify}
use Rattle.command_line.proofs.Turns.{at_word, holding, stray, unknown_long, unknown_short}
use Rattle.command_line.proofs.Uses.{has_plus}
use Rattle.command_line.proofs.Walking.{Ends, final, first_is, total}
use Rattle.command_line.proofs.ReadingLaws.{options_fit}
use Rattle.command_line.proofs.WholeWalk.{reads_all, both_false, flip_bare}

abbrev top : Shape
top = (built oz_app).top

abbrev names : Names
names = names_of (built oz_app)

pub simple : is_simple oz_app ≡ true
simple = refl

pub simple_and_free : is_simple_and_free oz_app ≡ true
simple_and_free = refl

-- ---- the first word

met_is : (x : Text) → subcommand_met names idle x ≡ option_map verb_word (verb_of x)
met_is x = go (bytes_eq (codes "all") x) (bytes_eq (codes "run") x) (bytes_eq (codes "best") x) (bytes_eq (codes "kernel") x)
  where
    go : (a b c d : Bool) → option_map (λ (s : Text × List Text). s.0)
        (cond (a || false) (Some (codes "all", [])) (cond (b || false) (Some (codes "run", [])) (cond (c || false) (Some (codes "best", []))
        (cond (d || false) (Some (codes "kernel", [])) None))))
        ≡ option_map verb_word (cond a (Some all) (cond b (Some run) (cond c (Some best) (cond d (Some kernel) None))))
    go true b c d = refl
    go false true c d = refl
    go false false true d = refl
    go false false false true = refl
    go false false false false = refl

abbrev start : Walk
start = at_word (holding [] None) idle

and_false : (b : Bool) → (b && false) ≡ false
and_false true = refl
and_false false = refl

-- past the command's name the words are kept for it
stopped_walk : (c : List Rule) (name : Text) (pre ws : List Text) (w : Walk) → fold (walked c names) (record w { stopped = Some (name, pre) }) ws
    ≡ record w { stopped = Some (name, pre ++ ws) }
unfolding walked
stopped_walk c name pre [] w = ap (λ t. record w { stopped = Some (name, t) }) (sym (append-nil pre))
stopped_walk c name pre (x ∷ ws) w = stopped_walk c name (pre ++ x ∷ []) ws w ∙ ap (λ t. record w { stopped = Some (name, t) }) (append_assoc pre (x ∷ []) ws)

module _ (v : Verb) (x : Text) (ws : List Text) (is : verb_of x ≡ Some v) where
  met : subcommand_met names idle x ≡ Some (verb_word v)
  met = met_is x ∙ ap (option_map verb_word) is

  turn_passes : turn_fault top names start x ≡ []
  turn_passes = rw (met, and_false) refl

  next_is : walked top.rules names start x ≡ record start { stopped = Some (verb_word v, []) }
  unfolding walked
  next_is = rw met refl

  walk_is : walk top.rules names nothing_held (x ∷ ws) ≡ record start { stopped = Some (verb_word v, ws) }
  walk_is = ap (λ w. fold (walked top.rules names) w ws) next_is ∙ stopped_walk top.rules (verb_word v) [] ws start

  walk_passes : walk_fault top names start (x ∷ ws) ≡ []
  unfolding walk_fault
  walk_passes = ap (λ k. or_else k (walk_fault top names (walked top.rules names start x) ws)) turn_passes ∙ ap (λ w. walk_fault top names w ws) next_is
      ∙ stopped_fault top names start (verb_word v, []) ws

  entered_is : (v : Verb) → entered (built oz_app) (Some (verb_word v, ws)) ≡ Some (verb_word v, final v start ws)
  entered_is all = refl
  entered_is run = refl
  entered_is best = refl
  entered_is kernel = refl

  below_is : (v : Verb) → entered_fault (built oz_app) (Some (verb_word v, ws)) ≡ total v start ws
  below_is all = refl
  below_is run = refl
  below_is best = refl
  below_is kernel = refl

  abbrev level_by : Walk → Kinds → Kinds
  level_by w k = or_else k (or_else (entered_fault (built oz_app) w.stopped)
      (or_else (settle_fault top.rules top.args_override_self w.held) (or_else (defaults_fault (settled top.rules w.held).rows top.rules)
      (check_fault top (finished top.rules w.held) (is_some (entered (built oz_app) w.stopped))))))

  nothing_more : (k : Kinds) → or_else k [] ≡ k
  nothing_more [] = refl
  nothing_more (y ∷ ys) = refl

  pub fault_is : fault_of oz_app (x ∷ ws) ≡ total v start ws
  unfolding defaults_fault
  fault_is = ap₂ level_by walk_is walk_passes
      ∙ ap₂ (λ e f. or_else f (check_fault top [] (is_some e))) (entered_is v) (below_is v) ∙ nothing_more (total v start ws)

  pub matches_is : subcommand_of oz_app (x ∷ ws) ≡ Some (verb_word v, final v start ws)
  matches_is = ap (λ (w : Walk). entered (built oz_app) w.stopped) walk_is ∙ entered_is v

-- a first word that is no command
turn_same : (x : Text) → verb_of x ≡ None → turn_fault top names start x ≡ turn_fault top [] start x
turn_same x is =
    let met : subcommand_met names idle x ≡ None = met_is x ∙ ap (option_map verb_word) is in
    rw met refl

turn_fails : (x : Text) → bytes_eq x (45 ∷ 45 ∷ []) ≡ false → Kind x → turn_fault top [] start x ≡ [] → ⊥
turn_fails x bare (long name value is o vp nn) e =
    let bad : UnknownArgument ∷ [] ≡ [] = sym (unknown_long top refl x bare [] None idle name value is refl) ∙ e in cc
turn_fails x bare (short f fs y l s c o nn) e =
    let bad : UnknownArgument ∷ [] ≡ [] = sym (unknown_short top refl x bare [] None idle f fs y l s c refl) ∙ e in cc
turn_fails x bare (plain l is o) e =
    let bad : UnknownArgument ∷ InvalidSubcommand ∷ [] ≡ [] = sym (stray top refl x bare [] None l is refl) ∙ e in cc

no_command : (x : Text) (ws : List Text) → bytes_eq x (45 ∷ 45 ∷ []) ≡ false → verb_of x ≡ None → fault_of oz_app (x ∷ ws) ≡ [] → ⊥
unfolding walk_fault
no_command x ws bare is = first_is _ _ (first_is _ _ (subst (λ (k : Kinds). k ≡ [] → ⊥) (sym (turn_same x is)) (turn_fails x bare (classify x bare))))

no_words : fault_of oz_app [] ≡ MissingSubcommand ∷ []
unfolding walk_fault defaults_fault
no_words = refl

-- what is read of the words is what clap answers and holds
abbrev pub Tells : List Word → Option Command → Type 0
Tells words None = fault_of oz_app words ≡ [] → ⊥
Tells words (Some c) = (fault_of oz_app words ≡ []) × ((v : Verb) × (given : List Given) × IsFound (subcommand_of oz_app words) v given × (command_by v given ≡ c))

told : (v : Verb) (x : Text) (ws : List Text) → verb_of x ≡ Some v → (og : Option (List Given)) → options_of v [] None ws ≡ og → Ends (total v start ws) (final v start ws) og
    → Tells (x ∷ ws) (option_map (command_by v) og)
told v x ws is None e h = subst (λ k. k ≡ [] → ⊥) (sym (fault_is v x ws is)) h
told v x ws is (Some given) e h =
    (fault_is v x ws is ∙ h.0, (v, given, (matches_is v x ws is ∙ ap (λ rs. Some (verb_word v, rs)) h.1, options_fit v ws [] None given refl e), refl))

pub tells : (words : List Word) → list_any is_odd words ≡ false → Tells words (command_of words)
tells [] odd = λ e.
    let bad : MissingSubcommand ∷ [] ≡ [] = sym no_words ∙ e in cc
tells (x ∷ ws) odd = go (verb_of x) refl
  where
    parts : (is_odd x ≡ false) × (list_any is_odd ws ≡ false)
    parts = both_false (is_odd x) (list_any is_odd ws) odd

    go : (o : Option Verb) → verb_of x ≡ o → Tells (x ∷ ws) (option_and_then (λ verb. option_map (command_by verb) (options_of verb [] None ws)) o)
    go None is = no_command x ws (flip_bare x (both_false (bytes_eq x (codes "--")) (has_plus x) parts.0).0) is
    go (Some v) is = told v x ws is (options_of v [] None ws) refl (reads_all v ws parts.1)
