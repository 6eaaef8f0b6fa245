-- What one word does to clap's walk over the words of a command that has no subcommand and takes options alone.
use Rattle.std.proofs.Common.{◌≡◌, ◌∙◌, ap, ap₂, refl, inl, inr, ℕ, true, false, List, [], ◌∷◌, Option, Some, None}
use Rattle.std.specs.Prelude.{slice_get}
use Rattle.std.specs.Str.{bytes_eq, chars}
use Rattle.clap.specs.Lexer.{long_of, short_of}
use Rattle.clap.specs.Words.{Row, Rule, Shape, Text}
use Rattle.clap.specs.Walk.{Held, Waiting, idle, option, positional, Walk, arg_by_id, arg_by_index, arg_by_long, arg_by_short, takes_values, reacted, settled, subcommand_met, walked, plain_word, word_met, bundle_met, Step, after_step, option_word}
use Rattle.clap.specs.Faults.{settle_fault, use_fault, turn_fault, flags_fault, word_fault, step_fault, stray_fault}
use Rattle.clap.specs.Kinds.{or_else}
use Rattle.clap.specs.declared.error.ErrorKind.TheVariants.{InvalidValue, UnknownArgument}
use Rattle.oz_commands.specs.Commands.{OptionName, workers, budget}
use Rattle.command_line.specs.Table.{id_of}
use Rattle.command_line.proofs.WordKinds.{IsPlain}
use Rattle.command_line.proofs.Leaf.{rule_for, none_used}

abbrev pub holding : List Row → Option (Text × List Text) → Held
holding rows pending = record { rows = rows; pending = pending; skip = 0 }

abbrev pub at_word : Held → Waiting → Walk
at_word h waiting = record { held = h; waiting = waiting; position = 1; is_trailing = false; stopped = None }

none_met : (waiting : Waiting) (x : Text) → subcommand_met [] waiting x ≡ None
none_met idle x = refl
none_met (option id) x = refl
none_met positional x = refl

module _ (s : Shape) (once : s.args_override_self ≡ false) (x : Text) (bare : bytes_eq x (45 ∷ 45 ∷ []) ≡ false) (rows : List Row) (q : Option (Text × List Text)) where
  abbrev h : Held
  h = holding rows q

  pub unknown_long : (waiting : Waiting) (name : Text) (v : Option Text) → long_of x ≡ Some (name, v) → arg_by_long s.rules name ≡ None
      → turn_fault s [] (at_word h waiting) x ≡ UnknownArgument ∷ []
  unknown_long waiting name v long none = rw (none_met waiting x, bare, long, none) refl

  pub due_long : (waiting : Waiting) (name : Text) (a : Rule) → long_of x ≡ Some (name, None) → arg_by_long s.rules name ≡ Some a → takes_values a ≡ true
      → (turn_fault s [] (at_word h waiting) x ≡ or_else (settle_fault s.rules false h) [])
      × (walked s.rules [] (at_word h waiting) x ≡ at_word (record (settled s.rules h) { pending = Some (a.id, []) }) (option a.id))
  unfolding walked
  due_long waiting name a long found takes =
      (rw (none_met waiting x, bare, long, found, takes, once) refl, rw (none_met waiting x, bare, long, found, takes) refl)

  pub value_long : (waiting : Waiting) (name t : Text) (a : Rule) → long_of x ≡ Some (name, Some t) → arg_by_long s.rules name ≡ Some a → takes_values a ≡ true
      → (turn_fault s [] (at_word h waiting) x ≡ or_else (or_else (settle_fault s.rules false h) (use_fault false a (t ∷ []) (settled s.rules h).rows)) [])
      × (walked s.rules [] (at_word h waiting) x ≡ at_word (reacted s.rules a (t ∷ []) h) idle)
  unfolding walked
  value_long waiting name t a long found takes =
      (rw (none_met waiting x, bare, long, found, takes, once) refl, rw (none_met waiting x, bare, long, found, takes) refl)

  pub unknown_short : (waiting : Waiting) (f : ℕ) (fs : Text) (y : ℕ) → long_of x ≡ None → short_of x ≡ Some (f ∷ fs) → slice_get (chars (f ∷ fs)) 0 ≡ Some y
      → arg_by_short s.rules y ≡ None → turn_fault s [] (at_word h waiting) x ≡ UnknownArgument ∷ []
  unfolding flags_fault
  unknown_short waiting f fs y long short first none = rw (none_met waiting x, bare, long, short, first, none) refl

  plain_fault : (waiting : Waiting) → long_of x ≡ None → IsPlain x → word_fault s [] false waiting x h ≡ []
  unfolding flags_fault
  plain_fault waiting long (inl none) = rw (none_met waiting x, bare, long, none) refl
  plain_fault waiting long (inr (f, fs, short, first)) = rw (none_met waiting x, bare, long, short, first) refl

  plain_met : (waiting : Waiting) → long_of x ≡ None → IsPlain x → word_met s.rules [] false waiting 1 x h ≡ plain_word s.rules waiting x h
  unfolding bundle_met
  plain_met waiting long (inl none) = rw (none_met waiting x, bare, long, none) refl
  plain_met waiting long (inr (f, fs, short, first)) = rw (none_met waiting x, bare, long, short, first) refl

  -- a word that nothing takes
  pub stray : long_of x ≡ None → IsPlain x → arg_by_index s.rules 1 ≡ None → turn_fault s [] (at_word h idle) x ≡ stray_fault s
  stray long plain none = ap₂ (λ f (m : Held × Step). or_else f (step_fault s 1 m.0 m.1)) (plain_fault idle long plain) (plain_met idle long plain) ∙ rw none refl

  pub plain_stray : long_of x ≡ None → IsPlain x → arg_by_index s.rules 1 ≡ None → s.is_leaf ≡ true → turn_fault s [] (at_word h idle) x ≡ UnknownArgument ∷ []
  plain_stray long plain none leaf = stray long plain none ∙ rw leaf refl

  pub walked_plain : (waiting : Waiting) → long_of x ≡ None → IsPlain x
      → walked s.rules [] (at_word h waiting) x ≡ after_step s.rules x (at_word h waiting) (plain_word s.rules waiting x h).0 (plain_word s.rules waiting x h).1
  unfolding walked
  walked_plain waiting long plain = ap (λ (m : Held × Step). after_step s.rules x (at_word h waiting) m.0 m.1) (plain_met waiting long plain)

module _ (s : Shape) (once : s.args_override_self ≡ false) (x : Text) (bare : bytes_eq x (45 ∷ 45 ∷ []) ≡ false) (rows : List Row) (n : OptionName)
    (found : arg_by_id s.rules (id_of n) ≡ Some (rule_for n)) where
  abbrev due : Held
  due = holding rows (Some (id_of n, []))

  -- an option that still waits for its value fails where it is settled
  pub settle_due : settle_fault s.rules false due ≡ InvalidValue ∷ []
  settle_due = rw found (none_used n rows)

  pub value_due : long_of x ≡ None → IsPlain x → (turn_fault s [] (at_word due (option (id_of n))) x ≡ [])
      × (walked s.rules [] (at_word due (option (id_of n))) x ≡ at_word (holding rows (Some (id_of n, x ∷ []))) idle)
  value_due long plain = (
    ap₂ (λ f (m : Held × Step). or_else f (step_fault s 1 m.0 m.1)) (plain_fault s once x bare rows (Some (id_of n, [])) (option (id_of n)) long plain) (plain_met s once x bare rows (Some (id_of n, [])) (option (id_of n)) long plain),
    walked_plain s once x bare rows (Some (id_of n, [])) (option (id_of n)) long plain ∙ rw found (go n),
  )
    where
      go : (n : OptionName) → at_word (option_word (Some (rule_for n)) (id_of n) x (holding rows (Some (id_of n, [])))).0 (option_word (Some (rule_for n)) (id_of n) x (holding rows (Some (id_of n, [])))).1
          ≡ at_word (holding rows (Some (id_of n, x ∷ []))) idle
      go workers = refl
      go budget = refl
