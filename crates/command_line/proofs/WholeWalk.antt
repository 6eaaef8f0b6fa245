-- By induction over the words: clap's walk over the words after a command finds the options that are read from the left.
use Rattle.std.proofs.Common.{◌≡◌, ◌∙◌, ap, ap₂, refl, sym, subst, inl, inr, Bool, true, false, true≢false, List, [], ◌∷◌, Option, Some, None, ◌||◌}
use Rattle.std.specs.Prelude.{option_and_then, codes}
use Rattle.std.specs.List.{list_any}
use Rattle.std.specs.Str.{bytes_eq}
use Rattle.clap.specs.Words.{Row, Text}
use Rattle.clap.specs.Walk.{Held, idle, option, settled, used, walked}
use Rattle.clap.specs.Faults.{settle_fault, turn_fault, use_fault}
use Rattle.clap.specs.Kinds.{Kinds, or_else}
use Rattle.clap.specs.declared.error.ErrorKind.TheVariants.{InvalidValue, UnknownArgument}
use Rattle.oz_commands.specs.Commands.{Given, OptionName, Verb, Word, workers, budget, takes}
use Rattle.command_line.specs.Reading.{apart, is_odd, joined, option_name, option_read, options_of, value_part, with_option}
use Rattle.command_line.specs.Table.{id_of, rows_for}
use Rattle.command_line.proofs.Leaf.{leaf, rules_for, rule_for, long_name, find_first, find_id, find_short, takes_one}
use Rattle.command_line.proofs.WordKinds.{Kind, long, short, plain, classify}
use Rattle.command_line.proofs.Turns.{holding, at_word, unknown_long, due_long, value_long, unknown_short, plain_stray, settle_due, value_due}
use Rattle.command_line.proofs.Uses.{Agrees, has_plus, one_agrees}
use Rattle.command_line.proofs.Walking.{Ends, ended, final, first_is, goes, leaf_is, leaf_once, stops, total, total_nil, unsettled}
use Rattle.command_line.proofs.ReadingFacts.{IsAbsent, absent, present, look, no_number_none, not_taken_none, waits_none, value_no_plus}

-- from a walk that waits for nothing, with what it holds settled or not
abbrev pub IdleReads : Verb → List Word → Type 0
IdleReads v ws = (rows : List Row) (q : Option (Text × List Text)) (og : Option (List Given))
    → Agrees (settle_fault (rules_for v) false (holding rows q)) (settled (rules_for v) (holding rows q)).rows og
    → Ends (total v (at_word (holding rows q) idle) ws) (final v (at_word (holding rows q) idle) ws) (option_and_then (λ given. options_of v given None ws) og)

abbrev pub due_held : List Given → OptionName → Held
due_held given n = holding (rows_for given) (Some (id_of n, []))

-- from a walk that waits for the number of an option
abbrev pub DueReads : Verb → List Word → Type 0
DueReads v ws = (given : List Given) (n : OptionName) → takes v n ≡ true
    → Ends (total v (at_word (due_held given n) (option (id_of n))) ws) (final v (at_word (due_held given n) (option (id_of n))) ws) (options_of v given (Some n) ws)

abbrev Fails : Kinds → Type 0
Fails k = k ≡ [] → ⊥

fails_as : (a b : Kinds) → a ≡ b → Fails b → Fails a
fails_as a b e h = λ z. h (sym e ∙ z)

unknown : (a : Kinds) → a ≡ UnknownArgument ∷ [] → Fails a
unknown a e = λ z. cc

invalid : (a : Kinds) → a ≡ InvalidValue ∷ [] → Fails a
invalid a e = λ z. cc

id_is : (n : OptionName) → (rule_for n).id ≡ id_of n
id_is workers = refl
id_is budget = refl

idle_nil : (v : Verb) → IdleReads v []
idle_nil v rows q None some = subst Fails (sym (total_nil v (at_word (holding rows q) idle))) (unsettled v (holding rows q) some)
idle_nil v rows q (Some given) h =
    let e = ended v (holding rows q) given h.0 h.1 in
    (total_nil v (at_word (holding rows q) idle) ∙ e.0, e.1)

due_fails : (v : Verb) (given : List Given) (n : OptionName) → takes v n ≡ true → Fails (settle_fault (rules_for v) false (due_held given n))
due_fails v given n t = invalid _ (settle_due (leaf v) (leaf_once v) [] refl (rows_for given) n (find_id v n t))

due_nil : (v : Verb) → DueReads v []
due_nil v given n t = subst Fails (sym (total_nil v (at_word (due_held given n) (option (id_of n))))) (unsettled v (due_held given n) (due_fails v given n t))

module _ (v : Verb) (x : Word) (ws : List Word) (bare : bytes_eq x (45 ∷ 45 ∷ []) ≡ false) (plus : has_plus x ≡ false) where
  abbrev turn : List Row → Option (Text × List Text) → Kinds
  turn rows q = turn_fault (leaf v) [] (at_word (holding rows q) idle) x

  abbrev rest_of : Option (List Given) → Option (List Given)
  rest_of = option_and_then (λ given. options_of v given None ws)

  -- what cannot be settled fails at the next word
  failing : (rows : List Row) (q : Option (Text × List Text)) → Fails (settle_fault (rules_for v) false (holding rows q)) → Kind x → Fails (turn rows q)
  failing rows q some (long name None is o vp nn) = elim (look v name) [
    | absent none why ↦ unknown _ (unknown_long (leaf v) (leaf_once v) x bare rows q idle name None is none)
    | present n on t found ↦
        fails_as _ _ (due_long (leaf v) (leaf_once v) x bare rows q idle name (rule_for n) is found (takes_one n)).0 (first_is _ _ some)
  ]
  failing rows q some (long name (Some value) is o vp nn) = elim (look v name) [
    | absent none why ↦ unknown _ (unknown_long (leaf v) (leaf_once v) x bare rows q idle name (Some value) is none)
    | present n on t found ↦
        fails_as _ _ (value_long (leaf v) (leaf_once v) x bare rows q idle name value (rule_for n) is found (takes_one n)).0 (first_is _ _ (first_is _ _ some))
  ]
  failing rows q some (short f fs y l s c o nn) = unknown _ (unknown_short (leaf v) (leaf_once v) x bare rows q idle f fs y l s c (find_short v y))
  failing rows q some (plain l is o) = unknown _ (plain_stray (leaf v) (leaf_once v) x bare rows q l is (find_first v) (leaf_is v))

  -- how the word is read, by the option that it names and its number
  read_as : (given : List Given) (o : Option OptionName) (number : Option Word) → option_name x ≡ o → value_part x ≡ number
      → options_of v given None (x ∷ ws) ≡ option_read o number (λ name. options_of v given (Some name) ws) (λ g. rest_of (with_option v g given))
  read_as given o number e f = ap₂ (λ a b. option_read a b (λ name. options_of v given (Some name) ws) (λ g. rest_of (with_option v g given))) e f

  -- a word that names no option
  no_name : (given : List Given) → option_name x ≡ None → options_of v given None (x ∷ ws) ≡ None
  no_name given e = read_as given None (value_part x) e refl

  -- an option that the command has not
  no_option : (given : List Given) (name : Text) (number : Option Word) → option_name x ≡ long_name name → value_part x ≡ number → IsAbsent v name
      → options_of v given None (x ∷ ws) ≡ None
  no_option given name number o vp (inl none) = no_name given (o ∙ none)
  no_option given name None o vp (inr (n, on, t)) = read_as given (Some n) None (o ∙ on) vp ∙ waits_none v n given ws t
  no_option given name (Some number) o vp (inr (n, on, t)) = read_as given (Some n) (Some number) (o ∙ on) vp ∙ ap rest_of (not_taken_none v (joined n number) given t)

  module _ (more : IdleReads v ws × DueReads v ws) where
    -- one option, in a use that clap settles at once
    after_value : (g : Given) (rows : List Row) (q : Option (Text × List Text)) (u : List Row) (value : Option (List Given))
        → Agrees (use_fault false (rule_for g.name) (g.number ∷ []) u) (used (rule_for g.name) (g.number ∷ []) u) value
        → turn rows q ≡ or_else (use_fault false (rule_for g.name) (g.number ∷ []) u) []
        → walked (rules_for v) [] (at_word (holding rows q) idle) x ≡ at_word (holding (used (rule_for g.name) (g.number ∷ []) u) None) idle
        → Ends (total v (at_word (holding rows q) idle) (x ∷ ws)) (final v (at_word (holding rows q) idle) (x ∷ ws)) (rest_of value)
    after_value g rows q u None fails turned next = stops v (at_word (holding rows q) idle) x ws None (fails_as _ _ turned (first_is _ _ fails)) refl
    after_value g rows q u (Some given) agrees turned next = goes v _ _ x ws _ (turned ∙ ap (λ k. or_else k []) agrees.0) next
        (more.0 (used (rule_for g.name) (g.number ∷ []) u) None (Some given) (refl, agrees.1))

    abbrev IdleEnds : List Row → Option (Text × List Text) → Option (List Given) → Type 0
    IdleEnds rows q og = Ends (total v (at_word (holding rows q) idle) (x ∷ ws)) (final v (at_word (holding rows q) idle) (x ∷ ws)) og

    idle_one : (rows : List Row) (q : Option (Text × List Text)) (given : List Given) → settle_fault (rules_for v) false (holding rows q) ≡ []
        → (settled (rules_for v) (holding rows q)).rows ≡ rows_for given → Kind x → IdleEnds rows q (options_of v given None (x ∷ ws))
    idle_one rows q given none same (long name None is o vp nn) = elim (look v name) [
      | absent lost why ↦ stops v _ x ws _ (unknown _ (unknown_long (leaf v) (leaf_once v) x bare rows q idle name None is lost)) (no_option given name None o vp why)
      | present n on t found ↦
          let step = due_long (leaf v) (leaf_once v) x bare rows q idle name (rule_for n) is found (takes_one n) in
          let next : walked (rules_for v) [] (at_word (holding rows q) idle) x ≡ at_word (due_held given n) (option (id_of n))
          = step.1 ∙ (λ i. at_word (holding (same i) (Some (id_is n i, []))) (option (id_is n i))) in
          subst (λ og. IdleEnds rows q og) (sym (read_as given (Some n) None (o ∙ on) vp))
          (goes v _ _ x ws _ (step.0 ∙ ap (λ k. or_else k []) none) next (more.1 given n t))
    ]
    idle_one rows q given none same (long name (Some number) is o vp nn) = elim (look v name) [
      | absent lost why ↦ stops v _ x ws _ (unknown _ (unknown_long (leaf v) (leaf_once v) x bare rows q idle name (Some number) is lost)) (no_option given name (Some number) o vp why)
      | present n on t found ↦
          let step = value_long (leaf v) (leaf_once v) x bare rows q idle name number (rule_for n) is found (takes_one n) in
          let agrees : Agrees (use_fault false (rule_for n) (number ∷ []) (settled (rules_for v) (holding rows q)).rows) (used (rule_for n) (number ∷ []) (settled (rules_for v) (holding rows q)).rows) (with_option v (joined n number) given)
          = subst (λ r. Agrees (use_fault false (rule_for n) (number ∷ []) r) (used (rule_for n) (number ∷ []) r) (with_option v (joined n number) given)) (sym same) (one_agrees v (joined n number) given t (value_no_plus x number plus vp)) in
          subst (λ og. IdleEnds rows q og) (sym (read_as given (Some n) (Some number) (o ∙ on) vp))
          (after_value (joined n number) rows q (settled (rules_for v) (holding rows q)).rows (with_option v (joined n number) given) agrees
          (step.0 ∙ ap (λ k. or_else (or_else k (use_fault false (rule_for n) (number ∷ []) (settled (rules_for v) (holding rows q)).rows)) []) none) step.1)
    ]
    idle_one rows q given none same (short f fs y l s c o nn) =
        stops v _ x ws _ (unknown _ (unknown_short (leaf v) (leaf_once v) x bare rows q idle f fs y l s c (find_short v y))) (no_name given o)
    idle_one rows q given none same (plain l is o) =
        stops v _ x ws _ (unknown _ (plain_stray (leaf v) (leaf_once v) x bare rows q l is (find_first v) (leaf_is v))) (no_name given o)

    idle_more : IdleReads v (x ∷ ws)
    idle_more rows q None some = stops v _ x ws None (failing rows q some (classify x bare)) refl
    idle_more rows q (Some given) h = idle_one rows q given h.0 h.1 (classify x bare)

    due_one : (given : List Given) (n : OptionName) → takes v n ≡ true → Kind x
        → Ends (total v (at_word (due_held given n) (option (id_of n))) (x ∷ ws)) (final v (at_word (due_held given n) (option (id_of n))) (x ∷ ws)) (rest_of (with_option v (apart n x) given))
    due_one given n t (long name None is o vp nn) =
        let lost : rest_of (with_option v (apart n x) given) ≡ None = ap rest_of (no_number_none v (apart n x) given (nn n)) in
        elim (look v name) [
          | absent none why ↦ stops v _ x ws _ (unknown _ (unknown_long (leaf v) (leaf_once v) x bare (rows_for given) (Some (id_of n, [])) (option (id_of n)) name None is none)) lost
          | present m on taken found ↦ stops v _ x ws _
              (fails_as _ _ (due_long (leaf v) (leaf_once v) x bare (rows_for given) (Some (id_of n, [])) (option (id_of n)) name (rule_for m) is found (takes_one m)).0 (first_is _ _ (due_fails v given n t))) lost
        ]
    due_one given n t (long name (Some number) is o vp nn) =
        let lost : rest_of (with_option v (apart n x) given) ≡ None = ap rest_of (no_number_none v (apart n x) given (nn n)) in
        elim (look v name) [
          | absent none why ↦ stops v _ x ws _ (unknown _ (unknown_long (leaf v) (leaf_once v) x bare (rows_for given) (Some (id_of n, [])) (option (id_of n)) name (Some number) is none)) lost
          | present m on taken found ↦ stops v _ x ws _
              (fails_as _ _ (value_long (leaf v) (leaf_once v) x bare (rows_for given) (Some (id_of n, [])) (option (id_of n)) name number (rule_for m) is found (takes_one m)).0 (first_is _ _ (first_is _ _ (due_fails v given n t)))) lost
        ]
    due_one given n t (short f fs y l s c o nn) =
        stops v _ x ws _ (unknown _ (unknown_short (leaf v) (leaf_once v) x bare (rows_for given) (Some (id_of n, [])) (option (id_of n)) f fs y l s c (find_short v y)))
        (ap rest_of (no_number_none v (apart n x) given (nn n)))
    due_one given n t (plain l is o) =
        let step = value_due (leaf v) (leaf_once v) x bare (rows_for given) n (find_id v n t) l is in
        let agrees : Agrees (settle_fault (rules_for v) false (holding (rows_for given) (Some (id_of n, x ∷ [])))) (settled (rules_for v) (holding (rows_for given) (Some (id_of n, x ∷ [])))).rows (with_option v (apart n x) given)
        = rw (find_id v n t) (one_agrees v (apart n x) given t plus) in
        goes v _ _ x ws _ step.0 step.1 (more.0 (rows_for given) (Some (id_of n, x ∷ [])) (with_option v (apart n x) given) agrees)

    due_more : DueReads v (x ∷ ws)
    due_more given n t = due_one given n t (classify x bare)

pub both_false : (a b : Bool) → (a || b) ≡ false → (a ≡ false) × (b ≡ false)
both_false true b e = absurd (true≢false e)
both_false false b e = (refl, e)

pub flip_bare : (x : Text) → bytes_eq x (codes "--") ≡ false → bytes_eq x (45 ∷ 45 ∷ []) ≡ false
flip_bare x e = e

reads : (v : Verb) (ws : List Word) → list_any is_odd ws ≡ false → IdleReads v ws × DueReads v ws
reads v [] odd = (idle_nil v, due_nil v)
reads v (x ∷ ws) odd =
    let parts = both_false (is_odd x) (list_any is_odd ws) odd in
    let own = both_false (bytes_eq x (codes "--")) (has_plus x) parts.0 in
    let more = reads v ws parts.1 in
    (idle_more v x ws (flip_bare x own.0) own.1 more, due_more v x ws (flip_bare x own.0) own.1 more)

-- from the start
pub reads_all : (v : Verb) (ws : List Word) → list_any is_odd ws ≡ false
    → Ends (total v (at_word (holding [] None) idle) ws) (final v (at_word (holding [] None) idle) ws) (options_of v [] None ws)
reads_all v ws odd = (reads v ws odd).0 [] None (Some []) (refl, refl)
