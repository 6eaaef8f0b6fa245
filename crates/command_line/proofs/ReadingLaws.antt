-- Laws of the reading from the left: an odd word is in no command, and the options that were read fit the command.
use Rattle.std.proofs.Common.{◌≡◌, ◌∙◌, ap, refl, sym, subst, ℕ, Bool, true, false, true≢false, List, [], ◌∷◌, ◌++◌, Option, Some, None, cond, ◌&&◌, ◌||◌, ◌==◌, not, codes}
use Rattle.std.proofs.lemmas.Bool.{eqb-true}
use Rattle.std.proofs.lemmas.List.Folds.{list_all-append}
use Rattle.std.proofs.lemmas.Slice.Eq.{bytes_eq-Decides}
use Rattle.std.specs.Prelude.{option_and_then, option_map}
use Rattle.std.specs.Char.{is_digit}
use Rattle.std.specs.List.{list_any, list_all, before_first, after_first}
use Rattle.std.specs.Str.{bytes_eq}
use Rattle.clap.specs.Words.{Text}
use Rattle.oz_commands.specs.Commands.{Given, OptionName, Verb, Word, all, run, best, kernel, workers, budget, command_by, fit, is_number, takes, verb_word}
use Rattle.command_line.specs.Reading.{apart, command_of, is_given, is_odd, joined, option_name, option_read, options_of, value_part, verb_of, with_option}
use Rattle.command_line.proofs.WordKinds.{NoNumber, before_cons, after_cons, dead, hyphen_no_number}
use Rattle.command_line.proofs.Uses.{has_plus}
use Rattle.command_line.proofs.ReadingFacts.{no_number_none}
use Rattle.command_line.proofs.WholeWalk.{both_false}

-- ---- odd words

pub no_digit : (x : Text) → has_plus x ≡ true → list_all (λ d. is_digit d 10) x ≡ false
no_digit [] e = absurd (true≢false (sym e))
no_digit (c ∷ cs) e = go (c == 43) refl e (no_digit cs)
  where
    never : (b : Bool) → (b && false) ≡ false
    never true = refl
    never false = refl

    go : (b : Bool) → (c == 43) ≡ b → (b || has_plus cs) ≡ true → (has_plus cs ≡ true → list_all (λ d. is_digit d 10) cs ≡ false)
        → list_all (λ d. is_digit d 10) (c ∷ cs) ≡ false
    go true h e more = subst (λ (d : ℕ). list_all (λ d. is_digit d 10) (d ∷ cs) ≡ false) (sym (eqb-true c 43 h)) refl
    go false h e more = rw (more e) (never (is_digit c 10))

plus_no_number : (x : Text) → has_plus x ≡ true → NoNumber x
plus_no_number x e n = rw (no_digit x e) (dead _ _ _)

bare_is : (x : Text) → bytes_eq x (codes "--") ≡ true → x ≡ codes "--"
bare_is x e = (bytes_eq-Decides x (codes "--")).0 e

odd_no_number : (x : Text) → is_odd x ≡ true → NoNumber x
odd_no_number x e = go (bytes_eq x (codes "--")) refl e
  where
    go : (b : Bool) → bytes_eq x (codes "--") ≡ b → (b || has_plus x) ≡ true → NoNumber x
    go true h e = subst NoNumber (sym (bare_is x h)) (hyphen_no_number 45 (45 ∷ []) refl)
    go false h e = plus_no_number x e

-- a plus sign that the option's name has not stands in its number
plus_after : (x : Text) → has_plus x ≡ true → has_plus (before_first (λ c. c == 61) x) ≡ false
    → (list_any (λ c. c == 61) x ≡ true) × (has_plus (after_first (λ c. c == 61) x) ≡ true)
plus_after [] e f = absurd (true≢false (sym e))
plus_after (y ∷ ys) e f = go (y == 61) refl (plus_after ys)
  where
    go : (b : Bool) → (y == 61) ≡ b → (has_plus ys ≡ true → has_plus (before_first (λ c. c == 61) ys) ≡ false
        → (list_any (λ c. c == 61) ys ≡ true) × (has_plus (after_first (λ c. c == 61) ys) ≡ true))
        → (list_any (λ c. c == 61) (y ∷ ys) ≡ true) × (has_plus (after_first (λ c. c == 61) (y ∷ ys)) ≡ true)
    go true h more =
        let tail : has_plus ys ≡ true = subst (λ (z : ℕ). ((z == 43) || has_plus ys) ≡ true) (eqb-true y 61 h) e in
        (rw h refl, rw h tail)
    go false h more =
        let front : ((y == 43) || has_plus (before_first (λ c. c == 61) ys)) ≡ false = ap has_plus (sym (before_cons y ys h)) ∙ f in
        let parts = both_false _ _ front in
        let tail : has_plus ys ≡ true = subst (λ b. (b || has_plus ys) ≡ true) parts.0 e in
        let rest = more tail parts.1 in
        (rw h rest.0, ap has_plus (after_cons y ys h) ∙ rest.1)

name_no_plus : (x : Text) (n : OptionName) → option_name x ≡ Some n → has_plus (before_first (λ c. c == 61) x) ≡ false
name_no_plus x n e = go (bytes_eq (codes "--workers") (before_first (λ c. c == 61) x)) refl (bytes_eq (codes "--budget") (before_first (λ c. c == 61) x)) refl e
  where
    go : (a : Bool) → bytes_eq (codes "--workers") (before_first (λ c. c == 61) x) ≡ a → (b : Bool) → bytes_eq (codes "--budget") (before_first (λ c. c == 61) x) ≡ b
        → cond a (Some workers) (cond b (Some budget) None) ≡ Some n → has_plus (before_first (λ c. c == 61) x) ≡ false
    go true h b k e = subst (λ t. has_plus t ≡ false) ((bytes_eq-Decides (codes "--workers") (before_first (λ c. c == 61) x)).0 h) refl
    go false h true k e = subst (λ t. has_plus t ≡ false) ((bytes_eq-Decides (codes "--budget") (before_first (λ c. c == 61) x)).0 k) refl
    go false h false k e = cc

-- an odd word that names an option has an odd number
odd_value : (x : Text) (n : OptionName) → is_odd x ≡ true → option_name x ≡ Some n → (t : Text) × (value_part x ≡ Some t) × NoNumber t
odd_value x n e o = go (bytes_eq x (codes "--")) refl e
  where
    go : (b : Bool) → bytes_eq x (codes "--") ≡ b → (b || has_plus x) ≡ true → (t : Text) × (value_part x ≡ Some t) × NoNumber t
    go true h e =
        let bad : None ≡ Some n = ap option_name (sym (bare_is x h)) ∙ o in
        cc
    go false h e =
        let after = plus_after x e (name_no_plus x n o) in
        (after_first (λ c. c == 61) x, rw after.0 refl, plus_no_number (after_first (λ c. c == 61) x) after.1)

-- where each way on gives nothing, nothing comes of it
bind_none : {X Y : Type 0} (f : X → Option Y) (o : Option X) → ((x : X) → f x ≡ None) → option_and_then f o ≡ None
bind_none f None h = refl
bind_none f (Some x) h = h x

abbrev ending : Verb → List Word → List Given → Option (List Given)
ending v ws given = options_of v given None ws

options_lost : (v : Verb) (ws : List Word) → list_any is_odd ws ≡ true → (given : List Given) (due : Option OptionName) → options_of v given due ws ≡ None
options_lost v [] odd given due = absurd (true≢false (sym odd))
options_lost v (x ∷ ws) odd given due = go (is_odd x) refl odd (options_lost v ws) given due
  where
    lost : (g : Given) (given : List Given) → NoNumber g.number → option_and_then (ending v ws) (with_option v g given) ≡ None
    lost g given h = ap (option_and_then (ending v ws)) (no_number_none v g given (h g.name))

    here : is_odd x ≡ true → (given : List Given) (o : Option OptionName) → option_name x ≡ o
        → option_read o (value_part x) (λ name. options_of v given (Some name) ws) (λ g. option_and_then (ending v ws) (with_option v g given)) ≡ None
    here h given None e = refl
    here h given (Some n) e =
        let value = odd_value x n h e in
        rw value.1 (lost (joined n value.0) given value.2)

    later : ((given : List Given) (due : Option OptionName) → options_of v given due ws ≡ None) → (given : List Given) (o : Option OptionName) (number : Option Word)
        → option_read o number (λ name. options_of v given (Some name) ws) (λ g. option_and_then (ending v ws) (with_option v g given)) ≡ None
    later more given None number = refl
    later more given (Some n) None = more given (Some n)
    later more given (Some n) (Some t) = bind_none (ending v ws) (with_option v (joined n t) given) (λ next. more next None)

    go : (b : Bool) → is_odd x ≡ b → (b || list_any is_odd ws) ≡ true → (list_any is_odd ws ≡ true → (given : List Given) (due : Option OptionName) → options_of v given due ws ≡ None)
        → (given : List Given) (due : Option OptionName) → options_of v given due (x ∷ ws) ≡ None
    go true h odd more given None = here h given (option_name x) refl
    go true h odd more given (Some n) = lost (apart n x) given (odd_no_number x h)
    go false h odd more given None = later (more odd) given (option_name x) (value_part x)
    go false h odd more given (Some n) = bind_none (ending v ws) (with_option v (apart n x) given) (λ next. more odd next None)

pub verb_is : (x : Text) (v : Verb) → verb_of x ≡ Some v → x ≡ verb_word v
verb_is x v e = go (bytes_eq (codes "all") x) refl (bytes_eq (codes "run") x) refl (bytes_eq (codes "best") x) refl (bytes_eq (codes "kernel") x) refl e
  where
    at : (t : Text) (w : Verb) → bytes_eq t x ≡ true → t ≡ verb_word w → Some w ≡ Some v → x ≡ verb_word v
    at t w h name e =
        let same : w ≡ v = cc in
        sym ((bytes_eq-Decides t x).0 h) ∙ name ∙ ap verb_word same

    go : (a : Bool) → bytes_eq (codes "all") x ≡ a → (b : Bool) → bytes_eq (codes "run") x ≡ b → (s : Bool) → bytes_eq (codes "best") x ≡ s
        → (d : Bool) → bytes_eq (codes "kernel") x ≡ d
        → cond a (Some all) (cond b (Some run) (cond s (Some best) (cond d (Some kernel) None))) ≡ Some v → x ≡ verb_word v
    go true h b k s m d l e = at (codes "all") all h refl e
    go false h true k s m d l e = at (codes "run") run k refl e
    go false h false k true m d l e = at (codes "best") best m refl e
    go false h false k false m true l e = at (codes "kernel") kernel l refl e
    go false h false k false m false l e = cc

plain_verb : (v : Verb) → is_odd (verb_word v) ≡ false
plain_verb all = refl
plain_verb run = refl
plain_verb best = refl
plain_verb kernel = refl

pub odd_lost : (words : List Word) → list_any is_odd words ≡ true → command_of words ≡ None
odd_lost [] odd = refl
odd_lost (x ∷ ws) odd = go (verb_of x) refl
  where
    go : (o : Option Verb) → verb_of x ≡ o → option_and_then (λ verb. option_map (command_by verb) (options_of verb [] None ws)) o ≡ None
    go None e = refl
    go (Some v) e =
        let first : is_odd x ≡ false = ap is_odd (verb_is x v e) ∙ plain_verb v in
        let rest : list_any is_odd ws ≡ true = subst (λ b. (b || list_any is_odd ws) ≡ true) first odd in
        ap (option_map (command_by v)) (options_lost v ws rest [] None)

-- ---- the options that were read fit the command

fit_one : (v : Verb) (g : Given) → takes v g.name ≡ true → is_number g.name g.number ≡ true → fit v (g ∷ []) ≡ true
fit_one v g t h = rw (t, h) refl

joins : (v : Verb) (g : Given) (given more : List Given) → with_option v g given ≡ Some more → fit v given ≡ true → fit v more ≡ true
joins v g given more e ok = go (takes v g.name) (not (is_given g.name given)) (is_number g.name g.number) refl refl e
  where
    go : (a b c : Bool) → takes v g.name ≡ a → is_number g.name g.number ≡ c → cond (a && (b && c)) (Some (given ++ g ∷ [])) None ≡ Some more → fit v more ≡ true
    go true true true t h e =
        let is : given ++ g ∷ [] ≡ more = cc in
        subst (λ (k : List Given). fit v k ≡ true) is
        (list_all-append (λ (g : Given). takes v g.name && is_number g.name g.number) given (g ∷ []) ∙ rw (ok, fit_one v g t h) refl)
    go true true false t h e = cc
    go true false c t h e = cc
    go false b c t h e = cc

abbrev KeepsFit : Verb → List Word → Type 0
KeepsFit v ws = (given : List Given) (due : Option OptionName) (last : List Given) → fit v given ≡ true → options_of v given due ws ≡ Some last → fit v last ≡ true

bound : (v : Verb) (ws : List Word) (g : Given) (given last : List Given) → fit v given ≡ true → (o : Option (List Given)) → with_option v g given ≡ o
    → option_and_then (ending v ws) o ≡ Some last → KeepsFit v ws → fit v last ≡ true
bound v ws g given last ok None h e more = cc
bound v ws g given last ok (Some next) h e more = more next None last (joins v g given next h ok) e

word_keeps : (v : Verb) (x : Word) (ws : List Word) (given last : List Given) → fit v given ≡ true → (o : Option OptionName) (number : Option Word)
    → option_read o number (λ name. options_of v given (Some name) ws) (λ g. option_and_then (ending v ws) (with_option v g given)) ≡ Some last
    → KeepsFit v ws → fit v last ≡ true
word_keeps v x ws given last ok None number e more = cc
word_keeps v x ws given last ok (Some n) None e more = more given (Some n) last ok e
word_keeps v x ws given last ok (Some n) (Some t) e more = bound v ws (joined n t) given last ok (with_option v (joined n t) given) refl e more

pub options_fit : (v : Verb) (ws : List Word) (given : List Given) (due : Option OptionName) (last : List Given) → fit v given ≡ true → options_of v given due ws ≡ Some last → fit v last ≡ true
options_fit v [] given None last ok e =
    let is : given ≡ last = cc in
    subst (λ (k : List Given). fit v k ≡ true) is ok
options_fit v [] given (Some n) last ok e = cc
options_fit v (x ∷ ws) given None last ok e = word_keeps v x ws given last ok (option_name x) (value_part x) e (options_fit v ws)
options_fit v (x ∷ ws) given (Some n) last ok e = bound v ws (apart n x) given last ok (with_option v (apart n x) given) refl e (options_fit v ws)
