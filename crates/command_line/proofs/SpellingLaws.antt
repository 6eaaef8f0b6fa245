-- The words spell a command exactly where the reading from the left gives it.
use Rattle.std.proofs.Common.{◌≡◌, ◌∙◌, ap, ap₂, refl, sym, Bool, true, false, true≢false, List, [], ◌∷◌, ◌++◌, append_assoc, append-nil, Option, Some, None, IfSome, cond, ◌&&◌, ◌||◌, ◌==◌, not, codes}
use Rattle.std.specs.Prelude.{option_and_then, option_map}
use Rattle.std.specs.List.{list_any, list_all, flat_map, before_first, after_first}
use Rattle.std.specs.Str.{bytes_eq}
use Rattle.std.proofs.lemmas.Bool.{eqb-true}
use Rattle.std.proofs.lemmas.Slice.Eq.{bytes_eq-Decides}
use Rattle.oz_commands.specs.declared.command.Command.{Command}
use Rattle.oz_commands.specs.Commands.{Given, IsSpelled, OptionName, Spells, Verb, Word, all, run, best, kernel, workers, budget, are_distinct, command_by, fit, is_number, option_word, same_name, takes, verb_word, words_by, words_of}
use Rattle.command_line.specs.Reading.{apart, command_of, is_given, joined, option_name, option_read, options_of, value_part, verb_of, with_option}
use Rattle.command_line.proofs.WordKinds.{after_cons, before_cons}
use Rattle.command_line.proofs.ReadingFacts.{given_more}
use Rattle.command_line.proofs.ReadingLaws.{verb_is}

-- the options join one by one
adds : Verb → List Given → List Given → Option (List Given)
adds v given [] = Some given
adds v given (g ∷ gs) = option_and_then (λ more. adds v more gs) (with_option v g given)

-- ---- words that spell are read

given_read : (v : Verb) (given : List Given) (n : OptionName) (number : Word) (is_joined : Bool) (rest : List Word)
    → options_of v given None (words_by n number is_joined ++ rest)
    ≡ option_and_then (λ more. options_of v more None rest) (with_option v (record { name = n; number = number; is_joined = is_joined }) given)
given_read v given workers number true rest = refl
given_read v given workers number false rest = refl
given_read v given budget number true rest = refl
given_read v given budget number false rest = refl

bind_same : {X Y : Type 0} (f h : X → Option Y) (o : Option X) → ((x : X) → f x ≡ h x) → option_and_then f o ≡ option_and_then h o
bind_same f h None e = refl
bind_same f h (Some x) e = e x

all_read : (v : Verb) (gs given : List Given) → options_of v given None (flat_map words_of gs) ≡ adds v given gs
unfolding adds
all_read v [] given = refl
all_read v (g ∷ gs) given = given_read v given g.name g.number g.is_joined (flat_map words_of gs)
    ∙ bind_same (λ more. options_of v more None (flat_map words_of gs)) (λ more. adds v more gs) (with_option v g given) (λ more. all_read v gs more)

-- ---- the options that join are distinct, and the other way round

-- none of the options is given already
abbrev are_new : List Given → List Given → Bool
are_new given gs = list_all (λ (g : Given). not (is_given g.name given)) gs

same_sym : (m n : OptionName) → same_name m n ≡ same_name n m
same_sym workers workers = refl
same_sym workers budget = refl
same_sym budget workers = refl
same_sym budget budget = refl

-- an option more, of a name that none of the rest has
new_more : (given : List Given) (h : Given) (gs : List Given) → (are_new given gs && not (list_any (λ (g : Given). same_name g.name h.name) gs)) ≡ are_new (given ++ h ∷ []) gs
new_more given h [] = refl
new_more given h (g ∷ gs) = go (is_given g.name given) (same_name g.name h.name) (are_new given gs) (list_any (λ (g : Given). same_name g.name h.name) gs)
    ∙ ap₂ (λ a b. not a && b) (ap (λ b. is_given g.name given || (b || false)) (same_sym g.name h.name) ∙ sym (given_more g.name h given)) (new_more given h gs)
  where
    go : (a b c d : Bool) → ((not a && c) && not (b || d)) ≡ (not (a || (b || false)) && (c && not d))
    go true b c d = refl
    go false true true d = refl
    go false true false d = refl
    go false false c d = refl

-- what the options have to be, to join those so far
abbrev joinable : Verb → List Given → List Given → Bool
joinable v given gs = fit v gs && (are_distinct gs && are_new given gs)

shuffle : (f d s l : Bool) → (f && (d && (s && not l))) ≡ (f && ((not l && d) && s))
shuffle true true true true = refl
shuffle true true true false = refl
shuffle true true false true = refl
shuffle true true false false = refl
shuffle true false s true = refl
shuffle true false s false = refl
shuffle false d s l = refl

given_twice : {X : Type 0} (c f l d s : Bool) (x : X) → None ≡ cond ((c && f) && ((not l && d) && (false && s))) (Some x) None
given_twice false f l d s x = refl
given_twice true false l d s x = refl
given_twice true true true d s x = refl
given_twice true true false true s x = refl
given_twice true true false false s x = refl

one_more : (a b c f d s l m : Bool) → (s && not l) ≡ m → (K : List Given → Option (List Given)) (G W : List Given) → K G ≡ cond (f && (d && m)) (Some W) None
    → option_and_then K (cond (a && (not b && c)) (Some G) None) ≡ cond (((a && c) && f) && ((not l && d) && (not b && s))) (Some W) None
one_more false b c f d s l m e K G W h = refl
one_more true true c f d s l m e K G W h = given_twice c f l d s W
one_more true false false f d s l m e K G W h = refl
one_more true false true f d s l m e K G W h = h ∙ ap (λ b. cond b (Some W) None) (ap (λ x. f && (d && x)) (sym e) ∙ shuffle f d s l)

joined_is : (v : Verb) (given gs : List Given) → adds v given gs ≡ cond (joinable v given gs) (Some (given ++ gs)) None
unfolding adds
joined_is v given [] = ap Some (sym (append-nil given))
joined_is v given (g ∷ gs) =
    one_more (takes v g.name) (is_given g.name given) (is_number g.name g.number) (fit v gs) (are_distinct gs) (are_new given gs) (list_any (λ (h : Given). same_name h.name g.name) gs) (are_new (given ++ g ∷ []) gs)
    (new_more given g gs) (λ more. adds v more gs) (given ++ g ∷ []) (given ++ (g ∷ gs))
    (joined_is v (given ++ g ∷ []) gs ∙ ap (λ w. cond (joinable v (given ++ g ∷ []) gs) (Some w) None) (append_assoc given (g ∷ []) gs))

new_none : (gs : List Given) → are_new [] gs ≡ true
new_none [] = refl
new_none (g ∷ gs) = new_none gs

-- ---- words that are read spell

split_here : (x : Word) → list_any (λ c. c == 61) x ≡ true → x ≡ before_first (λ c. c == 61) x ++ 61 ∷ after_first (λ c. c == 61) x
split_here [] e = absurd (true≢false (sym e))
split_here (y ∷ ys) e = go (y == 61) refl e (split_here ys)
  where
    go : (b : Bool) → (y == 61) ≡ b → (b || list_any (λ c. c == 61) ys) ≡ true
        → (list_any (λ c. c == 61) ys ≡ true → ys ≡ before_first (λ c. c == 61) ys ++ 61 ∷ after_first (λ c. c == 61) ys)
        → y ∷ ys ≡ before_first (λ c. c == 61) (y ∷ ys) ++ 61 ∷ after_first (λ c. c == 61) (y ∷ ys)
    go true h e more = rw h (ap (λ z. z ∷ ys) (eqb-true y 61 h))
    go false h e more = ap (λ t. y ∷ t) (more e) ∙ ap₂ (λ a b. a ++ 61 ∷ b) (sym (before_cons y ys h)) (sym (after_cons y ys h))

no_split : (x : Word) → list_any (λ c. c == 61) x ≡ false → x ≡ before_first (λ c. c == 61) x
no_split [] e = refl
no_split (y ∷ ys) e = go (y == 61) refl e (no_split ys)
  where
    go : (b : Bool) → (y == 61) ≡ b → (b || list_any (λ c. c == 61) ys) ≡ false → (list_any (λ c. c == 61) ys ≡ false → ys ≡ before_first (λ c. c == 61) ys)
        → y ∷ ys ≡ before_first (λ c. c == 61) (y ∷ ys)
    go true h e more = absurd (true≢false e)
    go false h e more = ap (λ t. y ∷ t) (more e) ∙ sym (before_cons y ys h)

front_is : (x : Word) (n : OptionName) → option_name x ≡ Some n → before_first (λ c. c == 61) x ≡ option_word n
front_is x n e = go (bytes_eq (codes "--workers") (before_first (λ c. c == 61) x)) refl (bytes_eq (codes "--budget") (before_first (λ c. c == 61) x)) refl e
  where
    go : (a : Bool) → bytes_eq (codes "--workers") (before_first (λ c. c == 61) x) ≡ a → (b : Bool) → bytes_eq (codes "--budget") (before_first (λ c. c == 61) x) ≡ b
        → cond a (Some workers) (cond b (Some budget) None) ≡ Some n → before_first (λ c. c == 61) x ≡ option_word n
    go true h b k e =
        let is : workers ≡ n = cc in
        sym ((bytes_eq-Decides (codes "--workers") (before_first (λ c. c == 61) x)).0 h) ∙ ap option_word is
    go false h true k e =
        let is : budget ≡ n = cc in
        sym ((bytes_eq-Decides (codes "--budget") (before_first (λ c. c == 61) x)).0 k) ∙ ap option_word is
    go false h false k e = cc

alone_is : (x : Word) (n : OptionName) → option_name x ≡ Some n → value_part x ≡ None → x ≡ option_word n
alone_is x n e f = go (list_any (λ c. c == 61) x) refl f
  where
    go : (b : Bool) → list_any (λ c. c == 61) x ≡ b → cond b (Some (after_first (λ c. c == 61) x)) None ≡ None → x ≡ option_word n
    go true h f = cc
    go false h f = no_split x h ∙ front_is x n e

joined_word : (x t : Word) (n : OptionName) → option_name x ≡ Some n → value_part x ≡ Some t → x ≡ option_word n ++ 61 ∷ t
joined_word x t n e f = go (list_any (λ c. c == 61) x) refl f
  where
    go : (b : Bool) → list_any (λ c. c == 61) x ≡ b → cond b (Some (after_first (λ c. c == 61) x)) None ≡ Some t → x ≡ option_word n ++ 61 ∷ t
    go true h f =
        let is : after_first (λ c. c == 61) x ≡ t = cc in
        split_here x h ∙ ap₂ (λ a b. a ++ 61 ∷ b) (front_is x n e) is
    go false h f = cc

-- options that have these words and join those given, with the option that waits for its number before them
abbrev Unread : Verb → List Given → Option OptionName → List Word → List Given → Type 0
Unread v given None ws last = (gs : List Given) × (ws ≡ flat_map words_of gs) × (adds v given gs ≡ Some last)
Unread v given (Some n) ws last = (gs : List Given) × (option_word n ∷ ws ≡ flat_map words_of gs) × (adds v given gs ≡ Some last)

abbrev Unreads : Verb → List Word → Type 0
Unreads v ws = (given : List Given) (due : Option OptionName) (last : List Given) → options_of v given due ws ≡ Some last → Unread v given due ws last

-- one option and those after it
module _ (v : Verb) (ws : List Word) (more : Unreads v ws) (given last : List Given) where
  with_one : (g : Given) (o : Option (List Given)) → with_option v g given ≡ o → option_and_then (λ next. options_of v next None ws) o ≡ Some last
      → (gs : List Given) × (words_of g ++ ws ≡ flat_map words_of gs) × (adds v given gs ≡ Some last)
  unfolding adds
  with_one g None h e = cc
  with_one g (Some next) h e =
      let rest = more next None last e in
      (g ∷ rest.0, ap (λ u. words_of g ++ u) rest.1, ap (option_and_then (λ next. adds v next rest.0)) h ∙ rest.2)

  unread_word : (x : Word) (o : Option OptionName) (number : Option Word) → option_name x ≡ o → value_part x ≡ number
      → option_read o number (λ name. options_of v given (Some name) ws) (λ g. option_and_then (λ next. options_of v next None ws) (with_option v g given)) ≡ Some last
      → Unread v given None (x ∷ ws) last
  unread_word x None number o f e = cc
  unread_word x (Some n) None o f e =
      let rest = more given (Some n) last e in
      (rest.0, ap (λ t. t ∷ ws) (alone_is x n o f) ∙ rest.1, rest.2)
  unread_word x (Some n) (Some t) o f e =
      let rest = with_one (joined n t) (with_option v (joined n t) given) refl e in
      (rest.0, ap (λ u. u ∷ ws) (joined_word x t n o f) ∙ rest.1, rest.2)

  unread_due : (x : Word) (n : OptionName) → option_and_then (λ next. options_of v next None ws) (with_option v (apart n x) given) ≡ Some last → Unread v given (Some n) (x ∷ ws) last
  unread_due x n e = with_one (apart n x) (with_option v (apart n x) given) refl e

unreads : (v : Verb) (ws : List Word) → Unreads v ws
unfolding adds
unreads v [] given None last e = ([], refl, e)
unreads v [] given (Some n) last e = cc
unreads v (x ∷ ws) given None last e = unread_word v ws (unreads v ws) given last x (option_name x) (value_part x) refl refl e
unreads v (x ∷ ws) given (Some n) last e = unread_due v ws (unreads v ws) given last x n e

-- ---- both ways

verb_named : (v : Verb) → verb_of (verb_word v) ≡ Some v
verb_named all = refl
verb_named run = refl
verb_named best = refl
verb_named kernel = refl

joined_facts : (v : Verb) (gs last : List Given) → adds v [] gs ≡ Some last → (fit v gs ≡ true) × (are_distinct gs ≡ true) × (gs ≡ last)
joined_facts v gs last e = go (fit v gs) (are_distinct gs) (are_new [] gs) refl refl (sym (joined_is v [] gs) ∙ e)
  where
    go : (a b c : Bool) → fit v gs ≡ a → are_distinct gs ≡ b → cond (a && (b && c)) (Some gs) None ≡ Some last → (fit v gs ≡ true) × (are_distinct gs ≡ true) × (gs ≡ last)
    go true true true h k e = (h, k, cc)
    go true true false h k e = cc
    go true false c h k e = cc
    go false b c h k e = cc

pub spelled : (words : List Word) (c : Command) → Spells words c → command_of words ≡ Some c
spelled words c s = ap command_of s.spelled ∙ ap (option_and_then (λ verb. option_map (command_by verb) (options_of verb [] None (flat_map words_of s.given)))) (verb_named s.verb)
    ∙ ap (option_map (command_by s.verb)) (all_read s.verb s.given [] ∙ joined_is s.verb [] s.given
    ∙ ap (λ b. cond b (Some s.given) None) (ap₂ (λ a b. a && b) s.fitting (ap₂ (λ a b. a && b) s.distinct (new_none s.given))))
    ∙ ap Some s.meant

pub spells : (words : List Word) (c : Command) → command_of words ≡ Some c → Spells words c
spells [] c e = cc
spells (x ∷ ws) c e = go (verb_of x) refl e
  where
    last : (v : Verb) → verb_of x ≡ Some v → (o : Option (List Given)) → options_of v [] None ws ≡ o → option_map (command_by v) o ≡ Some c → Spells (x ∷ ws) c
    last v is None h e = cc
    last v is (Some given) h e =
        let rest = unreads v ws [] None given h in
        let facts = joined_facts v rest.0 given rest.2 in
        let meant : command_by v given ≡ c = cc in
        record {
          verb = v;
          given = rest.0;
          spelled = ap₂ (λ a b. a ∷ b) (verb_is x v is) rest.1;
          fitting = facts.0;
          distinct = facts.1;
          meant = ap (command_by v) facts.2 ∙ meant;
        }

    go : (o : Option Verb) → verb_of x ≡ o → option_and_then (λ verb. option_map (command_by verb) (options_of verb [] None ws)) o ≡ Some c → Spells (x ∷ ws) c
    go None is e = cc
    go (Some v) is e = last v is (options_of v [] None ws) refl e

pub is_spelled : (words : List Word) (r : Option Command) → r ≡ command_of words → IsSpelled words r
is_spelled words None e = λ c s. let bad : None ≡ Some c = e ∙ spelled words c s in cc
is_spelled words (Some c) e = spells words c (sym e)

-- the words spell no other command
pub spells_only : (words : List Word) (r : Option Command) → r ≡ command_of words → IfSome r (λ c. (d : Command) → Spells words d → d ≡ c)
spells_only words None e = tt
spells_only words (Some c) e = λ d s.
    let one : Some d ≡ Some c = sym (spelled words d s) ∙ sym e in
    cc
