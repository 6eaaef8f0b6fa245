-- What the reading from the left makes of words that no command has, and what clap finds for the name of an option.
use Rattle.std.proofs.Common.{◌≡◌, ◌∙◌, ◌⊎◌, ap, refl, subst, inl, inr, ℕ, Bool, true, false, true≢false, List, [], ◌∷◌, ◌++◌, drop, Option, Some, None, cond, ◌&&◌, ◌||◌, ◌==◌, not, zero, suc}
use Rattle.std.specs.Prelude.{option_and_then}
use Rattle.std.specs.List.{list_any, after_first}
use Rattle.clap.specs.Words.{Text}
use Rattle.clap.specs.Walk.{arg_by_long}
use Rattle.oz_commands.specs.Commands.{Given, OptionName, Verb, Word, is_number, same_name, takes}
use Rattle.command_line.specs.Reading.{apart, is_given, options_of, value_part, with_option}
use Rattle.command_line.proofs.Leaf.{rules_for, rule_for, taken, long_name, find_long}
use Rattle.command_line.proofs.Uses.{has_plus}

never : {X : Type 0} (a b : Bool) (x : X) → cond (a && (b && false)) (Some x) None ≡ None
never true true x = refl
never true false x = refl
never false b x = refl

pub no_number_none : (v : Verb) (g : Given) (given : List Given) → is_number g.name g.number ≡ false → with_option v g given ≡ None
no_number_none v g given e = rw e (never (takes v g.name) (not (is_given g.name given)) (given ++ g ∷ []))

pub not_taken_none : (v : Verb) (g : Given) (given : List Given) → takes v g.name ≡ false → with_option v g given ≡ None
not_taken_none v g given e = ap (λ a. cond (a && (not (is_given g.name given) && is_number g.name g.number)) (Some (given ++ g ∷ [])) None) e

pub waits_none : (v : Verb) (n : OptionName) (given : List Given) (ws : List Word) → takes v n ≡ false → options_of v given (Some n) ws ≡ None
waits_none v n given [] e = refl
waits_none v n given (x ∷ ws) e = ap (option_and_then (λ more. options_of v more None ws)) (not_taken_none v (apart n x) given e)

pub given_more : (m : OptionName) (g : Given) (given : List Given) → is_given m (given ++ g ∷ []) ≡ (is_given m given || (same_name g.name m || false))
given_more m g [] = refl
given_more m g (h ∷ hs) = ap (λ b. same_name h.name m || b) (given_more m g hs) ∙ go (same_name h.name m) (is_given m hs) (same_name g.name m || false)
  where
    go : (a b c : Bool) → (a || (b || c)) ≡ ((a || b) || c)
    go true b c = refl
    go false b c = refl

any_drop : (p : ℕ → Bool) (k : ℕ) (xs : List ℕ) → list_any p xs ≡ false → list_any p (drop k xs) ≡ false
any_drop p zero xs e = e
any_drop p (suc k) [] e = refl
any_drop p (suc k) (x ∷ xs) e = any_drop p k xs (go (p x) e)
  where
    go : (b : Bool) → (b || list_any p xs) ≡ false → list_any p xs ≡ false
    go true h = absurd (true≢false h)
    go false h = h

pub value_no_plus : (x t : Text) → has_plus x ≡ false → value_part x ≡ Some t → has_plus t ≡ false
value_no_plus x t plus e = go (list_any (λ c. c == 61) x) e
  where
    go : (b : Bool) → cond b (Some (after_first (λ c. c == 61) x)) None ≡ Some t → has_plus t ≡ false
    go true h =
        let is : after_first (λ c. c == 61) x ≡ t = cc in
        subst (λ (u : Text). has_plus u ≡ false) is (any_drop (λ c. c == 43) _ x plus)
    go false h = cc

-- ---- what clap finds

-- no command has the option, or this one does not take it
abbrev pub IsAbsent : Verb → Text → Type 0
IsAbsent v name = (long_name name ≡ None) ⊎ ((n : OptionName) × (long_name name ≡ Some n) × (takes v n ≡ false))

pub data Looked (v : Verb) (name : Text) : Type 0 where
  absent : arg_by_long (rules_for v) name ≡ None → IsAbsent v name → Looked v name
  present : (n : OptionName) → long_name name ≡ Some n → takes v n ≡ true → arg_by_long (rules_for v) name ≡ Some (rule_for n) → Looked v name

pub look : (v : Verb) (name : Text) → Looked v name
look v name = go (long_name name) refl
  where
    at : (n : OptionName) → long_name name ≡ Some n → (b : Bool) → takes v n ≡ b → Looked v name
    at n e true t = present n e t (find_long v name ∙ ap (taken v) e ∙ ap (λ b. cond b (Some (rule_for n)) None) t)
    at n e false t = absent (find_long v name ∙ ap (taken v) e ∙ ap (λ b. cond b (Some (rule_for n)) None) t) (inr (n, e, t))

    go : (o : Option OptionName) → long_name name ≡ o → Looked v name
    go None e = absent (find_long v name ∙ ap (taken v) e) (inl e)
    go (Some n) e = at n e (takes v n) refl
