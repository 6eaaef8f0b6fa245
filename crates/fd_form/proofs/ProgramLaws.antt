-- A script by its head, its record and its statements.
use Rattle.std.proofs.Common.{◌≡◌, ℕ, Bool, true, false, ◌&&◌, not, nat_eq, if◌then◌else◌, Some, None, List, refl}
use Rattle.oz_language.specs.Grammar.{Phrase, Phrases, nothing, more, var, connected, head, proc, body}
use Rattle.oz_language.specs.declared.token.Connective.TheVariants.{Equates}
use Rattle.fd_form.specs.Parts.{script_word, fd_word, only_if, is_named}
use Rattle.fd_form.specs.FdScripts.{in_body, in_program}
use Rattle.fd_form.specs.Steps.{one_of, answer_in, root_in, body_by, procedure_by, text_by}

tested : (b : Bool) (words : List (List ℕ)) (root : ℕ) (e : Phrase) (ds ss : Phrases) →
    (if b then body_by words root ds ss (Some e) else None) ≡ body_by words root ds ss (if b then Some e else None)
tested true words root e ds ss = refl
tested false words root e ds ss = refl

pub in_first : (words : List (List ℕ)) (root : ℕ) (ds : Phrases) (s : Phrase) (ss : Phrases) →
    in_body words root (body ds (more s ss)) ≡ body_by words root ds ss (answer_in root s)
in_first words root ds (connected Equates r e) ss = tested (is_named root r) words root e ds ss
in_first words root ds s ss = refl

pub in_none : (words : List (List ℕ)) (root : ℕ) (ds : Phrases) → in_body words root (body ds nothing) ≡ None
in_none words root ds = refl

rooted : (b : Bool) (words : List (List ℕ)) (root : ℕ) (b' : Phrase) →
    (if b then in_body words root b' else None) ≡ procedure_by words b' (only_if b root)
rooted true words root b = refl
rooted false words root b = refl

pub in_one : (words : List (List ℕ)) (at : ℕ) (h b : Phrase) →
    in_program words (body nothing (more (proc at h b) nothing)) ≡ procedure_by words b (root_in h)
in_one words at (head place (more (var name there) (more (var root here) nothing))) b = rooted (nat_eq name script_word && not (nat_eq root fd_word)) words root b
in_one words at (head place (more (var name there) (more (var root here) (more p ps)))) b = refl
in_one words at (head place (more (var name there) (more q nothing))) b = refl
in_one words at (head place (more (var name there) (more q (more r ps)))) b = refl
in_one words at (head place (more (var name there) nothing)) b = refl
in_one words at (head place (more p (more q nothing))) b = refl
in_one words at (head place (more p (more q (more r ps)))) b = refl
in_one words at (head place (more p nothing)) b = refl
in_one words at (head place nothing) b = refl
in_one words at h b = refl

pub in_alone : (words : List (List ℕ)) (ss : Phrases) → in_program words (body nothing ss) ≡ text_by words (one_of ss)
in_alone words nothing = refl
in_alone words (more s nothing) = refl
in_alone words (more (proc at (head place (more (var name there) (more (var root here) nothing))) b) (more t ss)) = refl
in_alone words (more s (more t ss)) = refl
