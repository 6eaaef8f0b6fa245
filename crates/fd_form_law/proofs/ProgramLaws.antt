-- The problem of a program that has the form.
use Rattle.std.proofs.Common.{◌≡◌, ℕ, nat_eq, ◌&&◌, true, not, List, Some, option_and_then}
use Rattle.oz_language.specs.declared.token.Connective.TheVariants as connective
use Rattle.oz_language.specs.Grammar.{Phrase, nothing, more, var, connected, stmt, decls, is_body, body, proc, head}
use Rattle.fd_form.specs.FdScripts as form
use Rattle.fd_form.specs.Parts as parts
use Rattle.fd_form.specs.declared.script.FdScript.{FdScript}
use Rattle.fd_form.specs.Parts.{both, each, script_word, fd_word}
use Rattle.fd_form.specs.FdScripts.{fd_form}
use Rattle.fd_domain.proofs.SetLaws.{and_left, and_right}
use Rattle.fd_trees.specs.Scripts.{IsProblem}
use Rattle.fd_form_law.specs.Laws.{FormIsProblem}
use Rattle.fd_form_law.proofs.FormLaws.{if_some, then_some, record_problem}

body_problem : (words : List (List ℕ)) (root : ℕ) (p : Phrase) (s : FdScript) → is_body p ≡ true → form.in_body words root p ≡ Some s → IsProblem s.problem
body_problem words root (body ds (more (connected connective.Equates r e) ss)) s h q =
    let fields = both (each form.bare_variable ds) (parts.record_of words e) in
    let i = if_some (parts.is_named root r) (option_and_then (form.with_record words root ss) fields) s q in
    let t = then_some (form.with_record words root ss) fields s i.1 in
    record_problem words root ss t.0 s (and_right (stmt (connected connective.Equates r e)) _ (and_right (decls ds) _ h)) t.2
body_problem words root p s h q = absurd (cc)

program_problem : (words : List (List ℕ)) (p : Phrase) (s : FdScript) → is_body p ≡ true → form.in_program words p ≡ Some s → IsProblem s.problem
program_problem words (body nothing (more (proc at (head place (more (var name there) (more (var root here) nothing))) b) nothing)) s h e =
    let i = if_some (nat_eq name script_word && not (nat_eq root fd_word)) (form.in_body words root b) s e in
    body_problem words root b s (and_left (is_body b) true h) i.1
program_problem words p s h e = absurd (cc)

pub form_is_problem : FormIsProblem
unfolding fd_form
form_is_problem p s b e = program_problem p.words p.phrase s b e
