-- The kernel code of a finite-domain script (the kernel language, CTM 2.3; translation into it, CTM 2.6; scripts, CTM 12.2; Schulte,
-- LNCS 2302, chapter 2).
use Rattle.std.specs.Prelude.{◌≡◌, ◌<◌, ℕ, nat_eq, true, false, List, [], ◌∷◌, length, map, slice_index_or, Some}
use Rattle.oz_language.specs.declared.kernel.Constant.{Constant}
use Rattle.oz_language.specs.declared.kernel.Identifier.TheVariants.{Word}
use Rattle.oz_language.specs.Grammar.{Phrase, Phrases}
use Rattle.oz_language.specs.Refusals.{Program}
use Rattle.oz_language.specs.Kernels.{just, ◌⨾◌}
use Rattle.oz_language.specs.Kernels as kernel
use Rattle.oz_language.specs.SimpleTexts.{form_of, is_bars}
use Rattle.oz_language.specs.Translation.{value, translated, translated_each, scoped, statements_of}
use Rattle.fd_form.specs.declared.script.FdScript.{FdScript}
use Rattle.fd_form.specs.FdScripts.{are_apart, are_fields, fd_form, stated}
use Rattle.fd_form.specs.Parts.{script_word, fd_word, record_of}

-- identifiers of which no word comes twice
abbrev pub Differ : List ℕ → Type 0
Differ vs = (x y : ℕ) → x < length vs → y < length vs → slice_index_or vs x 0 ≡ slice_index_or vs y 0 → x ≡ y

-- the expression of a script's record: its label, and its fields in the order of arities, which are the script's variables
pub record IsRecord (words : List (List ℕ)) (s : FdScript) (answer : Phrase) : Type 0 where
  pub fields : List (Constant × ℕ)
  pub read : record_of words answer ≡ Some (s.label, fields)
  pub features : map (λ (f : Constant × ℕ). f.0) fields ≡ s.features
  pub variables : map (λ (f : Constant × ℕ). f.1) fields ≡ s.variables
  pub no_cell : is_bars (form_of words s.label s.features) ≡ false

-- `Script` is a procedure whose body makes the variables, then the record, and then what the statements make one after another. The
-- root is not `FD`, and the names that are declared are those of the variables, none of them another's
pub record IsShaped (p : Program) (s : FdScript) : Type 0 where
  pub root : ℕ
  pub names : List ℕ
  pub answer : Phrase
  pub statements : Phrases
  pub other : nat_eq root fd_word ≡ false
  pub apart : are_apart (root ∷ script_word ∷ fd_word ∷ []) names ≡ true
  pub declared : are_fields names s.variables ≡ true
  pub different : Differ s.variables
  pub count : s.problem.count ≡ length s.variables
  pub recorded : IsRecord p.words s answer
  pub states : stated root s.variables statements ≡ Some (s.problem.items, s.problem.distribution)
  pub code : statements_of p ≡ just (kernel.bind_procedure (Word script_word) (Word root ∷ []) (scoped (map Word names)
      ((translated p.words (value (Word root)) 1 answer).code ⨾ (translated_each p.words (translated p.words (value (Word root)) 1 answer).next statements).code)))

-- and this is the kernel code of every program that is a finite-domain script
abbrev pub ScriptsShaped : Type 0
ScriptsShaped = (p : Program) (s : FdScript) → fd_form p ≡ Some s → IsShaped p s
