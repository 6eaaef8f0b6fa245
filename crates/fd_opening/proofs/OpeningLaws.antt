-- The opening of a program: what its top is told, and its environment.
use Rattle.std.proofs.Common.{◌≡◌, ◌+◌, true, List, [], ◌∷◌, ◌++◌, map, flat_map, Contains, None, unwrap_or, codes, refl, ◌∙◌, ap, arith}
use Rattle.std.specs.List.{range_with_len}
use Rattle.environments.specs.Environments.{Environment, code, bound, binding, nowhere}
use Rattle.environments.proofs.RecentLaws.{get_here, get_there}
use Rattle.oz_base.specs.declared.names.Ident.{Ident}
use Rattle.oz_language.specs.declared.token.Literal.TheVariants.{Atom}
use Rattle.oz_language.specs.declared.kernel.Constant.TheVariants as constant
use Rattle.oz_language.specs.declared.kernel.Identifier.{Identifier}
use Rattle.oz_language.specs.declared.kernel.Identifier.TheVariants.{Word}
use Rattle.oz_language.specs.declared.kernel.Kernel.{Kernel}
use Rattle.oz_semantics.specs.Names.{named}
use Rattle.oz_semantics.specs.Store.{is_consistent, named_by}
use Rattle.oz_semantics.specs.Configurations.{frames_of, spawning}
use Rattle.oz_semantics.specs.Answers.{Acts, GivesVariable}
use Rattle.oz_semantics.specs.Builtins.{rows, selects}
use Rattle.oz_semantics.specs.Settling.{settled}
use Rattle.oz_semantics.specs.Runs.{builtin_tells, builtin_names, naming, fd_record, fd_number, opening_environment, top_layer, left_by, opening}
use Rattle.oz_semantics.specs.Search.{script_variable}
use Rattle.oz_semantics.specs.declared.value.Builtin.TheVariants.{Distinct, Distribute}
use Rattle.oz_semantics.specs.declared.value.Value.{Value}
use Rattle.oz_semantics.specs.declared.value.Value.TheVariants as value
use Rattle.oz_semantics.specs.declared.value.Tell.{Tell}
use Rattle.oz_semantics.specs.declared.value.Tell.TheVariants.{Is}
use Rattle.fd_views.specs.Views.{IsPlain, HasValue}
use Rattle.fd_form.specs.Parts.{script_word, fd_word, distinct_word, distribute_word}
use Rattle.fd_opening.proofs.ValueTells.{FieldsTop}
use Rattle.fd_opening.proofs.RowTells.{parts_top, first_fits, told_fits, told_plain, told_known, told_named, fd_there, row_there}

-- ---- environments

bound_first : (x : Identifier) (v : Ident) (e : Environment) → bound (binding x v e) x ≡ v
bound_first x v e = ap (λ o. unwrap_or o nowhere) (get_here e (code x) (code x) v refl)

bound_later : (x y : Identifier) (v : Ident) (e : Environment) → (code x ≡ code y → ⊥) → bound (binding x v e) y ≡ bound e y
bound_later x y v e n = ap (λ o. unwrap_or o nowhere) (get_there e (code x) (code y) v n)

-- ---- what all programs open with

pub opening_tells : List Tell
opening_tells = builtin_tells 1 rows ++ Is (named [] fd_number) fd_record ∷ []

pub opening_scope : Environment
opening_scope = opening_environment

fields_top : FieldsTop fd_record
fields_top y c = parts_top 1 rows y c

pub opening_fits : is_consistent opening_tells ≡ true
unfolding opening_tells
opening_fits = first_fits rows fd_record fd_record fields_top fields_top

-- the opening is that of a layer with these
pub opening_is : (k : Kernel) → opening k ≡ left_by (settled k.statements None 0 (record { layers = spawning (frames_of opening_scope k.body) (record top_layer { tells = opening_tells }) ∷ []; queue = []; shown = [] }))
unfolding opening_tells opening_scope
opening_is k = refl

-- `Script` and `FD` stand for their variables
pub script_is : bound opening_scope (Word script_word) ≡ script_variable
unfolding opening_scope
script_is = bound_first (Word script_word) script_variable (naming (codes "FD") fd_number (builtin_names 1 rows))

words_apart : code (Word script_word) ≡ code (Word fd_word) → ⊥
words_apart e = absurd (omega (arith, e))

pub fd_is : bound opening_scope (Word fd_word) ≡ named [] fd_number
unfolding opening_scope
fd_is =
    bound_later (Word script_word) (Word fd_word) script_variable (naming (codes "FD") fd_number (builtin_names 1 rows)) words_apart
    ∙ bound_first (Word fd_word) (named [] fd_number) (builtin_names 1 rows)

-- ---- what is told once `Script` has a value

abbrev pub with_script : Value → List Tell
with_script script = opening_tells ++ Is script_variable script ∷ []

module _ (script : Value) (script_top : FieldsTop script) where
  pub script_fits : is_consistent (with_script script) ≡ true
  unfolding opening_tells
  script_fits = told_fits rows fd_record script fields_top script_top

  pub script_plain : IsPlain (with_script script) []
  unfolding opening_tells
  script_plain = told_plain rows fd_record script fields_top script_top

  pub script_known : (x : Ident) → Contains (map (named []) (range_with_len 0 (1 + fd_number))) x → (v : Value) × HasValue (with_script script) x v
  unfolding opening_tells
  script_known = told_known rows fd_record script fields_top script_top

  pub script_named : (x : Ident) → Contains (flat_map named_by (with_script script)) x → x.space ≡ []
  unfolding opening_tells
  script_named = told_named rows fd_record script fields_top script_top

  pub fd_told : Contains (with_script script) (Is (named [] fd_number) fd_record)
  unfolding opening_tells
  fd_told = fd_there rows fd_record script fields_top script_top

  pub row_told : (u : Tell) → Contains (builtin_tells 1 rows) u → Contains (with_script script) u
  unfolding opening_tells
  row_told = row_there rows fd_record script fields_top script_top

-- ---- the fields of `FD`

pub distinct_told : Contains (builtin_tells 1 rows) (Is (named [] 35) (value.Builtin Distinct))
distinct_told = (34, omega arith, refl)

pub distribute_told : Contains (builtin_tells 1 rows) (Is (named [] 36) (value.Builtin Distribute))
distribute_told = (35, omega arith, refl)

pub distinct_found : (z : Ident) → selects z fd_record (value.Constant (constant.Literal (Atom distinct_word))) ≡ Acts (GivesVariable z (named [] 35))
distinct_found z = refl

pub distribute_found : (z : Ident) → selects z fd_record (value.Constant (constant.Literal (Atom distribute_word))) ≡ Acts (GivesVariable z (named [] 36))
distribute_found z = refl
