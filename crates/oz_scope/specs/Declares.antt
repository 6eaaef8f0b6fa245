-- What begins a head, the field that one phrase is, what is in scope in the innermost part of a phrase, and the names that every
-- text has.
use Rattle.std.specs.Prelude.{ℕ, zero, suc, List, [], ◌∷◌, ◌++◌, Option, Some, None}
use Rattle.oz_language.specs.Grammar.{Phrase, Phrases, nothing, more, var, keyed, proc, fun, local, clause, body}
use Rattle.oz_language.specs.Refusals.{declaring, faults, name_faults, parameters_in, variables_in, variables_in_each, with_names}
use Rattle.oz_language.specs.declared.kernel.Constant.{Constant}
use Rattle.oz_language.specs.declared.fault.Fault.{Fault}

-- the variable that phrases begin with
abbrev pub name_of : Phrases → Option ℕ
name_of (more (var name at) hs) = Some name
name_of hs = None

-- the key of a field, with its place
abbrev pub key_of : Phrase → Option (Constant × ℕ)
key_of (keyed k at e) = Some (k, at)
key_of e = None

-- the faults of a head with these names
abbrev pub head_faults : List ℕ → Phrases → List Fault
head_faults scope nothing = []
head_faults scope (more p ps) = faults scope p ++ name_faults (variables_in_each ps)

-- the names in scope in the innermost part of a phrase
abbrev pub scope_in : Phrase → List ℕ → List ℕ
scope_in (proc at h b) scope = with_names (parameters_in h) scope
scope_in (fun at lazy h b) scope = with_names (parameters_in h) scope
scope_in (local at ds b) scope = declaring ds scope
scope_in (clause p b) scope = with_names (variables_in p) scope
scope_in (body ds ss) scope = declaring ds scope
scope_in p scope = scope

-- so many numbers from this one on
abbrev pub numbers_from : ℕ → ℕ → List ℕ
numbers_from n zero = []
numbers_from n (suc count) = n ∷ numbers_from (suc n) count
