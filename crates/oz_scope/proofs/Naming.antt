-- What phrases declare, and how it is taken away again.
use Rattle.std.proofs.Common.{◌≡◌, ℕ, ◌-◌, List, [], ◌∷◌, ◌++◌, Option, Some, None, length, drop, map, length-append, refl, ap, ◌∙◌}
use Rattle.std.proofs.Math.Nat.{add-sub_cancel}
use Rattle.std.proofs.Math.Seq.{drop-append_seam}
use Rattle.oz_language.specs.Grammar.{Phrase, Phrases, nothing, more, var, head, connected, proc, fun, local, clause, body, of_list}
use Rattle.oz_language.specs.declared.token.Connective.TheVariants.{Equates}
use Rattle.oz_language.specs.Refusals.{declaring, declared_by, faults, name_in, parameters_in, variables_in, with_name, with_names}
use Rattle.oz_syntax.specs.declared.phrase.Phrase.{Phrase as Tree}
use Rattle.oz_syntax.specs.View.{view, views}
use Rattle.oz_scope.specs.Declares.{head_faults, name_of, scope_in}

-- a head has the name that it begins with
pub head_name : (at : ℕ) (hs : Phrases) → name_in (head at hs) ≡ name_of hs
head_name at nothing = refl
head_name at (more (var name place) hs) = refl
head_name at (more p hs) = refl

-- the faults of a head
pub faults_head : (scope : List ℕ) (at : ℕ) (hs : Phrases) → faults scope (head at hs) ≡ head_faults scope hs
faults_head scope at nothing = refl
faults_head scope at (more p ps) = refl

-- an equation declares its left side
pub equation_declares : (p e : Phrase) → declared_by (connected Equates p e) ≡ name_of (more p nothing)
equation_declares (var name at) e = refl
equation_declares p e = refl

pub declaring_last : (ps : List Tree) (p : Tree) (scope : List ℕ) → declaring (of_list (views (ps ++ p ∷ []))) scope ≡ declaring (of_list (views ps)) (with_name (declared_by (view p)) scope)
declaring_last [] p scope = refl
declaring_last (q ∷ qs) p scope = ap (with_name (declared_by (view q))) (declaring_last qs p scope)

-- a name is added to the scope, where there is one
with_name_adds : (name : Option ℕ) (names scope added : List ℕ) → names ≡ added ++ scope → (more_added : List ℕ) × (with_name name names ≡ more_added ++ scope)
with_name_adds None names scope added h = (added, h)
with_name_adds (Some name) names scope added h = (name ∷ added, ap (λ s. name ∷ s) h)

-- declarations are added to the scope
declaring_adds : (ps : Phrases) (scope : List ℕ) → (added : List ℕ) × (declaring ps scope ≡ added ++ scope)
declaring_adds nothing scope = ([], refl)
declaring_adds (more p ps) scope = with_name_adds (declared_by p) (declaring ps scope) scope (declaring_adds ps scope).0 (declaring_adds ps scope).1

added_left : (added scope : List ℕ) → drop (length (added ++ scope) - length scope) (added ++ scope) ≡ scope
added_left added scope =
    ap (λ n. drop n (added ++ scope)) (ap (λ n. n - length scope) (length-append added scope) ∙ add-sub_cancel (length added) (length scope))
    ∙ drop-append_seam added scope

names_add : (xs : List (ℕ × ℕ)) (scope : List ℕ) → (added : List ℕ) × (with_names xs scope ≡ added ++ scope)
names_add xs scope = (map (λ (x : ℕ × ℕ). x.0) xs, refl)

scope_in-adds : (p : Phrase) (scope : List ℕ) → (added : List ℕ) × (scope_in p scope ≡ added ++ scope)
scope_in-adds (proc at h b) scope = names_add (parameters_in h) scope
scope_in-adds (fun at lazy h b) scope = names_add (parameters_in h) scope
scope_in-adds (local at ds b) scope = declaring_adds ds scope
scope_in-adds (clause p b) scope = names_add (variables_in p) scope
scope_in-adds (body ds ss) scope = declaring_adds ds scope
scope_in-adds p scope = ([], refl)

-- and taken away again
pub scope_left : (p : Phrase) (scope : List ℕ) → drop (length (scope_in p scope) - length scope) (scope_in p scope) ≡ scope
scope_left p scope = let adds = scope_in-adds p scope in rw adds.1 (added_left adds.0 scope)

-- variables come into scope from the last to the first
pub entered_last : (xs : List (ℕ × ℕ)) (name at : ℕ) (scope : List ℕ) → with_names (xs ++ (name, at) ∷ []) scope ≡ with_names xs (name ∷ scope)
entered_last [] name at scope = refl
entered_last (x ∷ xs) name at scope = ap (λ s. x.0 ∷ s) (entered_last xs name at scope)
