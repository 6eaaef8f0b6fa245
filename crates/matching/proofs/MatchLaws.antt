-- What a match comes to, node by node.
use Rattle.std.proofs.Common.{Bor, ◌≡◌, inl, inr, Bool, true, false, if◌then◌else◌, List, [], ◌∷◌, ◌++◌, Option, Some, None, refl, sym, ap, ◌∙◌}
use Rattle.oz_base.specs.declared.names.Ident.{Ident}
use Rattle.environments.specs.Environments.{Environment, binding}
use Rattle.oz_language.specs.declared.kernel.Piece.{Piece}
use Rattle.oz_language.specs.declared.kernel.Piece.TheVariants as piece
use Rattle.oz_semantics.specs.Store.{value_of}
use Rattle.oz_semantics.specs.Values.{fields_of}
use Rattle.oz_semantics.specs.Matching.{Match, Matches, Differs, is_as_asked, match_value, match_node, with_piece, matched}
use Rattle.oz_semantics.specs.declared.value.Value.{Value}
use Rattle.oz_semantics.specs.declared.value.Tell.{Tell}
use Rattle.matching.specs.Verdicts.{waits_in}
use Rattle.matching.specs.Lefts.{subjects_of, IsOver, Takes}
use Rattle.matching.specs.Steps.{after_step}
use Rattle.matching.specs.declared.nodes.Step.{Step}
use Rattle.matching.specs.declared.nodes.Step.TheVariants as step
use Rattle.matching.specs.declared.left.Left.{Left}

-- Nothing is left

by_nodes : (view : List Tell) (ps : List Piece) (xs : List Ident) (e : Environment) → ps ≡ [] → matched view ps xs e ≡ Matches e
by_nodes view [] xs e h = refl
by_nodes view (p ∷ ps) xs e h = cc

by_subjects : (view : List Tell) (ps : List Piece) (xs : List Ident) (e : Environment) → xs ≡ [] → matched view ps xs e ≡ Matches e
by_subjects view [] xs e h = refl
by_subjects view (p ∷ ps) [] e h = refl
by_subjects view (p ∷ ps) (x ∷ xs) e h = cc

pub when_over : (view : List Tell) (l : Left) (e : Environment) → IsOver l → matched view l.nodes.now (subjects_of l) e ≡ Matches e
when_over view l e (inl h) = by_nodes view l.nodes.now (subjects_of l) e h
when_over view l e (inr h) = by_subjects view l.nodes.now (subjects_of l) e h

-- A node is taken

pub when_taken : (view : List Tell) (old new : Left) (p : Piece) (x : Ident) (s : Step) (e : Environment) → Takes old new p x → ((next : List Ident → Match) → match_node view next x p ≡ after_step next x s)
    → matched view old.nodes.now (subjects_of old) e ≡ after_step (λ fields. matched view new.nodes.now (fields ++ subjects_of new) (with_piece p x e)) x s
when_taken view old new p x s e t h =
    ap (λ ps. matched view ps (subjects_of old) e) t.nodes
    ∙ ap (λ xs. matched view (p ∷ new.nodes.now) xs e) t.subjects
    ∙ h (λ fields. matched view new.nodes.now (fields ++ subjects_of new) (with_piece p x e))

-- What a match waits for is the same in every environment

value_apart : (f g : List Ident → Match) (x : Ident) (p : Piece) → ((xs : List Ident) → waits_in (f xs) ≡ waits_in (g xs)) → (o : Option Value) → waits_in (match_value f x p o) ≡ waits_in (match_value g x p o)
value_apart f g x p h None = refl
value_apart f g x p h (Some v) = by (is_as_asked p v)
  where
    by : (b : Bool) → waits_in (if b then f (fields_of v) else Differs) ≡ waits_in (if b then g (fields_of v) else Differs)
    by true = h (fields_of v)
    by false = refl

pub waits_apart : (view : List Tell) (ps : List Piece) (xs : List Ident) (d e : Environment) → waits_in (matched view ps xs d) ≡ waits_in (matched view ps xs e)
waits_apart view [] xs d e = refl
waits_apart view (p ∷ ps) [] d e = refl
waits_apart view (piece.Variable name ∷ ps) (x ∷ xs) d e = waits_apart view ps xs (binding name x d) (binding name x e)
waits_apart view (piece.Any ∷ ps) (x ∷ xs) d e = waits_apart view ps xs d e
waits_apart view (piece.Constant c ∷ ps) (x ∷ xs) d e =
    value_apart (λ fields. matched view ps (fields ++ xs) d) (λ fields. matched view ps (fields ++ xs) e) x (piece.Constant c)
    (λ fields. waits_apart view ps (fields ++ xs) d e) (value_of view x)
waits_apart view (piece.Record label features ∷ ps) (x ∷ xs) d e =
    value_apart (λ fields. matched view ps (fields ++ xs) d) (λ fields. matched view ps (fields ++ xs) e) x (piece.Record label features)
    (λ fields. waits_apart view ps (fields ++ xs) d e) (value_of view x)

-- what is left behind a node that goes on with its fields waits for what was left before it
pub taken_waits : (view : List Tell) (old taken new : Left) (p : Piece) (x : Ident) (fields : Bor (List Ident)) (e : Environment) → Takes old taken p x → ((next : List Ident → Match) → match_node view next x p ≡ next fields.now)
    → new.nodes.now ≡ taken.nodes.now → subjects_of new ≡ fields.now ++ subjects_of taken
    → waits_in (matched view new.nodes.now (subjects_of new) e) ≡ waits_in (matched view old.nodes.now (subjects_of old) e)
taken_waits view old taken new p x fields e t h nodes subjects =
    ap (λ ps. waits_in (matched view ps (subjects_of new) e)) nodes
    ∙ ap (λ xs. waits_in (matched view taken.nodes.now xs e)) subjects
    ∙ waits_apart view taken.nodes.now (fields.now ++ subjects_of taken) e (with_piece p x e)
    ∙ ap waits_in (sym (when_taken view old taken p x (step.Fields fields) e t h))
