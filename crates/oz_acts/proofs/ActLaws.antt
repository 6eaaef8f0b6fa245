-- What acts come to.
use Rattle.std.proofs.Common.{◌≡◌, ℕ, ◌-◌, List, [], ◌∷◌, length, map, refl, sym, ap, ◌∙◌, arith}
use Rattle.std.specs.List.{range_with_len}
use Rattle.oz_base.specs.declared.names.Ident.{Ident}
use Rattle.environments.specs.Environments.{Environment, binding_all}
use Rattle.oz_language.specs.declared.kernel.Identifier.{Identifier}
use Rattle.oz_semantics.specs.Names.{named}
use Rattle.oz_semantics.specs.Terms.{Term, term_tells, nodes_inside}
use Rattle.oz_semantics.specs.Configurations.{layer_of, fresh_variables, frames_of}
use Rattle.oz_semantics.specs.Effects.{procedure_made}
use Rattle.oz_semantics.specs.declared.value.Procedure.{Procedure}
use Rattle.oz_semantics.specs.declared.value.Tell.{Tell}
use Rattle.oz_semantics.specs.declared.configuration.Frame.{Frame}
use Rattle.oz_semantics.specs.declared.configuration.Next.{Next}
use Rattle.oz_semantics.specs.declared.configuration.Layer.{Layer}
use Rattle.oz_acts.proofs.PlaceLaws.{layer_of_name}

-- the variables that a space gives out next
pub fresh_named : (layers : List Layer) (space : List ℕ) (next : Next) (n : ℕ) → next ≡ (layer_of layers space).next
    → map (named space) (range_with_len next.variable n) ≡ fresh_variables (layer_of layers space) n
fresh_named layers space next n e =
    ap (λ (k : Next). map (named space) (range_with_len k.variable n)) e
    ∙ ap (λ s. map (named s) (range_with_len (layer_of layers space).next.variable n)) (sym (layer_of_name layers space))

-- the frames of a body in which identifiers stand for new variables
pub declared_frames : (layers : List Layer) (space : List ℕ) (next : Next) (names : List Identifier) (body : List ℕ) (environment inner : Environment) (frames : List Frame)
    → next ≡ (layer_of layers space).next → inner ≡ binding_all names (map (named space) (range_with_len next.variable (length names))) environment → frames ≡ frames_of inner body
    → frames ≡ frames_of (binding_all names (fresh_variables (layer_of layers space) (length names)) environment) body
declared_frames layers space next names body environment inner frames e g h =
    h ∙ ap (λ inside. frames_of inside body) (g ∙ ap (λ xs. binding_all names xs environment) (fresh_named layers space next (length names) e))

-- a term has one node less inside
pub nodes_inside-length : (t : Term) → nodes_inside t ≡ length t - 1
nodes_inside-length [] = refl
nodes_inside-length (node ∷ nodes) = omega arith

-- what is told of a term
pub given_tells : (layers : List Layer) (space : List ℕ) (next : Next) (x : Ident) (s t : Term) (tells : List Tell) → next ≡ (layer_of layers space).next → s ≡ t
    → tells ≡ term_tells space next.variable x s → tells ≡ term_tells (layer_of layers space).space (layer_of layers space).next.variable x t
given_tells layers space next x s t tells e f g =
    g ∙ ap (term_tells space next.variable x) f ∙ ap (λ (k : Next). term_tells space k.variable x t) e
    ∙ ap (λ name. term_tells name (layer_of layers space).next.variable x t) (sym (layer_of_name layers space))

-- the procedure value that is made
pub made_procedure : (layers : List Layer) (space own : List ℕ) (next : Next) (parameters : List Identifier) (body : List ℕ) (environment : Environment) → next ≡ (layer_of layers space).next → own ≡ space
    → ◌≡◌ {A = Procedure} (record { name = named own next.procedure; parameters = parameters; body = body; environment = environment }) (procedure_made (layer_of layers space) parameters body environment)
made_procedure layers space own next parameters body environment e f =
    let procedure : List ℕ → ℕ → Procedure = λ s n. record { name = named s n; parameters = parameters; body = body; environment = environment } in
    ap (λ s. procedure s next.procedure) (f ∙ sym (layer_of_name layers space)) ∙ ap (λ (k : Next). procedure (layer_of layers space).space k.procedure) e

-- what a space gives out under a number
pub own_named : (layers : List Layer) (space : List ℕ) (name : Ident) (given number : ℕ) → name ≡ named space given → given ≡ number → name ≡ named (layer_of layers space).space number
own_named layers space name given number e f = e ∙ ap (named space) f ∙ ap (λ s. named s number) (sym (layer_of_name layers space))
