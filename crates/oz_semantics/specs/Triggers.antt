-- By-need computations (CTM 4.5): when the variable of a trigger is needed, and what follows.
use Rattle.std.specs.Prelude.{ℕ, zero, suc, Bool, not, ◌&&◌, ◌||◌, if◌then◌else◌, is_some, List, [], ◌∷◌, map, filter, length}
use Rattle.std.specs.List.{list_any, fold, sum_by}
use Rattle.oz_base.specs.declared.names.Ident.{Ident}
use Rattle.oz_language.specs.declared.kernel.Statement.{Statement}
use Rattle.oz_semantics.specs.Store.{View, same, domain_of, is_determined}
use Rattle.oz_semantics.specs.Configurations.{is_open, view, spawning, applying}
use Rattle.oz_semantics.specs.Spaces.{states_of, waited_in}
use Rattle.oz_semantics.specs.declared.configuration.Trigger.{Trigger}
use Rattle.oz_semantics.specs.declared.configuration.Layer.{Layer}

-- the variable is determined or has a domain in what the trigger's own space sees, or a thread of that space waits for a variable that is equal to it
abbrev pub is_needed : View → List Ident → Trigger → Bool
is_needed view waited t = is_determined view t.variable || is_some (domain_of view t.variable) || list_any (same view t.variable) waited

abbrev pub is_needed_in : List Statement → List Layer → Layer → Trigger → Bool
is_needed_in statements layers l t = is_open l.status && is_needed (view layers l.space) (waited_in statements layers (states_of statements layers) l) t

-- the trigger's thread, which applies its procedure to its variable
abbrev pub beginning : Layer → Trigger → Layer
beginning l t = spawning (applying t.procedure t.variable ∷ []) l

-- each trigger of the layer that is needed gives way to its thread
abbrev pub fired : List Statement → List Layer → Layer → Layer
fired statements layers l =
    fold beginning (record l { triggers = filter (λ t. not (is_needed_in statements layers l t)) l.triggers }) (filter (is_needed_in statements layers l) l.triggers)

abbrev pub has_needed : List Statement → List Layer → Layer → Bool
has_needed statements layers l = list_any (is_needed_in statements layers l) l.triggers

-- at most so many rounds; each takes one trigger away at least
unfoldable pub fired_for : List Statement → ℕ → List Layer → List Layer
fired_for statements zero layers = layers
fired_for statements (suc n) layers =
    if list_any (has_needed statements layers) layers then fired_for statements n (map (fired statements layers) layers) else layers

-- until no trigger that is left is needed
abbrev pub triggered : List Statement → List Layer → List Layer
triggered statements layers = fired_for statements (sum_by (λ (l : Layer). length l.triggers) layers) layers
