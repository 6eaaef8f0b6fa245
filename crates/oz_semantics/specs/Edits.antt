-- Edits of the tree of spaces (CTM 12.5; Schulte 4): creation, injection, commitment, copies and merging. None of them looks at the queue,
-- which follows after the step.
use Rattle.std.specs.Prelude.{ℕ, ◌+◌, ◌-◌, ◌==◌, Bool, not, if◌then◌else◌, is_some, List, [], ◌∷◌, ◌++◌, Option, Some, None, map, filter, length, drop, slice_get, unwrap_or}
use Rattle.std.specs.List.{fold, filter_map}
use Rattle.oz_base.specs.Lists.{list_eq, edit_first, first}
use Rattle.oz_base.specs.declared.names.Ident.{Ident}
use Rattle.oz_language.specs.declared.kernel.Statement.{Statement}
use Rattle.oz_semantics.specs.Names.{named, root_of, is_below, is_properly_below}
use Rattle.environments.specs.Environments.{unbound}
use Rattle.oz_semantics.specs.Configurations.{layer_of, in_layer, telling, spawning, applying, new_layer, placed, next_child, counting_child}
use Rattle.oz_semantics.specs.Sights.{Sight, Offer, Bodies, Number, Parts, offer_of}
use Rattle.oz_semantics.specs.Statements.{stack_answer}
use Rattle.oz_semantics.specs.Readiness.{answer_ready}
use Rattle.oz_semantics.specs.Spaces.{sight}
use Rattle.oz_semantics.specs.Renamings.{Renaming, renamed_tell, renamed_layer}
use Rattle.oz_semantics.specs.declared.configuration.Frame.{Frame}
use Rattle.oz_semantics.specs.declared.configuration.Thread.{Thread}
use Rattle.oz_semantics.specs.declared.configuration.Code.TheVariants as code
use Rattle.oz_semantics.specs.declared.configuration.Next.{Next}
use Rattle.oz_semantics.specs.declared.configuration.Status.TheVariants as status
use Rattle.oz_semantics.specs.declared.value.Tell.{Tell}
use Rattle.oz_semantics.specs.declared.value.Tell.TheVariants.{Equal}
use Rattle.oz_semantics.specs.declared.configuration.Layer.{Layer}

-- Creation and injection

-- a procedure is applied to the root variable of a space, by a new thread
abbrev pub starting : Ident → Layer → Layer
starting procedure l = spawning (applying procedure (root_of l.space) ∷ []) l

abbrev pub injected : List ℕ → Ident → List Layer → List Layer
injected space procedure layers = in_layer space (starting procedure) layers

-- a new child of a space
abbrev pub created : List ℕ → Ident → List Layer → List Layer
created parent procedure layers =
    placed (starting procedure (new_layer (next_child (layer_of layers parent)))) (in_layer parent counting_child layers)

-- Commitment

-- the i-th alternative, from 1, in the place of the statement that offers it
abbrev pub chosen : ℕ → List Frame → Offer → List Frame
chosen i stack (Bodies bodies) = unwrap_or (slice_get bodies (i - 1)) [] ++ drop 1 stack
chosen i stack (Number n x) = record { code = code.Bind x i; environment = unbound } ∷ drop 1 stack
chosen i stack (Parts one other) = stack

-- what is told with it
abbrev pub chosen_tells : ℕ → Option Offer → List Tell
chosen_tells i (Some (Parts one other)) = (if i == 1 then one else other) ∷ []
chosen_tells i (Some (Bodies bodies)) = []
chosen_tells i (Some (Number n x)) = []
chosen_tells i None = []

abbrev pub choosing : ℕ → Thread → Option Offer → Thread
choosing i t None = t
choosing i t (Some offer) = record t { frames = chosen i t.frames offer }

abbrev pub thread_offer : Sight → Thread → Option Offer
thread_offer s t = offer_of (answer_ready (stack_answer s t.frames))

-- of the threads that offer, that of least number goes on with its i-th alternative
abbrev pub committing : Sight → ℕ → Layer → Layer
committing s i l =
    telling (chosen_tells i (first (filter_map (thread_offer s) l.threads)))
    (record l { threads = edit_first (λ t. is_some (thread_offer s t)) (λ t. choosing i t (thread_offer s t)) l.threads })

abbrev pub committed : List Statement → List ℕ → ℕ → List Layer → List Layer
committed statements space i layers = in_layer space (committing (sight statements layers space) i) layers

-- Copies: the layers of a space and of those below it, in whose names the space's name gives way to another

abbrev pub moved : List ℕ → List ℕ → List ℕ → List ℕ
moved from to space = if is_below from space then to ++ drop (length from) space else space

abbrev pub moving : List ℕ → List ℕ → Renaming
moving from to =
    let ident : Ident → Ident = λ x. record x { space = moved from to x.space } in
    record { variable = ident; procedure = ident; name = ident; cell = ident; port = ident; space = moved from to }

abbrev pub all_placed : List Layer → List Layer → List Layer
all_placed news layers = fold (λ ls l. placed l ls) layers news

abbrev pub is_in : List ℕ → Layer → Bool
is_in space l = is_below space l.space

abbrev pub is_under : List ℕ → Layer → Bool
is_under space l = is_properly_below space l.space

-- a new child of the parent is as this one is
abbrev pub copied : List ℕ → List ℕ → List Layer → List Layer
copied parent space layers =
    all_placed (map (renamed_layer (moving space (next_child (layer_of layers parent)))) (filter (is_in space) layers))
    (in_layer parent counting_child layers)

-- Merging: what is in the layer s goes into that of its parent p, each kind behind the numbers that p gave out. The numbers of variables,
-- cells and ports begin with 0, and all others with 1. The spaces below s become spaces below p.

-- the number with which the name of a space goes on behind that of its parent, and what follows
abbrev pub raised_child : List ℕ → ℕ → List ℕ → List ℕ
raised_child parent by [] = parent
raised_child parent by (n ∷ ns) = parent ++ (n + by) ∷ ns

abbrev pub space_into : Layer → Layer → List ℕ → List ℕ
space_into s p space = if is_properly_below s.space space then raised_child p.space (p.next.child - 1) (drop (length s.space) space) else space

abbrev pub ident_into : Layer → Layer → ℕ → Ident → Ident
ident_into s p by x = if list_eq x.space s.space then named p.space (x.number + by) else record x { space = space_into s p x.space }

abbrev pub merging : Layer → Layer → Renaming
merging s p =
    record {
      variable = ident_into s p p.next.variable;
      procedure = ident_into s p (p.next.procedure - 1);
      name = ident_into s p (p.next.name - 1);
      cell = ident_into s p (length p.cells);
      port = ident_into s p (length p.ports);
      space = space_into s p;
    }

-- what the parent is told: what s was told, and that x is the former root variable of s
abbrev pub merge_tells : Layer → Layer → Ident → List Tell
merge_tells s p x = map (renamed_tell (merging s p)) s.tells ++ Equal x ((merging s p).variable (root_of s.space)) ∷ []

-- the next numbers grow by as many as s gave out
abbrev pub next_after : Next → Next → Next
next_after s p =
    record {
      variable = p.variable + s.variable;
      thread = p.thread + (s.thread - 1);
      procedure = p.procedure + (s.procedure - 1);
      name = p.name + (s.name - 1);
      child = p.child + (s.child - 1);
    }

-- the parent's layer with all else that is in s, under its new names already
abbrev pub joined : Layer → Layer → Layer
joined s p =
    record p {
      threads = p.threads ++ map (λ (t : Thread). record t { number = t.number + (p.next.thread - 1) }) s.threads;
      triggers = p.triggers ++ s.triggers;
      propagators = p.propagators ++ s.propagators;
      cells = p.cells ++ s.cells;
      ports = p.ports ++ s.ports;
      next = next_after s.next p.next;
    }

-- a merged space keeps its name and nothing else
abbrev pub merged_away : Layer → Layer
merged_away s = record (new_layer s.space) { status = status.Merged }

abbrev pub taken_into : Layer → Layer → List Layer → List Layer
taken_into s p layers =
    all_placed (map (renamed_layer (merging s p)) (filter (is_under s.space) layers))
    (in_layer p.space (joined (renamed_layer (merging s p) s)) (in_layer s.space merged_away (filter (λ l. not (is_under s.space l)) layers)))

-- the space becomes a part of its parent, which was told `merge_tells` before
abbrev pub taken_in : List ℕ → List ℕ → List Layer → List Layer
taken_in parent space layers = taken_into (layer_of layers space) (layer_of layers parent) layers
