-- The open constructs that the reader's values stand for, and what a step answers.
use Rattle.std.specs.Prelude.{◌≡◌, Bool, true, false, List, [], ◌∷◌, Option, Some, None, Result, Ok, Err}
use Rattle.oz_syntax.specs.View.{view, views}
use Rattle.open_constructs.specs.declared.frame.Opener.{Opener as OpenerKept}
use Rattle.open_constructs.specs.declared.frame.Opener.TheVariants as o
use Rattle.open_constructs.specs.declared.frame.Maker.{Maker as MakerKept}
use Rattle.open_constructs.specs.declared.frame.Maker.TheVariants as m
use Rattle.open_constructs.specs.declared.frame.Kind.{Kind as KindKept}
use Rattle.open_constructs.specs.declared.frame.Kind.TheVariants as read
use Rattle.open_constructs.specs.declared.frame.Frame.{Frame as FrameKept}
use Rattle.open_constructs.specs.declared.frame.Frame.TheVariants as f
use Rattle.open_constructs.specs.declared.error.StepError.{StepError}
use Rattle.open_constructs.specs.declared.error.StepError.TheVariants as e
use Rattle.reader_law.specs.Machine.{Opener, program, declaring, of_local, of_proc, of_fun, of_thread, of_choice, of_then, of_else, of_clause, of_case_else, of_try, of_catch, of_paren, Kind, expression, pattern, side, Maker, making_proc, making_fun, Frame, block, whole, left_of, barred, hashed, dotted, accessing, connecting, relating, fields, key, listing, enclosing, parts, heading, heads, raising, testing, matching, patterns, catching, accepted, Stack}

abbrev pub opener_of : OpenerKept → Opener
opener_of o.Program = program
opener_of (o.Declaring at) = declaring at
opener_of (o.Local at ds) = of_local at (views ds.items)
opener_of (o.Proc at h) = of_proc at (view h.value)
opener_of (o.Fun at lazy h) = of_fun at lazy (view h.value)
opener_of (o.Thread at) = of_thread at
opener_of (o.Choice at w bs) = of_choice at w.states w.values (views bs.items)
opener_of (o.Then at w xs c) = of_then at w.states w.values (views xs.items) (view c.value)
opener_of (o.Else at w xs) = of_else at w.states w.values (views xs.items)
opener_of (o.Clause at c w cs p) = of_clause at (view c.value) w.states w.values (views cs.items) (view p.value)
opener_of (o.CaseElse at c w cs) = of_case_else at (view c.value) w.states w.values (views cs.items)
opener_of o.Try = of_try
opener_of (o.Catch b cs p) = of_catch (view b.value) (views cs.items) (view p.value)
opener_of (o.Paren at) = of_paren at

abbrev pub maker_of : MakerKept → Maker
maker_of (m.Proc at) = making_proc at
maker_of (m.Fun at lazy) = making_fun at lazy

abbrev pub kind_seen : KindKept → Kind
kind_seen read.Expression = expression
kind_seen read.Pattern = pattern
kind_seen read.Side = side

abbrev pub frame_of : FrameKept → Frame
frame_of (f.Block b) = block (opener_of b.opener) b.declares b.states (views b.declarations.items) (views b.phrases.items)
frame_of (f.Whole p w) = whole (view p) w.states w.values
frame_of (f.Left op a) = left_of op (view a.value)
frame_of (f.Barred es) = barred (views es.items)
frame_of (f.Hashed es) = hashed (views es.items)
frame_of (f.Dotted a) = dotted (view a.value)
frame_of (f.Accessing at) = accessing at
frame_of (f.Connecting c a) = connecting c (view a.value)
frame_of (f.Relating r a) = relating r (view a.value)
frame_of (f.Fields r) = fields r.in_pattern r.label r.at (views r.phrases.items)
frame_of (f.Key in_pattern k at) = key in_pattern k at
frame_of (f.Listing l) = listing l.in_pattern l.at (views l.elements.items)
frame_of (f.Enclosing in_pattern at) = enclosing in_pattern at
frame_of (f.Parts at es) = parts at (views es.items)
frame_of (f.Heading k) = heading (maker_of k)
frame_of (f.Heads k at hs) = heads (maker_of k) at (views hs.items)
frame_of (f.Raising at) = raising at
frame_of (f.Testing at w xs) = testing at w.states w.values (views xs.items)
frame_of (f.Matching at) = matching at
frame_of (f.Patterns at c w cs) = patterns at (view c.value) w.states w.values (views cs.items)
frame_of (f.Catching b cs) = catching (view b.value) (views cs.items)
frame_of (f.Accepted p) = accepted (view p)

-- the newest on top
abbrev pub onto_stack : Stack → List FrameKept → Stack
onto_stack k [] = k
onto_stack k (f ∷ fs) = onto_stack (frame_of f ∷ k) fs

abbrev pub stack_of : List FrameKept → Stack
stack_of fs = onto_stack [] fs

-- a step answers the next stack, or refuses, unless memory runs out
abbrev pub Steps : Result (Unit {0}) StepError → List FrameKept → Option Stack → Type 0
Steps (Ok u) new next = next ≡ Some (stack_of new)
Steps (Err e.Memory) new next = Unit {0}
Steps (Err e.Refused) new next = next ≡ None

-- a value is answered, or it is refused, unless memory runs out
abbrev pub Gives : {X Y : Type 0} → (X → Y) → Result X StepError → Option Y → Type 0
Gives see (Ok x) next = next ≡ Some (see x)
Gives see (Err e.Memory) next = Unit {0}
Gives see (Err e.Refused) next = next ≡ None

-- what is innermost
abbrev pub is_in_block : Stack → Bool
is_in_block (block o d s ds ps ∷ k) = true
is_in_block k = false

abbrev pub is_in_fields : Stack → Bool
is_in_fields (fields in_pattern l at fs ∷ k) = true
is_in_fields k = false
