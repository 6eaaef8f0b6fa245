-- What the edits of a step make of the layers, with the statement that it takes off.
use Rattle.std.proofs.Common.{◌≡◌, ◌∙◌, ◌+◌, ℕ, Bool, true, false, cond, List, [], ◌∷◌, drop, length, Option, Some, None, is_some, refl, sym, ap, ap₂, subst}
use Rattle.std.specs.Prelude.{unwrap_or}
use Rattle.std.specs.List.{find}
use Rattle.oz_base.specs.Lists.{list_eq, is_empty}
use Rattle.oz_base.specs.ListLaws.{list_eq-equivalence}
use Rattle.oz_base.specs.declared.names.Ident.{Ident}
use Rattle.oz_semantics.specs.Names.{is_top, named}
use Rattle.oz_semantics.specs.Configurations.{is_of, is_numbered, layer_at, layer_of, new_layer, thread_at, frames_in, stack_of, in_layer, in_thread, with_frames, telling, giving_out}
use Rattle.oz_semantics.specs.Answers.{Act, Passes, GoesOn, Declares, Starts, GivesValue, GivesTerm, GivesVariable, MakesProcedure, MakesName, MakesCell, Reads, Writes, Exchanges, MakesPort, Sends, Delays, Confines, Posts, Shows}
use Rattle.oz_semantics.specs.Changes.{GivesOut, done}
use Rattle.oz_semantics.specs.Effects.{act_effect}
use Rattle.oz_semantics.specs.Exceptions.{raise_term, new_term_tells, with_term, unwound}
use Rattle.oz_semantics.specs.Settling.{with_raised, term_variable}
use Rattle.oz_semantics.specs.Steps.{without_top}
use Rattle.oz_semantics.specs.Terms.{Term, term_tells}
use Rattle.oz_semantics.specs.declared.value.Tell.{Tell}
use Rattle.oz_semantics.specs.declared.configuration.Frame.{Frame}
use Rattle.oz_semantics.specs.declared.configuration.Thread.{Thread}
use Rattle.oz_semantics.specs.declared.configuration.Next.{Next}
use Rattle.oz_semantics.specs.declared.configuration.Layer.{Layer}
use Rattle.oz_semantics.specs.declared.outcome.RaiseKind.{RaiseKind}
use Rattle.settle_laws.specs.Settles.{Settles}
use Rattle.settle_laws.proofs.ListEdits.{edit_twice, is_found_edit}
use Rattle.settle_laws.proofs.EditLaws.{edits_join, edits_agree, term_settles}
use Rattle.settle_laws.proofs.SettleLaws.{keeps_own}
use Rattle.space_core.specs.Advances.{taken_on}
use Rattle.oz_acts.proofs.PlaceLaws.{layer_of_name}
use Rattle.oz_machine.proofs.QuietLaws.{edited_at, popped_layer, popped_next}

-- Names

pub empty_top : (s : List ℕ) → is_empty s ≡ is_top s
empty_top [] = refl
empty_top (n ∷ s) = refl

-- A space that is there

pub there : (o : Option Layer) → is_some o ≡ true → (l : Layer) × (o ≡ Some l)
there (Some l) e = (l, refl)
there None e = absurd (cc)

-- is what is found there
pub found_there : (layers : List Layer) (space : List ℕ) → is_some (layer_at layers space) ≡ true → layer_at layers space ≡ Some (layer_of layers space)
found_there layers space e = let l = there (layer_at layers space) e in l.1 ∙ ap (λ (o : Option Layer). Some (unwrap_or o (new_layer space))) (sym l.1)

-- and an edit that keeps names leaves it there
pub edit_there : (layers : List Layer) (space other : List ℕ) (edit : Layer → Layer) → ((l : Layer) → (edit l).space ≡ l.space)
    → is_some (layer_at (in_layer other edit layers) space) ≡ is_some (layer_at layers space)
edit_there layers space other edit names = is_found_edit (is_of space) (is_of other) edit (λ l. ap (λ s. list_eq s space) (names l)) layers

pub pop_there : (id : Ident) (layers : List Layer) → is_some (layer_at layers id.space) ≡ true → is_some (layer_at (without_top id layers) id.space) ≡ true
pop_there id layers e = edit_there layers id.space id.space (with_frames id.number (λ frames. drop 1 frames)) (λ l. refl) ∙ e

-- The stack without its top

thread_popped : (n : ℕ) (threads : List Thread)
    → frames_in (thread_at (in_thread n (λ (t : Thread). record t { frames = drop 1 t.frames }) threads) n) ≡ drop 1 (frames_in (thread_at threads n))
thread_popped n [] = refl
thread_popped n (t ∷ ts) = by (is_numbered n t) refl (thread_popped n ts)
  where
    by : (b : Bool) → is_numbered n t ≡ b → frames_in (find (is_numbered n) (in_thread n (λ (u : Thread). record u { frames = drop 1 u.frames }) ts)) ≡ drop 1 (frames_in (find (is_numbered n) ts))
        → frames_in (find (is_numbered n) (cond b (record t { frames = drop 1 t.frames } ∷ ts) (t ∷ in_thread n (λ (u : Thread). record u { frames = drop 1 u.frames }) ts)))
        ≡ drop 1 (frames_in (cond b (Some t) (find (is_numbered n) ts)))
    by true e more = ap (λ (b : Bool). frames_in (cond b (Some (record t { frames = drop 1 t.frames })) (find (is_numbered n) ts))) e
    by false e more = ap (λ (b : Bool). frames_in (cond b (Some t) (find (is_numbered n) (in_thread n (λ (u : Thread). record u { frames = drop 1 u.frames }) ts)))) e ∙ more

pub stack_popped : (id : Ident) (layers : List Layer) → is_some (layer_at layers id.space) ≡ true → stack_of (without_top id layers) id ≡ drop 1 (stack_of layers id)
stack_popped id layers e =
    let pops : Layer → Layer = with_frames id.number (λ (frames : List Frame). drop 1 frames) in
    let at = found_there layers id.space e in
    let own : is_of id.space (pops (layer_of layers id.space)) ≡ true = subst (λ s. list_eq s id.space ≡ true) (sym (layer_of_name layers id.space)) (list_eq-equivalence.refl id.space) in
    ap (λ (o : Option Layer). frames_in (thread_at (unwrap_or o (new_layer id.space)).threads id.number)) (edited_at id.space pops (layer_of layers id.space) layers at own)
    ∙ thread_popped id.number (layer_of layers id.space).threads

-- Another stack may take the place of one whose top was taken off, or was not

threads_taken : (n : ℕ) (frames : List Frame) (threads : List Thread)
    → in_thread n (λ (t : Thread). record t { frames = frames }) (in_thread n (λ (t : Thread). record t { frames = drop 1 t.frames }) threads)
    ≡ in_thread n (λ (t : Thread). record t { frames = frames }) threads
threads_taken n frames threads = edit_twice (is_numbered n) (λ (t : Thread). record t { frames = frames }) (λ (t : Thread). record t { frames = drop 1 t.frames }) (λ t. refl) threads

pub popped_taken : (id : Ident) (frames : List Frame) (layers : List Layer) → taken_on id frames (without_top id layers) ≡ taken_on id frames layers
popped_taken id frames layers =
    let takes : Layer → Layer = with_frames id.number (λ rest. frames) in
    let pops : Layer → Layer = with_frames id.number (λ (stack : List Frame). drop 1 stack) in
    edits_join id.space takes pops layers (λ l. refl)
    ∙ edits_agree id.space (λ l. takes (pops l)) takes layers (λ l at. ap (λ (ts : List Thread). record l { threads = ts }) (threads_taken id.number frames l.threads))

-- and so where the space is told something besides, and gives out variables
pub told_taken : (id : Ident) (frames : List Frame) (ts : List Tell) (n : ℕ) (layers : List Layer)
    → taken_on id frames (done id ts (GivesOut n ∷ []) (without_top id layers)) ≡ taken_on id frames (done id ts (GivesOut n ∷ []) layers)
told_taken id frames ts n layers =
    let takes : Layer → Layer = with_frames id.number (λ rest. frames) in
    let pops : Layer → Layer = with_frames id.number (λ (stack : List Frame). drop 1 stack) in
    let gives : Layer → Layer = giving_out n in
    let tells : Layer → Layer = telling ts in
    let all : (ls : List Layer) → taken_on id frames (done id ts (GivesOut n ∷ []) ls) ≡ in_layer id.space (λ l. takes (gives (tells l))) ls =
    λ ls. ap (in_layer id.space takes) (edits_join id.space gives tells ls (λ l. refl)) ∙ edits_join id.space takes (λ l. gives (tells l)) ls (λ l. refl) in
    all (without_top id layers)
    ∙ edits_join id.space (λ l. takes (gives (tells l))) pops layers (λ l. refl)
    ∙ edits_agree id.space (λ l. takes (gives (tells (pops l)))) (λ l. takes (gives (tells l))) layers
    (λ l at. ap (λ (threads : List Thread). record (gives (tells l)) { threads = threads }) (threads_taken id.number frames l.threads))
    ∙ sym (all layers)

-- A term that is told

pub term_popped : (id : Ident) (layers : List Layer) → is_some (layer_at layers id.space) ≡ true → term_variable (without_top id layers) id.space ≡ term_variable layers id.space
term_popped id layers e = ap (λ (k : Next). named id.space k.variable) (popped_next id layers (found_there layers id.space e))

-- by new variables: it does not depend on stacks
pub tells_popped : (id : Ident) (t : Term) (layers : List Layer) → is_some (layer_at layers id.space) ≡ true
    → new_term_tells (layer_of layers id.space) t ≡ new_term_tells (layer_of (without_top id layers) id.space) t
tells_popped id t layers e =
    ap₂ (λ (s : List ℕ) (k : Next). term_tells s (k.variable + 1) (named s k.variable) t)
    (layer_of_name layers id.space ∙ sym (layer_of_name (without_top id layers) id.space))
    (sym (popped_next id layers (found_there layers id.space e)))

-- what was told and given out is the term
pub term_told : (id : Ident) (kind : RaiseKind) (ts : List Tell) (n : ℕ) (layers : List Layer) → is_some (layer_at layers id.space) ≡ true
    → ts ≡ new_term_tells (layer_of layers id.space) (raise_term kind) → n ≡ length (raise_term kind)
    → done id ts (GivesOut n ∷ []) (without_top id layers) ≡ with_raised kind id.space (without_top id layers)
term_told id kind ts n layers e told count =
    let popped = without_top id layers in
    let t = raise_term kind in
    ap (λ (m : ℕ). in_layer id.space (giving_out m) (in_layer id.space (telling ts) popped)) count
    ∙ ap (λ (us : List Tell). in_layer id.space (giving_out (length t)) (in_layer id.space (telling us) popped)) (told ∙ tells_popped id t layers e)
    ∙ term_settles id.space t popped (layer_of popped id.space) (found_there popped id.space (pop_there id layers e))

-- it leaves the thread's stack
pub raised_stack : (id : Ident) (kind : RaiseKind) (layers : List Layer) → is_some (layer_at layers id.space) ≡ true → stack_of (with_raised kind id.space layers) id ≡ stack_of layers id
raised_stack id kind layers e =
    let edit : Layer → Layer = with_term (raise_term kind) in
    let own : is_of id.space (edit (layer_of layers id.space)) ≡ true = subst (λ s. list_eq s id.space ≡ true) (sym (layer_of_name layers id.space)) (list_eq-equivalence.refl id.space) in
    ap (λ (o : Option Layer). frames_in (thread_at (unwrap_or o (new_layer id.space)).threads id.number)) (edited_at id.space edit (layer_of layers id.space) layers (found_there layers id.space e) own)

-- by which the exception goes where it went without it
pub raised_unwound : (id : Ident) (kind : RaiseKind) (x : Ident) (layers : List Layer) → is_some (layer_at layers id.space) ≡ true
    → unwound x (stack_of (with_raised kind id.space (without_top id layers)) id) ≡ unwound x (drop 1 (stack_of layers id))
raised_unwound id kind x layers e = ap (unwound x) (raised_stack id kind (without_top id layers) (pop_there id layers e) ∙ stack_popped id layers e)

-- and the handler goes on
pub raised_taken : (id : Ident) (kind : RaiseKind) (ts : List Tell) (n : ℕ) (frames : List Frame) (layers : List Layer) → is_some (layer_at layers id.space) ≡ true
    → ts ≡ new_term_tells (layer_of layers id.space) (raise_term kind) → n ≡ length (raise_term kind)
    → taken_on id frames (done id ts (GivesOut n ∷ []) layers) ≡ taken_on id frames (with_raised kind id.space (without_top id layers))
raised_taken id kind ts n frames layers e told count = sym (told_taken id frames ts n layers) ∙ ap (taken_on id frames) (term_told id kind ts n layers e told count)

-- A space that was told something in place of a statement is still there
pub told_there : (id : Ident) (ts : List Tell) (n : ℕ) (layers after : List Layer) → Settles id.space (done id ts (GivesOut n ∷ []) (without_top id layers)) after
    → is_some (layer_at layers id.space) ≡ true → is_some (layer_at after id.space) ≡ true
told_there id ts n layers after h e =
    let popped = without_top id layers in
    let told = in_layer id.space (telling ts) popped in
    ap is_some (keeps_own id.space (in_layer id.space (giving_out n) told) after h).at
    ∙ edit_there told id.space id.space (giving_out n) (λ l. refl) ∙ edit_there popped id.space id.space (telling ts) (λ l. refl) ∙ pop_there id layers e

-- The effect of an act

-- does not depend on stacks
effect_same : (number : ℕ) (change : List Frame → List Frame) (l : Layer) (act : Act) → act_effect (with_frames number change l) act ≡ act_effect l act
effect_same number change l Passes = refl
effect_same number change l (GoesOn frames) = refl
effect_same number change l (Declares environment names body) = refl
effect_same number change l (Starts frames) = refl
effect_same number change l (GivesValue x v) = refl
effect_same number change l (GivesTerm x t) = refl
effect_same number change l (GivesVariable x y) = refl
effect_same number change l (MakesProcedure x parameters body environment) = refl
effect_same number change l (MakesName x) = refl
effect_same number change l (MakesCell x content) = refl
effect_same number change l (Reads n x) = refl
effect_same number change l (Writes n content) = refl
effect_same number change l (Exchanges n x content) = refl
effect_same number change l (MakesPort x stream) = refl
effect_same number change l (Sends n item) = refl
effect_same number change l (Confines ts) = refl
effect_same number change l (Posts ts relation xs) = refl
effect_same number change l (Delays procedure x) = refl
effect_same number change l (Shows x) = refl

pub effect_popped : (id : Ident) (layers : List Layer) (act : Act) → is_some (layer_at layers id.space) ≡ true
    → act_effect (layer_of (without_top id layers) id.space) act ≡ act_effect (layer_of layers id.space) act
effect_popped id layers act e =
    ap (λ (l : Layer). act_effect l act) (popped_layer id layers (found_there layers id.space e)) ∙ effect_same id.number (λ frames. drop 1 frames) (layer_of layers id.space) act
