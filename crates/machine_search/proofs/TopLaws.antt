-- What leaves a consistent top consistent: edits that change nothing of what it was told, and the failing of other spaces.
use Rattle.std.proofs.Common.{◌≡◌, ℕ, Bool, true, false, not, ◌&&◌, ◌||◌, cond, if◌then◌else◌, List, [], ◌∷◌, ◌++◌, map, filter, refl, sym, ap, ◌∙◌, true≢false}
use Rattle.std.specs.List.{list_any, flat_map, fold}
use Rattle.oz_base.specs.Lists.{list_eq, edit_first, put_before}
use Rattle.oz_base.specs.ListLaws.{list_eq-decides}
use Rattle.oz_base.specs.declared.names.Ident.{Ident}
use Rattle.oz_language.specs.declared.kernel.Statement.{Statement}
use Rattle.oz_semantics.specs.Names.{is_below, is_properly_below, is_top, space_lt, child_name}
use Rattle.oz_semantics.specs.Store.{is_consistent}
use Rattle.oz_semantics.specs.Configurations.{is_of, layer_of, view, in_layer, new_layer, next_child, counting_child, telling, failed}
use Rattle.oz_semantics.specs.Edits.{starting, created}
use Rattle.oz_semantics.specs.Triggers.{triggered}
use Rattle.need_laws.specs.Needs.{AllFire}
use Rattle.need_laws.proofs.FireLaws.{all_fired}
use Rattle.oz_semantics.specs.Settling.{may_fail, is_inconsistent, inconsistent_spaces, failing, without_inconsistent, top_is_inconsistent}
use Rattle.oz_semantics.specs.declared.value.Tell.{Tell}
use Rattle.oz_semantics.specs.declared.configuration.Layer.{Layer}

-- ---- of each layer of the top, whether it may fail, and what it was told
abbrev put : Bool → Bool × List Tell → List (Bool × List Tell) → List (Bool × List Tell)
put b o os = if b then o ∷ os else os

abbrev put_of : Layer → List (Bool × List Tell) → List (Bool × List Tell)
put_of l os = put (is_top l.space) (may_fail l.status, l.tells) os

abbrev tops : List Layer → List (Bool × List Tell)
tops [] = []
tops (l ∷ ls) = put_of l (tops ls)

abbrev told : List (Bool × List Tell) → List Tell
told os = flat_map (λ (o : Bool × List Tell). o.1) os

abbrev breaks : List Tell → Bool × List Tell → Bool
breaks ts o = o.0 && not (is_consistent ts)

below_top : (s : List ℕ) → is_below s [] ≡ is_top s
below_top [] = refl
below_top (n ∷ ns) = refl

seen : (ls : List Layer) → view ls [] ≡ told (tops ls)
seen [] = refl
seen (l ∷ ls) = ap (λ b. (if b then l.tells else []) ++ view ls []) (below_top l.space) ∙ by (is_top l.space) (seen ls)
  where
    by : (b : Bool) → view ls [] ≡ told (tops ls) → (if b then l.tells else []) ++ view ls [] ≡ told (put b (may_fail l.status, l.tells) (tops ls))
    by true h = ap (λ ts. l.tells ++ ts) h
    by false h = h

broken : (layers ls : List Layer) → list_any (λ (l : Layer). is_top l.space && is_inconsistent layers l) ls ≡ list_any (breaks (view layers [])) (tops ls)
broken layers [] = refl
broken layers (l ∷ ls) = by l.space (broken layers ls)
  where
    by : (s : List ℕ) → list_any (λ (l : Layer). is_top l.space && is_inconsistent layers l) ls ≡ list_any (breaks (view layers [])) (tops ls)
        → ((is_top s && (may_fail l.status && not (is_consistent (view layers s)))) || list_any (λ (l : Layer). is_top l.space && is_inconsistent layers l) ls)
        ≡ list_any (breaks (view layers [])) (put (is_top s) (may_fail l.status, l.tells) (tops ls))
    by [] h = ap (λ b. (may_fail l.status && not (is_consistent (view layers []))) || b) h
    by (n ∷ ns) h = h

top_as : (ls : List Layer) → top_is_inconsistent ls ≡ list_any (breaks (told (tops ls))) (tops ls)
top_as ls = broken ls ls ∙ ap (λ ts. list_any (breaks ts) (tops ls)) (seen ls)

same_top : (ls ms : List Layer) → tops ls ≡ tops ms → top_is_inconsistent ls ≡ top_is_inconsistent ms
same_top ls ms e = top_as ls ∙ (ap (λ os. list_any (breaks (told os)) os) e ∙ sym (top_as ms))

-- ---- edits
aside : (l : Layer) (os : List (Bool × List Tell)) → is_top l.space ≡ false → put_of l os ≡ os
aside l os e = ap (λ b. put b (may_fail l.status, l.tells) os) e

edit_tops : (s : List ℕ) (f : Layer → Layer) → ((l : Layer) (os : List (Bool × List Tell)) → is_of s l ≡ true → put_of (f l) os ≡ put_of l os) → (ls : List Layer) → tops (in_layer s f ls) ≡ tops ls
edit_tops s f keeps [] = refl
edit_tops s f keeps (l ∷ ls) = by (is_of s l) refl (edit_tops s f keeps ls)
  where
    by : (b : Bool) → is_of s l ≡ b → tops (edit_first (is_of s) f ls) ≡ tops ls → tops (cond b (f l ∷ ls) (l ∷ edit_first (is_of s) f ls)) ≡ put_of l (tops ls)
    by true i h = keeps l (tops ls) i
    by false i h = ap (put_of l) h

-- a change of a layer that is not the top's
changed_aside : (s : List ℕ) (f : Layer → Layer) → is_top s ≡ false → ((l : Layer) → (f l).space ≡ l.space) → (l : Layer) (os : List (Bool × List Tell)) → is_of s l ≡ true
    → put_of (f l) os ≡ put_of l os
changed_aside s f e named l os i =
    let away : is_top l.space ≡ false = ap is_top ((list_eq-decides l.space s).0 i) ∙ e in
    aside (f l) os (ap is_top (named l) ∙ away) ∙ sym (aside l os away)

filter_tops : (g : Layer → Bool) → ((l : Layer) → is_top l.space ≡ true → g l ≡ true) → (ls : List Layer) → tops (filter g ls) ≡ tops ls
filter_tops g stays [] = refl
filter_tops g stays (l ∷ ls) = by (g l) refl (filter_tops g stays ls)
  where
    not_top : g l ≡ false → (t : Bool) → is_top l.space ≡ t → t ≡ false
    not_top i true e = absurd (true≢false (sym (stays l e) ∙ i))
    not_top i false e = refl

    by : (b : Bool) → g l ≡ b → tops (filter g ls) ≡ tops ls → tops (cond b (l ∷ filter g ls) (filter g ls)) ≡ put_of l (tops ls)
    by true i h = ap (put_of l) h
    by false i h = h ∙ sym (aside l (tops ls) (not_top i (is_top l.space) refl))

placed_tops : (new : Layer) → is_top new.space ≡ false → (test : Layer → Bool) (ls : List Layer) → tops (put_before test new ls) ≡ tops ls
placed_tops new e test [] = aside new [] e
placed_tops new e test (l ∷ ls) = by (test l) (placed_tops new e test ls)
  where
    by : (b : Bool) → tops (put_before test new ls) ≡ tops ls → tops (cond b (new ∷ l ∷ ls) (l ∷ put_before test new ls)) ≡ put_of l (tops ls)
    by true h = aside new (put_of l (tops ls)) e
    by false h = ap (put_of l) h

-- ---- other spaces fail
stays_by : (s t : List ℕ) → is_top s ≡ false → is_top t ≡ true → not (is_properly_below s t) ≡ true
stays_by s [] e i = ap (λ b. not (b && not (list_eq s []))) (below_top s ∙ e)
stays_by s (n ∷ ns) e i = absurd (true≢false (sym i))

failing_tops : (s : List ℕ) → is_top s ≡ false → (ls : List Layer) → tops (failing ls s) ≡ tops ls
failing_tops s e ls =
    let others = filter (λ (l : Layer). not (is_properly_below s l.space)) ls in
    edit_tops s failed (changed_aside s failed e (λ l. refl)) others ∙ filter_tops (λ (l : Layer). not (is_properly_below s l.space)) (λ l i. stays_by s l.space e i) ls

abbrev NonTop : List (List ℕ) → Type 0
NonTop [] = Unit {0}
NonTop (s ∷ ss) = (is_top s ≡ false) × NonTop ss

all_failing : (ss : List (List ℕ)) → NonTop ss → (ls : List Layer) → tops (fold failing ls ss) ≡ tops ls
all_failing [] h ls = refl
all_failing (s ∷ ss) h ls = all_failing ss h.1 (failing ls s) ∙ failing_tops s h.0 ls

or_parts : (a b : Bool) → (a || b) ≡ false → (a ≡ false) × (b ≡ false)
or_parts true b e = absurd (true≢false e)
or_parts false b e = (refl, e)

and_true : (a : Bool) → (a && true) ≡ a
and_true true = refl
and_true false = refl

non_top : (layers ls : List Layer) → list_any (λ (l : Layer). is_top l.space && is_inconsistent layers l) ls ≡ false → NonTop (map (λ (l : Layer). l.space) (filter (is_inconsistent layers) ls))
non_top layers [] e = tt
non_top layers (l ∷ ls) e = by (is_inconsistent layers l) e (non_top layers ls)
  where
    by : (b : Bool) → ((is_top l.space && b) || list_any (λ (l : Layer). is_top l.space && is_inconsistent layers l) ls) ≡ false
        → (list_any (λ (l : Layer). is_top l.space && is_inconsistent layers l) ls ≡ false → NonTop (map (λ (l : Layer). l.space) (filter (is_inconsistent layers) ls)))
        → NonTop (map (λ (l : Layer). l.space) (cond b (l ∷ filter (is_inconsistent layers) ls) (filter (is_inconsistent layers) ls)))
    by true e h = let parts = or_parts (is_top l.space && true) _ e in (sym (and_true (is_top l.space)) ∙ parts.0, h parts.1)
    by false e h = h (or_parts (is_top l.space && false) _ e).1

pub still_consistent : (layers : List Layer) → top_is_inconsistent layers ≡ false → top_is_inconsistent (without_inconsistent layers) ≡ false
still_consistent layers e = same_top (without_inconsistent layers) layers (all_failing (inconsistent_spaces layers) (non_top layers layers e) layers) ∙ e

-- ---- edits by the search
pub child_not_top : (s : List ℕ) (n : ℕ) → is_top (child_name s n) ≡ false
child_not_top [] n = refl
child_not_top (m ∷ s) n = refl

pub created_top : (parent : List ℕ) (procedure : Ident) (layers : List Layer) → top_is_inconsistent (created parent procedure layers) ≡ top_is_inconsistent layers
created_top parent procedure layers =
    let l = layer_of layers parent in
    let child = starting procedure (new_layer (next_child l)) in
    let counted = in_layer parent counting_child layers in
    same_top (created parent procedure layers) layers
    (placed_tops child (child_not_top l.space l.next.child) (λ other. space_lt child.space other.space) counted ∙ edit_tops parent counting_child (λ l os e. refl) layers)

-- what another space is told
pub told_top : (s : List ℕ) (ts : List Tell) → is_top s ≡ false → (layers : List Layer) → top_is_inconsistent (in_layer s (telling ts) layers) ≡ top_is_inconsistent layers
told_top s ts e layers = same_top (in_layer s (telling ts) layers) layers (edit_tops s (telling ts) (changed_aside s (telling ts) e (λ l. refl)) layers)

-- ---- by-need computations that begin
fired_tops : (ls ms : List Layer) → AllFire ls ms → tops ms ≡ tops ls
fired_tops [] [] h = refl
fired_tops (l ∷ ls) (m ∷ ms) h =
    ap (λ s. put (is_top s) (may_fail m.status, m.tells) (tops ms)) h.0.space
    ∙ ap (λ k. put (is_top l.space) (may_fail k, m.tells) (tops ms)) h.0.status
    ∙ ap (λ ts. put (is_top l.space) (may_fail l.status, ts) (tops ms)) h.0.tells
    ∙ ap (put_of l) (fired_tops ls ms h.1)
fired_tops [] (m ∷ ms) h = absurd h
fired_tops (l ∷ ls) [] h = absurd h

pub begun_consistent : (statements : List Statement) (ls : List Layer) → top_is_inconsistent ls ≡ false → top_is_inconsistent (triggered statements ls) ≡ false
begun_consistent statements ls e = same_top (triggered statements ls) ls (fired_tops ls (triggered statements ls) (all_fired statements ls)) ∙ e
