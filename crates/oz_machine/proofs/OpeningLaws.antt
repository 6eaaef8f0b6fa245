-- The table of built-ins, row by row.
use Rattle.std.proofs.Common.{◌≡◌, ◌<◌, ◌≤◌, ◌+◌, ◌-◌, ◌∷◌, ◌++◌, [], ℕ, zero, suc, refl, ap, sym, ◌∙◌, List, None, length, drop, map, get_or, slice_index_or, arith}
use Rattle.std.proofs.lemmas.List.{length-map}
use Rattle.environments.specs.Environments.{Environment}
use Rattle.oz_semantics.specs.Builtins.{rows}
use Rattle.oz_base.specs.declared.names.Ident.{Ident}
use Rattle.oz_language.specs.declared.kernel.Constant.{Constant}
use Rattle.oz_language.specs.declared.kernel.Kernel.{Kernel}
use Rattle.oz_semantics.specs.Names.{named}
use Rattle.oz_semantics.specs.declared.value.Tell.TheVariants.{Is}
use Rattle.settle_laws.specs.Turns.{opening_layers}
use Rattle.settle_laws.proofs.EditLaws.{are_quiet}
use Rattle.settle_laws.proofs.SettleLaws.{quiet_fails}
use Rattle.settle_laws.proofs.SoundLaws.{sound_nothing}
use Rattle.settle_laws.proofs.OpeningLaws.{opening_sound}
use Rattle.std.specs.List.{fold}
use Rattle.oz_semantics.specs.Configurations.{new_layer, in_layer, giving_out, telling, spawning, frames_of}
use Rattle.oz_semantics.specs.Settling.{failing, inconsistent_spaces, without_inconsistent}
use Rattle.oz_semantics.specs.Runs.{opening_environment, builtin_names, builtin_tells, fd_parts, fd_record, fd_number, top_layer}
use Rattle.oz_semantics.specs.declared.configuration.Frame.{Frame}
use Rattle.oz_semantics.specs.declared.configuration.Layer.{Layer}
use Rattle.oz_semantics.specs.declared.value.Tell.{Tell}
use Rattle.builtins.specs.Tables.{row_of, worded, word_of}
use Rattle.builtins.specs.declared.table.Row.{Row}
use Rattle.space_core.specs.Levels.{ToldTo}

words_at : (cs : List Row) (k : ℕ) (d : Row) → k < length cs → map worded cs ≡ map word_of (map row_of cs) → worded (slice_index_or cs k d) ≡ word_of (row_of (slice_index_or cs k d))
words_at [] k d h e = absurd (omega arith)
words_at (c ∷ cs) zero d h e = ap (λ ws. get_or ws 0 None) e
words_at (c ∷ cs) (suc k) d h e = words_at cs k d (omega arith) (ap (λ ws. drop 1 ws) e)

-- the word of a row's name
pub word_at : (cs : List Row) (k : ℕ) (d : Row) → k < length cs → map row_of cs ≡ rows → map worded cs ≡ map word_of rows → worded (slice_index_or cs k d) ≡ word_of (row_of (slice_index_or cs k d))
word_at cs k d h is e = words_at cs k d h (e ∙ ap (map word_of) (sym is))

rows_at : (cs : List Row) (k : ℕ) (d : Row) → k < length cs → row_of (slice_index_or cs k d) ∷ drop (suc k) (map row_of cs) ≡ drop k (map row_of cs)
rows_at [] k d h = absurd (omega arith)
rows_at (c ∷ cs) zero d h = refl
rows_at (c ∷ cs) (suc k) d h = rows_at cs k d (omega arith)

-- the rows from one on
row_at : (cs : List Row) (k n : ℕ) (d : Row) → k < length cs → n ≡ suc k → row_of (slice_index_or cs k d) ∷ drop n (map row_of cs) ≡ drop k (map row_of cs)
row_at cs k n d h e = ap (λ m. row_of (slice_index_or cs k d) ∷ drop m (map row_of cs)) e ∙ rows_at cs k d h

pub names_before : (cs : List Row) (left : ℕ) (d : Row) → 0 < left → left ≤ length cs
    → builtin_names left (row_of (slice_index_or cs (left - 1) d) ∷ drop left (map row_of cs)) ≡ builtin_names (left - 1 + 1) (drop (left - 1) (map row_of cs))
names_before cs left d p h =
    let k : left ≡ left - 1 + 1 = omega arith in
    ap (λ n. builtin_names n (row_of (slice_index_or cs (left - 1) d) ∷ drop left (map row_of cs))) k
    ∙ ap (builtin_names (left - 1 + 1)) (row_at cs (left - 1) left d (omega arith) (omega arith))

pub tells_before : (cs : List Row) (told : List Tell) (i n : ℕ) (d : Row) → i < length cs → n ≡ i
    → told ++ builtin_tells (n + 1) (row_of (slice_index_or cs i d) ∷ drop (i + 1) (map row_of cs)) ≡ told ++ builtin_tells (i + 1) (drop i (map row_of cs))
tells_before cs told i n d h is =
    ap (λ m. told ++ builtin_tells (m + 1) (row_of (slice_index_or cs i d) ∷ drop (i + 1) (map row_of cs))) is
    ∙ ap (λ rs. told ++ builtin_tells (i + 1) rs) (row_at cs i (i + 1) d h (omega arith))

-- how many rows there are
pub as_many : (cs : List Row) → map row_of cs ≡ rows → length cs ≡ length rows
as_many cs is = sym (length-map cs row_of) ∙ ap length is

-- the fields of `FD`
pub parts_before : {A : Type 0} (f : Constant × Ident → A) (cs : List Row) (made new : List A) (i n : ℕ) (d : Row) → i < length cs → n ≡ i
    → new ++ map f (fd_parts (n + 1 + 1) (drop (i + 1) (map row_of cs))) ≡ made ++ map f (fd_parts (n + 1) (row_of (slice_index_or cs i d) ∷ drop (i + 1) (map row_of cs)))
    → new ++ map f (fd_parts (i + 1 + 1) (drop (i + 1) (map row_of cs))) ≡ made ++ map f (fd_parts (i + 1) (drop i (map row_of cs)))
parts_before f cs made new i n d h is e =
    ap (λ m. new ++ map f (fd_parts (m + 1 + 1) (drop (i + 1) (map row_of cs)))) (sym is) ∙ e
    ∙ ap (λ m. made ++ map f (fd_parts (m + 1) (row_of (slice_index_or cs i d) ∷ drop (i + 1) (map row_of cs)))) is
    ∙ ap (λ rs. made ++ map f (fd_parts (i + 1) rs)) (row_at cs i (i + 1) d h (omega arith))

-- what the top is told clashes with nothing
top_sound : (k : Kernel) → inconsistent_spaces (top_layer ∷ []) ≡ []
top_sound k =
    let fs = frames_of opening_environment k.body in
    sym (quiet_fails (spawning fs) (top_layer ∷ []) [] (are_quiet.threads fs)) ∙ sound_nothing (opening_layers k) (opening_sound k)

-- the top that was told of them, with its one thread
pub opened : (k : Kernel) (environment : Environment) (frames : List Frame) (top : List ℕ) (n : ℕ) (tells : List Tell) (bare numbered told new : List Layer)
    → top ≡ [] → n ≡ fd_number → tells ≡ builtin_tells 1 rows ++ Is (named [] fd_number) fd_record ∷ [] → environment ≡ opening_environment → frames ≡ frames_of environment k.body
    → bare ≡ new_layer [] ∷ [] → numbered ≡ in_layer top (giving_out n) bare → ToldTo top tells numbered told → new ≡ in_layer top (spawning frames) told
    → new ≡ spawning (frames_of opening_environment k.body) top_layer ∷ []
opened k environment frames top n tells bare numbered told new is_top counted are bound made_of is_bare is_numbered is_told is_new =
    let all : List Tell = builtin_tells 1 rows ++ Is (named [] fd_number) fd_record ∷ [] in
    is_new
    ∙ ap (λ (s : List ℕ). in_layer s (spawning frames) told) is_top
    ∙ ap (λ fs. in_layer [] (spawning fs) told) (made_of ∙ ap (λ e. frames_of e k.body) bound)
    ∙ ap (in_layer [] (spawning (frames_of opening_environment k.body)))
    (is_told.left
    ∙ ap (λ (s : List ℕ). without_inconsistent (in_layer s (telling tells) numbered)) is_top
    ∙ ap (λ ts. without_inconsistent (in_layer [] (telling ts) numbered)) are
    ∙ ap (λ ls. without_inconsistent (in_layer [] (telling all) ls))
    (is_numbered ∙ ap (λ (s : List ℕ). in_layer s (giving_out n) bare) is_top
    ∙ ap (λ m. in_layer [] (giving_out m) bare) counted ∙ ap (in_layer [] (giving_out fd_number)) is_bare)
    ∙ ap (fold failing (top_layer ∷ [])) (top_sound k))
