-- Spaces that are put among others under other names.
use Rattle.std.proofs.Common.{◌≡◌, inl, inr, ◌⊎◌, ℕ, suc, zero, ◌+◌, ◌<◌, ◌≤◌, Bool, true, false, not, if◌then◌else◌, cond, List, [], ◌∷◌, ◌++◌, refl, sym, ap, subst, ◌∙◌, arith, Contains, Some, filter, map, take, length, slice_get, slice_index_or}
use Rattle.std.specs.List.{list_all}
use Rattle.std.specs.Option.{option_map}
use Rattle.std.proofs.lemmas.Option.{slice_get-get_or}
use Rattle.oz_semantics.specs.Configurations.{placed}
use Rattle.oz_semantics.specs.Renamings.{Renaming, renamed_thread, renamed_layer}
use Rattle.oz_semantics.specs.Edits.{all_placed}
use Rattle.oz_semantics.specs.declared.configuration.Frame.{Frame}
use Rattle.oz_semantics.specs.declared.configuration.Thread.{Thread}
use Rattle.oz_semantics.specs.declared.configuration.Layer.{Layer}
use Rattle.oz_base.specs.Lists.{is_empty}
use Rattle.renamings.specs.declared.renaming.Renaming.{Renaming as Names}
use Rattle.renamed_terms.specs.Meanings.{renaming_of}
use Rattle.space_core.specs.Ending.{IsAdded}
use Rattle.space_core.specs.Renamed.{gives_name, IsRenamed, IsPlacedBy, renamed_of, IsOneOf, ArePlacedBy}
use Rattle.space_core.specs.Shown.{shown, shown_all}
use Rattle.space_core.specs.declared.ended.Ended.{Ended}
use Rattle.space_core.specs.Threads.{Ascends, goes_on, may_end, is_noted, IsKept}
use Rattle.std.specs.Prelude.{◌||◌}
use Rattle.view_laws.proofs.Members.{and_both}
use Rattle.oz_laws.proofs.SameLaws.{and-left, and-right}
use Rattle.oz_laws.proofs.SameLaws.{contains-from_In}
use Rattle.space_core.specs.declared.level.Level.{Level}
use Rattle.space_core.proofs.FateLaws.{got_in}

-- Threads

ascends_renamed : (r : Renaming) (low high : ℕ) (ts : List Thread) → Ascends low high ts → Ascends low high (map (renamed_thread r) ts)
ascends_renamed r low high [] h = h
ascends_renamed r low high (t ∷ ts) h = (h.0, ascends_renamed r (t.number + 1) high ts h.1)

goes_renamed : (r : Renaming) (t : Thread) → goes_on (renamed_thread r t) ≡ goes_on t
goes_renamed r t = by t.frames
  where
    by : (fs : List Frame) → goes_on (renamed_thread r (record { number = t.number; frames = fs })) ≡ not (is_empty fs)
    by [] = refl
    by (f ∷ fs) = refl

all_noted : (r : Renaming) (ended : Ended) (ts : List Thread) → list_all (is_noted ended) ts ≡ true → list_all (is_noted ended) (map (renamed_thread r) ts) ≡ true
all_noted r ended [] h = h
all_noted r ended (t ∷ ts) h =
    and_both _ _ (ap (λ (b : Bool). b || may_end ended t.number) (goes_renamed r t) ∙ and-left _ _ h) (all_noted r ended ts (and-right (is_noted ended t) _ h))

pub kept_renamed : (r : Renaming) (ts : List Thread) (next : ℕ) (ended : Ended) → IsKept ts next ended → IsKept (map (renamed_thread r) ts) next ended
kept_renamed r ts next ended k = record { ascends = ascends_renamed r 1 next ts k.ascends; noted = all_noted r ended ts k.noted }

-- Cells and ports, one after another

-- the items up to a place, and the one at it
pub map_more : {A B : Type 0} (f : A → B) (xs : List A) (n : ℕ) (y : B) → option_map f (slice_get xs n) ≡ Some y → map f (take n xs) ++ y ∷ [] ≡ map f (take (suc n) xs)
map_more f [] n y e = cc
map_more f (x ∷ xs) zero y e = let same : f x ≡ y = cc in ap (λ z. z ∷ []) (sym same)
map_more f (x ∷ xs) (suc n) y e = ap (λ ys. f x ∷ ys) (map_more f xs n y e)

-- Spaces, one after another

-- one that has another name
pub placed_renamed : (by : Names) (l new : Level) (old news : List Level) → gives_name by l.space ≡ true → IsRenamed (renaming_of by) l new → IsAdded old news new → IsPlacedBy by l old news
placed_renamed by l new old news e r a = record {
  shows =
      a.shows
      ∙ ap (λ (k : Layer). placed k (shown_all old)) r.shows
      ∙ sym (ap (λ (b : Bool). all_placed (if b then renamed_layer (renaming_of by) (shown l) ∷ [] else []) (shown_all old)) e);
  member = λ n c. elim (a.member n c) [ inl q ↦ inr (e, subst (IsRenamed (renaming_of by) l) (sym q) r) | inr d ↦ inl d ];
}

-- and one that has none
pub placed_none : (by : Names) (l : Level) (old : List Level) → gives_name by l.space ≡ false → IsPlacedBy by l old old
placed_none by l old e = record {
  shows = sym (ap (λ (b : Bool). all_placed (if b then renamed_layer (renaming_of by) (shown l) ∷ [] else []) (shown_all old)) e);
  member = λ n c. inl c;
}

put_parts : (ns ms ls : List Layer) → all_placed (ns ++ ms) ls ≡ all_placed ms (all_placed ns ls)
put_parts [] ms ls = refl
put_parts (n ∷ ns) ms ls = put_parts ns ms (placed n ls)

-- those up to a place, and the one at it
renamed_more : (by : Names) (source : List Level) (n : ℕ) (l : Level) → slice_get source n ≡ Some l
    → renamed_of by (take (suc n) source) ≡ renamed_of by (take n source) ++ (if gives_name by l.space then renamed_layer (renaming_of by) (shown l) ∷ [] else [])
renamed_more by [] n l e = cc
renamed_more by (k ∷ source) zero l e =
    let same : k ≡ l = cc in
    ap (λ (j : Level). renamed_of by (j ∷ [])) same ∙ one (gives_name by l.space)
  where
    one : (b : Bool) → map (renamed_layer (renaming_of by)) (cond b (shown l ∷ []) []) ≡ (if b then renamed_layer (renaming_of by) (shown l) ∷ [] else [])
    one true = refl
    one false = refl
renamed_more by (k ∷ source) (suc n) l e = at (gives_name by k.space) (renamed_more by source n l e)
  where
    more : List Layer
    more = if gives_name by l.space then renamed_layer (renaming_of by) (shown l) ∷ [] else []

    at : (b : Bool) → renamed_of by (take (suc n) source) ≡ renamed_of by (take n source) ++ more
        → map (renamed_layer (renaming_of by)) (cond b (shown k ∷ filter (λ (j : Layer). gives_name by j.space) (shown_all (take (suc n) source))) (filter (λ (j : Layer). gives_name by j.space) (shown_all (take (suc n) source))))
        ≡ map (renamed_layer (renaming_of by)) (cond b (shown k ∷ filter (λ (j : Layer). gives_name by j.space) (shown_all (take n source))) (filter (λ (j : Layer). gives_name by j.space) (shown_all (take n source)))) ++ more
    at true r = ap (λ (ks : List Layer). renamed_layer (renaming_of by) (shown k) ∷ ks) r
    at false r = r

-- those up to a place are put there
pub record PlacedUpTo (by : Names) (source : List Level) (n : ℕ) (old new : List Level) : Type 0 where
  pub shows : shown_all new ≡ all_placed (renamed_of by (take n source)) (shown_all old)
  pub member : (k : Level) → Contains new k → Contains old k ⊎ IsOneOf by source k

pub placed_nothing : (by : Names) (source old : List Level) → PlacedUpTo by source 0 old old
placed_nothing by source old = record { shows = refl; member = λ k c. inl c }

placed_next : (by : Names) (source old mid news : List Level) (n : ℕ) (l : Level) → slice_get source n ≡ Some l → PlacedUpTo by source n old mid → IsPlacedBy by l mid news
    → PlacedUpTo by source (suc n) old news
placed_next by source old mid news n l e m p = record {
  shows =
      p.shows
      ∙ ap (all_placed (if gives_name by l.space then renamed_layer (renaming_of by) (shown l) ∷ [] else [])) m.shows
      ∙ sym (put_parts (renamed_of by (take n source)) (if gives_name by l.space then renamed_layer (renaming_of by) (shown l) ∷ [] else []) (shown_all old))
      ∙ sym (ap (λ (ks : List Layer). all_placed ks (shown_all old)) (renamed_more by source n l e));
  member = λ k c. elim (p.member k c) [
    | inl d ↦ m.member k d
    | inr d ↦ inr (record { before = l; among = contains-from_In source l (got_in source n l e); named = d.0; renamed = d.1 })
  ];
}

take_all : {A : Type 0} (xs : List A) (n : ℕ) → length xs ≤ n → take n xs ≡ xs
take_all [] zero h = refl
take_all [] (suc n) h = refl
take_all (x ∷ xs) zero h = absurd (omega (arith, h))
take_all (x ∷ xs) (suc n) h = ap (λ ys. x ∷ ys) (take_all xs n (omega (arith, h)))

pub placed_all : (by : Names) (source old new : List Level) (n : ℕ) → length source ≤ n → PlacedUpTo by source n old new → ArePlacedBy by source old new
placed_all by source old new n h p = record {
  shows = p.shows ∙ ap (λ (ls : List Level). all_placed (renamed_of by ls) (shown_all old)) (take_all source n h);
  member = p.member;
}

pub map_all : {A B : Type 0} (f : A → B) (xs : List A) (n : ℕ) → length xs ≤ n → map f (take n xs) ≡ map f xs
map_all f xs n h = ap (map f) (take_all xs n h)

pub placed_more : (by : Names) (source old mid news : List Level) (n : ℕ) (l : Level) → n < length source → l ≡ slice_index_or source n l → PlacedUpTo by source n old mid → IsPlacedBy by l mid news
    → PlacedUpTo by source (n + 1) old news
placed_more by source old mid news n l within e m p =
    let next : suc n ≡ n + 1 = omega arith in
    subst (λ (k : ℕ). PlacedUpTo by source k old news) next
    (placed_next by source old mid news n l (slice_get-get_or source n l within ∙ ap (λ (k : Level). Some k) (sym e)) m p)

-- one more cell or port
pub map_next : {A B : Type 0} (f : A → B) (xs : List A) (n : ℕ) (y : B) → option_map f (slice_get xs n) ≡ Some y → map f (take n xs) ++ y ∷ [] ≡ map f (take (n + 1) xs)
map_next f xs n y e =
    let next : suc n ≡ n + 1 = omega arith in
    map_more f xs n y e ∙ ap (λ (k : ℕ). map f (take k xs)) next
