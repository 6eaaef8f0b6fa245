-- The threads of each space stay in the order of their numbers.
use Rattle.std.proofs.Common.{◌≡◌, inl, inr, ℕ, ◌+◌, ◌-◌, ◌<◌, ◌≤◌, Bool, not, List, [], ◌∷◌, ◌++◌, filter, map, refl, sym, ap, subst, arith, Option, Some, None, unwrap_or}
use Rattle.std.proofs.lemmas.List.{map-append}
use Rattle.oz_base.specs.declared.names.Ident.{Ident}
use Rattle.oz_semantics.specs.Configurations.{is_of, layer_at, layer_of, new_layer, in_layer, next_child, applying, counting_child}
use Rattle.oz_semantics.specs.Names.{root_of}
use Rattle.oz_semantics.specs.Renamings.{Renaming, renamed_thread, renamed_layer}
use Rattle.oz_semantics.specs.Edits.{starting, all_placed, is_in, is_under, moving, copied, merging, joined, merged_away, taken_into}
use Rattle.oz_semantics.specs.declared.configuration.Thread.{Thread}
use Rattle.oz_semantics.specs.declared.configuration.Layer.{Layer}
use Rattle.oz_laws.proofs.SameLaws.{In, In-from_contains, contains-from_In}
use Rattle.view_laws.specs.Steps.{IsRising, IsNumbered}
use Rattle.view_laws.proofs.Members.{In-cases}
use Rattle.view_laws.proofs.ListLaws.{map_in, in_map, filter_in, in_edit, found_in}
use Rattle.edit_laws.specs.Edits.{AreNumbered, InjectedNumbered, CopiedNumbered, TakenNumbered}
use Rattle.edit_laws.proofs.GraftLaws.{in_all_put}

abbrev number_in : Thread → ℕ
number_in t = t.number

abbrev numbers : List Thread → List ℕ
numbers ts = map number_in ts

rising_append : (ms ns : List ℕ) → IsRising ms → IsRising ns → ((m n : ℕ) → In m ms → In n ns → m < n) → IsRising (ms ++ ns)
rising_append [] ns h k less = k
rising_append (m ∷ ms) ns h k less = (
  λ n c. elim (In-cases n ms ns (In-from_contains (ms ++ ns) n c)) [
    | inl i ↦ h.0 n (contains-from_In ms n i)
    | inr i ↦ less m n (inl refl) i
  ],
  rising_append ms ns h.1 k (λ a n i j. less a n (inr i) j),
)

-- Layers

-- the same with membership that goes down the list
record Numbered (threads : List Thread) (next : ℕ) : Type 0 where
  begins : 1 ≤ next
  rising : IsRising (numbers threads)
  counted : (t : Thread) → In t threads → 1 ≤ t.number
  given : (t : Thread) → In t threads → t.number < next

numbered_from : (l : Layer) → IsNumbered l → Numbered l.threads l.next.thread
numbered_from l h = record {
  begins = h.begins;
  rising = h.rising;
  counted = λ t i. h.counted t (contains-from_In l.threads t i);
  given = λ t i. h.given t (contains-from_In l.threads t i);
}

from_numbered : (l : Layer) → Numbered l.threads l.next.thread → IsNumbered l
from_numbered l h = record {
  begins = h.begins;
  counted = λ t c. h.counted t (In-from_contains l.threads t c);
  rising = h.rising;
  given = λ t c. h.given t (In-from_contains l.threads t c);
}

-- threads whose numbers come behind all others
numbered_append : (ts us : List Thread) (n m : ℕ) → Numbered ts n → IsRising (numbers us) → ((u : Thread) → In u us → (n ≤ u.number) × (u.number < m)) → n ≤ m → Numbered (ts ++ us) m
numbered_append ts us n m h r within less = record {
  begins = (let low = h.begins in omega (arith, low, less));
  rising = subst IsRising (sym (map-append number_in ts us)) (rising_append (numbers ts) (numbers us) h.rising r behind);
  counted = λ t i. elim (In-cases t ts us i) [
    | inl j ↦ h.counted t j
    | inr j ↦ (let w = within t j in let low = h.begins in let more = w.0 in omega (arith, low, more))
  ];
  given = λ t i. elim (In-cases t ts us i) [
    | inl j ↦ (let below = h.given t j in omega (arith, below, less))
    | inr j ↦ (within t j).1
  ];
}
  where
    behind : (a b : ℕ) → In a (numbers ts) → In b (numbers us) → a < b
    behind a b i j =
        let x = in_map number_in ts a i in
        let y = in_map number_in us b j in
        let below = h.given x.0 x.1 in
        let above = (within y.0 y.1).0 in
        let left = x.2 in
        let right = y.2 in
        omega (arith, below, above, left, right)

-- a new thread
abbrev news : Ident → Layer → List Thread
news procedure l = record { number = l.next.thread; frames = applying procedure (root_of l.space) ∷ [] } ∷ []

started : (procedure : Ident) (l : Layer) → IsNumbered l → IsNumbered (starting procedure l)
started procedure l h = from_numbered (starting procedure l) (numbered_append l.threads (news procedure l) l.next.thread (l.next.thread + 1) (numbered_from l h) (λ m c. absurd (In-from_contains [] m c), tt) within (omega arith))
  where
    within : (u : Thread) → In u (news procedure l) → (l.next.thread ≤ u.number) × (u.number < l.next.thread + 1)
    within u (inl e) = let same = ap number_in e in (omega (arith, same), omega (arith, same))
    within u (inr e) = elim e [ ]

-- other names
renamed_numbered : (r : Renaming) (l : Layer) → IsNumbered l → IsNumbered (renamed_layer r l)
renamed_numbered r l h = from_numbered (renamed_layer r l) (by (numbered_from l h))
  where
    same_numbers : (ts : List Thread) → numbers (map (renamed_thread r) ts) ≡ numbers ts
    same_numbers [] = refl
    same_numbers (t ∷ ts) = ap (λ ns. t.number ∷ ns) (same_numbers ts)

    by : Numbered l.threads l.next.thread → Numbered (map (renamed_thread r) l.threads) l.next.thread
    by k = record {
      begins = k.begins;
      rising = subst IsRising (sym (same_numbers l.threads)) k.rising;
      counted = λ t i. let x = in_map (renamed_thread r) l.threads t i in subst (λ (u : Thread). 1 ≤ u.number) x.2 (k.counted x.0 x.1);
      given = λ t i. let x = in_map (renamed_thread r) l.threads t i in subst (λ (u : Thread). u.number < l.next.thread) x.2 (k.given x.0 x.1);
    }

-- the threads of one layer behind those of another
abbrev raised_by : ℕ → Thread → Thread
raised_by n t = record t { number = t.number + n }

joined_numbered : (s p : Layer) → IsNumbered s → IsNumbered p → IsNumbered (joined s p)
joined_numbered s p h k = from_numbered (joined s p) (numbered_append p.threads (map (raised_by (p.next.thread - 1)) s.threads) p.next.thread (p.next.thread + (s.next.thread - 1)) (numbered_from p k) (rising s.threads h.rising) within (omega arith))
  where
    rising : (ts : List Thread) → IsRising (numbers ts) → IsRising (numbers (map (raised_by (p.next.thread - 1)) ts))
    rising [] r = tt
    rising (t ∷ ts) r = (
      λ m c.
          let x = in_map number_in (map (raised_by (p.next.thread - 1)) ts) m (In-from_contains (numbers (map (raised_by (p.next.thread - 1)) ts)) m c) in
          let y = in_map (raised_by (p.next.thread - 1)) ts x.0 x.1 in
          let less = r.0 y.0.number (contains-from_In (numbers ts) y.0.number (map_in number_in ts y.0 y.1)) in
          let same : y.0.number + (p.next.thread - 1) ≡ x.0.number = ap number_in y.2 in
          let named = x.2 in
          omega (arith, less, same, named),
      rising ts r.1,
    )

    within : (u : Thread) → In u (map (raised_by (p.next.thread - 1)) s.threads) → (p.next.thread ≤ u.number) × (u.number < p.next.thread + (s.next.thread - 1))
    within u i =
        let x = in_map (raised_by (p.next.thread - 1)) s.threads u i in
        let a = numbered_from s h in
        let low = a.counted x.0 x.1 in
        let high = a.given x.0 x.1 in
        let one = k.begins in
        let same : x.0.number + (p.next.thread - 1) ≡ u.number = ap number_in x.2 in
        (omega (arith, low, one, same), omega (arith, high, low, one, same))

new_numbered : (space : List ℕ) → IsNumbered (new_layer space)
new_numbered space = from_numbered (new_layer space) (record { begins = omega arith; rising = tt; counted = λ t i. elim i [ ]; given = λ t i. elim i [ ] })

-- Lists of layers

-- each is numbered, with membership that goes down the list
abbrev All : List Layer → Type 0
All layers = (l : Layer) → In l layers → IsNumbered l

all_from : (layers : List Layer) → AreNumbered layers → All layers
all_from layers h l i = h l (contains-from_In layers l i)

from_all : (layers : List Layer) → All layers → AreNumbered layers
from_all layers h l c = h l (In-from_contains layers l c)

all_changed : (u : List ℕ) (change : Layer → Layer) → ((l : Layer) → IsNumbered l → IsNumbered (change l)) → (layers : List Layer) → All layers → All (in_layer u change layers)
all_changed u change keeps layers h l i = elim (in_edit (is_of u) change layers l i) [
  | inl k ↦ h l k
  | inr r ↦ subst IsNumbered (sym r.2) (keeps r.0 (h r.0 (found_in (is_of u) change layers r.0 r.1).0))
]

all_renamed : (r : Renaming) (keep : Layer → Bool) (layers : List Layer) → All layers → All (map (renamed_layer r) (filter keep layers))
all_renamed r keep layers h l i =
    let x = in_map (renamed_layer r) (filter keep layers) l i in
    subst IsNumbered x.2 (renamed_numbered r x.0 (h x.0 (filter_in keep layers x.0 x.1).0))

all_put : (ns ls : List Layer) → All ns → All ls → All (all_placed ns ls)
all_put ns ls h k m i = elim (in_all_put ns ls m i) [ inl a ↦ h m a | inr a ↦ k m a ]

-- the layer of a space, whether it is there or not
numbered_at : (layers : List Layer) (space : List ℕ) → All layers → IsNumbered (layer_of layers space)
numbered_at layers space h = by (layer_at layers space) refl
  where
    by : (o : Option Layer) → layer_at layers space ≡ o → IsNumbered (unwrap_or o (new_layer space))
    by None e = new_numbered space
    by (Some l) e = h l (found_in (is_of space) counting_child layers l e).0

-- Edits

pub injected_numbered : InjectedNumbered
injected_numbered space procedure layers h =
    from_all (in_layer space (starting procedure) layers) (all_changed space (starting procedure) (started procedure) layers (all_from layers h))

pub copied_numbered : CopiedNumbered
copied_numbered parent child layers h =
    let r = moving child (next_child (layer_of layers parent)) in
    let all = all_from layers h in
    from_all (copied parent child layers)
    (all_put (map (renamed_layer r) (filter (is_in child) layers)) (in_layer parent counting_child layers) (all_renamed r (is_in child) layers all)
    (all_changed parent counting_child (λ l k. from_numbered (counting_child l) (numbered_from l k)) layers all))

pub taken_numbered : TakenNumbered
taken_numbered parent child layers has t h =
    let s = layer_of layers child in
    let p = layer_of layers parent in
    let r = merging s p in
    let all = all_from layers h in
    let left : List Layer = filter (λ (l : Layer). not (is_under s.space l)) layers in
    from_all (taken_into s p layers)
    (all_put (map (renamed_layer r) (filter (is_under s.space) layers)) (in_layer p.space (joined (renamed_layer r s)) (in_layer s.space merged_away left)) (all_renamed r (is_under s.space) layers all)
    (all_changed p.space (joined (renamed_layer r s)) (λ l k. joined_numbered (renamed_layer r s) l (renamed_numbered r s (numbered_at layers child all)) k) (in_layer s.space merged_away left)
    (all_changed s.space merged_away (λ l k. from_numbered (merged_away l) (numbered_from (new_layer l.space) (new_numbered l.space))) left
    (λ l i. all l (filter_in (λ (m : Layer). not (is_under s.space m)) layers l i).0))))
