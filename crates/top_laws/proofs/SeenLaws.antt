-- What the top sees is what it was told. Where it was told of no space, its threads go by that alone.
use Rattle.std.proofs.Common.{◌≡◌, inl, inr, ℕ, Bool, true, false, if◌then◌else◌, cond, List, [], ◌∷◌, ◌++◌, refl, sym, ap, ap₂, subst, ◌∙◌, Option, Some, None, map, flat_map}
use Rattle.std.specs.List.{list_any}
use Rattle.std.proofs.lemmas.List.{append-nil}
use Rattle.oz_base.specs.Lists.{list_eq}
use Rattle.oz_language.specs.declared.kernel.Statement.{Statement}
use Rattle.oz_semantics.specs.Names.{is_below}
use Rattle.oz_semantics.specs.Store.{View}
use Rattle.oz_semantics.specs.Configurations.{is_of, layer_at, layer_of, is_open, view}
use Rattle.oz_semantics.specs.Sights.{States, Readiness, waits_of}
use Rattle.oz_semantics.specs.Readiness.{answer_ready}
use Rattle.oz_semantics.specs.Spaces.{ready_in, waited_in, states_of}
use Rattle.oz_semantics.specs.declared.value.Tell.{Tell}
use Rattle.oz_semantics.specs.declared.configuration.Thread.{Thread}
use Rattle.oz_semantics.specs.declared.configuration.Layer.{Layer}
use Rattle.oz_laws.proofs.SameLaws.{In, and-right}
use Rattle.view_laws.specs.Trees.{is_ascending, names_of}
use Rattle.view_laws.specs.Spaceless.{gives_space, knows_space, plain_ready}
use Rattle.view_laws.specs.Readies.{seeing}
use Rattle.view_laws.proofs.Members.{decide}
use Rattle.view_laws.proofs.NameLaws.{equal_names}
use Rattle.view_laws.proofs.TreeLaws.{one_of_name}
use Rattle.view_laws.proofs.SpacelessLaws.{spaceless_answer}
use Rattle.turn_laws.specs.Orderly.{AreOrderly}
use Rattle.turn_laws.proofs.OrderlyLaws.{is_there}

-- What the top sees

abbrev told_in : Option Layer → List Tell
told_in None = []
told_in (Some l) = l.tells

-- the top alone is above the top
above_top : (s : List ℕ) → is_below s [] ≡ list_eq s []
above_top [] = refl
above_top (n ∷ s) = refl

none_seen : (ls : List Layer) → ((l : Layer) → In l ls → is_of [] l ≡ false) → view ls [] ≡ []
none_seen [] h = refl
none_seen (l ∷ ls) h =
    ap₂ (λ (b : Bool) (ts : List Tell). (if b then l.tells else []) ++ ts) (above_top l.space ∙ h l (inl refl)) (none_seen ls (λ m i. h m (inr i)))

top_view : (ls : List Layer) → is_ascending (names_of ls) ≡ true → view ls [] ≡ told_in (layer_at ls [])
top_view [] e = refl
top_view (l ∷ ls) e = ap (λ (b : Bool). (if b then l.tells else []) ++ view ls []) (above_top l.space) ∙ by (is_of [] l) refl (top_view ls (and-right _ _ e))
  where
    later : is_of [] l ≡ true → (m : Layer) → In m ls → is_of [] m ≡ false
    later k m i = elim (decide (is_of [] m)) [
      | inl q ↦ absurd (one_of_name l ls m e i (equal_names m.space [] q ∙ sym (equal_names l.space [] k)))
      | inr q ↦ q
    ]

    by : (b : Bool) → is_of [] l ≡ b → view ls [] ≡ told_in (layer_at ls []) → (if b then l.tells else []) ++ view ls [] ≡ told_in (cond b (Some l) (layer_at ls []))
    by true k rest = ap (λ (ts : List Tell). l.tells ++ ts) (none_seen ls (later k)) ∙ append-nil l.tells
    by false k rest = rest

pub top_sees : (layers : List Layer) → AreOrderly layers → view layers [] ≡ (layer_of layers []).tells
top_sees layers good = top_view layers good.tree.ordered ∙ ap told_in (is_there layers [] good.top)

pub spaceless_top : (layers : List Layer) → AreOrderly layers → knows_space (layer_of layers []) ≡ false → list_any gives_space (view layers []) ≡ false
spaceless_top layers good plain = ap (list_any gives_space) (top_sees layers good) ∙ plain

-- What its threads go by

pub plain_top : (statements : List Statement) (layers : List Layer) (states : States) (t : Thread) → list_any gives_space (view layers []) ≡ false
    → ready_in statements layers states [] t ≡ plain_ready (seeing statements [] (view layers [])) t
plain_top statements layers states t none = ap answer_ready (spaceless_answer statements layers states [] t.frames none)

-- the same where the top sees the same
pub waited_same : (statements : List Statement) (before after : List Layer) (l : Layer) → l.space ≡ [] → view after [] ≡ view before [] → list_any gives_space (view before []) ≡ false
    → waited_in statements after (states_of statements after) l ≡ waited_in statements before (states_of statements before) l
waited_same statements before after l own seen none =
    ap (λ (f : Thread → Readiness). flat_map waits_of (if is_open l.status then map f l.threads else []))
    (subst (λ (s : List ℕ). ◌≡◌ {A = Thread → Readiness} (ready_in statements after (states_of statements after) s) (ready_in statements before (states_of statements before) s)) (sym own) (λ i t. each t i))
  where
    each : (t : Thread) → ready_in statements after (states_of statements after) [] t ≡ ready_in statements before (states_of statements before) [] t
    each t =
        plain_top statements after (states_of statements after) t (ap (list_any gives_space) seen ∙ none)
        ∙ ap (λ (v : View). plain_ready (seeing statements [] v) t) seen
        ∙ sym (plain_top statements before (states_of statements before) t none)
