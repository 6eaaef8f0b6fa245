-- Who may wake by what a thread is about to tell.
use Rattle.std.proofs.Common.{◌≡◌, ◌⊎◌, inl, inr, ℕ, suc, ◌<◌, true, false, ◌&&◌, List, [], ◌∷◌, refl, sym, ap, subst, ◌∙◌, arith, AllPairs, Option, Some, None, is_some, option_copied, Bor, slice_get, position, Result, Ok, Err, IfOk, IfSome}
use Rattle.std.proofs.lemmas.List.Elements.{All-contains}
use Rattle.std.proofs.lemmas.List.Kept.{AllPairs-from_increasing}
use Rattle.oz_base.specs.Lists.{list_eq}
use Rattle.oz_base.specs.declared.names.Ident.{Ident}
use Rattle.oz_language.specs.declared.kernel.Statement.{Statement}
use Rattle.oz_semantics.specs.Store.{View, told_value}
use Rattle.oz_semantics.specs.Configurations.{is_of, layer_of, view, content_of, end_of}
use Rattle.oz_semantics.specs.Answers.{Act}
use Rattle.oz_semantics.specs.Changes.{Change}
use Rattle.oz_semantics.specs.Effects.{Tells, act_effect}
use Rattle.oz_semantics.specs.declared.value.Value.{Value}
use Rattle.oz_semantics.specs.declared.value.Tell.{Tell}
use Rattle.oz_semantics.specs.declared.value.Tell.TheVariants.{Equal, Is}
use Rattle.oz_semantics.specs.declared.configuration.Layer.{Layer}
use Rattle.oz_laws.specs.Touched.{Touches}
use Rattle.oz_laws.proofs.SameLaws.{and-left, and-right}
use Rattle.oz_acts.proofs.PlaceLaws.{place_own, place_view, layer_of_name}
use Rattle.view_laws.specs.Steps.{IsRising, spawned_from}
use Rattle.view_laws.proofs.NameLaws.{equal_names}
use Rattle.suspension.specs.Sleeping.{AreKeys, Wakes}
use Rattle.suspension.specs.declared.sleepers.Sleepers.{Sleepers}
use Rattle.sleep_laws.proofs.TouchingLaws.{value_touches, equation_touches}
use Rattle.space_core.specs.Levels.{OfLayer}
use Rattle.oz_sleep.specs.Laid.{AreLaid, TouchesBy, AreForetold, Foretells}
use Rattle.oz_sleep.specs.declared.sleeping.Sleeping.{Sleeping}

-- Numbers that increase

rising_pairs : (ns : List ℕ) → AllPairs (λ a b. a < b) ns → IsRising ns
rising_pairs [] h = tt
rising_pairs (n ∷ ns) h = (
  λ m c. All-contains (λ k. n < k) ns m (λ k d within. h 0 (suc k) d (omega arith) (omega arith)) c,
  rising_pairs ns (λ i j d below within. h (suc i) (suc j) d (omega arith) (omega arith)),
)

-- What a tell alone touches

pub touches_by : (view : View) (l : Layer) (act : Act) (xs : List Ident) (ts : List Tell) (changes : List Change) → act_effect l act ≡ Tells ts changes → Touches view ts xs
    → ((n : ℕ) → spawned_from n changes ≡ []) → TouchesBy view l act xs
touches_by view l act xs ts changes e touches none us others f =
    let a : ts ≡ us = cc in
    let b : changes ≡ others = cc in
    (subst (λ (zs : List Tell). Touches view zs xs) a touches, λ n. subst (λ (cs : List Change). spawned_from n cs ≡ []) b (none n))

pub untold : (found : Option (Bor Value)) (view : View) (x : Ident) → option_copied found ≡ told_value view x → is_some found ≡ false → told_value view x ≡ None
untold None view x e h = sym e
untold (Some v) view x e h = absurd (cc)

pub value_alone : (view : View) (x : Ident) (xs : List Ident) → told_value view x ≡ None → xs ≡ x ∷ [] → (v : Value) → Touches view (Is x v ∷ []) xs
value_alone view x xs free e v = subst (Touches view (Is x v ∷ [])) (sym e) (value_touches view x v free)

pub equation_alone : (view : View) (x y : Ident) (xs : List Ident) → (told_value view x ≡ None) ⊎ (told_value view y ≡ None) → xs ≡ x ∷ y ∷ [] → Touches view (Equal x y ∷ []) xs
equation_alone view x y xs free e = subst (Touches view (Equal x y ∷ [])) (sym e) (equation_touches view x y free)

-- What holds of what was found

pub some_then : {A : Type 0} (P Q : A → Type 0) (o : Option A) → ((a : A) → P a → Q a) → IfSome o P → IfSome o Q
some_then P Q None f h = tt
some_then P Q (Some a) f h = f a h

pub some_holds : {A : Type 0} (o : Option A) (a : A) (P : A → Type 0) → o ≡ Some a → IfSome o P → P a
some_holds {A} o a P e h = subst (λ (p : Option A). IfSome p P) e h

pub found_then : {A E : Type 0} (r : Result (Option A) E) (P Q : A → Type 0) → ((a : A) → P a → Q a) → IfOk r (λ o. IfSome o P) → IfOk r (λ o. IfSome o Q)
found_then (Ok o) P Q f h = some_then P Q o f h
found_then (Err e) P Q f h = tt

pub content_is : (l : Layer) (n : ℕ) (found : Option Ident) (y : Ident) → found ≡ slice_get l.cells n → found ≡ Some y → content_of l n ≡ y
content_is l n found y e h = rw (sym e ∙ h) refl

pub end_is : (l : Layer) (n : ℕ) (found : Option Ident) (y : Ident) → found ≡ slice_get l.ports n → found ≡ Some y → end_of l n ≡ y
end_is l n found y e h = rw (sym e ∙ h) refl

-- Those who were found are taken out

module _ (layers : List Layer) (id : Ident) (act : Act) (old : Sleeping) (sleepers : Sleepers) (place : ℕ) (touched : List Ident) (numbers : List ℕ) (seen : View)
    (awaits : (old.pending && list_eq old.space id.space) ≡ true) (at : Some place ≡ position (is_of id.space) layers)
    (sees : OfLayer layers place (λ l. seen ≡ view layers l.space)) (touches : OfLayer layers place (λ l. TouchesBy (view layers l.space) l act touched))
    (wakes : AreKeys seen old.sleepers → Wakes seen touched old.sleepers sleepers numbers) where
  own : old.space ≡ id.space
  own = equal_names old.space id.space (and-right old.pending (list_eq old.space id.space) awaits)

  told : TouchesBy (view layers id.space) (layer_of layers id.space) act touched
  told =
      subst (λ (sp : List ℕ). TouchesBy (view layers sp) (layer_of layers id.space) act touched) (layer_of_name layers id.space)
      (touches (layer_of layers id.space) (place_own layers id.space place at))

  woken : AreKeys (view layers old.space) old.sleepers → Wakes (view layers old.space) touched old.sleepers sleepers numbers
  woken =
      subst (λ (v : View). AreKeys v old.sleepers → Wakes v touched old.sleepers sleepers numbers)
      (place_view layers id.space place seen at sees ∙ sym (ap (view layers) own)) wakes

  foretold : (statements : List Statement) (queue : List Ident) (ts : List Tell) (changes : List Change) → AreLaid statements layers old (id ∷ queue)
      → act_effect (layer_of layers id.space) act ≡ Tells ts changes → AreForetold statements layers (record old { sleepers = sleepers }) id queue numbers ts
  foretold statements queue ts changes laid e =
      let w = woken laid.keys in
      record {
        touched = touched;
        own = and-right old.pending (list_eq old.space id.space) awaits;
        touches = subst (λ (sp : List ℕ). Touches (view layers sp) ts touched) (sym own) (told ts changes e).0;
        rising = rising_pairs numbers (AllPairs-from_increasing numbers w.ascends);
        keys = w.keys;
        untouched = w.untouched;
        rest = λ t c. elim (laid.rest t c) [
          | inl k ↦ inl k
          | inr k ↦ elim (w.sleeps t.number k.0 k.2) [
            | inl n ↦ inr (inl n)
            | inr f ↦ inr (inr (k.0, k.1, f.0, f.1))
          ]
        ];
      }

  pub foretells : Foretells layers id act old (record old { sleepers = sleepers }) (Some numbers)
  foretells = (and-left old.pending (list_eq old.space id.space) awaits, λ statements queue ts changes laid e. (foretold statements queue ts changes laid e, (told ts changes e).1))
