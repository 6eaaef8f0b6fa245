-- What a commitment of a space changes, by what it comes to.
use Rattle.std.proofs.Common.{◌≡◌, ℕ, Bool, cond, List, [], ◌∷◌, Option, Some, None, MatchOption, refl, sym, ap, subst, ◌∙◌}
use Rattle.std.specs.Prelude.{is_some, position}
use Rattle.std.specs.Option.{option_and_then}
use Rattle.std.specs.List.{find, filter_map, cons_option}
use Rattle.std.proofs.lemmas.List.{append-nil}
use Rattle.oz_base.specs.Lists.{first, edit_first}
use Rattle.oz_base.specs.declared.names.Ident.{Ident}
use Rattle.oz_language.specs.declared.kernel.Statement.{Statement}
use Rattle.oz_semantics.specs.Configurations.{is_of, is_numbered, layer_at, in_layer, with_frames, telling}
use Rattle.oz_semantics.specs.Sights.{Sight, Offer}
use Rattle.oz_semantics.specs.Spaces.{sight}
use Rattle.oz_semantics.specs.Edits.{chosen_tells, choosing, thread_offer, committing, committed as commitment}
use Rattle.oz_semantics.specs.declared.value.Tell.{Tell}
use Rattle.oz_semantics.specs.declared.configuration.Frame.{Frame}
use Rattle.oz_semantics.specs.declared.configuration.Thread.{Thread}
use Rattle.oz_semantics.specs.declared.configuration.Layer.{Layer}
use Rattle.space_core.specs.Levels.{replacing}
use Rattle.stability.specs.Offers.{offers, IsOffered, GoesOnWith, TellsOf, IsChoice, Commits, choice_made}
use Rattle.stability.specs.Places.{IsAbsent, IsFirst}
use Rattle.stability.specs.declared.offers.Choice.{Choice}
use Rattle.stability.specs.declared.offers.Choice.TheVariants.{Nothing, GoesOn, Tells}
use Rattle.stability.proofs.Firsts.{Found, found_at, found_by_position, edits_agree, edit_same}

-- The first item that gives something

first_filter : {A B : Type 0} (f : A → Option B) (xs : List A) → first (filter_map f xs) ≡ option_and_then f (find (λ x. is_some (f x)) xs)
first_filter f [] = refl
first_filter {A} {B} f (x ∷ xs) = by (f x) refl (first_filter f xs)
  where
    by : (o : Option B) → f x ≡ o → first (filter_map f xs) ≡ option_and_then f (find (λ y. is_some (f y)) xs)
        → first (cons_option (f x) (filter_map f xs)) ≡ option_and_then f (cond (is_some (f x)) (Some x) (find (λ y. is_some (f y)) xs))
    by None e rest = rw e rest
    by (Some b) e rest =
        ap (λ (o : Option B). first (cons_option o (filter_map f xs))) e ∙ sym e
        ∙ sym (ap (λ (o : Option B). option_and_then f (cond (is_some o) (Some x) (find (λ y. is_some (f y)) xs))) e)

absent : {A : Type 0} (test : A → Bool) (xs : List A) → find test xs ≡ None → IsAbsent test xs
absent {A} test xs e = by (position test xs) (found_by_position test xs)
  where
    none_some : {x : A} → None ≡ Some x → ⊥
    none_some k = cc

    by : (at : Option ℕ) → Found test xs at → IsAbsent test xs
    by None h = h
    by (Some p) h = absurd (none_some (sym e ∙ h.1.found))

there : {A : Type 0} (test : A → Bool) (xs : List A) (x : A) → find test xs ≡ Some x → (p : ℕ) × IsFirst test xs p x
there {A} test xs x e = by (position test xs) (found_by_position test xs)
  where
    none_some : {x : A} → None ≡ Some x → ⊥
    none_some k = cc

    same : {x y : A} → Some x ≡ Some y → x ≡ y
    same k = cc

    by : (at : Option ℕ) → Found test xs at → (p : ℕ) × IsFirst test xs p x
    by None h = absurd (none_some (sym h.none ∙ e))
    by (Some p) h = (p, subst (IsFirst test xs p) (same (sym h.1.found ∙ e)) h.1)

-- Of one layer

module _ (s : Sight) (i : ℕ) (l : Layer) where
  -- its threads, of which the first that offers was changed
  abbrev gone_on : List Thread
  gone_on = edit_first (offers s) (λ t. choosing i t (thread_offer s t)) l.threads

  told : (o : Option Offer) → first (filter_map (thread_offer s) l.threads) ≡ o → committing s i l ≡ telling (chosen_tells i o) (record l { threads = gone_on })
  told o e = ap (λ (p : Option Offer). telling (chosen_tells i p) (record l { threads = gone_on })) e

  offered_first : (p : ℕ) (t : Thread) (offer : Offer) → IsOffered s l.threads p t offer → first (filter_map (thread_offer s) l.threads) ≡ Some offer
  offered_first p t offer h = first_filter (thread_offer s) l.threads ∙ ap (option_and_then (thread_offer s)) h.first.found ∙ h.offered

  nothing_told : (threads : List Thread) → telling [] (record l { threads = threads }) ≡ record l { threads = threads }
  nothing_told threads = ap (λ (ts : List Tell). record l { threads = threads; tells = ts }) (append-nil l.tells)

  nothing_offered : find (offers s) l.threads ≡ None → committing s i l ≡ l
  nothing_offered e =
      told None (first_filter (thread_offer s) l.threads ∙ ap (option_and_then (thread_offer s)) e)
      ∙ nothing_told gone_on
      ∙ ap (λ (ts : List Thread). record l { threads = ts }) ((absent (offers s) l.threads e).same (λ t. choosing i t (thread_offer s t)))

  goes_on : (thread : Ident) (frames : List Frame) → GoesOnWith s i l.threads thread frames → committing s i l ≡ with_frames thread.number (replacing frames) l
  goes_on thread frames h =
      let numbered = found_at (is_numbered h.t.number) l.threads (Some h.place) (sym h.numbered) in
      let change : choosing i h.t (thread_offer s h.t) ≡ record h.t { frames = replacing frames h.t.frames } =
      ap (choosing i h.t) h.offered.offered ∙ ap (λ (fs : List Frame). record h.t { frames = fs }) (sym h.stack) in
      told (Some h.offer) (offered_first h.place h.t h.offer h.offered)
      ∙ ap (λ (ts : List Tell). telling ts (record l { threads = gone_on })) h.silent
      ∙ nothing_told gone_on
      ∙ ap (λ (ts : List Thread). record l { threads = ts })
      (edits_agree (offers s) (is_numbered h.t.number) (λ t. choosing i t (thread_offer s t)) (λ t. record t { frames = replacing frames t.frames }) l.threads h.place h.t numbered.0
      h.offered.first numbered.1 change)
      ∙ ap (λ (x : Ident). with_frames x.number (replacing frames) l) (sym h.named)

  tells : (tell : Tell) → TellsOf s i l.threads tell → committing s i l ≡ telling (tell ∷ []) l
  tells tell h =
      let same : choosing i h.t (thread_offer s h.t) ≡ h.t =
      ap (choosing i h.t) h.offered.offered ∙ ap (λ (fs : List Frame). record h.t { frames = fs }) h.stack in
      told (Some h.offer) (offered_first h.place h.t h.offer h.offered)
      ∙ ap (λ (ts : List Tell). telling ts (record l { threads = gone_on })) h.told
      ∙ ap (λ (ts : List Thread). telling (tell ∷ []) (record l { threads = ts })) (edit_same (offers s) (λ t. choosing i t (thread_offer s t)) l.threads h.place h.t h.offered.first same)

-- Of a space

module _ (statements : List Statement) (layers : List Layer) (space : List ℕ) (i : ℕ) where
  in_first : (l : Layer) (f : Layer → Layer) → layer_at layers space ≡ Some l → committing (sight statements layers space) i l ≡ f l → commitment statements space i layers ≡ in_layer space f layers
  in_first l f e is =
      let h = there (is_of space) layers l e in
      edits_agree (is_of space) (is_of space) (committing (sight statements layers space) i) f layers h.0 l l h.1 h.1 is

  of_layer : (l : Layer) (choice : Choice) → layer_at layers space ≡ Some l → IsChoice (sight statements layers space) i l.threads choice → commitment statements space i layers ≡ choice_made space choice layers
  of_layer l Nothing e is =
      let h = there (is_of space) layers l e in
      edit_same (is_of space) (committing (sight statements layers space) i) layers h.0 l h.1 (nothing_offered (sight statements layers space) i l is)
  of_layer l (GoesOn thread frames) e is =
      in_first l (with_frames thread.number (replacing frames.items)) e (goes_on (sight statements layers space) i l thread frames.items is)
      ∙ ap (λ (x : Ident). in_layer x.space (with_frames thread.number (replacing frames.items)) layers) (sym is.named)
  of_layer l (Tells tell) e is = in_first l (telling (tell ∷ [])) e (tells (sight statements layers space) i l tell is)

  -- the edit of the definitions is what a commitment changes that comes to this
  pub committed : (choice : Choice) → Commits statements layers space i choice → commitment statements space i layers ≡ choice_made space choice layers
  committed choice is = by (layer_at layers space) refl is
    where
      by : (o : Option Layer) → layer_at layers space ≡ o → MatchOption o (choice ≡ Nothing) (λ (l : Layer). IsChoice (sight statements layers space) i l.threads choice)
          → commitment statements space i layers ≡ choice_made space choice layers
      by None e h = (absent (is_of space) layers e).same (committing (sight statements layers space) i) ∙ ap (λ (c : Choice). choice_made space c layers) (sym h)
      by (Some l) e h = of_layer l choice e h
