-- Who sleeps after a step.
use Rattle.std.proofs.Common.{◌≡◌, inl, inr, ℕ, true, List, [], ◌∷◌, ◌++◌, map, refl, sym, ap, subst, ◌∙◌, Contains, Option, Some}
use Rattle.std.specs.Prelude.{option_to_list, unwrap_or}
use Rattle.std.specs.List.{list_all}
use Rattle.std.proofs.lemmas.Bool.{eqb-true}
use Rattle.oz_base.specs.Lists.{list_eq}
use Rattle.oz_base.specs.declared.names.Ident.{Ident}
use Rattle.oz_language.specs.declared.kernel.Statement.{Statement}
use Rattle.oz_semantics.specs.Names.{named}
use Rattle.oz_semantics.specs.Store.{is_consistent}
use Rattle.oz_semantics.specs.Configurations.{is_of, is_numbered, layer_at, layer_of, new_layer, view, in_layer, without_terminated}
use Rattle.oz_semantics.specs.Changes.{Change, changed_all, done}
use Rattle.oz_semantics.specs.Settling.{Turned}
use Rattle.oz_semantics.specs.Steps.{went_on, without_top}
use Rattle.oz_semantics.specs.declared.value.Tell.{Tell}
use Rattle.oz_semantics.specs.declared.configuration.Thread.{Thread}
use Rattle.oz_semantics.specs.declared.configuration.Layer.{Layer}
use Rattle.oz_semantics.specs.declared.configuration.Configuration.{Configuration}
use Rattle.oz_semantics.specs.declared.outcome.Stepped.TheVariants.{Moved}
use Rattle.oz_laws.specs.Touched.{Meets, Touches}
use Rattle.oz_laws.proofs.SameLaws.{In-from_contains, contains-from_In}
use Rattle.view_laws.specs.Readies.{SameClasses}
use Rattle.view_laws.specs.Steps.{IsNumbered, MadeOf}
use Rattle.view_laws.proofs.Members.{each, has-cases, has-left, has-right}
use Rattle.view_laws.proofs.ListLaws.{found_in, map_in}
use Rattle.view_laws.proofs.NameLaws.{equal_names}
use Rattle.view_laws.proofs.StepLaws.{changes_made}
use Rattle.view_laws.proofs.ViewLaws.{same_kept}
use Rattle.turn_laws.specs.Orderly.{AreOrderly}
use Rattle.turn_laws.specs.Telling.{IsAlone}
use Rattle.turn_laws.proofs.OrderlyLaws.{changes_orderly, done_orderly}
use Rattle.turn_laws.proofs.HeadLaws.{kept_head, kept_layers, head_numbered}
use Rattle.need_laws.proofs.RoundLaws.{none_there}
use Rattle.quiet_laws.proofs.WakeLaws.{found_put}
use Rattle.suspension.specs.Sleeping.{AreKeys, IsFound, IsKey}
use Rattle.suspension.specs.declared.sleepers.Sleepers.{Sleepers}
use Rattle.suspension.proofs.WakeLaws.{keys_stay, found_stays}
use Rattle.sleep_laws.specs.Asleep.{AreAtRest, AreForewarned, LeavesThreads, LeavesTold}
use Rattle.sleep_laws.specs.Woken.{WakesThese, told_queue}
use Rattle.sleep_laws.proofs.LeftLaws.{changes_left, own_name, told_left}
use Rattle.sleep_laws.proofs.RestLaws.{quiet_rests, told_rests, told_wakes_these}
use Rattle.sleep_laws.proofs.WakesLaws.{tell_wakes}
use Rattle.oz_sleep.specs.Laid.{AreForetold, AreLaid}
use Rattle.oz_sleep.specs.declared.sleeping.Sleeping.{Sleeping}
use Rattle.oz_sleep.proofs.LaidLaws.{found_class}
use Rattle.oz_machine.specs.Quiet.{IsHead, IsPlain, names_in, news_of}
use Rattle.oz_machine.proofs.ToldLaws.{open_done}

-- By the name of the space

record LaidIn (statements : List Statement) (layers : List Layer) (space : List ℕ) (sleepers : Sleepers) (ids : List Ident) : Type 0 where
  pub keys : AreKeys (view layers space) sleepers
  pub rest : AreAtRest statements layers space (IsFound (view layers space) sleepers) ids

laid_in : (statements : List Statement) (layers : List Layer) (s : Sleeping) (space : List ℕ) (ids : List Ident) → s.space ≡ space → AreLaid statements layers s ids → LaidIn statements layers space s.sleepers ids
laid_in statements layers s space ids e laid = subst (λ (sp : List ℕ). LaidIn statements layers sp s.sleepers ids) e (record { keys = laid.keys; rest = laid.rest })

laid_from : (statements : List Statement) (layers : List Layer) (s : Sleeping) (space : List ℕ) (ids : List Ident) → s.space ≡ space → LaidIn statements layers space s.sleepers ids → AreLaid statements layers s ids
laid_from statements layers s space ids e laid =
    let own : LaidIn statements layers s.space s.sleepers ids = subst (λ (sp : List ℕ). LaidIn statements layers sp s.sleepers ids) (sym e) laid in
    record { keys = own.keys; rest = own.rest }

own_numbered : (layers : List Layer) (space : List ℕ) → AreOrderly layers → (l : Layer) → layer_at layers space ≡ Some l → IsNumbered (layer_of layers space)
own_numbered layers space good l at =
    subst IsNumbered (sym (ap (λ (o : Option Layer). unwrap_or o (new_layer space)) at))
    (good.numbered l (contains-from_In layers l (found_in (is_of space) (λ m. m) layers l at).0))

-- Where nothing is told

named_among : (space : List ℕ) (news : List Thread) (ids : List Ident) (t : Thread) → names_in space news ≡ ids → Contains news t → Contains ids (named space t.number)
named_among space news ids t e c =
    subst (λ (os : List Ident). Contains os (named space t.number)) e
    (contains-from_In (names_in space news) (named space t.number) (map_in (λ (u : Thread). named space u.number) news t (In-from_contains news t c)))

pub quiet_laid : (statements : List Statement) (id : Ident) (layers old new : List Layer) (queue : List Ident) (shown : List (List ℕ)) (changes : List Change) (started : Option Ident) (s : Sleeping)
    → IsHead statements id layers queue shown → old ≡ changed_all id changes (without_top id layers) → names_in id.space (news_of (layer_of layers id.space) changes) ≡ option_to_list started
    → new ≡ in_layer id.space without_terminated old → AreLaid statements layers s (id ∷ queue) → list_eq s.space id.space ≡ true
    → AreLaid statements new s (queue ++ id ∷ option_to_list started)
quiet_laid statements id layers old new queue shown changes started s head is names left laid own =
    let c : Configuration = record { layers = layers; queue = queue; shown = shown } in
    let e : s.space ≡ id.space = equal_names s.space id.space own in
    let was = laid_in statements layers s id.space (id ∷ queue) e laid in
    let result : new ≡ in_layer id.space without_terminated (changed_all id changes (without_top id layers)) = left ∙ ap (in_layer id.space without_terminated) is in
    let before = layer_of layers id.space in
    let news = news_of before changes in
    let there = kept_head statements id queue c head in
    let made : MadeOf id layers new before news = subst (λ (ls : List Layer). MadeOf id layers ls before news) (sym result) (changes_made id changes layers before there.layer there.thread) in
    let at : layer_at new id.space ≡ Some made.after = ap (λ (ls : List Layer). layer_at ls id.space) made.left ∙ found_put id.space made.after (own_name layers id before news there.layer new made) layers before there.layer in
    let good : AreOrderly new = subst AreOrderly (sym result) (changes_orderly id changes layers (kept_layers statements (record c { queue = id ∷ queue }) head)) in
    let leaves : LeavesThreads id news layers new = subst (LeavesThreads id news layers) (sym result) (changes_left statements c id queue changes head) in
    let others : List Ident = queue ++ id ∷ option_to_list started in
    laid_from statements new s id.space others e (record {
      keys = subst (λ v. AreKeys v s.sleepers) (sym leaves.seen) was.keys;
      rest = subst (λ v. AreAtRest statements new id.space (IsFound v s.sleepers) others) (sym leaves.seen)
          (quiet_rests statements id news layers new (IsFound (view layers id.space) s.sleepers) (id ∷ queue) others (head_numbered statements id queue c head) (own_numbered new id.space good made.after at)
          (has-right id queue (id ∷ option_to_list started) (contains-from_In (id ∷ option_to_list started) id (inl refl)))
          (λ t k. has-right (named id.space t.number) queue (id ∷ option_to_list started) (has-right (named id.space t.number) (id ∷ []) (option_to_list started) (named_among id.space news (option_to_list started) t names k)))
          (λ o k. elim (has-cases o (id ∷ []) queue k) [
            | inl h ↦ has-right o queue (id ∷ option_to_list started) (has-left o (id ∷ []) (option_to_list started) h)
            | inr h ↦ has-left o queue (id ∷ option_to_list started) h
          ])
          leaves was.rest);
    })

-- Where something is told

module _ (statements : List Statement) (id : Ident) (layers old new : List Layer) (queue : List Ident) (shown : List (List ℕ)) (ts : List Tell) (changes : List Change) (s : Sleeping) (numbers : List ℕ)
    (head : IsHead statements id layers queue shown) (alone : IsAlone layers id.space) (fits : is_consistent (view layers id.space ++ ts) ≡ true) (is : old ≡ done id ts changes (without_top id layers))
    (left : new ≡ in_layer id.space without_terminated old) (foretold : AreForetold statements layers s id queue numbers ts) (none : news_of (layer_of layers id.space) changes ≡ []) where
  abbrev c : Configuration
  c = record { layers = layers; queue = queue; shown = shown }

  abbrev found : ℕ → List Ident → Type 0
  found = IsFound (view layers id.space) s.sleepers

  own : s.space ≡ id.space
  own = equal_names s.space id.space foretold.own

  result : new ≡ in_layer id.space without_terminated (done id ts changes (without_top id layers))
  result = left ∙ ap (in_layer id.space without_terminated) is

  leaves : LeavesTold id ts [] layers new
  leaves =
      subst (LeavesTold id ts [] layers) (sym result)
      (subst (λ (news : List Thread). LeavesTold id ts news layers (in_layer id.space without_terminated (done id ts changes (without_top id layers)))) none (told_left statements c id queue ts changes head alone fits))

  numbered : IsNumbered (layer_of layers id.space)
  numbered = head_numbered statements id queue c head

  ordered : IsNumbered (layer_of new id.space)
  ordered =
      let there = kept_head statements id queue c head in
      let good : AreOrderly new = subst AreOrderly (sym result) (done_orderly id ts changes layers (kept_layers statements (record c { queue = id ∷ queue }) head)) in
      let at = open_done id ts changes layers (layer_of layers id.space, there.layer, there.opened) in
      own_numbered new id.space good at.0 (ap (λ (ls : List Layer). layer_at ls id.space) result ∙ at.1)

  touches : Touches (view layers id.space) ts foretold.touched
  touches = subst (λ (sp : List ℕ). Touches (view layers sp) ts foretold.touched) own foretold.touches

  forewarned : AreForewarned statements layers id.space found foretold.touched numbers (id ∷ queue)
  forewarned = subst (λ (sp : List ℕ). AreForewarned statements layers sp (IsFound (view layers sp) s.sleepers) foretold.touched numbers (id ∷ queue)) own foretold.rest

  untouched : (k : Ident) → IsKey s.sleepers k → Meets (view layers id.space) foretold.touched k → ⊥
  untouched = subst (λ (sp : List ℕ). (k : Ident) → IsKey s.sleepers k → Meets (view layers sp) foretold.touched k → ⊥) own foretold.untouched

  keys : AreKeys (view new id.space) s.sleepers
  keys =
      let stay = keys_stay (view layers id.space) ts foretold.touched s.sleepers touches untouched (subst (λ (sp : List ℕ). AreKeys (view layers sp) s.sleepers) own foretold.keys) in
      let only : (t : Tell) → Contains (view new id.space) t → Contains (view layers id.space ++ ts) t =
      λ t k. elim (leaves.seen.only t k) [ inl h ↦ has-left t (view layers id.space) ts h | inr h ↦ has-right t (view layers id.space) ts h ] in
      record { apart = λ k l hk hl e. stay.apart k l hk hl (same_kept (view new id.space) (view layers id.space ++ ts) only e); listed = stay.listed }

  finds : (n : ℕ) (xs ys : List Ident) → found n xs → SameClasses (view new id.space) xs ys → IsFound (view new id.space) s.sleepers n ys
  finds n xs ys f same =
      found_class (view new id.space) s.sleepers n xs ys same
      (found_stays (view layers id.space) (view new id.space) s.sleepers n xs (λ x k e. same_kept (view layers id.space) (view new id.space) leaves.seen.kept e) f)

  wakes : WakesThese statements new id queue numbers
  wakes = told_wakes_these statements id ts layers new found foretold.touched numbers queue numbered ordered leaves touches forewarned

  pub told_laid : AreLaid statements new s (queue ++ id ∷ map (named id.space) numbers)
  told_laid = laid_from statements new s id.space (queue ++ id ∷ map (named id.space) numbers) own (record {
    keys = keys;
    rest = told_rests statements id ts layers new found foretold.touched numbers queue numbered ordered leaves touches forewarned (IsFound (view new id.space) s.sleepers) finds;
  })

  -- where no other thread is in the space
  pub single_laid : list_all (is_numbered id.number) (layer_of new id.space).threads ≡ true → AreLaid statements new s (queue ++ id ∷ [])
  single_laid single = laid_from statements new s id.space (queue ++ id ∷ []) own (record {
    keys = keys;
    rest = λ t k. inl (has-right (named id.space t.number) queue (id ∷ []) (contains-from_In (id ∷ []) (named id.space t.number) (inl (ap (named id.space) (sym (number t k))))));
  })
    where
      number : (t : Thread) → Contains (layer_of new id.space).threads t → t.number ≡ id.number
      number t k = eqb-true t.number id.number (each (is_numbered id.number) (layer_of new id.space).threads single t k)

  -- those who may wake join the queue, where no space is a value and each by-need computation has begun
  pub woken_turn : IsPlain new → (cost : ℕ)
      → ◌≡◌ {A = Turned} (went_on statements id cost old (record { layers = old; queue = queue; shown = shown })) (Moved cost, record { layers = new; queue = told_queue statements new id numbers queue; shown = shown })
  woken_turn plain cost =
      ap (λ (ls : List Layer). went_on statements id cost ls (record c { layers = ls })) is
      ∙ tell_wakes statements c id queue ts changes numbers cost head alone fits new result (none_there statements new plain.triggers) plain.spaces foretold.rising wakes
