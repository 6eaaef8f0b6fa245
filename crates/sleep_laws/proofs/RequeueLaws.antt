-- The queue after a step that told something, made from the threads that can step.
use Rattle.std.proofs.Common.{◌≡◌, inl, inr, ℕ, Bool, true, false, not, ◌||◌, if◌then◌else◌, List, [], ◌∷◌, ◌++◌, map, filter, refl, sym, ap, ap₂, subst, ◌∙◌, Some}
use Rattle.std.proofs.lemmas.List.Elements.{filter-append}
use Rattle.oz_base.specs.Lists.{list_eq}
use Rattle.oz_base.specs.declared.names.Ident.{Ident}
use Rattle.oz_language.specs.declared.kernel.Statement.{Statement}
use Rattle.oz_semantics.specs.Names.{named}
use Rattle.oz_semantics.specs.Settling.{is_among, mover_in, queue_after}
use Rattle.oz_semantics.specs.declared.configuration.Layer.{Layer}
use Rattle.oz_laws.proofs.SameLaws.{In}
use Rattle.view_laws.proofs.Members.{bool_eq, In-left, In-right, In-cases}
use Rattle.view_laws.proofs.ListLaws.{among_in, in_among, filter_in, in_filter, filter_none}
use Rattle.view_laws.proofs.NameLaws.{names_equal}
use Rattle.sleep_laws.specs.Woken.{top_able, is_asked_still, rest_asked, told_queue}
use Rattle.sleep_laws.proofs.WakesLaws.{filter_same, named_in}

module _ (statements : List Statement) (layers : List Layer) (mover : Ident) (numbers : List ℕ) (queue : List Ident) where
  abbrev still : Ident → Bool
  still = is_asked_still statements layers mover.space

  abbrev able : Ident → Bool
  able = top_able statements layers

  abbrev names : List Ident
  names = map (named mover.space) numbers

  abbrev moves : List Ident
  moves = if able mover then mover ∷ [] else []

  abbrev stay : List Ident
  stay = rest_asked statements layers mover queue

  -- all of these that can step
  abbrev pub all_able : List Ident
  all_able = stay ++ filter able names

  own_still : (o : Ident) → o.space ≡ mover.space → still o ≡ able o
  own_still o e = ap (λ (b : Bool). not b || able o) (subst (λ (sp : List ℕ). list_eq sp mover.space ≡ true) (sym e) (names_equal mover.space))

  in_moves : (o : Ident) → In o moves → (o ≡ mover) × (able mover ≡ true)
  in_moves o i = by (able mover) refl i
    where
      by : (b : Bool) → able mover ≡ b → In o (if b then mover ∷ [] else []) → (o ≡ mover) × (able mover ≡ true)
      by true e (inl q) = (sym q, e)
      by true e (inr q) = elim q [ ]
      by false e q = elim q [ ]

  all_still : (o : Ident) → In o all_able → still o ≡ true
  all_still o i = elim (In-cases o stay (filter able names) i) [
    | inl k ↦ elim (In-cases o (filter still queue) moves k) [
      | inl m ↦ (filter_in still queue o m).1
      | inr m ↦ (let r = in_moves o m in ap still r.0 ∙ own_still mover refl ∙ r.1)
    ]
    | inr k ↦ (let f = filter_in able names o k in own_still o (named_in mover.space numbers o f.0) ∙ f.1)
  ]

  queue_still : (o : Ident) → In o queue → is_among all_able o ≡ still o
  queue_still o h = bool_eq _ _
      (λ e. all_still o (among_in all_able o e))
      (λ e. in_among all_able o (In-left o stay (filter able names) (In-left o (filter still queue) moves (in_filter still queue o h e))))

  mover_able : is_among all_able mover ≡ able mover
  mover_able = bool_eq _ _
      (λ e. sym (own_still mover refl) ∙ all_still mover (among_in all_able mover e))
      (λ e. in_among all_able mover (In-left mover stay (filter able names) (In-right mover (filter still queue) moves (subst (λ (b : Bool). In mover (if b then mover ∷ [] else [])) (sym e) (inl refl)))))

  stays : filter (is_among all_able) queue ++ mover_in (Some mover) all_able ≡ stay
  stays = ap₂ (λ (xs ys : List Ident). xs ++ ys) (filter_same (is_among all_able) still queue queue_still) (ap (λ (b : Bool). if b then mover ∷ [] else []) mover_able)

  abbrev comes : Ident → Bool
  comes o = not (is_among stay o)

  none_comes : filter comes stay ≡ []
  none_comes = filter_none comes stay (λ o i. ap not (in_among stay o i))

  pub requeued_told : queue_after all_able (Some mover) queue ≡ told_queue statements layers mover numbers queue
  requeued_told =
      ap (λ (q : List Ident). q ++ filter (λ o. not (is_among q o)) all_able) stays
      ∙ ap (λ (q : List Ident). stay ++ q) (filter-append comes stay (filter able names) ∙ ap (λ (q : List Ident). q ++ filter comes (filter able names)) none_comes)
