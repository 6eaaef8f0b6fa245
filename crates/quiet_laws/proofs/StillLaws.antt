-- Where something of a space can step before its step and after it, the states of all spaces stay, and what threads can do where they see the same.
use Rattle.std.proofs.Common.{◌≡◌, inl, inr, ℕ, Bool, true, false, List, [], ◌∷◌, ◌++◌, refl, sym, ap, subst, ◌∙◌, append_assoc}
use Rattle.oz_base.specs.Lists.{list_eq}
use Rattle.oz_language.specs.declared.kernel.Statement.{Statement}
use Rattle.oz_semantics.specs.Names.{is_below}
use Rattle.oz_semantics.specs.Configurations.{view}
use Rattle.oz_semantics.specs.Sights.{state_in}
use Rattle.oz_semantics.specs.Spaces.{state_by, states_behind, states_of, thread_ready, goes_on}
use Rattle.oz_semantics.specs.declared.configuration.Thread.{Thread}
use Rattle.oz_semantics.specs.declared.configuration.Status.{Status}
use Rattle.oz_semantics.specs.declared.configuration.Status.TheVariants as status
use Rattle.oz_semantics.specs.declared.configuration.Layer.{Layer}
use Rattle.oz_laws.proofs.SameLaws.{In}
use Rattle.view_laws.specs.Trees.{is_ascending, names_of}
use Rattle.view_laws.proofs.Members.{decide}
use Rattle.view_laws.proofs.NameLaws.{equal_names}
use Rattle.view_laws.proofs.ReadyLaws.{same_seen}
use Rattle.view_laws.proofs.BehindLaws.{ready_agrees}
use Rattle.quiet_laws.proofs.StateLaws.{Pairs, Rests, head_state, pass, runs, states_rest}

module _ (statements : List Statement) (space : List ℕ) (old new : List Layer) (pairs : Pairs space old new) (rests : (l : Layer) → In l old → is_below l.space space ≡ false → Rests statements space old new l)
    (ordered : is_ascending (names_of old) ≡ true) (later : is_ascending (names_of new) ≡ true) (goes : (u : List ℕ) → is_below u space ≡ true → goes_on statements old u ≡ true)
    (goes_still : (u : List ℕ) → is_below u space ≡ true → goes_on statements new u ≡ true) where
  -- a space above runs both times, or its state goes by its status alone
  state_stays : (front ls back ms : List Layer) (l m : Layer) → old ≡ front ++ l ∷ ls → new ≡ back ++ m ∷ ms → m.space ≡ l.space → is_below l.space space ≡ true → (st : Status)
      → state_by statements new (states_behind statements new ms) m st ≡ state_by statements old (states_behind statements old ls) l st
  state_stays front ls back ms l m one other named above status.Open =
      runs statements new back ms m later other (goes_still m.space (subst (λ s. is_below s space ≡ true) (sym named) above))
      ∙ sym (runs statements old front ls l ordered one (goes l.space above))
  state_stays front ls back ms l m one other named above status.Failed = refl
  state_stays front ls back ms l m one other named above (status.Raised x) = refl
  state_stays front ls back ms l m one other named above status.Merged = refl

  behind_stays : (front ls back ms : List Layer) → Pairs space ls ms → old ≡ front ++ ls → new ≡ back ++ ms → (c : List ℕ) → is_below c space ≡ true
      → state_in (states_behind statements new ms) c ≡ state_in (states_behind statements old ls) c
  behind_stays front [] back [] p one other c above = refl
  behind_stays front (l ∷ ls) back (m ∷ ms) p one other c above =
      by (list_eq l.space c) refl (behind_stays (front ++ l ∷ []) ls (back ++ m ∷ []) ms p.1 (one ∙ sym (append_assoc front (l ∷ []) ls)) (other ∙ sym (append_assoc back (m ∷ []) ms)) c above)
    where
      by : (b : Bool) → list_eq l.space c ≡ b → state_in (states_behind statements new ms) c ≡ state_in (states_behind statements old ls) c
          → state_in (states_behind statements new (m ∷ ms)) c ≡ state_in (states_behind statements old (l ∷ ls)) c
      by true k rest =
          let above_l : is_below l.space space ≡ true = subst (λ s. is_below s space ≡ true) (sym (equal_names l.space c k)) above in
          let same : state_by statements new (states_behind statements new ms) m m.status ≡ state_by statements old (states_behind statements old ls) l l.status =
          ap (λ (st : Status). state_by statements new (states_behind statements new ms) m st) p.0.status ∙ state_stays front ls back ms l m one other p.0.named above_l l.status in
          ap (λ (s : List ℕ). state_in ((s, state_by statements new (states_behind statements new ms) m m.status) ∷ states_behind statements new ms) c) p.0.named
          ∙ head_state true l.space (state_by statements old (states_behind statements old ls) l l.status) (state_by statements new (states_behind statements new ms) m m.status)
          (states_behind statements old ls) (states_behind statements new ms) c k same rest
      by false k rest =
          pass m.space (state_by statements new (states_behind statements new ms) m m.status) (states_behind statements new ms) c (ap (λ v. list_eq v c) p.0.named ∙ k)
          ∙ rest
          ∙ sym (pass l.space (state_by statements old (states_behind statements old ls) l l.status) (states_behind statements old ls) c k)
  behind_stays front [] back (m ∷ ms) p one other c above = elim p [ ]
  behind_stays front (l ∷ ls) back [] p one other c above = elim p [ ]

  states_stay : (c : List ℕ) → state_in (states_of statements new) c ≡ state_in (states_of statements old) c
  states_stay c = elim (decide (is_below c space)) [ inl k ↦ behind_stays [] old [] new pairs refl refl c k | inr k ↦ states_rest statements space old new pairs rests c k ]

  pub thread_stays : (u : List ℕ) → view new u ≡ view old u → (t : Thread) → thread_ready statements new u t ≡ thread_ready statements old u t
  thread_stays u seen t =
      (same_seen statements old new u seen).threads (states_of statements new) t
      ∙ ready_agrees statements old (states_of statements new) (states_of statements old) u (λ c k. states_stay c) t
