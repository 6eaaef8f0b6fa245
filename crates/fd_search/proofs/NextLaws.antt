-- The state of a space that distributes, after it was told domains.
use Rattle.std.proofs.Common.{◌≡◌, true, List, [], ◌∷◌, ◌++◌, Contains, Some, refl, sym, subst}
use Rattle.oz_base.specs.declared.names.Ident.{Ident}
use Rattle.oz_base.specs.declared.distribution.Split.{Split}
use Rattle.oz_domains.specs.Positions.{AreParts}
use Rattle.oz_semantics.specs.Store.{View, is_consistent}
use Rattle.oz_semantics.specs.Sights.{Parts, Offers}
use Rattle.oz_semantics.specs.Answers.{Rests}
use Rattle.oz_semantics.specs.declared.value.Tell.{Tell}
use Rattle.oz_semantics.specs.declared.configuration.Frame.{Frame}
use Rattle.oz_semantics.specs.declared.configuration.Configuration.{Configuration}
use Rattle.oz_laws.proofs.StoreLaws.{tests_consistent}
use Rattle.view_laws.specs.Readies.{Keeps}
use Rattle.fd_stores.specs.Stores.{Store, Constraint}
use Rattle.fd_stores.specs.Choices.{first_store, second_store}
use Rattle.fd_stores.specs.Laws.{AreOver}
use Rattle.fd_views.specs.Views.{StandsFor, OnlyDomains}
use Rattle.fd_views.proofs.SameLaws.{keeps_more}
use Rattle.fd_views.proofs.TellLaws.{stands_consistent}
use Rattle.fd_runs.specs.Offers.{first_tell, second_tell}
use Rattle.fd_turns.specs.Nodes.{Top, answered, config}
use Rattle.fd_turns.proofs.SettleLaws.{IsPlainAnswer}
use Rattle.fd_steps.specs.States.{State, told_more, node_of, view_of, IsGood}
use Rattle.fd_steps.proofs.GoodLaws.{view_more, parts_good}
use Rattle.fd_search.specs.Laws.{Setting, IsSearched, Stands}
use Rattle.fd_search.proofs.OfferLaws.{plain_here}
use Rattle.fd_search.proofs.StateLaws.{IsFull, IsReady, full_more, ready_more}

abbrev pub conf : Setting → State → List Frame → Configuration
conf its st frames = config its.kernel.statements its.top (node_of st frames)

pub good_fits : (t : Top) (cs : List Constraint) (st : State) → IsGood t cs st → is_consistent (view_of t st) ≡ true
good_fits t cs st h = (let o = h.over in (tests_consistent (view_of t st)).1 (stands_consistent (view_of t st) st.variables st.store h.stands o.domains))

-- these domains leave this part of the store
abbrev pub Leaves : Setting → State → List Tell → Store → Type 0
Leaves its st us a = OnlyDomains us × StandsFor (view_of its.top st ++ us) st.variables a × AreOver its.constraints a × AreParts a st.store

-- the space offers the two parts of this split to its search
pub record Offering (its : Setting) (st : State) (f : Frame) (p : Split) : Type 0 where
  pub over : List Ident
  pub answer : answered its.kernel.statements its.top (node_of st (f ∷ [])) ≡ Rests (Offers (Parts (first_tell st.variables its.distribution st.store p) (second_tell st.variables its.distribution st.store p)) over)
  pub among : (x : Ident) → Contains over x → Contains st.variables x
  pub first : (a : Store) → first_store its.distribution p st.store ≡ Some a → Leaves its st (first_tell st.variables its.distribution st.store p ∷ []) a
  pub second : (b : Store) → second_store its.distribution p st.store ≡ Some b → Leaves its st (second_tell st.variables its.distribution st.store p ∷ []) b

module _ (its : Setting) (g : IsSearched its) (st : State) (h : IsFull its st) (f : Frame) (ready : IsReady its st f) (us : List Tell) (a : Store) (k : Leaves its st us a) where
  abbrev seen : View
  seen = view_of its.top st

  abbrev pub next : State
  next = told_more us a st

  pub next_good : IsGood its.top its.constraints next
  next_good = parts_good its.top its.constraints st h.good us a k.0 k.1 k.2 k.3

  next_keeps : Keeps seen (view_of its.top next)
  next_keeps = subst (Keeps seen) (sym (view_more its.top its.constraints st h.good us a)) (keeps_more seen us)

  pub next_full : IsFull its next
  next_full = full_more its st next next_keeps refl h next_good refl k.3

  pub next_ready : IsReady its next f
  next_ready = ready_more its st next next_keeps refl f ready

  pub next_fits : is_consistent (view_of its.top next) ≡ true
  next_fits = good_fits its.top its.constraints next next_good

  pub next_plain : IsPlainAnswer (answered its.kernel.statements its.top (node_of next (f ∷ [])))
  next_plain = plain_here its g next next_full f next_ready

  pub next_stands : (c : Configuration) → c ≡ conf its next (f ∷ []) → Stands its c a
  next_stands c here = record {
    state = next;
    frame = f;
    good = next_good;
    distributes = next_ready;
    posted = next_full.posted;
    parts = next_full.parts;
    variables = next_full.variables;
    rooted = next_full.rooted;
    here = here;
    store = refl;
  }
