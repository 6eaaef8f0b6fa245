-- What a commitment comes to.
use Rattle.std.proofs.Common.{◌≡◌, ◌<◌, ℕ, ℤ, pos, negsuc, ◌&&◌, Bool, true, false, if◌then◌else◌, List, [], ◌∷◌, map, length, get_or, Option, Some, None, MatchOption, Result, Ok, Err, refl, sym, ap, ◌∙◌, subst, arith}
use Rattle.std.specs.Prelude.{is_some, position, nat_le, IfOk, OnErr}
use Rattle.std.specs.declared.alloc.AllocError.{AllocError}
use Rattle.std.proofs.lemmas.Result.{IfOk-weaker}
use Rattle.std.specs.List.{filter_map, cons_option}
use Rattle.std.proofs.lemmas.Option.{get_or_from_slice_get}
use Rattle.std.proofs.lemmas.Bool.{false≢true}
use Rattle.oz_base.specs.Lists.{first, is_empty}
use Rattle.oz_base.specs.ListLaws.{list_eq-decides}
use Rattle.oz_base.specs.declared.names.Ident.{Ident}
use Rattle.oz_language.specs.declared.kernel.Statement.{Statement}
use Rattle.oz_semantics.specs.Values.{integer_in, is_procedure}
use Rattle.oz_semantics.specs.Store.{View, value_of}
use Rattle.oz_semantics.specs.Configurations.{is_of, is_numbered, view, layer_at}
use Rattle.oz_semantics.specs.Sights.{Sight, States, state_in, Offer, Readiness, offer_of}
use Rattle.oz_semantics.specs.Answers.{Answer, Acts, Edits, RaisesKind, RaisesTerm, Operates, Widens, Rests, Edit, Commits, Copies, TakesIn, GivesTerm, given, of_kind}
use Rattle.oz_semantics.specs.Operations.{once_decided, unless_merged, state_term, alternative_of, committed_in, unless_ended, injected_in, injects, operated, with_state, by_state}
use Rattle.oz_semantics.specs.Readiness.{answer_ready}
use Rattle.oz_semantics.specs.Statements.{stack_answer}
use Rattle.oz_semantics.specs.Spaces.{sight, ready_in, offer_in}
use Rattle.oz_semantics.specs.Edits.{chosen, chosen_tells}
use Rattle.oz_semantics.specs.declared.value.Tell.{Tell}
use Rattle.oz_semantics.specs.declared.value.SpaceOperation.{SpaceOperation}
use Rattle.oz_semantics.specs.declared.value.SpaceOperation.TheVariants as operation
use Rattle.oz_semantics.specs.declared.value.Value.{Value}
use Rattle.oz_semantics.specs.declared.outcome.RaiseKind.TheVariants as raise
use Rattle.oz_semantics.specs.declared.outcome.State.{State}
use Rattle.oz_semantics.specs.declared.outcome.State.TheVariants as states
use Rattle.oz_semantics.specs.declared.configuration.Frame.{Frame}
use Rattle.oz_semantics.specs.declared.configuration.Thread.{Thread}
use Rattle.oz_semantics.specs.declared.configuration.Status.TheVariants as status
use Rattle.oz_semantics.specs.declared.configuration.Layer.{Layer}
use Rattle.view_laws.specs.Spaceless.{plain_ready}
use Rattle.space_core.specs.Levels.{replacing}
use Rattle.stability.specs.Places.{IsFirst}
use Rattle.stability.specs.Offers.{offers, IsOffered, GoesOnAs, IsChoice, Commits as CommitsTo}
use Rattle.stability.specs.declared.offers.Choice.{Choice}
use Rattle.stability.specs.declared.offers.Choice.TheVariants as choices
use Rattle.stability.proofs.ReadyLaws.{open_readinesses}

-- a list with a place is not empty
pub has_place : {A : Type 0} (xs : List A) (i : ℕ) → i < length xs → is_empty xs ≡ false
has_place [] i h = absurd (omega (arith, h))
has_place (x ∷ xs) i h = refl

-- what holds at all holds where something is refused
pub if_refused : {A E P : Type 0} (r : Result A E) → P → OnErr r P
if_refused (Ok x) h = tt
if_refused (Err e) h = h

-- what a thread offers that offers something
pub some_of : {A : Type 0} (o : Option A) → is_some o ≡ true → (x : A) × (o ≡ Some x)
some_of None e = absurd (false≢true e)
some_of (Some x) e = (x, refl)

-- The first thread that offers, with what is chosen

pub is_offered : (s : Sight) (threads : List Thread) (p : ℕ) (t : Thread) → IsFirst (offers s) threads p t → (offer : Offer) × IsOffered s threads p t offer
is_offered s threads p t h = let found = some_of (offer_of (plain_ready s t)) h.passes in (found.0, record { first = h; offered = found.1 })

-- what is said of the offer of the thread that is read at its place
chosen_there : (s : Sight) (threads : List Thread) (p : ℕ) (t x : Thread) (offer : Offer) (says : List Frame → Offer → Type 0) → IsOffered s threads p t offer → x ≡ get_or threads p x
    → ((offer : Offer) → offer_of (plain_ready s x) ≡ Some offer → says x.frames offer) → says t.frames offer
chosen_there s threads p t x offer says h read said =
    subst (λ (y : Thread). (offer : Offer) → offer_of (plain_ready s y) ≡ Some offer → says y.frames offer) (read ∙ get_or_from_slice_get threads p t x h.first.item) said offer h.offered

-- it goes on with these frames
going_by : (s : Sight) (i : ℕ) (threads : List Thread) (p : ℕ) (t : Thread) (offer : Offer) (fs : List Frame) → IsOffered s threads p t offer → replacing fs t.frames ≡ chosen i t.frames offer
    → chosen_tells i (Some offer) ≡ [] → (choice : Choice) → GoesOnAs s.space t (position (is_numbered t.number) threads ≡ Some p) fs choice → IsChoice s i threads choice
going_by s i threads p t offer fs h stack silent choices.Nothing as_so = absurd as_so
going_by s i threads p t offer fs h stack silent (choices.GoesOn thread frames) as_so = record {
  place = p;
  t = t;
  offer = offer;
  offered = h;
  named = as_so.0;
  numbered = as_so.2;
  stack = ap (λ (xs : List Frame). replacing xs t.frames) as_so.1 ∙ stack;
  silent = silent;
}
going_by s i threads p t offer fs h stack silent (choices.Tells tell) as_so = absurd as_so

pub goes_choice : (s : Sight) (i : ℕ) (threads : List Thread) (p : ℕ) (t x : Thread) (fs : List Frame) → IsFirst (offers s) threads p t → x ≡ get_or threads p x
    → ((offer : Offer) → offer_of (plain_ready s x) ≡ Some offer → (replacing fs x.frames ≡ chosen i x.frames offer) × (chosen_tells i (Some offer) ≡ []))
    → (r : Result Choice AllocError) → IfOk r (GoesOnAs s.space t (position (is_numbered t.number) threads ≡ Some p) fs) → IfOk r (IsChoice s i threads)
goes_choice s i threads p t x fs h read says r goes =
    let found = is_offered s threads p t h in
    let so = chosen_there s threads p t x found.0 (λ stack offer. (replacing fs stack ≡ chosen i stack offer) × (chosen_tells i (Some offer) ≡ [])) found.1 read says in
    IfOk-weaker r _ _ (λ choice as_so. going_by s i threads p t found.0 fs found.1 so.0 so.1 choice as_so) goes

pub tells_choice : (s : Sight) (i : ℕ) (threads : List Thread) (p : ℕ) (t x : Thread) (tell : Tell) → IsFirst (offers s) threads p t → x ≡ get_or threads p x
    → ((offer : Offer) → offer_of (plain_ready s x) ≡ Some offer → (x.frames ≡ chosen i x.frames offer) × (chosen_tells i (Some offer) ≡ tell ∷ [])) → IsChoice s i threads (choices.Tells tell)
tells_choice s i threads p t x tell h read says =
    let found = is_offered s threads p t h in
    let so = chosen_there s threads p t x found.0 (λ stack offer. (stack ≡ chosen i stack offer) × (chosen_tells i (Some offer) ≡ tell ∷ [])) found.1 read says in
    record { place = p; t = t; offer = found.0; offered = found.1; stack = sym so.0; told = so.1 }

-- a choice of the threads of the first layer of a space is one of the space
pub commits_space : (statements : List Statement) (layers : List Layer) (space : List ℕ) (i p : ℕ) (l : Layer) → IsFirst (is_of space) layers p l
    → (choice : Choice) → IsChoice (sight statements layers l.space) i l.threads choice → CommitsTo statements layers space i choice
commits_space statements layers space i p l h choice is =
    subst (λ (o : Option Layer). MatchOption o (choice ≡ choices.Nothing) (λ (l : Layer). IsChoice (sight statements layers space) i l.threads choice)) (sym h.found)
    (subst (λ (s : List ℕ). IsChoice (sight statements layers s) i l.threads choice) ((list_eq-decides l.space space).0 h.passes) is)

-- of a space that is not there there is none
pub commits_nothing : (statements : List Statement) (layers : List Layer) (space : List ℕ) (i : ℕ) → layer_at layers space ≡ None → CommitsTo statements layers space i choices.Nothing
commits_nothing statements layers space i e =
    subst (λ (o : Option Layer). MatchOption o (choices.Nothing ≡ choices.Nothing) (λ (l : Layer). IsChoice (sight statements layers space) i l.threads choices.Nothing)) (sym e) refl

-- What is offered does not go by the states of spaces: no operation on a space offers anything

abbrev OffersNothing : Answer → Type 0
OffersNothing a = offer_of (answer_ready a) ≡ None

merged_offers : (st : State) (go : Answer) → OffersNothing go → OffersNothing (unless_merged st go)
merged_offers states.Merged go h = refl
merged_offers states.Running go h = h
merged_offers states.Suspended go h = h
merged_offers states.Failed go h = h
merged_offers (states.Raised x) go h = h
merged_offers (states.Alternatives n) go h = h
merged_offers states.Solved go h = h
merged_offers states.Stuck go h = h

decided_offers : (st : State) (waits go : Answer) → OffersNothing waits → OffersNothing go → OffersNothing (once_decided st waits go)
decided_offers states.Running waits go w h = w
decided_offers states.Suspended waits go w h = w
decided_offers states.Merged waits go w h = h
decided_offers states.Failed waits go w h = h
decided_offers (states.Raised x) waits go w h = h
decided_offers (states.Alternatives n) waits go w h = h
decided_offers states.Solved waits go w h = h
decided_offers states.Stuck waits go w h = h

given_offers : (x : Ident) (o : Option Value) (go : Value → Answer) → ((v : Value) → OffersNothing (go v)) → OffersNothing (given x o go)
given_offers x None go h = refl
given_offers x (Some v) go h = h v

kind_offers : {A : Type 0} (o : Option A) (go : A → Answer) → ((a : A) → OffersNothing (go a)) → OffersNothing (of_kind o go)
kind_offers None go h = refl
kind_offers (Some a) go h = h a

if_offers : (b : Bool) (one other : Answer) → OffersNothing one → OffersNothing other → OffersNothing (if b then one else other)
if_offers true one other h k = h
if_offers false one other h k = k

alternative_offers : (space : List ℕ) (n : ℕ) (i : ℤ) → OffersNothing (alternative_of space n i)
alternative_offers space n (pos i) = if_offers (nat_le 1 i && nat_le i n) (Edits (Commits space i)) (RaisesKind raise.SpaceChoice) refl refl
alternative_offers space n (negsuc i) = refl

committed_offers : (space : List ℕ) (st : State) (i : ℤ) → OffersNothing (committed_in space st i)
committed_offers space (states.Alternatives n) i = alternative_offers space n i
committed_offers space (states.Raised x) i = refl
committed_offers space states.Failed i = refl
committed_offers space states.Running i = refl
committed_offers space states.Suspended i = refl
committed_offers space states.Merged i = refl
committed_offers space states.Solved i = refl
committed_offers space states.Stuck i = refl

ended_offers : (st : State) (edit : Edit) → OffersNothing (unless_ended st edit)
ended_offers states.Failed edit = refl
ended_offers (states.Raised x) edit = refl
ended_offers states.Running edit = refl
ended_offers states.Suspended edit = refl
ended_offers states.Merged edit = refl
ended_offers (states.Alternatives n) edit = refl
ended_offers states.Solved edit = refl
ended_offers states.Stuck edit = refl

injected_offers : (space : List ℕ) (p : Ident) (st : State) → OffersNothing (injected_in space p st)
injected_offers space p states.Failed = refl
injected_offers space p (states.Raised x) = refl
injected_offers space p states.Running = refl
injected_offers space p states.Suspended = refl
injected_offers space p states.Merged = refl
injected_offers space p (states.Alternatives n) = refl
injected_offers space p states.Solved = refl
injected_offers space p states.Stuck = refl

operated_offers : (s : Sight) (inner : View) (op : SpaceOperation) (space : List ℕ) (x : Ident) (st : State) → OffersNothing (operated s inner op space x st)
operated_offers s inner operation.Ask space x st = decided_offers st (Operates operation.Ask space x) (Acts (GivesTerm x (state_term inner st))) refl refl
operated_offers s inner operation.Commit space x st =
    merged_offers st (given x (value_of s.view x) (λ v. once_decided st (Operates operation.Commit space x) (of_kind (integer_in v) (committed_in space st))))
    (given_offers x (value_of s.view x) (λ v. once_decided st (Operates operation.Commit space x) (of_kind (integer_in v) (committed_in space st)))
    (λ v. decided_offers st (Operates operation.Commit space x) (of_kind (integer_in v) (committed_in space st)) refl (kind_offers (integer_in v) (committed_in space st) (committed_offers space st))))
operated_offers s inner operation.Clone space x st =
    merged_offers st (once_decided st (Operates operation.Clone space x) (unless_ended st (Copies space x)))
    (decided_offers st (Operates operation.Clone space x) (unless_ended st (Copies space x)) refl (ended_offers st (Copies space x)))
operated_offers s inner operation.Inject space x st =
    merged_offers st (given x (value_of s.view x) (injects space x st))
    (given_offers x (value_of s.view x) (injects space x st) (λ v. if_offers (is_procedure v) (injected_in space x st) (RaisesKind raise.BadKind) (injected_offers space x st) refl))
operated_offers s inner operation.Merge space x st =
    merged_offers st (once_decided st (Operates operation.Merge space x) (unless_ended st (TakesIn space x)))
    (decided_offers st (Operates operation.Merge space x) (unless_ended st (TakesIn space x)) refl (ended_offers st (TakesIn space x)))

state_offers : (o : Option State) (go : State → Answer) → ((st : State) → OffersNothing (go st)) → OffersNothing (with_state o go)
state_offers None go h = refl
state_offers (Some st) go h = h st

-- so by any states the offers are those of the statements alone
offers_alone : (layers : List Layer) (s : Sight) (known : States) (a : Answer) → offer_of (answer_ready (by_state layers s known a)) ≡ offer_of (answer_ready a)
offers_alone layers s known (Operates op space x) = state_offers (state_in known space) (operated s (view layers space) op space x) (operated_offers s (view layers space) op space x)
offers_alone layers s known (Acts act) = refl
offers_alone layers s known (Edits edit) = refl
offers_alone layers s known (RaisesKind kind) = refl
offers_alone layers s known (RaisesTerm x) = refl
offers_alone layers s known (Widens ts) = refl
offers_alone layers s known (Rests ready) = refl

offered : {A B C : Type 0} (f : B → Option C) (g : A → B) (xs : List A) → filter_map f (map g xs) ≡ filter_map (λ x. f (g x)) xs
offered f g [] = refl
offered f g (x ∷ xs) = ap (cons_option (f (g x))) (offered f g xs)

offered_alike : {A C : Type 0} (f g : A → Option C) (xs : List A) → ((x : A) → f x ≡ g x) → filter_map f xs ≡ filter_map g xs
offered_alike f g xs h = let same : f ≡ g = λ i x. h x i in ap (λ e. filter_map e xs) same

pub offer_open : (statements : List Statement) (layers : List Layer) (known : States) (l : Layer) → l.status ≡ status.Open
    → first (filter_map (λ t. offer_of (plain_ready (sight statements layers l.space) t)) l.threads) ≡ offer_in statements layers known l
offer_open statements layers known l e =
    sym (ap (λ (rs : List Readiness). first (filter_map offer_of rs)) (open_readinesses statements layers known l e)
    ∙ ap first (offered offer_of (ready_in statements layers known l.space) l.threads)
    ∙ ap first (offered_alike (λ (t : Thread). offer_of (ready_in statements layers known l.space t)) (λ (t : Thread). offer_of (plain_ready (sight statements layers l.space) t)) l.threads
    (λ t. offers_alone layers (sight statements layers l.space) known (stack_answer (sight statements layers l.space) t.frames))))
