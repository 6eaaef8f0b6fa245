-- What follows an edit by the search, and the opening.
use Rattle.std.proofs.Common.{◌≡◌, ℕ, List, [], ap, refl, subst, sym, ◌∙◌, true, Option, Some, None, Result, Ok, Err}
use Rattle.std.specs.Prelude.{OnOk, OnErr, is_some, MatchOption}
use Rattle.oz_base.specs.declared.names.Ident.{Ident}
use Rattle.oz_language.specs.declared.kernel.Statement.{Statement}
use Rattle.oz_language.specs.declared.kernel.Kernel.{Kernel}
use Rattle.oz_semantics.specs.Triggers.{triggered}
use Rattle.oz_semantics.specs.Settling.{runnable, queue_after}
use Rattle.oz_semantics.specs.Runs.{opening}
use Rattle.oz_semantics.specs.Edits.{committed, created}
use Rattle.oz_semantics.specs.Search.{followed, with_root, chosen_in}
use Rattle.oz_semantics.specs.Configurations.{layer_at}
use Rattle.oz_semantics.specs.Spaces.{sight}
use Rattle.oz_semantics.specs.declared.value.Tell.{Tell}
use Rattle.stability.specs.Offers.{IsChoice, Commits, choice_made}
use Rattle.stability.specs.declared.offers.Choice.{Choice}
use Rattle.stability.specs.declared.offers.Choice.TheVariants.{Nothing, Tells}
use Rattle.stability.proofs.Commits as commits
use Rattle.oz_semantics.specs.declared.configuration.Layer.{Layer}
use Rattle.oz_semantics.specs.declared.configuration.Configuration.{Configuration}
use Rattle.turn_laws.specs.Kept.{IsKept}
use Rattle.oz_machine.specs.declared.course.Due.TheVariants.{Nobody}
use Rattle.oz_machine.specs.declared.course.Course.{Course}
use Rattle.oz_machine.specs.Courses.{config_of}
use Rattle.oz_machine.proofs.DoingLaws.{settled_seen}
use Rattle.view_laws.proofs.NeedLaws.{nothing_fires}
use Rattle.settle_laws.specs.Turns.{opening_layers}
use Rattle.settle_laws.specs.Settles.{Settles}
use Rattle.settle_laws.proofs.SoundLaws.{followed_settles}
use Rattle.settle_laws.proofs.TreeSteps.{opening_left}

abbrev made : List Layer → List Ident → List (List ℕ) → Configuration
made layers queue shown = record { layers = layers; queue = queue; shown = shown }

made_same : (layers ls : List Layer) (queue ids : List Ident) (shown texts : List (List ℕ)) → layers ≡ ls → queue ≡ ids → shown ≡ texts → made layers queue shown ≡ made ls ids texts
made_same layers ls queue ids shown texts e f g =
    ap (λ (xs : List Layer). made xs queue shown) e ∙ ap (λ (xs : List Ident). made ls xs shown) f ∙ ap (made ls ids) g

-- the spaces below one failed that were left inconsistent by the edit, and the queue follows
pub follows_edit : (statements : List Statement) (space : List ℕ) (before edited layers : List Layer) (queue : List Ident) (shown : List (List ℕ)) (new : Configuration) → Settles space edited layers
    → new ≡ made (triggered statements layers) (queue_after (runnable statements (triggered statements layers)) None queue) shown → new ≡ followed statements (made before queue shown) edited
follows_edit statements space before edited layers queue shown new settles e = e ∙ sym (followed_settles statements (made before queue shown) space edited layers settles)

-- the queue of the opening
pub opens : (k : Kernel) (layers : List Layer) (before : List Ident) (none : List (List ℕ)) (new : Configuration) → layers ≡ opening_layers k → before ≡ [] → none ≡ []
    → new ≡ made (triggered k.statements layers) (queue_after (runnable k.statements (triggered k.statements layers)) None before) none → new ≡ opening k
opens k layers before none new opened no_queue no_text is =
    let stay : triggered k.statements layers ≡ opening_layers k = ap (triggered k.statements) opened ∙ nothing_fires k.statements (opening_layers k) refl in
    let follows : queue_after (runnable k.statements (triggered k.statements layers)) None before ≡ queue_after (runnable k.statements (opening_layers k)) None [] =
    ap (λ (ls : List Layer). queue_after (runnable k.statements ls) None before) stay
    ∙ ap (queue_after (runnable k.statements (opening_layers k)) None) no_queue in
    is
    ∙ made_same (triggered k.statements layers) (opening_layers k) (queue_after (runnable k.statements (triggered k.statements layers)) None before) (queue_after (runnable k.statements (opening_layers k)) None []) none [] stay follows no_text
    ∙ sym (opening_left k)

-- the edits, after those who were due were asked
pub chosen_by : (statements : List Statement) (space : List ℕ) (i : ℕ) (old settled : Course) (new : Configuration) → config_of statements settled ≡ config_of statements old → settled.due ≡ Nobody
    → new ≡ followed statements (made settled.levels settled.queue settled.shown) (committed statements space i settled.levels) → new ≡ chosen_in statements space i (config_of statements old)
chosen_by statements space i old settled new same nobody follows =
    follows
    ∙ ap (chosen_in statements space i) (sym (settled_seen statements settled nobody) ∙ same)

pub root_by : (statements : List Statement) (procedure : Ident) (top : List ℕ) (old settled : Course) (left : List Layer) (new : Configuration) → config_of statements settled ≡ config_of statements old → settled.due ≡ Nobody → top ≡ []
    → left ≡ created top procedure settled.levels → new ≡ followed statements (made settled.levels settled.queue settled.shown) left → new ≡ with_root statements procedure (config_of statements old)
root_by statements procedure top old settled left new same nobody is edit follows =
    follows ∙ ap (followed statements (made settled.levels settled.queue settled.shown)) (edit ∙ ap (λ (s : List ℕ). created s procedure settled.levels) is)
    ∙ ap (with_root statements procedure) (sym (settled_seen statements settled nobody) ∙ same)

-- What is kept by an edit that was made, or refused
pub kept_by : {T E : Type 0} (r : Result T E) (statements : List Statement) (old new made : Configuration) → OnOk r (new ≡ made) → OnErr r (new ≡ old) → IsKept statements old → IsKept statements made → IsKept statements new
kept_by (Ok a) statements old new made h g before after = subst (IsKept statements) (sym h) after
kept_by (Err e) statements old new made h g before after = subst (IsKept statements) (sym g) before

-- What a commitment left, by what it comes to

pub commit_left : (statements : List Statement) (space : List ℕ) (i : ℕ) (choice : Choice) (old new : List Layer) → Commits statements old space i choice → Settles space (choice_made space choice old) new
    → Settles space (committed statements space i old) new
commit_left statements space i choice old new is settles = subst (λ (ls : List Layer). Settles space ls new) (sym (commits.committed statements old space i choice is)) settles

-- a space that tells something with it is there
pub commit_there : (statements : List Statement) (space : List ℕ) (i : ℕ) (tell : Tell) (layers : List Layer) → Commits statements layers space i (Tells tell) → is_some (layer_at layers space) ≡ true
commit_there statements space i tell layers = by (layer_at layers space)
  where
    by : (o : Option Layer) → MatchOption o (◌≡◌ {A = Choice} (Tells tell) Nothing) (λ (l : Layer). IsChoice (sight statements layers space) i l.threads (Tells tell)) → is_some o ≡ true
    by None h = cc
    by (Some l) h = refl

pub on_ok : {T E : Type 0} (r : Result T E) {P Q : Type 0} → (P → Q) → OnOk r P → OnOk r Q
on_ok (Ok a) f h = f h
on_ok (Err e) f h = h
