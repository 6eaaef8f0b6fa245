-- That a thread goes by what it sees alone where no space is a value.
use Rattle.std.proofs.Common.{◌≡◌, ℕ, Bool, true, false, ◌||◌, if◌then◌else◌, List, [], ◌∷◌, ◌++◌, refl, sym, ap, ◌∙◌, Contains, Some, is_some, cond}
use Rattle.std.specs.List.{list_any, find}
use Rattle.std.proofs.lemmas.Bool.{false≢true}
use Rattle.oz_base.specs.Lists.{edit_first}
use Rattle.oz_base.specs.declared.names.Ident.{Ident}
use Rattle.oz_semantics.specs.Names.{is_below, is_child_of}
use Rattle.oz_semantics.specs.Configurations.{is_of, view}
use Rattle.oz_semantics.specs.Sights.{Sight, States}
use Rattle.oz_semantics.specs.Answers.{Answer, Operates}
use Rattle.oz_semantics.specs.Operations.{by_state}
use Rattle.oz_semantics.specs.Statements.{stack_answer}
use Rattle.oz_semantics.specs.Readiness.{answer_ready}
use Rattle.oz_semantics.specs.Spaces.{sight}
use Rattle.oz_semantics.specs.declared.configuration.Frame.{Frame}
use Rattle.oz_semantics.specs.declared.configuration.Layer.{Layer}
use Rattle.oz_semantics.specs.declared.value.SpaceOperation.{SpaceOperation}
use Rattle.oz_semantics.specs.declared.value.Value.TheVariants as value
use Rattle.oz_semantics.specs.declared.value.Tell.{Tell}
use Rattle.oz_semantics.specs.declared.value.Tell.TheVariants.{Is}
use Rattle.view_laws.specs.Spaceless.{gives_space, knows_space, has_spaces, SpacelessAnswer, SpacelessReady, QuietSpaceless, TellSpaceless, UntoldSpaceless}
use Rattle.view_laws.proofs.Members.{not_both, by_some}
use Rattle.view_laws.proofs.AnswerLaws.{stack_holds}

-- an answer that operates on no space is the same by any states
module _ (layers : List Layer) (s : Sight) (states : States) (none : list_any gives_space s.view ≡ false) where
  abbrev Plain : Answer → Type 0
  Plain a = by_state layers s states a ≡ a

  no_operation : (op : SpaceOperation) (child : List ℕ) (x y : Ident) → Contains s.view (Is y (value.Space child)) → is_child_of s.space child ≡ true → Plain (Operates op child x)
  no_operation op child x y told below = absurd (not_both _ (by_some gives_space s.view (Is y (value.Space child)) told refl) none)

  pub stack_plain : (frames : List Frame) → Plain (stack_answer s frames)
  stack_plain frames = stack_holds s Plain (λ act. refl) (λ procedure x. refl) (λ kind. refl) (λ x. refl) (λ ts. refl) (λ ready. refl) no_operation frames

pub spaceless_answer : SpacelessAnswer
spaceless_answer statements layers states space frames none = stack_plain layers (sight statements layers space) states none frames

-- What was told where

pub or_false : (a b : Bool) → a ≡ false → b ≡ false → (a || b) ≡ false
or_false false b e f = f
or_false true b e f = absurd (false≢true (sym e))

pub left_false : (a b : Bool) → (a || b) ≡ false → a ≡ false
left_false false b e = refl
left_false true b e = absurd (false≢true (sym e))

pub right_false : (a b : Bool) → (a || b) ≡ false → b ≡ false
right_false false b e = e
right_false true b e = absurd (false≢true (sym e))

any_append : {A : Type 0} (p : A → Bool) (xs ys : List A) → list_any p xs ≡ false → list_any p ys ≡ false → list_any p (xs ++ ys) ≡ false
any_append p [] ys e f = f
any_append p (x ∷ xs) ys e f = or_false (p x) (list_any p (xs ++ ys)) (left_false _ _ e) (any_append p xs ys (right_false _ _ e) f)

pub view_spaceless : (layers : List Layer) (space : List ℕ) → has_spaces layers ≡ false → list_any gives_space (view layers space) ≡ false
view_spaceless [] space e = refl
view_spaceless (l ∷ ls) space e =
    any_append gives_space (if is_below l.space space then l.tells else []) (view ls space) (by (is_below l.space space)) (view_spaceless ls space (right_false _ _ e))
  where
    by : (b : Bool) → list_any gives_space (if b then l.tells else []) ≡ false
    by true = left_false _ _ e
    by false = refl

pub spaceless_ready : SpacelessReady
spaceless_ready statements layers states space t none = ap answer_ready (spaceless_answer statements layers states space t.frames (view_spaceless layers space none))

-- Changes of a layer

quiet_edit : (test : Layer → Bool) (change : Layer → Layer) (ls : List Layer) → ((l : Layer) → find test ls ≡ Some l → (change l).tells ≡ l.tells) → has_spaces (edit_first test change ls) ≡ has_spaces ls
quiet_edit test change [] h = refl
quiet_edit test change (l ∷ ls) h = by (test l) h (quiet_edit test change ls)
  where
    by : (b : Bool) → ((m : Layer) → cond b (Some l) (find test ls) ≡ Some m → (change m).tells ≡ m.tells)
        → (((m : Layer) → find test ls ≡ Some m → (change m).tells ≡ m.tells) → has_spaces (edit_first test change ls) ≡ has_spaces ls)
        → has_spaces (cond b (change l ∷ ls) (l ∷ edit_first test change ls)) ≡ (knows_space l || has_spaces ls)
    by true g rest = ap (λ ts. list_any gives_space ts || has_spaces ls) (g l refl)
    by false g rest = ap (λ b. knows_space l || b) (rest g)

pub quiet_spaceless : QuietSpaceless
quiet_spaceless change layers space quiet = quiet_edit (is_of space) change layers quiet

tell_edit : (test : Layer → Bool) (change : Layer → Layer) (ts : List Tell) (ls : List Layer) → ((l : Layer) → (change l).tells ≡ l.tells ++ ts) → list_any gives_space ts ≡ false
    → has_spaces ls ≡ false → has_spaces (edit_first test change ls) ≡ false
tell_edit test change ts [] h f e = refl
tell_edit test change ts (l ∷ ls) h f e = by (test l) (tell_edit test change ts ls h f (right_false _ _ e))
  where
    by : (b : Bool) → has_spaces (edit_first test change ls) ≡ false → has_spaces (cond b (change l ∷ ls) (l ∷ edit_first test change ls)) ≡ false
    by true rest = or_false _ _ (ap (list_any gives_space) (h l) ∙ any_append gives_space l.tells ts (left_false _ _ e) f) (right_false _ _ e)
    by false rest = or_false _ _ (left_false _ _ e) rest

pub tell_spaceless : TellSpaceless
tell_spaceless change layers space ts told none before = tell_edit (is_of space) change ts layers told none before

any_parts : {A : Type 0} (p : A → Bool) (xs ys : List A) → list_any p (xs ++ ys) ≡ false → (list_any p xs ≡ false) × (list_any p ys ≡ false)
any_parts p [] ys e = (refl, e)
any_parts p (x ∷ xs) ys e = let r = any_parts p xs ys (right_false (p x) _ e) in (or_false _ _ (left_false _ _ e) r.0, r.1)

untold_edit : (test : Layer → Bool) (change : Layer → Layer) (ts : List Tell) (ls : List Layer) → ((l : Layer) → find test ls ≡ Some l → (change l).tells ≡ l.tells ++ ts)
    → is_some (find test ls) ≡ true → has_spaces (edit_first test change ls) ≡ false → (has_spaces ls ≡ false) × (list_any gives_space ts ≡ false)
untold_edit test change ts [] h there e = absurd (false≢true there)
untold_edit test change ts (l ∷ ls) h there e = by (test l) h there e (untold_edit test change ts ls)
  where
    by : (b : Bool) → ((m : Layer) → cond b (Some l) (find test ls) ≡ Some m → (change m).tells ≡ m.tells ++ ts) → is_some (cond b (Some l) (find test ls)) ≡ true
        → has_spaces (cond b (change l ∷ ls) (l ∷ edit_first test change ls)) ≡ false
        → (((m : Layer) → find test ls ≡ Some m → (change m).tells ≡ m.tells ++ ts) → is_some (find test ls) ≡ true → has_spaces (edit_first test change ls) ≡ false
        → (has_spaces ls ≡ false) × (list_any gives_space ts ≡ false))
        → (has_spaces (l ∷ ls) ≡ false) × (list_any gives_space ts ≡ false)
    by true g s e rest =
        let r = any_parts gives_space l.tells ts (sym (ap (list_any gives_space) (g l refl)) ∙ left_false (knows_space (change l)) _ e) in
        (or_false _ _ r.0 (right_false (knows_space (change l)) _ e), r.1)
    by false g s e rest =
        let r = rest g s (right_false (knows_space l) _ e) in
        (or_false _ _ (left_false (knows_space l) _ e) r.0, r.1)

pub untold_spaceless : UntoldSpaceless
untold_spaceless change layers space ts told there after = untold_edit (is_of space) change ts layers told there after
