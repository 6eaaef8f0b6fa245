-- What the changes of a step leave of the layers.
use Rattle.std.proofs.Common.{◌≡◌, ℕ, ◌+◌, Bool, true, false, not, List, [], ◌∷◌, ◌++◌, refl, sym, ap, ap₂, subst, ◌∙◌, arith, Some, is_some, length, drop, filter, cond}
use Rattle.std.specs.List.{find, fold}
use Rattle.std.proofs.lemmas.Bool.{false≢true}
use Rattle.std.proofs.lemmas.List.{append-nil, append_assoc, length-append}
use Rattle.oz_base.specs.Lists.{edit_first, is_empty, list_eq}
use Rattle.oz_base.specs.declared.names.Ident.{Ident}
use Rattle.oz_semantics.specs.Configurations.{is_of, layer_at, is_numbered, thread_at, in_layer, in_thread, with_frames, without_terminated, spawning}
use Rattle.oz_semantics.specs.Changes.{Change, Pushes, Spawns, changed, changed_all}
use Rattle.oz_semantics.specs.Steps.{without_top}
use Rattle.oz_semantics.specs.declared.configuration.Frame.{Frame}
use Rattle.oz_semantics.specs.declared.configuration.Thread.{Thread}
use Rattle.oz_semantics.specs.declared.configuration.Layer.{Layer}
use Rattle.view_laws.specs.Queues.{StepsTo}
use Rattle.view_laws.specs.Steps.{spawned_from, MadeOf, ChangesMade, StackMade}
use Rattle.view_laws.proofs.NameLaws.{names_equal}
use Rattle.view_laws.proofs.SightLaws.{space_of}
use Rattle.view_laws.proofs.ChangeLaws.{edit_of, changed_by, edit_keeps}

-- Edits of the first that passes

module _ {A : Type 0} (test : A → Bool) where
  -- by what it is
  edit_at : (f : A → A) (xs : List A) (x : A) → find test xs ≡ Some x → edit_first test f xs ≡ edit_first test (λ y. f x) xs
  edit_at f [] x e = refl
  edit_at f (y ∷ ys) x e = by (test y) e (edit_at f ys x)
    where
      by : (b : Bool) → cond b (Some y) (find test ys) ≡ Some x → (find test ys ≡ Some x → edit_first test f ys ≡ edit_first test (λ z. f x) ys)
          → cond b (f y ∷ ys) (y ∷ edit_first test f ys) ≡ cond b (f x ∷ ys) (y ∷ edit_first test (λ z. f x) ys)
      by true k rest = let same : y ≡ x = cc in ap (λ z. f z ∷ ys) same
      by false k rest = ap (λ zs. y ∷ zs) (rest k)

  -- twice
  edit_twice : (f g : A → A) → ((y : A) → test y ≡ true → test (g y) ≡ true) → (xs : List A) → edit_first test f (edit_first test g xs) ≡ edit_first test (λ y. f (g y)) xs
  edit_twice f g h [] = refl
  edit_twice f g h (y ∷ ys) = by (test y) refl (edit_twice f g h ys)
    where
      by : (b : Bool) → test y ≡ b → edit_first test f (edit_first test g ys) ≡ edit_first test (λ z. f (g z)) ys
          → edit_first test f (cond b (g y ∷ ys) (y ∷ edit_first test g ys)) ≡ cond b (f (g y) ∷ ys) (y ∷ edit_first test (λ z. f (g z)) ys)
      by true e rest = ap (λ (b : Bool). cond b (f (g y) ∷ ys) (g y ∷ edit_first test f ys)) (h y e)
      by false e rest = ap (λ (b : Bool). cond b (f y ∷ edit_first test g ys) (y ∷ edit_first test f (edit_first test g ys))) e ∙ ap (λ zs. y ∷ zs) rest

  -- with others behind, where one passes
  edit_before : (f : A → A) (xs ys : List A) → is_some (find test xs) ≡ true → edit_first test f (xs ++ ys) ≡ edit_first test f xs ++ ys
  edit_before f [] ys e = absurd (false≢true e)
  edit_before f (x ∷ xs) ys e = by (test x) e (edit_before f xs ys)
    where
      by : (b : Bool) → is_some (cond b (Some x) (find test xs)) ≡ true → (is_some (find test xs) ≡ true → edit_first test f (xs ++ ys) ≡ edit_first test f xs ++ ys)
          → cond b (f x ∷ xs ++ ys) (x ∷ edit_first test f (xs ++ ys)) ≡ cond b (f x ∷ xs) (x ∷ edit_first test f xs) ++ ys
      by true k rest = refl
      by false k rest = ap (λ zs. x ∷ zs) (rest k)

  -- what passes is there afterwards, where it passes still
  edited_there : (g : A → A) → ((y : A) → test y ≡ true → test (g y) ≡ true) → (xs : List A) → is_some (find test xs) ≡ true → is_some (find test (edit_first test g xs)) ≡ true
  edited_there g h [] e = absurd (false≢true e)
  edited_there g h (y ∷ ys) e = by (test y) refl e (edited_there g h ys)
    where
      by : (b : Bool) → test y ≡ b → is_some (cond b (Some y) (find test ys)) ≡ true → (is_some (find test ys) ≡ true → is_some (find test (edit_first test g ys)) ≡ true)
          → is_some (find test (cond b (g y ∷ ys) (y ∷ edit_first test g ys))) ≡ true
      by true k e rest = ap (λ (b : Bool). is_some (cond b (Some (g y)) (find test ys))) (h y k)
      by false k e rest = ap (λ (b : Bool). is_some (cond b (Some y) (find test (edit_first test g ys)))) k ∙ rest e

-- A layer in the course of a step

record Grown (number : ℕ) (before l : Layer) (news : List Thread) : Type 0 where
  change : List Frame → List Frame
  space : l.space ≡ before.space
  status : l.status ≡ before.status
  tells : l.tells ≡ before.tells
  threads : l.threads ≡ in_thread number (λ (t : Thread). record t { frames = change t.frames }) before.threads ++ news
  next : l.next.thread ≡ before.next.thread + length news
  children : l.next.child ≡ before.next.child

abbrev layer_changed : ℕ → Layer → Change → Layer
layer_changed number l change = edit_of number change l

module _ (number : ℕ) (before : Layer) (there : is_some (thread_at before.threads number) ≡ true) where
  abbrev put : (List Frame → List Frame) → Thread → Thread
  put f t = record t { frames = f t.frames }

  grown_frames : (f : List Frame → List Frame) (l : Layer) (news : List Thread) → Grown number before l news → Grown number before (with_frames number f l) news
  grown_frames f l news g =
      let first : List Thread = in_thread number (put g.change) before.threads in
      record {
        change = λ frames. f (g.change frames);
        space = g.space;
        status = g.status;
        tells = g.tells;
        threads =
            ap (in_thread number (put f)) g.threads
            ∙ edit_before (is_numbered number) (put f) first news (edited_there (is_numbered number) (put g.change) (λ t e. e) before.threads there)
            ∙ ap (λ ts. ts ++ news) (edit_twice (is_numbered number) (put f) (put g.change) (λ t e. e) before.threads);
        next = g.next;
        children = g.children;
      }

  grown_first : (f : List Frame → List Frame) → Grown number before (with_frames number f before) []
  grown_first f = record {
    change = f;
    space = refl;
    status = refl;
    tells = refl;
    threads = sym (append-nil (in_thread number (put f) before.threads));
    next = omega arith;
    children = refl;
  }

  grown_spawned : (frames : List Frame) (l : Layer) (news : List Thread) → Grown number before l news
      → Grown number before (spawning frames l) (news ++ record { number = before.next.thread + length news; frames = frames } ∷ [])
  grown_spawned frames l news g =
      let first : List Thread = in_thread number (put g.change) before.threads in
      record {
        change = g.change;
        space = g.space;
        status = g.status;
        tells = g.tells;
        threads =
            ap₂ (λ (ts : List Thread) (n : ℕ). ts ++ record { number = n; frames = frames } ∷ []) g.threads g.next
            ∙ append_assoc first news (record { number = before.next.thread + length news; frames = frames } ∷ []);
        next = omega (arith, g.next, length-append news (record { number = before.next.thread + length news; frames = frames } ∷ []));
        children = g.children;
      }

  grown_same : (l : Layer) (n : List Thread) (more : List Thread) → n ≡ more → Grown number before l n → Grown number before l more
  grown_same l n more e g = subst (Grown number before l) e g

  -- all changes of a step, in turn
  grown_all : (changes : List Change) (l : Layer) (news : List Thread) → Grown number before l news
      → Grown number before (fold (layer_changed number) l changes) (news ++ spawned_from (before.next.thread + length news) changes)
  grown_all [] l news g = grown_same l news (news ++ []) (sym (append-nil news)) g
  grown_all (Pushes frames ∷ changes) l news g = grown_all changes (with_frames number (λ rest. frames ++ rest) l) news (grown_frames (λ rest. frames ++ rest) l news g)
  grown_all (Spawns frames ∷ changes) l news g =
      let one : Thread = record { number = before.next.thread + length news; frames = frames } in
      let count : before.next.thread + length (news ++ one ∷ []) ≡ before.next.thread + length news + 1 = omega (arith, length-append news (one ∷ [])) in
      grown_same (fold (layer_changed number) (spawning frames l) changes) ((news ++ one ∷ []) ++ spawned_from (before.next.thread + length (news ++ one ∷ [])) changes)
      (news ++ spawned_from (before.next.thread + length news) (Spawns frames ∷ changes))
      (ap (λ n. (news ++ one ∷ []) ++ spawned_from n changes) count ∙ append_assoc news (one ∷ []) (spawned_from (before.next.thread + length news + 1) changes))
      (grown_all changes (spawning frames l) (news ++ one ∷ []) (grown_spawned frames l news g))
  grown_all (change ∷ changes) l news g =
      grown_all changes (layer_changed number l change) news (record { change = g.change; space = g.space; status = g.status; tells = g.tells; threads = g.threads; next = g.next; children = g.children })

  grown_ends : (l : Layer) (news : List Thread) → Grown number before l news → StepsTo number before (without_terminated l) news
  grown_ends l news g = record {
    change = g.change;
    space = g.space;
    status = g.status;
    tells = g.tells;
    threads = ap (filter (λ (t : Thread). not (is_empty t.frames))) g.threads;
  }

-- The layers

module _ (id : Ident) (layers : List Layer) (before : Layer) (at : layer_at layers id.space ≡ Some before) where
  abbrev put_in : Layer → List Layer
  put_in l = in_layer id.space (λ m. l) layers

  named_there : (l : Layer) → l.space ≡ before.space → is_of id.space l ≡ true
  named_there l e = subst (λ s. list_eq s id.space ≡ true) (sym (e ∙ space_of layers id.space before at)) (names_equal id.space)

  put_again : (f : Layer → Layer) (l : Layer) → l.space ≡ before.space → in_layer id.space f (put_in l) ≡ put_in (f l)
  put_again f l e = edit_twice (is_of id.space) f (λ m. l) (λ m k. named_there l e) layers

  changed_one : (change : Change) (l : Layer) → l.space ≡ before.space → changed id (put_in l) change ≡ put_in (layer_changed id.number l change)
  changed_one change l e = changed_by id (put_in l) change ∙ put_again (edit_of id.number change) l e

  changed_list : (changes : List Change) (l : Layer) → l.space ≡ before.space → changed_all id changes (put_in l) ≡ put_in (fold (layer_changed id.number) l changes)
  changed_list [] l e = refl
  changed_list (change ∷ changes) l e =
      ap (λ ls. fold (changed id) ls changes) (changed_one change l e) ∙ changed_list changes (layer_changed id.number l change) ((edit_keeps id.number change).space l ∙ e)

  abbrev popped : Layer
  popped = with_frames id.number (λ frames. drop 1 frames) before

  top_taken : without_top id layers ≡ put_in popped
  top_taken = edit_at (is_of id.space) (with_frames id.number (λ frames. drop 1 frames)) layers before at

  -- what a layer in the course of the step leaves at its end
  made : (result : List Layer) (l : Layer) (news : List Thread) → is_some (thread_at before.threads id.number) ≡ true → result ≡ put_in l → Grown id.number before l news
      → MadeOf id layers (in_layer id.space without_terminated result) before news
  made result l news there e g = record {
    after = without_terminated l;
    left = ap (in_layer id.space without_terminated) e ∙ put_again without_terminated l g.space;
    steps = grown_ends id.number before there l news g;
    next = g.next;
    children = g.children;
  }

pub changes_made : ChangesMade
changes_made id changes layers before at there =
    let first = grown_first id.number before there (λ frames. drop 1 frames) in
    let all = grown_all id.number before there changes (popped id layers before at) [] first in
    let zero_more : before.next.thread + 0 ≡ before.next.thread = omega arith in
    made id layers before at (changed_all id changes (without_top id layers)) (fold (layer_changed id.number) (popped id layers before at) changes) (spawned_from before.next.thread changes) there
    (ap (changed_all id changes) (top_taken id layers before at) ∙ changed_list id layers before at changes (popped id layers before at) refl)
    (subst (λ n. Grown id.number before (fold (layer_changed id.number) (popped id layers before at) changes) (spawned_from n changes)) zero_more all)

pub stack_made : StackMade
stack_made id frames layers before at there =
    let first = grown_first id.number before there (λ fs. drop 1 fs) in
    made id layers before at (in_layer id.space (with_frames id.number (λ rest. frames)) (without_top id layers)) (with_frames id.number (λ rest. frames) (popped id layers before at)) [] there
    (ap (in_layer id.space (with_frames id.number (λ rest. frames))) (top_taken id layers before at)
    ∙ put_again id layers before at (with_frames id.number (λ rest. frames)) (popped id layers before at) refl)
    (grown_frames id.number before there (λ rest. frames) (popped id layers before at) [] first)
