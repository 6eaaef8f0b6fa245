-- Lists: the first item that passes a test, edited, looked for, and among those that pass another test.
use Rattle.std.proofs.Common.{◌≡◌, Bool, true, false, cond, is_some, List, [], ◌∷◌, refl, sym, ap, ◌∙◌, Some, filter, map}
use Rattle.std.specs.List.{find}
use Rattle.oz_base.specs.Lists.{edit_first}
use Rattle.view_laws.proofs.Members.{not_both}

module _ {A : Type 0} where
  -- two edits of the first item that passes are one
  pub edit_twice : (test : A → Bool) (f g : A → A) → ((x : A) → test (g x) ≡ test x) → (xs : List A) → edit_first test f (edit_first test g xs) ≡ edit_first test (λ x. f (g x)) xs
  edit_twice test f g keeps [] = refl
  edit_twice test f g keeps (x ∷ xs) = by (test x) refl (edit_twice test f g keeps xs)
    where
      by : (b : Bool) → test x ≡ b → edit_first test f (edit_first test g xs) ≡ edit_first test (λ y. f (g y)) xs
          → edit_first test f (cond b (g x ∷ xs) (x ∷ edit_first test g xs)) ≡ cond b (f (g x) ∷ xs) (x ∷ edit_first test (λ y. f (g y)) xs)
      by true e rest = ap (λ (c : Bool). cond c (f (g x) ∷ xs) (g x ∷ edit_first test f xs)) (keeps x ∙ e)
      by false e rest = ap (λ (c : Bool). cond c (f x ∷ edit_first test g xs) (x ∷ edit_first test f (edit_first test g xs))) e ∙ ap (λ ys. x ∷ ys) rest

  pub edit_agree : (test : A → Bool) (f g : A → A) (xs : List A) → ((x : A) → find test xs ≡ Some x → f x ≡ g x) → edit_first test f xs ≡ edit_first test g xs
  edit_agree test f g [] h = refl
  edit_agree test f g (x ∷ xs) h = by (test x) h (edit_agree test f g xs)
    where
      by : (b : Bool) → ((y : A) → cond b (Some x) (find test xs) ≡ Some y → f y ≡ g y) → (((y : A) → find test xs ≡ Some y → f y ≡ g y) → edit_first test f xs ≡ edit_first test g xs)
          → cond b (f x ∷ xs) (x ∷ edit_first test f xs) ≡ cond b (g x ∷ xs) (x ∷ edit_first test g xs)
      by true k rest = ap (λ y. y ∷ xs) (k x refl)
      by false k rest = ap (λ ys. x ∷ ys) (rest k)

  -- edits of two items commute
  pub edits_apart : (one other : A → Bool) (f g : A → A) → ((x : A) → one (g x) ≡ one x) → ((x : A) → other (f x) ≡ other x) → ((x : A) → one x ≡ true → other x ≡ false) → (xs : List A)
      → edit_first one f (edit_first other g xs) ≡ edit_first other g (edit_first one f xs)
  edits_apart one other f g keep kept apart [] = refl
  edits_apart one other f g keep kept apart (x ∷ xs) = by (one x) (other x) refl refl (edits_apart one other f g keep kept apart xs)
    where
      by : (b c : Bool) → one x ≡ b → other x ≡ c → edit_first one f (edit_first other g xs) ≡ edit_first other g (edit_first one f xs)
          → edit_first one f (cond c (g x ∷ xs) (x ∷ edit_first other g xs)) ≡ edit_first other g (cond b (f x ∷ xs) (x ∷ edit_first one f xs))
      by true true e k rest = absurd (not_both _ k (apart x e))
      by true false e k rest =
          ap (λ (b : Bool). cond b (f x ∷ edit_first other g xs) (x ∷ edit_first one f (edit_first other g xs))) e
          ∙ sym (ap (λ (c : Bool). cond c (g (f x) ∷ xs) (f x ∷ edit_first other g xs)) (kept x ∙ k))
      by false true e k rest =
          ap (λ (b : Bool). cond b (f (g x) ∷ xs) (g x ∷ edit_first one f xs)) (keep x ∙ e)
          ∙ sym (ap (λ (c : Bool). cond c (g x ∷ edit_first one f xs) (x ∷ edit_first other g (edit_first one f xs))) k)
      by false false e k rest =
          ap (λ (b : Bool). cond b (f x ∷ edit_first other g xs) (x ∷ edit_first one f (edit_first other g xs))) e
          ∙ ap (λ ys. x ∷ ys) rest
          ∙ sym (ap (λ (c : Bool). cond c (g x ∷ edit_first one f xs) (x ∷ edit_first other g (edit_first one f xs))) k)

  -- an edit of an item that stays among those that pass
  pub filter_edit : (keep test : A → Bool) (f : A → A) → ((x : A) → keep (f x) ≡ keep x) → ((x : A) → test x ≡ true → keep x ≡ true) → (xs : List A)
      → filter keep (edit_first test f xs) ≡ edit_first test f (filter keep xs)
  filter_edit keep test f same stays [] = refl
  filter_edit keep test f same stays (x ∷ xs) = by (test x) (keep x) refl refl (filter_edit keep test f same stays xs)
    where
      by : (b c : Bool) → test x ≡ b → keep x ≡ c → filter keep (edit_first test f xs) ≡ edit_first test f (filter keep xs)
          → filter keep (cond b (f x ∷ xs) (x ∷ edit_first test f xs)) ≡ edit_first test f (cond c (x ∷ filter keep xs) (filter keep xs))
      by true true e k rest =
          ap (λ (c : Bool). cond c (f x ∷ filter keep xs) (filter keep xs)) (same x ∙ k)
          ∙ sym (ap (λ (b : Bool). cond b (f x ∷ filter keep xs) (x ∷ edit_first test f (filter keep xs))) e)
      by true false e k rest = absurd (not_both _ (stays x e) k)
      by false true e k rest =
          ap (λ (c : Bool). cond c (x ∷ filter keep (edit_first test f xs)) (filter keep (edit_first test f xs))) k
          ∙ ap (λ ys. x ∷ ys) rest
          ∙ sym (ap (λ (b : Bool). cond b (f x ∷ filter keep xs) (x ∷ edit_first test f (filter keep xs))) e)
      by false false e k rest = ap (λ (c : Bool). cond c (x ∷ filter keep (edit_first test f xs)) (filter keep (edit_first test f xs))) k ∙ rest

  -- an edit of an item that is left out, before and after
  pub filter_dropped : (keep test : A → Bool) (f : A → A) → ((x : A) → keep (f x) ≡ keep x) → ((x : A) → test x ≡ true → keep x ≡ false) → (xs : List A)
      → filter keep (edit_first test f xs) ≡ filter keep xs
  filter_dropped keep test f same goes [] = refl
  filter_dropped keep test f same goes (x ∷ xs) = by (test x) refl (filter_dropped keep test f same goes xs)
    where
      by : (b : Bool) → test x ≡ b → filter keep (edit_first test f xs) ≡ filter keep xs → filter keep (cond b (f x ∷ xs) (x ∷ edit_first test f xs)) ≡ filter keep (x ∷ xs)
      by true e rest =
          ap (λ (c : Bool). cond c (f x ∷ filter keep xs) (filter keep xs)) (same x ∙ goes x e)
          ∙ sym (ap (λ (c : Bool). cond c (x ∷ filter keep xs) (filter keep xs)) (goes x e))
      by false e rest = ap (λ ys. cond (keep x) (x ∷ ys) ys) rest

  -- what passes a test, among what passes one that it implies
  pub filter_inside : (keep wide : A → Bool) → ((x : A) → wide x ≡ false → keep x ≡ false) → (xs : List A) → filter keep (filter wide xs) ≡ filter keep xs
  filter_inside keep wide goes [] = refl
  filter_inside keep wide goes (x ∷ xs) = by (wide x) refl (filter_inside keep wide goes xs)
    where
      by : (b : Bool) → wide x ≡ b → filter keep (filter wide xs) ≡ filter keep xs → filter keep (cond b (x ∷ filter wide xs) (filter wide xs)) ≡ filter keep (x ∷ xs)
      by true e rest = ap (λ ys. cond (keep x) (x ∷ ys) ys) rest
      by false e rest = rest ∙ sym (ap (λ (c : Bool). cond c (x ∷ filter keep xs) (filter keep xs)) (goes x e))

  -- what is found beside an edit of another item
  pub find_edit : (test other : A → Bool) (f : A → A) → ((x : A) → test (f x) ≡ test x) → ((x : A) → other x ≡ true → test x ≡ false) → (xs : List A)
      → find test (edit_first other f xs) ≡ find test xs
  find_edit test other f same apart [] = refl
  find_edit test other f same apart (x ∷ xs) = by (other x) refl (find_edit test other f same apart xs)
    where
      by : (b : Bool) → other x ≡ b → find test (edit_first other f xs) ≡ find test xs → find test (cond b (f x ∷ xs) (x ∷ edit_first other f xs)) ≡ find test (x ∷ xs)
      by true e rest =
          ap (λ (c : Bool). cond c (Some (f x)) (find test xs)) (same x ∙ apart x e) ∙ sym (ap (λ (c : Bool). cond c (Some x) (find test xs)) (apart x e))
      by false e rest = ap (λ o. cond (test x) (Some x) o) rest

  pub find_filter : (test keep : A → Bool) → ((x : A) → test x ≡ true → keep x ≡ true) → (xs : List A) → find test (filter keep xs) ≡ find test xs
  find_filter test keep stays [] = refl
  find_filter test keep stays (x ∷ xs) = by (test x) (keep x) refl refl (find_filter test keep stays xs)
    where
      by : (b c : Bool) → test x ≡ b → keep x ≡ c → find test (filter keep xs) ≡ find test xs → find test (cond c (x ∷ filter keep xs) (filter keep xs)) ≡ cond b (Some x) (find test xs)
      by true true e k rest = ap (λ (b : Bool). cond b (Some x) (find test (filter keep xs))) e
      by true false e k rest = absurd (not_both _ (stays x e) k)
      by false true e k rest = ap (λ (b : Bool). cond b (Some x) (find test (filter keep xs))) e ∙ rest
      by false false e k rest = rest

  -- whether one is found, where an edit keeps the test
  pub is_found_edit : (test other : A → Bool) (f : A → A) → ((x : A) → test (f x) ≡ test x) → (xs : List A) → is_some (find test (edit_first other f xs)) ≡ is_some (find test xs)
  is_found_edit test other f same [] = refl
  is_found_edit test other f same (x ∷ xs) = by (other x) (is_found_edit test other f same xs)
    where
      either : (c : Bool) (y z : A) → is_some (cond c (Some y) (find test xs)) ≡ is_some (cond c (Some z) (find test xs))
      either true y z = refl
      either false y z = refl

      by : (b : Bool) → is_some (find test (edit_first other f xs)) ≡ is_some (find test xs) → is_some (find test (cond b (f x ∷ xs) (x ∷ edit_first other f xs))) ≡ is_some (find test (x ∷ xs))
      by true rest = ap (λ (c : Bool). is_some (cond c (Some (f x)) (find test xs))) (same x) ∙ either (test x) (f x) x
      by false rest = later (test x) rest
        where
          later : (c : Bool) → is_some (find test (edit_first other f xs)) ≡ is_some (find test xs) → is_some (cond c (Some x) (find test (edit_first other f xs))) ≡ is_some (cond c (Some x) (find test xs))
          later true r = refl
          later false r = r

  -- the names of those that pass, where an edit keeps both
  pub names_edit : {B : Type 0} (name : A → B) (keep test : A → Bool) (f : A → A) → ((x : A) → keep (f x) ≡ keep x) → ((x : A) → name (f x) ≡ name x) → (xs : List A)
      → map name (filter keep (edit_first test f xs)) ≡ map name (filter keep xs)
  names_edit name keep test f same called [] = refl
  names_edit {B = B} name keep test f same called (x ∷ xs) = by (test x) (names_edit name keep test f same called xs)
    where
      either : (c : Bool) → map name (cond c (f x ∷ filter keep xs) (filter keep xs)) ≡ map name (cond c (x ∷ filter keep xs) (filter keep xs))
      either true = ap (λ (n : B). n ∷ map name (filter keep xs)) (called x)
      either false = refl

      later : (c : Bool) → map name (filter keep (edit_first test f xs)) ≡ map name (filter keep xs)
          → map name (cond c (x ∷ filter keep (edit_first test f xs)) (filter keep (edit_first test f xs))) ≡ map name (cond c (x ∷ filter keep xs) (filter keep xs))
      later true r = ap (λ ns. name x ∷ ns) r
      later false r = r

      by : (b : Bool) → map name (filter keep (edit_first test f xs)) ≡ map name (filter keep xs) → map name (filter keep (cond b (f x ∷ xs) (x ∷ edit_first test f xs))) ≡ map name (filter keep (x ∷ xs))
      by true rest = ap (λ (c : Bool). map name (cond c (f x ∷ filter keep xs) (filter keep xs))) (same x) ∙ either (keep x)
      by false rest = later (keep x) rest
