-- Scopes: what is kept as they grow, and the constructs of the translation, each by what its parts make.
use Rattle.std.proofs.Common.{◌≡◌, inl, inr, ℕ, suc, List, [], ◌∷◌, ◌++◌, Option, Some, None, refl, subst}
use Rattle.std.specs.List.{Contains, All}
use Rattle.std.proofs.lemmas.List.Elements.{Contains-append_left, Contains-append_right, Contains-append_cases, Contains-push, All-nil, All-cons}
use Rattle.oz_language.specs.declared.kernel.Identifier.{Identifier}
use Rattle.oz_language.specs.declared.kernel.Identifier.TheVariants.{Word, Fresh}
use Rattle.oz_language.specs.Kernels.{Stmt, Stmts, none, followed, ◌⨾◌}
use Rattle.oz_language.specs.Wording.{by_need_word}
use Rattle.oz_language.specs.Translation.{Made, name_or, next_after, with_fresh, fresh_among, scoped, part_made, with_part, with_parts, equated, cell_made, function_made, attempted}
use Rattle.scope_law.specs.Closed.{Closed, ClosedAll}
use Rattle.scope_law.proofs.Basics.{here, there, first_or}

-- ---- growing scopes

pub record Within (S T : List Identifier) : Type 0 where
  pub kept : (x : Identifier) → Contains S x → Contains T x

pub within_self : (S : List Identifier) → Within S S
within_self S = record { kept = λ x h. h }

pub within_more : (xs S : List Identifier) → Within S (xs ++ S)
within_more xs S = record { kept = λ x h. Contains-append_right xs S x h }

pub within_both : {S T U : List Identifier} → Within S T → Within T U → Within S U
within_both v w = record { kept = λ x h. w.kept x (v.kept x h) }

-- parameters with one more behind them
beside : (xs : List Identifier) (x : Identifier) (S : List Identifier) → Within (xs ++ S) ((xs ++ x ∷ []) ++ S)
beside xs x S = record {
  kept = λ y h. elim (Contains-append_cases xs S y h) [
    | inl k ↦ Contains-append_left (xs ++ x ∷ []) S y (Contains-append_left xs (x ∷ []) y k)
    | inr k ↦ Contains-append_right (xs ++ x ∷ []) S y k
  ];
}

last : (xs : List Identifier) (x : Identifier) (S : List Identifier) → Contains ((xs ++ x ∷ []) ++ S) x
last xs x S = Contains-append_left (xs ++ x ∷ []) S x (Contains-push xs x)

-- ---- statements one behind another

pub appended : (S : List Identifier) (a b : Stmts) → ClosedAll S a → ClosedAll S b → ClosedAll S (a ⨾ b)
appended S none b h k = k
appended S (followed s a) b h k = (h.0, appended S a b h.1 k)

pub in_scoped : (S xs : List Identifier) (ss : Stmts) → ClosedAll (xs ++ S) ss → ClosedAll S (scoped xs ss)
in_scoped S [] ss h = h
in_scoped S (x ∷ xs) ss h = (h, tt)

-- ---- the identifiers of parts

fresh_first : (x : Identifier) (xs : List Identifier) (n : ℕ) → x ≡ Fresh n → Contains (with_fresh x xs) (Fresh n)
fresh_first (Word w) xs n e = absurd (cc)
fresh_first (Fresh m) xs n e = subst (λ y. Contains (Fresh m ∷ xs) y) e (here (Fresh m) xs)

fresh_behind : (x : Identifier) (xs : List Identifier) (y : Identifier) → Contains xs y → Contains (with_fresh x xs) y
fresh_behind (Word w) xs y h = h
fresh_behind (Fresh m) xs y h = there (Fresh m) y xs h

-- a fresh identifier is bound where it is among those that are made
pub fresh_in : (xs : List Identifier) (n : ℕ) → Contains xs (Fresh n) → Contains (fresh_among xs) (Fresh n)
fresh_in [] n h = h
fresh_in (x ∷ xs) n h = elim (first_or x (Fresh n) xs h) [
  | inl e ↦ fresh_first x (fresh_among xs) n e
  | inr k ↦ fresh_behind x (fresh_among xs) (Fresh n) (fresh_in xs n k)
]

-- the identifier that a part has by itself is in scope
abbrev pub Named : List Identifier → Option Identifier → Type 0
Named S None = Unit {0}
Named S (Some x) = Contains S x

-- so that of any part is in scope inside
pub part_in : (S xs : List Identifier) (n : ℕ) (v : Option Identifier) → Named S v → Contains xs (name_or n v) → Contains (fresh_among xs ++ S) (name_or n v)
part_in S xs n (Some x) h k = Contains-append_right (fresh_among xs) S x h
part_in S xs n None h k = Contains-append_left (fresh_among xs) S (Fresh n) (fresh_in xs n k)

-- ---- what is made

-- closed in any scope that has more
pub record Codes (S : List Identifier) (make : ℕ → Made) : Type 0 where
  pub code : (T : List Identifier) → Within S T → (i : ℕ) → ClosedAll T (make i).code

-- and with an identifier in it
pub record Makes (S : List Identifier) (make : Identifier → ℕ → Made) : Type 0 where
  pub code : (T : List Identifier) → Within S T → (x : Identifier) → Contains T x → (i : ℕ) → ClosedAll T (make x i).code

pub codes_within : {S T : List Identifier} {make : ℕ → Made} → Within S T → Codes S make → Codes T make
codes_within w c = record { code = λ U v i. c.code U (within_both w v) i }

pub makes_within : {S T : List Identifier} {make : Identifier → ℕ → Made} → Within S T → Makes S make → Makes T make
makes_within w m = record { code = λ U v x h i. m.code U (within_both w v) x h i }

pub part_closed : (S : List Identifier) (v : Option Identifier) (x : Identifier) (make : Identifier → ℕ → Made) (n : ℕ) → Contains S x → Makes S make → ClosedAll S (part_made v (make x) n).code
part_closed S (Some y) x make n h m = tt
part_closed S None x make n h m = m.code S (within_self S) x h n

pub with_part_closed : (S : List Identifier) (n : ℕ) (v : Option Identifier) (make use_of : Identifier → ℕ → Made) → Named S v → Makes S make → Makes S use_of → ClosedAll S (with_part n v make use_of).code
with_part_closed S n v make use_of h m u =
    let x = name_or n v in
    let T = fresh_among (x ∷ []) ++ S in
    let w = within_more (fresh_among (x ∷ [])) S in
    let k = part_in S (x ∷ []) n v h (here x []) in
    in_scoped S (fresh_among (x ∷ [])) _ (appended T _ _ (part_closed T v x make (next_after n v) k (makes_within w m)) (u.code T w x k _))

pub with_parts_closed : (S : List Identifier) (n : ℕ) (v w : Option Identifier) (first second : Identifier → ℕ → Made) (use_of : Identifier → Identifier → Stmt) →
    Named S v → Named S w → Makes S first → Makes S second → ((T : List Identifier) (x y : Identifier) → Within S T → Contains T x → Contains T y → Closed T (use_of x y)) →
    ClosedAll S (with_parts n v w first second use_of).code
with_parts_closed S n v w first second use_of h k a b u =
    let x = name_or n v in
    let m = next_after n v in
    let y = name_or m w in
    let new = fresh_among (x ∷ y ∷ []) in
    let T = new ++ S in
    let more = within_more new S in
    let in_x = part_in S (x ∷ y ∷ []) n v h (here x (y ∷ [])) in
    let in_y = part_in S (x ∷ y ∷ []) m w k (there x y (y ∷ []) (here y [])) in
    in_scoped S new _ (appended T _ _
    (appended T _ _ (part_closed T v x first (next_after m w) in_x (makes_within more a)) (part_closed T w y second _ in_y (makes_within more b)))
    (u T x y more in_x in_y, tt))

pub equated_closed : (S : List Identifier) (n : ℕ) (v w : Option Identifier) (left right : Identifier → ℕ → Made) → Named S v → Named S w → Makes S left → Makes S right → ClosedAll S (equated n v w left right).code
equated_closed S n (Some x) w left right h k a b = b.code S (within_self S) x h n
equated_closed S n None (Some y) left right h k a b = a.code S (within_self S) y k n
equated_closed S n None None left right h k a b =
    let T = Fresh n ∷ S in
    let w = within_more (Fresh n ∷ []) S in
    in_scoped S (Fresh n ∷ []) _ (appended T _ _ (a.code T w (Fresh n) (here (Fresh n) S) (suc n)) (b.code T w (Fresh n) (here (Fresh n) S) _))

-- two of a list
pub two : (T : List Identifier) (x y : Identifier) → Contains T x → Contains T y → All (Contains T) (x ∷ y ∷ [])
two T x y h k = All-cons (Contains T) x (y ∷ []) h (All-cons (Contains T) y [] k (All-nil (Contains T)))

pub cell_closed : (S : List Identifier) (n : ℕ) (x : Identifier) (v w : Option Identifier) (head tail : Identifier → ℕ → Made) → Contains S x → Named S v → Named S w → Makes S head → Makes S tail →
    ClosedAll S (cell_made n x v w head tail).code
cell_closed S n x v w head tail i h k a b =
    let y = name_or n v in
    let m = next_after n v in
    let z = name_or m w in
    let new = fresh_among (y ∷ z ∷ []) in
    let T = new ++ S in
    let more = within_more new S in
    let in_y = part_in S (y ∷ z ∷ []) n v h (here y (z ∷ [])) in
    let in_z = part_in S (y ∷ z ∷ []) m w k (there y z (z ∷ []) (here z [])) in
    in_scoped S new _ ((more.kept x i, two T y z in_y in_z), appended T _ _ (part_closed T v y head (next_after m w) in_y (makes_within more a)) (part_closed T w z tail _ in_z (makes_within more b)))

-- a function by how its body makes its value
pub function_closed : (S xs : List Identifier) (x : Identifier) (lazy : Option ℕ) (make : Identifier → ℕ → Made) (n : ℕ) → Contains S x → Contains S (Word by_need_word) → Makes (xs ++ S) make →
    ClosedAll S (function_made x xs lazy make n).code
function_closed S xs x None make n h k m =
    let T = (xs ++ Fresh n ∷ []) ++ S in
    ((h, m.code T (beside xs (Fresh n) S) (Fresh n) (last xs (Fresh n) S) (suc n)), tt)
function_closed S xs x (Some at) make n h k m =
    let T = (xs ++ Fresh n ∷ []) ++ S in
    let f = Fresh (suc n) in
    let s = Fresh (suc (suc n)) in
    let by_need = there f (Word by_need_word) T (Contains-append_right (xs ++ Fresh n ∷ []) S (Word by_need_word) k) in
    let r = there f (Fresh n) T (last xs (Fresh n) S) in
    let body = m.code (s ∷ f ∷ T) (within_both (beside xs (Fresh n) S) (within_more (s ∷ f ∷ []) T)) s (here s (f ∷ T)) (suc (suc (suc n))) in
    ((h, (((here f T, body), ((by_need, two (f ∷ T) f (Fresh n) (here f T) r), tt)), tt)), tt)

pub attempted_closed : (S : List Identifier) (n : ℕ) (v : Option Identifier) (body handler : ℕ → Made) (chain : Identifier → ℕ → Made) → Codes S body → ((y : Identifier) (i : ℕ) → v ≡ Some y → ClosedAll (y ∷ S) (handler i).code) → Makes S chain →
    ClosedAll S (attempted n v body handler chain).code
attempted_closed S n (Some y) body handler chain b h c = ((b.code S (within_self S) n, h y _ refl), tt)
attempted_closed S n None body handler chain b h c =
    ((b.code S (within_self S) (suc n), c.code (Fresh n ∷ S) (within_more (Fresh n ∷ []) S) (Fresh n) (here (Fresh n) S) _), tt)
