-- What comes of a tell that the spaces below see too, step by step.
use Rattle.std.proofs.Common.{◌≡◌, ◌⊎◌, inl, inr, ℕ, zero, suc, ◌+◌, ◌<◌, ◌≤◌, Bool, true, false, List, [], ◌∷◌, ◌++◌, length, filter, slice_get, slice_set, slice_index_or, refl, sym, ap, ap₂, subst, ◌∙◌, arith, Option, Some, None, Result, Ok, Err, length-append}
use Rattle.std.specs.Prelude.{◌||◌, OnErr, IfOk, MatchOption}
use Rattle.std.specs.List.{list_any}
use Rattle.std.proofs.lemmas.List.{length-set, set-set, get_or-set_same, get_or_default}
use Rattle.std.proofs.lemmas.Option.{get_or_from_slice_get}
use Rattle.oz_base.specs.declared.names.Ident.{Ident}
use Rattle.oz_semantics.specs.Names.{is_top}
use Rattle.oz_semantics.specs.declared.value.Tell.{Tell}
use Rattle.view_laws.specs.Spaceless.{gives_space}
use Rattle.space_core.specs.Constraints.{Held, IsStoreTold}
use Rattle.space_core.specs.Fates.{IsChosen, IsFate, IsStale, EachFate, AreFates, with_fates}
use Rattle.space_core.specs.Shown.{shown_all, is_other}
use Rattle.space_core.specs.Telling.{has_below, IsMarked, IsToldMore, IsLevelTold, IsFated, IsSetBack, sees_at, ToldThrough, IsToldThrough}
use Rattle.space_core.specs.declared.fates.Fate.{Fate}
use Rattle.space_core.specs.declared.level.Level.{Level}
use Rattle.space_core.proofs.AnswerLaws.{unchanged}
use Rattle.space_core.proofs.AdvanceLaws.{read_set}
use Rattle.space_core.proofs.FateLaws.{chosen_right}

-- One fate more

get_end : {A : Type 0} (xs : List A) (x : A) (n : ℕ) (y : A) → slice_get (xs ++ x ∷ []) n ≡ Some y → (slice_get xs n ≡ Some y) ⊎ ((n ≡ length xs) × (x ≡ y))
get_end [] x zero y e = let same : x ≡ y = cc in inr (refl, same)
get_end [] x (suc n) y e = cc
get_end (z ∷ zs) x zero y e = inl e
get_end (z ∷ zs) x (suc n) y e = elim (get_end zs x n y e) [
  | inl k ↦ inl k
  | inr k ↦ inr (ap (λ m. suc m) k.0, k.1)
]

-- those of the spaces so far are right
pub record AreSoFar (space : List ℕ) (levels : List Level) (fates : List Fate) (n : ℕ) : Type 0 where
  pub as_many : length fates ≡ n
  pub right : IsStale space levels → EachFate space levels fates (shown_all levels)

pub none_so_far : (space : List ℕ) (levels : List Level) (fates : List Fate) → fates ≡ [] → AreSoFar space levels fates 0
none_so_far space levels fates e = subst (λ (fs : List Fate). AreSoFar space levels fs 0) (sym e) (record { as_many = refl; right = λ stale n l fate a b. absurd (cc) })

pub one_more : (space : List ℕ) (levels : List Level) (fates news : List Fate) (n : ℕ) (l : Level) (fate : Fate) → n < length levels → l ≡ slice_index_or levels n l → AreSoFar space levels fates n
    → IsChosen space levels fates l fate → news ≡ fates ++ fate ∷ [] → AreSoFar space levels news (n + 1)
one_more space levels fates news n l fate within e so_far chosen more = subst (λ (fs : List Fate). AreSoFar space levels fs (n + 1)) (sym more) (record {
  as_many = length-append fates (fate ∷ []) ∙ ap (λ m. m + 1) so_far.as_many;
  right = λ stale m k g a b. elim (get_end fates fate m g b) [
    | inl h ↦ so_far.right stale m k g a h
    | inr h ↦ (let there : m ≡ n = h.0 ∙ so_far.as_many in
        let same : l ≡ k = e ∙ get_or_from_slice_get levels n k l (subst (λ i. slice_get levels i ≡ Some k) there a) in
        subst (λ (j : Level). IsFate space (shown_all levels) j g) same
        (subst (IsFate space (shown_all levels) l) h.1 (chosen_right space levels stale l (n, within, sym e) fates (so_far.right stale) fate chosen)))
  ];
})

pub all_so_far : (space : List ℕ) (levels : List Level) (fates : List Fate) (n : ℕ) → n ≡ length levels → AreSoFar space levels fates n → AreFates space levels fates
all_so_far space levels fates n e so_far = record { as_many = so_far.as_many ∙ e; right = so_far.right }

-- What becomes of the spaces by what the one at a place sees; or it sees again what it saw

module _ (levels : List Level) (place : ℕ) (within : place < length levels) (k : Level) (read : k ≡ slice_index_or levels place k) where
  same_read : (l : Level) → l ≡ slice_index_or levels place l → k ≡ l
  same_read l q = read ∙ get_or_default levels place k l within ∙ sym q

  pub fated_at : (now : List Level) → now ≡ levels → (fates : List Fate) → AreFates k.space now fates → IsFated place levels levels fates
  fated_at now e fates are = record {
    left = refl;
    are = λ l q. subst (λ (n : Level). AreFates n.space levels fates) (same_read l q) (subst (λ (ls : List Level). AreFates k.space ls fates) e are);
  }

  pub back_at : (store : List Tell) (held : Held) → held ≡ record k.constraints { store = store } → IsSetBack place store levels (slice_set levels place (record k { constraints = held }))
  back_at store held e = λ l q.
      ap (λ (h : Held). slice_set levels place (record k { constraints = h })) e ∙ ap (λ (n : Level). sees_at place n store levels) (same_read l q)

-- What was told, and then noted

pub told_marked : (home : Bool) (ts : List Tell) (l k m : Level) (held : Held) (noted : List Ident) → k ≡ record l { constraints = held } → IsStoreTold ts noted l.constraints held → IsMarked home ts noted k m
    → l.bare ≡ false → IsToldMore home ts l m
told_marked home ts l k m held noted e t q b =
    let kept : k.space ≡ l.space = ap (λ (n : Level). n.space) e in
    record {
      store = q.store ∙ ap (λ (n : Level). n.constraints.store) e ∙ ap (λ (h : Held). h.store) t.becomes;
      consistent = t.consistent;
      space = q.space ∙ kept;
      status = q.status ∙ ap (λ (n : Level). n.status) e;
      told_from = q.told_from ∙ ap (λ (n : Level). n.told_from) e;
      threads = q.threads ∙ ap (λ (n : Level). n.threads) e;
      triggers = q.triggers ∙ ap (λ (n : Level). n.triggers) e;
      propagators = q.propagators ∙ ap (λ (n : Level). n.constraints.propagators) e ∙ ap (λ (h : Held). h.propagators) t.becomes;
      objects = q.objects ∙ ap (λ (n : Level). n.objects) e;
      numbers = q.numbers ∙ ap (λ (n : Level). n.numbers) e;
      traced = λ t. let r = q.traced t in (sym (ap (λ (n : Level). n.traced) e) ∙ r.0, r.1);
      notes = λ u n. record {
        more = filter (is_other l.space) noted;
        noted = q.notes u (ap is_top kept ∙ n)
            ∙ ap₂ (λ (xs ys : List Ident). xs ++ ys) (ap (λ (n : Level). n.touched) e) (ap (λ (s : List ℕ). filter (is_other s) noted) kept);
        traces = record { all = noted; touches = t.touches; others = refl };
      };
      knows = q.knows ∙ ap (λ (n : Level). n.knows_space || list_any gives_space ts) e;
      kept = b;
      bare = q.bare ∙ ap (λ (n : Level). n.bare) e;
    }

-- The answer of a tell

pub told_some : {A : Type 0} (N : Type 0) (S : A → Type 0) (o : Option A) (x : A) → o ≡ Some x → MatchOption o N S → S x
told_some N S o x e t = subst (λ p. MatchOption p N S) e t

pub told_none : {A : Type 0} (N : Type 0) (S : A → Type 0) (o : Option A) → o ≡ None → MatchOption o N S → N
told_none N S o e t = subst (λ p. MatchOption p N S) e t

pub refused : {A E P : Type 0} (r : Result A E) → P → OnErr r P
refused (Ok a) p = tt
refused (Err e) p = p

-- A space that was told more, and then sees what it saw

module _ (levels : List Level) (place : ℕ) (within : place < length levels) (l m : Level) (read : l ≡ slice_index_or levels place l) (held : Held) (put : m ≡ record l { constraints = held }) where
  -- nothing was told
  pub none_told : held ≡ l.constraints → slice_set levels place m ≡ levels
  none_told e = unchanged levels place l m read (put ∙ ap (λ (h : Held). record l { constraints = h }) e)

  module _ (ts : List Tell) (noted : List Ident) (told : IsStoreTold ts noted l.constraints held) where
    pub set_back : (before : List Tell) → before ≡ l.constraints.store → (news : List Level) → IsSetBack place before (slice_set levels place m) news → news ≡ levels
    set_back before e news back =
        back m (sym (get_or-set_same levels place m m within))
        ∙ set-set levels place m (record m { constraints = record m.constraints { store = before } })
        ∙ unchanged levels place l (record m { constraints = record m.constraints { store = before } }) read
        (ap (λ (k : Level). record k { constraints = record k.constraints { store = before } }) put
        ∙ ap₂ (λ (h : Held) (us : List Tell). record l { constraints = record h { store = us } }) told.becomes e)

    -- and so are those below it
    pub told_below : (home : Bool) (fates : List Fate) (now : List Level) → IsFated place (slice_set levels place m) now fates → (k n : Level) → k ≡ slice_index_or now place k → IsMarked home ts noted k n
        → l.bare ≡ false → (news : List Level) → news ≡ with_fates fates (slice_set now place n) → ToldThrough place home ts levels news
    told_below home fates now fated k n rk q b news e =
        let same : k ≡ record l { constraints = held } = read_set levels place m k within (subst (λ (ls : List Level). k ≡ slice_index_or ls place k) fated.left rk) ∙ put in
        let tells : IsToldMore home ts l n = told_marked home ts l k n held noted same told q b in
        let sees : record l { constraints = record l.constraints { store = n.constraints.store } } ≡ m =
        ap (λ (us : List Tell). record l { constraints = record l.constraints { store = us } }) tells.store ∙ ap (λ (h : Held). record l { constraints = h }) (sym told.becomes) ∙ sym put in
        record {
          before = l;
          told = n;
          read = read;
          tells = tells;
          left = inr (record {
            fates = fates;
            are = subst (λ (s : List ℕ). AreFates s (slice_set levels place (record l { constraints = record l.constraints { store = n.constraints.store } })) fates) (ap (λ (j : Level). j.space) put)
                (subst (λ (ls : List Level). AreFates m.space ls fates) (ap (slice_set levels place) (sym sees)) (fated.are m (sym (get_or-set_same levels place m m within))));
            left = e ∙ ap (λ (ls : List Level). with_fates fates (slice_set ls place n)) fated.left ∙ ap (with_fates fates) (set-set levels place m n);
          });
        }

    pub fates_within : (fates : List Fate) (now : List Level) → IsFated place (slice_set levels place m) now fates → (n : Level) → length fates ≤ length (slice_set now place n)
    fates_within fates now fated n =
        omega (arith, (fated.are m (sym (get_or-set_same levels place m m within))).as_many, ap length fated.left, length-set now place n)

-- A space that has none below it

module _ (levels : List Level) (place : ℕ) (home : Bool) (ts : List Tell) (l m : Level) (r : l ≡ slice_index_or levels place l) where
  pub alone_told : {E : Type 0} (answer : Result Bool E) → has_below (shown_all levels) l.space ≡ false → IfOk answer (IsLevelTold home ts l m) → IfOk answer (IsToldThrough place home ts levels (slice_set levels place m))
  alone_told (Ok true) none t = record { before = l; told = m; read = r; tells = t; left = inl (record { none = none; left = refl }) }
  alone_told (Ok false) none t = record { before = l; read = r; kept = t.2; clash = t.1; left = unchanged levels place l m r t.0 }
  alone_told (Err b) none t = t

  pub alone_refused : {E : Type 0} (answer : Result Bool E) → OnErr answer (m ≡ l) → OnErr answer (slice_set levels place m ≡ levels)
  alone_refused (Ok b) t = t
  alone_refused (Err b) t = unchanged levels place l m r t
