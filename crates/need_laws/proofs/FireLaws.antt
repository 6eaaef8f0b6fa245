-- Layers in which triggers give way to their threads.
use Rattle.std.proofs.Common.{◌≡◌, inl, inr, ℕ, zero, suc, ◌+◌, Bool, true, false, not, if◌then◌else◌, List, [], ◌∷◌, ◌++◌, refl, sym, ap, ap₂, subst, ◌∙◌, arith, length, filter, map}
use Rattle.std.specs.List.{list_any, fold, sum_by}
use Rattle.std.proofs.lemmas.List.{append-nil, append_assoc, length-append}
use Rattle.oz_language.specs.declared.kernel.Statement.{Statement}
use Rattle.oz_semantics.specs.Configurations.{applying}
use Rattle.oz_semantics.specs.Triggers.{is_needed_in, beginning, fired, has_needed, fired_for}
use Rattle.oz_semantics.specs.declared.configuration.Frame.{Frame}
use Rattle.oz_semantics.specs.declared.configuration.Thread.{Thread}
use Rattle.oz_semantics.specs.declared.configuration.Trigger.{Trigger}
use Rattle.oz_semantics.specs.declared.configuration.Next.{Next}
use Rattle.oz_semantics.specs.declared.configuration.Layer.{Layer}
use Rattle.oz_laws.proofs.SameLaws.{In}
use Rattle.need_laws.specs.Needs.{begun_from, Fires, AllFire, AllFired}

-- Threads that begin

begun_append : (n : ℕ) (xs ys : List Frame) → begun_from n (xs ++ ys) ≡ begun_from n xs ++ begun_from (n + length xs) ys
begun_append n [] ys = ap (λ m. begun_from m ys) (let e : n ≡ n + 0 = omega arith in e)
begun_append n (x ∷ xs) ys =
    ap (λ (ts : List Thread). record { number = n; frames = x ∷ [] } ∷ ts)
    (begun_append (n + 1) xs ys ∙ ap (λ m. begun_from (n + 1) xs ++ begun_from m ys) (let e : n + 1 + length xs ≡ n + length (x ∷ xs) = omega arith in e))

-- One layer

pub fires_none : (l : Layer) → Fires l l
fires_none l = record {
  space = refl;
  status = refl;
  tells = refl;
  propagators = refl;
  cells = refl;
  ports = refl;
  begun = [];
  threads = sym (append-nil l.threads);
  next = ap (λ n. record l.next { thread = n }) (let e : l.next.thread ≡ l.next.thread + 0 = omega arith in e);
}

pub fires_both : (l m k : Layer) → Fires l m → Fires m k → Fires l k
fires_both l m k f g = record {
  space = g.space ∙ f.space;
  status = g.status ∙ f.status;
  tells = g.tells ∙ f.tells;
  propagators = g.propagators ∙ f.propagators;
  cells = g.cells ∙ f.cells;
  ports = g.ports ∙ f.ports;
  begun = f.begun ++ g.begun;
  threads =
      g.threads
      ∙ ap₂ (λ (ts : List Thread) (n : ℕ). ts ++ begun_from n g.begun) f.threads (ap (λ (n : Next). n.thread) f.next)
      ∙ append_assoc l.threads (begun_from l.next.thread f.begun) (begun_from (l.next.thread + length f.begun) g.begun)
      ∙ ap (λ (ts : List Thread). l.threads ++ ts) (sym (begun_append l.next.thread f.begun g.begun));
  next =
      g.next
      ∙ ap (λ (n : Next). record n { thread = n.thread + length g.begun }) f.next
      ∙ ap (λ n. record l.next { thread = n }) (let e : l.next.thread + length f.begun + length g.begun ≡ l.next.thread + length (f.begun ++ g.begun) = omega (arith, length-append f.begun g.begun) in e);
}

fires_one : (l : Layer) (t : Trigger) → Fires l (beginning l t)
fires_one l t = record {
  space = refl;
  status = refl;
  tells = refl;
  propagators = refl;
  cells = refl;
  ports = refl;
  begun = applying t.procedure t.variable ∷ [];
  threads = refl;
  next = refl;
}

fires_fold : (ts : List Trigger) (l : Layer) → Fires l (fold beginning l ts)
fires_fold [] l = fires_none l
fires_fold (t ∷ ts) l = fires_both l (beginning l t) (fold beginning (beginning l t) ts) (fires_one l t) (fires_fold ts (beginning l t))

-- whatever triggers are left
fires_from : (l m : Layer) (ts : List Trigger) → Fires (record l { triggers = ts }) m → Fires l m
fires_from l m ts f = record { space = f.space; status = f.status; tells = f.tells; propagators = f.propagators; cells = f.cells; ports = f.ports; begun = f.begun; threads = f.threads; next = f.next }

pub fires_fired : (statements : List Statement) (layers : List Layer) (l : Layer) → Fires l (fired statements layers l)
fires_fired statements layers l =
    let rest : List Trigger = filter (λ t. not (is_needed_in statements layers l t)) l.triggers in
    let needed : List Trigger = filter (is_needed_in statements layers l) l.triggers in
    fires_from l (fired statements layers l) rest (fires_fold needed (record l { triggers = rest }))

-- All layers

pub all_none : (ls : List Layer) → AllFire ls ls
all_none [] = tt
all_none (l ∷ ls) = (fires_none l, all_none ls)

pub all_both : (ls ms ks : List Layer) → AllFire ls ms → AllFire ms ks → AllFire ls ks
all_both [] [] ks f g = g
all_both (l ∷ ls) (m ∷ ms) [] f g = g
all_both (l ∷ ls) (m ∷ ms) (k ∷ ks) f g = (fires_both l m k f.0 g.0, all_both ls ms ks f.1 g.1)
all_both [] (m ∷ ms) ks f g = elim f [ ]
all_both (l ∷ ls) [] ks f g = elim f [ ]

all_map : (change : Layer → Layer) → ((l : Layer) → Fires l (change l)) → (ls : List Layer) → AllFire ls (map change ls)
all_map change h [] = tt
all_map change h (l ∷ ls) = (h l, all_map change h ls)

pub all_round : (statements : List Statement) (layers : List Layer) → AllFire layers (map (fired statements layers) layers)
all_round statements layers = all_map (fired statements layers) (fires_fired statements layers) layers

all_rounds : (statements : List Statement) (n : ℕ) (layers : List Layer) → AllFire layers (fired_for statements n layers)
unfolding fired_for
all_rounds statements zero layers = all_none layers
all_rounds statements (suc n) layers = by (list_any (has_needed statements layers) layers) (all_rounds statements n (map (fired statements layers) layers))
  where
    by : (b : Bool) → AllFire (map (fired statements layers) layers) (fired_for statements n (map (fired statements layers) layers))
        → AllFire layers (if b then fired_for statements n (map (fired statements layers) layers) else layers)
    by true rest = all_both layers (map (fired statements layers) layers) (fired_for statements n (map (fired statements layers) layers)) (all_round statements layers) rest
    by false rest = all_none layers

pub all_fired : AllFired
all_fired statements layers = all_rounds statements (sum_by (λ (l : Layer). length l.triggers) layers) layers

-- Where a layer came from, and what became of it

pub fired_of : (ls ms : List Layer) → AllFire ls ms → (m : Layer) → In m ms → (l : Layer) × In l ls × Fires l m
fired_of [] [] f m h = elim h [ ]
fired_of (l ∷ ls) (k ∷ ks) f m (inl e) = (l, inl refl, subst (Fires l) e f.0)
fired_of (l ∷ ls) (k ∷ ks) f m (inr h) = let r = fired_of ls ks f.1 m h in (r.0, inr r.1, r.2)
fired_of [] (k ∷ ks) f m h = elim f [ ]
fired_of (l ∷ ls) [] f m h = elim h [ ]

pub fired_to : (ls ms : List Layer) → AllFire ls ms → (l : Layer) → In l ls → (m : Layer) × In m ms × Fires l m
fired_to [] ms f l h = elim h [ ]
fired_to (k ∷ ls) (m ∷ ms) f l (inl e) = (m, inl refl, subst (λ (n : Layer). Fires n m) e f.0)
fired_to (k ∷ ls) (m ∷ ms) f l (inr h) = let r = fired_to ls ms f.1 l h in (r.0, inr r.1, r.2)
fired_to (k ∷ ls) [] f l h = elim f [ ]
