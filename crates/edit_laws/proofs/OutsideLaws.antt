-- Other names leave the tells that name nothing of a space.
use Rattle.std.proofs.Common.{◌≡◌, inl, inr, ℕ, ◌+◌, ◌-◌, Bool, true, false, not, ◌&&◌, if◌then◌else◌, List, [], ◌∷◌, ◌++◌, drop, length, map, refl, sym, ap, ap₂, subst, ◌∙◌}
use Rattle.std.specs.List.{list_all}
use Rattle.std.specs.Cmp.{nat_cmp_total}
use Rattle.std.specs.FinMap as maps
use Rattle.std.proofs.lemmas.Bool.{false≢true}
use Rattle.oz_base.specs.Lists.{list_eq, holds_of}
use Rattle.oz_base.specs.declared.names.Ident.{Ident}
use Rattle.environments.specs.Environments.{Environment, renamed}
use Rattle.oz_semantics.specs.Names.{is_below, is_properly_below, named}
use Rattle.oz_semantics.specs.Values.{space_in}
use Rattle.oz_semantics.specs.Configurations.{layer_at, layer_of, view}
use Rattle.oz_semantics.specs.Renamings.{Renaming, renamed_value, renamed_tell}
use Rattle.oz_semantics.specs.Edits.{moved, moving, raised_child, space_into, ident_into, merging}
use Rattle.oz_semantics.specs.declared.value.Value.{Value}
use Rattle.oz_semantics.specs.declared.value.Value.TheVariants as value
use Rattle.oz_semantics.specs.declared.value.Tell.{Tell}
use Rattle.oz_semantics.specs.declared.value.Tell.TheVariants.{Equal, Is, Within}
use Rattle.oz_semantics.specs.declared.configuration.Layer.{Layer}
use Rattle.oz_laws.proofs.SameLaws.{and-left, and-right}
use Rattle.view_laws.proofs.Members.{decide, not_both}
use Rattle.view_laws.proofs.NameLaws.{below_itself, equal_names}
use Rattle.view_laws.proofs.SightLaws.{space_of}
use Rattle.edit_laws.specs.Layers.{copy_name, merging_in}
use Rattle.edit_laws.specs.Sights.{view_from}
use Rattle.edit_laws.specs.Outside.{is_outside, value_outside, tell_outside, tell_of_other, moving_inside, CopyNamed, MergeNamed}
use Rattle.edit_laws.proofs.GraftLaws.{there_of}
use Rattle.edit_laws.proofs.CopySights.{copy_renamed}
use Rattle.edit_laws.proofs.ToldSights.{merge_renamed}

not_true : (b : Bool) → not b ≡ true → b ≡ false
not_true true e = absurd (false≢true e)
not_true false e = refl

-- other names that leave what is outside of a space
record Leaves (space : List ℕ) (r : Renaming) : Type 0 where
  variable : (x : Ident) → is_outside space x ≡ true → r.variable x ≡ x
  procedure : (x : Ident) → is_outside space x ≡ true → r.procedure x ≡ x
  name : (x : Ident) → is_outside space x ≡ true → r.name x ≡ x
  cell : (x : Ident) → is_outside space x ≡ true → r.cell x ≡ x
  port : (x : Ident) → is_outside space x ≡ true → r.port x ≡ x
  space_name : (s : List ℕ) → not (is_properly_below space s) ≡ true → r.space s ≡ s

-- what a test passes stays under a map that leaves it
mapped_same : {A : Type 0} (test : A → Bool) (f : A → A) → ((x : A) → test x ≡ true → f x ≡ x) → (xs : List A) → list_all test xs ≡ true → map f xs ≡ xs
mapped_same test f h [] e = refl
mapped_same test f h (x ∷ xs) e = ap₂ (λ y ys. y ∷ ys) (h x (and-left _ _ e)) (mapped_same test f h xs (and-right _ _ e))

-- an environment is that of its entries
environment_whole : (e : Environment) → maps.from_entries (maps.entries e) ≡ e
environment_whole e =
    maps.same_map nat_cmp_total maps.nat_cmp-IsAntisymmetric (maps.from_entries (maps.entries e)) e (λ q. maps.get-from_entries nat_cmp_total (maps.entries e) q ∙ sym (maps.get-entries e q))

environment_stays : (space : List ℕ) (f : Ident → Ident) → ((x : Ident) → is_outside space x ≡ true → f x ≡ x) → (e : Environment)
    → list_all (λ (b : ℕ × Ident). is_outside space b.1) (maps.entries e) ≡ true → renamed f e ≡ e
environment_stays space f h e k =
    ap maps.from_entries (mapped_same (λ (b : ℕ × Ident). is_outside space b.1) (λ (b : ℕ × Ident). (b.0, f b.1)) (λ b j. ap (λ (y : Ident). (b.0, y)) (h b.1 j)) (maps.entries e) k)
    ∙ environment_whole e

module _ (space : List ℕ) (r : Renaming) (leaves : Leaves space r) where
  value_stays : (v : Value) → value_outside space v ≡ true → renamed_value r v ≡ v
  value_stays (value.Constant c) e = refl
  value_stays (value.Name n) e = ap value.Name (leaves.name n e)
  value_stays (value.Record w) e = ap (λ xs. value.Record (record w { fields = xs })) (mapped_same (is_outside space) r.variable leaves.variable w.fields e)
  value_stays (value.Procedure p) e =
      ap₂ (λ (n : Ident) (env : Environment). value.Procedure (record p { name = n; environment = env })) (leaves.procedure p.name (and-left _ _ e))
      (environment_stays space r.variable leaves.variable p.environment (and-right (is_outside space p.name) _ e))
  value_stays (value.Builtin b) e = refl
  value_stays (value.Cell c) e = ap value.Cell (leaves.cell c e)
  value_stays (value.Port p) e = ap value.Port (leaves.port p e)
  value_stays (value.Space s) e = ap value.Space (leaves.space_name s e)

  tell_stays : (t : Tell) → tell_outside space t ≡ true → renamed_tell r t ≡ t
  tell_stays (Equal x y) e = ap₂ (λ a b. Equal a b) (leaves.variable x (and-left _ _ e)) (leaves.variable y (and-right (is_outside space x) _ e))
  tell_stays (Within x is) e = ap (λ a. Within a is) (leaves.variable x e)
  tell_stays (Is x v) e = ap₂ (λ a w. Is a w) (leaves.variable x (and-left _ _ e)) (value_stays v (and-right (is_outside space x) _ e))

  tells_stay : (ts : List Tell) → list_all (tell_outside space) ts ≡ true → map (renamed_tell r) ts ≡ ts
  tells_stay ts e = mapped_same (tell_outside space) (renamed_tell r) tell_stays ts e

-- Copies

moved_outside : (from to : List ℕ) (x : Ident) → is_outside from x ≡ true → record x { space = moved from to x.space } ≡ x
moved_outside from to x e = ap (λ (b : Bool). record x { space = if b then to ++ drop (length from) x.space else x.space }) (not_true _ e)

space_stays : (from to s : List ℕ) → not (is_properly_below from s) ≡ true → (if list_eq from s then s else moved from to s) ≡ s
space_stays from to s e = by (list_eq from s) (is_below from s) refl refl
  where
    by : (b c : Bool) → list_eq from s ≡ b → is_below from s ≡ c → (if list_eq from s then s else moved from to s) ≡ s
    by true c k m = ap (λ (d : Bool). if d then s else moved from to s) k
    by false true k m = absurd (not_both (is_properly_below from s) (ap₂ (λ (a b : Bool). a && not b) m k) (not_true _ e))
    by false false k m = ap (λ (d : Bool). if d then s else moved from to s) k ∙ ap (λ (d : Bool). if d then to ++ drop (length from) s else s) m

inside_leaves : (from to : List ℕ) → Leaves from (moving_inside from to)
inside_leaves from to = record {
  variable = moved_outside from to;
  procedure = moved_outside from to;
  name = moved_outside from to;
  cell = moved_outside from to;
  port = moved_outside from to;
  space_name = space_stays from to;
}

-- the two renamings do the same with what does not name the child
value_alike : (from to : List ℕ) (v : Value) → not (holds_of (list_eq from) (space_in v)) ≡ true → renamed_value (moving_inside from to) v ≡ renamed_value (moving from to) v
value_alike from to (value.Constant c) e = refl
value_alike from to (value.Name n) e = refl
value_alike from to (value.Record w) e = refl
value_alike from to (value.Procedure p) e = refl
value_alike from to (value.Builtin b) e = refl
value_alike from to (value.Cell c) e = refl
value_alike from to (value.Port p) e = refl
value_alike from to (value.Space s) e = ap (λ (d : Bool). value.Space (if d then s else moved from to s)) (not_true _ e)

tells_alike : (from to : List ℕ) (ts : List Tell) → list_all (tell_of_other from) ts ≡ true → map (renamed_tell (moving_inside from to)) ts ≡ map (renamed_tell (moving from to)) ts
tells_alike from to [] e = refl
tells_alike from to (t ∷ ts) e = ap₂ (λ (u : Tell) (us : List Tell). u ∷ us) (by t (and-left _ _ e)) (tells_alike from to ts (and-right (tell_of_other from t) _ e))
  where
    by : (u : Tell) → tell_of_other from u ≡ true → renamed_tell (moving_inside from to) u ≡ renamed_tell (moving from to) u
    by (Equal x y) k = refl
    by (Within x is) k = refl
    by (Is x v) k = ap (λ (w : Value). Is (record x { space = moved from to x.space }) w) (value_alike from to v k)

pub copy_named : CopyNamed
copy_named parent child space layers has t inside above within =
    let new = copy_name layers parent in
    copy_renamed parent child space layers (moving_inside child new) has t inside (tells_stay child (moving_inside child new) (inside_leaves child new) (view layers parent) above)
    (tells_alike child new (view_from layers child space) within)

-- Merging

into_outside : (s p : Layer) (name : List ℕ) → not (is_properly_below s.space name) ≡ true → space_into s p name ≡ name
into_outside s p name e = ap (λ (b : Bool). if b then raised_child p.space (p.next.child - 1) (drop (length s.space) name) else name) (not_true _ e)

ident_outside : (s p : Layer) (n : ℕ) (x : Ident) → is_outside s.space x ≡ true → ident_into s p n x ≡ x
ident_outside s p n x e =
    ap (λ (b : Bool). if b then named p.space (x.number + n) else record x { space = space_into s p x.space }) other
    ∙ ap (λ v. record x { space = v }) (into_outside s p x.space (ap (λ (b : Bool). not (b && not (list_eq s.space x.space))) (not_true _ e)))
  where
    other : list_eq x.space s.space ≡ false
    other = elim (decide (list_eq x.space s.space)) [
      | inl k ↦ absurd (not_both _ (subst (λ v. is_below s.space v ≡ true) (sym (equal_names x.space s.space k)) (below_itself s.space)) (not_true _ e))
      | inr k ↦ k
    ]

merging_leaves : (s p : Layer) → Leaves s.space (merging s p)
merging_leaves s p = record {
  variable = ident_outside s p p.next.variable;
  procedure = ident_outside s p (p.next.procedure - 1);
  name = ident_outside s p (p.next.name - 1);
  cell = ident_outside s p (length p.cells);
  port = ident_outside s p (length p.ports);
  space_name = into_outside s p;
}

pub merge_named : MergeNamed
merge_named parent child space x layers has t there inside above =
    let s = layer_of layers child in
    let r = merging_in layers parent child in
    let child_name : s.space ≡ child = space_of layers child s (there_of (layer_at layers child) child has.child_there) in
    merge_renamed parent child space x layers r has t there inside
    (tells_stay s.space r (merging_leaves s (layer_of layers parent)) (view layers parent) (subst (λ c. list_all (tell_outside c) (view layers parent) ≡ true) (sym child_name) above)) refl
