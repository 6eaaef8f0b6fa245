-- Tells and ends of the space that was looked up.
use Rattle.std.proofs.Common.{◌≡◌, inl, inr, ℕ, zero, suc, ◌<◌, ◌+◌, length, slice_get, arith, Option, unwrap_or, Bool, true, false, not, List, [], ◌∷◌, ◌++◌, filter, slice_set, slice_index_or, refl, sym, ap, ap₂, subst, ◌∙◌, Result, Ok, Err, Some, None, Contains}
use Rattle.std.specs.Prelude.{OnErr, IfOk, insert, position}
use Rattle.std.specs.List.{list_all, find}
use Rattle.oz_base.specs.Lists.{list_eq}
use Rattle.oz_base.specs.declared.names.Ident.{Ident}
use Rattle.std.proofs.lemmas.List.{length-map}
use Rattle.oz_semantics.specs.Names.{is_properly_below, space_lt, parent_of}
use Rattle.oz_semantics.specs.Edits.{created}
use Rattle.oz_semantics.specs.Propagation.{is_due}
use Rattle.oz_semantics.specs.Spaces.{alike_on, is_held}
use Rattle.oz_semantics.specs.Store.{named_by, is_consistent}
use Rattle.oz_semantics.specs.Configurations.{is_of, in_layer, view, ancestor_variables, telling, ending, raised_by, failed, next_child, layer_of, new_layer, counting_child}
use Rattle.oz_semantics.specs.declared.value.Tell.{Tell}
use Rattle.oz_semantics.specs.declared.configuration.Layer.{Layer}
use Rattle.settle_laws.specs.Settles.{Settles}
use Rattle.view_laws.proofs.Members.{has-cases}
use Rattle.view_laws.proofs.SightLaws.{space_of}
use Rattle.oz_laws.proofs.SameLaws.{In, In-from_contains}
use Rattle.space_core.specs.Ending.{fallen, IsChild, IsAdded}
use Rattle.space_core.specs.Levels.{IsToldTo}
use Rattle.space_core.specs.Places.{IsFirst, IsAbsent}
use Rattle.space_core.specs.Shown.{shown, shown_all, is_home, IsSound, IsQuiet}
use Rattle.space_core.specs.Telling.{ToldThrough, IsToldThrough, has_below}
use Rattle.space_core.specs.declared.level.Level.{Level}
use Rattle.space_core.proofs.AdvanceLaws.{clash_shows}
use Rattle.space_core.proofs.AnswerLaws.{PlaceIn, quiet_sound, quiet_shows}
use Rattle.space_core.proofs.CreateLaws.{find_put, not_own_child, create_sound, create_shows}
use Rattle.space_core.proofs.EndLaws.{is_left, left_sound, left_shown, none_left, fail_edit}
use Rattle.space_core.proofs.MemberLaws.{insert_member, map_insert}
use Rattle.space_core.proofs.RemakeLaws.{Told, told_all}
use Rattle.space_core.proofs.SoundLaws.{Edited, read_shown, place_member}

-- Telling

module _ (levels : List Level) (value : List Layer) (viewed : shown_all levels ≡ value) (s : IsSound levels) (space : List ℕ) (place : ℕ) (h : PlaceIn levels space place) (ts : List Tell) (home : Bool)
    (homes : home ≡ list_all (λ t. list_all (is_home (shown_all levels) space) (named_by t)) ts) (news : List Level) where
  told : (t : ToldThrough place home ts levels news) → Told levels news space place ts t.told
  told t = told_all levels space place h.0 h.1 t.before t.told t.read ts home t.tells (λ q. sym homes ∙ q) s news t.left

  pub told_sound : {E : Type 0} (r : Result Bool E) → IfOk r (IsToldThrough place home ts levels news) → OnErr r (news ≡ levels) → IsSound news
  told_sound (Ok true) t f = (told t).sound
  told_sound (Ok false) t f = subst IsSound (sym t.left) s
  told_sound (Err b) t f = subst IsSound (sym f) s

  sees_told : (t : ToldThrough place home ts levels news) → is_consistent (view value space ++ ts) ≡ true
  sees_told t =
      let name : t.before.space ≡ space = ap (λ (k : Layer). k.space) (read_shown levels space place h.0 h.1 t.before t.read) ∙ space_of (shown_all levels) space h.0 h.1.found in
      let own : view value space ≡ t.before.constraints.store =
      ap (λ (ls : List Layer). view ls space) (sym viewed) ∙ sym ((s.fits t.before (place_member levels space place h.0 h.1 t.before t.read)).seen t.tells.kept ∙ ap (view (shown_all levels)) name) in
      ap (λ (us : List Tell). is_consistent (us ++ ts)) own ∙ t.tells.consistent

  settled : (t : ToldThrough place home ts levels news) → Settles space (in_layer space (telling ts) value) (shown_all news)
  settled t = subst (λ (ls : List Layer). Settles space (in_layer space (telling ts) ls) (shown_all news)) viewed (told t).settles

  pub told_shows : {E : Type 0} (r : Result Bool E) → IfOk r (IsToldThrough place home ts levels news) → IfOk r (IsToldTo space ts value (shown_all news))
  told_shows (Ok true) t = record { left = (settled t).left; consistent = sees_told t; below = (settled t).below }
  told_shows (Ok false) t = let k = clash_shows levels value viewed s space place h ts news t in (k.1, k.0)
  told_shows (Err b) t = t

pub homes_by : {now levels : List Level} → now ≡ levels → (space : List ℕ) (ts : List Tell) (home : Bool) → home ≡ list_all (λ t. list_all (is_home (shown_all now) space) (named_by t)) ts
    → home ≡ list_all (λ t. list_all (is_home (shown_all levels) space) (named_by t)) ts
homes_by seen space ts home e = subst (λ (ls : List Level). home ≡ list_all (λ t. list_all (is_home (shown_all ls) space) (named_by t)) ts) seen e

-- Ends

module _ (levels news now : List Level) (value : List Layer) (space : List ℕ) (gone : news ≡ filter (λ (l : Level). not (is_properly_below space l.space)) levels) (seen : now ≡ news)
    (viewed : shown_all levels ≡ value) (s : IsSound levels) where
  pub gone_sound : IsSound news
  gone_sound = subst IsSound (sym gone) (left_sound levels space s)

  news_shown : shown_all news ≡ filter (is_left space) value
  news_shown = ap shown_all gone ∙ left_shown levels space s ∙ ap (filter (is_left space)) viewed

  pub gone_shows : (how : Layer → Layer) → IsAbsent (is_of space) (shown_all now) → shown_all news ≡ ending space how value
  gone_shows how a =
      sym ((subst (λ (ls : List Level). IsAbsent (is_of space) (shown_all ls)) seen a).same how)
      ∙ ap (in_layer space how) news_shown

  module _ (place : ℕ) (h : PlaceIn now space place) (l m : Level) (e : l ≡ slice_index_or news place l) where
    pub raise_sound : (x : Ident) → IsQuiet (raised_by x) l m → IsSound (slice_set news place m)
    raise_sound x q = quiet_sound news now (shown_all news) seen refl gone_sound space place h l m e (raised_by x) q

    pub raise_shows : (x : Ident) → IsQuiet (raised_by x) l m → shown_all (slice_set news place m) ≡ ending space (raised_by x) value
    raise_shows x q = quiet_shows news now (shown_all news) seen refl gone_sound space place h l m e (raised_by x) q ∙ ap (in_layer space (raised_by x)) news_shown

    failure : m ≡ fallen l → Edited news (slice_set news place m) space failed
    failure f =
        let found = subst (λ (ls : List Level). PlaceIn ls space place) seen h in
        subst (λ (n : Level). Edited news (slice_set news place n) space failed) (sym f)
        (fail_edit news space place found.0 found.1 l e gone_sound (ap (λ (ls : List Level). has_below (shown_all ls) space) gone ∙ none_left levels space s))

    pub fail_sound : m ≡ fallen l → IsSound (slice_set news place m)
    fail_sound f = (failure f).sound

    pub fail_shows : m ≡ fallen l → shown_all (slice_set news place m) ≡ ending space failed value
    fail_shows f = (failure f).shows ∙ ap (in_layer space failed) news_shown

-- A new space among the others

pub added_last : (levels now news : List Level) (new : Level) → now ≡ levels → IsAbsent (λ (other : Layer). space_lt new.space other.space) (shown_all now) → news ≡ levels ++ new ∷ [] → IsAdded levels news new
added_last levels now news new seen a e =
    let b = subst (λ (ls : List Level). IsAbsent (λ (other : Layer). space_lt new.space other.space) (shown_all ls)) seen a in
    record {
      shows = ap shown_all e ∙ map_end levels ∙ sym (b.put (shown new));
      member = λ n c. elim (has-cases n levels (new ∷ []) (subst (λ (ls : List Level). Contains ls n) e c)) [
        | inl d ↦ inr d
        | inr d ↦ inl (alone n (In-from_contains (new ∷ []) n d))
      ];
    }
  where
    map_end : (ls : List Level) → shown_all (ls ++ new ∷ []) ≡ shown_all ls ++ shown new ∷ []
    map_end [] = refl
    map_end (l ∷ ls) = ap (λ (ks : List Layer). shown l ∷ ks) (map_end ls)

    alone : (n : Level) → In n (new ∷ []) → n ≡ new
    alone n (inl q) = sym q
    alone n (inr q) = elim q [ ]

pub added_before : (levels now news : List Level) (new : Level) (place : ℕ) → now ≡ levels → (x : Layer) × IsFirst (λ (other : Layer). space_lt new.space other.space) (shown_all now) place x
    → news ≡ insert levels place new → IsAdded levels news new
added_before levels now news new place seen h e =
    let f = subst (λ (ls : List Level). (x : Layer) × IsFirst (λ (other : Layer). space_lt new.space other.space) (shown_all ls) place x) seen h in
    record {
      shows = ap shown_all e ∙ map_insert shown levels place new ∙ sym (f.1.put (shown new));
      member = λ n c. insert_member levels place new n (subst (λ (ls : List Level). Contains ls n) e c);
    }

-- the parent stays where it is found
pub parent_stays : (levels : List Level) (parent : List ℕ) (place : ℕ) (x : Layer) → IsFirst (is_of parent) (shown_all levels) place x → (l : Level) → l ≡ slice_index_or levels place l → (procedure : Ident)
    (m : Level) → IsChild (next_child (shown l)) procedure l.constraints.store m → (news : List Level) → IsAdded levels news m → IsAbsent (is_of parent) (shown_all news) → ⊥
parent_stays levels parent place x h l e procedure m child news added a =
    let own : l.space ≡ parent = ap (λ (k : Layer). k.space) (read_shown levels parent place x h l e) ∙ space_of (shown_all levels) parent x h.found in
    let other : is_of parent (shown m) ≡ false = ap (is_of parent) child.shows ∙ subst (λ (p : List ℕ). list_eq (next_child (shown l)) p ≡ false) own (not_own_child l.space l.numbers.child) in
    let b : find (is_of parent) (shown_all news) ≡ Some x = ap (find (is_of parent)) added.shows ∙ find_put (is_of parent) (λ (k : Layer). space_lt (shown m).space k.space) counting_child (shown m) other (λ k. refl) (shown_all levels) ∙ h.found in
    let n : find (is_of parent) (shown_all news) ≡ None = a.none in
    let c : Some x ≡ None = sym b ∙ n in cc

-- What is asked of the space at a place

layer_is : (levels : List Level) (place : ℕ) (k : Layer) → slice_get (shown_all levels) place ≡ Some k → (x : Level) → x ≡ slice_index_or levels place x → shown x ≡ k
layer_is [] place k e x f = cc
layer_is (l ∷ ls) zero k e x f = let same : shown l ≡ k = cc in ap shown f ∙ same
layer_is (l ∷ ls) (suc place) k e x f = layer_is ls place k e x f

pub silent_at : (levels now : List Level) (value : List Layer) → now ≡ levels → shown_all levels ≡ value → IsSound levels → (place : ℕ) → place < length value → (x : Level) → x ≡ slice_index_or levels place x → (r : Bool)
    → (IsSound now → Contains now x → r ≡ alike_on (ancestor_variables (shown_all now) x.space) (view (shown_all now) x.space) (view (shown_all now) (parent_of x.space)))
    → (k : Layer) → slice_get value place ≡ Some k → r ≡ alike_on (ancestor_variables value k.space) (view value k.space) (view value (parent_of k.space))
silent_at levels now value seen viewed s place within x e r f k at =
    let member : Contains levels x = (place, omega (arith, within, ap length viewed, length-map levels shown), sym e) in
    f (subst IsSound (sym seen) s) (subst (λ (ls : List Level). Contains ls x) (sym seen) member)
    ∙ ap₂ (λ (ls : List Layer) (t : List ℕ). alike_on (ancestor_variables ls t) (view ls t) (view ls (parent_of t))) (ap shown_all seen ∙ viewed)
    (ap (λ (j : Layer). j.space) (layer_is levels place k (ap (λ (ls : List Layer). slice_get ls place) viewed ∙ at) x e))

pub held_at : (levels now : List Level) (value : List Layer) → now ≡ levels → shown_all levels ≡ value → IsSound levels → (place : ℕ) → place < length value → (x : Level) → x ≡ slice_index_or levels place x
    → (space : List ℕ) (variable : Ident) (r : Bool) → (IsSound now → Contains now x → r ≡ is_held (view (shown_all now) x.space) (ancestor_variables (shown_all now) space) variable)
    → (k : Layer) → slice_get value place ≡ Some k → r ≡ is_held (view value k.space) (ancestor_variables value space) variable
held_at levels now value seen viewed s place within x e space variable r f k at =
    let member : Contains levels x = (place, omega (arith, within, ap length viewed, length-map levels shown), sym e) in
    f (subst IsSound (sym seen) s) (subst (λ (ls : List Level). Contains ls x) (sym seen) member)
    ∙ ap₂ (λ (ls : List Layer) (t : List ℕ). is_held (view ls t) (ancestor_variables ls space) variable) (ap shown_all seen ∙ viewed)
    (ap (λ (j : Layer). j.space) (layer_is levels place k (ap (λ (ls : List Layer). slice_get ls place) viewed ∙ at) x e))

pub due_at : (levels now : List Level) (value : List Layer) → now ≡ levels → shown_all levels ≡ value → IsSound levels → (place : ℕ) → place < length value → (x : Level) → x ≡ slice_index_or levels place x → (r : Option ℕ)
    → (IsSound now → Contains now x → r ≡ position (is_due (view (shown_all now) x.space)) x.constraints.propagators)
    → (k : Layer) → slice_get value place ≡ Some k → r ≡ position (is_due (view value k.space)) k.propagators
due_at levels now value seen viewed s place within x e r f k at =
    let member : Contains levels x = (place, omega (arith, within, ap length viewed, length-map levels shown), sym e) in
    f (subst IsSound (sym seen) s) (subst (λ (ls : List Level). Contains ls x) (sym seen) member)
    ∙ ap₂ (λ (ls : List Layer) (j : Layer). position (is_due (view ls j.space)) j.propagators) (ap shown_all seen ∙ viewed)
    (layer_is levels place k (ap (λ (ls : List Layer). slice_get ls place) viewed ∙ at) x e)

-- A new space

module _ (levels now : List Level) (value : List Layer) (seen : now ≡ levels) (viewed : shown_all levels ≡ value) (s : IsSound levels) (parent : List ℕ) (place : ℕ) (h : PlaceIn now parent place)
    (l : Level) (e : l ≡ slice_index_or levels place l) (procedure : Ident) (m : Level) (child : IsChild (next_child (shown l)) procedure l.constraints.store m) (kept : l.bare ≡ false) (news now2 : List Level) (added : IsAdded levels news m)
    (seen2 : now2 ≡ news) where
  at_parent : PlaceIn levels parent place
  at_parent = subst (λ (ls : List Level). PlaceIn ls parent place) seen h

  pub created_absent : IsAbsent (is_of parent) (shown_all now2) → ⊥
  created_absent a =
      parent_stays levels parent place at_parent.0 at_parent.1 l e procedure m child news added (subst (λ (ls : List Level). IsAbsent (is_of parent) (shown_all ls)) seen2 a)

  pub created_name : m.space ≡ next_child (layer_of value parent)
  created_name =
      ap (λ (k : Layer). k.space) child.shows
      ∙ ap next_child (read_shown levels parent place at_parent.0 at_parent.1 l e)
      ∙ sym (ap (λ (ls : List Layer). next_child (layer_of ls parent)) (sym viewed) ∙ ap (λ (o : Option Layer). next_child (unwrap_or o (new_layer parent))) at_parent.1.found)

  module _ (place2 : ℕ) (h2 : PlaceIn now2 parent place2) (l2 : Level) (e2 : l2 ≡ slice_index_or news place2 l2) (count : ℕ) (counts : count ≡ l.numbers.child + 1) where
    again : PlaceIn news parent place2
    again = subst (λ (ls : List Level). PlaceIn ls parent place2) seen2 h2

    pub created_sound : IsSound (slice_set news place2 (record l2 { numbers = record l2.numbers { child = count } }))
    created_sound =
        create_sound levels s parent place at_parent.0 at_parent.1 l e procedure m child kept news added place2 again.0 again.1 l2 e2 (record l2 { numbers = record l2.numbers { child = count } }) count counts refl

    pub created_shows : shown_all (slice_set news place2 (record l2 { numbers = record l2.numbers { child = count } })) ≡ created parent procedure value
    created_shows =
        create_shows levels s parent place at_parent.0 at_parent.1 l e procedure m child kept news added place2 again.0 again.1 l2 e2 (record l2 { numbers = record l2.numbers { child = count } }) count counts refl
        ∙ ap (created parent procedure) viewed
