-- A space is told more while those below it still see what they saw, and then the tree below it is edited.
use Rattle.std.proofs.Common.{◌≡◌, ◌⊎◌, inl, inr, ℕ, ◌<◌, true, false, List, [], ◌∷◌, ◌++◌, flat_map, map, drop, length, slice_set, slice_index_or, refl, sym, ap, subst, ◌∙◌, Contains}
use Rattle.std.specs.List.{list_any, list_all}
use Rattle.std.proofs.lemmas.List.{get_or-set_same}
use Rattle.oz_semantics.specs.Names.{is_properly_below}
use Rattle.oz_semantics.specs.Store.{named_by, is_consistent}
use Rattle.oz_semantics.specs.Configurations.{is_of, view, in_layer, telling}
use Rattle.oz_semantics.specs.Renamings.{Renaming, renamed_tell}
use Rattle.oz_semantics.specs.declared.value.Tell.{Tell}
use Rattle.oz_semantics.specs.declared.value.Tell.TheVariants.{Equal, Is, Within}
use Rattle.oz_semantics.specs.declared.value.Value.TheVariants as value
use Rattle.oz_semantics.specs.declared.configuration.Layer.{Layer}
use Rattle.view_laws.specs.Trees.{IsTree}
use Rattle.view_laws.specs.Spaceless.{gives_space}
use Rattle.view_laws.proofs.Members.{not_both}
use Rattle.view_laws.proofs.SightLaws.{space_of}
use Rattle.space_core.specs.Anew.{IsLoose, ToldAlone, ClashesAlone}
use Rattle.space_core.specs.Places.{IsFirst}
use Rattle.space_core.specs.Renamed.{IsRenamed}
use Rattle.space_core.specs.Shown.{shown, shown_all, seen_above, is_home, IsBare, Fits, IsSound, IsQuiet}
use Rattle.space_core.specs.declared.level.Level.{Level}
use Rattle.space_core.proofs.AdvanceLaws.{KeepsName, Reached, quiet_step}
use Rattle.space_core.proofs.AnswerLaws.{PlaceIn}
use Rattle.space_core.proofs.FateLaws.{under_inner, not_under_itself}
use Rattle.space_core.proofs.MemberLaws.{elsewhere_in, set_member}
use Rattle.space_core.proofs.SoundLaws.{KeepsHomes, all_home, drop_nothing, fits_after, read_shown, place_within, place_member}
use Rattle.space_core.proofs.TellLaws.{after_tree, after_homes, fits_apart, own_shows, shows_more, tell_fits}

-- What the space at a place sees
module _ (levels : List Level) (space : List ℕ) (place : ℕ) (s : IsSound levels) (h : PlaceIn levels space place) (change : Layer → Layer) where
  name_at : (l : Level) → l ≡ slice_index_or levels place l → l.space ≡ space
  name_at l e = ap (λ (k : Layer). k.space) (read_shown levels space place h.0 h.1 l e) ∙ space_of (shown_all levels) space h.0 h.1.found

  pub sees_changed : (l m : Level) → l ≡ slice_index_or levels place l → IsQuiet change l m → m.bare ≡ false → view (shown_all levels) space ≡ m.constraints.store
  sees_changed l m e q b = sym (q.store ∙ (s.fits l (place_member levels space place h.0 h.1 l e)).seen (sym q.bare ∙ b) ∙ ap (view (shown_all levels)) (name_at l e))

  pub clash_alone : (ts : List Tell) → ClashesAlone change place ts levels → is_consistent (view (shown_all levels) space ++ ts) ≡ false
  clash_alone ts c = ap (λ (us : List Tell). is_consistent (us ++ ts)) (sees_changed c.before c.changed c.read c.quiet c.kept) ∙ c.clash

  module _ (keeps : KeepsName change) (ts : List Tell) (news : List Level) (t : ToldAlone change place ts levels news) where
    pub alone_consistent : is_consistent (view (shown_all levels) space ++ ts) ≡ true
    alone_consistent = ap (λ (us : List Tell). is_consistent (us ++ ts)) (sees_changed t.before t.changed t.read t.quiet t.tells.kept) ∙ t.tells.consistent

    abbrev gave : List Level
    gave = slice_set levels place t.changed

    step : Reached levels gave space place change
    step = quiet_step levels space place s h t.before t.changed t.read change keeps t.quiet

    abbrev x : Layer
    x = step.here.0

    first : IsFirst (is_of space) (shown_all gave) place x
    first = step.here.1

    read_gave : t.changed ≡ slice_index_or gave place t.changed
    read_gave = sym (get_or-set_same levels place t.changed t.changed (place_within levels space place h.0 h.1))

    homes : t.home ≡ true → list_all (λ u. list_all (is_home (shown_all gave) space) (named_by u)) ts ≡ true
    homes k = subst (λ (p : List ℕ). list_all (λ u. list_all (is_home (shown_all gave) p) (named_by u)) ts ≡ true) (t.quiet.space ∙ name_at t.before t.read) (sym t.homes ∙ k)

    sound : IsSound gave
    sound = step.edited.sound

    shows_told : shown t.told ≡ telling ts (shown t.changed)
    shows_told = shows_more gave space place x first t.changed t.told read_gave ts t.home t.tells homes sound

    abbrev told_levels : List Level
    told_levels = slice_set gave place t.told

    abbrev after : List Layer
    after = in_layer space (telling ts) (shown_all gave)

    told_shows : shown_all told_levels ≡ after
    told_shows = own_shows gave space place x first t.changed t.told read_gave (telling ts) shows_told t.tells.space t.tells.numbers sound

    within : place < length gave
    within = place_within gave space place x first

    told_name : t.told.space ≡ space
    told_name = t.tells.space ∙ t.quiet.space ∙ name_at t.before t.read

    not_under : (n : Level) → n ≡ t.told → is_properly_below space n.space ≡ true → ⊥
    not_under n k u = not_both _ u (subst (λ (j : Level). is_properly_below space j.space ≡ false) (sym k) (subst (λ (p : List ℕ). is_properly_below space p ≡ false) (sym told_name) (not_under_itself space)))

    loose_set : IsLoose space told_levels
    loose_set = record {
      tree = subst IsTree (sym told_shows) (after_tree gave space place x first t.changed t.told read_gave (telling ts) shows_told t.tells.space t.tells.numbers sound);
      fits = λ n c a. subst (λ (ls : List Layer). Fits ls n) (sym told_shows) (elim (set_member gave place t.told n within c) [
        | inl k ↦ subst (Fits after) (sym k) (tell_fits gave space place x first t.changed t.told read_gave ts t.home t.tells homes sound)
        | inr k ↦ fits_apart gave space place x first t.changed t.told read_gave (telling ts) shows_told t.tells.space t.tells.numbers sound n k a
      ]);
      home = λ n c r u. subst (λ (ls : List Layer). list_all (is_home ls n.space) (flat_map named_by (shown n).tells) ≡ true) (sym told_shows) (elim (set_member gave place t.told n within c) [
        | inl k ↦ absurd (not_under n k u)
        | inr k ↦ all_home (shown_all gave) after n.space (flat_map named_by (shown n).tells)
            (after_homes gave space place x first t.changed t.told read_gave (telling ts) shows_told t.tells.space t.tells.numbers sound n.space) ((sound.fits n (elsewhere_in gave place n k)).home r)
      ]);
      known = λ n c r u. elim (set_member gave place t.told n within c) [
        | inl k ↦ absurd (not_under n k u)
        | inr k ↦ (sound.fits n (elsewhere_in gave place n k)).known r
      ];
      bare = λ n c b u. elim (set_member gave place t.told n within c) [
        | inl k ↦ absurd (not_under n k u)
        | inr k ↦ (sound.fits n (elsewhere_in gave place n k)).bare b
      ];
    }

    pub alone_loose : IsLoose space news
    alone_loose = subst (IsLoose space) (sym t.left) loose_set

    pub alone_shows : shown_all news ≡ in_layer space (telling ts) (in_layer space change (shown_all levels))
    alone_shows = ap shown_all t.left ∙ told_shows ∙ ap (in_layer space (telling ts)) step.edited.shows

-- An edit of the tree below a space

-- a space that was there before and sees what it saw, if it is not below
pub record Stays (space : List ℕ) (olds : List Level) (after : List Layer) (n : Level) : Type 0 where
  pub among : Contains olds n
  pub homes : KeepsHomes (shown_all olds) after n.space
  pub seen : is_properly_below space n.space ≡ false → view after n.space ≡ view (shown_all olds) n.space
  pub above : is_properly_below space n.space ≡ false → seen_above after n.space ≡ seen_above (shown_all olds) n.space

-- a new one below it
pub record IsNewBelow (space : List ℕ) (n : Level) : Type 0 where
  pub under : is_properly_below space n.space ≡ true
  pub home : n.traced ≡ true → (shown n).tells ≡ []
  pub known : n.knows_space ≡ false → list_any gives_space (shown n).tells ≡ false
  pub bare : n.bare ≡ true → IsBare n

module _ (space : List ℕ) (olds news : List Level) (after : List Layer) (loose : IsLoose space olds) (shows : shown_all news ≡ after) (tree : IsTree after)
    (each : (n : Level) → Contains news n → Stays space olds after n ⊎ IsNewBelow space n) where
  pub graft_loose : IsLoose space news
  graft_loose = record {
    tree = subst IsTree (sym shows) tree;
    fits = λ n c a. subst (λ (ls : List Layer). Fits ls n) (sym shows) (elim (each n c) [
      | inl k ↦ fits_after (shown_all olds) after n (k.seen a) (k.above a) k.homes (loose.fits n k.among a)
      | inr k ↦ absurd (not_both _ k.under a)
    ]);
    home = λ n c t u. subst (λ (ls : List Layer). list_all (is_home ls n.space) (flat_map named_by (shown n).tells) ≡ true) (sym shows) (elim (each n c) [
      | inl k ↦ all_home (shown_all olds) after n.space (flat_map named_by (shown n).tells) k.homes (loose.home n k.among t u)
      | inr k ↦ ap (λ (ts : List Tell). list_all (is_home after n.space) (flat_map named_by ts)) (k.home t)
    ]);
    known = λ n c t u. elim (each n c) [
      | inl k ↦ loose.known n k.among t u
      | inr k ↦ k.known t
    ];
    bare = λ n c b u. elim (each n c) [
      | inl k ↦ loose.bare n k.among b u
      | inr k ↦ k.bare b
    ];
  }

-- a space that has another name, below this one
pub renamed_bare : (r : Renaming) (space : List ℕ) (old new : Level) → IsRenamed r old new → (old.bare ≡ true → IsBare old) → is_properly_below space new.space ≡ true → new.bare ≡ true → IsBare new
renamed_bare r space old new n bare under b =
    let k = bare (sym n.bare ∙ b) in
    record {
      inner = under_inner space new.space under;
      store = n.store ∙ ap (λ (l : Layer). l.tells) n.shows ∙ ap (map (renamed_tell r)) (ap (drop old.told_from) k.store ∙ drop_nothing old.told_from);
      touched = n.touched;
    }

-- Other names leave it whether a variable is told to be a space
gives_renamed : (r : Renaming) (t : Tell) → gives_space (renamed_tell r t) ≡ gives_space t
gives_renamed r (Equal x y) = refl
gives_renamed r (Within x is) = refl
gives_renamed r (Is x (value.Constant c)) = refl
gives_renamed r (Is x (value.Name n)) = refl
gives_renamed r (Is x (value.Record w)) = refl
gives_renamed r (Is x (value.Procedure p)) = refl
gives_renamed r (Is x (value.Builtin b)) = refl
gives_renamed r (Is x (value.Cell d)) = refl
gives_renamed r (Is x (value.Port p)) = refl
gives_renamed r (Is x (value.Space s)) = refl

any_renamed : (r : Renaming) (ts : List Tell) → list_any gives_space (map (renamed_tell r) ts) ≡ list_any gives_space ts
any_renamed r [] = refl
any_renamed r (t ∷ ts) = rw (gives_renamed r t, any_renamed r ts) refl

pub renamed_known : (r : Renaming) (old new : Level) → IsRenamed r old new → (old.knows_space ≡ false → list_any gives_space (shown old).tells ≡ false) → new.knows_space ≡ false
    → list_any gives_space (shown new).tells ≡ false
renamed_known r old new n known k = ap (λ (l : Layer). list_any gives_space l.tells) n.shows ∙ any_renamed r (shown old).tells ∙ known (sym n.knows ∙ k)
