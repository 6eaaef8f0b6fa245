-- Where it is not noted of a space that it was told of one, and nothing waits to be needed.
use Rattle.std.proofs.Common.{◌≡◌, inl, inr, Bool, true, false, not, List, [], ◌∷◌, refl, sym, ap, ◌∙◌}
use Rattle.std.specs.List.{list_any, list_all}
use Rattle.std.proofs.lemmas.Bool.{false≢true}
use Rattle.oz_base.specs.Lists.{is_empty}
use Rattle.oz_laws.proofs.SameLaws.{In-from_contains, contains-from_In, and-left, and-right}
use Rattle.need_laws.specs.Needs.{has_triggers}
use Rattle.view_laws.specs.Spaceless.{knows_space, has_spaces}
use Rattle.view_laws.proofs.ListLaws.{in_map}
use Rattle.view_laws.proofs.Members.{decide, not_both, some_of}
use Rattle.view_laws.proofs.SpacelessLaws.{or_false}
use Rattle.space_core.specs.Plain.{is_plain}
use Rattle.space_core.specs.Shown.{shown, shown_all, IsSound}
use Rattle.space_core.specs.declared.level.Level.{Level}
use Rattle.space_core.proofs.TellLaws.{none_of}

not_false : (b : Bool) → not b ≡ true → b ≡ false
not_false false e = refl
not_false true e = absurd (false≢true e)

pub none_known : (levels : List Level) → IsSound levels → list_any (λ (l : Level). l.knows_space) levels ≡ false → has_spaces (shown_all levels) ≡ false
none_known levels s e = elim (decide (has_spaces (shown_all levels))) [
  | inl b ↦ (let r = some_of knows_space (shown_all levels) b in
      let m = in_map shown levels r.0 (In-from_contains (shown_all levels) r.0 r.1) in
      let c = contains-from_In levels m.0 m.1 in
      absurd (not_both _ r.2 (ap knows_space (sym m.2) ∙ (s.fits m.0 c).known (none_of (λ (l : Level). l.knows_space) levels e m.0 c))))
  | inr b ↦ b
]

pub plain_known : (levels : List Level) → list_all is_plain levels ≡ true → list_any (λ (l : Level). l.knows_space) levels ≡ false
plain_known [] e = refl
plain_known (l ∷ ls) e = or_false l.knows_space _ (not_false _ (and-right (is_empty l.triggers) _ (and-left _ _ e))) (plain_known ls (and-right (is_plain l) _ e))

pub plain_waits : (levels : List Level) → list_all is_plain levels ≡ true → has_triggers (shown_all levels) ≡ false
plain_waits [] e = refl
plain_waits (l ∷ ls) e = or_false _ _ (ap not (and-left (is_empty l.triggers) _ (and-left _ _ e))) (plain_waits ls (and-right (is_plain l) _ e))
