-- The two parts that are told stand for what is split among all elements.
use Rattle.std.proofs.Common.{◌≡◌, ℕ, ◌<◌, false, List, [], map, filter, Some, refl, sym, ap, subst, ◌∙◌, length, get_or, slice_get}
use Rattle.std.proofs.lemmas.List.{get_or_default, length-map}
use Rattle.std.proofs.lemmas.Option.{slice_get_read}
use Rattle.std.specs.List.{list_any}
use Rattle.std.specs.FinSet as set
use Rattle.oz_base.specs.declared.names.Ident.{Ident}
use Rattle.oz_base.specs.declared.distribution.Rule.{Rule}
use Rattle.oz_base.specs.declared.distribution.Rule.TheVariants.{Naive, FirstFail, Split as Halve}
use Rattle.oz_base.specs.declared.distribution.Split.{Split}
use Rattle.oz_domains.specs.Domains.{IntSet, intervals_of}
use Rattle.oz_domains.specs.Positions.{domain}
use Rattle.oz_domains.specs.Splits.{split_of, first_part, second_part, IsTaken}
use Rattle.oz_semantics.specs.Store.{View}
use Rattle.oz_semantics.specs.Propagation.{domain_in}
use Rattle.oz_semantics.specs.Distributors.{Splits, is_foreign, is_bare, undetermined, splits}
use Rattle.oz_semantics.specs.declared.value.Tell.{Tell}
use Rattle.oz_semantics.specs.declared.value.Tell.TheVariants.{Within}
use Rattle.fd_inputs.proofs.PlaceLaws.{all_in_domain, some_split}

-- the place that is taken is one of these
pub taken_inside : (rule : Rule) (ds : List IntSet) (i : ℕ) → IsTaken rule ds i → i < length ds
taken_inside Naive ds i t = t.inside
taken_inside FirstFail ds i t = t.inside
taken_inside Halve ds i t = t.inside

-- there are as many elements as domains
pub wait_inside : (view : View) (waits : List Ident) (ds : List IntSet) (i : ℕ) → ds ≡ map (domain_in view) waits → i < length ds → i < length waits
wait_inside view waits ds i e h = subst (λ n. i < n) (ap length e ∙ length-map waits (domain_in view)) h

pub domain_read : (ds : List IntSet) (i : ℕ) (d : IntSet) → i < length ds → d ≡ get_or ds i d → d ≡ domain ds i
domain_read ds i d h e = e ∙ get_or_default ds i d set.empty h

pub told_parts : (view : View) (rule : Rule) (xs waits : List Ident) (ds : List IntSet) (s : Split) (x : Ident) (d one two : IntSet) (first second : Tell)
    → list_any (is_foreign view) xs ≡ false → filter (is_bare view) xs ≡ [] → waits ≡ undetermined view xs → ds ≡ map (domain_in view) waits → Some s ≡ split_of rule ds → s.var < length ds
    → x ≡ get_or waits s.var x → d ≡ get_or ds s.var d → one ≡ first_part s.test d → two ≡ second_part s.test d → first ≡ Within x (intervals_of one) → second ≡ Within x (intervals_of two)
    → Splits first second waits ≡ splits view rule xs
told_parts view rule xs waits ds s x d one two first second f b w e p inside at_x at_d is_one is_two is_first is_second =
    let dd : d ≡ domain ds s.var = domain_read ds s.var d inside at_d in
    let at : slice_get waits s.var ≡ Some x = slice_get_read waits (length waits) s.var x refl (wait_inside view waits ds s.var e inside) at_x in
    ap (λ t. Splits t second waits) (is_first ∙ ap (λ q. Within x (intervals_of q)) (is_one ∙ ap (first_part s.test) dd))
    ∙ ap (λ t. Splits (Within x (intervals_of (first_part s.test (domain ds s.var)))) t waits) (is_second ∙ ap (λ q. Within x (intervals_of q)) (is_two ∙ ap (second_part s.test) dd))
    ∙ sym (some_split view rule xs waits ds s x (all_in_domain view xs f b) w e p at)
