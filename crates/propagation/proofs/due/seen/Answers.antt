use Rattle.std.proofs.Common.{◌≡◌, ◌++◌, [], ◌∷◌, take, get_or, ◌∙◌, sym, ap, length, ◌<◌, ℕ, List, ◌+◌}
use Rattle.std.proofs.lemmas.List.{take_more, map-append}
use Rattle.oz_base.specs.declared.names.Ident.{Ident}
use Rattle.oz_base.specs.declared.interval.Interval.{Interval}
use Rattle.oz_domains.specs.Domains.{intervals_of}
use Rattle.oz_semantics.specs.Store.{View}
use Rattle.oz_semantics.specs.Propagation.{domain_in, noted}
use Rattle.propagation.proofs.due.seen.Goals as goal

one_more : (view : View) (xs : List Ident) (i : ℕ) (x : Ident) (ds new : List (List Interval)) (d : List Interval) → i < length xs → x ≡ get_or xs i x → ds ≡ noted view (take i xs) → d ≡ intervals_of (domain_in view x) → new ≡ ds ++ d ∷ [] → new ≡ noted view (take (i + 1) xs)
one_more view xs i x ds new d h at was e n =
    n
    ∙ ap (λ l. l ++ d ∷ []) was
    ∙ ap (λ l. noted view (take i xs) ++ l ∷ []) e
    ∙ sym (
    ap (noted view) (take_more xs i x h ∙ ap (λ y. take i xs ++ y ∷ []) (sym at))
    ∙ map-append (λ y. intervals_of (domain_in view y)) (take i xs) (x ∷ [])
    )

pub loop-variable-preserved : goal.loop-variable-preserved
loop-variable-preserved c =
    one_more c.args.store.now c.args.variables.now c.loop-variable.variable-index c.variable-item.result c.loop-variable.domains.items c.push.new.self.items c.in_ok-intervals_in.field-0 c.loop-variable-test.true
    c.variable-item.is c.loop-variable.invariant c.in_ok-intervals_in.ensures c.in_ok-push.ensures.items
