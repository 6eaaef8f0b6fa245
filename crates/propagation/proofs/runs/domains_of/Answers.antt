use Rattle.std.proofs.Common.{◌≡◌, ◌++◌, [], ◌∷◌, take, get_or, ◌∙◌, sym, ap, subst, length, ◌<◌, ℕ, List, ◌+◌, Some}
use Rattle.std.proofs.lemmas.List.{take_more}
use Rattle.oz_base.specs.declared.names.Ident.{Ident}
use Rattle.oz_domains.specs.Domains.{IntSet}
use Rattle.oz_semantics.specs.Store.{View, domain_of}
use Rattle.propagation.specs.Runs.{AreDomainsOf}
use Rattle.propagation.proofs.RunLaws.{are_more}
use Rattle.propagation.proofs.runs.domains_of.Goals as goal

one_more : (view : View) (xs : List Ident) (i : ℕ) (x : Ident) (ds new : List IntSet) (d : IntSet) → i < length xs → x ≡ get_or xs i x → AreDomainsOf view (take i xs) ds → domain_of view x ≡ Some d → new ≡ ds ++ d ∷ [] → AreDomainsOf view (take (i + 1) xs) new
one_more view xs i x ds new d h at was e n =
    subst (λ l. AreDomainsOf view l new) (sym (take_more xs i x h ∙ ap (λ y. take i xs ++ y ∷ []) (sym at)))
    (subst (AreDomainsOf view (take i xs ++ x ∷ [])) (sym n) (are_more view (take i xs) ds x d was e))

pub loop-variable-preserved : goal.loop-variable-preserved
loop-variable-preserved c =
    one_more c.args.store.now c.args.variables.now c.loop-variable.variable-index c.variable-item.result c.loop-variable.domains.items c.push.new.self.items c.in_ok-domain_of.field-0 c.loop-variable-test.true
    c.variable-item.is c.loop-variable.invariant c.in_ok-domain_of.ensures c.in_ok-push.ensures.items
