use Rattle.std.proofs.Common.{List, Contains, refl, sym, subst, ◌∙◌}
use Rattle.oz_base.specs.declared.names.Ident.{Ident}
use Rattle.view_laws.specs.Readies.{SameClasses}
use Rattle.oz_sleep.proofs.LaidLaws.{all_free}
use Rattle.oz_sleep.proofs.sleeping.Sleeping.put.Goals as goal

pub returns-in-Ok : goal.returns-in-Ok
returns-in-Ok c = λ r ready known made.
    let view = c.args.store.now in
    let w = c.in-Some.ensures view r ready in
    record {
      space = refl;
      variables = w.0;
      names = c.as_slice-2.result.now;
      waits = w.1;
      same = subst (λ (xs : List Ident). SameClasses view xs w.0) (sym c.as_slice-2.ensures) w.2;
      free = λ x h. all_free view c.as_slice.result.now (sym c.if-not-are_undetermined.ensures) x
          (subst (λ (xs : List Ident). Contains xs x) (c.as_slice-2.ensures ∙ sym c.as_slice.ensures) h);
      falls = c.in-Ok.ensures;
    }
