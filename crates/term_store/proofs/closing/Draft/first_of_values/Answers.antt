use Rattle.std.proofs.Common.{ℕ, ◌∙◌, ◌++◌, Some, sym, ap, ap₂}
use Rattle.std.specs.Prelude.{option_copied}
use Rattle.std.specs.List.{zip}
use Rattle.term_store.proofs.closing.Draft.first_of_values.Goals as goal

pub returns-in_ok-push_zipped-in-Some-Some-clause-first : goal.returns-in_ok-push_zipped-in-Some-Some-clause-first
returns-in_ok-push_zipped-in-Some-Some-clause-first c = (
  ap (λ (k : ℕ). Some k) c.min.ensures,
  record {
    left = c.in-Some-Some.value.now;
    right = c.in-Some-Some.another.now;
    at_left = sym c.value.ensures ∙ ap (λ o. option_copied o) c.in-Some-Some.is-0;
    at_right = sym c.value-2.ensures ∙ ap (λ o. option_copied o) c.in-Some-Some.is-1;
    like = sym c.is_like.ensures ∙ c.if-not-is_like.false;
    more = c.in_ok-push_zipped-in-Some-Some.ensures ∙ ap₂ (λ xs ys. c.args.self.now.pending.items ++ zip xs ys) c.fields_of.ensures c.fields_of-in-Some-Some.ensures;
  },
)
