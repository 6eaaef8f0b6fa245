use Rattle.std.proofs.Common.{List, slice_set, slice_index_or, refl, sym, ap, ◌∙◌}
use Rattle.std.proofs.lemmas.List.{drop-set-add, get_or-drop}
use Rattle.oz_semantics.specs.declared.configuration.Thread.{Thread}
use Rattle.space_core.proofs.thread_list.ThreadList.get_mut.Goals as goal

pub returns : goal.returns
returns c =
    let items = c.self.inside.threads.items in
    let gone = c.self.inside.gone in
    let lent = c.index_mut.result.now in (
      (refl, λ w. drop-set-add gone items c.args.place w ∙ ap (λ (ts : List Thread). slice_set ts c.args.place w) c.self.view_is),
      record {
        writes_back = tt;
        value = c.index_mut.ensures.value ∙ sym (get_or-drop gone items c.args.place lent) ∙ ap (λ (ts : List Thread). slice_index_or ts c.args.place lent) c.self.view_is;
      },
    )
