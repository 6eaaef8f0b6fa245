use Rattle.std.proofs.Common.{sym, ap, ◌∙◌}
use Rattle.std.specs.FinMap as map
use Rattle.std.proofs.lemmas.Result.{on_ok_weaker, on_err_weaker}
use Rattle.ident_map.specs.Entries.{entry}
use Rattle.ident_map.proofs.Rows.{entry_set, set_same, entry_push}
use Rattle.ident_map.proofs.map.insert_in.Goals as goal

pub returns-in-Some-clause-ok : goal.returns-in-Some-clause-ok
returns-in-Some-clause-ok g c =
    on_ok_weaker c.insert.result (λ entries y.
    entry_set c.args.rows.now.items c.in-Some.place c.index_mut.result.now c.insert.new.self c.args.x.now y c.args.value
    (rw c.as_slice.ensures.value at (sym c.row_of.ensures ∙ c.in-Some.is))
    (c.insert.ensures.space ∙ ap (λ row. row.space) c.index_mut.ensures.value)
    (entries ∙ ap (λ row. map.insert row.entries c.args.x.now.number c.args.value) c.index_mut.ensures.value))
    c.insert.ensures.ok

pub returns-in-Some-clause-err : goal.returns-in-Some-clause-err
returns-in-Some-clause-err g c =
    on_err_weaker c.insert.result (λ entries.
    set_same c.args.rows.now.items c.in-Some.place c.index_mut.result.now c.insert.new.self
    (c.insert.ensures.space ∙ ap (λ row. row.space) c.index_mut.ensures.value)
    (entries ∙ ap (λ row. row.entries) c.index_mut.ensures.value))
    c.insert.ensures.err

pub returns-in_ok-push-in-None-clause-ok : goal.returns-in_ok-push-in-None-clause-ok
returns-in_ok-push-in-None-clause-ok g c = λ y.
    ap (λ rows. entry rows y) c.in_ok-push-in-None.ensures.items
    ∙ entry_push c.args.rows.now.items c.in_ok-row-in-None.row c.args.x.now y c.args.value
    (rw c.as_slice.ensures.value at (sym c.row_of.ensures ∙ c.in-None.is))
    c.in_ok-row-in-None.ensures.space c.in_ok-row-in-None.ensures.entries
