use Rattle.std.proofs.Common.{◌≡◌, ◌∙◌, Some, None, true, false, refl, sym, ap, List, ℕ}
use Rattle.std.proofs.lemmas.Result.{on_ok_weaker}
use Rattle.ident_map.specs.Entries.{entry}
use Rattle.oz_semantics.specs.Store.{same}
use Rattle.watching.specs.Watching.{HasList}
use Rattle.watching.proofs.KeyLaws.{gather_none, gather_united, gather_other}
use Rattle.watching.proofs.keys.Keys.gather_one.Goals as goal

pub returns-in_default : goal.returns-in_default
returns-in_default c =
    let none : entry c.args.self.now.lists c.args.key.now ≡ None = sym c.in_default.ensures in
    λ seen g. gather_none c.args.store.now c.args.root.now c.args.self.now seen c.args.key.now c.args.draft.now c.args.draft.now g none refl

pub returns-then-same : goal.returns-then-same
returns-then-same c =
    let stands : HasList c.args.self.now c.args.key.now c.in-Some.list.now = sym c.in-Some.ensures in
    let equal : same c.args.store.now c.args.key.now c.args.root.now ≡ true = sym c.same.ensures ∙ c.if-same.true in
    on_ok_weaker c.append.result
    (λ e seen g. gather_united c.args.store.now c.args.root.now c.args.self.now seen c.args.key.now c.args.draft.now
    record { others = c.args.draft.now.others; list = c.append.new.list } g c.in-Some.list.now stands equal refl e) c.append.ensures

pub returns : goal.returns
returns c =
    let stands : HasList c.args.self.now c.args.key.now c.in_ok-list.list = sym c.in-Some.ensures ∙ ap (λ (is : List ℕ). Some is) (sym c.in_ok-list.ensures) in
    let apart : same c.args.store.now c.args.key.now c.args.root.now ≡ false = sym c.same.ensures ∙ c.if-same.false in
    on_ok_weaker c.add.result
    (λ a seen g. gather_other c.args.store.now c.args.root.now c.args.self.now seen c.args.key.now c.args.draft.now
    record { others = c.add.new.self; list = c.args.draft.now.list } g c.in_ok-list.list stands apart a refl) c.add.ensures
