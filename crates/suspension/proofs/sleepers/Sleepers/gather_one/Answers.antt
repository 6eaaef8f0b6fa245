use Rattle.std.proofs.Common.{◌++◌, ◌∷◌, [], ◌∙◌, sym, ap}
use Rattle.std.proofs.lemmas.Result.{on_ok_weaker}
use Rattle.oz_base.specs.declared.names.Ident.{Ident}
use Rattle.view_laws.proofs.Members.{not_both}
use Rattle.suspension.specs.Changes.{is_key}
use Rattle.suspension.specs.declared.sleepers.Sleepers.{Sleepers}
use Rattle.suspension.proofs.KeyLaws.{gather_none, gather_key, key_tested, is_key_of, sets}
use Rattle.suspension.proofs.sleepers.Sleepers.gather_one.Goals as goal

pub returns-then-not-is_key : goal.returns-then-not-is_key
returns-then-not-is_key c =
    λ seen g. gather_none c.args.self.now seen c.args.key.now c.args.others.now g
    (λ h. absurd (not_both (is_key c.args.self.now c.args.key.now) (key_tested c.args.self.now c.args.key.now h) (sym c.if-not-is_key.ensures)))

pub returns-then-is_key : goal.returns-then-is_key
returns-then-is_key c =
    λ seen g. gather_none c.args.self.now seen c.args.key.now c.args.others.now g
    (λ h. is_key_of c.args.others.now c.args.key.now (sym c.is_key-2.ensures ∙ c.if-is_key.true))

pub returns : goal.returns
returns c =
    let after : Sleepers = record { variables = c.push.new.self; lists = c.insert.new.self; taken = c.args.others.now.taken } in
    on_ok_weaker c.insert.result
    (λ w seen g. gather_key c.args.self.now seen c.args.key.now c.args.others.now g after c.in_ok-list.list c.in_ok-list.ensures
    (sets c.args.others.now after c.args.key.now c.in_ok-list.list w)
    (c.in_ok-push.ensures.ok ∙ ap (λ (k : Ident). c.args.others.now.variables ++ k ∷ []) c.in_ok-copied.ensures)) c.insert.ensures.ok
