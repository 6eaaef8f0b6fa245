use Rattle.std.proofs.Common.{◌++◌, ◌∷◌, [], ◌∙◌, refl, sym, ap}
use Rattle.std.proofs.lemmas.Result.{on_ok_weaker}
use Rattle.oz_base.specs.declared.names.Ident.{Ident}
use Rattle.suspension.proofs.KeyLaws.{admits_none, admits_push}
use Rattle.suspension.proofs.sleepers.Sleepers.admit.Goals as goal

pub returns-then-is_key : goal.returns-then-is_key
returns-then-is_key c = admits_none c.args.variable.now c.args.self.now (sym c.is_key.ensures ∙ c.if-is_key.true)

pub returns : goal.returns
returns c =
    on_ok_weaker c.push.result
    (λ e. admits_push c.args.variable.now c.args.self.now record { variables = c.push.new.self; lists = c.args.self.now.lists; taken = c.args.self.now.taken } refl
    (e ∙ ap (λ (k : Ident). c.args.self.now.variables ++ k ∷ []) c.in_ok-copied.ensures)) c.push.ensures.ok
