use Rattle.std.proofs.Common.{◌≡◌, drop}
use Rattle.oz_language.specs.Grammar.{of_list}
use Rattle.oz_syntax.specs.View.{views}
use Rattle.fd_form.specs.Parts.{each, field_name}
use Rattle.fd_form.proofs.EachLaws.{behind}
use Rattle.fd_form.proofs.records.field_names.Given as goal

abbrev pub invariant-fields : goal.invariant-fields
invariant-fields l = each field_name (of_list (views l.fields)) ≡ behind l.names (each field_name (of_list (views (drop l.field-index l.fields))))
