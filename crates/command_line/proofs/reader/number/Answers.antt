use Rattle.std.proofs.Common.{◌≡◌, ◌∙◌, ap, refl, sym, List, ℕ, Option, Some, None}
use Rattle.std.specs.Prelude.{option_map}
use Rattle.std.specs.Str.Parse.{ExplainsUnsignedError, HasUnsignedDigitsIfOk, ParsesUnsigned, digits_value}
use Rattle.clap.proofs.WalkLemmas.{one_text-rows}
use Rattle.clap.specs.Words.{found_of, one_of, one_text}
use Rattle.command_line.proofs.Numbers.{number_text, one_given, reads_number, text_in, text_is_number}
use Rattle.command_line.proofs.reader.number.Goals as goal

pub returns : goal.returns
returns c verb name given id rows ok = go (text_in given name) refl ∙ number_text name given
  where
    text : one_text (found_of c.args.found.now) c.args.id.now ≡ text_in given name
    text = one_text-rows (found_of c.args.found.now) c.args.id.now ∙ (λ i. one_of (id i) (rows i)) ∙ one_given name given

    go : (o : Option (List ℕ)) → text_in given name ≡ o → c.get_one.result ≡ option_map (digits_value 10) (text_in given name)
    go None e = c.get_one.ensures.none (text ∙ e) ∙ sym (ap (option_map (digits_value 10)) e)
    go (Some t) e = reads_number name t (text_is_number verb name given t ok e) _ c.get_one.result (λ bs r. ParsesUnsigned 64 10 bs r × ExplainsUnsignedError 10 bs r × HasUnsignedDigitsIfOk bs r) (λ x g. g.0) (c.get_one.ensures.value t (text ∙ e))
        ∙ sym (ap (option_map (digits_value 10)) e)
