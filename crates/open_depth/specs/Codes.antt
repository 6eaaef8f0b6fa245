-- What is open, as numbers, by which proofs tell them apart.
use Rattle.std.specs.Prelude.{ℕ, Bool, List, refl}
use Rattle.std.specs.Coded.{Coded, code_by, coded×, coded_list, coded_ℕ, coded_bool}
use Rattle.oz_language.specs.Refusals.{Open}

-- a construct is told apart by what it counts for and what may stand in it
abbrev pub open_code : Coded Open
open_code = code_by (ℕ × (Bool × (ℕ × Bool))) (coded× coded_ℕ (coded× coded_bool (coded× coded_ℕ coded_bool))) (λ o. (o.weight, (o.counts_boxes, (o.operators, o.may_end)))) (λ p. record { weight = p.0; counts_boxes = p.1.0; operators = p.1.1.0; may_end = p.1.1.1 }) (λ _. refl)

abbrev pub opens_code : Coded (List Open)
opens_code = coded_list open_code
