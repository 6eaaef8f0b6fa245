use Rattle.sleep_laws.proofs.TouchingLaws.{value_touches, equation_touches}
use Rattle.sleep_laws.proofs.touching_law.Goals as goal

pub returns : goal.returns
returns c = record { value = value_touches; equation = equation_touches }
