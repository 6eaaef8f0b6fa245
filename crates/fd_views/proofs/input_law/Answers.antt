use Rattle.fd_views.proofs.ValueLaws.{value_more, value_is}
use Rattle.fd_views.proofs.InputLaws.{one_bound, two_bounds, rule_known, record_vector, literal_vector, list_vector}
use Rattle.fd_views.proofs.input_law.Goals as goal

pub returns : goal.returns
returns c = record {
  value = record { kept = value_more; known = value_is };
  bounds = record { one = λ view xs d i p. one_bound view xs p d i; two = λ view xs d a b low high p. two_bounds view xs p d a b low high };
  vector = record { fields = λ view xs x r p. record_vector view xs p x r; none = λ view xs x l p. literal_vector view xs p x l; elements = λ view xs x ys p. list_vector view xs p x ys };
  rule = λ view xs x r p. rule_known view xs p x r;
}
