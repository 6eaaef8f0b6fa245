use Rattle.fd_runs.proofs.OfferLaws.{offers, widens_first, first_stands, second_stands}
use Rattle.fd_runs.proofs.offer_law.Goals as goal

pub returns : goal.returns
returns c = record {
  offer = λ view xs s d h k a. (offers view xs s d h k a, widens_first view xs s d h k a);
  parts = λ view xs s d p h k a e. record { first = λ m. first_stands view xs s m d p h k a e; second = λ m. second_stands view xs s m d p h k a e };
}
