use Rattle.fd_views.proofs.SameLaws.{unnamed_free}
use Rattle.fd_views.proofs.StandLaws.{free_domains, free_value, free_equation, valued_stands, equated_stands, next_stands}
use Rattle.fd_views.proofs.TellLaws.{stands_consistent}
use Rattle.fd_views.proofs.DeterminedLaws.{value_at, decided_at}
use Rattle.fd_views.proofs.view_law.Goals as goal

pub returns : goal.returns
returns c = record {
  consistent = stands_consistent;
  free = record { unnamed = unnamed_free; domains = free_domains; value = free_value; equation = free_equation };
  stays = record { value = valued_stands; equation = equated_stands; variable = next_stands };
  determined = record { value = λ view xs s x h l. value_at view xs s h x l; undecided = λ view xs s r is last h a. decided_at view xs s h is a };
}
