use Rattle.machine_search.proofs.VisitLaws.{begins_law, visits_law, stops_law, ends_law}
use Rattle.machine_search.proofs.visits_law.Goals as goal

pub returns : goal.returns
returns c = record { begins = begins_law; visits = visits_law; stops = stops_law; ends = ends_law }
