use Rattle.fd_runs.proofs.ToldRuns.{told_runs}
use Rattle.fd_runs.proofs.RunLaws.{confined_domains, confined_told, runs_to}
use Rattle.fd_runs.proofs.OfferLaws.{posted_stands, posted_domains, posted_have}
use Rattle.fd_runs.proofs.DueLaws.{noted_is, ran_notes, not_due, noted_rests}
use Rattle.fd_runs.proofs.run_law.Goals as goal

pub returns : goal.returns
returns c = record {
  confined = record { confines = λ view xs s is i h d a v. (confined_domains view xs is i, confined_told view xs s is i h d a v); runs = told_runs };
  posted = λ view xs s is h d a. record { stays = posted_stands view xs s is h d a; only = posted_domains view xs s is h d a; have = posted_have view xs s is h d a };
  run = runs_to;
  note = λ view xs s r is h a w. record { ran = ran_notes view xs s r is h a w; rests = not_due view xs s r is h a w; noted_is = noted_is view xs s r is h a w; stays = noted_rests view xs s r is h a w };
}
