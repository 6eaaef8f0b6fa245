use Rattle.fd_nodes.proofs.ReportLaws.{reports_law}
use Rattle.fd_nodes.proofs.report_law.Goals as goal

pub returns : goal.returns
returns g c = reports_law _ _
