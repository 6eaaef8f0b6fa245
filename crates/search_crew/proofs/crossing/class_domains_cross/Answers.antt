use Rattle.search_crew.proofs.PartLaws.{class_domain_send, class_domain_sync}
use Rattle.search_crew.proofs.crossing.class_domains_cross.Goals as goal

pub returns-clause-send : goal.returns-clause-send
returns-clause-send c = class_domain_send c.domains_cross.ensures.send c.optional_values_cross.ensures.send

pub returns-clause-sync : goal.returns-clause-sync
returns-clause-sync c = class_domain_sync c.domains_cross.ensures.sync c.optional_values_cross.ensures.sync
