use Rattle.fs_lead.proofs.LeadLemmas.{read_lead}
use Rattle.fs_lead.proofs.lead.Lead.of.Goals as goal

pub returns-in_ok-lead_of-in-Ok : goal.returns-in_ok-lead_of-in-Ok
returns-in_ok-lead_of-in-Ok c =
    read_lead _ _ _ _ (rw c.default.ensures at c.in-Ok.ensures.ok) c.in_ok-lead_of-in-Ok.ensures
