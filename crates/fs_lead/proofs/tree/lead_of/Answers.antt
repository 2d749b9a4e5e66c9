use Rattle.std.proofs.Common.{◌∙◌, sym, ap}
use Rattle.fs_lead.specs.Leads.{whole}
use Rattle.fs_lead.proofs.LeadLemmas.{whole_lead, starts_lead}
use Rattle.fs_lead.proofs.tree.lead_of.Goals as goal

pub returns-in-Some : goal.returns-in-Some
returns-in-Some c =
    whole_lead _ _ (c.in-Some.ensures ∙ sym (ap whole c.in_ok-from_slice.ensures.items))

pub returns-in_ok-few-in-Some-2 : goal.returns-in_ok-few-in-Some-2
returns-in_ok-few-in-Some-2 c =
    λ value ok h. c.in_ok-few-in-Some-2.ensures value
    (starts_lead _ c.in-Some-2.texts (c.is_anchored_start.ensures.anchored c.if-not-is_anchored_start.false)
    (rw c.in-Some-2.is at c.in_ok-texts.ensures.starts) value ok h)
