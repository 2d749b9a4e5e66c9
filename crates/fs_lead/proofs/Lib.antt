mod LeadLemmas
mod SharedLemmas
