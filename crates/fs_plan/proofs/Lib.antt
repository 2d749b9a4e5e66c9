mod BuildLemmas
mod GroupLemmas
mod MatchLemmas
mod TextLemmas
