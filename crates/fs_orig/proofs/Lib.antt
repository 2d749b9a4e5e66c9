pub mod Positions
pub mod Picks
pub mod VerdictLemmas
pub mod EndpointLemmas
pub mod LegLemmas
