mod PlayLemmas
mod StepLemmas
mod RoundLemmas
mod SettleLemmas
mod SendLemmas
mod WriteLemmas
mod KeepLemmas
mod HereLemmas
pub mod NoteLemmas
mod LoadLemmas
mod HeldLemmas
mod TurnLemmas
mod EndLemmas
pub mod LawLemmas
mod DrainLemmas
mod CloseLemmas
mod AgreeLemmas
mod CommandLemmas
mod PartLemmas
pub mod CauseLemmas
mod OwnerLemmas
mod TalkLemmas
pub mod ToldLemmas
pub mod ArriveLemmas
mod PartingLemmas
