mod LoadLemmas
mod SeekLemmas
mod TalkLemmas
pub mod UnlinkedLemmas
mod WorkLemmas
