pub mod CheckLemmas
pub mod CoreLemmas
pub mod LoadedLemmas
pub mod NameLemmas
pub mod StateLemmas
pub mod TaskLemmas
pub mod ThinLemmas
