pub mod LineForms
pub mod AnnealLemmas
pub mod TellLemmas
