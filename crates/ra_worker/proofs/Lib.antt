pub mod FollowingLemmas
pub mod OpeningLemmas
pub mod ProposalLemmas
pub mod ReplicaLemmas
pub mod TurnLemmas
pub mod AllLemmas
pub mod CoreLemmas
pub mod CoreTurnLemmas
pub mod UptoLemmas
pub mod Seen
pub mod Steps
pub mod Owning
pub mod Runs
pub mod AheadLemmas
mod RunLemmas
