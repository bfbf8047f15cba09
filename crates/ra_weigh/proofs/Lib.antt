pub mod MoveLemmas
pub mod RowLemmas
pub mod RowUse
pub mod MovedNext
pub mod ChangeLaws
pub mod CostLaws
pub mod ExchangeLaws
mod SeekLemmas
mod FlowLemmas
mod LocationLemmas
mod SpreadLemmas
mod CauseRowLemmas
mod StepLemmas
mod HoldLemmas
mod NearLemmas
mod FarLemmas
mod TestLemmas
mod NextLemmas
mod LandLemmas
mod MemberLemmas
mod FitLemmas
