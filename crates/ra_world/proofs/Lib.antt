pub mod CostLaws
pub mod RenewalLaws
pub mod StepLaws
pub mod FollowLaws
pub mod RequiredLaws
pub mod FilterTableLaws
pub mod WorldLaws
pub mod StandingLaws
