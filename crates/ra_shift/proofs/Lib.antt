pub mod LaneLemmas
pub mod RingLemmas
pub mod SumLemmas
pub mod WindowLemmas
pub mod RoomLaws
pub mod MemberLaws
pub mod NeedLaws
pub mod SpreadLaws
pub mod AllowLaws
pub mod ReadLaws
pub mod ChangeLaws
mod FindingLaws
mod FilterLaws
mod FilterReads
pub mod TermLaws
pub mod LaneLaws
