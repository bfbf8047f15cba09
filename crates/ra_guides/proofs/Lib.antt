pub mod Kept
pub mod RankLemmas
pub mod SpanLemmas
