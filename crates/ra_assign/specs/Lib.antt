pub mod Answers
pub mod ClosedLists
pub mod Lists
pub mod Reading
