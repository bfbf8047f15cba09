pub mod Words
pub mod Jobs
pub mod Found
pub mod Said
pub mod Texts
pub mod Searching
pub mod Headline
pub mod Commands
