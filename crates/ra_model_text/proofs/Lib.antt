pub mod LineTexts
pub mod LineTokens
pub mod Telling
pub mod SmallNumbers
pub mod Counts
pub mod Meaning
pub mod ModelLines
pub mod Chunks
