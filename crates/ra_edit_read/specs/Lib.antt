pub mod EditLists
pub mod EditTexts
pub mod Answers
pub mod Reading
