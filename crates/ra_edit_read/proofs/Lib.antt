pub mod ListLaws
pub mod NumberLaws
pub mod EditLaws
pub mod Meaning
pub mod FileLaws
