pub mod FieldOrder
pub mod Formats
pub mod Lists
pub mod ModelText
pub mod Reading
pub mod TableShapes
pub mod Texts
