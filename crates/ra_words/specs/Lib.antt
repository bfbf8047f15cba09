pub mod Words
pub mod Numbers
pub mod LotTexts
pub mod Lines
pub mod Jobs
pub mod Forms
pub mod Said
