pub mod Numbers
pub mod Books
pub mod Shares
pub mod Copies
pub mod Holding
pub mod Laws
