-- Laws of stores, of cuts and of the journal.
pub mod Alter
pub mod Cuts
pub mod Rows
pub mod Journal
pub mod Fits
pub mod Tidy
pub mod Partial
pub mod Again
