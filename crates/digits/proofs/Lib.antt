-- Laws that the proofs of the functions cite, here and above.
pub mod Written
pub mod Decimal
pub mod Back
pub mod Drawn
