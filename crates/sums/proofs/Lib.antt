-- The theorems on totals, and the laws that they and the proofs of the functions cite.
pub mod Adding
pub mod Cells
pub mod Places
