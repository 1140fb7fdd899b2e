-- The theorems on the report, and the laws that they and the proofs of the functions cite.
pub mod Rows
pub mod Fed
pub mod Scanned
pub mod Told
pub mod Reports
pub mod Printed
pub mod Order
pub mod Verdicts
pub mod Spelt
