-- What commands store, and what recovery makes of each cut, as rows worked out by hand.
pub mod Table
pub mod Cards
pub mod Stored
pub mod Cuts
pub mod Recovered
pub mod Rows
