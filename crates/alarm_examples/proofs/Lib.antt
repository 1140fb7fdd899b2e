-- The table holds.
pub mod Hold
