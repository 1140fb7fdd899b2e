-- Rows of one table, computed from the grammar of lines and from the call that answers one.
pub mod Table
pub mod Fields
pub mod Digits
pub mod Turns
pub mod Rows
