pub mod Examples
pub mod Figure7
pub mod Inverse
