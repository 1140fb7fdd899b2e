-- The theorems apply, by computation.
pub mod Apply
pub mod Hold
