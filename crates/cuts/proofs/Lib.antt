-- The proofs of the statements about cuts.
pub mod Planned
pub mod Doing
pub mod Heard
pub mod Whole
pub mod Bytes
pub mod Parted
pub mod Segments
pub mod Touches
pub mod Cut
pub mod Logins
pub mod Acts
pub mod Agrees
pub mod Used
pub mod Files
pub mod Demands
pub mod Range
