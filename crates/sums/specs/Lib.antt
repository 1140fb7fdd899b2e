-- R-12: alarm records and their totals, how the code keeps them, and what holds of both.
pub mod Alarm
pub mod Totals
pub mod Kept
pub mod Says
