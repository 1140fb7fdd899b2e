-- R-12: a line of text, the report on a text, how the code reads and tells it, and what holds of all this.
pub mod Line
pub mod Report
pub mod Feed
pub mod Says
