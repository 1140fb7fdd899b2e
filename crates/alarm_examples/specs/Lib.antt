-- Rows of one table, computed from the definitions of a line, of the totals and of the report.
pub mod Table
pub mod Lines
pub mod Reports
pub mod Rows
