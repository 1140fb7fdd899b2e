-- Bytes and numbers as they are written in lines, and how they are put down.
pub mod Digits
pub mod Page
