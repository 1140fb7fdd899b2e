-- Laws of stores by their numbers: of lists of them, of each kind of change, of each command, of the calls.
pub mod Numbers
pub mod Changes
pub mod Commands
pub mod Calling
pub mod Laying
pub mod Unseen
