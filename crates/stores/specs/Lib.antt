-- What the contracts cite beside the plan of `power`.
pub mod Numbers
pub mod Handing
pub mod Unseen
pub mod Runs
