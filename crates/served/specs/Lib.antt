-- What should be served is served: statements about the rules of documents 01 and 02.
pub mod Left
pub mod Answers
pub mod One
pub mod Hidden
pub mod Pushed
pub mod Calls
pub mod Transport
pub mod Sound
