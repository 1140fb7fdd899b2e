-- What the theorems on outsiders and guessers (R-11) ask, as tests, and the lines of edges to which they apply.
pub mod Tests
pub mod Examples
