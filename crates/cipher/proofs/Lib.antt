-- Laws that the proofs of the functions cite. The way through them: Gates, the circuit as one; Lanes, at each byte of a word it is the S-box;
-- Triples, three words in it do not mix; Halves, a round on words of two columns; Rounds, all of them.
pub mod Entries
pub mod Substitution
pub mod Bits
pub mod Gates
pub mod Lanes
pub mod Triples
pub mod Bytes
pub mod Keys
pub mod States
pub mod Halves
pub mod Rounds
