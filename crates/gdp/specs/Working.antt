-- What the code and its proofs lean on; none of it has to be believed.
pub mod Bits
pub mod Check
pub mod Makes
pub mod Steps
