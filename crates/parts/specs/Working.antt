-- What the code and its proofs lean on; none of it has to be believed.
pub mod Bytes
pub mod Outcomes
pub mod Sentences
