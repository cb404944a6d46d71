-- What the code and its proofs lean on; none of it has to be believed.
pub mod Left
pub mod Heads
pub mod Eights
pub mod Bytes
