-- What proofs lean on; none of it has to be believed.
pub mod Good
pub mod Frames
