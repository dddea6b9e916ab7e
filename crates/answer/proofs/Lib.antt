-- The laws that the proofs of this crate cite.
pub mod Inputs
pub mod Whole
