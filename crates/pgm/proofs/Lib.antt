-- The laws that several proofs of this crate cite. What one proof alone needs stands beside it.
pub mod Writing
