-- Laws that the proofs of several modules cite.
pub mod WaysOut
pub mod Serving
pub mod Answers
