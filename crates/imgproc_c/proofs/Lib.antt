-- Holds the laws that the proofs of this crate share.
pub mod Numbers
pub mod Exporting
pub mod GridNumbers
pub mod ReadingNumbers
pub mod RecordNumbers
