-- The threshold: a window by the corners of the tables, and rows of verdicts. Assumes nothing.
pub mod Corners
pub mod Verdicts
