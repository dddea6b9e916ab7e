-- The judgements: one pixel, a row, and the counts. Assumes nothing.
pub mod Judgements
