-- The tables: what their entries are, row by row. Assumes nothing.
pub mod Entries
