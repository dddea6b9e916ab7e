-- Open tiles: the loops that count them. Assumes nothing.
pub mod Rows
