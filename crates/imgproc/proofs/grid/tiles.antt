-- Gathered tiles: the laws of their numbers, of tiles joined, and of the neighbourhood. Assumes nothing.
pub mod Folds
pub mod Numbers
pub mod Joins
pub mod Gathering
pub mod Neighbours
pub mod Counts
