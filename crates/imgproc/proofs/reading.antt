-- The reading: what its parts leave, put together, and its ways out. Assumes nothing.
pub mod Runs
pub mod Done
pub mod Ways
