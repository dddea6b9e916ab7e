-- The division: what its parts leave, put together. Assumes nothing.
pub mod Runs
