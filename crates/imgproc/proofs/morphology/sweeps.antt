-- The sweeps: blocks of a line, and what the passes leave. Assumes nothing.
pub mod Blocks
pub mod Passes
