-- The base of a threshold: the laws behind its f64 steps, its rounding and its test of finite values. Assumes nothing.
mod Rounding
mod Floats
pub mod Steps
