-- One byte for each tile: that the bytes are the picture's thresholds and skips. Assumes nothing.
pub mod Tables
