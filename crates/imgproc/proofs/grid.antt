-- Building a grid: its ways out. Assumes nothing.
pub mod Building
