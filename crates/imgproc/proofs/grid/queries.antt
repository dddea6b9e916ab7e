-- Queries about a grid: what their checks give, and the ways out of a call that sets a skip. Assumes nothing.
pub mod Grids
pub mod Setting
