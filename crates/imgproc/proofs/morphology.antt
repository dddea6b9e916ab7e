-- Morphology: rows of lanes and planes of the workspace, the work of an accepted call, and what its checks give. Assumes nothing.
pub mod Lanes
pub mod Planes
pub mod Runs
pub mod Ways
