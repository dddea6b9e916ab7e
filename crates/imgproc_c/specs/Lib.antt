-- Says what the exports promise, by the contracts of the libraries below.
pub mod Picture
pub mod Exports
pub mod Operators
pub mod Grid
pub mod Reading
pub mod Records
-- Laws about them.
pub mod RefusedExactly
