-- What the contracts of `pgm` say, and the laws about it that crates above may cite.

-- What to believe: the definitions of the promise, a file for each part.
pub mod Decimal
pub mod Form
pub mod Parse
pub mod Line
-- Laws about it: that a text names its number, that an input is one picture at most, that a line fits and tells its
-- answer; and worked texts.
pub mod DecimalLaws
pub mod FormLaws
pub mod ParseLaws
pub mod LineLaws
pub mod Examples
-- What only the inside needs: the contracts of the private functions.
pub mod Steps
