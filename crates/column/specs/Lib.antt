-- What the contracts of `column` say, and the laws about it.

-- What to believe: the definition of what the program writes.
pub mod Drawing
-- Laws about it: the rows by the form of the input, and that the first bytes of an input are enough.
pub mod DrawingLaws
-- What only the inside needs: the contracts of the private functions.
pub mod Steps
