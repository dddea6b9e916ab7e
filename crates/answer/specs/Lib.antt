-- What the contracts of `answer` say, and the laws about it that crates above may cite.

-- What to believe: the definitions of the promise, of the answer with lent buffers and of the whole program.
pub mod Answer
pub mod Program
-- Laws about it: the program's line by the form of the input, that its buffers are enough, and worked lines.
pub mod ProgramLaws
pub mod ProgramMeans
pub mod RoomLaws
pub mod Examples
