-- What the contracts of `image` say, and the laws about it that this crate and those above it cite.

-- What to believe: the definitions of the promise, a file for each part.
pub mod Answers
pub mod Layout
pub mod Plane
pub mod Pixel
pub mod Row
pub mod Copy
-- Laws about it: when a call is refused, what answers to lists of conditions come to, worked layouts, and what a
-- layout, a picture, a row and a copy give.
pub mod RefusedExactly
pub mod AnswerLaws
pub mod Layouts
pub mod LayoutLaws
pub mod PlaneLaws
pub mod Views
pub mod RowLaws
pub mod CopyLaws
-- What only the proofs need, here and in the crates above: laws for loops that write row by row or number by number.
pub mod PaintLaws
pub mod PaintRows
pub mod FillLaws
pub mod WriteLaws
