-- What the program `column` writes for each input: the line of the program `reading`, and the rows of its picture.
-- Definitions only.
use Rattle.std.specs.Prelude.{ℕ, ◌+◌, ◌*◌, cond, List, [], ◌++◌, eqb, Some, None}
use Rattle.image.specs.Plane.{plane}
use Rattle.imgproc.specs.declared.reading.judging.Judgement.{Judgement}
use Rattle.imgproc.specs.declared.reading.judging.Judgement.TheVariants.{Dark, Light, Skipped}
use Rattle.imgproc.specs.Reading.{judged}
use Rattle.pgm.specs.Form.{side_limit, Parsed}
use Rattle.pgm.specs.Line.{line_room}
use Rattle.pgm.specs.Parse.{parsed_of}
use Rattle.answer.specs.Answer.{settings}
use Rattle.answer.specs.Program.{empty, program_line}

-- '#' for a pixel that is judged dark, '.' for every other
abbrev pub mark_of : Judgement → ℕ
mark_of Dark = 35
mark_of Light = 46
mark_of Skipped = 46

-- byte x of row y: the mark there, or the line feed that ends a row of w
abbrev pub row_byte : (ℕ → ℕ → ℕ) → ℕ → ℕ → ℕ → ℕ
row_byte mark w x y = cond (eqb x w) 10 (mark x y)

-- h rows, each of w marks and a line feed
abbrev pub rows_of : ℕ → ℕ → (ℕ → ℕ → ℕ) → List ℕ
rows_of w h mark = plane (w + 1) h (row_byte mark w)

-- the rows of a picture: none where a side is 0, else the marks of its judgements
abbrev pub picture_rows : ℕ → ℕ → List ℕ → List ℕ
picture_rows w h pixels = cond (empty w h) [] (rows_of w h (λ x y. mark_of (judged settings w h pixels x y)))

-- the rows of what was parsed: the picture's, or none
abbrev pub rows_by : Parsed → List ℕ
rows_by (Some p) = picture_rows p.width p.height p.pixels
rows_by None = []

-- the rows that are drawn for an input, whatever the input is
unfoldable pub program_rows : List ℕ → List ℕ
unfolding parsed_of
program_rows input = rows_by (parsed_of input)

-- what the program writes for an input
abbrev pub program_drawing : List ℕ → List ℕ
program_drawing input = program_line input ++ program_rows input

-- the length of a buffer that holds any line, and 60 rows of 60 marks and a line feed each: 3,788
abbrev pub drawing_room : ℕ
drawing_room = line_room + (side_limit + 1) * side_limit
