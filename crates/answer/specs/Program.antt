-- What the program `reading` prints for each input, what stands in the destination then, and what the reading of the
-- largest picture is lent. Definitions only.
use Rattle.std.specs.Prelude.{ℕ, ◌*◌, ◌≤◌, ◌≡◌, Bool, cond, ◌||◌, List, ◌++◌, eqb, length, take, drop, Option, Some, None}
use Rattle.image.specs.Plane.{painted_on}
use Rattle.imgproc.specs.GridCalls.{tile_count}
use Rattle.imgproc.specs.Reading.{reading_of, marked, reading_bytes, reading_u64s}
use Rattle.pgm.specs.Form.{side_limit, input_limit, Parsed, parsed_number}
use Rattle.pgm.specs.Parse.{parsed_of}
use Rattle.pgm.specs.Line.{refused_line, Writes}
use Rattle.answer.specs.Answer.{settings, tight, counts_line}

-- whether a side is 0
abbrev pub empty : ℕ → ℕ → Bool
empty w h = eqb w 0 || eqb h 0

-- document 01's number of a picture with a zero side
abbrev pub empty_number : ℕ
empty_number = 1

-- the line of a picture: "refused 1" for a zero side, else the sides and the counts of its reading
abbrev pub picture_line : ℕ → ℕ → List ℕ → List ℕ
picture_line w h pixels = cond (empty w h) (refused_line empty_number) (counts_line w h (reading_of settings w h pixels))

-- the destination of a picture: as it was for a zero side, else with the reading's marks in its rows
abbrev pub picture_marks : ℕ → ℕ → List ℕ → List ℕ → List ℕ
picture_marks w h pixels dst = cond (empty w h) dst (painted_on dst (tight w h) (marked settings w h pixels))

-- the line of what was parsed: the picture's, or "refused 11"
abbrev pub line_by : Parsed → List ℕ
line_by (Some p) = picture_line p.width p.height p.pixels
line_by None = refused_line (parsed_number None)

-- the destination of what was parsed: the picture's, or as it was
abbrev pub marks_by : Parsed → List ℕ → List ℕ
marks_by (Some p) dst = picture_marks p.width p.height p.pixels dst
marks_by None dst = dst

-- the line that the program prints for an input, whatever the input is
unfoldable pub program_line : List ℕ → List ℕ
unfolding parsed_of
program_line input = line_by (parsed_of input)

-- the destination once the program has answered an input
unfoldable pub program_marks : List ℕ → List ℕ → List ℕ
unfolding parsed_of
program_marks input dst = marks_by (parsed_of input) dst

-- the pixels of the largest picture, 3,600
abbrev pub most_pixels : ℕ
most_pixels = side_limit * side_limit

-- the tiles of the largest picture, 16
abbrev pub most_tiles : ℕ
most_tiles = tile_count settings.grid side_limit side_limit

-- the byte workspace that its reading asks for: 9wh + 2t bytes, 32,432
abbrev pub most_bytes : ℕ
most_bytes = reading_bytes settings.grid side_limit side_limit

-- the u64 workspace that its reading asks for: 2(w + 1)(h + 1) + 5t numbers, 7,522
abbrev pub most_u64s : ℕ
most_u64s = reading_u64s settings.grid side_limit side_limit

-- a text is written at the start of a buffer, the rest of which is as it was, and its length is the answer
pub record Prints (text before : List ℕ) (answer : ℕ) (after : List ℕ) : Type 0 where
  pub answers : answer ≡ length text
  pub leaves : after ≡ text ++ drop (length text) before

-- the contract of `answer_and_mark`: the line is written where the buffer has room for any line, and the destination is
-- marked
pub record AnswersAndMarks (input dst out : List ℕ) (answer : Option ℕ) (dst' out' : List ℕ) : Type 0 where
  pub writes : Writes (program_line input) out answer out'
  pub marks : dst' ≡ program_marks input dst

-- the contract of `read_part`: the first n bytes of a buffer that holds enough of any input
pub record ReadPart (buffer : List ℕ) (n : ℕ) (got : List ℕ) : Type 0 where
  pub first : got ≡ take n buffer
  pub enough : input_limit ≤ length buffer

-- the first n bytes of a buffer are an input, or as many of its first bytes as the buffer holds
abbrev pub Starts : List ℕ → ℕ → List ℕ → Type 0
Starts buffer n input = take n buffer ≡ take (length buffer) input

-- the contract of a program's answer to what it has read, the first n bytes of a buffer. These are the input, or as
-- many of its first bytes as the buffer holds; for every such input the text of the whole input is written. `within`
-- says of the answer what `&out[..answer]` needs
pub record PrintsStart (program : List ℕ → List ℕ) (buffer : List ℕ) (n : ℕ) (out : List ℕ) (answer : ℕ) (out' : List ℕ)
    : Type 0 where
  pub within : (answer ≤ length out') × (answer ≡ length (take answer out'))
  pub every : (input : List ℕ) → take n buffer ≡ take (length buffer) input → Prints (program input) out answer out'
