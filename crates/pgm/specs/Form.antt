-- The one form of input that is accepted: "P5 w h 255", a line feed, and w × h bytes. Definitions only.
use Rattle.std.specs.Prelude.{ℕ, ◌+◌, ◌*◌, ◌≤◌, ◌≡◌, List, [], ◌∷◌, ◌++◌, length, Option, Some, None, Result, Ok, Err}
use Rattle.image.specs.Answers.{Answer, accepted, refused, answer_number}
use Rattle.pgm.specs.Decimal.{decimal}
use Rattle.pgm.specs.declared.picture.Malformed.{Malformed}
use Rattle.pgm.specs.declared.picture.Picture.{Picture}

-- the largest side that is accepted
abbrev pub side_limit : ℕ
side_limit = 60

-- "P5 "
abbrev pub magic : List ℕ
magic = 80 ∷ 53 ∷ 32 ∷ []

-- the largest sample and the end of the line: "255" and a line feed
abbrev pub ending : List ℕ
ending = 50 ∷ 53 ∷ 53 ∷ 10 ∷ []

-- the header of a picture of w by h: "P5 w h 255" and a line feed
abbrev pub header : ℕ → ℕ → List ℕ
header w h = magic ++ (decimal w ++ (32 ∷ (decimal h ++ (32 ∷ ending))))

-- the input is a picture of w by h: the header, and then exactly one byte for each pixel
pub record Form (input : List ℕ) (w h : ℕ) : Type 0 where
  pub wide : w ≤ side_limit
  pub high : h ≤ side_limit
  pub pixels : List ℕ
  pub counted : length pixels ≡ w * h
  pub whole : input ≡ header w h ++ pixels

-- the input is a picture: it has the form, for some sides
pub record IsPicture (input : List ℕ) : Type 0 where
  pub width : ℕ
  pub height : ℕ
  pub form : Form input width height

-- the most bytes that a header has: "P5 60 60 255" and a line feed
abbrev pub header_limit : ℕ
header_limit = 13

-- the most bytes that a picture has: such a header and 60 × 60 pixels, 3,613
abbrev pub longest : ℕ
longest = header_limit + side_limit * side_limit

-- how many first bytes of an input tell whether it is a picture, and which: one more than any picture has, 3,614
abbrev pub input_limit : ℕ
input_limit = longest + 1

-- the values of a picture: its sides, where its pixels start, and the pixels
pub record PictureFound : Type 0 where
  pub width : ℕ
  pub height : ℕ
  pub start : ℕ
  pub pixels : List ℕ

-- what an input is parsed as: a picture, or none
abbrev pub Parsed : Type 0
Parsed = Option PictureFound

-- the answer of what was parsed: the picture, or 11 for input of any other form
abbrev pub found_answer : Parsed → Answer PictureFound
found_answer (Some p) = accepted p
found_answer None = refused 11

-- the number of what was parsed: 0 for a picture
abbrev pub parsed_number : Parsed → ℕ
parsed_number r = answer_number (found_answer r)

-- the values of a picture that `parse` hands out, and what it parsed the input as
abbrev pub values : Picture → PictureFound
values p = record { width = p.width; height = p.height; start = p.start; pixels = p.pixels.now }

abbrev pub found : Result Picture Malformed → Parsed
found (Ok p) = Some (values p)
found (Err e) = None

-- what `parse` says: a picture's values, or 11 for input of any other form
abbrev pub parsed_answer : Result Picture Malformed → Answer PictureFound
parsed_answer r = found_answer (found r)

-- the input has the form of the picture, with its sides and its pixels, which start after the header
pub record Pictured (input : List ℕ) (p : PictureFound) : Type 0 where
  pub form : Form input p.width p.height
  pub after : p.start ≡ length (header p.width p.height)
  pub same : p.pixels ≡ form.pixels

-- what an input is parsed as: a picture whose form it has; or none, where it has the form for no sides
abbrev pub Answers : List ℕ → Parsed → Type 0
Answers input (Some p) = Pictured input p
Answers input None = (w h : ℕ) → Form input w h → ⊥
