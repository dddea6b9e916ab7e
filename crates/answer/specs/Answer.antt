-- What `answer` promises: the line of the reading of the picture that an input is, or refusal 11. Definitions only.
use Rattle.std.specs.Prelude.{ℕ, ◌≡◌, List, [], ◌∷◌, replicate, pos, Option, None}
use Rattle.image.specs.declared.Geometry.{Geometry}
use Rattle.image.specs.Answers.{Answer, accepted, refused}
use Rattle.imgproc.specs.declared.grid.config.TileThresholdMethod.TheVariants.{Midrange}
use Rattle.imgproc.specs.declared.reading.config.ReadingConfig.{ReadingConfig}
use Rattle.imgproc.specs.Grid.{tiles_y_of}
use Rattle.imgproc.specs.Refusals.{first, answer_by, left_by as kept_by}
use Rattle.imgproc.specs.Reading.{
  ReadingLent,
  ReadingLeft,
  ReadingNumbers,
  reading_conditions,
  numbers_from,
  open_tiles_from,
  Reads,
}
use Rattle.pgm.specs.Form.{Form, side_limit, parsed_number}
use Rattle.pgm.specs.Line.{line, refused_line, Writes}

-- the settings of document 01: element 31, target 200, floor 8; m = 3; Midrange tiles 16 by 16, radius 1, offset 0,
-- contrast floor 12; radius 8, k_milli 200, range 128, dark 0, light 255
abbrev pub settings : ReadingConfig
settings = record {
  division = record { structuring_element = 31; target_luma = 200; denominator_floor = 8 };
  opening_kernel = 3;
  grid = record {
    tile_width = 16;
    tile_height = 16;
    neighborhood_radius = 1;
    threshold_offset = pos 0;
    contrast_floor = 12;
    method = Midrange;
  };
  sauvola = record { radius = 8; k_milli = 200; dynamic_range = 128; dark_value = 0; light_value = 255 };
}

-- the geometry of a picture of w by h without padding
abbrev pub tight : ℕ → ℕ → Geometry
tight w h = record { width = w; height = h; stride = w }

-- what `answer` is lent beside the input, and what is left of it: a destination, two workspaces and a line
pub record Buffers : Type 0 where
  pub dst : List ℕ
  pub bytes : List ℕ
  pub u64s : List ℕ
  pub out : List ℕ

-- the tile rows of the highest picture, 4
abbrev pub most_tile_rows : ℕ
most_tile_rows = tiles_y_of settings.grid side_limit

-- the count buffer that `answer` makes for a reading: a number for each of them
abbrev pub own_open_tiles : List ℕ
own_open_tiles = replicate most_tile_rows 0

-- what the reading of a picture of w by h is lent
abbrev pub lent_to : ℕ → ℕ → List ℕ → Buffers → ReadingConfig → ReadingLent
lent_to w h pixels lent s =
    record {
      src = pixels;
      source = tight w h;
      dst = lent.dst;
      target = tight w h;
      settings = s;
      bytes = lent.bytes;
      u64s = lent.u64s;
      open_tiles = own_open_tiles;
    }

-- what it leaves of them: the count buffer, which nobody else sees, as the reading leaves it
abbrev pub left_by : ReadingLent → Buffers → ReadingLeft
left_by lent left = record {
  dst = left.dst;
  bytes = left.bytes;
  u64s = left.u64s;
  open_tiles = kept_by (first (reading_conditions lent)) (open_tiles_from lent) lent.open_tiles;
}

-- what a reading answers to what it is lent
abbrev pub read_of : ReadingLent → Answer ReadingNumbers
read_of lent = answer_by (first (reading_conditions lent)) (numbers_from lent)

-- the line of a reading's counts: width, height, dark, light, skipped, comparisons
abbrev pub counts_line : ℕ → ℕ → ReadingNumbers → List ℕ
counts_line w h c = line (w ∷ h ∷ c.dark ∷ c.light ∷ c.skipped ∷ c.comparisons ∷ [])

-- the line of a reading's answer: its counts, or the refusal's number
abbrev pub answer_of : ℕ → ℕ → Answer ReadingNumbers → List ℕ
answer_of w h (accepted c) = counts_line w h c
answer_of w h (refused n) = refused_line n

-- the answer to a picture: its line is written, and the destination and the workspaces are as the reading leaves them
pub record AnswersPicture (w h : ℕ) (pixels : List ℕ) (lent : Buffers) (answer : Option ℕ) (left : Buffers) : Type 0 where
  pub writes : Writes (answer_of w h (read_of (lent_to w h pixels lent settings))) lent.out answer left.out
  pub reads :
      Reads (lent_to w h pixels lent settings)
      (read_of (lent_to w h pixels lent settings))
      (left_by (lent_to w h pixels lent settings) left)

-- the answer to an input that is no picture: refusal 11 is written, and every other buffer is as it was
pub record AnswersMalformed (lent : Buffers) (answer : Option ℕ) (left : Buffers) : Type 0 where
  pub writes : Writes (refused_line (parsed_number None)) lent.out answer left.out
  pub dst_left : left.dst ≡ lent.dst
  pub bytes_left : left.bytes ≡ lent.bytes
  pub u64s_left : left.u64s ≡ lent.u64s

-- the contract of `answer`: to a picture, by the sides and the pixels of its form; to any other input, refusal 11
pub record AnswersInput (input : List ℕ) (lent : Buffers) (answer : Option ℕ) (left : Buffers) : Type 0 where
  pub picture : (w h : ℕ) → (f : Form input w h) → AnswersPicture w h f.pixels lent answer left
  pub other : ((w h : ℕ) → Form input w h → ⊥) → AnswersMalformed lent answer left
