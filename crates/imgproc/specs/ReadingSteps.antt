-- What the parts of an accepted reading ask and leave. Definitions only.
use Rattle.std.specs.Prelude.{ℕ, ◌+◌, ◌*◌, ◌≤◌, ◌<◌, ◌^◌, ◌≡◌, List, length, get_or}
use Rattle.image.specs.declared.Geometry.{Geometry}
use Rattle.image.specs.Layout.{Kept}
use Rattle.image.specs.Plane.{plane, painted_on, part, picture, overwritten}
use Rattle.imgproc.specs.declared.reading.config.ReadingConfig.{ReadingConfig}
use Rattle.imgproc.specs.declared.reading.ReadingCounts.{ReadingCounts}
use Rattle.imgproc.specs.declared.reading.judging.Judged.{Judged}
use Rattle.imgproc.specs.declared.reading.judging.Judgement.{Judgement}
use Rattle.imgproc.specs.declared.morphology.tally.Tally.{Tally}
use Rattle.imgproc.specs.Tallies.{Raised, HasRoom}
use Rattle.imgproc.specs.Fold.{bit}
use Rattle.imgproc.specs.Reach.{walk, sweep_walks}
use Rattle.imgproc.specs.Grid.{tiles_x_of, tiles_y_of, skips, open_tiles}
use Rattle.imgproc.specs.Refusals.{table_entries}
use Rattle.imgproc.specs.Tables.{InRange, wide_modulus, Tables}
use Rattle.imgproc.specs.Calls.{Paired}
use Rattle.imgproc.specs.Reading.{
  is_dark,
  is_light,
  is_skipped,
  opened_of,
  judged_over,
  pixels,
  byte_of,
  reading_bytes,
  reading_u64s,
  ReadingLent,
  ReadingLeft,
  numbers_of,
  numbers_from,
  marks_from,
  open_tiles_from,
}

-- what a `Judge` goes by: the opened picture is packed, its tables and its tiles' skips stand in their slices, and the
-- settings are accepted
pub record JudgeReady (o : List ℕ) (g : Geometry) (sk ws : List ℕ) (at : ℕ) (s : ReadingConfig) : Type 0 where
  pub tables : Tables wide_modulus o g at ws
  pub settings : InRange s.sauvola
  pub tight : g.stride ≡ g.width
  pub whole : length o ≡ g.width * g.height
  pub tile_width : 0 < s.grid.tile_width
  pub tile_height : 0 < s.grid.tile_height
  pub marks : sk ≡ skips s.grid g.width g.height o

-- the counts have room for n pixels more
pub record Room (j : Judged) (n : ℕ) : Type 0 where
  pub dark : j.dark + n < 2 ^ 64
  pub light : j.light + n < 2 ^ 64
  pub skipped : j.skipped + n < 2 ^ 64

-- the counts after one judgement more
pub record Counted (before : Judged) (j : Judgement) (after : Judged) : Type 0 where
  pub dark : after.dark ≡ before.dark + bit (is_dark j)
  pub light : after.light ≡ before.light + bit (is_light j)
  pub skipped : after.skipped ≡ before.skipped + bit (is_skipped j)

-- the first n pixels of row y of the opened picture o are judged: each has its byte, and each count is raised by the
-- pixels so judged
pub record PixelsJudged (before : Judged) (s : ReadingConfig) (g : Geometry) (o : List ℕ) (y n : ℕ)
    (after : Judged) (out : List ℕ) : Type 0 where
  pub each : (x : ℕ) → x < n → get_or out x 0 ≡ byte_of s.sauvola (judged_over s g.width g.height o x y)
  pub dark : after.dark ≡ before.dark + walk (λ x. is_dark (judged_over s g.width g.height o x y)) n
  pub light : after.light ≡ before.light + walk (λ x. is_light (judged_over s g.width g.height o x y)) n
  pub skipped : after.skipped ≡ before.skipped + walk (λ x. is_skipped (judged_over s g.width g.height o x y)) n

-- what `Judge::row` leaves: the whole row is judged
abbrev pub RowJudged : Judged → ReadingConfig → Geometry → List ℕ → ℕ → Judged → List ℕ → Type 0
RowJudged before s g o y after out = PixelsJudged before s g o y g.width after out

-- the packed picture of the bytes of the judgements over the opened picture o
unfoldable pub marked_over : ReadingConfig → ℕ → ℕ → List ℕ → List ℕ
unfolding judged_over
marked_over s w h o = plane w h (λ x y. byte_of s.sauvola (judged_over s w h o x y))

-- what `judge_picture` leaves: every pixel is judged, in the rows of the destination and in the three counts
pub record PictureJudged (s : ReadingConfig) (g : Geometry) (o dst : List ℕ) (target : Geometry)
    (j : Judged) (dst' : List ℕ) : Type 0 where
  pub leaves : dst' ≡ painted_on dst target (marked_over s g.width g.height o)
  pub dark : j.dark ≡ pixels g.width g.height (λ x y. is_dark (judged_over s g.width g.height o x y))
  pub light : j.light ≡ pixels g.width g.height (λ x y. is_light (judged_over s g.width g.height o x y))
  pub skipped :
      j.skipped ≡ pixels g.width g.height (λ x y. is_skipped (judged_over s g.width g.height o x y))

-- what `flatten_and_open` asks, and leaves: the opened picture in the first plane of the workspace
pub record OpenReady (tally : Tally) (g : Geometry) (s : ReadingConfig) (ws : List ℕ) : Type 0 where
  pub element : 0 < s.division.structuring_element
  pub floor : 0 < s.division.denominator_floor
  pub kernel : 0 < s.opening_kernel
  pub fits : 6 * (g.width * g.height) ≤ length ws
  pub room : HasRoom tally (24 * (g.width * g.height))

pub record Opened (tally : Tally) (src : List ℕ) (g : Geometry) (s : ReadingConfig) (ws : List ℕ)
    (raised : Tally) (ws' : List ℕ) : Type 0 where
  pub leaves : part 0 (g.width * g.height) ws' ≡ opened_of s g.width g.height (picture src g)
  pub counted :
      Raised tally
      (2 * sweep_walks s.division.structuring_element g.width g.height
      + 2 * sweep_walks s.opening_kernel g.width g.height)
      raised
  pub long : length ws' ≡ length ws

-- what `mark_tiles` asks, and leaves: the opened picture stands packed at the workspace's start, its skips from `at` on
pub record MarkReady (g : Geometry) (s : ReadingConfig) (at : ℕ) (bytes u64s : List ℕ) : Type 0 where
  pub layout : Kept (g.width * g.height) g
  pub tight : g.stride ≡ g.width
  pub tile_width : 0 < s.grid.tile_width
  pub tile_height : 0 < s.grid.tile_height
  pub behind : g.width * g.height ≤ at
  pub bytes_fit : at + tiles_x_of s.grid g.width * tiles_y_of s.grid g.height ≤ length bytes
  pub u64s_fit : 5 * (tiles_x_of s.grid g.width * tiles_y_of s.grid g.height) ≤ length u64s

pub record Marks (g : Geometry) (s : ReadingConfig) (at : ℕ) (bytes u64s bytes' u64s' : List ℕ) : Type 0 where
  pub opened : part 0 (g.width * g.height) bytes' ≡ part 0 (g.width * g.height) bytes
  pub skips :
      part at (tiles_x_of s.grid g.width * tiles_y_of s.grid g.height) bytes'
      ≡ skips s.grid g.width g.height (part 0 (g.width * g.height) bytes)
  pub bytes_long : length bytes' ≡ length bytes
  pub u64s_long : length u64s' ≡ length u64s

-- and of the count buffer
abbrev pub CountsLeft : Geometry → ReadingConfig → List ℕ → List ℕ → List ℕ → Type 0
CountsLeft g s bytes before after =
    after ≡ overwritten 0 (open_tiles s.grid g.width g.height (part 0 (g.width * g.height) bytes)) before

-- what `judge_picture` asks: the opened picture and its skips stand in the byte workspace, and the u64 workspace has
-- room for the tables
pub record JudgeRoom (g : Geometry) (s : ReadingConfig) (at : ℕ) (bytes u64s : List ℕ) : Type 0 where
  pub marks : MarkReady g s at bytes u64s
  pub skips :
      part at (tiles_x_of s.grid g.width * tiles_y_of s.grid g.height) bytes
      ≡ skips s.grid g.width g.height (part 0 (g.width * g.height) bytes)
  pub tables_fit : table_entries g.width g.height ≤ length u64s
  pub settings : InRange s.sauvola

-- what accepted settings say (`says` of proofs/reading/Ways)
pub record Usable (s : ReadingConfig) : Type 0 where
  pub element : 0 < s.division.structuring_element
  pub floor : 0 < s.division.denominator_floor
  pub kernel : 0 < s.opening_kernel
  pub tile_width : 0 < s.grid.tile_width
  pub tile_height : 0 < s.grid.tile_height
  pub sauvola : InRange s.sauvola

-- what `read_picture`, the work of an accepted reading, asks
pub record ReadReady (lent : ReadingLent) : Type 0 where
  pub pair : Paired (length lent.src) lent.source (length lent.dst) lent.target
  pub settings : Usable lent.settings
  pub bytes_fit :
      reading_bytes lent.settings.grid lent.source.width lent.source.height ≤ length lent.bytes
  pub u64s_fit :
      reading_u64s lent.settings.grid lent.source.width lent.source.height ≤ length lent.u64s
  pub open_tiles_fit : tiles_y_of lent.settings.grid lent.source.height ≤ length lent.open_tiles

-- and what it leaves
pub record ReadDone (lent : ReadingLent) (counts : ReadingCounts) (left : ReadingLeft) : Type 0 where
  pub counted : numbers_of counts ≡ numbers_from lent
  pub leaves : left.dst ≡ marks_from lent
  pub bytes_long : length left.bytes ≡ length lent.bytes
  pub u64s_long : length left.u64s ≡ length lent.u64s
  pub open_tiles_left : left.open_tiles ≡ open_tiles_from lent
