-- Document 01, part 7: the reading. Definitions only.
use Rattle.std.specs.Prelude.{ℕ, ◌+◌, ◌*◌, ◌/◌, ◌%◌, ◌≡◌, Bool, true, false, cond, ◌||◌, ltb, List, length}
use Rattle.image.specs.declared.Geometry.{Geometry}
use Rattle.image.specs.Answers.{Answer, accepted, refused}
use Rattle.image.specs.Plane.{plane, picture, painted_on, overwritten}
use Rattle.imgproc.specs.declared.reading.config.ReadingConfig.{ReadingConfig}
use Rattle.imgproc.specs.declared.reading.ReadingCounts.{ReadingCounts}
use Rattle.imgproc.specs.declared.reading.judging.Judgement.{Judgement}
use Rattle.imgproc.specs.declared.reading.judging.Judgement.TheVariants.{Dark, Light, Skipped}
use Rattle.imgproc.specs.declared.ImgProcError.{ImgProcError}
use Rattle.std.specs.Prelude.{Result, Ok, Err}
use Rattle.imgproc.specs.declared.grid.config.TileThresholdConfig.{TileThresholdConfig}
use Rattle.imgproc.specs.declared.ImgProcError.TheVariants.{InvalidKernel, WorkspaceTooSmall, GridBufferTooSmall}
use Rattle.imgproc.specs.declared.threshold.config.SauvolaConfig.{SauvolaConfig}
use Rattle.imgproc.specs.Reach.{R, walk}
use Rattle.imgproc.specs.Morphology.{swept_rect, opened}
use Rattle.imgproc.specs.Division.{divided}
use Rattle.imgproc.specs.Grid.{tiles_y_of, skip_of, open_tiles}
use Rattle.imgproc.specs.Refusals.{
  error_number,
  Conditions,
  first,
  refused_if,
  ◌then◌,
  answer_by,
  left_by,
  Lent,
  pair_conditions,
  bad_kernel,
  division_settings,
  sauvola_settings,
  table_entries,
}
use Rattle.imgproc.specs.GridCalls.{grid_settings, tile_count}
use Rattle.imgproc.specs.Sauvola.{at_or_below}

-- which of the three a judgement is
abbrev pub is_dark : Judgement → Bool
is_dark Dark = true
is_dark Light = false
is_dark Skipped = false

abbrev pub is_light : Judgement → Bool
is_light Dark = false
is_light Light = true
is_light Skipped = false

abbrev pub is_skipped : Judgement → Bool
is_skipped Dark = false
is_skipped Light = false
is_skipped Skipped = true

-- flattened, that is divided by its closing with the element, then opened with m
abbrev pub opened_of : ReadingConfig → ℕ → ℕ → List ℕ → List ℕ
opened_of s w h p = opened s.opening_kernel w h (divided s.division w h p)

-- the judgement of pixel (x, y) over the opened picture o: skipped where the skip of its tile holds, else dark at or
-- below the threshold there, else light
unfoldable pub judged_over : ReadingConfig → ℕ → ℕ → List ℕ → ℕ → ℕ → Judgement
unfolding skip_of at_or_below
judged_over s w h o x y =
    cond (skip_of s.grid w h o (x / s.grid.tile_width) (y / s.grid.tile_height)) Skipped
    (cond (at_or_below s.sauvola w h o x y) Dark Light)

-- the judgement of pixel (x, y) of the packed source p
unfoldable pub judged : ReadingConfig → ℕ → ℕ → List ℕ → ℕ → ℕ → Judgement
unfolding swept_rect divided judged_over
judged s w h p x y = judged_over s w h (opened_of s w h p) x y

-- how many pixels pass a test
unfoldable pub pixels : ℕ → ℕ → (ℕ → ℕ → Bool) → ℕ
unfolding walk
pixels w h test = walk (λ i. test (i % w) (i / w)) (w * h)

-- a closing with the element and an opening with m, two sweeps each: 2R(k) + 2R(m)
abbrev pub comparisons_of : ReadingConfig → ℕ → ℕ → ℕ
comparisons_of s w h = 2 * R s.division.structuring_element w h + 2 * R s.opening_kernel w h

-- the four numbers of a reading
pub record ReadingNumbers : Type 0 where
  pub dark : ℕ
  pub light : ℕ
  pub skipped : ℕ
  pub comparisons : ℕ

-- how many pixels are judged dark, light and skipped, and the comparisons
unfoldable pub reading_of : ReadingConfig → ℕ → ℕ → List ℕ → ReadingNumbers
unfolding judged pixels R
reading_of s w h p = record {
  dark = pixels w h (λ x y. is_dark (judged s w h p x y));
  light = pixels w h (λ x y. is_light (judged s w h p x y));
  skipped = pixels w h (λ x y. is_skipped (judged s w h p x y));
  comparisons = comparisons_of s w h;
}

-- the byte of a judgement: a skipped pixel gets light_value
abbrev pub byte_of : SauvolaConfig → Judgement → ℕ
byte_of s Dark = s.dark_value
byte_of s Light = s.light_value
byte_of s Skipped = s.light_value

-- the picture that a reading leaves in the destination's rows, packed
unfoldable pub marked : ReadingConfig → ℕ → ℕ → List ℕ → List ℕ
unfolding judged
marked s w h p = plane w h (λ x y. byte_of s.sauvola (judged s w h p x y))

-- ---- what is refused, answered and left

-- the division's settings 7; m 6; the grid's 7; the threshold's 7
unfoldable pub reading_settings : ReadingConfig → Conditions
reading_settings s =
    division_settings s.division then
    refused_if (bad_kernel s.opening_kernel) InvalidKernel then
    grid_settings s.grid then
    sauvola_settings s.sauvola

-- the planes of w × h bytes that the byte workspace begins with
abbrev pub planes : ℕ
planes = 9

-- where the skips of the tiles stand: after the planes
abbrev pub marks_at : ℕ → ℕ → ℕ
marks_at w h = planes * (w * h)

-- the bytes that a reading asks for: 9wh + 2t
abbrev pub reading_bytes : TileThresholdConfig → ℕ → ℕ → ℕ
reading_bytes grid w h = marks_at w h + 2 * tile_count grid w h

-- and the u64s: 2(w + 1)(h + 1) + 5t
abbrev pub reading_u64s : TileThresholdConfig → ℕ → ℕ → ℕ
reading_u64s grid w h = table_entries w h + 5 * tile_count grid w h

-- either workspace too short for a picture and the tiles of a grid over it; a count buffer under tiles_y
abbrev pub room_over : Geometry → TileThresholdConfig → ℕ → ℕ → ℕ → Conditions
room_over g grid bytes u64s open_room =
    refused_if
    (ltb bytes (reading_bytes grid g.width g.height)
    || ltb u64s (reading_u64s grid g.width g.height))
    WorkspaceTooSmall then
    refused_if (ltb open_room (tiles_y_of grid g.height)) GridBufferTooSmall

-- and with a reading's settings
abbrev pub reading_room : Geometry → ReadingConfig → ℕ → ℕ → ℕ → Conditions
reading_room g s bytes u64s open_room = room_over g s.grid bytes u64s open_room

-- what a reading is lent
pub record ReadingLent : Type 0 where
  pub src : List ℕ
  pub source : Geometry
  pub dst : List ℕ
  pub target : Geometry
  pub settings : ReadingConfig
  pub bytes : List ℕ
  pub u64s : List ℕ
  pub open_tiles : List ℕ

-- what is left of it
pub record ReadingLeft : Type 0 where
  pub dst : List ℕ
  pub bytes : List ℕ
  pub u64s : List ℕ
  pub open_tiles : List ℕ

-- what a reading says: the four numbers, or the number of the refusal
abbrev pub numbers_of : ReadingCounts → ReadingNumbers
numbers_of c = record { dark = c.dark; light = c.light; skipped = c.skipped; comparisons = c.tally.comparisons }

abbrev pub read_answer : Result ReadingCounts ImgProcError → Answer ReadingNumbers
read_answer (Ok c) = accepted (numbers_of c)
read_answer (Err e) = refused (error_number e)

-- what a reading with settings that are checked by a list of their own is refused for: the layouts; 5; the settings;
-- the workspaces; the count buffer
abbrev pub reading_conditions_by : Conditions → ReadingLent → Conditions
reading_conditions_by settings lent =
    pair_conditions (length lent.src) lent.source (length lent.dst) lent.target then
    settings then
    reading_room lent.source lent.settings (length lent.bytes) (length lent.u64s) (length lent.open_tiles)

abbrev pub reading_conditions : ReadingLent → Conditions
reading_conditions lent = reading_conditions_by (reading_settings lent.settings) lent

-- the numbers of what was lent, and its marks in the destination's rows
abbrev pub numbers_from : ReadingLent → ReadingNumbers
numbers_from lent = let g = lent.source in reading_of lent.settings g.width g.height (picture lent.src g)

abbrev pub marks_from : ReadingLent → List ℕ
marks_from lent =
    let g = lent.source in
    painted_on lent.dst lent.target (marked lent.settings g.width g.height (picture lent.src g))

-- the count buffer as a build over the opened picture leaves it
abbrev pub open_tiles_from : ReadingLent → List ℕ
open_tiles_from lent =
    let g = lent.source in
    overwritten 0
    (open_tiles lent.settings.grid g.width g.height (opened_of lent.settings g.width g.height (picture lent.src g)))
    lent.open_tiles

-- a reading by a list of conditions: its answer, the destination's bytes, both workspaces, and the count buffer
pub record ReadsBy (cs : Conditions) (lent : ReadingLent) (answer : Answer ReadingNumbers) (left : ReadingLeft)
    : Type 0 where
  pub answers : answer ≡ answer_by (first cs) (numbers_from lent)
  pub leaves : left.dst ≡ left_by (first cs) (marks_from lent) lent.dst
  pub bytes_left : Lent (first cs) lent.bytes left.bytes
  pub u64s_left : Lent (first cs) lent.u64s left.u64s
  pub open_tiles_left : left.open_tiles ≡ left_by (first cs) (open_tiles_from lent) lent.open_tiles

-- the contract of a reading
abbrev pub Reads : ReadingLent → Answer ReadingNumbers → ReadingLeft → Type 0
Reads lent = ReadsBy (reading_conditions lent) lent
