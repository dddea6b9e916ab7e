-- The contracts of the calls that set or clear a skip by hand: their refusals, their answer and the buffers that they
-- leave; and what a list of such calls is, for the promise about it (BlankingLaws). Definitions only.
use Rattle.std.specs.Prelude.{ℕ, zero, suc, ◌+◌, ◌*◌, ◌≤◌, ◌<◌, ◌≡◌, ◌⊎◌, Bool, true, ◌&&◌, ◌||◌}
use Rattle.std.specs.Prelude.{List, [], ◌∷◌, ltb, length, get_or, set}
use Rattle.image.specs.Answers.{Answer, Bare, bare}
use Rattle.imgproc.specs.declared.grid.queries.TileThresholdGrid.{TileThresholdGrid}
use Rattle.imgproc.specs.Refusals.{Conditions, first, answer_by, left_by}
use Rattle.imgproc.specs.GridCalls.{
  BuildLent,
  BuildLeft,
  grid_over,
  query_conditions,
  tile_row_of,
  skipped,
  open_in,
  Place,
  place_by,
}

-- a call about tile (i, j), of a buffer of len bytes and a count buffer of open_room numbers: under t, or under
-- tiles_y, is too short
abbrev pub tile_conditions : TileThresholdGrid → ℕ → ℕ → ℕ → ℕ → Conditions
tile_conditions q len open_room i j =
    query_conditions q
    (ltb len (q.tiles_x * q.tiles_y) || ltb open_room q.tiles_y)
    (ltb i q.tiles_x && ltb j q.tiles_y)

-- what such a call is lent: the grid's sizes, the skip bytes, the count buffer, and the tile by its column and row
pub record SkipLent : Type 0 where
  pub grid : TileThresholdGrid
  pub skips : List ℕ
  pub open_tiles : List ℕ
  pub column : ℕ
  pub row : ℕ

-- what is left of it
pub record SkipLeft : Type 0 where
  pub skips : List ℕ
  pub open_tiles : List ℕ

module _ (lent : SkipLent) where
  -- both buffers as they were lent
  abbrev pub buffers_lent : SkipLeft
  buffers_lent = record { skips = lent.skips; open_tiles = lent.open_tiles }

  -- what it is refused for
  abbrev pub skip_conditions : Conditions
  skip_conditions = tile_conditions lent.grid (length lent.skips) (length lent.open_tiles) lent.column lent.row

  -- the skip bytes, that of the tile set to v
  abbrev pub skips_with : ℕ → List ℕ
  skips_with v = set lent.skips (lent.row * lent.grid.tiles_x + lent.column) v

  -- the count buffer, the tile's row counted afresh from them
  abbrev pub open_tiles_with : ℕ → List ℕ
  open_tiles_with v = set lent.open_tiles lent.row (open_in (skips_with v) lent.grid.tiles_x lent.row)

-- a call that sets the skip byte of its tile to v
pub record SetsSkip (v : ℕ) (lent : SkipLent) (answer : Answer Bare) (left : SkipLeft) : Type 0 where
  pub answers : answer ≡ answer_by (first (skip_conditions lent)) bare
  pub skips_left : left.skips ≡ left_by (first (skip_conditions lent)) (skips_with lent v) lent.skips
  pub open_tiles_left :
      left.open_tiles ≡ left_by (first (skip_conditions lent)) (open_tiles_with lent v) lent.open_tiles

-- the contract of `blank`: the byte is 1
abbrev pub Blanks : SkipLent → Answer Bare → SkipLeft → Type 0
Blanks = SetsSkip 1

-- the contract of `clear`: the byte is 0
abbrev pub Clears : SkipLent → Answer Bare → SkipLeft → Type 0
Clears = SetsSkip 0

-- ---- any list of such calls

-- looking at every tile: the n tiles from i on are all skipped
unfoldable pub all_skipped : List ℕ → ℕ → ℕ → Bool
all_skipped d i zero = true
all_skipped d i (suc n) = all_skipped d i n && skipped d (i + n)

-- what looking at every tile of the tile row of pixel row y says
abbrev pub looked_at : TileThresholdGrid → List ℕ → ℕ → Bool
looked_at q d y = all_skipped d (tile_row_of q y * q.tiles_x) q.tiles_x

-- the sizes of a build's grid
abbrev pub grid_from : BuildLent → TileThresholdGrid
grid_from lent = grid_over lent.settings lent.source.width lent.source.height

-- the two buffers as a build leaves them
abbrev pub buffers_from : BuildLeft → SkipLeft
buffers_from left = record { skips = left.skips; open_tiles = left.open_tiles }

-- a step of a list: the tile that a call names, its answer, and what it leaves
pub record Step : Type 0 where
  pub column : ℕ
  pub row : ℕ
  pub answer : Answer Bare
  pub left : SkipLeft

-- the call is lent what the step before left
abbrev pub lent_to : TileThresholdGrid → SkipLeft → Step → SkipLent
lent_to q before s = record {
  grid = q;
  skips = before.skips;
  open_tiles = before.open_tiles;
  column = s.column;
  row = s.row;
}

-- and meets the contract of `blank` or that of `clear`
abbrev pub Meets : TileThresholdGrid → SkipLeft → Step → Type 0
Meets q before s = Blanks (lent_to q before s) s.answer s.left ⊎ Clears (lent_to q before s) s.answer s.left

-- so does each step of a list
abbrev pub AllMeet : TileThresholdGrid → SkipLeft → List Step → Type 0
AllMeet q before [] = Unit
AllMeet q before (s ∷ rest) = Meets q before s × AllMeet q s.left rest

-- what the last step leaves
abbrev pub left_after : SkipLeft → List Step → SkipLeft
left_after before [] = before
left_after before (s ∷ rest) = left_after s.left rest

-- the invariant: each stored number is the number of open tiles of its row
pub record TilesCounted (q : TileThresholdGrid) (b : SkipLeft) : Type 0 where
  pub room : q.tiles_y ≤ length b.open_tiles
  pub each : (j : ℕ) → j < q.tiles_y → get_or b.open_tiles j 0 ≡ open_in b.skips q.tiles_x j

-- ---- inside: the place of the tile, or the refusal

abbrev pub tile_place : TileThresholdGrid → ℕ → ℕ → ℕ → ℕ → Place
tile_place q len open_room i j = place_by (first (tile_conditions q len open_room i j)) (j * q.tiles_x + i)
