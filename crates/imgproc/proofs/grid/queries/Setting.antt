-- The ways out of a call that sets a tile's skip. Assumes nothing.
use Rattle.std.specs.Prelude.{Ok, Err}
use Rattle.std.proofs.Common.{◌≡◌, ◌∙◌, ap, ℕ, ◌+◌, ◌*◌, List, length, set}
use Rattle.image.specs.Answers.{accepted, refused, bare}
use Rattle.imgproc.specs.declared.ImgProcError.{ImgProcError}
use Rattle.imgproc.specs.Refusals.{error_number, first}
use Rattle.imgproc.specs.GridCalls.{open_in}
use Rattle.imgproc.specs.Blanking.{SkipLent, buffers_lent, skip_conditions, SetsSkip, tile_place}
use Rattle.imgproc.proofs.grid.queries.Grids.{placed, unplaced}

module _ (v : ℕ) (lent : SkipLent) where
  abbrev t : ℕ
  t = lent.row * lent.grid.tiles_x + lent.column

  -- refused: both buffers are as they were lent
  pub not_set : {e : ImgProcError}
      → tile_place lent.grid (length lent.skips) (length lent.open_tiles) lent.column lent.row ≡ Err e
      → SetsSkip v lent (refused (error_number e)) (buffers_lent lent)
  not_set p =
      let r = unplaced (first (skip_conditions lent)) t p in
      record { answers = rw r; skips_left = rw r; open_tiles_left = rw r }

  -- accepted: the byte at the place is set, and its row is counted from the bytes as they are then
  pub is_set : {i n : ℕ} {skips : List ℕ}
      → tile_place lent.grid (length lent.skips) (length lent.open_tiles) lent.column lent.row ≡ Ok i
      → skips ≡ set lent.skips i v
      → n ≡ open_in skips lent.grid.tiles_x lent.row
      → SetsSkip v lent (accepted bare) (record { skips = skips; open_tiles = set lent.open_tiles lent.row n })
  is_set {i} {n} {skips} p s c =
      let q = placed (first (skip_conditions lent)) t i p in
      let bytes : skips ≡ set lent.skips t v = s ∙ rw q.1 in
      record {
        answers = rw q.0;
        skips_left = rw q.0 bytes;
        open_tiles_left =
            rw q.0
            (ap (set lent.open_tiles lent.row)
            (c ∙ ap (λ (d : List ℕ). open_in d lent.grid.tiles_x lent.row) bytes));
      }
