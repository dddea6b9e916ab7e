-- After an accepted build and any list of blankings and clearings, refused ones among them, `row_all_skip` says what
-- looking at every tile says: drawn from the contracts alone. Assumes nothing.
use Rattle.std.specs.Prelude.{Ok, Err}
use Rattle.std.specs.Prelude.{ℕ, ◌+◌, ◌*◌, ◌/◌, ◌<◌, ◌≡◌, refl, not, eqb}
use Rattle.std.specs.Prelude.{List, [], ◌∷◌, length, get_or}
use Rattle.std.proofs.Common.{sym, ap, ◌∙◌, arith, ⊎_elim, length-set}
use Rattle.std.proofs.Math.Arith.{digits_div}
use Rattle.std.proofs.lemmas.List.{get_or-set_same, get_or-set_other}
use Rattle.image.specs.Answers.{Answer, Bare, accepted}
use Rattle.image.specs.Plane.{picture}
use Rattle.imgproc.specs.declared.grid.TileCounts.{TileCounts}
use Rattle.imgproc.specs.declared.grid.queries.TileThresholdGrid.{TileThresholdGrid}
use Rattle.imgproc.specs.Walks.{cases, same_walk}
use Rattle.imgproc.specs.Refusals.{Check, first}
use Rattle.imgproc.specs.RefusalLaws.{taken}
use Rattle.imgproc.specs.Grid.{tiles_x_of}
use Rattle.imgproc.specs.GridCalls.{BuildLent, BuildLeft, skips_over, open_tiles_over, build_conditions, Builds}
use Rattle.imgproc.specs.GridCalls.{skipped, open_in, row_skip_asked}
use Rattle.imgproc.specs.GridMeans.{build_sized, build_rooms, tile_named, row_inside, row_answers}
use Rattle.imgproc.specs.Blanking.{
  SkipLent,
  SkipLeft,
  buffers_lent,
  skip_conditions,
  skips_with,
  open_tiles_with,
  SetsSkip,
  Blanks,
  Clears,
  looked_at,
  grid_from,
  buffers_from,
  Step,
  lent_to,
  AllMeet,
  left_after,
  TilesCounted,
}
use Rattle.imgproc.specs.OpenLaws.{none_open, filled_row, stored_long, stored_number}

-- ---- the invariant

-- an accepted build makes it
module _ {lent : BuildLent} {counts : TileCounts} {left : BuildLeft} (builds : Builds lent (accepted counts) left) where
  accepted_build : first (build_conditions lent) ≡ Ok tt
  accepted_build = (taken (first (build_conditions lent)) builds.answers).0

  built_skips : left.skips ≡ skips_over lent
  built_skips = builds.skips_left ∙ rw accepted_build

  built_numbers : left.open_tiles ≡ open_tiles_over lent
  built_numbers = builds.open_tiles_left ∙ rw accepted_build

  pub built_counted : TilesCounted (grid_from lent) (buffers_from left)
  built_counted =
      let g = lent.source in
      let p = picture lent.src g in
      let r = build_rooms lent accepted_build in
      record {
        room =
            omega (
              arith,
              ap length built_numbers,
              stored_long lent.settings g.width g.height p lent.open_tiles r.open_tiles,
              r.open_tiles,
            );
        each = λ j J.
            ap (λ (d : List ℕ). get_or d j 0) built_numbers
            ∙ stored_number lent.settings g.width g.height p lent.open_tiles r.open_tiles j J
            ∙ sym (filled_row lent.settings g.width g.height p lent.skips r.skips j J)
            ∙ ap (λ (d : List ℕ). open_in d (tiles_x_of lent.settings g.width) j) (sym built_skips);
      }

-- a call that sets a byte keeps it: its own row is counted afresh, and no other row holds the tile
module _ {v : ℕ} {lent : SkipLent} {answer : Answer Bare} {left : SkipLeft} (sets : SetsSkip v lent answer left)
    (counted : TilesCounted lent.grid (buffers_lent lent)) where
  abbrev tx : ℕ
  tx = lent.grid.tiles_x

  other_row : lent.column < tx → (j : ℕ) → (j ≡ lent.row → ⊥)
      → open_in (skips_with lent v) tx j ≡ open_in lent.skips tx j
  unfolding open_in
  other_row X j n =
      let t = lent.row * tx + lent.column in
      same_walk (λ i. not (skipped (skips_with lent v) (j * tx + i))) (λ i. not (skipped lent.skips (j * tx + i))) tx
      (λ i I.
      ap (λ (b : ℕ). not (not (eqb b 0)))
      (get_or-set_other lent.skips t (j * tx + i) v 0
      (λ (e : j * tx + i ≡ t).
      n (sym (digits_div j I) ∙ ap (λ (k : ℕ). k / tx) e ∙ digits_div lent.row X))))

  kept : (c : Check) → first (skip_conditions lent) ≡ c → TilesCounted lent.grid left
  kept (Err e) r =
      let skips : left.skips ≡ lent.skips = sets.skips_left ∙ rw r in
      let numbers : left.open_tiles ≡ lent.open_tiles = sets.open_tiles_left ∙ rw r in
      record {
        room = omega (arith, ap length numbers, counted.room);
        each = λ j J.
            ap (λ (d : List ℕ). get_or d j 0) numbers
            ∙ counted.each j J
            ∙ ap (λ (d : List ℕ). open_in d tx j) (sym skips);
      }
  kept (Ok u) r =
      let skips : left.skips ≡ skips_with lent v = sets.skips_left ∙ rw r in
      let numbers : left.open_tiles ≡ open_tiles_with lent v = sets.open_tiles_left ∙ rw r in
      let n = open_in (skips_with lent v) tx lent.row in
      let i = tile_named lent.grid _ _ _ _ r in
      let other : (j : ℕ) → j < lent.grid.tiles_y → (j ≡ lent.row → ⊥)
      → get_or (open_tiles_with lent v) j 0 ≡ open_in (skips_with lent v) tx j =
      λ j J o.
      get_or-set_other lent.open_tiles lent.row j n 0 o ∙ counted.each j J ∙ sym (other_row i.0 j o) in
      record {
        room = omega (arith, ap length numbers, length-set lent.open_tiles lent.row n, counted.room);
        each = λ j J.
            ap (λ (d : List ℕ). get_or d j 0) numbers
            ∙ cases j lent.row
            (λ (e : j ≡ lent.row).
            ap (λ (k : ℕ). get_or (open_tiles_with lent v) k 0) e
            ∙ get_or-set_same lent.open_tiles lent.row n 0 (omega (arith, i.1, counted.room))
            ∙ ap (open_in (skips_with lent v) tx) (sym e))
            (λ l. other j J (λ (e : j ≡ lent.row). omega arith))
            (λ l. other j J (λ (e : j ≡ lent.row). omega arith))
            ∙ ap (λ (d : List ℕ). open_in d tx j) (sym skips);
      }

  pub set_counted : TilesCounted lent.grid left
  set_counted = kept (first (skip_conditions lent)) refl

-- so does a list of such calls
pub all_counted : (q : TileThresholdGrid) (before : SkipLeft) (steps : List Step) → TilesCounted q before
    → AllMeet q before steps → TilesCounted q (left_after before steps)
all_counted q before [] counted meet = counted
all_counted q before (s ∷ rest) counted meet =
    all_counted q s.left rest
    (⊎_elim
    (λ (b : Blanks (lent_to q before s) s.answer s.left). set_counted b counted)
    (λ (c : Clears (lent_to q before s) s.answer s.left). set_counted c counted)
    meet.0)
    meet.1

-- ---- the promise

-- after an accepted build and any list of calls, `row_all_skip` of each pixel row says what looking at every tile of
-- its tile row says
module _ {lent : BuildLent} {counts : TileCounts} {left : BuildLeft} (builds : Builds lent (accepted counts) left)
    (steps : List Step) (meet : AllMeet (grid_from lent) (buffers_from left) steps) where
  -- the buffers after the last step
  abbrev after : SkipLeft
  after = left_after (buffers_from left) steps

  pub row_says_all : (y : ℕ) → y < lent.source.height
      → row_skip_asked (grid_from lent) after.open_tiles y ≡ accepted (looked_at (grid_from lent) after.skips y)
  unfolding open_in
  row_says_all y Y =
      let z = build_sized lent (accepted_build builds) in
      let c = all_counted (grid_from lent) (buffers_from left) steps (built_counted builds) meet in
      let tx = tiles_x_of lent.settings lent.source.width in
      let j = y / lent.settings.tile_height in
      row_answers z after.open_tiles c.room y Y
      ∙ ap accepted
      (ap (λ (n : ℕ). eqb n 0) (c.each j (row_inside z after.open_tiles c.room y Y))
      ∙ sym (none_open after.skips (j * tx) tx))
