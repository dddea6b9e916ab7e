-- The stages of a reading in its workspaces: flattened and opened, and the tiles' marks. Assumes nothing.
use mathlib.Core.Path.{◌≡◌, refl, sym, ap, ap₂, ◌∙◌}
use mathlib.Core.List.{List}
use mathlib.Core.Logic.{inl, inr}
use mathlib.Core.Bool.{true, false}
use Prim.Native.Nat.{ℕ, ◌+◌, ◌*◌, ◌/◌, ◌%◌, ◌≤◌, ◌<◌}
use native.Mathlib.Omega.{arith}
use lib.ListN.{length, take}
use lib.Seq.{length-take-le}
use Rattle.image.specs.declared.Geometry.{Geometry}
use Rattle.image.specs.Plane.{part, overwritten}
use Rattle.image.specs.PlaneLaws.{length-tabulate, length-overwritten, part_before, part_overwritten}
use Rattle.image.specs.Views.{picture_again}
use Rattle.imgproc.specs.declared.reading.config.ReadingConfig.{ReadingConfig}
use Rattle.imgproc.specs.declared.morphology.tally.Tally.{Tally}
use Rattle.imgproc.specs.declared.morphology.sweeps.Planes.{Planes}
use Rattle.imgproc.specs.Tallies.{raised_twice, room_left}
use Rattle.imgproc.specs.Fold.{bit}
use Rattle.imgproc.specs.Walks.{lines_walks_le}
use Rattle.imgproc.specs.Morphology.{opened}
use Rattle.imgproc.specs.Sweeps.{PairReady, PairMorphed}
use Rattle.imgproc.specs.Division.{Flattened}
use Rattle.imgproc.specs.Grid.{tiles_x_of, tiles_y_of, skip_of, skips}
use Rattle.imgproc.specs.Gathering.{Tiled}
use Rattle.imgproc.specs.Tiles.{Sized, each_tile, skip_by}
use Rattle.imgproc.specs.ReadingSteps.{OpenReady, Opened, MarkReady, Marks}
use Rattle.imgproc.specs.GridMeans.{sized_of}
use Rattle.imgproc.proofs.grid.tiles.Gathering.{AllGathered}
use Rattle.imgproc.proofs.grid.bytes.Tables.{skips_are}

-- ---- flattened and opened
module _ {tally : Tally} {g : Geometry} {s : ReadingConfig} {ws : List ℕ} (wide : 0 < g.width)
    (ready : OpenReady tally g s ws) where
  module _ {src : List ℕ} {raised : Tally} {first : List ℕ} (flat : Flattened tally src g s.division ws raised first) where
    -- the planes of the opening: from the second back to the first
    abbrev pub second_to_first : Planes
    second_to_first = record { from = g.width * g.height; to = 0; spare = 2 * (g.width * g.height); width = g.width; height = g.height }

    pub open_ready : PairReady raised first second_to_first s.opening_kernel s.opening_kernel
    open_ready =
        let across = lines_walks_le s.division.structuring_element g.width g.height in
        let down = lines_walks_le s.division.structuring_element g.height g.width in
        record {
          once = record {
            rows = record {
              source = omega (arith, flat.long, ready.fits);
              target = omega (arith, flat.long, ready.fits);
              scratch = omega (arith, flat.long, ready.fits);
              source_apart = record { clear = inl (omega arith) };
              target_apart = record { clear = inl (omega arith) };
              planes = inr (record { clear = inr (omega arith) });
              kernel = ready.kernel;
              room = room_left ready.room flat.counted (omega arith);
            };
            columns = ready.kernel;
            wide = wide;
            room = room_left ready.room flat.counted (omega arith);
          };
          room = room_left ready.room flat.counted (omega arith);
        }

    -- the opening leaves the flattened picture opened, and the tally raised by both
    pub opened_is : {r : Tally} {second : List ℕ}
        → PairMorphed raised first second_to_first s.opening_kernel s.opening_kernel true false r second
        → Opened tally src g s ws r second
    opened_is o = record {
      leaves = o.leaves ∙ ap (opened s.opening_kernel g.width g.height) flat.leaves;
      counted = raised_twice flat.counted o.counted refl;
      long = o.kept.long ∙ flat.long;
    }

-- ---- the tiles' marks
module _ {g : Geometry} {s : ReadingConfig} {at : ℕ} {bytes u64s : List ℕ} (ready : MarkReady g s at bytes u64s) where
  pub prefix_long : length (take (g.width * g.height) bytes) ≡ g.width * g.height
  prefix_long = length-take-le (g.width * g.height) bytes (omega (arith, ready.behind, ready.bytes_fit))

  pub sized : Sized s.grid g.width g.height
  sized = sized_of ready.layout ready.tile_width ready.tile_height

  -- the opened picture, packed, and its grid
  abbrev pub tiled : Tiled
  tiled = record { src = take (g.width * g.height) bytes; source = g; settings = s.grid }

  -- the numbers of all its tiles, as `gather` leaves them from the start of the u64 workspace on
  module _ {u64s' : List ℕ} (as_long : length u64s' ≡ length u64s) (got : AllGathered tiled 0 u64s') where
    new : List ℕ
    new = skips s.grid g.width g.height (part 0 (g.width * g.height) bytes)

    new_long : length new ≡ tiles_x_of s.grid g.width * tiles_y_of s.grid g.height
    unfolding new skips
    new_long =
        let across = tiles_x_of s.grid g.width in
        length-tabulate
        (λ i. bit (skip_of s.grid g.width g.height (part 0 (g.width * g.height) bytes) (i % across) (i / across)))
        (across * tiles_y_of s.grid g.height)

    is_new : each_tile (skip_by s.grid) s.grid g.width g.height 0 u64s' ≡ new
    unfolding new
    is_new =
        skips_are tiled 0 sized got
        ∙ ap (skips s.grid g.width g.height)
        (picture_again (take (g.width * g.height) bytes) g ready.layout.wide ready.tight prefix_long)

    pub marked : {bytes' : List ℕ}
        → bytes' ≡ overwritten at (each_tile (skip_by s.grid) s.grid g.width g.height 0 u64s') bytes
        → Marks g s at bytes u64s bytes' u64s'
    unfolding new
    marked {bytes'} is =
        let m = g.width * g.height in
        let e : bytes' ≡ overwritten at new bytes = is ∙ ap (λ (p : List ℕ). overwritten at p bytes) is_new in
        let fits : at + length new ≤ length bytes = omega (arith, new_long, ready.bytes_fit) in
        let long = length-overwritten at new bytes fits in
        record {
          opened = ap (part 0 m) e ∙ part_before at new bytes fits 0 m (omega (arith, ready.behind));
          skips = ap₂ (λ (c : ℕ) (d : List ℕ). part at c d) (sym new_long) e ∙ part_overwritten at new bytes fits;
          bytes_long = ap length e ∙ long;
          u64s_long = as_long;
        }
