-- The workspace after all tiles is what the table of tiles asks for. Assumes nothing.
use mathlib.Core.Path.{◌≡◌, sym, ap, ap₂, ◌∙◌, subst}
use mathlib.Core.List.{List}
use Prim.Native.Nat.{ℕ, ◌+◌, ◌*◌, ◌≤◌, ◌<◌}
use native.Mathlib.Omega.{arith}
use lib.Arith.{digits_mod, digits_div}
use lib.ListN.{length}
use Rattle.image.specs.Plane.{pixel}
use Rattle.image.specs.PlaneLaws.{in_plane}
use Rattle.imgproc.specs.declared.grid.tiles.TileNumbers.{TileNumbers}
use Rattle.imgproc.specs.Grid.{tiles_x_of, tiles_y_of}
use Rattle.imgproc.specs.Tiles.{numbers_in, tile, tile_entry, entry, Gathered}
use Rattle.imgproc.specs.Gathering.{Tiled, tiles_of, tile_numbers, Gathers}
use Rattle.imgproc.specs.GatheringLaws.{as_long, each_own}

-- ws holds the numbers of every tile from `at` on
abbrev pub AllGathered : Tiled → ℕ → List ℕ → Type 0
AllGathered p at ws = Gathered (pixel p.src p.source.stride) p.settings p.source.width p.source.height at ws

module _ (p : Tiled) (at : ℕ) (lent : List ℕ) {n : ℕ} {ws : List ℕ} (N : n ≡ tiles_of p) (room : at + 5 * n ≤ length lent)
    (gathers : Gathers p at n lent ws) where
  abbrev tx : ℕ
  tx = tiles_x_of p.settings p.source.width

  abbrev ty : ℕ
  ty = tiles_y_of p.settings p.source.height

  number : (i j : ℕ) → i < tx → j < ty → j * tx + i < n
  number i j I J = omega (arith, N, in_plane tx ty i j I J)

  stands : (i j : ℕ) → i < tx → j < ty → tile_entry at tx ws i j ≡ tile_numbers p (j * tx + i)
  stands i j I J =
      let q : at + 5 * (j * tx) + 5 * i ≡ at + 5 * (j * tx + i) = omega arith in
      ap₂ entry gathers.leaves q ∙ each_own p at n lent room (j * tx + i) (number i j I J)

  pub gathered_all : AllGathered p at ws
  gathered_all = record {
    room = omega (arith, N, ap length gathers.leaves, as_long p at n lent room, room);
    bytes = λ i j I J. subst (λ (u : TileNumbers). u.maximum < 256) (sym (stands i j I J)) (gathers.bytes (j * tx + i) (number i j I J));
    each = λ i j I J.
        stands i j I J
        ∙ ap₂
        (λ (x y : ℕ). numbers_in (pixel p.src p.source.stride) (tile p.settings p.source.width p.source.height x y))
        (digits_mod j I)
        (digits_div j I);
  }
