use Prim.Native.Nat.{ℕ, ◌+◌, ◌-◌, ◌≤◌, ◌<◌}
use mathlib.Core.Path.{◌≡◌, sym, ap, ap₂, ◌∙◌, subst}
use mathlib.Core.List.{List}
use native.Mathlib.Omega.{arith}
use lib.ListN.{length, get_or, take, drop}
use Rattle.std.proofs.Common.{length-drop}
use Rattle.std.proofs.lemmas.List.{get_or-drop, get_or-take, length-take-le}
use Rattle.image.specs.Layout.{row_layout}
use Rattle.image.specs.Plane.{pixel}
use Rattle.image.specs.Row.{row_in}
use Rattle.image.specs.RowLaws.{row_long, row_pixel}
use Rattle.imgproc.specs.declared.grid.tiles.TileNumbers.{TileNumbers}
use Rattle.imgproc.specs.Fold.{Box}
use Rattle.imgproc.specs.Tiles.{numbers_in, line_numbers, joined, Proper}
use Rattle.imgproc.proofs.grid.tiles.Numbers.{same_line, one_row, below, proper, sums_fit}
use Rattle.imgproc.proofs.grid.tiles.TileNumbers.of_area.Goals as goal
use Rattle.imgproc.proofs.grid.tiles.TileNumbers.of_area.Goals.{Start}

-- the rows a..b of the box, and their numbers
abbrev rows : Start → ℕ → ℕ → Box
rows s a b = record { left = s.args.area.left; right = s.args.area.right; top = a; bottom = b }

abbrev numbers : Start → ℕ → ℕ → TileNumbers
numbers s a b = numbers_in (pixel s.args.source.pixels.now s.args.source.geometry.stride) (rows s a b)

-- the part of a row that was handed out
module _ (s : Start) (y : ℕ) (t : y < (s.args.area.bottom + 1)) {r : List ℕ}
    (e : r ≡ row_in (row_layout (length s.args.source.pixels.now) s.args.source.geometry y) s.args.source.pixels.now y) where
  asked : y < s.args.source.geometry.height
  asked = omega (arith, s.requires.bottom)

  room : s.args.area.right + 1 ≤ length r
  room = omega (arith, row_long s.args.source.pixels.now s.args.source.geometry s.args.source.kept y asked e, s.requires.right)

  abbrev part : List ℕ
  part = take (s.args.area.right + 1 - s.args.area.left) (drop s.args.area.left r)

  part_long : length part ≡ s.args.area.right + 1 - s.args.area.left
  part_long = length-take-le _ _ (simp length-drop (omega (arith, room)))

  part_is : (x : ℕ) → x ≤ s.args.area.right - s.args.area.left → get_or part x 0 ≡ pixel s.args.source.pixels.now s.args.source.geometry.stride (s.args.area.left + x) y
  part_is x h =
      get_or-take (s.args.area.right + 1 - s.args.area.left) (drop s.args.area.left r) x 0 (omega (arith, s.requires.some.across))
      ∙ get_or-drop s.args.area.left r x 0
      ∙ row_pixel s.args.source.pixels.now s.args.source.geometry s.args.source.kept y asked e (s.args.area.left + x)
      (omega (arith, s.requires.some.across, s.requires.right))

  -- its numbers are those of a box of one row
  row_is : line_numbers (λ x. get_or part x 0) 0 (length part - 1) ≡ numbers s y y
  row_is =
      let n : length part - 1 ≡ s.args.area.right - s.args.area.left = omega (arith, part_long) in
      ap (line_numbers (λ x. get_or part x 0) 0) n
      ∙ same_line (λ x. get_or part x 0) (λ x. pixel s.args.source.pixels.now s.args.source.geometry.stride x y)
      s.args.area.left s.args.area.right (omega (arith, s.requires.some.across)) part_is
      ∙ one_row (pixel s.args.source.pixels.now s.args.source.geometry.stride) s.args.area.left s.args.area.right y

rows_proper : (s : Start) (a b : ℕ) → a ≤ b → b < (s.args.area.bottom + 1) → {n : TileNumbers} → n ≡ numbers s a b → n.maximum < 256 → Proper n
rows_proper s a b p q e h =
    subst Proper (sym e)
    (proper (rows s a b)
    (record { across = omega (arith, s.requires.some.across); down = p })
    (omega (arith, s.args.source.kept.small_width, s.requires.right))
    (omega (arith, s.args.source.kept.small_height, s.requires.bottom))
    (pixel s.args.source.pixels.now s.args.source.geometry.stride)
    (subst (λ (m : TileNumbers). m.maximum < 256) e h))

pub slice_bounds-of_line-end : goal.slice_bounds-of_line-end
slice_bounds-of_line-end c =
    room (goal.at.slice_bounds-of_line-end c).Start c.args.area.top (omega (arith, c.requires.some.down)) c.row.ensures.bytes

pub loop-y-init : goal.loop-y-init
loop-y-init c =
    let s = (goal.at.loop-y-init c).Start in
    let e : c.args.area.top + 1 - 1 ≡ c.args.area.top = omega arith in
    (c.of_line-numbers.ensures ∙ row_is s c.args.area.top (omega (arith, c.requires.some.down)) c.row.ensures.bytes ∙ ap (numbers s c.args.area.top) (sym e), omega arith)

pub slice_bounds-of_line-end-in-loop-y : goal.slice_bounds-of_line-end-in-loop-y
slice_bounds-of_line-end-in-loop-y c =
    room (goal.at.slice_bounds-of_line-end-in-loop-y c).Start c.loop-y.y c.loop-y-test.true c.row-in-loop-y.ensures.bytes

pub join-numbers-requires : goal.join-numbers-requires
join-numbers-requires c =
    let s = (goal.at.join-numbers-requires c).Start in
    let y = c.loop-y.y in
    sums_fit
    (rows_proper s c.args.area.top (y - 1) (omega arith) (omega (arith, c.loop-y-test.true)) c.loop-y.invariant.0 (omega (arith, c.loop-y.invariant.1)))
    (rows_proper s y y (omega arith) c.loop-y-test.true (c.of_line-next.ensures ∙ row_is s y c.loop-y-test.true c.row-in-loop-y.ensures.bytes)
    (omega arith))

pub loop-y-preserved : goal.loop-y-preserved
loop-y-preserved c =
    let s = (goal.at.loop-y-preserved c).Start in
    let y = c.loop-y.y in
    let e : y + 1 - 1 ≡ y = omega arith in
    let d : y - 1 + 1 ≡ y = omega arith in (
      c.join-numbers.ensures
          ∙ ap₂ joined c.loop-y.invariant.0
          (c.of_line-next.ensures ∙ row_is s y c.loop-y-test.true c.row-in-loop-y.ensures.bytes ∙ ap (λ (k : ℕ). numbers s k y) (sym d))
          ∙ sym
          (below (pixel c.args.source.pixels.now c.args.source.geometry.stride) c.args.area.left c.args.area.right c.args.area.top (y - 1) y (omega arith) (omega arith))
          ∙ ap (numbers s c.args.area.top) (sym e),
      omega arith,
    )
