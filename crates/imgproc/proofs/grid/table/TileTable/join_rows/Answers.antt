use Prim.Native.Nat.{ℕ, ◌+◌, ◌-◌}
use mathlib.Core.Path.{◌≡◌, sym, ap, ap₂, ◌∙◌, subst}
use native.Mathlib.Omega.{arith}
use Rattle.imgproc.specs.declared.grid.tiles.TileNumbers.{TileNumbers}
use Rattle.imgproc.specs.Tiles.{tile_entry, joined, join_over, Proper}
use Rattle.imgproc.proofs.grid.tiles.Joins.{join_one, join_next, row_proper}
use Rattle.imgproc.proofs.grid.tiles.Numbers.{sums_fit}
use Rattle.imgproc.proofs.grid.table.TileTable.join_rows.Goals as goal
use Rattle.imgproc.proofs.grid.table.TileTable.join_rows.Goals.{Start}

-- the numbers of tile row j, joined
abbrev row : Start → ℕ → TileNumbers
row s j = join_over (λ i. tile_entry s.args.self.at s.args.self.tiles.tiles_x s.args.self.workspace.now i j) s.args.area.left s.args.area.right

pub loop-j-init : goal.loop-j-init
loop-j-init c =
    let s = (goal.at.loop-j-init c).Start in
    let e : c.args.area.top + 1 - 1 ≡ c.args.area.top = omega arith in
    c.join_row-numbers.ensures ∙ join_one (row s) c.args.area.top ∙ ap (join_over (row s) c.args.area.top) (sym e)

pub join-numbers-requires : goal.join-numbers-requires
join-numbers-requires c =
    let a = c.args in
    let j = c.loop-j.j in
    sums_fit
    (subst Proper (sym c.loop-j.invariant)
    (a.self.proper.each a.area.left a.area.right a.area.top (j - 1) c.requires.some.across c.requires.right (omega arith) (omega (arith, c.requires.bottom))))
    (subst Proper (sym c.join_row.ensures) (row_proper a.self.proper a.area.left a.area.right j c.requires.some.across c.requires.right (omega (arith, c.requires.bottom))))

pub loop-j-preserved : goal.loop-j-preserved
loop-j-preserved c =
    let s = (goal.at.loop-j-preserved c).Start in
    let j = c.loop-j.j in
    let e : j + 1 - 1 ≡ j = omega arith in
    c.join-numbers.ensures
    ∙ ap₂ joined c.loop-j.invariant c.join_row.ensures
    ∙ join_next (row s) c.args.area.top j (omega arith)
    ∙ ap (join_over (row s) c.args.area.top) (sym e)
