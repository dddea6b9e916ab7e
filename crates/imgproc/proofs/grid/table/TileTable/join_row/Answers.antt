use Prim.Native.Nat.{ℕ, ◌+◌, ◌-◌}
use mathlib.Core.Path.{◌≡◌, sym, ap, ap₂, ◌∙◌, subst}
use native.Mathlib.Omega.{arith}
use Rattle.imgproc.specs.declared.grid.tiles.TileNumbers.{TileNumbers}
use Rattle.imgproc.specs.Tiles.{tile_entry, joined, join_over, Proper}
use Rattle.imgproc.proofs.grid.tiles.Joins.{join_one, join_next, row_proper, tile_proper}
use Rattle.imgproc.proofs.grid.tiles.Numbers.{sums_fit}
use Rattle.imgproc.proofs.grid.table.TileTable.join_row.Goals as goal
use Rattle.imgproc.proofs.grid.table.TileTable.join_row.Goals.{Start}

-- the numbers of the tiles of the row
abbrev entries : Start → ℕ → TileNumbers
entries s i = tile_entry s.args.self.at s.args.self.tiles.tiles_x s.args.self.workspace.now i s.args.j

pub loop-i-init : goal.loop-i-init
loop-i-init c =
    let s = (goal.at.loop-i-init c).Start in
    let e : c.args.from + 1 - 1 ≡ c.args.from = omega arith in
    c.load-numbers.ensures ∙ join_one (entries s) c.args.from ∙ ap (join_over (entries s) c.args.from) (sym e)

pub join-numbers-requires : goal.join-numbers-requires
join-numbers-requires c =
    let a = c.args in
    let i = c.loop-i.i in
    sums_fit
    (subst Proper (sym c.loop-i.invariant) (row_proper a.self.proper a.from (i - 1) a.j (omega arith) (omega arith) c.requires.0))
    (subst Proper (sym c.load.ensures) (tile_proper a.self.proper i a.j (omega arith) c.requires.0))

pub loop-i-preserved : goal.loop-i-preserved
loop-i-preserved c =
    let s = (goal.at.loop-i-preserved c).Start in
    let i = c.loop-i.i in
    let e : i + 1 - 1 ≡ i = omega arith in
    c.join-numbers.ensures
    ∙ ap₂ joined c.loop-i.invariant c.load.ensures
    ∙ join_next (entries s) c.args.from i (omega arith)
    ∙ ap (join_over (entries s) c.args.from) (sym e)
