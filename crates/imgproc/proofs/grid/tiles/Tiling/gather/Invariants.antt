-- `gather` meets its contract. The invariant: the tiles passed are gathered. Assumes nothing.
use Rattle.imgproc.specs.Gathering.{Gathers}
use Rattle.imgproc.proofs.grid.tiles.Tiling.gather.Given as goal

abbrev pub invariant-loop-t : goal.invariant-loop-t
invariant-loop-t l =
    Gathers (record { src = l.self.source.pixels.now; source = l.self.source.geometry; settings = l.self.config }) l.at l.t l.initial.workspace l.workspace
