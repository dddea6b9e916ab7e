-- `pack_rows` packs the rows one after another: the first y rows stand in the workspace. Assumes nothing.
use Rattle.image.specs.FillLaws.{Filled}
use Rattle.image.specs.Plane.{pixel}
use Rattle.image.proofs.view.Gray8View.pack_rows.Given as goal

abbrev pub invariant-loop-y : goal.invariant-loop-y
invariant-loop-y l =
    Filled l.self.geometry.width l.self.geometry.height (pixel l.self.pixels.now l.self.geometry.stride) l.at l.initial.workspace l.workspace l.y
