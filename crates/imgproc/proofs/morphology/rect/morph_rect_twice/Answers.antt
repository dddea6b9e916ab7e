-- `morph_rect_twice` meets its contract: the first half leaves what the second asks. Assumes nothing.
use Rattle.imgproc.proofs.morphology.Planes.{again_ready}
use Rattle.imgproc.proofs.morphology.rect.morph_rect_twice.Goals as goal

pub morph_rect-requires-2 : goal.morph_rect-requires-2
morph_rect-requires-2 g c = rw c.in_place.ensures (again_ready c.requires c.morph_rect.ensures)
