use native.Mathlib.Omega.{arith}
use Rattle.imgproc.proofs.reading.judging.Judgements.{none_judged, next_judged, room_for_one}
use Rattle.imgproc.proofs.reading.judging.Judge.row.Goals as goal

pub loop-x-init : goal.loop-x-init
loop-x-init c = none_judged

-- there is room to count the pixel at hand
pub add-requires : goal.add-requires
add-requires c = room_for_one c.loop-x-test.true c.loop-x.invariant c.requires.1.1

pub loop-x-preserved : goal.loop-x-preserved
loop-x-preserved c = next_judged _ c.loop-x.invariant (omega arith) c.pixel-judgement.ensures c.add.ensures c.byte.ensures
