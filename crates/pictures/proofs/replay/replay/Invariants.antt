-- There are no more cases than lines so far, and no more wrong ones than cases. Assumes nothing.
use Rattle.std.proofs.Common.{◌≤◌}
use Rattle.std.specs.Iterator.Adapters.{enumerate_count}
use Rattle.pictures.proofs.replay.replay.Given as goal

abbrev pub invariant-loop-index : goal.invariant-loop-index
invariant-loop-index l =
    (l.score.wrong ≤ l.score.cases) × (l.score.cases ≤ enumerate_count l.index-iterator)
