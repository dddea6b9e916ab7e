-- `read_start` reads until the buffer is full or the input ends; what it has read so far is what the reader has lost. Assumes nothing.
use Rattle.std.proofs.Common.{◌≡◌, ◌-◌, ◌≤◌, length, take}
use Rattle.std.specs.Io.KnownBytes.{Consumes}
use Rattle.answer.proofs.read_start.Given as goal

abbrev pub invariant-loop-n : goal.invariant-loop-n
invariant-loop-n g l = record {
  within : l.n ≤ length l.buffer;
  room : length l.buffer ≡ length l.initial.buffer;
  read : Consumes (g.R.Read.remaining l.fn.input) (g.R.Read.remaining l.input) (take l.n l.buffer);
}

abbrev pub decreases-loop-n : goal.decreases-loop-n
decreases-loop-n g l = length l.buffer - l.n
