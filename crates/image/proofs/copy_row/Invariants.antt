-- `copy_row` makes the destination the source, byte by byte: the bytes below i are copied. Assumes nothing.
use Prim.Native.Nat.{ℕ, ◌<◌}
use mathlib.Core.Path.{◌≡◌}
use lib.ListN.{length, get_or}
use Rattle.image.proofs.copy_row.Given as goal

abbrev pub invariant-loop-i : goal.invariant-loop-i
invariant-loop-i l = (length l.dst ≡ length l.src) × ((k : ℕ) → k < l.i → get_or l.dst k 0 ≡ get_or l.src k 0)
