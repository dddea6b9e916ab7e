use native.Mathlib.Omega.{arith}
use native.Mathlib.Nat.{ne_of_lt}
use mathlib.Core.Path.{◌∙◌}
use lib.ListN.{length-set}
use lib.Seq.{get_or-set_same, get_or-set_other, ext_get_or}
use borrow.Author.Count.{below_more}
use Rattle.image.proofs.copy_row.Goals as goal

pub loop-i-preserved : goal.loop-i-preserved
loop-i-preserved c = (
  length-set c.loop-i.dst c.loop-i.i _ ∙ c.loop-i.invariant.0,
  below_more _ c.loop-i.i
      (λ k l. get_or-set_other c.loop-i.dst c.loop-i.i k _ 0 (ne_of_lt l) ∙ c.loop-i.invariant.1 k l)
      (get_or-set_same c.loop-i.dst c.loop-i.i _ 0 (omega arith)),
)

pub returns : goal.returns
returns c = ext_get_or 0 c.loop-i.dst c.args.src.now (omega arith) (λ k l. c.loop-i.invariant.1 k (omega arith))
