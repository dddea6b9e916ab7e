-- `root` meets its contract. Assumes nothing.
use mathlib.Core.Path.{◌≡◌, refl, sym, subst, ◌∙◌}
use lib.Dec.{T}
use lib.Ieee.{Float, nan, inf, fin, is_nan, of_bits}
use Rattle.imgproc.specs.Root.{root_of}
use Rattle.imgproc.proofs.root.Sqrt.{sqrt_is}
use Rattle.imgproc.proofs.root.root.Goals as goal
use Rattle.imgproc.proofs.root.root.Goals.{After-sqrt-root}

-- the definition has one NaN alone
one_nan : (x : Float) → T (is_nan x) → nan ≡ x
unfolding is_nan
one_nan nan e = refl
one_nan (inf s) e = elim e [ ]
one_nan (fin s m k) e = elim e [ ]

-- std's root is the definition's, since the format holds x
root_is : (c : After-sqrt-root) → c.sqrt-root.result ≡ root_of c.args.x
root_is c = c.sqrt-root.ensures.value ∙ sqrt_is c.args.x (subst T (sym c.well_formed.0.1) tt)

pub returns-then-is_nan : goal.returns-then-is_nan
unfolding of_bits
returns-then-is_nan c =
    let a = (goal.at.returns-then-is_nan c).After-sqrt-root in
    one_nan a.sqrt-root.result (subst T (sym (sym c.is_nan.ensures.value ∙ c.if-is_nan.true)) tt) ∙ root_is a

pub returns-else-is_nan : goal.returns-else-is_nan
returns-else-is_nan c = root_is (goal.at.returns-else-is_nan c).After-sqrt-root
