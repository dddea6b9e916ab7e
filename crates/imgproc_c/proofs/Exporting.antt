-- Equal answers are told alike. Assumes nothing.
use Prim.Native.Nat.{ℕ}
use mathlib.Core.Path.{◌≡◌, subst}
use Rattle.image.specs.Answers.{Answer}
use Rattle.imgproc_c.specs.Exports.{Tells}

pub tells_as : {A : Type 0} {a b : Answer A} {held held' : A} {number : ℕ} → a ≡ b → Tells a held number held' → Tells b held number held'
tells_as {held = held} {held'} {number} p t = subst (λ (c : Answer _). Tells c held number held') p t
