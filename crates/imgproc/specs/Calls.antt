-- A call from picture to picture: what it is lent, what is left of that, and what its contract says; and, inside, what
-- the work of an accepted call asks and leaves. Definitions only.
use Rattle.std.specs.Prelude.{ℕ, ◌≡◌, List, length}
use Rattle.image.specs.declared.Geometry.{Geometry}
use Rattle.image.specs.Answers.{Answer}
use Rattle.image.specs.Layout.{Kept}
use Rattle.image.specs.Plane.{picture, painted_on}
use Rattle.imgproc.specs.declared.morphology.tally.Tally.{Tally}
use Rattle.imgproc.specs.Refusals.{Conditions, first, ◌then◌, pair_conditions, answer_by, left_by, Lent}
use Rattle.imgproc.specs.Tallies.{Stands}

-- what a call is lent
pub record Loan (Settings : Type 0) : Type 0 where
  pub src : List ℕ
  pub source : Geometry
  pub dst : List ℕ
  pub target : Geometry
  pub settings : Settings
  pub workspace : List ℕ

-- what is left of it
pub record Left : Type 0 where
  pub dst : List ℕ
  pub workspace : List ℕ

-- what makes a call: the conditions of its own, after those of the pair; the values that it answers; the packed picture
-- that it makes
pub record Operator (Settings Values : Type 0) : Type 1 where
  pub own : Settings → Geometry → ℕ → Conditions
  pub values : Settings → ℕ → ℕ → Values
  pub make : Settings → ℕ → ℕ → List ℕ → List ℕ

module _ {S A : Type 0} (operator : Operator S A) (lent : Loan S) where
  -- what a call is refused for: both layouts, the sizes, and what is its own
  abbrev pub conditions_of : Conditions
  conditions_of =
      pair_conditions (length lent.src) lent.source (length lent.dst) lent.target then
      operator.own lent.settings lent.source (length lent.workspace)

  -- its answer
  abbrev pub answer_of : Answer A
  answer_of =
      answer_by (first conditions_of) (operator.values lent.settings lent.source.width lent.source.height)

  -- the destination with the picture that it makes of its source in the rows
  abbrev pub made_of : List ℕ
  made_of =
      let g = lent.source in
      painted_on lent.dst lent.target
      (operator.make lent.settings g.width g.height (picture lent.src g))

  -- the contract of a call: its answer, and what is left of what was lent
  pub record Serves (answer : Answer A) (left : Left) : Type 0 where
    pub answers : answer ≡ answer_of
    pub leaves : left.dst ≡ left_by (first conditions_of) made_of lent.dst
    pub keeps : Lent (first conditions_of) lent.workspace left.workspace

-- ---- inside: what the work of an accepted call asks and leaves

-- each slice holds its picture, and the sizes are equal: what an accepted pair says (`pair_says` of RefusalLaws)
pub record Paired (src_len : ℕ) (src : Geometry) (dst_len : ℕ) (dst : Geometry) : Type 0 where
  pub from : Kept src_len src
  pub to : Kept dst_len dst
  pub wide : src.width ≡ dst.width
  pub high : src.height ≡ dst.height

-- the work of a call that counts comparisons: it makes its picture, and raises a tally of its own from 0 to its values
pub record Works {S : Type 0} (operator : Operator S ℕ) (lent : Loan S) (raised : Tally) (left : Left) : Type 0 where
  pub leaves : left.dst ≡ made_of operator lent
  pub counted : Stands raised (operator.values lent.settings lent.source.width lent.source.height)
  pub long : length left.workspace ≡ length lent.workspace
