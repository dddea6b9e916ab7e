-- Document 01, parts 2 and 4: the four morphology calls; and, inside, what the parts of an accepted one ask and leave.
-- Definitions only.
use Rattle.std.specs.Prelude.{ℕ, ◌*◌, ◌^◌, ◌≤◌, ◌<◌, ◌≡◌, List, length, Result, Ok, Err}
use Rattle.image.specs.Answers.{Answer, accepted, refused}
use Rattle.image.specs.Plane.{part}
use Rattle.imgproc.specs.declared.morphology.Operation.{Operation}
use Rattle.imgproc.specs.declared.morphology.Operation.TheVariants.{Erode, Dilate, Open, Close}
use Rattle.imgproc.specs.declared.ImgProcError.{ImgProcError}
use Rattle.imgproc.specs.declared.morphology.tally.Tally.{Tally}
use Rattle.imgproc.specs.Tallies.{Raised, HasRoom, Stands}
use Rattle.imgproc.specs.Reach.{sweep_walks, R}
use Rattle.imgproc.specs.Refusals.{error_number, kernel_and_room}
use Rattle.imgproc.specs.Calls.{Loan, Operator, Paired}
use Rattle.imgproc.specs.Morphology.{eroded, dilated, opened, closed}

-- the packed picture that an operation makes
abbrev pub operated : Operation → ℕ → ℕ → ℕ → List ℕ → List ℕ
operated Erode k w h p = eroded k w h p
operated Dilate k w h p = dilated k w h p
operated Open k w h p = opened k w h p
operated Close k w h p = closed k w h p

-- its comparisons: one erosion or dilation, or two
abbrev pub operation_walks : Operation → ℕ → ℕ → ℕ → ℕ
operation_walks Erode k w h = sweep_walks k w h
operation_walks Dilate k w h = sweep_walks k w h
operation_walks Open k w h = 2 * sweep_walks k w h
operation_walks Close k w h = 2 * sweep_walks k w h

-- the same by R(k): that they are is `operation_walks_lem` of MorphologyLaws
abbrev pub operation_r : Operation → ℕ → ℕ → ℕ → ℕ
operation_r Erode k w h = R k w h
operation_r Dilate k w h = R k w h
operation_r Open k w h = 2 * R k w h
operation_r Close k w h = 2 * R k w h

-- what a call says that counts: the comparisons, or the number of the refusal
abbrev pub compared_answer : Result Tally ImgProcError → Answer ℕ
compared_answer (Ok t) = accepted t.comparisons
compared_answer (Err e) = refused (error_number e)

-- a morphology call, whose settings are its kernel: its conditions, its comparisons and the picture that it makes
abbrev pub morphology : Operation → Operator ℕ ℕ
morphology operation = record { own = kernel_and_room; values = operation_walks operation; make = operated operation }

-- the four calls
abbrev pub erosion : Operator ℕ ℕ
erosion = morphology Erode

abbrev pub dilation : Operator ℕ ℕ
dilation = morphology Dilate

abbrev pub opening : Operator ℕ ℕ
opening = morphology Open

abbrev pub closing : Operator ℕ ℕ
closing = morphology Close

-- ---- inside: what the parts of an accepted call ask and leave

-- what `operate` asks, and leaves: an operation from the first plane of the workspace to the second
pub record OperateReady (tally : Tally) (d : List ℕ) (k w h : ℕ) : Type 0 where
  pub fits : 6 * (w * h) ≤ length d
  pub kernel : 0 < k
  pub wide : 0 < w
  pub room : HasRoom tally (12 * (w * h))

pub record Operated (operation : Operation) (tally : Tally) (d : List ℕ) (k w h : ℕ) (raised : Tally) (d' : List ℕ)
    : Type 0 where
  pub leaves : part (w * h) (w * h) d' ≡ operated operation k w h (part 0 (w * h) d)
  pub counted : Raised tally (operation_walks operation k w h) raised
  pub long : length d' ≡ length d

-- what `count` asks, and leaves: the same with a tally of its own
pub record CountReady (d : List ℕ) (k w h : ℕ) : Type 0 where
  pub fits : 6 * (w * h) ≤ length d
  pub kernel : 0 < k
  pub wide : 0 < w
  pub room : 12 * (w * h) < 2 ^ 64

pub record Counts (operation : Operation) (d : List ℕ) (k w h : ℕ) (raised : Tally) (d' : List ℕ) : Type 0 where
  pub leaves : part (w * h) (w * h) d' ≡ operated operation k w h (part 0 (w * h) d)
  pub counted : Stands raised (operation_walks operation k w h)
  pub long : length d' ≡ length d

-- what `run`, the work of an accepted call, asks; what it leaves is `Works` of Calls
pub record RunReady (lent : Loan ℕ) : Type 0 where
  pub pair : Paired (length lent.src) lent.source (length lent.dst) lent.target
  pub kernel : 0 < lent.settings
  pub fits : 6 * (lent.source.width * lent.source.height) ≤ length lent.workspace
