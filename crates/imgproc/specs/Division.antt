-- Document 01, part 3: division by the background, and the contract of `background_divide_into`. Definitions only.
use Rattle.std.specs.Prelude.{ℕ, ◌+◌, ◌*◌, ◌/◌, ◌≤◌, ◌<◌, min, max, ◌≡◌, List, length, get_or}
use Rattle.image.specs.declared.Geometry.{Geometry}
use Rattle.image.specs.Plane.{plane, pixel, part, picture}
use Rattle.imgproc.specs.declared.illumination.BackgroundDivideConfig.{BackgroundDivideConfig}
use Rattle.imgproc.specs.declared.morphology.tally.Tally.{Tally}
use Rattle.imgproc.specs.Tallies.{Raised, HasRoom}
use Rattle.imgproc.specs.Reach.{sweep_walks}
use Rattle.imgproc.specs.Morphology.{swept_rect, closed}
use Rattle.imgproc.specs.Sweeps.{Apart, Rowed}
use Rattle.imgproc.specs.Refusals.{element_and_room}
use Rattle.imgproc.specs.Calls.{Loan, Operator, Paired}

-- the Rust's defaults
abbrev pub division_defaults : BackgroundDivideConfig
division_defaults = record { structuring_element = 31; target_luma = 200; denominator_floor = 8 }

-- the value of one pixel, from the source and the closing there: the background is raised to the floor
unfoldable pub quotient : BackgroundDivideConfig → ℕ → ℕ → ℕ
quotient d source closing = min 255 (source * d.target_luma / max closing d.denominator_floor)

-- a packed picture p divided, pixel by pixel, by the packed backgrounds c
unfoldable pub divided_by : BackgroundDivideConfig → ℕ → ℕ → List ℕ → List ℕ → List ℕ
unfolding quotient
divided_by d w h p c = plane w h (λ x y. quotient d (pixel p w x y) (pixel c w x y))

-- flattened: each pixel divided by the closing with the element
unfoldable pub divided : BackgroundDivideConfig → ℕ → ℕ → List ℕ → List ℕ
unfolding divided_by swept_rect
divided d w h p = divided_by d w h p (closed d.structuring_element w h p)

-- `background_divide_into`: its conditions, the comparisons of a closing, and the divided picture
abbrev pub division : Operator BackgroundDivideConfig ℕ
division =
    record { own = element_and_room; values = λ d w h. 2 * sweep_walks d.structuring_element w h; make = divided }

-- ---- inside: what the parts of an accepted call ask and leave

-- what `divide_plane` asks: n pixels from `from` on and n backgrounds from `at` on, apart
pub record PlaneReady (d : BackgroundDivideConfig) (from at n : ℕ) (ws : List ℕ) : Type 0 where
  pub floor : 0 < d.denominator_floor
  pub pixels : from + n ≤ length ws
  pub backgrounds : at + n ≤ length ws
  pub apart : Apart from n at n

-- what it leaves: each background is replaced by the quotient of its pixel, and nothing else changes
abbrev pub PlaneDivided : BackgroundDivideConfig → ℕ → ℕ → ℕ → List ℕ → List ℕ → Type 0
PlaneDivided d from at n ws ws' = Rowed at n (λ i. quotient d (get_or ws (from + i) 0) (get_or ws (at + i) 0)) ws ws'

-- what `flatten` asks, and leaves: the picture, packed into the first plane, is closed and divided in the second
pub record FlattenReady (tally : Tally) (g : Geometry) (d : BackgroundDivideConfig) (ws : List ℕ) : Type 0 where
  pub kernel : 0 < d.structuring_element
  pub floor : 0 < d.denominator_floor
  pub fits : 6 * (g.width * g.height) ≤ length ws
  pub room : HasRoom tally (12 * (g.width * g.height))

pub record Flattened (tally : Tally) (src : List ℕ) (g : Geometry) (d : BackgroundDivideConfig) (ws : List ℕ)
    (raised : Tally) (ws' : List ℕ) : Type 0 where
  pub leaves : part (g.width * g.height) (g.width * g.height) ws' ≡ divided d g.width g.height (picture src g)
  pub counted : Raised tally (2 * sweep_walks d.structuring_element g.width g.height) raised
  pub long : length ws' ≡ length ws

-- what `divide_picture`, the work of an accepted call, asks; what it leaves is `Works` of Calls
pub record DivideReady (lent : Loan BackgroundDivideConfig) : Type 0 where
  pub pair : Paired (length lent.src) lent.source (length lent.dst) lent.target
  pub kernel : 0 < lent.settings.structuring_element
  pub floor : 0 < lent.settings.denominator_floor
  pub fits : 6 * (lent.source.width * lent.source.height) ≤ length lent.workspace
