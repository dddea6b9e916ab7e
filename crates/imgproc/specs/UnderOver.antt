-- Two facts that opticians rely on. Away from the border an opening lies under its source, and a closing over it. A cut
-- at a level may be made before or after each of the four operations. (UnderOverLaws proves both of the definitions,
-- MorphologyMeans of the calls.) Definitions only.
use Rattle.std.specs.Prelude.{ℕ, ◌+◌, ◌*◌, ◌≤◌, ◌<◌, ◌≡◌, cond, List, map, leb, length}
use Rattle.imgproc.specs.Extremes.{Low}
use Rattle.imgproc.specs.Reach.{radius}

-- position i of a line of n has r or more samples before it, and r or more after it: r ≤ i ≤ n - 1 - r
pub record Inner (r n i : ℕ) : Type 0 where
  pub before : r ≤ i
  pub after : i + r < n

-- f x y stands before g x y under the order R at each pixel of w by h that has rx or more pixels to its left and to its
-- right, and ry or more above and below it
abbrev pub InnerBefore : (ℕ → ℕ → Type 0) → ℕ → ℕ → ℕ → ℕ → (ℕ → ℕ → ℕ) → (ℕ → ℕ → ℕ) → Type 0
InnerBefore R rx ry w h f g = (x y : ℕ) → Inner rx w x → Inner ry h y → R (f x y) (g x y)

-- f x y ≤ g x y at each pixel that has (k - 1)/2 or more pixels between it and each border
abbrev pub InnerAtMost : ℕ → ℕ → ℕ → (ℕ → ℕ → ℕ) → (ℕ → ℕ → ℕ) → Type 0
InnerAtMost k w h f g = InnerBefore Low (radius k) (radius k) w h f g

-- a cut at a level gives 0 at or below it, else 255
abbrev pub cut : ℕ → ℕ → ℕ
cut level v = cond (leb v level) 0 255

-- a map of samples is monotone if it keeps their order
abbrev pub Monotone : (ℕ → ℕ) → Type 0
Monotone f = (a b : ℕ) → a ≤ b → f a ≤ f b

-- mapping each sample and then making a picture gives the same picture as making it and then mapping each sample, for
-- every packed picture of w by h
abbrev pub Commutes : (ℕ → ℕ) → ℕ → ℕ → (List ℕ → List ℕ) → Type 0
Commutes f w h make = (p : List ℕ) → length p ≡ w * h → make (map f p) ≡ map f (make p)
