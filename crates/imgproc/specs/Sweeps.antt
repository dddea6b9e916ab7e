-- Document 01, part 2: says what the passes and sweeps over planes of one workspace ask and leave. Definitions only.
-- A plane stands at an offset of the workspace: h lines of w lanes each, line y at y × w, so that lane x is a column.
use Rattle.std.specs.Prelude.{◌≡◌, Bool, List, ◌⊎◌, ℕ, ◌+◌, ◌-◌, ◌*◌, ◌/◌, ◌≤◌, ◌<◌, min, length, get_or}
use Rattle.image.specs.Plane.{part}
use Rattle.imgproc.specs.declared.morphology.tally.Tally.{Tally}
use Rattle.imgproc.specs.declared.morphology.sweeps.Planes.{Planes}
use Rattle.imgproc.specs.Tallies.{Raised, HasRoom}
use Rattle.imgproc.specs.Extremes.{Extreme, Between}
use Rattle.imgproc.specs.Reach.{low, high, radius, reach_from, reach_to, walk, forward_at, backward_at, join_at, line_walks, rect_walks}
use Rattle.imgproc.specs.Compared.{Before, extreme}
use Rattle.imgproc.specs.Morphology.{swept_rect}

-- reads the sample of lane x on line y of the plane at `at`
abbrev pub lane : List ℕ → ℕ → ℕ → ℕ → ℕ → ℕ
lane d at w x y = get_or d (at + (y * w + x)) 0

-- m numbers from a on and n numbers from b on have none in common
pub record Apart (a m b n : ℕ) : Type 0 where
  pub clear : (a + m ≤ b) ⊎ (b + n ≤ a)

-- j lies outside the n numbers from `at` on
pub record Off (at n j : ℕ) : Type 0 where
  pub off : (j < at) ⊎ (at + n ≤ j)

-- d' is d but for the n numbers from `at` on
pub record Outside (at n : ℕ) (d d' : List ℕ) : Type 0 where
  pub long : length d' ≡ length d
  pub before : (j : ℕ) → j < at → get_or d' j 0 ≡ get_or d j 0
  pub after : (j : ℕ) → at + n ≤ j → get_or d' j 0 ≡ get_or d j 0

-- d' is d with the w numbers from `at` on replaced by g
pub record Rowed (at w : ℕ) (g : ℕ → ℕ) (d d' : List ℕ) : Type 0 where
  pub each : (x : ℕ) → x < w → get_or d' (at + x) 0 ≡ g x
  pub rest : Outside at w d d'

-- d' is d but for the n numbers from `to` on and the m numbers from `spare` on
pub record Spared (to n spare m : ℕ) (d d' : List ℕ) : Type 0 where
  pub long : length d' ≡ length d
  pub same : (j : ℕ) → Off to n j → Off spare m j → get_or d' j 0 ≡ get_or d j 0

-- v is an extreme of samples around i: of its block so far (forward); of the rest of its block, clipped to the line of
-- n (backward); and of its reach
abbrev pub Forwards : (ℕ → ℕ → Type 0) → ℕ → (ℕ → ℕ) → ℕ → ℕ → Type 0
Forwards R k f i v = Extreme R (Between (k * (i / k)) i) f v

abbrev pub Backwards : (ℕ → ℕ → Type 0) → ℕ → ℕ → (ℕ → ℕ) → ℕ → ℕ → Type 0
Backwards R k n f i v = Extreme R (Between i (min (k * (i / k) + k - 1) (n - 1))) f v

abbrev pub Reached : (ℕ → ℕ → Type 0) → ℕ → ℕ → (ℕ → ℕ) → ℕ → ℕ → Type 0
Reached R k n f i v = Extreme R (Between (reach_from k n i) (reach_to k n i)) f v

-- the backward extreme at low meets the forward one at high
abbrev pub Joins : (ℕ → ℕ → ℕ) → ℕ → ℕ → (ℕ → ℕ) → (ℕ → ℕ) → ℕ → ℕ → Type 0
Joins op k n suffix prefix i v = v ≡ op (suffix (low (radius k) i)) (prefix (high (radius k) n i))

-- a row of lanes asks that its stretches lie in the workspace, the one that is written apart from the others, and that
-- the tally has room
pub record LanesReady (tally : Tally) (d : List ℕ) (a b to w : ℕ) : Type 0 where
  pub left : a + w ≤ length d
  pub right : b + w ≤ length d
  pub target : to + w ≤ length d
  pub left_apart : Apart a w to w
  pub right_apart : Apart b w to w
  pub room : HasRoom tally w

-- each lane of a row holds the extreme of its two samples, one comparison each
pub record LanesMet (tally : Tally) (d : List ℕ) (a b to w : ℕ) (least : Bool)
    (raised : Tally) (d' : List ℕ) : Type 0 where
  pub row : Rowed to w (λ x. extreme least (get_or d (a + x) 0) (get_or d (b + x) 0)) d d'
  pub counted : Raised tally w raised

-- counts the samples of each plane
abbrev pub area : Planes → ℕ
area p = p.width * p.height

-- a pass asks for the planes and twice their area of scratch in the workspace, the scratch apart from both planes, and
-- room in the tally
pub record PassReady (tally : Tally) (d : List ℕ) (p : Planes) (k : ℕ) : Type 0 where
  pub source : p.from + area p ≤ length d
  pub target : p.to + area p ≤ length d
  pub scratch : p.spare + 2 * area p ≤ length d
  pub source_apart : Apart p.from (area p) p.spare (2 * area p)
  pub target_apart : Apart p.to (area p) p.spare (2 * area p)
  pub kernel : 0 < k
  pub room : HasRoom tally (area p)

-- a pass leaves at each sample of the plane at `to` what P says, changes nothing else, and raises the tally by w for
-- each line that the test passes
pub record Passed (P : ℕ → ℕ → ℕ → Type 0) (test : ℕ → Bool) (tally : Tally) (d : List ℕ) (to w h : ℕ)
    (raised : Tally) (d' : List ℕ) : Type 0 where
  pub each : (x y : ℕ) → x < w → y < h → P x y (lane d' to w x y)
  pub rest : Outside to (w * h) d d'
  pub counted : Raised tally (walk test h * w) raised

-- each of the three passes leaves its own extremes: the forward ones in the scratch, the backward ones behind them, and
-- those of both in the plane at `to`
abbrev pub ForwardPassed : Tally → List ℕ → Planes → ℕ → Bool → Tally → List ℕ → Type 0
ForwardPassed tally d p k least raised d' =
    Passed (λ x. Forwards (Before least) k (lane d p.from p.width x)) (forward_at k)
    tally d p.spare p.width p.height raised d'

abbrev pub BackwardPassed : Tally → List ℕ → Planes → ℕ → Bool → Tally → List ℕ → Type 0
BackwardPassed tally d p k least raised d' =
    Passed (λ x. Backwards (Before least) k p.height (lane d p.from p.width x)) (backward_at k p.height)
    tally d (p.spare + area p) p.width p.height raised d'

abbrev pub JoinPassed : Tally → List ℕ → Planes → ℕ → Bool → Tally → List ℕ → Type 0
JoinPassed tally d p k least raised d' =
    Passed
    (λ x.
    Joins (extreme least) k p.height (lane d (p.spare + area p) p.width x) (lane d p.spare p.width x))
    join_at tally d p.to p.width p.height raised d'

-- a sweep in place reads the plane that it writes
abbrev pub planes_in_place : Planes → Planes
planes_in_place p = record p { from = p.to }

-- the strip of n rows from row y on
abbrev pub strip_of : Planes → ℕ → ℕ → Planes
strip_of p y n = record p { from = p.from + y * p.width; to = p.to + y * p.width; height = n }

-- rows that stand transposed in the scratch are lanes, with the rest of the scratch behind them
abbrev pub transposed : Planes → Planes
transposed p = record { from = p.spare; to = p.spare; spare = p.spare + area p; width = p.height; height = p.width }

-- nothing but the plane at `to` and n numbers of scratch has changed
abbrev pub Beside : ℕ → Planes → List ℕ → List ℕ → Type 0
Beside n p d d' = Spared p.to (area p) p.spare n d d'

-- a sweep of lanes side by side asks what its passes ask, and room in the tally for all three
pub record LinesReady (tally : Tally) (d : List ℕ) (p : Planes) (k : ℕ) : Type 0 where
  pub pass : PassReady tally d p k
  pub room : HasRoom tally (3 * area p)

-- it leaves at each sample of each lane the extreme of its reach, counts the walks of each lane, and changes nothing
-- but the plane at `to` and the scratch
pub record LinesSwept (tally : Tally) (d : List ℕ) (p : Planes) (k : ℕ) (least : Bool)
    (raised : Tally) (d' : List ℕ) : Type 0 where
  pub each : (x y : ℕ) → x < p.width → y < p.height
      → Reached (Before least) k p.height (lane d p.from p.width x) y (lane d' p.to p.width x y)
  pub counted : Raised tally (p.width * line_walks k p.height) raised
  pub kept : Beside (2 * area p) p d d'

-- a sweep of rows or of columns asks for two planes, which are one or lie apart, and three times their area of scratch
-- apart from both
pub record SweepReady (tally : Tally) (d : List ℕ) (p : Planes) (k : ℕ) : Type 0 where
  pub source : p.from + area p ≤ length d
  pub target : p.to + area p ≤ length d
  pub scratch : p.spare + 3 * area p ≤ length d
  pub source_apart : Apart p.from (area p) p.spare (3 * area p)
  pub target_apart : Apart p.to (area p) p.spare (3 * area p)
  pub planes : (p.from ≡ p.to) ⊎ Apart p.from (area p) p.to (area p)
  pub kernel : 0 < k
  pub room : HasRoom tally (3 * area p)

-- a sweep of rows leaves at each sample the extreme of its reach along its row
pub record RowsSwept (tally : Tally) (d : List ℕ) (p : Planes) (k : ℕ) (least : Bool)
    (raised : Tally) (d' : List ℕ) : Type 0 where
  pub each : (x y : ℕ) → x < p.width → y < p.height
      → Reached (Before least) k p.width (λ i. lane d p.from p.width i y) x (lane d' p.to p.width x y)
  pub counted : Raised tally (p.height * line_walks k p.width) raised
  pub kept : Beside (3 * area p) p d d'

-- a sweep of columns leaves at each sample the extreme of its reach along its column
pub record ColumnsSwept (tally : Tally) (d : List ℕ) (p : Planes) (k : ℕ) (least : Bool)
    (raised : Tally) (d' : List ℕ) : Type 0 where
  pub each : (x y : ℕ) → x < p.width → y < p.height
      → Reached (Before least) k p.height (lane d p.from p.width x) y (lane d' p.to p.width x y)
  pub counted : Raised tally (p.width * line_walks k p.height) raised
  pub kept : Beside (3 * area p) p d d'

-- an erosion or a dilation asks what its sweeps ask, and room in the tally for both
pub record MorphReady (tally : Tally) (d : List ℕ) (p : Planes) (kw kh : ℕ) : Type 0 where
  pub rows : SweepReady tally d p kw
  pub columns : 0 < kh
  pub wide : 0 < p.width
  pub room : HasRoom tally (6 * area p)

-- it leaves the packed plane at `from` eroded or dilated at `to`
pub record Morphed (tally : Tally) (d : List ℕ) (p : Planes) (kw kh : ℕ) (least : Bool)
    (raised : Tally) (d' : List ℕ) : Type 0 where
  pub leaves : part p.to (area p) d' ≡
      swept_rect (extreme least) kw kh p.width p.height (part p.from (area p) d)
  pub counted : Raised tally (rect_walks kw kh p.width p.height) raised
  pub kept : Beside (3 * area p) p d d'

-- two of them, the second of what the first left, ask what the first asks, and room in the tally for all four sweeps
pub record PairReady (tally : Tally) (d : List ℕ) (p : Planes) (kw kh : ℕ) : Type 0 where
  pub once : MorphReady tally d p kw kh
  pub room : HasRoom tally (12 * area p)

-- two of them, in the orders `one` and `two`, leave at `to` what they make of the packed plane at `from`: an opening
-- where `one` alone is true, and a closing where `two` alone is
pub record PairMorphed (tally : Tally) (d : List ℕ) (p : Planes) (kw kh : ℕ) (one two : Bool)
    (raised : Tally) (d' : List ℕ) : Type 0 where
  pub leaves : part p.to (area p) d' ≡
      swept_rect (extreme two) kw kh p.width p.height
      (swept_rect (extreme one) kw kh p.width p.height (part p.from (area p) d))
  pub counted : Raised tally (2 * rect_walks kw kh p.width p.height) raised
  pub kept : Beside (3 * area p) p d d'

-- a transposition asks for two planes of `rows` times `columns` apart from each other
pub record TransposeReady (d : List ℕ) (from to rows columns : ℕ) : Type 0 where
  pub source : from + rows * columns ≤ length d
  pub target : to + rows * columns ≤ length d
  pub apart : Apart from (rows * columns) to (rows * columns)

-- it leaves the columns of the plane at `from` as the rows of the plane at `to`
pub record Transposed (d : List ℕ) (from to rows columns : ℕ) (d' : List ℕ) : Type 0 where
  pub each : (x y : ℕ) → x < columns → y < rows → lane d' to rows y x ≡ lane d from columns x y
  pub rest : Outside to (rows * columns) d d'
