-- Two summed-area tables of a packed picture in one workspace (sums after Crow 1984), with entries 64 or 32 bits wide:
-- what the inner functions of part 6 ask and leave. Definitions only.
use Rattle.std.specs.Prelude.{ℕ, ◌+◌, ◌-◌, ◌*◌, ◌/◌, ◌%◌, ◌^◌, ◌≤◌, ◌<◌, ◌≡◌, List, length, get_or}
use Rattle.image.specs.declared.Geometry.{Geometry}
use Rattle.image.specs.Layout.{side_limit}
use Rattle.image.specs.Plane.{pixel, picture}
use Rattle.imgproc.specs.declared.threshold.config.SauvolaConfig.{SauvolaConfig}
use Rattle.imgproc.specs.Refusals.{table_entries}
use Rattle.imgproc.specs.SauvolaNarrow.{window_limit, largest_window}
use Rattle.imgproc.specs.Calls.{Loan, Paired}
use Rattle.imgproc.specs.Sums.{squared, box_sum}

-- the most entries of a table
abbrev pub entries_limit : ℕ
entries_limit = (side_limit + 1) * (side_limit + 1)

-- a table's sums are taken modulo the number of values that an entry has, of 64 bits or of 32
abbrev pub wide_modulus : ℕ
wide_modulus = 2 ^ 64

abbrev pub narrow_modulus : ℕ
narrow_modulus = 2 ^ 32

-- pixel (x, y) of the packed picture
abbrev pub pixels_of : List ℕ → Geometry → ℕ → ℕ → ℕ
pixels_of d g = pixel (picture d g) g.width

-- the first n entries of f's table stand from `base` on, `wide` to a row: entry (x, y) is the true sum left of x and
-- above y, modulo the table's modulus
abbrev pub Holds : ℕ → List ℕ → ℕ → (ℕ → ℕ → ℕ) → ℕ → ℕ → Type 0
Holds modulus ws base f wide n =
    (k : ℕ) → k < n → get_or ws (base + k) 0 ≡ box_sum f (k % wide) (k / wide) % modulus

-- the first n entries of both tables of f, a picture of w by h, stand in the workspace from `base` on, the sums first,
-- and there is room for all
pub record Both (modulus : ℕ) (f : ℕ → ℕ → ℕ) (w h base n : ℕ) (ws : List ℕ) : Type 0 where
  pub sums : Holds modulus ws base f (w + 1) n
  pub squares : Holds modulus ws (base + (w + 1) * (h + 1)) (squared f) (w + 1) n
  pub room : base + table_entries w h ≤ length ws

-- the first `rows` rows of both tables of a picture, which sum bytes
pub record TableRows (modulus : ℕ) (d : List ℕ) (g : Geometry) (base rows : ℕ) (ws : List ℕ) : Type 0 where
  pub both : Both modulus (pixels_of d g) g.width g.height base (rows * (g.width + 1)) ws
  pub bytes : (x y : ℕ) → x < g.width → y + 1 < rows → pixels_of d g x y ≤ 255

-- all of both tables of a picture
abbrev pub Tables : ℕ → List ℕ → Geometry → ℕ → List ℕ → Type 0
Tables modulus d g base ws = TableRows modulus d g base (g.height + 1) ws

-- settings that are accepted
pub record InRange (config : SauvolaConfig) : Type 0 where
  pub radius_some : 0 < config.radius
  pub k_small : config.k_milli ≤ 1000
  pub range_some : 0 < config.dynamic_range

-- `binarize` asks that both pictures lie in their slices with equal sides, that the settings are accepted, and that
-- both tables have room
pub record BinarizeReady (lent : Loan SauvolaConfig) : Type 0 where
  pub pair : Paired (length lent.src) lent.source (length lent.dst) lent.target
  pub settings : InRange lent.settings
  pub fits : table_entries lent.source.width lent.source.height ≤ length lent.workspace

-- the narrow call's `binarize` asks besides that the largest window keeps to the limit
pub record NarrowReady (lent : Loan SauvolaConfig) : Type 0 where
  pub ready : BinarizeReady lent
  pub fits : largest_window lent.settings.radius lent.source.width lent.source.height ≤ window_limit

-- entry (x, y) of the table that starts at base
abbrev pub entry_at : List ℕ → ℕ → ℕ → ℕ → ℕ → ℕ
entry_at ws base wide x y = get_or ws (base + (y * wide + x)) 0

-- the corners of a rectangle lie in the table
pub record Corners (ws : List ℕ) (base wide x0 y0 x1 y1 : ℕ) : Type 0 where
  pub across : x0 ≤ x1
  pub down : y0 ≤ y1
  pub inside : base + (y1 * wide + x1) < length ws

-- 64 bits hold the two entries that are added, and the two that are taken off come to no more
pub record Unwrapped (ws : List ℕ) (base wide x0 y0 x1 y1 : ℕ) : Type 0 where
  pub small : entry_at ws base wide x1 y1 + entry_at ws base wide x0 y0 < wide_modulus
  pub order :
      entry_at ws base wide x0 y1 + entry_at ws base wide x1 y0
      ≤ entry_at ws base wide x1 y1 + entry_at ws base wide x0 y0

-- the sum of a rectangle by its four corners, modulo the table's modulus; entries are below it, so nothing is cut off
abbrev pub corner_sum : ℕ → List ℕ → ℕ → ℕ → ℕ → ℕ → ℕ → ℕ → ℕ
corner_sum modulus ws base wide x0 y0 x1 y1 =
    (entry_at ws base wide x1 y1 + entry_at ws base wide x0 y0 + 2 * modulus
    - (entry_at ws base wide x0 y1 + entry_at ws base wide x1 y0))
    % modulus

-- the sum S and the sum of squares Q of c bytes keep to these bounds
pub record Sane (S Q c : ℕ) : Type 0 where
  pub some : 0 < c
  pub bright : S ≤ c * 255
  pub squares : Q ≤ c * 65025
  pub above : S / c * (S / c) ≤ Q / c
