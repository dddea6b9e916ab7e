-- A pixel's verdict by its threshold, a row of verdicts, and rows of them in a destination, by whichever tables. Assumes nothing.
use Prim.Native.Nat.{ℕ, ◌+◌, ◌-◌, ◌*◌, ◌≤◌, ◌<◌}
use native.Mathlib.Omega.{arith}
use native.Mathlib.Nat.{ne_of_lt}
use mathlib.Core.Path.{◌≡◌, sym, ◌∙◌}
use mathlib.Core.Bool.{cond}
use mathlib.Core.List.{List}
use lib.Dec.{leb}
use lib.ListN.{length, set, get_or, take, drop}
use lib.Seq.{get_or-set_same, get_or-set_other}
use borrow.Author.Count.{below_more}
use borrow.Rule.Slice.PartMut.{put_mid}
use Rattle.image.specs.declared.Geometry.{Geometry}
use Rattle.image.specs.Plane.{pixel}
use Rattle.image.specs.PlaneLaws.{pixel_plane}
use Rattle.image.specs.PaintRows.{RowsPainted, rows_start, part_long, rows_next, row_within_as}
use Rattle.imgproc.specs.declared.threshold.config.SauvolaConfig.{SauvolaConfig}
use Rattle.imgproc.specs.Calls.{Paired}
use Rattle.imgproc.specs.Sauvola.{threshold_at_pixel, verdict, binarized}

module _ (config : SauvolaConfig) (w h : ℕ) (p : List ℕ) where
  -- v is the pixel, and t its threshold
  pub verdict_is : (x y : ℕ) {v t : ℕ} → v ≡ pixel p w x y → t ≡ threshold_at_pixel config w h p x y
      → cond (leb v t) config.dark_value config.light_value ≡ verdict config w h p x y
  unfolding verdict
  verdict_is x y is at = rw (is, at)

  -- the first n bytes of `out` are the verdicts of row y
  abbrev pub Verdicts : ℕ → List ℕ → ℕ → Type 0
  Verdicts y out n = (x : ℕ) → x < n → get_or out x 0 ≡ verdict config w h p x y

  -- one more
  pub verdicts_more : (y : ℕ) {n v : ℕ} (out : List ℕ) → Verdicts y out n → n < length out → v ≡ verdict config w h p n y → Verdicts y (set out n v) (n + 1)
  verdicts_more y {n} {v} out before l is =
      below_more (λ x. get_or (set out n v) x 0 ≡ verdict config w h p x y) n
      (λ x m. get_or-set_other out n x v 0 (ne_of_lt m) ∙ before x m)
      (get_or-set_same out n v 0 l ∙ is)

-- rows of the verdicts on p, a picture of g, in a destination that was dst
module _ (config : SauvolaConfig) (g target : Geometry) (p dst : List ℕ) {len : ℕ} (pair : Paired len g (length dst) target) where
  abbrev pub Painted : List ℕ → ℕ → Type 0
  Painted out y = RowsPainted (binarized config g.width g.height p) g.width g.height target.stride dst out y

  pub painted_none : Painted dst 0
  painted_none = rows_start (binarized config g.width g.height p) g.width g.height target.stride dst

  -- one row more
  pub painted_more :
      {out : List ℕ} (row : List ℕ) (y : ℕ)
      → y < g.height
      → Painted out y
      → length row ≡ length (take (y * target.stride + g.width - y * target.stride) (drop (y * target.stride) out))
      → Verdicts config g.width g.height p y row g.width
      → Painted (put_mid (y * target.stride) (y * target.stride + g.width - y * target.stride) out row) (y + 1)
  unfolding binarized
  painted_more row y Y before long verdicts =
      let made = binarized config g.width g.height p in
      let some : 0 < g.width = pair.from.wide in
      let tight : g.width ≤ target.stride = omega (arith, pair.to.stride, pair.wide) in
      let fits = row_within_as pair.to (sym pair.wide) (sym pair.high) y Y in
      rows_next made g.width g.height target.stride dst y before some tight fits row
      (long ∙ part_long made g.width g.height target.stride dst y before some tight fits)
      (λ x X. verdicts x X ∙ sym (pixel_plane g.width g.height (verdict config g.width g.height p) x y X Y))
      Y
