-- The work of an accepted reading, stage by stage, and what it comes to: the counts, the marks, the comparisons. Assumes nothing.
use mathlib.Core.Path.{◌≡◌, ap, ap₂, ◌∙◌}
use mathlib.Core.Bool.{Bool}
use mathlib.Core.List.{List}
use Prim.Native.Nat.{ℕ, ◌*◌}
use native.Mathlib.Omega.{arith}
use lib.ListN.{length}
use Rattle.image.specs.declared.Geometry.{Geometry}
use Rattle.image.specs.Plane.{picture, painted_on, part, overwritten}
use Rattle.imgproc.specs.declared.reading.config.ReadingConfig.{ReadingConfig}
use Rattle.imgproc.specs.declared.reading.ReadingCounts.{ReadingCounts}
use Rattle.imgproc.specs.declared.reading.judging.Judged.{Judged}
use Rattle.imgproc.specs.declared.reading.judging.Judgement.{Judgement}
use Rattle.imgproc.specs.declared.morphology.tally.Tally.{Tally}
use Rattle.imgproc.specs.Tallies.{Stands, stands_as, raised_fresh}
use Rattle.imgproc.specs.Walks.{sweep_walks_lem}
use Rattle.imgproc.specs.Grid.{open_tiles}
use Rattle.imgproc.specs.Reading.{
  ReadingNumbers,
  ReadingLent,
  is_dark,
  is_light,
  is_skipped,
  opened_of,
  judged_over,
  judged,
  pixels,
  comparisons_of,
  reading_of,
  marked,
  marks_at,
}
use Rattle.imgproc.specs.ReadingSteps.{marked_over, Opened, Marks, PictureJudged, CountsLeft, ReadReady, ReadDone}

-- the packed geometry of a picture
abbrev pub packed_as : Geometry → Geometry
packed_as g = record { width = g.width; height = g.height; stride = g.width }

-- the three counts and the tally, one by one, and their numbers
abbrev pub counts_of : ℕ → ℕ → ℕ → Tally → ReadingCounts
counts_of a b c t = record { dark = a; light = b; skipped = c; tally = t }

abbrev numbers : ℕ → ℕ → ℕ → ℕ → ReadingNumbers
numbers a b c d = record { dark = a; light = b; skipped = c; comparisons = d }

module _ {lent : ReadingLent} (ready : ReadReady lent) {tally : Tally} (fresh : Stands tally 0) where
  abbrev g : Geometry
  g = lent.source

  abbrev s : ReadingConfig
  s = lent.settings

  abbrev marks_place : ℕ
  marks_place = marks_at g.width g.height

  module _ {raised : Tally} {bytes₁ : List ℕ} (o : Opened tally lent.src g s lent.bytes raised bytes₁) where
    module _ {bytes₂ u64s₂ : List ℕ} (m : Marks (packed_as g) s marks_place bytes₁ lent.u64s bytes₂ u64s₂) where
      -- what was judged is the opened picture
      source : List ℕ
      source = picture lent.src g

      is_opened : part 0 (g.width * g.height) bytes₂ ≡ opened_of s g.width g.height source
      unfolding source
      is_opened = m.opened ∙ o.leaves

      count_is : (test : Judgement → Bool)
          → pixels g.width g.height (λ x y. test (judged_over s g.width g.height (part 0 (g.width * g.height) bytes₂) x y))
          ≡ pixels g.width g.height (λ x y. test (judged s g.width g.height source x y))
      unfolding judged
      count_is test = ap (λ (p : List ℕ). pixels g.width g.height (λ x y. test (judged_over s g.width g.height p x y))) is_opened

      marked_is : marked_over s g.width g.height (part 0 (g.width * g.height) bytes₂) ≡ marked s g.width g.height source
      unfolding marked marked_over judged
      marked_is = ap (marked_over s g.width g.height) is_opened

      comparisons_are : Stands raised (comparisons_of s g.width g.height)
      comparisons_are =
          let closing = sweep_walks_lem s.division.structuring_element ready.settings.element g.width g.height in
          let opening = sweep_walks_lem s.opening_kernel ready.settings.kernel g.width g.height in
          stands_as (raised_fresh fresh o.counted) (omega arith)

      pub read_done : {j : Judged} {dst u64s₃ open' : List ℕ}
          → CountsLeft (packed_as g) s bytes₁ lent.open_tiles open'
          → PictureJudged s (packed_as g) (part 0 (g.width * g.height) bytes₂) lent.dst lent.target j dst
          → length u64s₃ ≡ length u64s₂
          → ReadDone lent (counts_of j.dark j.light j.skipped raised) (record { dst = dst; bytes = bytes₂; u64s = u64s₃; open_tiles = open' })
      unfolding source reading_of
      read_done {j} n p l = record {
        counted =
            ap₂ (λ (a b : ℕ). numbers a b j.skipped raised.comparisons) (p.dark ∙ count_is is_dark) (p.light ∙ count_is is_light)
            ∙ ap₂ (numbers _ _) (p.skipped ∙ count_is is_skipped) comparisons_are.at;
        leaves = p.leaves ∙ ap (painted_on lent.dst lent.target) marked_is;
        bytes_long = m.bytes_long ∙ o.long;
        u64s_long = l ∙ m.u64s_long;
        open_tiles_left =
            n
            ∙ ap (λ (p : List ℕ). overwritten 0 (open_tiles s.grid g.width g.height p) lent.open_tiles) o.leaves;
      }
