-- Proves that rows are swept strip by strip, and that a sweep of the rows and then of the columns leaves the packed picture. Assumes nothing.
use mathlib.Core.Path.{◌≡◌, refl, sym, ap, ◌∙◌, subst}
use mathlib.Core.Bool.{Bool}
use mathlib.Core.List.{List}
use mathlib.Core.Logic.{inl, inr, ⊎_elim}
use Prim.Native.Nat.{ℕ, ◌+◌, ◌-◌, ◌*◌, ◌≤◌, ◌<◌}
use native.Mathlib.Nat.{mul-le-mul_right, add-mul}
use native.Mathlib.Omega.{arith}
use lib.ListN.{length, get_or}
use Rattle.image.specs.Plane.{part}
use Rattle.image.specs.PlaneLaws.{in_plane, length_part, get_d_part}
use Rattle.imgproc.specs.declared.morphology.tally.Tally.{Tally}
use Rattle.imgproc.specs.declared.morphology.sweeps.Planes.{Planes}
use Rattle.imgproc.specs.Tallies.{Raised, HasRoom, raised_twice, room_part, room_left}
use Rattle.imgproc.specs.Extremes.{Extreme, Between, Inside}
use Rattle.imgproc.specs.Reach.{reach_box, reach_from, reach_to, line_walks}
use Rattle.imgproc.specs.Walks.{cases, lines_walks_le}
use Rattle.imgproc.specs.Compared.{Before, extreme}
use Rattle.imgproc.specs.Morphology.{swept, swept_rect}
use Rattle.imgproc.specs.MorphologyLaws.{reach_in, is_swept}
use Rattle.imgproc.specs.Sweeps.{lane, Off, Reached, area, planes_in_place, strip_of, transposed, Beside, LinesSwept, Transposed, SweepReady, RowsSwept, ColumnsSwept, MorphReady, Morphed, PairReady, PairMorphed}
use Rattle.imgproc.proofs.morphology.sweeps.Blocks.{order, seen}
use Rattle.imgproc.proofs.morphology.Lanes.{off, apart_within, outside_at, line_order}

-- a place off a stretch is off each stretch within it
pub off_within : {at n j : ℕ} (a m : ℕ) → Off at n j → at ≤ a → a + m ≤ at + n → Off a m j
off_within a m p l h = record { off = ⊎_elim (λ s. inl (omega arith)) (λ s. inr (omega arith)) p.off }

-- ---- a strip: transposed, swept as lanes, transposed back
pub strip_swept : {least : Bool} {k : ℕ} {p : Planes} {t r : Tally} {d e f g : List ℕ} → 0 < k → Transposed d p.from p.spare p.height p.width e
    → LinesSwept t e (transposed p) k least r f → Transposed f p.spare p.to p.width p.height g → RowsSwept t d p k least r g
strip_swept {k = k} {p = p} pos there swept back =
    let w = p.width in
    let h = p.height in
    let spare = p.spare in
    record {
      each = λ x y X Y. rw (back.each y x Y X) (seen (λ i s. there.each i y (omega (arith, reach_in k w x pos X)) Y) (swept.each y x Y X));
      counted = swept.counted;
      kept = record {
        long = back.rest.long ∙ swept.kept.long ∙ there.rest.long;
        same = λ j u q.
            outside_at j back.rest u
            ∙ swept.kept.same j
            (off_within spare (h * w) q (omega arith) (omega arith))
            (off_within (spare + w * h) (2 * (h * w)) q (omega arith) (omega arith))
            ∙ outside_at j there.rest (off_within spare (h * w) q (omega arith) (omega arith));
      };
    }

-- ---- the rows above y are swept, and those of the source from y on are as they were
pub record Sweeping (tally : Tally) (d : List ℕ) (p : Planes) (k : ℕ) (least : Bool) (y : ℕ) (raised : Tally) (d' : List ℕ) : Type 0 where
  pub inside : y ≤ p.height
  pub each : (x i : ℕ) → x < p.width → i < y →
      Reached (Before least) k p.width (λ j. lane d p.from p.width j i) x (lane d' p.to p.width x i)
  pub ahead : (j : ℕ) → p.from + y * p.width ≤ j → j < p.from + area p → get_or d' j 0 ≡ get_or d j 0
  pub kept : Beside (3 * area p) p d d'
  pub counted : Raised tally (y * line_walks k p.width) raised

module _ {tally : Tally} {d : List ℕ} {p : Planes} {k : ℕ} {least : Bool} (ready : SweepReady tally d p k) where
  module _ {y : ℕ} (n : ℕ) {c : Tally} {a : List ℕ} (s : Sweeping tally d p k least y c a) (fits : y + n ≤ p.height) where
    size : y * p.width + p.width * n ≤ area p
    size = let m : (y + n) * p.width ≤ p.height * p.width = mul-le-mul_right p.width fits in omega arith

    -- what the next strip asks
    pub sweeping_ready : SweepReady c a (strip_of p y n) k
    sweeping_ready =
        let z = size in
        let long = s.kept.long in
        let most = lines_walks_le k p.width y in
        record {
          source = omega (arith, ready.source);
          target = omega (arith, ready.target);
          scratch = omega (arith, ready.scratch);
          source_apart = apart_within _ _ _ _ ready.source_apart (omega arith) (omega arith) (omega arith) (omega arith);
          target_apart = apart_within _ _ _ _ ready.target_apart (omega arith) (omega arith) (omega arith) (omega arith);
          planes = ⊎_elim (λ e. inl (omega arith)) (λ u. inr (apart_within _ _ _ _ u (omega arith) (omega arith) (omega arith) (omega arith))) ready.planes;
          kernel = ready.kernel;
          room = room_left ready.room s.counted (omega arith);
        }

    module _ {r : Tally} {b : List ℕ} (strip : RowsSwept c a (strip_of p y n) k least r b) where
      -- outside the strip and the scratch nothing has changed
      still : (j : ℕ) → Off (p.to + y * p.width) (p.width * n) j → Off p.spare (3 * area p) j → get_or b j 0 ≡ get_or a j 0
      still j u q = let z = size in strip.kept.same j u (off_within p.spare (3 * (p.width * n)) q (omega arith) (omega arith))

      above : (x i : ℕ) → x < p.width → i < y
          → Reached (Before least) k p.width (λ j. lane d p.from p.width j i) x (lane b p.to p.width x i)
      above x i X I =
          let z = size in
          let l = line_order p.width i y I in
          let j = p.to + (i * p.width + x) in
          rw (still j (record { off = inl (omega arith) }) (off j ready.target_apart (omega arith) (omega arith))) (s.each x i X I)

      within : (x i : ℕ) → x < p.width → y ≤ i → i < y + n
          → Reached (Before least) k p.width (λ j. lane d p.from p.width j i) x (lane b p.to p.width x i)
      within x i X L I =
          let m = i - y in
          let w = p.width in
          let e : i * w ≡ y * w + m * w = ap (λ (z : ℕ). z * w) (omega arith) ∙ add-mul y m w in
          let l = line_order w i p.height (omega arith) in
          let place : lane b (p.to + y * w) w x m ≡ lane b p.to w x i = ap (λ (z : ℕ). get_or b z 0) (omega arith) in
          subst (λ (v : ℕ). Reached (Before least) k w (λ j. lane d p.from w j i) x v) place
          (seen
          (λ j q.
          let J = reach_in k w x ready.kernel X in
          ap (λ (z : ℕ). get_or a z 0) (omega arith) ∙ s.ahead (p.from + (i * w + j)) (omega arith) (omega arith))
          (strip.each x m X (omega arith)))

      pub sweeping_more : Sweeping tally d p k least (y + n) r b
      sweeping_more =
          let z = size in
          let w = p.width in
          let more : (y + n) * w ≡ y * w + n * w = add-mul y n w in
          record {
            inside = fits;
            each = λ x i X I. cases i y (λ e. within x i X (omega arith) I) (λ l. above x i X l) (λ g. within x i X (omega arith) I);
            ahead = λ j l m.
                still j
                (⊎_elim
                (λ e. record { off = inr (omega arith) })
                (λ u. off_within (p.to + y * w) (w * n) (off j u (omega arith) m) (omega arith) (omega arith))
                ready.planes)
                (off j ready.source_apart (omega arith) (omega arith))
                ∙ s.ahead j (omega arith) m;
            kept = record {
              long = strip.kept.long ∙ s.kept.long;
              same = λ j u q. still j (off_within (p.to + y * w) (w * n) u (omega arith) (omega arith)) q ∙ s.kept.same j u q;
            };
            counted = raised_twice s.counted strip.counted (add-mul y n (line_walks k w));
          }

  pub sweeping_all : {y : ℕ} {c : Tally} {a : List ℕ} → Sweeping tally d p k least y c a → p.height ≤ y → RowsSwept tally d p k least c a
  sweeping_all {y} s l =
      let e : y ≡ p.height = omega (arith, s.inside) in
      record {
        each = λ x i X I. s.each x i X (omega arith);
        counted = rw e at s.counted;
        kept = s.kept;
      }

-- what a sweep of the plane that another left asks, where the tally has room for it
sweep_again : {t a : Tally} {d e : List ℕ} {p : Planes} {k k' : ℕ} → SweepReady t d p k → Beside (3 * area p) p d e → 0 < k'
    → HasRoom a (3 * area p) → SweepReady a e (planes_in_place p) k'
sweep_again ready s kernel room =
    let long = s.long in
    record {
      source = omega (arith, ready.target);
      target = omega (arith, ready.target);
      scratch = omega (arith, ready.scratch);
      source_apart = ready.target_apart;
      target_apart = ready.target_apart;
      planes = inl refl;
      kernel = kernel;
      room = room;
    }

-- ---- a sweep of the rows, then of the columns
module _ {least : Bool} {kw kh : ℕ} {p : Planes} {t a : Tally} {d e : List ℕ} (ready : MorphReady t d p kw kh)
    (across : RowsSwept t d p kw least a e) where
  abbrev w : ℕ
  w = p.width

  abbrev h : ℕ
  h = p.height

  -- what the second asks
  pub columns_ready : SweepReady a e (planes_in_place p) kh
  columns_ready =
      let most = lines_walks_le kw w h in
      sweep_again ready.rows across.kept ready.columns (room_left ready.room across.counted (omega arith))

  module _ {r : Tally} {g : List ℕ} (down : ColumnsSwept a e (planes_in_place p) kh least r g) where
    both : (x y : ℕ) → x < w → y < h → Extreme (Before least) (Inside (reach_box kw kh w h x y)) (λ q. lane d p.from w q.0 q.1) (lane g p.to w x y)
    both x y X Y =
        let col = down.each x y X Y in
        let rows : (i : ℕ) → Between (reach_from kh h y) (reach_to kh h y) i
        → Reached (Before least) kw w (λ j. lane d p.from w j i) x (lane e p.to w x i) = λ i s.
        across.each x i X (omega (arith, reach_in kh h y ready.columns Y)) in
        let best = rows col.at col.within in
        record {
          bound = λ q s. (order least).trans (col.bound q.1 s.1) ((rows q.1 s.1).bound q.0 s.0);
          at = (best.at, col.at);
          within = (best.within, col.within);
          is = best.is ∙ col.is;
        }

    pub morphed : Morphed t d p kw kh least r g
    morphed =
        let asked = ready.rows in
        let fits : p.to + area p ≤ length g = omega (arith, asked.target, down.kept.long, across.kept.long) in
        record {
          leaves =
              is_swept (order least) kw kh w h asked.kernel ready.columns (part p.from (area p) d) (part p.to (area p) g) ready.wide
              (length_part p.to (area p) g fits)
              (λ x y X Y.
              rw (get_d_part p.to (area p) g fits (y * w + x) (in_plane w h x y X Y))
              (seen
              (λ q s.
              let X' = reach_in kw w x asked.kernel X in
              let Y' = reach_in kh h y ready.columns Y in
              sym (get_d_part p.from (area p) d asked.source (q.1 * w + q.0) (in_plane w h q.0 q.1 (omega arith) (omega arith))))
              (both x y X Y)));
          counted = raised_twice across.counted down.counted refl;
          kept = record {
            long = down.kept.long ∙ across.kept.long;
            same = λ j u v. down.kept.same j u v ∙ across.kept.same j u v;
          };
        }

-- ---- two of them, the second of what the first left
module _ {one : Bool} {kw kh : ℕ} {p : Planes} {t a : Tally} {d e : List ℕ} (ready : PairReady t d p kw kh) (once : Morphed t d p kw kh one a e) where
  pub again_ready : MorphReady a e (planes_in_place p) kw kh
  again_ready =
      let across = lines_walks_le kw p.width p.height in
      let down = lines_walks_le kh p.height p.width in
      let asked = ready.once in
      let room = room_left {l = 6 * area p} ready.room once.counted (omega arith) in
      record {
        rows = sweep_again asked.rows once.kept asked.rows.kernel (room_part room (omega arith));
        columns = asked.columns;
        wide = asked.wide;
        room = room;
      }

  -- and what both leave
  pub pair_morphed : {two : Bool} {r : Tally} {g : List ℕ} → Morphed a e (planes_in_place p) kw kh two r g → PairMorphed t d p kw kh one two r g
  pair_morphed {two} again = record {
    leaves = again.leaves ∙ ap (swept_rect (extreme two) kw kh p.width p.height) once.leaves;
    counted = raised_twice once.counted again.counted (omega arith);
    kept = record {
      long = again.kept.long ∙ once.kept.long;
      same = λ j u v. again.kept.same j u v ∙ once.kept.same j u v;
    };
  }
