-- `table_row` adds one row to both tables: no sum passes 64 bits. Assumes nothing.
use Prim.Native.Nat.{ℕ, ◌+◌, ◌*◌, ◌%◌, ◌≤◌, ◌<◌}
use native.Mathlib.Nat.{mul-le-mul, le_trans, le_refl, mod-le, mod-eq_of_lt}
use native.Mathlib.Omega.{arith}
use mathlib.Core.Path.{◌≡◌, sym, ◌∙◌}
use lib.ListN.{get_or, length-set}
use Rattle.image.specs.Layout.{side_limit}
use Rattle.image.specs.RowLaws.{row_long, row_picture}
use Rattle.imgproc.specs.Sums.{squared}
use Rattle.imgproc.specs.Tables.{wide_modulus, pixels_of}
use Rattle.imgproc.proofs.threshold.tables.Entries.{box_small, rows_fit, row_start, row_step, row_end, above_sum, above_square, s_small, q_small}
use Rattle.imgproc.proofs.threshold.tables.table_row.Goals as goal
use Rattle.imgproc.proofs.threshold.tables.table_row.Goals.{In-loop-i, Start}

abbrev pixels : Start → ℕ → ℕ → ℕ
pixels s = pixels_of s.args.source.pixels.now s.args.source.geometry

-- the row has the picture's width
inside : (t : In-loop-i) → t.loop-i.i < t.args.source.geometry.width
inside t =
    let s = t.args.source in
    omega (arith, row_long s.pixels.now s.geometry s.kept t.args.y t.requires.0 t.row-pixel-items.ensures.bytes, t.loop-i-test.true)

-- the byte at hand is pixel (i, y)
value-is : (t : In-loop-i) {v : ℕ} → v ≡ get_or t.row-pixel-items.result.now t.loop-i.i 0
    → v ≡ pixels_of t.args.source.pixels.now t.args.source.geometry t.loop-i.i t.args.y
value-is t e =
    let s = t.args.source in
    e ∙ row_picture s.pixels.now s.geometry s.kept t.args.y t.requires.0 t.row-pixel-items.ensures.bytes t.loop-i.i (inside t)

-- it and its square are small
value-small : (t : In-loop-i) {v : ℕ} → v ≡ get_or t.row-pixel-items.result.now t.loop-i.i 0
    → (v ≤ 255) × (v * v ≤ 65025)
value-small t {v} e =
    let b : v ≤ 255 = omega (arith, e, t.type_inv.pixel-items t.loop-i.i) in
    (b, mul-le-mul b b)

-- so are the row's sums
sums-small : (t : In-loop-i) → let l = t.loop-i in (l.sum ≤ 255 * l.i) × ((l.sum_sq ≤ 65025 * l.i) × (l.i < side_limit))
sums-small t =
    let l = t.loop-i in
    let f = pixels_of t.args.source.pixels.now t.args.source.geometry in (
      s_small wide_modulus f _ _ _ _ t.requires.0 l.workspace _ _ _ l.invariant (inside t),
      (q_small wide_modulus f _ _ _ _ t.requires.0 l.workspace _ _ _ l.invariant (inside t), omega (arith, inside t, t.args.source.kept.small_width)),
    )

-- and the entries above
above_small :
    (t : In-loop-i)
    → let l = t.loop-i in
    let wide = t.args.source.geometry.width + 1 in
    (get_or l.workspace (t.args.at + (t.args.y * wide + (l.i + 1))) 0 ≤ 65025 * side_limit * side_limit)
    × (get_or l.workspace (t.args.at + wide * (t.args.source.geometry.height + 1) + (t.args.y * wide + (l.i + 1))) 0 ≤ 65025 * side_limit * side_limit)
above_small t =
    let g = t.args.source.geometry in
    let f = pixels_of t.args.source.pixels.now g in
    let l = t.loop-i in
    let k = t.args.source.kept in
    let m = t.requires.0 in
    let b = t.requires.1.bytes in
    let x1 : l.i + 1 ≤ g.width = omega (arith, inside t) in
    let y1 : t.args.y ≤ side_limit = omega (arith, k.small_height) in (
      rw (above_sum wide_modulus f _ _ _ _ m l.workspace _ _ _ l.invariant (inside t))
          (le_trans (mod-le _ wide_modulus) (box_small f g.width t.args.y (l.i + 1) t.args.y
          (λ i j a b'. le_trans (b i j a (omega arith)) (omega arith)) x1 (le_refl _) k.small_width y1)),
      rw (above_square wide_modulus f _ _ _ _ m l.workspace _ _ _ l.invariant (inside t))
          (le_trans (mod-le _ wide_modulus) (box_small (squared f) g.width t.args.y (l.i + 1) t.args.y
          (λ i j a b'. mul-le-mul (b i j a (omega arith)) (b i j a (omega arith))) x1 (le_refl _) k.small_width y1)),
    )

pub loop-i-init : goal.loop-i-init
loop-i-init c = row_start wide_modulus (pixels (goal.at.loop-i-init c).Start) _ _ _ _ c.requires.0 c.args.workspace.now c.requires.1.both

pub overflow_add-sum : goal.overflow_add-sum
overflow_add-sum c = omega (arith, value-small (goal.at.overflow_add-sum c).In-loop-i c.from-value.ensures, sums-small (goal.at.overflow_add-sum c).In-loop-i)

pub overflow_add-sum_sq : goal.overflow_add-sum_sq
overflow_add-sum_sq c = omega (arith, value-small (goal.at.overflow_add-sum_sq c).In-loop-i c.from-value.ensures, sums-small (goal.at.overflow_add-sum_sq c).In-loop-i)

pub overflow_add-s-in-loop-i-2 : goal.overflow_add-s-in-loop-i-2
overflow_add-s-in-loop-i-2 c =
    let t = (goal.at.overflow_add-s-in-loop-i-2 c).In-loop-i in omega (arith, value-small t c.from-value.ensures, sums-small t, above_small t)

pub overflow_add-q-in-loop-i-2 : goal.overflow_add-q-in-loop-i-2
overflow_add-q-in-loop-i-2 c =
    let t = (goal.at.overflow_add-q-in-loop-i-2 c).In-loop-i in omega (arith, value-small t c.from-value.ensures, sums-small t, above_small t)

-- nothing wraps
plain : {n : ℕ} → n < wide_modulus → n ≡ n % wide_modulus
plain l = sym (mod-eq_of_lt l)

pub loop-i-preserved : goal.loop-i-preserved
loop-i-preserved c =
    let l = c.loop-i in
    let t = (goal.at.loop-i-preserved c).In-loop-i in
    let v = value-small t c.from-value.ensures in
    let s = sums-small t in
    let a = above_small t in
    row_step wide_modulus (pixels (goal.at.loop-i-preserved c).Start) _ _ _ _ c.requires.0 l.workspace _ _ _ l.invariant (inside t) _ _ _ _ _
    (value-is t c.from-value.ensures) v.0
    (plain (omega (arith, v, s))) (plain (omega (arith, v, s))) (plain (omega (arith, v, s, a))) (plain (omega (arith, v, s, a)))

pub returns : goal.returns
returns c =
    let s = c.args.source in
    let long = row_long s.pixels.now s.geometry s.kept c.args.y c.requires.0 c.row-pixel-items.ensures.bytes in
    row_end c.requires.1 c.loop-i.invariant (omega (arith, long, c.loop-i.auto.i-end, c.loop-i-test.false))

pub bounds-workspace-squares-in-loop-i-2 : goal.bounds-workspace-squares-in-loop-i-2
bounds-workspace-squares-in-loop-i-2 c =
    let t = (goal.at.bounds-workspace-squares-in-loop-i-2 c).In-loop-i in
    omega (arith, inside t, rows_fit c.args.source.geometry.width c.args.source.geometry.height c.args.y c.requires.0, length-set {A = ℕ})
