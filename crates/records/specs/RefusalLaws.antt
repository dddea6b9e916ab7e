-- What accepted values say, and which numbers of good values fit their fields. Assumes nothing.
use Rattle.std.specs.Prelude.{ℕ, ◌+◌, ◌*◌, ◌^◌, ◌≤◌, ◌<◌, ◌≡◌, refl, false, eqb, ltb}
use Rattle.std.proofs.Common.{arith, sym, ap, ◌∙◌, pos_of_ne-zero, eqb-true, eq-eqb, ne_eqb, lt-ltb, le-ltb, ltb-false}
use Rattle.std.proofs.lemmas.Bool.{eqb-false, not-false}
use Rattle.std.proofs.Math.Bool.{and-true}
use Rattle.image.specs.Answers.{Answer, accepted, Bare, bare, answer_to}
use Rattle.image.specs.Layout.{side_limit, area_limit}
use Rattle.image.specs.LayoutLaws.{neither, sides_small}
use Rattle.image.specs.RefusedExactly.{NoneFits, none, next, exactly}
use Rattle.imgproc.specs.GridCalls.{bad_side}
use Rattle.records.specs.declared.record.Record.{Record}
use Rattle.records.specs.Format.{fields, all_fit}
use Rattle.records.specs.Refusals.{numbers, value_conditions}

-- ---- accepted values

-- the values of a record that is not refused: each side from 1 to the limit, and counts that add up
pub record GoodValues (r : Record) : Type 0 where
  pub some_width : 0 < r.width
  pub small_width : r.width ≤ side_limit
  pub some_height : 0 < r.height
  pub small_height : r.height ≤ side_limit
  pub sums : r.dark + r.light + r.skipped ≡ r.width * r.height

-- a side that is not bad
side_says : (side : ℕ) → bad_side side ≡ false → (0 < side) × (side ≤ side_limit)
side_says side p =
    let q = neither (eqb side 0) (ltb side_limit side) p in
    (pos_of_ne-zero (eqb-false side 0 q.0), ltb-false side_limit side q.1)

side_good : (side : ℕ) → 0 < side → side ≤ side_limit → bad_side side ≡ false
side_good side s l = rw (ne_eqb side 0 (λ e. omega arith), le-ltb side_limit side l)

-- equal records have equal answers
pub values_same : {r s : Record} {answer : Answer Bare} → r ≡ s
    → answer ≡ answer_to (numbers (value_conditions r)) bare → answer ≡ answer_to (numbers (value_conditions s)) bare
values_same e p = p ∙ ap (λ (r : Record). answer_to (numbers (value_conditions r)) bare) e

module _ (r : Record) where
  -- values for which no condition fits are good, and good ones are accepted
  pub none_say : NoneFits (numbers (value_conditions r)) → GoodValues r
  none_say (next sides (next sums none)) =
      let q = neither (bad_side r.width) (bad_side r.height) sides in
      let w = side_says r.width q.0 in
      let h = side_says r.height q.1 in
      record {
        some_width = w.0;
        small_width = w.1;
        some_height = h.0;
        small_height = h.1;
        sums = eqb-true (r.dark + r.light + r.skipped) (r.width * r.height) (not-false _ sums);
      }

  pub values_say : accepted bare ≡ answer_to (numbers (value_conditions r)) bare → GoodValues r
  values_say p = none_say ((exactly bare (numbers (value_conditions r)) refl).accepted_exactly.0 (sym p))

  pub values_good : GoodValues r → {A : Type 0} (v : A) → accepted v ≡ answer_to (numbers (value_conditions r)) v
  unfolding answer_to
  values_good g v =
      rw (
        side_good r.width g.some_width g.small_width,
        side_good r.height g.some_height g.small_height,
        eq-eqb (r.dark + r.light + r.skipped) (r.width * r.height) g.sums,
      )

  -- good values count no more pixels than the largest picture has
  pub counts_small : GoodValues r → r.dark + r.light + r.skipped ≤ area_limit
  counts_small g = omega (arith, g.sums, sides_small r.width r.height g.small_width g.small_height)

  -- of good numbers with a flask and a pass of a record's widths, only the comparisons may not fit their field
  pub fit_where : GoodValues r → r.flask < 2 ^ 32 → r.pass < 2 ^ 16 → all_fit fields r ≡ ltb r.comparisons (2 ^ 32)
  unfolding all_fit
  fit_where g f p =
      let a = counts_small g in
      rw (
        lt-ltb r.flask (2 ^ 32) f,
        lt-ltb r.pass (2 ^ 16) p,
        lt-ltb r.width (2 ^ 16) (omega (arith, g.small_width)),
        lt-ltb r.height (2 ^ 16) (omega (arith, g.small_height)),
        lt-ltb r.dark (2 ^ 32) (omega arith),
        lt-ltb r.light (2 ^ 32) (omega arith),
        lt-ltb r.skipped (2 ^ 32) (omega arith),
      ) (and-true (ltb r.comparisons (2 ^ 32)))
