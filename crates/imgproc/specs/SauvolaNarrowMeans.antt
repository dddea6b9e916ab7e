-- What is said of the narrow Sauvola call beside the wide one, `sauvola_into`, drawn from the two contracts alone: of the
-- same source they leave the same rows, and what they are refused for differs by 12 alone. Assumes nothing.
use Rattle.std.specs.Prelude.{Ok, Err}
use Rattle.std.specs.Prelude.{ℕ, ◌≤◌, ◌<◌, ◌≡◌, refl, List, length, ltb}
use Rattle.std.proofs.Common.{arith, sym, ap, ap₂, ◌∙◌, lt_of_not-le}
use Rattle.std.proofs.Math.Decide.{dec_le}
use Rattle.std.proofs.lemmas.Bool.{le-ltb, lt-ltb}
use Rattle.image.specs.Answers.{Answer, Bare, bare, accepted, refused}
use Rattle.image.specs.RefusedExactly.{differ}
use Rattle.image.specs.Plane.{pixel, packed}
use Rattle.image.specs.PlaneLaws.{same_pixels}
use Rattle.imgproc.specs.declared.threshold.config.SauvolaConfig.{SauvolaConfig}
use Rattle.imgproc.specs.declared.ImgProcError.TheVariants.{WindowTooLarge}
use Rattle.imgproc.specs.Refusals.{
  Conditions,
  Check,
  first,
  ◌then◌,
  answer_by,
  pair_conditions,
  sauvola_settings,
  tables_room,
}
use Rattle.imgproc.specs.RefusalLaws.{taken, then_refused, then_accepted, then_same, both_accepted, passes, refuses}
use Rattle.imgproc.specs.Calls.{Operator, Loan, Left, Serves}
use Rattle.imgproc.specs.CallMeans.{
  AcceptedCall,
  settings_of,
  wide,
  high,
  source_of,
  pair,
  pixel_made,
  MappedSource,
  MappedRows,
  made_same,
}
use Rattle.imgproc.specs.Sauvola.{sauvola}
use Rattle.imgproc.specs.SauvolaNarrow.{window_limit, largest_window, window_condition, sauvola_narrow}

-- ---- two accepted calls of the same source

-- two calls that make the same of the same source leave the same rows
same_rows : {S A B : Type 0} {o : Operator S A} {p : Operator S B} → p.make ≡ o.make
    → (a : AcceptedCall o) (b : AcceptedCall p) → MappedSource (λ n. n) a b → MappedRows (λ n. n) a b
same_rows {o = o} {p = p} same a b s x y X Y =
    let d = b.lent.src in
    let stride = b.lent.source.stride in
    let source : packed d (wide a) (high a) stride ≡ source_of a =
    same_pixels (wide a) (high a) d a.lent.src stride a.lent.source.stride (pair a).from.wide s.pixels in
    let made : p.make (settings_of b) (wide b) (high b) (source_of b)
    ≡ o.make (settings_of a) (wide a) (high a) (source_of a) =
    made_same p.make d stride s.settings s.as_wide s.as_high
    ∙ ap₂ (λ m q. m (settings_of a) (wide a) (high a) q) same source in
    pixel_made b x y (omega (arith, s.as_wide)) (omega (arith, s.as_high))
    ∙ ap₂ (λ (q : List ℕ) (w : ℕ). pixel q w x y) made s.as_wide
    ∙ sym (pixel_made a x y X Y)

-- so a narrow call and a wide one, with the same source pixels and settings, leave equal rows
pub rows_equal : (a : AcceptedCall sauvola) (b : AcceptedCall sauvola_narrow)
    → MappedSource (λ n. n) a b → MappedRows (λ n. n) a b
rows_equal = same_rows refl

-- ---- a narrow call, and the wide one with as many u64s
abbrev pub with_u64s : Loan SauvolaConfig → List ℕ → Loan SauvolaConfig
with_u64s lent u64s = record {
  src = lent.src;
  source = lent.source;
  dst = lent.dst;
  target = lent.target;
  settings = lent.settings;
  workspace = u64s;
}

module _ {lent : Loan SauvolaConfig} {u64s : List ℕ} (as_many : length u64s ≡ length lent.workspace)
    {a b : Answer Bare} {l m : Left}
    (narrow_call : Serves sauvola_narrow lent a l) (wide_call : Serves sauvola (with_u64s lent u64s) b m) where
  -- what both check first, what the narrow call checks besides, and what both check last
  abbrev pairs : Conditions
  pairs = pair_conditions (length lent.src) lent.source (length lent.dst) lent.target

  abbrev settings : Conditions
  settings = sauvola_settings lent.settings

  abbrev largest : ℕ
  largest = largest_window lent.settings.radius lent.source.width lent.source.height

  abbrev windows : Conditions
  windows = window_condition lent.settings.radius lent.source.width lent.source.height

  abbrev room : Conditions
  room = tables_room lent.source (length lent.workspace)

  -- where both lists come to the same check, the answers are equal
  same : first (pairs then settings then windows then room) ≡ first (pairs then settings then room) → a ≡ b
  same e =
      narrow_call.answers
      ∙ ap (λ (c : Check). answer_by c bare) e
      ∙ ap (λ (n : ℕ). answer_by (first (pairs then settings then tables_room lent.source n)) bare) (sym as_many)
      ∙ sym wide_call.answers

  -- the largest window is within the limit: they answer the same
  pub same_within : largest ≤ window_limit → a ≡ b
  same_within l =
      same
      (then_same pairs pairs (settings then windows then room) (settings then room) refl
      (then_same settings settings (windows then room) room refl
      (passes (ltb window_limit largest) WindowTooLarge room (le-ltb window_limit largest l))))

  -- so they do where the layouts, the sizes or the settings are refused
  pub same_before : ((first pairs ≡ Ok tt) × (first settings ≡ Ok tt) → ⊥) → a ≡ b
  same_before n = same (by_pairs (first pairs) refl)
    where
      by_settings : first pairs ≡ Ok tt → (c : Check) → first settings ≡ c
          → first (pairs then settings then windows then room) ≡ first (pairs then settings then room)
      by_settings p (Ok u) q = absurd (n (p, q))
      by_settings p (Err e) q =
          then_accepted pairs (settings then windows then room) p
          ∙ then_refused settings (windows then room) q
          ∙ sym (then_accepted pairs (settings then room) p ∙ then_refused settings room q)

      by_pairs : (c : Check) → first pairs ≡ c
          → first (pairs then settings then windows then room) ≡ first (pairs then settings then room)
      by_pairs (Ok u) p = by_settings p (first settings) refl
      by_pairs (Err e) p =
          then_refused pairs (settings then windows then room) p ∙ sym (then_refused pairs (settings then room) p)

  -- where those are accepted and the window is beyond the limit, the narrow call is refused with 12
  pub refused_12 : first pairs ≡ Ok tt → first settings ≡ Ok tt → window_limit < largest → a ≡ refused 12
  refused_12 p q l =
      narrow_call.answers
      ∙ ap (λ (c : Check). answer_by c bare)
      (then_accepted pairs (settings then windows then room) p
      ∙ then_accepted settings (windows then room) q
      ∙ refuses (ltb window_limit largest) WindowTooLarge room (lt-ltb window_limit largest l))

  -- where the narrow call is accepted, so is the wide one
  pub accepted_too : a ≡ accepted bare → b ≡ accepted bare
  accepted_too p = by_limit (dec_le largest window_limit)
    where
      passed : first (pairs then settings then windows then room) ≡ Ok tt
      passed = (taken (first (pairs then settings then windows then room)) (sym p ∙ narrow_call.answers)).0

      by_limit : Dec (largest ≤ window_limit) → b ≡ accepted bare
      by_limit (yes l) = sym (same_within l) ∙ p
      by_limit (no n) =
          let c = both_accepted pairs (settings then windows then room) passed in
          let d = both_accepted settings (windows then room) c.1 in
          absurd (differ bare (sym p ∙ refused_12 c.0 d.0 (lt_of_not-le n)))
