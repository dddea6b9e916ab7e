-- `read_picture` reads "P5 ", two sides and the ending, and counts the bytes that follow. It answers None at the first
-- part that is not there: each law below says that no form of the input has another part there. Assumes nothing.
use Rattle.std.proofs.Common.{◌≡◌, ℕ, ◌-◌, ◌*◌, arith, List, ◌∷◌, ◌++◌, length, drop, refl, sym, ap, ap₂, ◌∙◌, length-append}
use Rattle.std.proofs.lemmas.Bool.Decides.{Decides-eqb}
use Rattle.std.proofs.lemmas.Slice.Eq.{strip_prefix_is}
use Rattle.std.specs.Prelude.{Some, None}
use Rattle.pgm.specs.Decimal.{decimal}
use Rattle.pgm.specs.Form.{magic, ending, header, Form, Pictured, Answers}
use Rattle.pgm.specs.FormLaws.{same_side, header_parts}
use Rattle.pgm.specs.Steps.{Sided, NoSide}
use Rattle.pgm.proofs.read_picture.Goals as goal

-- the bytes from the height on
abbrev from_height : ℕ → List ℕ → List ℕ
from_height h rest = decimal h ++ (32 ∷ (ending ++ rest))

-- "P5 " was read
module _ (input first : List ℕ) (m : input ≡ magic ++ first) where
  after_magic : (v g : ℕ) (f : Form input v g) → first ≡ decimal v ++ (32 ∷ from_height g f.pixels)
  after_magic v g f = ap (drop 3) (sym m ∙ f.whole ∙ header_parts v g f.pixels)

  -- and a width
  module _ (w : ℕ) (second : List ℕ) (wide : Sided first w second) where
    after_width : (v g : ℕ) (f : Form input v g) → (w ≡ v) × (second ≡ from_height g f.pixels)
    after_width v g f =
        same_side w v second _ (omega (arith, wide.small)) (omega (arith, f.wide)) (sym wide.begins ∙ after_magic v g f)

    no_height : NoSide second → Answers input None
    no_height none v g f = none g (ending ++ f.pixels) (record { small = f.high; begins = (after_width v g f).1 })

    -- and a height
    module _ (h : ℕ) (last : List ℕ) (high : Sided second h last) where
      after_height : (v g : ℕ) (f : Form input v g) → (h ≡ g) × (last ≡ ending ++ f.pixels)
      after_height v g f =
          same_side h g last _ (omega (arith, high.small)) (omega (arith, f.high)) (sym high.begins ∙ (after_width v g f).1)

      no_ending : ((rest : List ℕ) → last ≡ ending ++ rest → ⊥) → Answers input None
      no_ending none v g f = none f.pixels (after_height v g f).1

      -- and the ending
      module _ (pixels : List ℕ) (e : last ≡ ending ++ pixels) where
        miscounted : (length pixels ≡ w * h → ⊥) → Answers input None
        miscounted n v g f =
            let s = ap (drop 4) (sym e ∙ (after_height v g f).1) in
            n (ap length s ∙ f.counted ∙ sym (ap₂ ◌*◌ (after_width v g f).0 (after_height v g f).0))

        formed : (start : ℕ) → length pixels ≡ w * h → start ≡ length input - length pixels
            → Pictured input (record { width = w; height = h; start = start; pixels = pixels })
        formed start n s =
            let whole =
            m
            ∙ ap (λ (t : List ℕ). magic ++ t) wide.begins
            ∙ ap (λ (t : List ℕ). magic ++ (decimal w ++ (32 ∷ t))) high.begins
            ∙ ap (λ (t : List ℕ). magic ++ (decimal w ++ (32 ∷ (decimal h ++ (32 ∷ t))))) e
            ∙ sym (header_parts w h pixels) in
            record {
              form = record { wide = wide.small; high = high.small; pixels = pixels; counted = n; whole = whole };
              after = omega (arith, s, ap length whole, length-append (header w h) pixels);
              same = refl;
            }

pub returns-in_err-height : goal.returns-in_err-height
returns-in_err-height c =
    let m = strip_prefix_is Decides-eqb c.args.input.now magic (Some c.in_ok-rest.rest) c.in_ok-rest.ensures.cases in
    rw c.from_residual-in_err-height.ensures (no_height _ _ m _ _ c.in_ok-width.ensures c.in_err-height.ensures)

pub returns-in_err-pixels : goal.returns-in_err-pixels
returns-in_err-pixels c =
    let m = strip_prefix_is Decides-eqb c.args.input.now magic (Some c.in_ok-rest.rest) c.in_ok-rest.ensures.cases in
    let none = strip_prefix_is Decides-eqb c.in_ok-height.rest.now ending None c.in_err-pixels.ensures.cases in
    rw c.from_residual-in_err-pixels.ensures (no_ending _ _ m _ _ c.in_ok-width.ensures _ _ c.in_ok-height.ensures none)

pub returns-then-pixels-width : goal.returns-then-pixels-width
returns-then-pixels-width c =
    let m = strip_prefix_is Decides-eqb c.args.input.now magic (Some c.in_ok-rest.rest) c.in_ok-rest.ensures.cases in
    let e = strip_prefix_is Decides-eqb c.in_ok-height.rest.now ending (Some c.in_ok-pixels.pixels) c.in_ok-pixels.ensures.cases in
    miscounted _ _ m _ _ c.in_ok-width.ensures _ _ c.in_ok-height.ensures _ e c.if-pixels-width.true

pub returns : goal.returns
returns c =
    let m = strip_prefix_is Decides-eqb c.args.input.now magic (Some c.in_ok-rest.rest) c.in_ok-rest.ensures.cases in
    let e = strip_prefix_is Decides-eqb c.in_ok-height.rest.now ending (Some c.in_ok-pixels.pixels) c.in_ok-pixels.ensures.cases in
    formed _ _ m _ _ c.in_ok-width.ensures _ _ c.in_ok-height.ensures _ e _ c.if-pixels-width.false refl
