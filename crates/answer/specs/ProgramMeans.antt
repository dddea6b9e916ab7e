-- The whole program in three lines: "refused 11" exactly for an input that is no picture, "refused 1" exactly for a
-- picture with a zero side, and the six numbers of the reading for every other. Assumes nothing.
use Rattle.std.specs.Prelude.{ℕ, ◌<◌, ◌≡◌, refl, Bool, true, false, cond, ◌||◌, ◌↔◌, ◌⊎◌, List, [], ◌∷◌, eqb, Some, None}
use Rattle.std.proofs.Common.{arith, sym, ap, ◌∙◌, inl, inr, ⊎_elim, eq-eqb, ne_eqb, eqb-true}
use Rattle.imgproc.specs.Reading.{reading_of}
use Rattle.pgm.specs.Form.{Form, IsPicture, Parsed, Answers}
use Rattle.pgm.specs.Line.{line, refused_line}
use Rattle.pgm.specs.LineLaws.{refused_once, not_refused}
use Rattle.pgm.specs.Parse.{parsed_of}
use Rattle.pgm.specs.ParseLaws.{parsed_answers}
use Rattle.answer.specs.Answer.{settings, counts_line}
use Rattle.answer.specs.Program.{empty, program_line}
use Rattle.answer.specs.ProgramLaws.{line_picture, line_other}

-- the input is a picture with a zero side
pub record IsEmpty (input : List ℕ) : Type 0 where
  pub picture : IsPicture input
  pub zero : (picture.width ≡ 0) ⊎ (picture.height ≡ 0)

-- what the program's line is, for every input: one of three
pub record Answered (input : List ℕ) : Type 0 where
  pub no_picture : (program_line input ≡ refused_line 11) ↔ (IsPicture input → ⊥)
  pub empty_picture : (program_line input ≡ refused_line 1) ↔ IsEmpty input
  pub picture :
      (w h : ℕ) (f : Form input w h) → 0 < w → 0 < h →
      let c = reading_of settings w h f.pixels in
      program_line input ≡ line (w ∷ h ∷ c.dark ∷ c.light ∷ c.skipped ∷ c.comparisons ∷ [])

-- `empty` says that a side is 0 exactly when one is
zero_side : (w h : ℕ) → empty w h ≡ true → (w ≡ 0) ⊎ (h ≡ 0)
zero_side w h e = go (eqb w 0) refl
  where
    go : (b : Bool) → eqb w 0 ≡ b → (w ≡ 0) ⊎ (h ≡ 0)
    go true p = inl (eqb-true w 0 p)
    go false p = inr (eqb-true h 0 (ap (λ (b : Bool). b || eqb h 0) (sym p) ∙ e))

side_zero : (w h : ℕ) → (w ≡ 0) ⊎ (h ≡ 0) → empty w h ≡ true
side_zero w h (inl z) = rw (eq-eqb w 0 z)
side_zero w h (inr z) = go (eqb w 0)
  where
    go : (b : Bool) → (b || eqb h 0) ≡ true
    go true = refl
    go false = eq-eqb h 0 z

module _ (input : List ℕ) where
  -- the line of a picture, once it is known whether a side is 0
  by_sides : (w h : ℕ) (f : Form input w h) (b : Bool) → empty w h ≡ b →
      program_line input ≡ cond b (refused_line 1) (counts_line w h (reading_of settings w h f.pixels))
  by_sides w h f b e =
      line_picture input w h f
      ∙ ap (λ (c : Bool). cond c (refused_line 1) (counts_line w h (reading_of settings w h f.pixels))) e

  -- the program refuses with no number but 11, an input that is no picture, and 1, a picture with a zero side
  pub refused_only : (n : ℕ) → program_line input ≡ refused_line n →
      ((n ≡ 11) × (IsPicture input → ⊥)) ⊎ ((n ≡ 1) × IsEmpty input)
  refused_only n e = go (parsed_of input) (parsed_answers input)
    where
      go : (r : Parsed) → Answers input r → ((n ≡ 11) × (IsPicture input → ⊥)) ⊎ ((n ≡ 1) × IsEmpty input)
      go None none =
          inl (refused_once n 11 (sym e ∙ line_other input none), λ p. none p.width p.height p.form)
      go (Some p) a = side (empty p.width p.height) refl
        where
          side : (b : Bool) → empty p.width p.height ≡ b →
              ((n ≡ 11) × (IsPicture input → ⊥)) ⊎ ((n ≡ 1) × IsEmpty input)
          side true x =
              inr (
                refused_once n 1 (sym e ∙ by_sides p.width p.height a.form true x),
                record {
                  picture = record { width = p.width; height = p.height; form = a.form };
                  zero = zero_side p.width p.height x;
                },
              )
          side false x =
              let c = reading_of settings p.width p.height a.form.pixels in
              let rest = c.dark ∷ c.light ∷ c.skipped ∷ c.comparisons ∷ [] in
              absurd (not_refused p.width p.height n rest (sym (by_sides p.width p.height a.form false x) ∙ e))

  -- the program's line is as `Answered` says
  pub answered : Answered input
  answered = record {
    no_picture = (
      λ e. ⊎_elim (λ p. p.1) (λ p. absurd (omega (arith, p.0))) (refused_only 11 e),
      λ none. line_other input (λ w h f. none (record { width = w; height = h; form = f })),
    );
    empty_picture = (
      λ e. ⊎_elim (λ p. absurd (omega (arith, p.0))) (λ p. p.1) (refused_only 1 e),
      λ z.
          let p = z.picture in
          by_sides p.width p.height p.form true (side_zero p.width p.height z.zero),
    );
    picture = λ w h f W H.
        let a : w ≡ 0 → ⊥ = λ z. omega arith in
        let b : h ≡ 0 → ⊥ = λ z. omega arith in
        by_sides w h f false (rw (ne_eqb w 0 a, ne_eqb h 0 b));
  }
