-- The program's line and marks by the form of the input; and the first bytes of an input, one more than the longest
-- picture has, have the line of the whole. Assumes nothing.
use Prim.Native.Nat.{ℕ, ◌≤◌}
use Rattle.std.proofs.Common.{arith, sym, subst, ◌∙◌, length-append, length-take-le, le-ltb}
use Rattle.std.specs.Prelude.{◌≡◌, refl, Bool, cond, length, take, drop, Option, Some, None}
use Rattle.std.proofs.Math.Path.{ap}
use mathlib.Core.List.{List, ◌++◌}
use Rattle.pgm.specs.Form.{header, Form, input_limit, PictureFound, Parsed, parsed_number, Answers}
use Rattle.pgm.specs.Line.{line_room, refused_line, Writes}
use Rattle.pgm.specs.ParseLaws.{parsed_by, start_parsed}
use Rattle.answer.specs.Program.{picture_line, picture_marks, line_by, marks_by, program_line, program_marks}
use Rattle.answer.specs.Program.{Prints, ReadPart, PrintsStart}

-- ---- the line and the marks by the form

-- the picture of a form
abbrev pub pictured : (input : List ℕ) (w h : ℕ) → Form input w h → PictureFound
pictured input w h f = record { width = w; height = h; start = length (header w h); pixels = f.pixels }

module _ (input : List ℕ) where
  pub line_picture : (w h : ℕ) (f : Form input w h) → program_line input ≡ picture_line w h f.pixels
  unfolding program_line
  line_picture w h f = parsed_by line_by input (Some (pictured input w h f)) (record { form = f; after = refl; same = refl })

  pub line_other : Answers input None → program_line input ≡ refused_line (parsed_number None)
  unfolding program_line
  line_other none = parsed_by line_by input None none

  pub marks_by_lem : (r : Parsed) → Answers input r → (dst : List ℕ) → program_marks input dst ≡ marks_by r dst
  unfolding program_marks
  marks_by_lem r a dst = parsed_by (λ (p : Parsed). marks_by p dst) input r a

  pub marks_picture : (w h : ℕ) (f : Form input w h) (dst : List ℕ) →
      program_marks input dst ≡ picture_marks w h f.pixels dst
  marks_picture w h f dst = marks_by_lem (Some (pictured input w h f)) (record { form = f; after = refl; same = refl }) dst

-- ---- the first bytes are enough

-- an input and its first 3,614 bytes, or more of them, have the same line
pub line_start : (input : List ℕ) (m : ℕ) → input_limit ≤ m → program_line (take m input) ≡ program_line input
unfolding program_line
line_start input m enough = ap line_by (start_parsed input m enough)

-- a buffer with room for any line gets one, and it is printed
pub line_fits : (text before : List ℕ) {r : Option ℕ} {after : List ℕ} → line_room ≤ length before →
    Writes text before r after → r ≡ Some (length text)
line_fits text before l x =
    x.answers ∙ ap (λ (b : Bool). cond b None (Some (length text))) (le-ltb (length before) line_room l)

pub printed : (text before : List ℕ) {r : Option ℕ} {n : ℕ} (after : List ℕ) → line_room ≤ length before → r ≡ Some n →
    Writes text before r after → Prints text before n after
printed text before {r} {n} after l e x =
    let s : Some n ≡ Some (length text) = sym e ∙ line_fits text before l x in
    record {
      answers = cc;
      leaves =
          x.leaves
          ∙ ap (λ (b : Bool). cond b before (text ++ drop (length text) before)) (le-ltb (length before) line_room l);
    }

-- a program for which the first bytes are enough answers what was read of an input as it answers the whole
module _ (program : List ℕ → List ℕ)
    (starts : (input : List ℕ) (m : ℕ) → input_limit ≤ m → program (take m input) ≡ program input)
  where
    pub prints_start : (buffer : List ℕ) (n : ℕ) (got out : List ℕ) {answer : ℕ} (out' : List ℕ)
        → ReadPart buffer n got →
        Prints (program got) out answer out' → PrintsStart program buffer n out answer out'
    prints_start buffer n got out {answer} out' g a = record {
      within = (inside, sym (length-take-le answer out' inside));
      every = λ input e.
          let same = ap program (g.first ∙ e) ∙ starts input (length buffer) g.enough in
          subst (λ (t : List ℕ). Prints t out answer out') same a;
    }
      where
        inside : answer ≤ length out'
        inside =
            let text = program got in
            omega (arith, a.answers, ap length a.leaves ∙ length-append text (drop (length text) out))
