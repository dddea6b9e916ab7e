-- An answer with buffers that are long enough for any picture is the program's line, and its destination has the program's marks. Assumes nothing.
use Rattle.std.proofs.Common.{ℕ, ◌≤◌, pos_of_ne-zero, arith, ◌≡◌, refl, sym, ap, subst, ◌∙◌, Bool, true, false, List, eqb, length}
use Rattle.std.proofs.lemmas.Bool.{eqb-false}
use Rattle.image.specs.declared.LumaError.TheVariants.{EmptyDimensions}
use Rattle.image.specs.LayoutLaws.{neither}
use Rattle.image.specs.Plane.{picture, painted_on}
use Rattle.image.specs.Views.{picture_again}
use Rattle.std.specs.Prelude.{Ok, Err}
use Rattle.imgproc.specs.declared.ImgProcError.TheVariants.{Image}
use Rattle.imgproc.specs.Refusals.{Check, first, ◌then◌, answer_by, left_by}
use Rattle.imgproc.specs.Reading.{reading_settings, reading_room, reading_conditions, reading_of, marked}
use Rattle.std.specs.Prelude.{Option, Some, None}
use Rattle.pgm.specs.Form.{Form, Parsed, Answers}
use Rattle.pgm.specs.Line.{Writes}
use Rattle.pgm.specs.Parse.{parsed_of}
use Rattle.pgm.specs.ParseLaws.{parsed_answers}
use Rattle.answer.specs.Answer.{settings, tight, Buffers, own_open_tiles, lent_to, answer_of, AnswersInput}
use Rattle.answer.specs.Program.{empty, picture_line, picture_marks, most_pixels, most_bytes, most_u64s, AnswersAndMarks}
use Rattle.answer.specs.ProgramLaws.{line_picture, line_other, marks_picture, marks_by_lem}
use Rattle.answer.specs.RoomLaws.{room_enough, empty_refused}

module _ (input : List ℕ) {lent left : Buffers} {n : Option ℕ}
    (d : most_pixels ≤ length lent.dst) (b : most_bytes ≤ length lent.bytes) (q : most_u64s ≤ length lent.u64s)
    (a : AnswersInput input lent n left)
  where
    Answer : Type 0
    Answer = AnswersAndMarks input lent.dst lent.out n left.dst left.out

    -- the input is a picture, and it is known what the reading's check says and that this gives the program's line and marks
    checked : (w h : ℕ) (f : Form input w h) (check : Check) → first (reading_conditions (lent_to w h f.pixels lent settings)) ≡ check →
        let read = picture f.pixels (tight w h) in
        answer_of w h (answer_by check (reading_of settings w h read)) ≡ picture_line w h f.pixels →
        left_by check (painted_on lent.dst (tight w h) (marked settings w h read)) lent.dst ≡ picture_marks w h f.pixels lent.dst →
        Answer
    unfolding Answer
    checked w h f check c p m =
        let x = a.picture w h f in
        let counts = reading_of settings w h (picture f.pixels (tight w h)) in
        let marks = painted_on lent.dst (tight w h) (marked settings w h (picture f.pixels (tight w h))) in
        let text = ap (λ (k : Check). answer_of w h (answer_by k counts)) c ∙ p ∙ sym (line_picture input w h f) in
        record {
          writes = subst (λ (t : List ℕ). Writes t lent.out n left.out) text x.writes;
          marks = x.reads.leaves ∙ ap (λ (k : Check). left_by k marks lent.dst) c ∙ m ∙ sym (marks_picture input w h f lent.dst);
        }

    -- a picture with a zero side is refused, and any other is read
    either : (w h : ℕ) (f : Form input w h) (e : Bool) → empty w h ≡ e → Answer
    either w h f true x =
        let rest = reading_settings settings then reading_room (tight w h) settings (length lent.bytes) (length lent.u64s) (length own_open_tiles) in
        checked w h f (Err (Image EmptyDimensions)) (empty_refused w h _ _ rest x) (rw x) (rw x)
    either w h f false x =
        let s = neither (eqb w 0) (eqb h 0) x in
        let W = pos_of_ne-zero (eqb-false w 0 s.0) in
        let H = pos_of_ne-zero (eqb-false h 0 s.1) in
        let k : picture f.pixels (tight w h) ≡ f.pixels = picture_again f.pixels (tight w h) W refl f.counted in
        checked w h f (Ok tt) (room_enough w h W H f.wide f.high _ _ _ _ (omega (arith, f.counted)) d b q) (rw (k, x)) (rw (k, x))

    pub whole : AnswersAndMarks input lent.dst lent.out n left.dst left.out
    unfolding Answer
    whole = go (parsed_of input) (parsed_answers input)
      where
        go : (r : Parsed) → Answers input r → Answer
        go (Some p) k = either p.width p.height k.form (empty p.width p.height) refl
        go None other =
            let x = a.other other in
            record {
              writes = rw (line_other input other) x.writes;
              marks = x.dst_left ∙ sym (marks_by_lem input None other lent.dst);
            }
