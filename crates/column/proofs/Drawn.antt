-- One law for each way out of `draw`: the line, and the rows after it where there are any, are what the program writes. Assumes nothing.
use Rattle.std.proofs.Common.{ℕ, ◌+◌, ◌*◌, ◌≤◌, ◌<◌, mul-le-mul, arith, ◌≡◌, refl, sym, ap, subst, ◌∙◌, ◌⊎◌, inl, inr, Bool, true, false, cond, List, [], ◌++◌, append_assoc, append-nil, eqb, length, take, drop, length-append, take-append-drop, length-take-le, take_at, drop-drop, eq-eqb, ne_eqb}
use Rattle.std.proofs.Math.Seq.{drop-append-le, drop-append-add}
use Rattle.std.proofs.lemmas.Bool.{eqb-false}
use Rattle.image.specs.Plane.{pixel, painted_on, overwritten}
use Rattle.image.specs.PlaneLaws.{in_plane, pixel_plane, plane_same, length-plane}
use Rattle.image.specs.PaintLaws.{painted_pixel}
use Rattle.image.specs.Views.{length-painted_on}
use Rattle.imgproc.specs.declared.reading.judging.Judgement.{Judgement}
use Rattle.imgproc.specs.declared.reading.judging.Judgement.TheVariants.{Dark, Light, Skipped}
use Rattle.imgproc.specs.Reading.{judged, byte_of, marked}
use Rattle.std.specs.Prelude.{Option, Some}
use Rattle.pgm.specs.Form.{side_limit, Parsed, Pictured, Answers}
use Rattle.pgm.specs.Line.{line_room}
use Rattle.answer.specs.Answer.{settings, tight}
use Rattle.answer.specs.Program.{empty, program_line, most_pixels, Prints, AnswersAndMarks}
use Rattle.answer.specs.ProgramLaws.{marks_by_lem, printed}
use Rattle.column.specs.Drawing.{picture_rows, mark_of, row_byte, rows_of, rows_by, program_rows, program_drawing, drawing_room}
use Rattle.column.specs.DrawingLaws.{rows_by_lem}
use Rattle.column.specs.Steps.{ink_of, Room, DrawsRows}

-- a judgement's byte is drawn as the judgement's mark
ink_mark : (j : Judgement) → ink_of (byte_of settings.sauvola j) ≡ mark_of j
ink_mark Dark = refl
ink_mark Light = refl
ink_mark Skipped = refl

-- a picture with a zero side has no rows
pub no_rows : (w h : ℕ) (pixels : List ℕ) → (w ≡ 0) ⊎ ((w ≡ 0 → ⊥) × (h ≡ 0)) → picture_rows w h pixels ≡ []
no_rows w h pixels (inl z) = rw (eq-eqb w 0 z)
no_rows w h pixels (inr z) = rw (ne_eqb w 0 z.0, eq-eqb h 0 z.1)

-- a drawing of two parts, a text and rows
module _ (text rows out : List ℕ) where
  -- the rows are written right after the text
  joined : {n : ℕ} (d : List ℕ) → n ≡ length text → d ≡ text ++ drop (length text) out → Prints (text ++ rows) out (n + length rows) (overwritten n rows d)
  joined {n} d e f = record {
    answers = ap (λ (k : ℕ). k + length rows) e ∙ sym (length-append text rows);
    leaves =
        ap (λ (l : List ℕ). overwritten n rows l) f
        ∙ ap (λ (k : ℕ). overwritten k rows (text ++ drop (length text) out)) e
        ∙ ap (λ (l : List ℕ). l ++ (rows ++ drop (length text + length rows) (text ++ drop (length text) out)))
        (take_at text (drop (length text) out) (length text) refl)
        ∙ ap (λ (l : List ℕ). text ++ (rows ++ l)) (drop-append-add text (drop (length text) out) (length rows) ∙ drop-drop (length rows) (length text) out)
        ∙ sym (append_assoc text rows (drop (length text + length rows) out))
        ∙ ap (λ (k : ℕ). (text ++ rows) ++ drop k out) (sym (length-append text rows));
  }

  -- there are no rows
  alone : {n : ℕ} (d : List ℕ) → rows ≡ [] → n ≡ length text → d ≡ text ++ drop (length text) out → Prints (text ++ rows) out n d
  alone {n} d z e f =
      let t : text ++ rows ≡ text = ap (λ (r : List ℕ). text ++ r) z ∙ append-nil text in
      subst (λ (x : List ℕ). Prints x out n d) (sym t) (record { answers = e; leaves = f })

-- what is known once the line is written into the first part of a buffer: there is room for the rows, and the destination is marked
pub record Lined (input out dst part dst' : List ℕ) (n : ℕ) : Type 0 where
  pub answer : Option ℕ
  pub counted : answer ≡ Some n
  pub room : drawing_room ≤ length out
  pub pixels : length dst ≡ most_pixels
  pub same : length part ≡ length (take line_room out)
  pub answers : AnswersAndMarks input dst (take line_room out) answer dst' part

pub lined :
    {input out dst part dst' : List ℕ} {r : Option ℕ} {n : ℕ}
    → r ≡ Some n
    → drawing_room ≤ length out
    → length dst ≡ most_pixels
    → length part ≡ length (take line_room out)
    → AnswersAndMarks input dst (take line_room out) r dst' part
    → Lined input out dst part dst' n
lined {r = r} counted room pixels same answers = record { answer = r; counted = counted; room = room; pixels = pixels; same = same; answers = answers }

module _ {input out dst part dst' : List ℕ} {n : ℕ} (k : Lined input out dst part dst' n) where
  front : length (take line_room out) ≡ line_room
  front = length-take-le line_room out (omega (arith, k.room))

  -- the line stands at the start of its part
  line : Prints (program_line input) (take line_room out) n part
  line = printed (program_line input) (take line_room out) part (omega (arith, front)) k.counted k.answers.writes

  -- the line fits its part
  short : length (program_line input) ≤ line_room
  short =
      let text = program_line input in
      omega (arith, k.same, front, ap length line.leaves ∙ length-append text (drop (length text) (take line_room out)))

  -- so it stands at the start of the whole buffer, the rest of which is as it was
  begins : part ++ drop line_room out ≡ program_line input ++ drop (length (program_line input)) out
  begins =
      let t = program_line input in
      ap (λ (l : List ℕ). l ++ drop line_room out) line.leaves
      ∙ append_assoc t (drop (length t) (take line_room out)) (drop line_room out)
      ∙ ap (λ (l : List ℕ). t ++ l)
      (sym (drop-append-le (length t) (take line_room out) (drop line_room out) (omega (arith, front, short)))
      ∙ ap (drop (length t)) (take-append-drop line_room out))

  length-after : length (part ++ drop line_room out) ≡ length out
  length-after =
      omega (
        arith,
        k.same,
        length-append part (drop line_room out),
        ap length (take-append-drop line_room out),
        length-append (take line_room out) (drop line_room out),
        front,
      )

  -- there are no rows: nothing more is drawn
  pub undrawn : (r : Parsed) → Answers input r → rows_by r ≡ [] → Prints (program_drawing input) out n (part ++ drop line_room out)
  undrawn r a z = alone (program_line input) (program_rows input) out (part ++ drop line_room out) (rows_by_lem input r a ∙ z) line.answers begins

  -- the rows of a picture with no zero side
  module _ (w h start : ℕ) (pixels : List ℕ) (a : Pictured input (record { width = w; height = h; start = start; pixels = pixels })) (W : w ≡ 0 → ⊥) (H : h ≡ 0 → ⊥) where
    full : empty w h ≡ false
    full = rw (ne_eqb w 0 W, ne_eqb h 0 H)

    -- the destination has the reading's marks in its rows
    left_marks : dst' ≡ painted_on dst (tight w h) (marked settings w h pixels)
    left_marks =
        k.answers.marks
        ∙ marks_by_lem input (Some (record { width = w; height = h; start = start; pixels = pixels })) a dst
        ∙ ap (λ (b : Bool). cond b dst (painted_on dst (tight w h) (marked settings w h pixels))) full

    pub length-marks : length dst' ≡ most_pixels
    length-marks = ap length left_marks ∙ length-painted_on dst (tight w h) (marked settings w h pixels) ∙ k.pixels

    area : w * h ≤ most_pixels
    area = mul-le-mul a.form.wide a.form.high

    judgement : ℕ → ℕ → Judgement
    judgement = judged settings w h pixels

    -- a pixel of the destination is the byte of its judgement
    pixel_is : (x y : ℕ) → x < w → y < h → pixel dst' w x y ≡ byte_of settings.sauvola (judgement x y)
    unfolding marked judgement
    pixel_is x y X Y =
        ap (λ (d : List ℕ). pixel d w x y) left_marks
        ∙ painted_pixel (marked settings w h pixels) w h w dst x y X Y (omega arith) (omega (arith, k.pixels, area, in_plane w h x y X Y))
        ∙ pixel_plane w h (λ x y. byte_of settings.sauvola (judgement x y)) x y X Y

    -- so each byte of its rows is drawn as the program draws it
    byte_is : (x y : ℕ) → x < w + 1 → y < h → row_byte (λ x y. ink_of (pixel dst' w x y)) w x y ≡ row_byte (λ x y. mark_of (judgement x y)) w x y
    byte_is x y X Y = go (eqb x w) refl
      where
        go : (b : Bool) → eqb x w ≡ b → cond b 10 (ink_of (pixel dst' w x y)) ≡ cond b 10 (mark_of (judgement x y))
        go true e = refl
        go false e =
            let d : x ≡ w → ⊥ = eqb-false x w e in
            ap ink_of (pixel_is x y (omega arith) Y) ∙ ink_mark (judgement x y)

    -- and so are its rows
    rows_same : program_rows input ≡ rows_of w h (λ x y. ink_of (pixel dst' w x y))
    unfolding judgement
    rows_same =
        rows_by_lem input (Some (record { width = w; height = h; start = start; pixels = pixels })) a
        ∙ ap (λ (b : Bool). cond b [] (rows_of w h (λ x y. mark_of (judgement x y)))) full
        ∙ sym (plane_same (w + 1) h (row_byte (λ x y. ink_of (pixel dst' w x y)) w) (row_byte (λ x y. mark_of (judgement x y)) w) (omega arith) byte_is)

    -- there is room for them
    pub room_rows : Room dst' w h (part ++ drop line_room out) n
    room_rows = record {
      small = omega (arith, a.form.wide);
      holds = omega (arith, area, length-marks);
      fits = omega (arith, k.room, length-after, short, line.answers, most);
    }
      where
        most : (w + 1) * h ≤ (side_limit + 1) * side_limit
        most = mul-le-mul {n₁ = w + 1} {m₁ = h} {n₂ = side_limit + 1} {m₂ = side_limit} (omega (arith, a.form.wide)) a.form.high

    -- the line and the rows are the program's drawing
    pub drawn : {r : ℕ} (out' : List ℕ) → DrawsRows dst' w h (part ++ drop line_room out) n r out' → Prints (program_drawing input) out r out'
    drawn {r} out' x =
        let rows = rows_of w h (λ x y. ink_of (pixel dst' w x y)) in
        let t : program_line input ++ rows ≡ program_drawing input = ap (λ (l : List ℕ). program_line input ++ l) (sym rows_same) in
        let e : n + length rows ≡ r = ap (λ (m : ℕ). n + m) (length-plane (w + 1) h (row_byte (λ x y. ink_of (pixel dst' w x y)) w)) ∙ sym x.answers in
        let p = joined (program_line input) rows out (part ++ drop line_room out) line.answers begins in
        let q = subst (λ (m : ℕ). Prints (program_line input ++ rows) out m (overwritten n rows (part ++ drop line_room out))) e p in
        let s = subst (λ (l : List ℕ). Prints (program_line input ++ rows) out r l) (sym x.leaves) q in
        subst (λ (l : List ℕ). Prints l out r out') t s
