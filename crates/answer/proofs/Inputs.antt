-- `answer` parsed an input: one law for each way out. Assumes nothing.
use Rattle.std.proofs.Common.{ℕ, List, sym, subst, ◌∙◌}
use Rattle.std.specs.Prelude.{Option, None}
use Rattle.pgm.specs.Form.{PictureFound, Pictured, Answers}
use Rattle.pgm.specs.FormLaws.{same_header}
use Rattle.pgm.specs.ParseLaws.{parsed_as}
use Rattle.answer.specs.Answer.{Buffers, AnswersPicture, AnswersMalformed, AnswersInput}

module _ (l : List ℕ) {lent left : Buffers} {n : Option ℕ} where
  -- the input is a picture: its values are those of any form of the input
  pub answers_picture : (p : PictureFound) → Pictured l p → AnswersPicture p.width p.height p.pixels lent n left → AnswersInput l lent n left
  answers_picture p k a = record {
    picture = λ v g f.
        let s = same_header p.width p.height v g k.form.pixels f.pixels k.form.wide k.form.high f.wide f.high (sym k.form.whole ∙ f.whole) in
        subst (λ (x : ℕ). AnswersPicture x g f.pixels lent n left) s.0
        (subst (λ (y : ℕ). AnswersPicture p.width y f.pixels lent n left) s.1.0
        (subst (λ (q : List ℕ). AnswersPicture p.width p.height q lent n left) (k.same ∙ s.1.1) a));
    other = λ none. absurd (none p.width p.height k.form);
  }

  -- the input is no picture
  pub answers_other : Answers l None → AnswersMalformed lent n left → AnswersInput l lent n left
  answers_other none a = record {
    picture = λ w h f. absurd (none w h f);
    other = λ _. a;
  }

-- what `answer` needs of what it parsed
pub ruleset parsing = (parsed_as, answers_picture, answers_other)
