-- Laws of texts that are written one after another: each starts where the one before it ended, and a line is such a text.
-- Assumes nothing.
use Rattle.std.proofs.Common.{◌≡◌, refl, ap, ap₂, ◌∙◌, ℕ, ◌+◌, ◌≤◌, ◌<◌, List, [], ◌∷◌, ◌++◌, length, set, arith, zero-add, le-ltb, length-append}
use Rattle.std.specs.Prelude.{Some}
use Rattle.image.specs.Plane.{overwritten}
use Rattle.image.specs.PlaneLaws.{length-overwritten}
use Rattle.image.specs.PaintLaws.{overwritten_more}
use Rattle.image.specs.WriteLaws.{set_is}
use Rattle.pgm.specs.Line.{line_room, Writes}
use Rattle.pgm.specs.LineLaws.{word_short}
use Rattle.pgm.specs.Steps.{Puts}

-- storing one byte writes a text of one
pub puts_byte : (at v : ℕ) (d : List ℕ) → at < length d → Puts (v ∷ []) at d (at + 1) (set d at v)
puts_byte at v d s = record { answers = refl; leaves = set_is d at v s }

module _ {p : List ℕ} {at : ℕ} {d : List ℕ} {m : ℕ} {e : List ℕ} (first : Puts p at d m e) where
  -- the buffer keeps its length
  pub puts_length : m ≤ length d → length e ≡ length d
  puts_length s = ap length first.leaves ∙ length-overwritten at p d (omega (arith, first.answers))

  -- a text that is written right after the first makes one text of both
  pub puts_join : {q : List ℕ} {r : ℕ} {f : List ℕ} → Puts q m e r f → r ≤ length d → Puts (p ++ q) at d r f
  puts_join {q} second s =
      record {
        answers = omega (arith, first.answers, second.answers, length-append p q);
        leaves =
            second.leaves
            ∙ ap₂ (λ (k : ℕ) (l : List ℕ). overwritten k q l) first.answers first.leaves
            ∙ overwritten_more at p q d (omega (arith, first.answers, second.answers));
      }

  -- and so does one byte
  pub puts_then : (v : ℕ) → m < length d → Puts (p ++ (v ∷ [])) at d (m + 1) (set e m v)
  puts_then v s = puts_join (puts_byte m v e (omega (arith, puts_length (omega arith)))) (omega arith)

-- a text at the start of a buffer with room for any line is a line that is written
pub written : (text before : List ℕ) (answer : ℕ) (after : List ℕ) → line_room ≤ length before →
    Puts text 0 before answer after → Writes text before (Some answer) after
written text before answer after s p =
    record {
      answers = ap Some p.answers ∙ rw (le-ltb (length before) line_room s, zero-add);
      leaves = p.leaves ∙ rw (le-ltb (length before) line_room s, zero-add);
    }

-- what the functions that write need
pub ruleset writing = (word_short, puts_byte, puts_length, puts_join, puts_then, written)
