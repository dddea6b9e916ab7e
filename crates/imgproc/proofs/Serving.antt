-- The contract of a call from picture to picture, by its way out, and the work of an accepted one. Assumes nothing.
use Rattle.std.specs.Prelude.{Ok, Err}
use mathlib.Core.Path.{◌≡◌, refl, sym, ap, ap₂, ◌∙◌}
use mathlib.Core.List.{List}
use Prim.Native.Nat.{ℕ, ◌*◌, ◌≤◌}
use native.Mathlib.Omega.{arith}
use lib.ListN.{length}
use Rattle.image.specs.Answers.{Answer, Bare, accepted, refused}
use Rattle.image.specs.Plane.{painted_on, picture, part}
use Rattle.image.specs.Copy.{Unpacks}
use Rattle.image.specs.CopyLaws.{unpacks_done}
use Rattle.imgproc.specs.declared.ImgProcError.{ImgProcError}
use Rattle.imgproc.specs.declared.morphology.tally.Tally.{Tally}
use Rattle.imgproc.specs.Tallies.{Stands}
use Rattle.imgproc.specs.Refusals.{error_number, Conditions, first, pair_conditions}
use Rattle.imgproc.specs.Calls.{Loan, Left, Operator, conditions_of, made_of, Serves, Paired, Works}
use Rattle.imgproc.proofs.WaysOut.{past, before}

module _ {S A : Type 0} (operator : Operator S A) (lent : Loan S) where
  abbrev own : Conditions
  own = operator.own lent.settings lent.source (length lent.workspace)

  -- refused: all is left as it was lent
  refused_call : {e : ImgProcError} → first (conditions_of operator lent) ≡ Err e
      → Serves operator lent (refused (error_number e)) (record { dst = lent.dst; workspace = lent.workspace })
  refused_call r = record { answers = rw r; leaves = rw r; keeps = rw r refl }

  -- by the pair, or by its own conditions after it
  pub refused_by_pair : {e : ImgProcError}
      → first (pair_conditions (length lent.src) lent.source (length lent.dst) lent.target) ≡ Err e
      → Serves operator lent (refused (error_number e)) (record { dst = lent.dst; workspace = lent.workspace })
  refused_by_pair r = refused_call (before (length lent.src) lent.source (length lent.dst) lent.target own r)

  module _ (p : Paired (length lent.src) lent.source (length lent.dst) lent.target) where
    own_is : first (conditions_of operator lent) ≡ first own
    own_is = past (length lent.src) lent.source (length lent.dst) lent.target own p

    pub refused_by_own : {e : ImgProcError} → first own ≡ Err e
        → Serves operator lent (refused (error_number e)) (record { dst = lent.dst; workspace = lent.workspace })
    refused_by_own r = refused_call (own_is ∙ r)

    -- accepted
    pub served : {values : A} {left : Left} → first own ≡ Ok tt
        → values ≡ operator.values lent.settings lent.source.width lent.source.height
        → left.dst ≡ made_of operator lent
        → length left.workspace ≡ length lent.workspace
        → Serves operator lent (accepted values) left
    served taken answers made long =
        let q = own_is ∙ taken in
        record { answers = rw q (ap accepted answers); leaves = rw q made; keeps = rw q long }

-- accepted, and worked: the tally is what it answers
pub worked : {S : Type 0} (operator : Operator S ℕ) (lent : Loan S) {raised : Tally} {left : Left}
    → Paired (length lent.src) lent.source (length lent.dst) lent.target
    → first (operator.own lent.settings lent.source (length lent.workspace)) ≡ Ok tt
    → Works operator lent raised left
    → Serves operator lent (accepted raised.comparisons) left
worked operator lent p taken w = served operator lent p taken w.counted.at w.leaves w.long

module _ {S : Type 0} {operator : Operator S ℕ} {lent : Loan S} where
  -- the work of a call whose picture was made in the second plane of its workspace, and unpacked
  pub unpacked_works : {raised : Tally} {ws dst : List ℕ} {r : Answer Bare}
      → let w = lent.source.width in let h = lent.source.height in
      Paired (length lent.src) lent.source (length lent.dst) lent.target
      → 6 * (w * h) ≤ length lent.workspace
      → part (w * h) (w * h) ws ≡ operator.make lent.settings w h (picture lent.src lent.source)
      → Stands raised (operator.values lent.settings w h)
      → length ws ≡ length lent.workspace
      → Unpacks ws (w * h) lent.dst lent.target r dst
      → Works operator lent raised (record { dst = dst; workspace = ws })
  unpacked_works {ws = ws} pair fits made counted long unpack =
      let n = lent.source.width * lent.source.height in
      let t = lent.target in
      let area : t.width * t.height ≡ n = ap₂ (λ (a b : ℕ). a * b) (sym pair.wide) (sym pair.high) in
      record {
        leaves =
            unpacks_done pair.to (omega (arith, long, fits)) unpack
            ∙ ap (painted_on lent.dst t) (ap (λ (m : ℕ). part n m ws) area ∙ made);
        counted = counted;
        long = long;
      }
