-- Proves the work of an accepted morphology call: its planes lie in the workspace, and what is packed, operated on and painted is the contract's
-- picture. Assumes nothing.
use mathlib.Core.Path.{◌≡◌, ap, ◌∙◌}
use mathlib.Core.List.{List}
use Prim.Native.Nat.{ℕ, ◌*◌}
use native.Mathlib.Omega.{arith}
use lib.ListN.{length}
use Rattle.image.specs.Answers.{Answer, Bare}
use Rattle.image.specs.Plane.{picture, part}
use Rattle.image.specs.Copy.{Packs, Unpacks}
use Rattle.imgproc.specs.declared.morphology.tally.Tally.{Tally}
use Rattle.imgproc.specs.declared.morphology.Operation.{Operation}
use Rattle.imgproc.specs.MorphologyCalls.{operated, morphology, Counts, RunReady}
use Rattle.imgproc.specs.Calls.{Loan, Works}
use Rattle.image.specs.CopyLaws.{packs_plane}
use Rattle.imgproc.proofs.Serving.{unpacked_works}

-- ---- packed, operated on, painted
module _ {lent : Loan ℕ} (ready : RunReady lent) {r : Answer Bare} {first : List ℕ}
    (pack : Packs lent.src lent.source 0 lent.workspace r first) where
  abbrev w : ℕ
  w = lent.source.width

  abbrev h : ℕ
  h = lent.source.height

  plane : (length first ≡ length lent.workspace) × (part 0 (w * h) first ≡ picture lent.src lent.source)
  plane = packs_plane ready.pair.from (omega (arith, ready.fits)) pack

  pub run_works : {operation : Operation} {raised : Tally} {second dst : List ℕ} {r' : Answer Bare}
      → Counts operation first lent.settings w h raised second
      → Unpacks second (w * h) lent.dst lent.target r' dst
      → Works (morphology operation) lent raised (record { dst = dst; workspace = second })
  run_works {operation} counts unpack =
      unpacked_works ready.pair ready.fits
      (counts.leaves ∙ ap (operated operation lent.settings w h) plane.1)
      counts.counted (counts.long ∙ plane.0) unpack
