-- `encode` stores the mark, and copies the bytes of each number to their place. Assumes nothing.
use Rattle.std.proofs.Common.{◌∙◌, refl}
use Rattle.records.specs.Format.{spelled, encoded}
use Rattle.records.proofs.record.Record.encode.Goals as goal

pub returns : goal.returns
unfolding encoded spelled
returns c = rw (
  c.copy_from_slice.ensures.after ∙ c.to_be_bytes.ensures,
  c.copy_from_slice-2.ensures.after ∙ c.to_be_bytes-2.ensures,
  c.copy_from_slice-3.ensures.after ∙ c.to_be_bytes-3.ensures,
  c.copy_from_slice-4.ensures.after ∙ c.to_be_bytes-4.ensures,
  c.copy_from_slice-5.ensures.after ∙ c.to_be_bytes-5.ensures,
  c.copy_from_slice-6.ensures.after ∙ c.to_be_bytes-6.ensures,
  c.copy_from_slice-7.ensures.after ∙ c.to_be_bytes-7.ensures,
  c.copy_from_slice-8.ensures.after ∙ c.to_be_bytes-8.ensures,
) refl
