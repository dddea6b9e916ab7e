-- `decode` reads each number at its place. Assumes nothing.
use Rattle.std.proofs.Common.{refl}
use Rattle.std.proofs.lemmas.List.{drop-drop}
use Rattle.records.specs.Format.{filled, decoded}
use Rattle.records.proofs.record.Record.decode.Goals as goal

pub returns : goal.returns
unfolding decoded filled
returns c = rw (
  drop-drop 4 2 c.args.bytes.now,
  drop-drop 2 6 c.args.bytes.now,
  drop-drop 2 8 c.args.bytes.now,
  drop-drop 2 10 c.args.bytes.now,
  drop-drop 4 12 c.args.bytes.now,
  drop-drop 4 16 c.args.bytes.now,
  drop-drop 4 20 c.args.bytes.now,
  c.u32_at.ensures,
  c.u16_at.ensures,
  c.u16_at-2.ensures,
  c.u16_at-3.ensures,
  c.u32_at-2.ensures,
  c.u32_at-3.ensures,
  c.u32_at-4.ensures,
  c.u32_at-5.ensures,
) refl
