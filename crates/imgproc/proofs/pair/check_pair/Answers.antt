-- `check_pair` refuses by the source's layout, the destination's, and the sizes. Assumes nothing.
use Rattle.std.proofs.Common.{sym, length}
use Rattle.image.specs.LayoutLaws.{kept_as}
use Rattle.imgproc.proofs.WaysOut.{told, by_source, by_target, by_sizes}
use Rattle.imgproc.proofs.pair.check_pair.Goals as goal

pub returns-in_err-source : goal.returns-in_err-source
returns-in_err-source c =
    let a = c.args in
    told _ _ _ c.from_residual.ensures.1 (by_source (length a.src.now) a.src_geometry a.dst_len a.dst_geometry c.in_err-source.ensures)

pub returns-in_err-validate_layout : goal.returns-in_err-validate_layout
returns-in_err-validate_layout c =
    let a = c.args in
    told _ _ _ c.from_residual-in_err-validate_layout.ensures.1
    (by_target (length a.src.now) a.src_geometry a.dst_len a.dst_geometry c.in_ok-source.ensures.2 (sym c.in_err-validate_layout.ensures))

pub returns-then-src_geometry-dst_geometry : goal.returns-then-src_geometry-dst_geometry
returns-then-src_geometry-dst_geometry c =
    let a = c.args in
    by_sizes (length a.src.now) a.src_geometry a.dst_len a.dst_geometry c.in_ok-source.ensures.2
    (kept_as a.dst_len a.dst_geometry _ (sym c.in_ok-validate_layout.ensures)).0
    c.then-src_geometry-dst_geometry.either

pub returns : goal.returns
returns c = (
  c.in_ok-source.ensures.0,
  c.in_ok-source.ensures.1,
  record {
    from = c.in_ok-source.ensures.2;
    to = (kept_as c.args.dst_len c.args.dst_geometry _ (sym c.in_ok-validate_layout.ensures)).0;
    wide = c.if-src_geometry-dst_geometry.false;
    high = c.if-src_geometry-dst_geometry-2.false;
  },
)
