use Rattle.std.proofs.Common.{◌≡◌, ◌++◌, ℕ, List, IfSome, [], length, get_or, map, slice_get, ap, subst, arith}
use Rattle.proto_desc_affected.specs.Checked.{enum_by_link}
use Rattle.proto_resolved.specs.Enums.{enum_row_at}
use Rattle.proto_desc_affected.specs.Common.{enum_summary_of}
use Rattle.proto_desc_affected.proofs.EnumsByLink.{one_more}
use Rattle.proto_desc_affected.proofs.file_summary.enums_declared.Goals as goal

pub loop-place-preserved : goal.loop-place-preserved
loop-place-preserved c =
    let l = c.args.link.now in
    let rows = get_or l.rows c.args.file [] in
    let place = c.loop-place.place in
    let was = map enum_summary_of c.loop-place.enums.items in
    let now = map enum_summary_of c.add_enum_at.new.enums.items in
    let kept = enum_by_link l (enum_row_at c.args.rows.now) in
    one_more kept rows place was now (omega (arith, c.loop-place-test.true, c.len-place-end.ensures, ap length c.declared_in-names.ensures.exact)) c.loop-place.invariant
    (subst (λ (xs : List ℕ). IfSome (slice_get xs place) (λ row. now ≡ was ++ kept row)) c.declared_in-names.ensures.exact c.in_ok-add_enum_at.ensures)
