use Rattle.std.proofs.Common.{[], ◌++◌, get_or, length, map, refl, ◌∙◌, ap, arith, length-set, take_all}
use Rattle.proto_base.proofs.Common.{length-map, IfOk-from_err}
use Rattle.proto_names.specs.Common.{meant_in_file, references_to, Meant}
use Rattle.proto_names.proofs.MeantBy.{more_put}
use Rattle.proto_names.proofs.backlinks.put_all.Goals as goal

pub put-requires : goal.put-requires
put-requires c =
    let none : Meant = record { token = 0; first = 0; row = 0 } in
    omega (arith, c.requires c.loop-one.one-index none c.loop-one-test.true, c.loop-one.invariant.len)

pub loop-one-preserved : goal.loop-one-preserved
loop-one-preserved c =
    let none : Meant = record { token = 0; first = 0; row = 0 } in
    let m = get_or c.args.meant.now c.loop-one.one-index none in
    let old = map (λ v. v.items) c.loop-one.references.items in
    let n = length-map c.loop-one.references.items (λ v. v.items) in
    let put = length-map c.put.new.references.items (λ v. v.items) in
    let same = ap length c.in_ok-put.ensures ∙ length-set old m.row _ in
    record {
      len = omega (arith, n, put, same, c.loop-one.invariant.len);
      each = λ row. more_put c.args.file c.args.meant.now c.loop-one.one-index m none c.loop-one-test.true refl old (map (λ v. v.items) c.put.new.references.items)
          (omega (arith, n, c.requires c.loop-one.one-index none c.loop-one-test.true, c.loop-one.invariant.len)) c.in_ok-put.ensures row _ (c.loop-one.invariant.each row);
    }

pub returns : goal.returns
returns c =
    let all = take_all c.loop-one.one-index c.args.meant.now c.loop-one-test.false in
    record {
      len = c.loop-one.invariant.len;
      each = λ row. c.loop-one.invariant.each row ∙ ap (λ ms. get_or (map (λ v. v.items) c.args.references.now.items) row [] ++ references_to row (map (meant_in_file c.args.file) ms)) all;
    }

pub returns-in_err-put : goal.returns-in_err-put
returns-in_err-put c = let r = c.from_residual.result in record { len = IfOk-from_err r _ c.from_residual.ensures.0; each = IfOk-from_err r _ c.from_residual.ensures.0 }
