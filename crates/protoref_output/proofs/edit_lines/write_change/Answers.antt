use Rattle.std.proofs.Common.{ℕ, List, ◌++◌, codes, rules, OnErr, OnOk, string_bytes}
use Rattle.proto_base.proofs.Common.{Appends, err_from_is_err_and}
use Rattle.protoref_output.specs.Writing.{AppendsBeginning}
use Rattle.protoref_output.proofs.Beginnings.{begins_behind, begins_longer, three_begun, three_written}
use Rattle.protoref_output.proofs.edit_lines.write_change.Goals as goal

pub returns-in_err-write_text-clause-err : goal.returns-in_err-write_text-clause-err
returns-in_err-write_text-clause-err g c =
    let contents = g.W.Write.contents in
    let path : List ℕ = string_bytes c.args.change.now.path in
    let first : AppendsBeginning (contents c.args.writer.now) (contents c.write_text.new.writer) (codes "changed ") = search rules in
    let p = err_from_is_err_and c.from_residual.result c.from_residual.ensures.1 in
    rw (p.1) (begins_longer (contents c.args.writer.now) (contents c.write_text.new.writer) (codes "changed ") (path ++ codes "\n") first)

pub returns-in_err-write_text-2-clause-err : goal.returns-in_err-write_text-2-clause-err
returns-in_err-write_text-2-clause-err g c =
    let contents = g.W.Write.contents in
    let path : List ℕ = string_bytes c.args.change.now.path in
    let first : Appends (contents c.args.writer.now) (contents c.write_text.new.writer) (codes "changed ") = search rules in
    let second : AppendsBeginning (contents c.write_text.new.writer) (contents c.write_text-2.new.writer) path = search rules in
    let p = err_from_is_err_and c.from_residual-in_err-write_text-2.result c.from_residual-in_err-write_text-2.ensures.1 in
    rw (p.1)
    (begins_behind (contents c.args.writer.now) (contents c.write_text.new.writer) (contents c.write_text-2.new.writer) (codes "changed ") (path ++ codes "\n") first
    (begins_longer (contents c.write_text.new.writer) (contents c.write_text-2.new.writer) path (codes "\n") second))

pub returns-clause-ok : goal.returns-clause-ok
returns-clause-ok g c =
    let contents = g.W.Write.contents in
    let path : List ℕ = string_bytes c.args.change.now.path in
    let first : Appends (contents c.args.writer.now) (contents c.write_text.new.writer) (codes "changed ") = search rules in
    let second : Appends (contents c.write_text.new.writer) (contents c.write_text-2.new.writer) path = search rules in
    let third : OnOk c.write_text-3.result (Appends (contents c.write_text-2.new.writer) (contents c.write_text-3.new.writer) (codes "\n")) = search rules in
    three_written c.write_text-3.result (contents c.args.writer.now) (contents c.write_text.new.writer) (contents c.write_text-2.new.writer) (contents c.write_text-3.new.writer)
    (codes "changed ") path (codes "\n") first second third

pub returns-clause-err : goal.returns-clause-err
returns-clause-err g c =
    let contents = g.W.Write.contents in
    let path : List ℕ = string_bytes c.args.change.now.path in
    let first : Appends (contents c.args.writer.now) (contents c.write_text.new.writer) (codes "changed ") = search rules in
    let second : Appends (contents c.write_text.new.writer) (contents c.write_text-2.new.writer) path = search rules in
    let third : OnErr c.write_text-3.result (AppendsBeginning (contents c.write_text-2.new.writer) (contents c.write_text-3.new.writer) (codes "\n")) = search rules in
    three_begun c.write_text-3.result (contents c.args.writer.now) (contents c.write_text.new.writer) (contents c.write_text-2.new.writer) (contents c.write_text-3.new.writer)
    (codes "changed ") path (codes "\n") first second third
