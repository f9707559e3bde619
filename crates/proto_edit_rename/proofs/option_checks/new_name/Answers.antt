use Rattle.std.proofs.Common.{◌∙◌, sym}
use Rattle.std.proofs.lemmas.Result.{IfOk-weaker}
use Rattle.proto_edit_rename.proofs.OptionNames.{front_there, new_text}
use Rattle.proto_edit_rename.proofs.option_checks.new_name.Goals as goal

pub front-requires : goal.front-requires
front-requires c =
    let files = c.args.linked.now.files in
    let reads = c.files.ensures.clean.reads in
    let r = c.files.ensures.clean.read in
    let t = c.requires.target reads r in
    front_there files reads r c.args.target t.0 t.1 c.args.to.now c.own_word-own.result.now ((rw c.files.ensures.files at c.own_word-own.ensures) reads r)

pub returns : goal.returns
returns c =
    let files = c.args.linked.now.files in
    let a = c.args.target in
    let to = c.args.to.now in
    let front = c.front.result.now in
    IfOk-weaker c.beside.result _ _
    (λ name is reads r t h. new_text files reads r a t h to c.own_word-own.result.now ((rw c.files.ensures.files at c.own_word-own.ensures) reads r) front c.front.ensures ∙ sym is)
    c.beside.ensures
