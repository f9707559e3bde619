use Rattle.std.proofs.Common.{◌≡◌, List, All, subst, sym, ◌∙◌}
use Rattle.std.proofs.lemmas.Result.{IfOk-weaker}
use Rattle.std.specs.List.{AllZip}
use Rattle.proto_answers.specs.declared.symbols.Symbol.{Symbol}
use Rattle.proto_session_replies.specs.Symbols.{IsSentSymbol}
use Rattle.proto_session_replies.proofs.SentSymbols.{symbols_stand}
use Rattle.proto_session_replies.proofs.symbols.symbols_of.Goals as goal

pub returns : goal.returns
returns c =
    let e = c.args.encoding in
    let files = c.args.files.now in
    IfOk-weaker c.sent_symbols.result _ _
    (λ sent h reads are.
    (let is = c.as_slice.ensures.value ∙ c.in_ok-all.ensures reads are in
    let there = subst (All (λ (s : Symbol). s.location.file ≡ 0)) (sym is) (symbols_stand e files reads 0) in
    subst (λ (all : List Symbol). AllZip (IsSentSymbol files reads) all sent.items) is (h reads are there)))
    c.sent_symbols.ensures
