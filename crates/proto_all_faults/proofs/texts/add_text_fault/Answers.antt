use Rattle.std.proofs.Common.{ℕ, List, Err, map, sym, subst, ◌∙◌}
use Rattle.std.proofs.lemmas.Result.{on_ok_weaker}
use Rattle.proto_text.specs.SourceFacts.{NewSource}
use Rattle.proto_files.specs.Common.{FileOf, HasNone, IsFileError, IsText, IsTextFault, fault_at, text_error}
use Rattle.proto_files.proofs.FileErrors.{lex_error, no_text_fault}
use Rattle.proto_all_faults.proofs.TextLists.{added_none, added_one, no_source}
use Rattle.proto_all_faults.proofs.texts.add_text_fault.Goals as goal

pub returns-in-Err : goal.returns-in-Err
returns-in-Err c =
    let file : FileOf = record { path = c.args.path.now; bytes = c.args.bytes.now; profile = c.args.profile } in
    let none = subst (λ (bytes : List ℕ). NewSource bytes (Err c.in-Err.fault)) c.in_ok-from_slice.ensures.items c.in-Err.ensures.new in
    on_ok_weaker c.add_error.result
    (λ is. added_one IsTextFault file c.text_error.result (map fault_at c.args.found.now.items) (map fault_at c.add_error.new.found.items)
    (subst (IsFileError IsTextFault file) (sym c.text_error.ensures) (no_source c.in_ok-path.path file c.in-Err.fault c.in_ok-path.ensures.ok none)) is) c.add_error.ensures

pub returns-in-Ok-lex_as : goal.returns-in-Ok-lex_as
returns-in-Ok-lex_as c =
    let new = c.in-Ok.ensures.new in
    let text = subst IsText (sym new.0) (record { short = new.1; utf8 = new.2 }) in
    let one : List ℕ → FileOf = λ bytes. record { path = c.args.path.now; bytes = bytes; profile = c.args.profile } in
    added_none IsTextFault (one c.args.bytes.now) (map fault_at c.args.found.now.items)
    (subst (λ (bytes : List ℕ). HasNone IsTextFault (one bytes)) (new.0 ∙ c.in_ok-from_slice.ensures.items) (no_text_fault (one c.in-Ok.source) _ text c.in-Ok-lex_as.ensures.allowed))

pub returns-in-Err-lex_as : goal.returns-in-Err-lex_as
returns-in-Err-lex_as c =
    let file : FileOf = record { path = c.args.path.now; bytes = c.args.bytes.now; profile = c.args.profile } in
    let e = c.text_error-in-Err-lex_as.result in
    let new = c.in-Ok.ensures.new in
    let text = subst IsText (sym new.0) (record { short = new.1; utf8 = new.2 }) in
    on_ok_weaker c.add_error-in-Err-lex_as.result
    (λ is. added_one IsTextFault file e (map fault_at c.args.found.now.items) (map fault_at c.add_error-in-Err-lex_as.new.found.items)
    (subst (IsFileError IsTextFault file) (sym c.text_error-in-Err-lex_as.ensures)
    (subst (λ (bytes : List ℕ). IsFileError IsTextFault (record { path = c.args.path.now; bytes = bytes; profile = c.args.profile }) (text_error c.in_ok-path.path c.in-Err-lex_as.fault)) (new.0 ∙ c.in_ok-from_slice.ensures.items)
    (lex_error c.in_ok-path.path (record { path = c.args.path.now; bytes = c.in-Ok.source; profile = c.args.profile }) c.in-Err-lex_as.fault c.in_ok-path.ensures.ok text c.in-Err-lex_as.ensures.fault c.in-Err-lex_as.ensures.only_fault))) is) c.add_error-in-Err-lex_as.ensures
