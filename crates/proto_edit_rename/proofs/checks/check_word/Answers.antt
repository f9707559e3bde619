use Rattle.std.proofs.Common.{◌≡◌, true, false, sym, ◌∙◌}
use Rattle.proto_text.specs.Words.{is_run}
use Rattle.proto_edit_rules.specs.Rename.{is_keyword_of}
use Rattle.proto_edit_rename.proofs.Refused.{keyword_free, keyword_refused, run_of, same_free, same_refused, word_free, word_refused}
use Rattle.proto_edit_rename.proofs.checks.check_word.Goals as goal

pub returns-then-not-is_word-clause-err : goal.returns-then-not-is_word-clause-err
returns-then-not-is_word-clause-err c =
    word_refused c.args.linked.now.files c.files-files.ensures.clean.clean c.args.target c.requires.target c.args.to.now c.files-files.ensures.clean.reads c.files-files.ensures.clean.read c.is_word.result c.is_word.ensures c.if-not-is_word.true c.requires.before

pub returns-then-is_keyword-clause-err : goal.returns-then-is_keyword-clause-err
returns-then-is_keyword-clause-err c =
    let files = c.args.linked.now.files in
    let to = c.args.to.now in
    let word : is_run to ≡ true = run_of files c.files-files.ensures.clean.clean c.args.target c.requires.target to c.is_word.result c.is_word.ensures c.if-not-is_word.false in
    keyword_refused files c.files-files.ensures.clean.clean c.args.target c.requires.target to c.files-files.ensures.clean.reads c.files-files.ensures.clean.read (sym c.is_keyword.ensures ∙ c.if-is_keyword.true) (word_free files c.files-files.ensures.clean.clean c.args.target c.requires.target to word c.requires.before)

pub has_name-requires : goal.has_name-requires
has_name-requires c = rw c.files-files.ensures.files c.requires.target

pub returns-then-has_name-clause-err : goal.returns-then-has_name-clause-err
returns-then-has_name-clause-err c =
    let files = c.args.linked.now.files in
    let to = c.args.to.now in
    let word : is_run to ≡ true = run_of files c.files-files.ensures.clean.clean c.args.target c.requires.target to c.is_word.result c.is_word.ensures c.if-not-is_word.false in
    let other : is_keyword_of c.args.target.kind to ≡ false = sym c.is_keyword.ensures ∙ c.if-is_keyword.false in
    let free = keyword_free files c.files-files.ensures.clean.clean c.args.target c.requires.target to other (word_free files c.files-files.ensures.clean.clean c.args.target c.requires.target to word c.requires.before) in
    same_refused files c.files-files.ensures.clean.clean c.args.target c.requires.target to c.files-files.ensures.clean.reads c.files-files.ensures.clean.read (((rw c.files-files.ensures.files at c.has_name.ensures) c.files-files.ensures.clean.reads c.files-files.ensures.clean.read).0 c.if-has_name.true) free

pub returns-clause-free : goal.returns-clause-free
returns-clause-free c =
    let files = c.args.linked.now.files in
    let to = c.args.to.now in
    let word : is_run to ≡ true = run_of files c.files-files.ensures.clean.clean c.args.target c.requires.target to c.is_word.result c.is_word.ensures c.if-not-is_word.false in
    let other : is_keyword_of c.args.target.kind to ≡ false = sym c.is_keyword.ensures ∙ c.if-is_keyword.false in
    let free = keyword_free files c.files-files.ensures.clean.clean c.args.target c.requires.target to other (word_free files c.files-files.ensures.clean.clean c.args.target c.requires.target to word c.requires.before) in
    same_free files c.files-files.ensures.clean.clean c.args.target c.requires.target to c.has_name.result (rw c.files-files.ensures.files at c.has_name.ensures) c.if-has_name.false free

pub returns-clause-word : goal.returns-clause-word
returns-clause-word c = run_of c.args.linked.now.files c.files-files.ensures.clean.clean c.args.target c.requires.target c.args.to.now c.is_word.result c.is_word.ensures c.if-not-is_word.false
