use Rattle.std.proofs.Common.{List, [], ◌∷◌, Option, sym, ◌∙◌}
use Rattle.std.proofs.lemmas.Result.{IfOk-weaker}
use Rattle.proto_files.specs.FilesRead.{AreRead, ReadOf}
use Rattle.proto_edit_entries.specs.declared.refusal.Refusal.{Refusal}
use Rattle.proto_edit_rules.specs.Options.{IsOptionWord}
use Rattle.proto_edit_rules.specs.Rename.{IsValueWord, Target}
use Rattle.proto_option_values.specs.OptionValues.{IsOptionValue}
use Rattle.proto_edit_captures.specs.FoundTargets.{IsFoundTarget}
use Rattle.proto_edit_rename.proofs.OptionNames.{first_is, unnamed}
use Rattle.proto_edit_rename.proofs.option_checks.value_refusal.Goals as goal

pub returns-then-not-is_named_in_values : goal.returns-then-not-is_named_in_values
returns-then-not-is_named_in_values c = λ reads r t h.
    unnamed c.args.linked.now.files reads r c.args.target t h c.args.to.now (sym c.is_named_in_values.ensures ∙ c.if-not-is_named_in_values.true)

pub returns : goal.returns
returns c =
    let files = c.args.linked.now.files in
    let a = c.args.target in
    let to = c.args.to.now in
    let own = c.own_word.result.now in
    IfOk-weaker c.option_value.result
    (λ (o : Option Refusal). (reads : List ReadOf) → AreRead files reads → IsOptionValue files reads (IsOptionWord files reads a.file (own ∷ to ∷ [])) o)
    (λ (o : Option Refusal). (reads : List ReadOf) → AreRead files reads → (t : Target) → IsFoundTarget files reads a t → IsOptionValue files reads (IsValueWord files reads t to) o)
    (λ o first reads r t h. first_is files reads r a t h to (sym c.is_named_in_values.ensures ∙ c.if-not-is_named_in_values.false) own ((rw c.files-files.ensures.files at c.own_word.ensures) reads r) o (first reads r))
    c.option_value.ensures
