use Rattle.std.proofs.Common.{◌≡◌, ◌++◌, List, sym, ◌∙◌, ap, subst, rules, false}
use Rattle.proto_base.specs.Texts.{or_nothing}
use Rattle.proto_text.specs.Strings.{IsString}
use Rattle.proto_text.specs.Values.{value_of}
use Rattle.proto_tree.specs.Modifiers.{is_public}
use Rattle.proto_files.proofs.Common.{paths_of, ReadOf, AreRead}
use Rattle.proto_names_imports.specs.Links.{names_of_files}
use Rattle.proto_lint_rules.specs.declared.rule.Rule.TheVariants as rule
use Rattle.proto_lint_names.proofs.Common.{found_by, reading_of, word_in}
use Rattle.proto_lint.proofs.UsedFinds.{leads_is_used, used_found}
use Rattle.proto_lint.specs.Imports.{ImportsOf, import_path, import_used}
use Rattle.proto_lint.proofs.imports.FileImports.add_used.Goals as goal

pub string_value-requires : goal.string_value-requires
string_value-requires c = subst IsString (ap (λ (x : ImportsOf). word_in x.read c.args.import.now.path) (sym c.self.view_is) ∙ sym c.text.ensures) c.requires

pub returns-in_ok-add_unless : goal.returns-in_ok-add_unless
returns-in_ok-add_unless c =
    let i = c.args.import.now in
    let linter = c.self.inside.linter.now in
    let files = linter.linked.now.files in
    let file = c.self.inside.reading.now.file in
    let r = reading_of c.self.inside.reading.now in
    let path = c.as_str.result.now in
    let old = c.args.found.now in
    let new = c.add_unless.new.self in
    let chosen = sym c.has.ensures ∙ c.if-has.true in
    let plain : is_public i.modifier ≡ false = sym c.is_public.ensures ∙ c.if-not-is_public.true in
    let again = c.as_str-then-not-is_public.ensures.value ∙ sym c.as_str.ensures.value in
    let is : import_path r i ≡ path = ap or_nothing (ap value_of (sym c.text.ensures) ∙ c.in_ok-path.ensures.value) ∙ sym c.as_str.ensures.value in
    subst (λ (x : ImportsOf). (reads : List ReadOf) → AreRead x.files reads → new ≡ old ++ found_by x.rules x.read rule.ImportUsed (import_used (names_of_files x.files reads) (paths_of x.files) x.read x.file i)) c.self.view_is
    (λ (reads : List ReadOf) are.
    (let uses = leads_is_used files reads are file c.self.inside.used (c.self.invariant.1 chosen) path c.in_ok-passes.passes ((rw c.files.ensures.files at c.in_ok-passes.ensures) reads are) in
    used_found linter.rules.now.chosen r (names_of_files files reads) (paths_of files) file i old new path c.in_ok-passes.passes chosen plain is uses
    (grind (rules, c.in_ok-add_unless.ensures.added, again))))
