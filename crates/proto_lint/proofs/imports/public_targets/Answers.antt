use Rattle.std.proofs.Common.{◌++◌, ℕ, List, Option, false, map, take, sym, ◌∙◌, ap, option_to_list}
use Rattle.proto_text.specs.Texts.{word_at}
use Rattle.proto_names_outline.specs.Listing.{wanted_of}
use Rattle.proto_names_outline.specs.declared.wanted.Wanted.{Wanted}
use Rattle.proto_lint.specs.ImportTables.{public_targets}
use Rattle.proto_lint.proofs.PublicImports.{targets_more}
use Rattle.proto_lint.proofs.imports.public_targets.Goals as goal

-- an import for no place
abbrev no_import : Wanted
no_import = record { path = 0; is_public = false; is_weak = false }

pub loop-import-preserved : goal.loop-import-preserved
loop-import-preserved c = λ (paths : List (List ℕ)) index.
    (let text = word_at c.args.words.now in
    let ws = c.args.wanted.now in
    let i = c.loop-import.import-index in
    c.in_ok-add.ensures ∙ ap (λ ts. ts ++ option_to_list c.in_ok-public_target.field-0) (c.loop-import.invariant paths index)
    ∙ ap (λ (o : Option ℕ). public_targets paths text (map wanted_of (take i ws)) ++ option_to_list o) (c.in_ok-public_target.ensures paths index)
    ∙ sym (targets_more paths text ws i no_import c.loop-import-test.true))
