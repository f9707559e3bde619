use Rattle.std.proofs.Common.{◌≤◌, ◌<◌, ℕ, List, get_or, length, subst, sym, ap, ◌∙◌}
use Rattle.std.proofs.lemmas.Result.{IfOk-weaker}
use Rattle.proto_files.proofs.Common.{same_tree}
use Rattle.proto_names_outline.proofs.Common.{items_in, needs, package_first, read}
use Rattle.proto_names_outline.specs.declared.listing.Listed.{Listed}
use Rattle.proto_tree.specs.File.{tree_of_file}
use Rattle.proto_answers.proofs.SymbolLists.{HaveTokens, Symbols}
use Rattle.proto_answers.proofs.symbols.symbols_in.Goals as goal

pub symbols_listed-requires-clause-ordered : goal.symbols_listed-requires-clause-ordered
symbols_listed-requires-clause-ordered c =
    subst (λ (es : List Listed). (k : ℕ) (d : Listed) → k < length es → needs (get_or es k d).above ≤ k) (sym c.deref.ensures.value) c.in_ok-listing.ensures.sound.ordered

pub symbols_listed-requires-clause-tokens : goal.symbols_listed-requires-clause-tokens
symbols_listed-requires-clause-tokens c = subst HaveTokens (sym c.deref.ensures.value) c.in_ok-listing.ensures.sound.tokens

pub returns : goal.returns
returns c =
    let files = c.args.files.now in
    let file = c.args.file in
    IfOk-weaker c.symbols_listed.result _ _ (λ all h reads are. h reads are
    ∙ ap (λ (es : List Listed). Symbols c.args.encoding files reads file (read es)) c.deref.ensures.value
    ∙ ap (Symbols c.args.encoding files reads file) (c.in_ok-listing.ensures.declared ∙ ap (λ t. package_first (items_in t)) (sym (same_tree files reads file (tree_of_file c.tree.result.now) are c.requires c.tree.ensures))))
    c.symbols_listed.ensures
