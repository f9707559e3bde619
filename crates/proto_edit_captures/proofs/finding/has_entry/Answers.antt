use Rattle.std.proofs.Common.{◌≡◌, ◌++◌, List, ℕ, sym, ap, ap₂, subst, ◌∙◌, IsTrue, ◌↔◌}
use Rattle.std.proofs.lemmas.List.{append_cancel_right}
use Rattle.proto_case.specs.Camel.{entry_name}
use Rattle.proto_names_imports.specs.Links.{text_of}
use Rattle.proto_names_rules.specs.Grown.{at}
use Rattle.proto_names_rules.specs.declared.kind.Kind.TheVariants.{Entry}
use Rattle.proto_edit_captures.specs.Looked.{HasDeclared}
use Rattle.proto_edit_captures.proofs.finding.has_entry.Goals as goal

pub word-own-requires : goal.word-own-requires
word-own-requires c = rw c.files.ensures.files c.requires.0

pub front-front-requires : goal.front-front-requires
front-front-requires c =
    let own = (rw c.files.ensures.files at c.word-own.ensures) c.files.ensures.clean.reads c.files.ensures.clean.read in
    let spelled = c.requires.1 c.files.ensures.clean.reads c.files.ensures.clean.read in
    (spelled.0, spelled.1 ∙ ap (λ (z : List ℕ). spelled.0 ++ z) (sym own))

pub returns : goal.returns
returns c = λ reads are front e.
    let own : c.word-own.result.now ≡ text_of c.args.linked.now.files reads (at c.args.target.file c.args.target.token) = (rw c.files.ensures.files at c.word-own.ensures) reads are in
    let fronts : c.front-front.result.now ≡ front =
    append_cancel_right c.front-front.result.now front c.word-own.result.now (sym c.front-front.ensures ∙ e ∙ ap (λ (z : List ℕ). front ++ z) (sym own)) in
    let text : c.as_str-2.result.now ≡ front ++ entry_name (text_of c.args.linked.now.files reads (at c.args.target.file c.args.target.token)) =
    c.as_str-2.ensures.value ∙ c.in_ok-name.ensures ∙ ap₂ (λ (x y : List ℕ). x ++ y) fronts (c.as_str.ensures.value ∙ c.in_ok-entry.ensures.name ∙ ap entry_name own) in
    subst (λ (z : List ℕ). IsTrue c.is_entry_at.result ↔ HasDeclared c.args.linked.now.link z Entry (at c.args.target.file c.args.target.token)) text (rw c.link.ensures.link at c.is_entry_at.ensures)
