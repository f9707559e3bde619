use Rattle.std.proofs.Common.{◌≡◌, ◌↔◌, ◌++◌, List, ℕ, Bor, Option, Some, None, option_map, sym, ap, subst, ◌∙◌, if◌then◌else◌}
use Rattle.proto_case.specs.Camel.{entry_name}
use Rattle.proto_names_imports.specs.Links.{names_of_files, text_of}
use Rattle.proto_names_rules.proofs.Common.{Collides, name_of}
use Rattle.proto_edit_rules.specs.Rename.{name_map}
use Rattle.proto_edit_captures.specs.Collisions.{IsOneTaken}
use Rattle.proto_edit_captures.proofs.Aimed.{spelled_aim}
use Rattle.proto_edit_captures.proofs.Aims.{aim_inside}
use Rattle.proto_edit_captures.proofs.IfOks.{if_ok_tests}
use Rattle.proto_edit_captures.proofs.JoinedNames.{lead}
use Rattle.proto_edit_captures.proofs.Taken.{collides_aimed}
use Rattle.proto_edit_captures.proofs.collisions.collides.Goals as goal

pub word-own-requires : goal.word-own-requires
word-own-requires c = rw c.files.ensures.files (aim_inside c.args.linked.now.files c.files.ensures.clean.reads c.files.ensures.clean.read c.args.target c.requires.target).0

pub front-front-requires : goal.front-front-requires
front-front-requires c =
    let files = c.args.linked.now.files in
    let reads = c.files.ensures.clean.reads in
    let are = c.files.ensures.clean.read in
    let t = c.requires.target reads are in
    let front = lead (name_of (text_of files reads) entry_name t.0.above) in
    (front, spelled_aim files reads are c.files.ensures.clean.clean c.args.linked.now.link (c.files.ensures.clean.link reads are) c.args.target t.0 t.1 ∙ ap (λ (z : List ℕ). front ++ z) (sym ((rw c.files.ensures.files at c.word-own.ensures) reads are)))

pub returns : goal.returns
returns c = λ reads are t aimed.
    let files = c.args.linked.now.files in
    let own = c.word-own.result.now in
    let front = c.front-front.result.now in
    let to = c.args.to.now in
    let b = c.args.target.is_map in
    let l = c.args.linked.now.link in
    let old : option_map (λ (x : Bor (List ℕ)). x.now) c.as_deref-entry.result ≡ (if b then Some (entry_name own) else None) = c.as_deref-entry.ensures.value ∙ c.in_ok-old_entry.ensures in
    let new : option_map (λ (x : Bor (List ℕ)). x.now) c.as_deref-new_entry.result ≡ (if b then Some (entry_name to) else None) = c.as_deref-new_entry.ensures.value ∙ c.in_ok-new_entry.ensures in
    let texts = collides_aimed files reads are c.files.ensures.clean.clean l (c.files.ensures.clean.link reads are) c.args.target t aimed to c.requires.word front own c.front-front.ensures ((rw c.files.ensures.files at c.word-own.ensures) reads are) in
    if_ok_tests
    (IsOneTaken l front own (option_map (λ (x : Bor (List ℕ)). x.now) c.as_deref-entry.result) to (option_map (λ (x : Bor (List ℕ)). x.now) c.as_deref-new_entry.result))
    (Collides (name_map files reads t to) (names_of_files files reads)) c.is_one_taken.result (rw c.link.ensures.link at c.is_one_taken.ensures)
    (subst (λ (z : Option (List ℕ)). IsOneTaken l front own z to (option_map (λ (x : Bor (List ℕ)). x.now) c.as_deref-new_entry.result) ↔ Collides (name_map files reads t to) (names_of_files files reads)) (sym old)
    (subst (λ (z : Option (List ℕ)). IsOneTaken l front own (if b then Some (entry_name own) else None) to z ↔ Collides (name_map files reads t to) (names_of_files files reads)) (sym new) texts))
