use Rattle.std.proofs.Common.{◌≡◌, ◌<◌, ◌↔◌, ℕ, List, Option, Some, length, map, true, sym, ◌∙◌, subst, arith, All}
use Rattle.proto_files.proofs.Common.{paths_of, ReadOf}
use Rattle.proto_names_rules.specs.Faults.{file_with_path}
use Rattle.proto_names_imports.proofs.Common.{link_imports}
use Rattle.proto_lint.proofs.Reached.{reach_walks, walk_reaches}
use Rattle.proto_lint.proofs.UsedFinds.{place_within}
use Rattle.proto_lint.specs.ImportTables.{ArePublic, LeadsToMarked}
use Rattle.proto_lint.proofs.imports.Imports.leads.Goals as goal

pub reached_files-requires : goal.reached_files-requires
reached_files-requires c =
    let files = c.args.files.now in
    let path = c.args.path.now in
    let is : file_with_path (paths_of files) path ≡ Some c.in-Some.file = sym (c.requires.imports.index path) ∙ sym c.place_of.ensures ∙ c.in-Some.is in
    let low = place_within files path c.in-Some.file is in
    let count : length c.deref.result.now ≡ length files = subst (λ vs. length vs ≡ length files) (sym c.deref.ensures.value) c.requires.imports.count in
    record {
      start = omega (arith, low, count);
      files = λ k d l j e m.
          (let all = subst (λ vs. All (λ v. All (λ g. g < length files) v.items) vs) (sym c.deref.ensures.value) c.requires.imports.within in
          let g = all k d l j e m in
          omega (arith, g, count));
    }

pub returns-in_ok-seen-in-Some : goal.returns-in_ok-seen-in-Some
returns-in_ok-seen-in-Some c = λ (reads : List ReadOf) are.
    (let files = c.args.files.now in
    let path = c.args.path.now in
    let imports = link_imports files reads in
    let next = map (λ v. v.items) c.deref.result.now in
    let public : ArePublic next imports = subst (λ vs. ArePublic (map (λ v. v.items) vs) imports) (sym c.deref.ensures.value) (c.requires.imports.public reads are) in
    let is : file_with_path (paths_of files) path ≡ Some c.in-Some.file = sym (c.requires.imports.index path) ∙ sym c.place_of.ensures ∙ c.in-Some.is in
    subst (λ (o : Option ℕ). (c.intersects.result ≡ true) ↔ LeadsToMarked imports o c.args.set.now) (sym is) (
      λ t. (let x = c.intersects.ensures.0 t in (x.0, walk_reaches next imports public ((c.in_ok-seen-in-Some.ensures.exact x.0).0 x.1.0), x.1.1)),
      λ (g, r, m). c.intersects.ensures.1 (g, ((c.in_ok-seen-in-Some.ensures.exact g).1 (reach_walks next imports public r), m)),
    ))
