-- The scope of each reference of files is declared by its file, or empty.
use Rattle.std.proofs.Common.{◌≡◌, ℕ, ◌+◌, ◌<◌, List, length, map, refl, sym, ◌∙◌, ap, subst, arith, Contains}
use Rattle.proto_base.proofs.Common.{contains_map, from_map}
use Rattle.proto_case.specs.Camel.{entry_name}
use Rattle.proto_text.proofs.Common.{lexeme_at}
use Rattle.proto_files.proofs.Common.{AreRead, FileOf, ReadOf, file_at, read_at}
use Rattle.proto_names_outline.proofs.FromTree.{tree_grown}
use Rattle.proto_names_rules.proofs.Common.{FileAt, IsGrown, Reference, Used, all_declared, all_used, at, declared_to, declares, name_of, reference_of, shifted_source, symbol_of, used_in}
use Rattle.proto_names_imports.proofs.FileUses.{use_from}
use Rattle.proto_names_imports.specs.Links.{names_in, names_of_files, text_of}
use Rattle.proto_names_rules.specs.Marked.{IsScopeOf, ScopesAreOwn}
use Rattle.proto_names_imports.proofs.NumberedFiles.{file_there}

module _ (files : List FileOf) (reads : List ReadOf) (are : AreRead files reads) where
  -- a reference in the file with this number
  own_scope : (k : ℕ) → k < length reads → (u : Used ℕ) → Contains (names_in (read_at reads k)).used u → IsScopeOf (names_of_files files reads) k (name_of (text_of files reads) entry_name (map (shifted_source (at k)) u.scope))
  own_scope k l u c long =
      let text = text_of files reads in
      let grown : IsGrown (names_in (read_at reads k)) = tree_grown (file_at files k).profile (read_at reads k).tree (map (lexeme_at (file_at files k).bytes) (read_at reads k).tokens) (are.trees k (omega (arith, l, are.same))).spells in
      let p = grown.scopes u c (λ none. omega (arith, long, ap (λ z. length (name_of text entry_name (map (shifted_source (at k)) z))) none)) in
      let here : 0 + k ≡ k = omega arith in
      let there : FileAt 0 (map names_in reads) k (names_in (read_at reads k)) = subst (λ (m : ℕ). FileAt 0 (map names_in reads) m (names_in (read_at reads k))) here (file_there 0 reads k l) in (
        symbol_of text entry_name (declares k p.0),
        contains_map (symbol_of text entry_name) (all_declared 0 (map names_in reads)) (declares k p.0) (declared_to 0 (map names_in reads) k (names_in (read_at reads k)) there p.0 p.1),
        ap (λ z. name_of text entry_name (map (shifted_source (at k)) z)) p.2,
        refl,
      )

  pub scopes_are_own : ScopesAreOwn (names_of_files files reads)
  scopes_are_own r c =
      let text = text_of files reads in
      let u = from_map (reference_of text entry_name) (all_used 0 (map names_in reads)) r c in
      let v = use_from 0 reads u.0 u.1 in
      let k : ℕ = v.0 in
      let here : 0 + k ≡ k = omega arith in
      let is : reference_of text entry_name (used_in k v.2.0) ≡ r = ap (λ (m : ℕ). reference_of text entry_name (used_in m v.2.0)) (sym here) ∙ ap (reference_of text entry_name) v.2.2 ∙ u.2 in
      subst (λ (z : Reference). IsScopeOf (names_of_files files reads) z.file z.scope) is (own_scope k v.1 v.2.0 v.2.1)
