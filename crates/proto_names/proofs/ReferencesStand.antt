-- In a link of files without faults the references to each name are those of what it has of each file.
use Rattle.std.proofs.Common.{◌≡◌, ℕ, ◌<◌, List, [], length, get_or, map, Option, Some, None, refl, sym, ◌∙◌, subst, arith}
use Rattle.proto_base.proofs.Common.{Vec, both_ways}
use Rattle.proto_files.proofs.Common.{AreRead, FileOf, ReadOf}
use Rattle.proto_names_imports.proofs.Common.{names_of_files, text_of}
use Rattle.proto_names_rules.proofs.Common.{sees}
use Rattle.proto_names.proofs.LinkParts.{in_files}
use Rattle.proto_names.proofs.Unmeant.{no_references}
use Rattle.proto_names.proofs.NamesThere.{text_to}
use Rattle.proto_names.proofs.RenewedMeanings.{file_means_the_same}
use Rattle.proto_names.specs.Common.{AreFileMeant, AreMeant, LinkOf, NameOf, all_meant, name_at, references_to, uses_of, word_key}
use Rattle.proto_names.specs.Renewed.{IsTableOf, NumbersStay}
use Rattle.proto_names_update.proofs.Clean.{linked}
use Rattle.proto_names_update.specs.Edited.{AreEdited}
use Rattle.proto_names_update.specs.Relinked.{HasToLook}
use Rattle.proto_names_table.proofs.Common.{used_named}
use Rattle.proto_names_table.specs.declared.table.Table.{Table}

-- ---- a link

module _ (files : List FileOf) (reads : List ReadOf) (are : AreRead files reads) (l : LinkOf) (t : Table) (rows : List (Vec ℕ)) (of : IsTableOf files reads l t rows) where
  -- where nothing is edited, nothing has to be re-resolved
  as_they_were : AreEdited [] files reads files reads
  as_they_were = record {
    same = record { paths = refl; others = λ file lf none. refl };
    were_read = are;
    are_read = are;
  }

  nothing_to_look : HasToLook word_key [] files reads files reads []
  nothing_to_look = record {
    edited = λ file c. absurd (omega (arith, c.1));
    none_hidden = λ r s c left h cs ty seen. seen;
    none_gone = λ r s c left h cs there ty. cs;
    none_came = λ r first rest c left words s front last cs there outer name key own. cs;
    none_shown = λ r first rest c left words s front last cs now unseen outer name key own. absurd (both_ways (sees (names_of_files files reads) r.file s.file) unseen now);
  }

  same_numbers : NumbersStay t t
  same_numbers = record { size = omega arith; names = λ row lt. refl }

  -- what the link has of a file is what its references mean, by the rows of the table
  pub file_is_meant : (k : ℕ) → k < length files → AreFileMeant t files reads k (get_or l.meant k [])
  file_is_meant k lk = file_means_the_same [] files reads files reads [] as_they_were nothing_to_look k lk refl of.clean l t t of.names same_numbers (linked files reads are of.clean) (of.link.means k lk)

  -- the references to a name that a file declares
  pub references_stand : (row : ℕ) (n : NameOf) → name_at l row ≡ Some n → get_or l.references row [] ≡ references_to row (all_meant 0 l.meant)
  references_stand row n h =
      let r = text_to t l of.names row n h in
      let w = names_of_files files reads in
      let text = text_of files reads in
      of.link.by.references row n h
      ∙ sym (in_files text t of.table w row n.text r.0 r.1 0 reads l.meant (of.link.lists ∙ sym are.same)
      (λ (k : ℕ) (lk : k < length reads). subst (λ (m : ℕ). AreMeant t w (map (used_named text m) (uses_of reads k)) (map (λ u. u.first) (uses_of reads k)) (get_or l.meant k [])) (omega arith) (file_is_meant k (omega (arith, lk, are.same)))))

  -- a name that no file declares has none
  pub nothing_means : (row : ℕ) → name_at l row ≡ None → references_to row (all_meant 0 l.meant) ≡ []
  nothing_means row none = no_references l row none (λ k lk. (of.link.means k (omega (arith, lk, of.link.lists))).within)

  -- so all lists are those of what references mean
  pub all_references_stand : (row : ℕ) → get_or l.references row [] ≡ references_to row (all_meant 0 l.meant)
  all_references_stand row = go (name_at l row) refl
    where
      go : (o : Option NameOf) → name_at l row ≡ o → get_or l.references row [] ≡ references_to row (all_meant 0 l.meant)
      go None h = of.link.unmeant row h ∙ sym (nothing_means row h)
      go (Some n) h = references_stand row n h
