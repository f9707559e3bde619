-- What is found file by file, one more file at a time.
use Rattle.std.proofs.Common.{◌≡◌, ℕ, suc, ◌+◌, ◌<◌, Bool, List, [], ◌++◌, length, map, drop, drop-cons, sym, ap, ◌∙◌, append_assoc, arith}
use Rattle.proto_tree.specs.Tree.{End}
use Rattle.proto_files.proofs.Common.{FileOf, file_at, ReadOf, AreRead}
use Rattle.proto_lint_names.specs.Listings.{FindingOf, found_in}
use Rattle.proto_lint.specs.Findings.{file_finds, findings_from}

module _ (files : List FileOf) (reads : List ReadOf) where
  findings_step : (rules : List Bool) (file : ℕ) → file < length reads
      → findings_from rules files reads file (drop file reads) ≡ map (found_in (file_at files file).path) (file_finds rules files reads file) ++ findings_from rules files reads (file + 1) (drop (file + 1) reads)
  findings_step rules file l =
      let one : suc file ≡ file + 1 = omega arith in
      ap (findings_from rules files reads file) (drop-cons reads file (record { tokens = []; tree = End }) l)
      ∙ ap (λ (n : ℕ). map (found_in (file_at files file).path) (file_finds rules files reads file) ++ findings_from rules files reads n (drop n reads)) one

  pub findings_more : AreRead files reads → (rules : List Bool) (file : ℕ) → file < length files → (old new all : List FindingOf)
      → new ≡ old ++ map (found_in (file_at files file).path) (file_finds rules files reads file) → old ++ findings_from rules files reads file (drop file reads) ≡ all → new ++ findings_from rules files reads (file + 1) (drop (file + 1) reads) ≡ all
  findings_more are rules file within old new all added before =
      let rest = findings_from rules files reads (file + 1) (drop (file + 1) reads) in
      let here = map (found_in (file_at files file).path) (file_finds rules files reads file) in
      ap (λ (fs : List FindingOf). fs ++ rest) added
      ∙ append_assoc old here rest
      ∙ ap (λ (fs : List FindingOf). old ++ fs) (sym (findings_step rules file (let n = are.same in omega (arith, n, within))))
      ∙ before
