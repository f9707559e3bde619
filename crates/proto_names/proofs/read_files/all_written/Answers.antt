use Rattle.std.proofs.Common.{◌≡◌, List, length, map, sym, subst, arith, All}
use Rattle.proto_text.proofs.Common.{IsString, word_at}
use Rattle.proto_tree.specs.File.{tree_of_file}
use Rattle.proto_names_outline.specs.FromTree.{imports_in}
use Rattle.proto_names_imports.proofs.Common.{asked_by, TokensAreRising, asked_as, text_of, AreWritten}
use Rattle.proto_files.proofs.Common.{ReadOf, read_at, each_pushed, AreWordsAt}
use Rattle.proto_names_outline.specs.declared.wanted.Wanted.{Wanted}
use Rattle.proto_names.proofs.EachFile.{all_pushed, asked_files}
use Rattle.proto_names_update.proofs.FileLists.{asked_at, rising_at, strings_at}
use Rattle.proto_names.proofs.read_files.all_written.Goals as goal

pub written_imports-requires : goal.written_imports-requires
written_imports-requires c =
    let f : AreWordsAt c.args.files.now c.loop-file.file c.new-words.ensures.some.0 c.new-words.result = record {
      within = omega (arith, c.loop-file-test.true, c.len-file-end.ensures.len);
      tokens_are = c.new-words.ensures.some.1;
      words = c.new-words.ensures.some.2;
    } in
    record {
      strings = subst (λ (ws : List Wanted). All (λ w. IsString (word_at c.new-words.result w.path)) ws) (sym c.deref.ensures.value)
          (strings_at c.args.files.now c.loop-file.file c.new-words.ensures.some.0 c.new-words.result f (tree_of_file c.tree.result.now) c.tree.ensures c.in_ok-wanted.wanted.items c.in_ok-wanted.ensures);
    }

pub loop-file-preserved : goal.loop-file-preserved
loop-file-preserved c =
    let files = c.args.files.now in
    let file = c.loop-file.file in
    let tokens = c.new-words.ensures.some.0 in
    let tree = tree_of_file c.tree.result.now in
    let ls = c.new-words.result in
    let all = c.loop-file.all.items in
    let v = c.in_ok-written_imports.field-0 in
    let n : length all ≡ file = c.loop-file.invariant.len in
    let f : AreWordsAt files file tokens ls = record {
      within = omega (arith, c.loop-file-test.true, c.len-file-end.ensures.len);
      tokens_are = c.new-words.ensures.some.1;
      words = c.new-words.ensures.some.2;
    } in
    let written : AreWritten (word_at ls) c.in_ok-wanted.wanted.items v.items = subst (λ (ws : List Wanted). AreWritten (word_at ls) ws v.items) c.deref.ensures.value c.in_ok-written_imports.ensures in
    record {
      len = omega (arith, n, c.in_ok-push.ensures.len, c.loop-file.all.ok.0, c.push.new.self.ok.0);
      rising = all_pushed (λ x. TokensAreRising x.items) all c.push.new.self.items v c.in_ok-push.ensures.items c.loop-file.invariant.rising
          (rising_at files file tokens ls f tree c.tree.ensures c.in_ok-wanted.wanted.items c.in_ok-wanted.ensures v.items written);
      asked = λ (reads : List ReadOf) are.
          each_pushed (λ k x. map (asked_by k) x.items ≡ map (asked_as (text_of files reads) k) (imports_in (read_at reads k).tree)) all c.push.new.self.items v file c.in_ok-push.ensures.items n
          (c.loop-file.invariant.asked reads are) (asked_at files file tokens ls f tree c.tree.ensures c.in_ok-wanted.wanted.items c.in_ok-wanted.ensures reads are v.items written);
    }

pub returns-clause-asked : goal.returns-clause-asked
returns-clause-asked c = λ (reads : List ReadOf) are.
    asked_files (λ v. v.items) (text_of c.args.files.now reads) c.loop-file.all.items reads
    (let n : length c.loop-file.all.items ≡ c.loop-file.file = c.loop-file.invariant.len in
    omega (arith, n, are.same, c.loop-file-test.false, c.len-file-end.ensures.len, c.loop-file.auto.file-end))
    (c.loop-file.invariant.asked reads are)
