-- An added import and a dropped one change one file by one splice, which is an entry.
use Rattle.std.proofs.Common.{◌≡◌, ◌≢◌, ℕ, zero, suc, ◌+◌, ◌-◌, ◌<◌, ◌≤◌, List, [], ◌++◌, length, take, drop, map, ap, ◌∙◌, arith, length-append}
use Rattle.proto_base.proofs.Common.{length-map, text_limit}
use Rattle.proto_text.specs.declared.lexer.Token.{Token}
use Rattle.proto_text.proofs.Common.{QuotedStandsForItself, bytes_between, end_before, moved, Lexeme, lexeme_at}
use Rattle.proto_tree.specs.declared.context.Context.TheVariants as context
use Rattle.proto_tree.specs.declared.piece.Statement.{Statement}
use Rattle.proto_tree.specs.declared.piece.Statement.TheVariants as statement
use Rattle.proto_tree.specs.declared.tree.Import.{Import}
use Rattle.proto_tree.proofs.Common.{Mark, Move, shift, ReadsIn, Tree, End, Leaf, flat}
use Rattle.proto_files.proofs.Common.{read_at, file_at}
use Rattle.proto_edit_statement_laws.proofs.Common.{own, AdditionsAreRead, DropsAreRead, IsImportTakenOut, added_text, addition, drop_of, import_place, around, some_marks, fit_long, leaf_long}
use Rattle.proto_edit_statement_laws.specs.ImportChanges.{AdditionsAreChanges, DropsAreChanges}
use Rattle.proto_edit_rules.specs.AddImport.{splice_of_addition}
use Rattle.proto_edit_rules.specs.DropImport.{splice_of_drop}
use Rattle.proto_edit_statement_laws.proofs.Apart.{same_tokens}
use Rattle.proto_edit_statement_laws.proofs.OneFile.{changed_by}
use Rattle.proto_edit_statement_laws.proofs.Paths.{paths_are_plain}
use Rattle.proto_base.specs.declared.profile.Profile.{Profile}

some_added : (n : ℕ) (path : List ℕ) → [] ≡ added_text n path → ⊥
some_added zero path e = cc
some_added (suc n) path e = cc

pub additions_are_changes : AdditionsAreRead → QuotedStandsForItself → AdditionsAreChanges
additions_are_changes law quoted files reads file path are within is short =
    let text : List ℕ = (file_at files file).bytes in
    let tokens : List Token = (read_at reads file).tokens in
    let tree : Tree = (read_at reads file).tree in
    let plain = paths_are_plain path is in
    let v = law (file_at files file).profile text tokens tree path (are.read.trees file within) (quoted path plain.0 plain.1).0 in
    let apart : (addition text tokens tree path).old ≢ (addition text tokens tree path).new = λ e. some_added (import_place tree) path (of_nothing text (end_before tokens (import_place tree)) (added_text (import_place tree) path) e) in (
      v.0,
      v.1,
      v.2,
      record { added = v.3; changed = changed_by files reads file (splice_of_addition files reads file path) v.0 v.1 v.2 are within v.3.put (v.3.utf8 plain.1) v.3.reads apart short },
    )
  where
    -- what is added replaces nothing
    of_nothing : (text : List ℕ) (n : ℕ) (added : List ℕ) → bytes_between text n n ≡ added → [] ≡ added
    of_nothing text n added e = ap (λ (k : ℕ). take k (drop n text)) (left n) ∙ e
      where
        left : (n : ℕ) → 0 ≡ n - n
        left n = omega arith

pub drops_are_changes : DropsAreRead → DropsAreChanges
drops_are_changes law files reads file path i are is =
    let text : List ℕ = (file_at files file).bytes in
    let tokens : List Token = (read_at reads file).tokens in
    let tree : Tree = (read_at reads file).tree in
    let profile : Profile = (file_at files file).profile in
    let read : ReadsIn profile text tokens tree = are.read.trees file is.within in
    let v = law profile text tokens tree i read is.stands in
    let long = (are.texts file is.within).short in (
      v.0,
      v.1,
      v.2,
      record {
        dropped = v.3;
        changed = changed_by files reads file (splice_of_drop files reads file i) v.0 v.1 v.2 are is.within v.3.put v.3.utf8 v.3.reads (some_dropped profile text tokens tree i v.0 v.1 v.2 read v.3) (λ big. shorter text (splice_of_drop files reads file i).old long big);
      },
    )
  where
    shorter : (text old : List ℕ) → length text ≤ text_limit → text_limit + length old < length text + 0 → ⊥
    shorter text old le big = omega (arith, le, big)

    some_dropped : (profile : Profile) (text : List ℕ) (tokens : List Token) (tree : Tree) (i : Import) (result : List ℕ) (after : List Token) (u : Tree) → ReadsIn profile text tokens tree → IsImportTakenOut profile text tokens tree i result after u → (drop_of text tokens i).old ≢ (drop_of text tokens i).new
    some_dropped profile text tokens tree i result after u read d e =
        let s : Statement = statement.Import i in
        let all : List Lexeme = map (lexeme_at text) tokens in
        let left : List Lexeme = map (lexeme_at result) after in
        let g : Move = moved i.keyword i.keyword (length (own s all)) in
        let ar = around g End (Leaf s End) context.Start u tree d.tree.tree in
        let was = ap (λ (z : List Mark). length z) ar.old ∙ length-append ar.front ar.back in
        let is = ap (λ (z : List Mark). length z) ar.new ∙ length-append (map (shift g) ar.front) (flat (Leaf s End) ++ map (shift g) ar.back) in
        let same = ap (λ (z : List Lexeme). length z) (same_tokens text result (drop_of text tokens i) tokens after read.tokens_are d.reads.tokens_are d.put e) in
        let some = some_marks s in
        omega (
          arith,
          was,
          is,
          same,
          some,
          length-append (flat (Leaf s End)) (map (shift g) ar.back),
          leaf_long s,
          length-map ar.front (shift g),
          length-map ar.back (shift g),
          fit_long profile 0 (flat tree) all read.spells.fits,
          fit_long profile 0 (flat u) left d.reads.spells.fits,
        )
