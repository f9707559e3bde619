-- The name tokens of a block's fields rise (for the crates above).
use Rattle.std.proofs.Common.{◌≡◌, ℕ, suc, ◌+◌, ◌≤◌, List, [], ◌∷◌, ◌++◌, length, flat_map, Option, Some, None, arith, length-append, Contains}
use Rattle.proto_base.proofs.Common.{AllByRecursion, All-contains, All-from_recursion, Contains-append_right, contains_head}
use Rattle.proto_tree.specs.declared.class.Class.TheVariants as class
use Rattle.proto_tree.specs.declared.class.Expected.TheVariants as want
use Rattle.proto_tree.specs.declared.piece.Header.{Header}
use Rattle.proto_tree.specs.declared.piece.Header.TheVariants as header
use Rattle.proto_tree.specs.declared.piece.Statement.{Statement}
use Rattle.proto_tree.specs.declared.piece.Statement.TheVariants as statement
use Rattle.proto_tree.specs.declared.tree.Field.{Field}
use Rattle.proto_tree.specs.declared.tree.MapField.{MapField}
use Rattle.proto_tree.proofs.Common.{Mark, mark, name, one, only, flat_field, flat_header, flat_map_field, flat_option, flat_settings, flat_statement, flat_type, Numbered, Tree, End, Leaf, Block, flat, numbered_append, numbered_at, trees_are_numbered_in}
use Rattle.proto_names_rules.proofs.RisingLists.{Rising, rising_append, rising_pairs, rising_within}
use Rattle.proto_ast.specs.Parts.{BlockOf, FieldOf, blocks_in, fields_from, fields_in, map_field, plain_field, statement_fields, statements}
use Rattle.proto_desc_checks_laws.specs.Declarations.{FieldNamesRise}
use Rattle.proto_desc_checks.proofs.FlawTokens.{both}

abbrev Rise : ℕ → ℕ → List FieldOf → Type 0
Rise = Rising (λ (f : FieldOf). f.name) (λ f. Unit {0})

within : (fs : List FieldOf) (lo hi low high : ℕ) → low ≤ lo → hi ≤ high → Rise lo hi fs → Rise low high fs
within = rising_within (λ (f : FieldOf). f.name) (λ f. Unit {0})

append : (fs gs : List FieldOf) (lo mid next hi : ℕ) → mid ≤ next → Rise lo mid fs → Rise next hi gs → Rise lo hi (fs ++ gs)
append = rising_append (λ (f : FieldOf). f.name) (λ f. Unit {0})

field_mark : (f : Field) → Contains (flat_field f) (mark want.Name f.name)
field_mark f =
    let tail : List Mark = one class.Equals f.equals ++ (one class.Number f.number ++ (flat_option flat_settings f.settings ++ one class.Semicolon f.semicolon)) in
    Contains-append_right (flat_option (only want.Label) f.label) (flat_type f.kind ++ (name f.name ++ tail)) (mark want.Name f.name)
    (Contains-append_right (flat_type f.kind) (name f.name ++ tail) (mark want.Name f.name) (contains_head (mark want.Name f.name) tail))

map_mark : (f : MapField) → Contains (flat_map_field f) (mark want.Name f.name)
map_mark f =
    let tail : List Mark = one class.Equals f.equals ++ (one class.Number f.number ++ (flat_option flat_settings f.settings ++ one class.Semicolon f.semicolon)) in
    let front : List Mark = mark (want.One class.Map) f.keyword ∷ mark (want.One class.Less) f.open ∷ mark (want.One class.Scalar) f.key ∷ mark (want.One class.Comma) f.comma ∷ [] in
    Contains-append_right front (flat_type f.value ++ (one class.Greater f.close ++ (name f.name ++ tail))) (mark want.Name f.name)
    (Contains-append_right (flat_type f.value) (one class.Greater f.close ++ (name f.name ++ tail)) (mark want.Name f.name)
    (Contains-append_right (one class.Greater f.close) (name f.name ++ tail) (mark want.Name f.name) (contains_head (mark want.Name f.name) tail)))

one_field : (n : ℕ) (ms : List Mark) (f : FieldOf) → Numbered n ms → Contains ms (mark want.Name f.name) → Rise n (n + length ms) (f ∷ [])
one_field n ms f num c =
    let at : f.name ≡ n + c.0 = numbered_at n ms (mark want.Name f.name) num c in
    (omega (arith, at), omega (arith, at, c.1), tt, omega (arith, at, c.1))

statement_rises : (o : Option ℕ) (s : Statement) (n : ℕ) → Numbered n (flat_statement s) → Rise n (n + length (flat_statement s)) (statement_fields o s)
statement_rises o (statement.Field f) n num = one_field n (flat_field f) (plain_field o f) num (field_mark f)
statement_rises o (statement.MapField f) n num = one_field n (flat_map_field f) (map_field f) num (map_mark f)
statement_rises o _ n num = omega arith

-- where the parts of a block stand
record Stands (n : ℕ) (h : Header) (i : ℕ) (within : Tree) (j : ℕ) (rest : Tree) : Type 0 where
  a : ℕ
  r : ℕ
  begins : n ≤ a
  inner : Numbered a (flat within)
  gap : a + length (flat within) ≤ r
  behind : Numbered r (flat rest)
  all : r + length (flat rest) ≡ n + length (flat (Block h i within j rest))

block_stands : (n : ℕ) (h : Header) (i : ℕ) (within : Tree) (j : ℕ) (rest : Tree) → Numbered n (flat (Block h i within j rest)) → Stands n h i within j rest
block_stands n h i within j rest num =
    let front : List Mark = flat_header h ++ one class.Open i in
    let tail : List Mark = one class.Close j ++ flat rest in
    let l2 = length-append (flat within) tail in
    let l3 = length-append front (flat within ++ tail) in
    let p = numbered_append n front (flat within ++ tail) num in
    let q = numbered_append (n + length front) (flat within) tail p.1 in
    record {
      a = n + length front;
      r = suc ((n + length front) + length (flat within));
      begins = omega arith;
      inner = q.0;
      gap = omega arith;
      behind = q.1.1;
      all = omega (arith, l2, l3);
    }

-- no fields are those of another block than a oneof
behind_block : (fs : List FieldOf) (h : Header) (i : ℕ) (inner : Tree) (j : ℕ) (rest : Tree) (n : ℕ) → Numbered n (flat (Block h i inner j rest))
    → ((c : ℕ) → Numbered c (flat rest) → Rise c (c + length (flat rest)) fs) → Rise n (n + length (flat (Block h i inner j rest))) fs
behind_block fs h i inner j rest n num more =
    let s = block_stands n h i inner j rest num in
    within fs s.r (s.r + length (flat rest)) n (n + length (flat (Block h i inner j rest))) (omega (arith, s.begins, s.gap)) (omega (arith, s.all)) (more s.r s.behind)

statements_rise : (o : Option ℕ) (t : Tree) (n : ℕ) → Numbered n (flat t) → Rise n (n + length (flat t)) (flat_map (statement_fields o) (statements t))
statements_rise o End n num = omega arith
statements_rise o (Leaf s rest) n num =
    let l = length-append (flat_statement s) (flat rest) in
    let p = numbered_append n (flat_statement s) (flat rest) num in
    let c = n + length (flat_statement s) in
    within (flat_map (statement_fields o) (statements (Leaf s rest))) n (c + length (flat rest)) n (n + length (flat (Leaf s rest))) (omega arith) (omega (arith, l))
    (append (statement_fields o s) (flat_map (statement_fields o) (statements rest)) n c c (c + length (flat rest)) (omega arith) (statement_rises o s n p.0) (statements_rise o rest c p.1))
statements_rise o (Block h i inner j rest) n num =
    behind_block (flat_map (statement_fields o) (statements rest)) h i inner j rest n num (λ c m. statements_rise o rest c m)

fields_rise : (k : ℕ) (t : Tree) (n : ℕ) → Numbered n (flat t) → Rise n (n + length (flat t)) (fields_from k t)
fields_rise k End n num = omega arith
fields_rise k (Leaf s rest) n num =
    let l = length-append (flat_statement s) (flat rest) in
    let p = numbered_append n (flat_statement s) (flat rest) num in
    let c = n + length (flat_statement s) in
    within (fields_from k (Leaf s rest)) n (c + length (flat rest)) n (n + length (flat (Leaf s rest))) (omega arith) (omega (arith, l))
    (append (statement_fields None s) (fields_from k rest) n c c (c + length (flat rest)) (omega arith) (statement_rises None s n p.0) (fields_rise k rest c p.1))
fields_rise k (Block (header.Oneof h) i inner j rest) n num =
    let s = block_stands n (header.Oneof h) i inner j rest num in
    let fs : List FieldOf = flat_map (statement_fields (Some k)) (statements inner) in
    within (fs ++ fields_from (suc k) rest) s.a (s.r + length (flat rest)) n (n + length (flat (Block (header.Oneof h) i inner j rest))) s.begins (omega (arith, s.all))
    (append fs (fields_from (suc k) rest) s.a (s.a + length (flat inner)) s.r (s.r + length (flat rest)) s.gap (statements_rise (Some k) inner s.a s.inner) (fields_rise (suc k) rest s.r s.behind))
fields_rise k (Block whole i inner j rest) n num = behind_block (fields_from k rest) whole i inner j rest n num (λ c m. fields_rise k rest c m)

-- ---- each block's tokens are numbered

abbrev IsNumbered : BlockOf → Type 0
IsNumbered b = (n : ℕ) × Numbered n (flat b.within)

blocks_numbered : (t : Tree) (n : ℕ) → Numbered n (flat t) → AllByRecursion IsNumbered (blocks_in t)
blocks_numbered End n num = tt
blocks_numbered (Leaf s rest) n num = blocks_numbered rest (n + length (flat_statement s)) (numbered_append n (flat_statement s) (flat rest) num).1
blocks_numbered (Block h i inner j rest) n num =
    let s = block_stands n h i inner j rest num in
    ((s.a, s.inner), both IsNumbered (blocks_in inner) (blocks_in rest) (blocks_numbered inner s.a s.inner) (blocks_numbered rest s.r s.behind))

pub field_names_rise : FieldNamesRise
field_names_rise profile tree ls spells b c =
    let num = All-contains IsNumbered (blocks_in tree) b (All-from_recursion IsNumbered (blocks_in tree) (blocks_numbered tree 0 (trees_are_numbered_in profile tree ls spells))) c in
    rising_pairs (λ (f : FieldOf). f.name) (λ f. Unit {0}) (fields_in b.within) num.0 (num.0 + length (flat b.within)) (fields_rise 0 b.within num.0 num.1)
