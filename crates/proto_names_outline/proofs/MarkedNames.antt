-- What a tree declares, by the tokens of its names: these rise, and each is what its place wants.
use Rattle.std.proofs.Common.{◌≡◌, ◌≢◌, ℕ, ◌+◌, ◌<◌, ◌≤◌, false, List, [], ◌∷◌, ◌++◌, length, Some, refl, sym, ◌∙◌, ap, subst, inl, inr, arith, map, All, AllPairs, Contains, true≢false}
use Rattle.proto_base.proofs.Common.{AllByRecursion, same_Some, All-nil, All-cons, All-weaker, All-contains, All-from_recursion, Contains-append_left, Contains-append_right, Contains-append_cases, AllPairs-cons}
use Rattle.proto_tree.specs.declared.class.Class.TheVariants as class
use Rattle.proto_tree.specs.declared.class.Expected.TheVariants as want
use Rattle.proto_tree.specs.declared.tree.Behind.{Behind}
use Rattle.proto_tree.specs.declared.tree.Separated.{Separated}
use Rattle.proto_tree.specs.declared.tree.Field.{Field as FieldParts}
use Rattle.proto_tree.specs.declared.tree.MapField.{MapField}
use Rattle.proto_tree.specs.declared.tree.Signature.{Signature}
use Rattle.proto_tree.specs.declared.piece.Statement.{Statement}
use Rattle.proto_tree.specs.declared.piece.Statement.TheVariants as statement
use Rattle.proto_tree.specs.declared.piece.Header.{Header}
use Rattle.proto_tree.specs.declared.piece.Header.TheVariants as header
use Rattle.proto_tree.proofs.Common.{Mark, mark, only, one, word, name, flat_option, flat_separated, flat_all, flat_behind, flat_type, flat_settings, flat_dotted, flat_field, flat_map_field, flat_value, flat_signature, flat_statement, flat_header, Tree, End, Leaf, Block, flat, dotted}
use Rattle.proto_names_rules.specs.declared.kind.Kind.{Kind}
use Rattle.proto_names_rules.specs.declared.kind.Kind.TheVariants.{Package, Message, Enum, Service, Field, Oneof, Value, Method, Extension}
use Rattle.proto_names_rules.proofs.Common.{is_package, Source, Token, EntryOf, Members, Items, field, map_field, Placed, place, key_word, value_word, placed, all_placed, prefixes, package_of, Rising, rising_spreads, Spreads, pairs_append}
use Rattle.proto_names_outline.specs.Common.{whole, last_token, items_below, package_first, field_names, value_names, method_names, no_names, block_names, picked, add_statement, members_in, file_statement, items_in, file_block}
use Rattle.proto_names_outline.proofs.Growing.{token_last, entry_last, given_last}
use Rattle.proto_names_outline.proofs.MarkedTokens.{Are, are_left, are_right, are_at, heading_at, leaf_step, block_step}

module _ (W R S : ℕ → Type 0) where
  abbrev Names : ℕ → ℕ → List ℕ → Type 0
  Names = Rising (λ t. t) W

  one_name : (n : ℕ) (ms : List Mark) (t : ℕ) → (n ≤ t) × (t < n + length ms) × W t → Names n (n + length ms) (t ∷ [])
  one_name n ms t at = (at.0, at.1, at.2, omega (arith, at.1))

  -- ---- names of statements and of methods' blocks

  field_at : (f : FieldParts) (n : ℕ) → Are W R S n (flat_field f) → (n ≤ f.name) × (f.name < n + length (flat_field f)) × W f.name
  field_at f n a =
      let tail = name f.name ++ (one class.Equals f.equals ++ (one class.Number f.number ++ (flat_option flat_settings f.settings ++ one class.Semicolon f.semicolon))) in
      are_at W R S n (flat_field f) (mark want.Name f.name) a
      (Contains-append_right (flat_option (only want.Label) f.label) (flat_type f.kind ++ tail) _ (Contains-append_right (flat_type f.kind) tail _ (0, omega arith, refl)))

  map_field_at : (f : MapField) (n : ℕ) → Are W R S n (flat_map_field f) → (n ≤ f.name) × (f.name < n + length (flat_map_field f)) × W f.name
  map_field_at f n a =
      let front = one class.Map f.keyword ++ (one class.Less f.open ++ (one class.Scalar f.key ++ one class.Comma f.comma)) in
      let tail = one class.Greater f.close ++ (name f.name ++ (one class.Equals f.equals ++ (one class.Number f.number ++ (flat_option flat_settings f.settings ++ one class.Semicolon f.semicolon)))) in
      are_at W R S n (flat_map_field f) (mark want.Name f.name) a
      (Contains-append_right front (flat_type f.value ++ tail) _ (Contains-append_right (flat_type f.value) tail _ (1, omega arith, refl)))

  signature_at : (s : Signature) (n : ℕ) → Are W R S n (flat_signature s) → (n ≤ s.name) × (s.name < n + length (flat_signature s)) × W s.name
  signature_at s n a = are_at W R S n (flat_signature s) (mark want.Name s.name) a (1, omega arith, refl)

  abbrev GivesNames : (Statement → List ℕ) → Type 0
  GivesNames of_leaf = (s : Statement) (n : ℕ) → Are W R S n (flat_statement s) → Names n (n + length (flat_statement s)) (of_leaf s)

  abbrev BlocksGiveNames : (Header → List ℕ) → Type 0
  BlocksGiveNames of_block = (h : Header) (n : ℕ) → Are W R S n (flat_header h) → Names n (n + length (flat_header h)) (of_block h)

  fields_rise : GivesNames field_names
  fields_rise (statement.Field f) n a = one_name n (flat_field f) f.name (field_at f n a)
  fields_rise _ n a = omega arith

  values_rise : GivesNames value_names
  values_rise (statement.Value v) n a = one_name n (flat_value v) v.name (are_at W R S n (flat_value v) (mark want.ValueName v.name) a (0, omega arith, refl))
  values_rise _ n a = omega arith

  methods_rise : GivesNames method_names
  methods_rise (statement.Method s end) n a =
      one_name n (flat_signature s ++ one class.Semicolon end) s.name (are_at W R S n (flat_signature s ++ one class.Semicolon end) (mark want.Name s.name) a (Contains-append_left (flat_signature s) (one class.Semicolon end) _ (1, omega arith, refl)))
  methods_rise _ n a = omega arith

  none_rise : BlocksGiveNames no_names
  none_rise h n a = omega arith

  blocks_rise : BlocksGiveNames block_names
  blocks_rise (header.Method s) n a = one_name n (flat_signature s) s.name (signature_at s n a)
  blocks_rise _ n a = omega arith

  names_law : Spreads Names
  names_law = rising_spreads (λ t. t) W

  picked_rise : (of_leaf : Statement → List ℕ) (of_block : Header → List ℕ) → GivesNames of_leaf → BlocksGiveNames of_block
      → (t : Tree) (n hi : ℕ) → Are W R S n (flat t) → hi ≡ n + length (flat t) → Names n hi (picked of_leaf of_block t)
  picked_rise p g leaves blocks End n hi a e = omega (arith, e)
  picked_rise p g leaves blocks (Leaf s rest) n hi a e =
      leaf_step W R S Names names_law s rest n hi (p s) (picked p g rest) a e (leaves s n) (λ c b f. picked_rise p g leaves blocks rest c hi b f)
  picked_rise p g leaves blocks (Block h i within j rest) n hi a e =
      block_step W R S Names names_law h i within j rest n hi (g h) (picked p g rest) a e
      (λ x y head le inner f. names_law.within (g h) n (n + length (flat_header h)) n y (omega arith) (omega (arith, le, f)) (blocks h n head))
      (λ c b f. picked_rise p g leaves blocks rest c hi b f)

  -- ---- declarations

  -- no package is among them, and the last tokens of their paths do not fall
  abbrev Climbs : ℕ → ℕ → List Placed → Type 0
  Climbs lo hi [] = lo ≤ hi
  Climbs lo hi (p ∷ ps) = (t : ℕ) × (last_token (whole p) ≡ Some t) × (lo ≤ t) × (t < hi) × W t × (is_package p.kind ≡ false) × Climbs t hi ps

  climbs_within : (ps : List Placed) (lo hi low high : ℕ) → low ≤ lo → hi ≤ high → Climbs lo hi ps → Climbs low high ps
  climbs_within [] lo hi low high a b c = omega (arith, a, b, c)
  climbs_within (p ∷ ps) lo hi low high a b c = (c.0, c.1, omega (arith, a, c.2), omega (arith, c.3, b), c.4, c.5, climbs_within ps c.0 hi c.0 high (omega arith) b c.6)

  climbs_order : (ps : List Placed) (lo hi : ℕ) → Climbs lo hi ps → lo ≤ hi
  climbs_order [] lo hi c = c
  climbs_order (p ∷ ps) lo hi c = omega (arith, c.2, c.3)

  climbs_append : (ps qs : List Placed) (lo mid next hi : ℕ) → mid ≤ next → Climbs lo mid ps → Climbs next hi qs → Climbs lo hi (ps ++ qs)
  climbs_append [] qs lo mid next hi l c d = climbs_within qs next hi lo hi (omega (arith, l, c)) (omega arith) d
  climbs_append (p ∷ ps) qs lo mid next hi l c d = (c.0, c.1, c.2, omega (arith, c.3, l, climbs_order qs next hi d), c.4, c.5, climbs_append ps qs c.0 mid next hi l c.6 d)

  climbs_law : Spreads Climbs
  climbs_law = record { within = climbs_within; append = climbs_append }

  names_climb : (path : List (Source ℕ)) (kind : Kind) → is_package kind ≡ false → (ts : List ℕ) (lo hi : ℕ) → Names lo hi ts → Climbs lo hi (map (λ i. place path (Token i) kind) ts)
  names_climb path kind k [] lo hi r = r
  names_climb path kind k (t ∷ ts) lo hi r =
      (t, token_last path t, r.0, r.1, r.2, k, climbs_within (map (λ i. place path (Token i) kind) ts) (t + 1) hi t hi (omega arith) (omega arith) (names_climb path kind k ts (t + 1) hi r.3))

  -- one declaration, and others behind it
  first_climbs : (path : List (Source ℕ)) (kind : Kind) → is_package kind ≡ false → (t n next b : ℕ) (ps : List Placed) → (n ≤ t) × (t < next) × W t → Climbs next b ps → Climbs n b (place path (Token t) kind ∷ ps)
  first_climbs path kind k t n next b ps at c =
      (t, token_last path t, at.0, omega (arith, at.1, climbs_order ps next b c), at.2, k, climbs_within ps next b t b (omega (arith, at.1)) (omega arith) c)

  map_climbs : (path : List (Source ℕ)) (t n b : ℕ) → (n ≤ t) × (t < b) × W t → Climbs n b (placed path (map_field t))
  map_climbs path t n b at =
      let given = λ (w : List ℕ). given_last (path ++ EntryOf t ∷ []) path t w refl in (
        t,
        token_last path t,
        at.0,
        at.1,
        at.2,
        refl,
        (
          t,
          entry_last path t,
          omega arith,
          at.1,
          at.2,
          refl,
          (
            t,
            given key_word,
            omega arith,
            at.1,
            at.2,
            refl,
            (t, given value_word, omega arith, at.1, at.2, refl, omega (arith, at.1)),
          ),
        ),
      )

  -- what a statement of a message declares
  abbrev statement_placed : List (Source ℕ) → Statement → List Placed
  statement_placed path (statement.Field f) = placed path (field f.name)
  statement_placed path (statement.MapField f) = placed path (map_field f.name)
  statement_placed path _ = []

  statement_adds : (path : List (Source ℕ)) (s : Statement) (ms : Members) → statement_placed path s ++ all_placed path ms ≡ all_placed path (add_statement s ms)
  statement_adds path (statement.Field f) ms = refl
  statement_adds path (statement.MapField f) ms = refl
  statement_adds path _ ms = refl

  statement_climbs : (path : List (Source ℕ)) (s : Statement) (n : ℕ) → Are W R S n (flat_statement s) → Climbs n (n + length (flat_statement s)) (statement_placed path s)
  statement_climbs path (statement.Field f) n a = names_climb path Field refl (f.name ∷ []) n (n + length (flat_field f)) (one_name n (flat_field f) f.name (field_at f n a))
  statement_climbs path (statement.MapField f) n a = map_climbs path f.name n (n + length (flat_map_field f)) (map_field_at f n a)
  statement_climbs path _ n a = omega arith

  members_climb : (t : Tree) (path : List (Source ℕ)) (n hi : ℕ) → Are W R S n (flat t) → hi ≡ n + length (flat t) → Climbs n hi (all_placed path (members_in t))
  members_climb End path n hi a e = omega (arith, e)
  members_climb (Leaf s rest) path n hi a e =
      subst (Climbs n hi) (statement_adds path s (members_in rest))
      (leaf_step W R S Climbs climbs_law s rest n hi (statement_placed path s) (all_placed path (members_in rest)) a e (statement_climbs path s n) (λ c b f. members_climb rest path c hi b f))
  members_climb (Block (header.Message h) i within j rest) path n hi a e =
      let inside = all_placed (path ++ Token h.name ∷ []) (members_in within) in
      block_step W R S Climbs climbs_law (header.Message h) i within j rest n hi (place path (Token h.name) Message ∷ inside) (all_placed path (members_in rest)) a e
      (λ x y head le inner f. first_climbs path Message refl h.name n x y inside (heading_at W R S class.Message h n x head le) (members_climb within (path ++ Token h.name ∷ []) x y inner f))
      (λ c b f. members_climb rest path c hi b f)
  members_climb (Block (header.Oneof h) i within j rest) path n hi a e =
      let names = picked field_names no_names within in
      let inside = map (λ i. place path (Token i) Field) names in
      block_step W R S Climbs climbs_law (header.Oneof h) i within j rest n hi (place path (Token h.name) Oneof ∷ inside) (all_placed path (members_in rest)) a e
      (λ x y head le inner f. first_climbs path Oneof refl h.name n x y inside (heading_at W R S class.Oneof h n x head le) (names_climb path Field refl names x y (picked_rise field_names no_names fields_rise none_rise within x y inner f)))
      (λ c b f. members_climb rest path c hi b f)
  members_climb (Block (header.Enum h) i within j rest) path n hi a e =
      let names = picked value_names no_names within in
      let inside = map (λ i. place path (Token i) Value) names in
      block_step W R S Climbs climbs_law (header.Enum h) i within j rest n hi (place path (Token h.name) Enum ∷ inside) (all_placed path (members_in rest)) a e
      (λ x y head le inner f. first_climbs path Enum refl h.name n x y inside (heading_at W R S class.Enum h n x head le) (names_climb path Value refl names x y (picked_rise value_names no_names values_rise none_rise within x y inner f)))
      (λ c b f. members_climb rest path c hi b f)
  members_climb (Block (header.Extend x) i within j rest) path n hi a e =
      let names = picked field_names no_names within in
      let inside = map (λ i. place path (Token i) Extension) names in
      block_step W R S Climbs climbs_law (header.Extend x) i within j rest n hi inside (all_placed path (members_in rest)) a e
      (λ lo b head le inner f. climbs_within inside lo b n b (omega (arith, le)) (omega arith) (names_climb path Extension refl names lo b (picked_rise field_names no_names fields_rise none_rise within lo b inner f)))
      (λ c b f. members_climb rest path c hi b f)
  members_climb (Block whole i within j rest) path n hi a e =
      block_step W R S Climbs climbs_law whole i within j rest n hi [] (all_placed path (members_in rest)) a e (λ x y head le inner f. omega (arith, le, f)) (λ c b f. members_climb rest path c hi b f)

  -- a statement of a file declares a package at most
  statement_below : (path : List (Source ℕ)) (s : Statement) (is : Items) → items_below path is ≡ items_below path (file_statement s is)
  statement_below path (statement.Package p) is = refl
  statement_below path _ is = refl

  items_climb : (t : Tree) (path : List (Source ℕ)) (n hi : ℕ) → Are W R S n (flat t) → hi ≡ n + length (flat t) → Climbs n hi (items_below path (items_in t))
  items_climb End path n hi a e = omega (arith, e)
  items_climb (Leaf s rest) path n hi a e =
      subst (Climbs n hi) (statement_below path s (items_in rest))
      (leaf_step W R S Climbs climbs_law s rest n hi [] (items_below path (items_in rest)) a e (λ b. omega arith) (λ c b f. items_climb rest path c hi b f))
  items_climb (Block (header.Message h) i within j rest) path n hi a e =
      let inside = all_placed (path ++ Token h.name ∷ []) (members_in within) in
      block_step W R S Climbs climbs_law (header.Message h) i within j rest n hi (place path (Token h.name) Message ∷ inside) (items_below path (items_in rest)) a e
      (λ x y head le inner f. first_climbs path Message refl h.name n x y inside (heading_at W R S class.Message h n x head le) (members_climb within (path ++ Token h.name ∷ []) x y inner f))
      (λ c b f. items_climb rest path c hi b f)
  items_climb (Block (header.Enum h) i within j rest) path n hi a e =
      let names = picked value_names no_names within in
      let inside = map (λ i. place path (Token i) Value) names in
      block_step W R S Climbs climbs_law (header.Enum h) i within j rest n hi (place path (Token h.name) Enum ∷ inside) (items_below path (items_in rest)) a e
      (λ x y head le inner f. first_climbs path Enum refl h.name n x y inside (heading_at W R S class.Enum h n x head le) (names_climb path Value refl names x y (picked_rise value_names no_names values_rise none_rise within x y inner f)))
      (λ c b f. items_climb rest path c hi b f)
  items_climb (Block (header.Service h) i within j rest) path n hi a e =
      let names = picked method_names block_names within in
      let inside = map (λ i. place (path ++ Token h.name ∷ []) (Token i) Method) names in
      block_step W R S Climbs climbs_law (header.Service h) i within j rest n hi (place path (Token h.name) Service ∷ inside) (items_below path (items_in rest)) a e
      (λ x y head le inner f. first_climbs path Service refl h.name n x y inside (heading_at W R S class.Service h n x head le) (names_climb (path ++ Token h.name ∷ []) Method refl names x y (picked_rise method_names block_names methods_rise blocks_rise within x y inner f)))
      (λ c b f. items_climb rest path c hi b f)
  items_climb (Block (header.Extend x) i within j rest) path n hi a e =
      let names = picked field_names no_names within in
      let inside = map (λ i. place path (Token i) Extension) names in
      block_step W R S Climbs climbs_law (header.Extend x) i within j rest n hi inside (items_below path (items_in rest)) a e
      (λ lo b head le inner f. climbs_within inside lo b n b (omega (arith, le)) (omega arith) (names_climb path Extension refl names lo b (picked_rise field_names no_names fields_rise none_rise within lo b inner f)))
      (λ c b f. items_climb rest path c hi b f)
  items_climb (Block whole i within j rest) path n hi a e =
      block_step W R S Climbs climbs_law whole i within j rest n hi [] (items_below path (items_in rest)) a e (λ x y head le inner f. omega (arith, le, f)) (λ c b f. items_climb rest path c hi b f)

  -- ---- the package

  pub behind_words : (bs : List (Behind ℕ)) (n : ℕ) → Are W R S n (flat_all (flat_behind class.Dot word) bs) → AllByRecursion R (map (λ b. b.item) bs)
  behind_words [] n a = tt
  behind_words (b ∷ bs) n a = (a.2.1, behind_words bs (n + 1 + 1) a.2.2)

  pub dotted_words : (d : Separated ℕ) (n : ℕ) → Are W R S n (flat_dotted d) → AllByRecursion R (dotted d)
  dotted_words d n a = (a.1, behind_words d.rest (n + 1) a.2)

  behind_names : (bs : List (Behind ℕ)) (n : ℕ) → Are W R S n (flat_all (flat_behind class.Dot name) bs) → AllByRecursion W (map (λ b. b.item) bs)
  behind_names [] n a = tt
  behind_names (b ∷ bs) n a = (a.2.1, behind_names bs (n + 1 + 1) a.2.2)

  dotted_names : (d : Separated ℕ) (n : ℕ) → Are W R S n (flat_separated class.Dot name d) → AllByRecursion W (dotted d)
  dotted_names d n a = (a.1, behind_names d.rest (n + 1) a.2)

  package_words : (t : Tree) (n : ℕ) → Are W R S n (flat t) → AllByRecursion W (package_of (items_in t))
  package_words End n a = tt
  package_words (Leaf s rest) n a = by s (are_left W R S n (flat_statement s) (flat rest) a) (package_words rest (n + length (flat_statement s)) (are_right W R S n (flat_statement s) (flat rest) a))
    where
      by : (s : Statement) → Are W R S n (flat_statement s) → AllByRecursion W (package_of (items_in rest)) → AllByRecursion W (package_of (file_statement s (items_in rest)))
      by (statement.Package p) b more = dotted_names p.name (n + 1) (are_left W R S (n + 1) (flat_separated class.Dot name p.name) (one class.Semicolon p.semicolon) b.2)
      by _ b more = more
  package_words (Block h i within j rest) n a = by h (package_words rest (n + length (flat_header h ++ one class.Open i) + length (flat within) + 1) last.2)
    where
      behind : Are W R S (n + length (flat_header h ++ one class.Open i)) (flat within ++ (one class.Close j ++ flat rest))
      behind = are_right W R S n (flat_header h ++ one class.Open i) (flat within ++ (one class.Close j ++ flat rest)) a

      last : Are W R S (n + length (flat_header h ++ one class.Open i) + length (flat within)) (one class.Close j ++ flat rest)
      last = are_right W R S (n + length (flat_header h ++ one class.Open i)) (flat within) (one class.Close j ++ flat rest) behind

      by : (h : Header) → AllByRecursion W (package_of (items_in rest)) → AllByRecursion W (package_of (file_block h within (items_in rest)))
      by (header.Message g) more = more
      by whole more = more

  -- the token that names it is a word's
  abbrev pub IsWorded : Placed → Type 0
  IsWorded p = (t : ℕ) → last_token (whole p) ≡ Some t → W t

  -- a package, or a prefix of one
  abbrev IsOfPackage : Placed → Type 0
  IsOfPackage p = (p.kind ≡ Package) × IsWorded p

  prefixes_worded : (path : List (Source ℕ)) (ts : List ℕ) → AllByRecursion W ts → AllByRecursion IsOfPackage (prefixes path ts)
  prefixes_worded path [] h = tt
  prefixes_worded path (t ∷ ts) h = ((refl, λ d e. subst W (same_Some t d (sym (token_last path t) ∙ e)) h.0), prefixes_worded (path ++ Token t ∷ []) ts h.1)

  -- ---- what a file declares, its package first

  -- a declaration that is none of the package, by a token from low on
  abbrev IsBelow : ℕ → Placed → Type 0
  IsBelow low p = (is_package p.kind ≡ false) × IsWorded p × ((t : ℕ) → last_token (whole p) ≡ Some t → low ≤ t)

  climbs_all : (ps : List Placed) (low lo hi : ℕ) → low ≤ lo → Climbs lo hi ps → All (IsBelow low) ps
  climbs_all [] low lo hi l c = All-nil (IsBelow low)
  climbs_all (p ∷ ps) low lo hi l c =
      All-cons (IsBelow low) p ps
      (c.5, (λ t e. subst W (same t e) c.4), λ t e. omega (arith, l, c.2, same t e)) (climbs_all ps low c.0 hi (omega (arith, l, c.2)) c.6)
    where
      same : (t : ℕ) → last_token (whole p) ≡ Some t → c.0 ≡ t
      same t e = same_Some c.0 t (sym c.1 ∙ e)

  abbrev pub Ascend : Placed → Placed → Type 0
  Ascend p q = p.kind ≢ Package → (s t : ℕ) → last_token (whole p) ≡ Some s → last_token (whole q) ≡ Some t → s ≤ t

  climbs_pairs : (ps : List Placed) (lo hi : ℕ) → Climbs lo hi ps → AllPairs Ascend ps
  climbs_pairs [] lo hi c = λ i j d a b. absurd (omega (arith, b))
  climbs_pairs (p ∷ ps) lo hi c =
      AllPairs-cons Ascend p ps
      (All-weaker (IsBelow c.0) (Ascend p)
      (λ q h ne s t a b. (let e : c.0 ≡ s = same_Some c.0 s (sym c.1 ∙ a) in omega (arith, e, h.2 t b))) ps (climbs_all ps c.0 c.0 hi (omega arith) c.6))
      (climbs_pairs ps c.0 hi c.6)

  abbrev pub PackageBefore : Placed → Placed → Type 0
  PackageBefore p q = q.kind ≡ Package → p.kind ≡ Package

  no_package_pairs : (ps : List Placed) (lo hi : ℕ) → Climbs lo hi ps → AllPairs PackageBefore ps
  no_package_pairs [] lo hi c = λ i j d a b. absurd (omega (arith, b))
  no_package_pairs (p ∷ ps) lo hi c =
      AllPairs-cons PackageBefore p ps
      (All-weaker (IsBelow c.0) (PackageBefore p)
      (λ q h e. absurd (true≢false (sym (ap is_package e) ∙ h.0))) ps (climbs_all ps c.0 c.0 hi (omega arith) c.6))
      (no_package_pairs ps c.0 hi c.6)

  module _ (t : Tree) (n : ℕ) (are : Are W R S n (flat t)) where
    -- the package's words
    abbrev ahead : List ℕ
    ahead = package_of (items_in t)

    abbrev path : List (Source ℕ)
    path = map (λ i. Token i) ahead

    below : Climbs n (n + length (flat t)) (items_below path (items_in t))
    below = items_climb t path n (n + length (flat t)) are refl

    in_front : AllByRecursion IsOfPackage (prefixes [] ahead)
    in_front = prefixes_worded [] ahead (package_words t n are)

    in_front_all : All IsOfPackage (prefixes [] ahead)
    in_front_all = All-from_recursion IsOfPackage (prefixes [] ahead) in_front

    pub declared_worded : (p : Placed) → Contains (package_first (items_in t)) p → IsWorded p
    declared_worded p c = elim (Contains-append_cases (prefixes [] ahead) (items_below path (items_in t)) p c) [
      | inl a ↦ (All-contains IsOfPackage (prefixes [] ahead) p in_front_all a).1
      | inr b ↦ (All-contains (IsBelow n) (items_below path (items_in t)) p (climbs_all (items_below path (items_in t)) n n (n + length (flat t)) (omega arith) below) b).1
    ]

    pub declared_ascend : AllPairs Ascend (package_first (items_in t))
    declared_ascend =
        pairs_append Ascend (prefixes [] ahead) (items_below path (items_in t)) (weaker (prefixes [] ahead) in_front) (climbs_pairs (items_below path (items_in t)) n (n + length (flat t)) below)
      where
        weaker : (ps : List Placed) → AllByRecursion IsOfPackage ps → AllByRecursion (λ p. (q : Placed) → Ascend p q) ps
        weaker [] h = tt
        weaker (p ∷ ps) h = ((λ q ne. absurd (ne h.0.0)), weaker ps h.1)

    pub packages_before : AllPairs PackageBefore (package_first (items_in t))
    packages_before =
        pairs_append PackageBefore (prefixes [] ahead) (items_below path (items_in t)) (weaker (prefixes [] ahead) in_front) (no_package_pairs (items_below path (items_in t)) n (n + length (flat t)) below)
      where
        weaker : (ps : List Placed) → AllByRecursion IsOfPackage ps → AllByRecursion (λ p. (q : Placed) → PackageBefore p q) ps
        weaker [] h = tt
        weaker (p ∷ ps) h = ((λ q e. h.0.0), weaker ps h.1)
