-- The enum of a full name, where a field is deleted: the same as before.
use Rattle.std.proofs.Common.{◌≡◌, ◌≢◌, ℕ, zero, suc, ◌+◌, ◌<◌, inl, inr, Bool, true, false, List, [], ◌∷◌, ◌++◌, length, map, find, Option, Some, None, option_map, slice_get, refl, sym, ◌∙◌, ap, ap₂, subst, cond, arith, Contains, option_and_then}
use Rattle.proto_base.proofs.Common.{cases_eq, both_ways, false_from_ne_true, Contains-append_left, Contains-append_right, contains_head, contains_later, contains_map}
use Rattle.proto_case.specs.Camel.{entry_name}
use Rattle.proto_text.proofs.Common.{word_at, Lexeme}
use Rattle.proto_tree.proofs.Common.{Move, Tree}
use Rattle.proto_files.proofs.Common.{ReadOf, read_at, FileOf}
use Rattle.proto_names_rules.proofs.Common.{place_of, At, at, all_declared, file_declared, IsLinked, Symbol, same_name, Declared, name_of, symbol_of, Placed, name_from_same, one_symbol}
use Rattle.proto_names_imports.specs.Links.{link_skeleton, names_in, names_of_files, text_of}
use Rattle.proto_ast.specs.Scenes.{string_of}
use Rattle.proto_edit_statement_described.proofs.Common.{declared_as, enum_at, enum_named, is_proto3_file, lexemes_of, Reservation, WrittenField, tree_at, deletions_keep_versions}
use Rattle.proto_edit_statement_laws.specs.Less.{goes_with_field}
use Rattle.proto_edit_statement_laws.specs.Trees.{move_placed, placed_in}
use Rattle.proto_edit_statement_described.specs.NamedTrees.{AreNamed}
use Rattle.proto_edit_statement_described.specs.DeletedScenes.{IsReadWithout}
use Rattle.proto_edit_statement_described.proofs.Enums.{enums_are_same, read_enum, same_words}
use Rattle.proto_edit_statement_described.proofs.FoundBlocks.{found_among, or_else}
use Rattle.proto_edit_statement_described.proofs.NamedFiles.{trees_are_named}
use Rattle.proto_edit_statement_described.proofs.Spelled.{declared_at, named_by, placed_at, placed_moved, token_from}

-- ---- what is found first

-- the same of lists whose elements correspond
pub found_alike : {X A B : Type 0} (p q : A → Bool) (f h : A → B) (m n : X → A) → ((x : X) → p (m x) ≡ q (n x)) → (xs : List X) → ((x : X) → Contains xs x → f (m x) ≡ h (n x)) → option_map f (find p (map m xs)) ≡ option_map h (find q (map n xs))
found_alike p q f h m n e [] d = refl
found_alike {X} {A} {B} p q f h m n e (x ∷ xs) d = ap (λ (b : Bool). option_map f (cond b (Some (m x)) (find p (map m xs)))) (e x) ∙ by (found_alike p q f h m n e xs (λ y c. d y (contains_later x y xs c))) (q (n x))
  where
    by : option_map f (find p (map m xs)) ≡ option_map h (find q (map n xs)) → (b : Bool) → option_map f (cond b (Some (m x)) (find p (map m xs))) ≡ option_map h (cond b (Some (n x)) (find q (map n xs)))
    by same true = ap Some (d x (contains_head x xs))
    by same false = same

pub none_passes : {A B : Type 0} (p : A → Bool) (f : A → B) (xs : List A) → ((x : A) → Contains xs x → p x ≡ false) → option_map f (find p xs) ≡ None
none_passes p f [] h = refl
none_passes p f (x ∷ xs) h = ap (λ (b : Bool). option_map f (cond b (Some x) (find p xs))) (h x (contains_head x xs)) ∙ none_passes p f xs (λ y c. h y (contains_later x y xs c))

-- ---- of all files

abbrev named_so : List FileOf → List ReadOf → List (List ℕ) → Declared At → Bool
named_so files reads name d = same_name (name_of (text_of files reads) entry_name d.path) name

-- what is read where a declaration stands
abbrev pub read_of : {X : Type 0} → (At → Option X) → Declared At → Option X
read_of what d = what (place_of d)

-- what is found in one file
abbrev found_in : {X : Type 0} → (At → Option X) → List FileOf → List ReadOf → List (List ℕ) → ℕ → ReadOf → Option (Option X)
found_in what files reads name k r = option_map (read_of what) (find (named_so files reads name) (file_declared k (names_in r)))

abbrev found_from : {X : Type 0} → (At → Option X) → List FileOf → List ReadOf → List (List ℕ) → ℕ → List ReadOf → Option (Option X)
found_from what files reads name n rs = option_map (read_of what) (find (named_so files reads name) (all_declared n (map names_in rs)))

module _ {X : Type 0} (was now : At → Option X) (files : List FileOf) (reads : List ReadOf) (after : List FileOf) (seen : List ReadOf) (name : List (List ℕ)) where
  one_behind : (n k : ℕ) → n + suc k ≡ suc n + k
  one_behind n k = omega arith

  all_found : (n : ℕ) (rs ss : List ReadOf) → length ss ≡ length rs → ((i : ℕ) → i < length rs → found_in now after seen name (n + i) (read_at ss i) ≡ found_in was files reads name (n + i) (read_at rs i))
      → found_from now after seen name n ss ≡ found_from was files reads name n rs
  all_found n [] [] e h = refl
  all_found n [] (s ∷ ss) e h = absurd (omega (arith, e))
  all_found n (r ∷ rs) [] e h = absurd (omega (arith, e))
  all_found n (r ∷ rs) (s ∷ ss) e h =
      let zero_is : n + 0 ≡ n = omega arith in
      found_among (named_so after seen name) (read_of now) (file_declared n (names_in s)) (all_declared (suc n) (map names_in ss))
      ∙ ap₂ or_else (subst (λ m. found_in now after seen name m s ≡ found_in was files reads name m r) zero_is (h 0 (omega arith)))
      (all_found (suc n) rs ss (omega (arith, e)) (λ k l. subst (λ m. found_in now after seen name m (read_at ss k) ≡ found_in was files reads name m (read_at rs k)) (one_behind n k) (h (suc k) (omega (arith, l)))))
      ∙ sym (found_among (named_so files reads name) (read_of was) (file_declared n (names_in r)) (all_declared (suc n) (map names_in rs)))

-- a declaration of a file is one of all
declared_there : (n : ℕ) (rs : List ReadOf) (k : ℕ) (d : ℕ → Declared At) → k < length rs → Contains (file_declared (n + k) (names_in (read_at rs k))) (d (n + k)) → Contains (all_declared n (map names_in rs)) (d (n + k))
declared_there n [] k d l c = absurd (omega (arith, l))
declared_there n (r ∷ rs) zero d l c =
    let zero_is : n + 0 ≡ n = omega arith in
    subst (λ m. Contains (all_declared n (map names_in (r ∷ rs))) (d m)) (sym zero_is) (Contains-append_left (file_declared n (names_in r)) (all_declared (suc n) (map names_in rs)) (d n) (subst (λ m. Contains (file_declared m (names_in r)) (d m)) zero_is c))
declared_there n (r ∷ rs) (suc k) d l c =
    let more : n + suc k ≡ suc n + k = omega arith in
    subst (λ m. Contains (all_declared n (map names_in (r ∷ rs))) (d m)) (sym more)
    (Contains-append_right (file_declared n (names_in r)) (all_declared (suc n) (map names_in rs)) (d (suc n + k)) (declared_there (suc n) rs k d (omega (arith, l)) (subst (λ m. Contains (file_declared m (names_in (read_at rs k))) (d m)) more c)))

pub joined_is : {A B : Type 0} (f : A → Option B) (o : Option A) → option_and_then f o ≡ option_and_then (λ x. x) (option_map f o)
joined_is f None = refl
joined_is f (Some x) = refl

-- ---- where a field is deleted

module _ (files : List FileOf) (reads : List ReadOf) (after : List FileOf) (seen : List ReadOf) (place : ℕ) (g k : Move) (w : WrittenField) (r : Reservation) (x : Tree) (without : List Lexeme)
    (is : IsReadWithout files reads after seen place g k w r x without) (linked : IsLinked (names_of_files files reads)) where
  pub named : AreNamed g k x (tree_at reads place) (tree_at seen place)
  named = trees_are_named g k w r x (tree_at reads place) (tree_at seen place) is.trees

  -- the version of the file, and of each other one
  string_old : (i : ℕ) → string_of (slice_get (lexemes_of files reads place) (g i)) ≡ string_of (slice_get without i)
  string_old i = ap string_of (is.old i)

  string_new : (i : ℕ) → string_of (slice_get (lexemes_of after seen place) (k i)) ≡ string_of (slice_get without i)
  string_new i = ap string_of (is.new i)

  pub same_version : is_proto3_file after seen place ≡ is_proto3_file files reads place
  same_version =
      deletions_keep_versions g k (λ i. string_of (slice_get without i)) (λ i. string_of (slice_get (lexemes_of files reads place) i)) (λ i. string_of (slice_get (lexemes_of after seen place) i)) w r x (tree_at reads place) (tree_at seen place)
      string_old string_new is.trees

  -- the texts of the file
  pub old_text : (i : ℕ) → text_of files reads (at place (g i)) ≡ word_at without i
  old_text i = same_words without (lexemes_of files reads place) i (g i) (is.old i)

  pub new_text : (i : ℕ) → text_of after seen (at place (k i)) ≡ word_at without i
  new_text i = same_words without (lexemes_of after seen place) i (k i) (is.new i)

  -- and of the others
  pub other_texts : (j : ℕ) → j ≢ place → (i : ℕ) → text_of after seen (at j i) ≡ text_of files reads (at j i)
  other_texts j n i = ap₂ (λ (f : FileOf) (s : ReadOf). Rattle.proto_text.specs.Texts.words f.bytes s.tokens i) (is.files_stay j n) (is.reads_stay j n)

  pub other_lexemes : (j : ℕ) → j ≢ place → lexemes_of after seen j ≡ lexemes_of files reads j
  other_lexemes j n = ap₂ (λ (f : FileOf) (s : ReadOf). map (Rattle.proto_text.specs.Tokens.lexeme_at f.bytes) s.tokens) (is.files_stay j n) (is.reads_stay j n)

  pub other_version : (j : ℕ) → j ≢ place → is_proto3_file after seen j ≡ is_proto3_file files reads j
  other_version j n =
      ap₂ (λ (ls : List Lexeme) (s : ReadOf). Rattle.proto_ast.specs.Scenes.is_proto3 (λ token. string_of (slice_get ls token)) s.tree) (other_lexemes j n) (is.reads_stay j n)

  -- an enum of another file
  other_enum : (j : ℕ) → j ≢ place → (i : ℕ) → enum_at after seen (at j i) ≡ enum_at files reads (at j i)
  other_enum j n i =
      ap₂ (λ (ls : List Lexeme) (s : ReadOf). read_enum ls (is_proto3_file after seen j) i s.tree) (other_lexemes j n) (is.reads_stay j n)
      ∙ ap (λ (b : Bool). read_enum (lexemes_of files reads j) b i (read_at reads j).tree) (other_version j n)

  -- an enum of the file
  own_enum : (i : ℕ) → enum_at after seen (at place (k i)) ≡ enum_at files reads (at place (g i))
  own_enum i =
      let v = enums_are_same g k is.old_apart is.new_apart without (lexemes_of files reads place) (lexemes_of after seen place) is.old is.new (is_proto3_file files reads place) i w r x (tree_at reads place) (tree_at seen place) is.trees in
      ap (λ (b : Bool). read_enum (lexemes_of after seen place) b (k i) (tree_at seen place)) same_version ∙ v.1 ∙ sym v.0

  -- ---- of a name that no field and no entry has

  module _ {X : Type 0} (was now : At → Option X) (others : (j : ℕ) → j ≢ place → (i : ℕ) → now (at j i) ≡ was (at j i)) (own : (i : ℕ) → now (at place (k i)) ≡ was (at place (g i)))
      (name : List (List ℕ)) (stays : (s : Symbol) → Contains (names_of_files files reads).symbols s → s.name ≡ name → goes_with_field s.kind ≡ false) where
    in_other : (j : ℕ) → j ≢ place → found_in now after seen name j (read_at seen j) ≡ found_in was files reads name j (read_at reads j)
    in_other j n =
        ap (λ (s : ReadOf). found_in now after seen name j s) (is.reads_stay j n)
        ∙ found_alike (named_so after seen name) (named_so files reads name) (read_of now) (read_of was) (declared_at j) (declared_at j)
        (λ p. ap (λ (z : List (List ℕ)). same_name z name) (sym (same_path p)))
        (placed_in (read_at reads j).tree) (λ p c. ap now (placed_at j p) ∙ others j n (token_from p) ∙ sym (ap was (placed_at j p)))
      where
        still : (p : Placed) → move_placed (λ i. i) p ≡ p
        still p = ap₂ (λ (a : List (Rattle.proto_names_rules.specs.Skeleton.Source ℕ)) (l : Rattle.proto_names_rules.specs.Skeleton.Source ℕ). let q : Placed = record { above = a; last = l; kind = p.kind } in q) (each p.above) (one p.last)
          where
            one : (s : Rattle.proto_names_rules.specs.Skeleton.Source ℕ) → Rattle.proto_names_rules.specs.Skeleton.shifted_source (λ i. i) s ≡ s
            one (Rattle.proto_names_rules.specs.Skeleton.Token i) = refl
            one (Rattle.proto_names_rules.specs.Skeleton.EntryOf i) = refl
            one (Rattle.proto_names_rules.specs.Skeleton.Given v) = refl

            each : (ss : List (Rattle.proto_names_rules.specs.Skeleton.Source ℕ)) → map (Rattle.proto_names_rules.specs.Skeleton.shifted_source (λ i. i)) ss ≡ ss
            each [] = refl
            each (s ∷ ss) = ap₂ (λ y ys. y ∷ ys) (one s) (each ss)

        same_path : (p : Placed) → name_of (text_of files reads) entry_name (declared_at j p).path ≡ name_of (text_of after seen) entry_name (declared_at j p).path
        same_path p =
            ap (λ (q : Placed). name_of (text_of files reads) entry_name (declared_at j q).path) (sym (still p))
            ∙ named_by j (λ i. i) (text_of files reads) (λ i. text_of files reads (at j i)) (λ i. refl) p
            ∙ sym (named_by j (λ i. i) (text_of after seen) (λ i. text_of files reads (at j i)) (λ i. other_texts j n i) p)
            ∙ ap (λ (q : Placed). name_of (text_of after seen) entry_name (declared_at j q).path) (still p)

    -- what goes has another name
    gone : (p : Placed) → Contains (placed_in (tree_at reads place)) p → goes_with_field p.kind ≡ true → named_so files reads name (declared_at place p) ≡ false
    gone p c may = false_from_ne_true (named_so files reads name (declared_at place p)) (λ e.
        let d : Declared At = declared_at place p in
        let zero_is : place ≡ 0 + place = omega arith in
        let here : Contains (file_declared (0 + place) (names_in (read_at reads place))) (declared_at (0 + place) p) = subst (λ m. Contains (file_declared m (names_in (read_at reads place))) (declared_at m p)) zero_is (contains_map (declared_at place) (placed_in (tree_at reads place)) p c) in
        let all = declared_there 0 reads place (λ m. declared_at m p) (omega (arith, is.within, is.read.same)) here in
        let there : Contains (link_skeleton files reads).declared d = subst (λ m. Contains (all_declared 0 (map names_in reads)) (declared_at m p)) (sym zero_is) all in
        both_ways (goes_with_field p.kind) (stays (symbol_of (text_of files reads) entry_name d) (contains_map (symbol_of (text_of files reads) entry_name) (link_skeleton files reads).declared d there) (name_from_same (name_of (text_of files reads) entry_name d.path) name e)) may)

    in_place : found_in now after seen name place (read_at seen place) ≡ found_in was files reads name place (read_at reads place)
    in_place =
        let more = named.more.placed in
        let olds : List Placed → Option (Option X) = λ ps. option_map (read_of was) (find (named_so files reads name) (map (declared_at place) ps)) in
        let p = named_so files reads name in
        let f = read_of was in
        let none : option_map f (find p (map (declared_at place) more.more)) ≡ None = none_of more.more (λ q c. gone q (subst (λ (z : List Placed). Contains z q) (sym more.is) (Contains-append_right more.front (more.more ++ more.back) q (Contains-append_left more.more more.back q c))) (more.so q c)) in
        ap (λ (ps : List Placed). option_map (read_of now) (find (named_so after seen name) (map (declared_at place) ps))) named.same.placed
        ∙ ap (λ (ds : List (Declared At)). option_map (read_of now) (find (named_so after seen name) ds)) (maps (declared_at place) (move_placed k) (placed_in x))
        ∙ found_alike (named_so after seen name) p (read_of now) f (λ q. declared_at place (move_placed k q)) (λ q. declared_at place (move_placed g q))
        (λ q. ap (λ (z : List (List ℕ)). same_name z name) (named_by place k (text_of after seen) (word_at without) new_text q ∙ sym (named_by place g (text_of files reads) (word_at without) old_text q)))
        (placed_in x) (λ q c. ap now (placed_moved place k is.new_first q) ∙ own (token_from q) ∙ sym (ap was (placed_moved place g is.old_first q)))
        ∙ ap (λ (ds : List (Declared At)). option_map f (find p ds)) (sym (maps (declared_at place) (move_placed g) (placed_in x)))
        ∙ ap olds more.was
        ∙ split more.front more.back
        ∙ ap (λ o. or_else (olds more.front) (or_else o (olds more.back))) (sym none)
        ∙ ap (or_else (olds more.front)) (sym (split more.more more.back))
        ∙ sym (split more.front (more.more ++ more.back))
        ∙ ap olds (sym more.is)
      where
        maps : {A B C : Type 0} (f : B → C) (h : A → B) (xs : List A) → map f (map h xs) ≡ map (λ y. f (h y)) xs
        maps f h xs = Rattle.proto_names_rules.proofs.Edited.map_map h f xs

        split : (ps qs : List Placed) → option_map (read_of was) (find (named_so files reads name) (map (declared_at place) (ps ++ qs)))
            ≡ or_else (option_map (read_of was) (find (named_so files reads name) (map (declared_at place) ps))) (option_map (read_of was) (find (named_so files reads name) (map (declared_at place) qs)))
        split ps qs = ap (λ (ds : List (Declared At)). option_map (read_of was) (find (named_so files reads name) ds)) (Rattle.proto_names_rules.proofs.Edited.map_append (declared_at place) ps qs) ∙ found_among (named_so files reads name) (read_of was) (map (declared_at place) ps) (map (declared_at place) qs)

        none_of : (ps : List Placed) → ((q : Placed) → Contains ps q → named_so files reads name (declared_at place q) ≡ false) → option_map (read_of was) (find (named_so files reads name) (map (declared_at place) ps)) ≡ None
        none_of [] h = refl
        none_of (q ∷ ps) h = ap (λ (b : Bool). option_map (read_of was) (cond b (Some (declared_at place q)) (find (named_so files reads name) (map (declared_at place) ps)))) (h q (contains_head q ps)) ∙ none_of ps (λ z c. h z (contains_later q z ps c))

    each_file : (j : ℕ) → found_in now after seen name j (read_at seen j) ≡ found_in was files reads name j (read_at reads j)
    each_file j = elim (cases_eq j place) [
      | inl e ↦ subst (λ m. found_in now after seen name m (read_at seen m) ≡ found_in was files reads name m (read_at reads m)) (sym e) in_place
      | inr n ↦ in_other j n
    ]

    found_stays : option_and_then (read_of now) (declared_as after seen name) ≡ option_and_then (read_of was) (declared_as files reads name)
    found_stays =
        let zero_is : (i : ℕ) → i ≡ 0 + i = λ i. zero_first i in
        joined_is (read_of now) (declared_as after seen name)
        ∙ ap (option_and_then (λ o. o)) (all_found was now files reads after seen name 0 reads seen (is.seen_are.same ∙ is.count ∙ sym is.read.same) (λ i l. subst (λ m. found_in now after seen name m (read_at seen i) ≡ found_in was files reads name m (read_at reads i)) (zero_is i) (each_file i)))
        ∙ sym (joined_is (read_of was) (declared_as files reads name))
      where
        zero_first : (i : ℕ) → i ≡ 0 + i
        zero_first i = omega arith

  -- what is read of a type that is no entry stays
  pub type_stays : {X : Type 0} (was now : At → Option X) → ((j : ℕ) → j ≢ place → (i : ℕ) → now (at j i) ≡ was (at j i)) → ((i : ℕ) → now (at place (k i)) ≡ was (at place (g i)))
      → (s : Symbol) → Contains (names_of_files files reads).symbols s → goes_with_field s.kind ≡ false → option_and_then (read_of now) (declared_as after seen s.name) ≡ option_and_then (read_of was) (declared_as files reads s.name)
  type_stays was now others own s c keeps = found_stays was now others own s.name (λ t d e. elim (one_symbol (names_of_files files reads).symbols linked.unique t s d c e) [
    | inl same ↦ subst (λ z. goes_with_field z ≡ false) (ap (λ (y : Symbol). y.kind) (sym same)) keeps
    | inr both ↦ ap goes_with_field both.0
  ])

  pub enum_stays : (s : Symbol) → Contains (names_of_files files reads).symbols s → goes_with_field s.kind ≡ false → enum_named after seen s.name ≡ enum_named files reads s.name
  enum_stays = type_stays (enum_at files reads) (enum_at after seen) other_enum own_enum
