-- The scenes of files before and after a rename differ in names (for the crates above).
use Rattle.std.proofs.Common.{◌≡◌, ℕ, zero, suc, ◌+◌, ◌<◌, ◌≤◌, ◌==◌, Bool, true, false, not, List, [], ◌∷◌, length, map, slice_index_or, slice_get, Option, Some, None, is_some, option_map, refl, sym, ap, subst, ◌∙◌, inl, inr, arith, cond, codes, option_and_then, Contains, find, bytes_eq}
use Rattle.proto_base.proofs.Common.{cases_Bool, cases_lt, both_ways, false_from_ne_true, same_Some, any_agree, contains_head, contains_later, contains_map}
use Rattle.proto_case.proofs.Common.{entry_name, entry_differs}
use Rattle.proto_text.specs.declared.kind.TokenKind.{TokenKind}
use Rattle.proto_text.specs.declared.kind.TokenKind.TheVariants.{Word, Number, Text, Punctuation}
use Rattle.proto_text.proofs.Common.{changed, or_word, word_at, AreWords, Lexeme, value_of}
use Rattle.proto_tree.specs.declared.tree.Value.{Value}
use Rattle.proto_tree.specs.declared.piece.Statement.{Statement}
use Rattle.proto_tree.proofs.Common.{Tree, End, words_come_for_words_in, first_of}
use Rattle.proto_tree.specs.declared.piece.Statement.TheVariants as statement
use Rattle.proto_files.proofs.Common.{FileOf, ReadOf, read_at, file_at}
use Rattle.proto_files.specs.GivenFiles.{no_file}
use Rattle.proto_names_rules.proofs.Common.{Renaming, ren, renamed, place_of, At, at, used_in, IsRenaming, Workspace, Symbol, same_name, meaning, Source, Declared, Used, Skeleton, name_of, symbol_of, reference_of, workspace_of, renaming_of, name_from_same, same_from_name, workspace_after, reference_after, name_after, aim_renaming, each_means, has_meaning, meant, ren_apart}
use Rattle.proto_names_outline.specs.FromTree.{file_names}
use Rattle.proto_names_imports.proofs.Common.{text_of, link_skeleton, names_of_files, used_named, uses_of, use_in}
use Rattle.proto_ast.proofs.Common.{number_value, BlockOf, blocks_in, statements, values_in, EnumOf, MeantOf, is_proto3, is_proto3_statement, string_of, value_or_none}
use Rattle.proto_desc_checks_laws.specs.Renamed.{DifferInNames, SameButValues}
use Rattle.proto_resolved.specs.SceneOf.{declared_as, enum_at, enum_named, enum_within, is_enum_at, is_proto3_file, lexemes_of, meaning_of, meant_as, means_of, scene_of, starts_past_zero}
use Rattle.proto_edit_rules.specs.Rename.{words_of_file, NewWords}
use Rattle.proto_edit_rename_laws.specs.Scenes.{IsRename, ScenesDiffer}
use Rattle.proto_edit_rename_laws.proofs.Rewording.{at_same, other_texts_stay, skeletons_stay}

-- ---- lists

pub index_past : {A : Type 0} (xs : List A) (d : A) (k : ℕ) → length xs ≤ k → slice_index_or xs k d ≡ d
index_past [] d k l = refl
index_past (x ∷ xs) d zero l = absurd (omega (arith, l))
index_past (x ∷ xs) d (suc k) l = index_past xs d k (omega (arith, l))

pub find_agree : {A : Type 0} (p q : A → Bool) (xs : List A) → ((x : A) → Contains xs x → p x ≡ q x) → find p xs ≡ find q xs
find_agree p q [] h = refl
find_agree p q (x ∷ xs) h =
    ap (λ b. cond b (Some x) (find p xs)) (h x (contains_head x xs)) ∙ ap (λ o. cond (q x) (Some x) o) (find_agree p q xs (λ y c. h y (contains_later x y xs c)))

pub find_there : {A : Type 0} (p : A → Bool) (xs : List A) (x : A) → find p xs ≡ Some x → Contains xs x × (p x ≡ true)
find_there p [] x e = absurd cc
find_there {A} p (y ∷ xs) x e = by (λ q. find_there p xs x q) (p y) refl e
  where
    by : (find p xs ≡ Some x → Contains xs x × (p x ≡ true)) → (b : Bool) → p y ≡ b → cond b (Some y) (find p xs) ≡ Some x → Contains (y ∷ xs) x × (p x ≡ true)
    by on true t e = let same : y ≡ x = same_Some y x e in (subst (Contains (y ∷ xs)) same (contains_head y xs), subst (λ z. p z ≡ true) same t)
    by on false f e = let r = on e in (contains_later y x xs r.0, r.1)

-- ---- strings are not changed

lexeme_of : TokenKind → List ℕ → Lexeme
lexeme_of kind text = record { kind = kind; text = text }

strings_stay : (c : ℕ → Option (List ℕ)) (n : ℕ) (ls : List Lexeme) (t : ℕ) → AreWords c n ls → string_of (slice_get (changed c n ls) t) ≡ string_of (slice_get ls t)
strings_stay c n [] t w = refl
strings_stay c n (l ∷ ls) zero w = by (c n) refl
  where
    of_word : (k : TokenKind) (v w : Option (List ℕ)) → k ≡ Word → value_or_none k v ≡ value_or_none k w
    of_word Word v w e = refl
    of_word Number v w e = absurd cc
    of_word Text v w e = absurd cc
    of_word Punctuation v w e = absurd cc

    by : (o : Option (List ℕ)) → c n ≡ o → value_or_none l.kind (value_of (or_word o l.text)) ≡ value_or_none l.kind (value_of l.text)
    by None e = refl
    by (Some v) e = of_word l.kind (value_of v) (value_of l.text) (w.0 v e).0
strings_stay c n (l ∷ ls) (suc t) w = strings_stay c (suc n) ls t w.1

statement_agrees : (v w : ℕ → List ℕ) → ((t : ℕ) → v t ≡ w t) → (s : Statement) → is_proto3_statement v s ≡ is_proto3_statement w s
statement_agrees v w h (statement.Syntax s) = ap (λ x. bytes_eq x (codes "proto3")) (h s.text)
statement_agrees v w h _ = refl

-- ---- references of a file

pub index_map : {A B : Type 0} (f : A → B) (xs : List A) (d : A) (e : B) (k : ℕ) → k < length xs → slice_index_or (map f xs) k e ≡ f (slice_index_or xs k d)
index_map f [] d e k l = absurd (omega (arith, l))
index_map f (x ∷ xs) d e zero l = refl
index_map f (x ∷ xs) d e (suc k) l = index_map f xs d e k (omega (arith, l))

-- ---- what references mean

same_enums : (us : List (Used ℕ)) (f g : Used ℕ → MeantOf) (t : ℕ) → ((u : Used ℕ) → Contains us u → ((f u).token ≡ (g u).token) × SameButValues (f u).enum (g u).enum)
    → SameButValues (option_and_then (λ (m : MeantOf). m.enum) (find (λ (m : MeantOf). m.token == t) (map f us))) (option_and_then (λ (m : MeantOf). m.enum) (find (λ (m : MeantOf). m.token == t) (map g us)))
same_enums [] f g t h = tt
same_enums (u ∷ us) f g t h = by ((f u).token == t) ((g u).token == t) (ap (λ n. n == t) here.0) (same_enums us f g t (λ x c. h x (contains_later u x us c)))
  where
    here : ((f u).token ≡ (g u).token) × SameButValues (f u).enum (g u).enum
    here = h u (contains_head u us)

    by : (b d : Bool) → b ≡ d → SameButValues (option_and_then (λ (m : MeantOf). m.enum) (find (λ (m : MeantOf). m.token == t) (map f us))) (option_and_then (λ (m : MeantOf). m.enum) (find (λ (m : MeantOf). m.token == t) (map g us)))
        → SameButValues (option_and_then (λ (m : MeantOf). m.enum) (cond b (Some (f u)) (find (λ (m : MeantOf). m.token == t) (map f us)))) (option_and_then (λ (m : MeantOf). m.enum) (cond d (Some (g u)) (find (λ (m : MeantOf). m.token == t) (map g us))))
    by true true e rest = here.1
    by false false e rest = rest
    by true false e rest = absurd cc
    by false true e rest = absurd cc

module _ (files : List FileOf) (reads : List ReadOf) (c : NewWords) (after : List FileOf) (seen : List ReadOf) (token : At) (above : List (Source At)) (aim : Declared At) (is_map : Bool) (to : List ℕ)
    (r : IsRename files reads c after seen token above aim is_map to) where
  abbrev text : At → List ℕ
  text = text_of files reads

  abbrev now : At → List ℕ
  now = text_of after seen

  abbrev k : Skeleton At
  k = link_skeleton files reads

  abbrev e : Renaming
  e = renaming_of (text_of files reads) entry_name token above is_map to

  abbrev w : Workspace
  w = names_of_files files reads

  pub trees_at : (f : ℕ) → (read_at seen f).tree ≡ (read_at reads f).tree
  trees_at f = at_same (λ (x : ReadOf). x.tree) seen reads (record { tokens = []; tree = End }) f r.reworded.trees

  -- the names after the rename
  pub names_after : names_of_files after seen ≡ renamed e w
  names_after = ap (workspace_of now entry_name) (skeletons_stay c files reads after seen r.read r.suits r.reworded) ∙ workspace_after text now entry_name k token above aim is_map to r.linked r.woven r.is r.entry r.respelled entry_differs

  is_renaming : IsRenaming (renaming_of (text_of files reads) entry_name token above is_map to) (names_of_files files reads)
  is_renaming = aim_renaming text now entry_name k token above aim is_map to r.linked r.woven r.is r.entry r.respelled entry_differs

  -- ---- texts, strings and versions

  lexemes_are : (f : ℕ) → f < length files → lexemes_of after seen f ≡ changed (words_of_file c f) 0 (lexemes_of files reads f)
  lexemes_are f l = (r.reworded.words f l).words

  words_are : (f : ℕ) → f < length files → AreWords (words_of_file c f) 0 (lexemes_of files reads f)
  words_are f l =
      let suit = r.suits f (omega (arith, l, r.read.same)) in
      words_come_for_words_in (file_at files f).profile (words_of_file c f) (read_at reads f).tree (lexemes_of files reads f) suit.0 suit.1 (r.read.trees f l).spells

  pub values_stay : (f : ℕ) → f < length files → (t : ℕ) → string_of (slice_get (lexemes_of files reads f) t) ≡ string_of (slice_get (lexemes_of after seen f) t)
  values_stay f l t = sym (ap (λ ls. string_of (slice_get ls t)) (lexemes_are f l) ∙ strings_stay (words_of_file c f) 0 (lexemes_of files reads f) t (words_are f l))

  pub version_stays : (f : ℕ) → f < length files → is_proto3_file files reads f ≡ is_proto3_file after seen f
  version_stays f l =
      any_agree (is_proto3_statement (λ t. string_of (slice_get (lexemes_of files reads f) t))) (is_proto3_statement (λ t. string_of (slice_get (lexemes_of after seen f) t))) (statements (read_at reads f).tree)
      (statement_agrees (λ t. string_of (slice_get (lexemes_of files reads f) t)) (λ t. string_of (slice_get (lexemes_of after seen f) t)) (values_stay f l))
      ∙ ap (is_proto3 (λ t. string_of (slice_get (lexemes_of after seen f) t))) (sym (trees_at f))

  -- ---- enums

  starts_stay : (f : ℕ) → f < length files → (vs : List Value) → ((v : Value) → Contains vs v → c (at f v.number.number) ≡ None)
      → starts_past_zero (word_at (lexemes_of files reads f)) vs ≡ starts_past_zero (word_at (lexemes_of after seen f)) vs
  starts_stay f l [] h = refl
  starts_stay f l (v ∷ vs) h =
      ap (λ x. not (number_value x == 0)) (sym (other_texts_stay c files reads after seen r.read r.reworded (at f v.number.number) l (h v (contains_head v vs))))

  enum_stays : (a : At) → SameButValues (enum_at files reads a) (enum_at after seen a)
  enum_stays a = elim (cases_lt a.file (length files)) [
    | inl l ↦ by l (find is_there (blocks_in (read_at reads a.file).tree)) refl
    | inr l ↦
        let none : read_at reads a.file ≡ (let x : ReadOf = record { tokens = []; tree = End } in x) = index_past reads (record { tokens = []; tree = End }) a.file (omega (arith, l, r.read.same)) in
        let tree : (read_at reads a.file).tree ≡ End = ap (λ (x : ReadOf). x.tree) none in
        subst (λ t. SameButValues (enum_in files reads t) (enum_at after seen a)) (sym tree) (subst (λ t. SameButValues (enum_in files reads End) (enum_in after seen t)) (sym (trees_at a.file ∙ tree)) tt)
  ]
    where
      is_there : BlockOf → Bool
      is_there b = is_enum_at a.token b.header

      enum_in : List FileOf → List ReadOf → Tree → Option EnumOf
      enum_in fs rs t = option_map (λ (b : BlockOf). enum_within (lexemes_of fs rs a.file) (is_proto3_file fs rs a.file) b.within) (find is_there (blocks_in t))

      by : a.file < length files → (o : Option BlockOf) → find is_there (blocks_in (read_at reads a.file).tree) ≡ o → SameButValues (enum_at files reads a) (enum_at after seen a)
      by l None q =
          let later = ap (λ t. find is_there (blocks_in t)) (trees_at a.file) ∙ q in
          subst (λ o. SameButValues (option_map (λ (b : BlockOf). enum_within (lexemes_of files reads a.file) (is_proto3_file files reads a.file) b.within) o) (enum_at after seen a)) (sym q)
          (subst (λ o. SameButValues None (option_map (λ (b : BlockOf). enum_within (lexemes_of after seen a.file) (is_proto3_file after seen a.file) b.within) o)) (sym later) tt)
      by l (Some b) q =
          let later = ap (λ t. find is_there (blocks_in t)) (trees_at a.file) ∙ q in
          let there = find_there is_there (blocks_in (read_at reads a.file).tree) b q in
          subst (λ o. SameButValues (option_map (λ (b : BlockOf). enum_within (lexemes_of files reads a.file) (is_proto3_file files reads a.file) b.within) o) (enum_at after seen a)) (sym q)
          (subst (λ o. SameButValues (Some (enum_within (lexemes_of files reads a.file) (is_proto3_file files reads a.file) b.within)) (option_map (λ (b : BlockOf). enum_within (lexemes_of after seen a.file) (is_proto3_file after seen a.file) b.within) o)) (sym later)
          (version_stays a.file l, starts_stay a.file l (values_in b.within) (λ v h. r.numbers a.file b v there.0 h)))

  -- ---- references

  -- two names of which the second is declared are the same after the map where they were before
  same_ren : (d : Declared At) → Contains k.declared d → (s : Symbol) → Contains w.symbols s → same_name (name_of text entry_name d.path) s.name ≡ same_name (name_of now entry_name d.path) (ren e s.name)
  same_ren d cd s cs = elim (cases_Bool (same_name (name_of text entry_name d.path) s.name)) [
    | inl t ↦ t ∙ sym (same_from_name (name_of now entry_name d.path) (ren e s.name) (name_after text now entry_name k token above aim is_map to r.linked r.woven r.is r.entry r.respelled entry_differs d cd ∙ ap (ren e) (name_from_same (name_of text entry_name d.path) s.name t)))
    | inr f ↦ f ∙ sym (false_from_ne_true (same_name (name_of now entry_name d.path) (ren e s.name)) (λ h.
        let same = sym (name_after text now entry_name k token above aim is_map to r.linked r.woven r.is r.entry r.respelled entry_differs d cd) ∙ name_from_same (name_of now entry_name d.path) (ren e s.name) h in
        let old = ren_apart e w is_renaming r.free.no_collision (symbol_of text entry_name d) s (contains_map (symbol_of text entry_name) k.declared d cd) cs same in
        both_ways (same_name (name_of text entry_name d.path) s.name) f (same_from_name (name_of text entry_name d.path) s.name old)))
  ]

  -- the declaration of a name that is meant
  pub declared_stays : (s : Symbol) → Contains w.symbols s → declared_as files reads s.name ≡ declared_as after seen (ren e s.name)
  declared_stays s cs =
      find_agree (λ d. same_name (name_of text entry_name d.path) s.name) (λ d. same_name (name_of now entry_name d.path) (ren e s.name)) k.declared (λ d cd. same_ren d cd s cs)
      ∙ ap (λ (x : Skeleton At). find (λ d. same_name (name_of now entry_name d.path) (ren e s.name)) x.declared) (sym (skeletons_stay c files reads after seen r.read r.suits r.reworded))

  enum_named_stays : (s : Symbol) → Contains w.symbols s → SameButValues (enum_named files reads s.name) (enum_named after seen (ren e s.name))
  enum_named_stays s cs = by (declared_as files reads s.name) refl
    where
      by : (o : Option (Declared At)) → declared_as files reads s.name ≡ o → SameButValues (enum_named files reads s.name) (enum_named after seen (ren e s.name))
      by o q =
          subst (λ x. SameButValues (option_and_then (λ d. enum_at files reads (place_of d)) x) (enum_named after seen (ren e s.name))) (sym q)
          (subst (λ x. SameButValues (option_and_then (λ d. enum_at files reads (place_of d)) o) (option_and_then (λ d. enum_at after seen (place_of d)) x)) (sym (sym (declared_stays s cs) ∙ q)) (of o))
        where
          of : (o : Option (Declared At)) → SameButValues (option_and_then (λ d. enum_at files reads (place_of d)) o) (option_and_then (λ d. enum_at after seen (place_of d)) o)
          of None = tt
          of (Some d) = enum_stays (place_of d)

  pub uses_stay : (f : ℕ) → uses_of seen f ≡ uses_of reads f
  uses_stay f = ap (λ t. (file_names t).used) (trees_at f)

  pub used_here : (f : ℕ) → f < length files → (u : Used ℕ) → Contains (uses_of reads f) u → Contains k.used (used_in f u)
  used_here f l u h =
      let lr : f < length reads = omega (arith, l, r.read.same) in
      let e0 : 0 + f ≡ f = omega arith in
      subst (λ m. Contains k.used (used_in m u)) e0 (use_in 0 f reads u lr h)

  -- what a reference means then
  pub meaning_after : (f : ℕ) → f < length files → (u : Used ℕ) → Contains (uses_of reads f) u → (m : List (List ℕ)) → meaning_of files reads f u ≡ Some m → meaning_of after seen f u ≡ Some (ren e m)
  meaning_after f l u h m q =
      let cu = used_here f l u h in
      ap (λ z. meaning z (used_named now f u)) names_after
      ∙ ap (meaning (renamed e w)) (reference_after text now entry_name k token above aim is_map to r.linked r.woven r.is r.entry r.respelled entry_differs (used_in f u) cu)
      ∙ each_means e w r.linked is_renaming r.free (used_named text f u) (contains_map (reference_of text entry_name) k.used (used_in f u) cu) m q

  means_same : (f : ℕ) → f < length files → (u : Used ℕ) → Contains (uses_of reads f) u
      → ((meant_as files reads u.first (meaning_of files reads f u)).token ≡ (meant_as after seen u.first (meaning_of after seen f u)).token) × SameButValues (meant_as files reads u.first (meaning_of files reads f u)).enum (meant_as after seen u.first (meaning_of after seen f u)).enum
  means_same f l u h =
      let cu = contains_map (reference_of text entry_name) k.used (used_in f u) (used_here f l u h) in
      let m = has_meaning (meaning_of files reads f u) (r.linked.resolved (used_named text f u) cu) in
      let t = meant w (used_named text f u) m.0 m.1 in
      let new = meaning_after f l u h m.0 m.1 in
      let one = subst (λ n. SameButValues (enum_named files reads n) (enum_named after seen (ren e n))) t.2 (enum_named_stays t.0 t.1) in
      subst (λ o. ((meant_as files reads u.first o).token ≡ (meant_as after seen u.first (meaning_of after seen f u)).token) × SameButValues (meant_as files reads u.first o).enum (meant_as after seen u.first (meaning_of after seen f u)).enum) (sym m.1)
      (subst (λ o. ((meant_as files reads u.first (Some m.0)).token ≡ (meant_as after seen u.first o).token) × SameButValues (meant_as files reads u.first (Some m.0)).enum (meant_as after seen u.first o).enum) (sym new) (refl, one))

  none_of : {A : Type 0} (o : Option A) → is_some o ≡ false → o ≡ None
  none_of None h = refl
  none_of (Some x) h = absurd cc

  scenes_differ : (f : ℕ) → f < length files → DifferInNames (λ t. is_some (c (at f t))) (scene_of None files reads f) (scene_of None after seen f)
  scenes_differ f l = record {
    profile = sym (at_same (λ (g : FileOf). g.profile) after files no_file f r.reworded.profiles);
    version = version_stays f l;
    caps = refl;
    texts = λ t h. sym (other_texts_stay c files reads after seen r.read r.reworded (at f t) l (none_of (c (at f t)) h));
    enums = λ x.
        subst (λ us. SameButValues (option_and_then (λ (m : MeantOf). m.enum) (find (λ (m : MeantOf). m.token == first_of x.dot x.words) (means_of files reads f))) (option_and_then (λ (m : MeantOf). m.enum) (find (λ (m : MeantOf). m.token == first_of x.dot x.words) (map (λ u. meant_as after seen u.first (meaning_of after seen f u)) us)))) (sym (uses_stay f))
        (same_enums (uses_of reads f) (λ u. meant_as files reads u.first (meaning_of files reads f u)) (λ u. meant_as after seen u.first (meaning_of after seen f u)) (first_of x.dot x.words) (means_same f l));
  }

pub scenes_are_apart : ScenesDiffer
scenes_are_apart = scenes_differ
