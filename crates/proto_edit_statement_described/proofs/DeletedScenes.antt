-- What is read of files of which one loses a field.
use Rattle.std.proofs.Common.{◌≡◌, ◌≢◌, ℕ, ◌+◌, ◌<◌, inl, inr, List, [], ◌∷◌, ◌++◌, length, map, Option, Some, None, refl, sym, ◌∙◌, ap, ap₂, subst, arith, Contains, append-nil}
use Rattle.proto_base.proofs.Common.{cases_lt, contains_map, from_map}
use Rattle.proto_case.specs.Camel.{entry_name}
use Rattle.proto_text.proofs.Common.{word_at, Lexeme}
use Rattle.proto_tree.proofs.Common.{Move, Tree, End}
use Rattle.proto_files.proofs.Common.{ReadOf, FileOf, file_at}
use Rattle.proto_names_rules.proofs.Common.{used_in, joined, IsLinked, Reference, meaning, Used, reference_of, shifted_used, map_agree, map_append, map_map, has_meaning, meant}
use Rattle.proto_names_outline.specs.FromTree.{file_names}
use Rattle.proto_names_imports.proofs.Common.{link_skeleton, names_of_files, text_of, used_named, uses_of, use_in}
use Rattle.proto_ast.specs.Scenes.{EnumOf, MeantOf, Scene}
use Rattle.proto_edit_statement_described.proofs.Common.{enum_named, is_proto3_file, meaning_of, meant_as, means_of, Reservation, WrittenField, scene_at, tree_at, HasTokens, move_meant}
use Rattle.proto_desc_checks_laws.proofs.MovedParts.{maps_moved}
use Rattle.proto_edit_statement_laws.proofs.NamesCommon.{MeanTheSame, HasMore, more_has, index_past}
use Rattle.proto_edit_statement_laws.proofs.Less.{wanted_stays}
use Rattle.proto_edit_statement_described.specs.DeletedScenes.{IsReadWithout, ScenesHaveTokens}
use Rattle.proto_edit_statement_described.proofs.Declared.{named, new_text, old_text, other_lexemes, other_texts, other_version, same_version, enum_stays}
use Rattle.proto_edit_statement_described.proofs.NamedFiles.{used_more}
use Rattle.proto_edit_statement_described.proofs.Spelled.{other_reference, referred_by}

-- ---- references of a file

-- what a file uses is a reference of the files
pub is_referred : (files : List FileOf) (reads : List ReadOf) (f : ℕ) → f < length reads → (u : Used ℕ) → Contains (uses_of reads f) u → Contains (names_of_files files reads).references (used_named (text_of files reads) f u)
is_referred files reads f l u c =
    let zero_is : 0 + f ≡ f = omega arith in
    contains_map (reference_of (text_of files reads) entry_name) (link_skeleton files reads).used (used_in f u) (subst (λ m. Contains (link_skeleton files reads).used (used_in m u)) zero_is (use_in 0 f reads u l c))

-- a file that uses something is there
pub is_there : (reads : List ReadOf) (f : ℕ) (u : Used ℕ) → Contains (uses_of reads f) u → f < length reads
is_there reads f u c = elim (cases_lt f (length reads)) [
  | inl l ↦ l
  | inr ge ↦
      let nothing : uses_of reads f ≡ [] = ap (λ (r : ReadOf). (file_names r.tree).used) (index_past reads (record { tokens = []; tree = End }) f ge) in
      let none = subst (λ (us : List (Used ℕ)). Contains us u) nothing c in
      absurd (omega (arith, none.1))
]

-- ---- what is meant

its_token : (files : List FileOf) (reads : List ReadOf) (t : ℕ) (o : Option (List (List ℕ))) → (meant_as files reads t o).token ≡ t
its_token files reads t None = refl
its_token files reads t (Some name) = refl

whole : (files : List FileOf) (reads : List ReadOf) (t : ℕ) (o : Option (List (List ℕ))) → meant_as files reads t o ≡ (let m : MeantOf = record { token = t; name = (meant_as files reads t o).name; enum = (meant_as files reads t o).enum } in m)
whole files reads t None = refl
whole files reads t (Some name) = refl

-- a list that is mapped is cut where its image is
pub cut_map : {A B : Type 0} (f : A → B) (xs : List A) (front back : List B) → map f xs ≡ front ++ back → (a : List A) × (b : List A) × (xs ≡ a ++ b) × (map f a ≡ front) × (map f b ≡ back)
cut_map f xs [] back e = ([], xs, refl, refl, e)
cut_map f [] (y ∷ front) back e = absurd cc
cut_map f (x ∷ xs) (y ∷ front) back e =
    let h : f x ≡ y = cc in
    let t : map f xs ≡ front ++ back = cc in
    let r = cut_map f xs front back t in
    (x ∷ r.0, r.1, ap (λ z. x ∷ z) r.2, ap₂ (λ z zs. z ∷ zs) h r.3, r.4)

module _ (files : List FileOf) (reads : List ReadOf) (after : List FileOf) (seen : List ReadOf) (place : ℕ) (g k : Move) (w : WrittenField) (r : Reservation) (x : Tree) (without : List Lexeme)
    (is : IsReadWithout files reads after seen place g k w r x without) (linked : IsLinked (names_of_files files reads)) (same : MeanTheSame files reads after seen) where
  -- a reference means the same name, and an enum that is read the same
  meant_alike : (q : Reference) → Contains (names_of_files files reads).references q → (a b : ℕ)
      → meant_as after seen a (meaning (names_of_files after seen) q) ≡ (let m : MeantOf = record { token = a; name = (meant_as files reads b (meaning (names_of_files files reads) q)).name; enum = (meant_as files reads b (meaning (names_of_files files reads) q)).enum } in m)
  meant_alike q c a b =
      let v = names_of_files files reads in
      let m = has_meaning (meaning v q) (linked.resolved q c) in
      let t = meant v q m.0 m.1 in
      let keeps = wanted_stays q.wants t.0.kind t.3 (linked.no_entry q c t.0 t.1 (m.1 ∙ ap Some (sym t.2))) in
      let enum : enum_named after seen m.0 ≡ enum_named files reads m.0 = subst (λ n. enum_named after seen n ≡ enum_named files reads n) t.2 (enum_stays files reads after seen place g k w r x without is linked t.0 t.1 keeps) in
      ap (meant_as after seen a) (same q c ∙ m.1)
      ∙ ap (λ (e : Option EnumOf). let z : MeantOf = record { token = a; name = joined m.0; enum = e } in z) enum
      ∙ ap (λ (o : Option (List (List ℕ))). let z : MeantOf = record { token = a; name = (meant_as files reads b o).name; enum = (meant_as files reads b o).enum } in z) (sym m.1)

  -- ---- the scene of neither

  abbrev mid_meant : Used ℕ → MeantOf
  mid_meant u = record {
    token = u.first;
    name = (meant_as files reads (g u.first) (meaning_of files reads place (shifted_used g u))).name;
    enum = (meant_as files reads (g u.first) (meaning_of files reads place (shifted_used g u))).enum;
  }

  abbrev middle : Scene
  middle = record { lexemes = without; cap = None; profile = (file_at files place).profile; is_proto3 = is_proto3_file files reads place; means = map mid_meant (file_names x).used }

  abbrev meant_in : List FileOf → List ReadOf → ℕ → Used ℕ → MeantOf
  meant_in fs rs file u = meant_as fs rs u.first (meaning_of fs rs file u)

  old_each : (u : Used ℕ) → meant_in files reads place (shifted_used g u) ≡ move_meant g (mid_meant u)
  old_each u = whole files reads (g u.first) (meaning_of files reads place (shifted_used g u))

  pub more : HasMore (λ (u : Used ℕ). (i : ℕ) → u.first ≢ g i) (map (shifted_used g) (file_names x).used) (uses_of reads place)
  more = used_more g k w r (λ (u : Used ℕ). (i : ℕ) → u.first ≢ g i) is.own x (tree_at reads place) (tree_at seen place) is.trees

  old_tokens : HasTokens g middle (scene_at files reads place)
  old_tokens =
      let m = more in
      let c = cut_map (shifted_used g) (file_names x).used m.front m.back m.was in
      let f : Used ℕ → MeantOf = meant_in files reads place in
      record {
        profile = refl;
        version = refl;
        caps = refl;
        apart = is.old_apart;
        stays = is.old;
        front = map mid_meant c.0;
        more = map f m.more;
        back = map mid_meant c.1;
        was = ap (map mid_meant) c.2 ∙ map_append mid_meant c.0 c.1;
        is = ap (map f) m.is ∙ map_append f m.front (m.more ++ m.back) ∙ ap (λ (z : List MeantOf). map f m.front ++ z) (map_append f m.more m.back)
            ∙ ap₂ (λ (y z : List MeantOf). y ++ (map f m.more ++ z)) (ap (map f) (sym c.3) ∙ maps_moved (shifted_used g) (move_meant g) mid_meant f old_each c.0) (ap (map f) (sym c.4) ∙ maps_moved (shifted_used g) (move_meant g) mid_meant f old_each c.1);
        own = λ n d i e. let u = from_map f m.more n d in m.so u.0 u.1 i (sym (its_token files reads u.0.first (meaning_of files reads place u.0)) ∙ ap (λ (z : MeantOf). z.token) u.2 ∙ e);
      }

  here : place < length reads
  here = let l = is.within in let s = is.read.same in omega (arith, l, s)

  -- a reference of the tree of neither is the same in the old file and in the new one
  referred : (u : Used ℕ) → used_named (text_of after seen) place (shifted_used k u) ≡ used_named (text_of files reads) place (shifted_used g u)
  referred u =
      referred_by place k (text_of after seen) (word_at without) (new_text files reads after seen place g k w r x without is linked) u
      ∙ sym (referred_by place g (text_of files reads) (word_at without) (old_text files reads after seen place g k w r x without is linked) u)

  refers : (u : Used ℕ) → Contains (file_names x).used u → Contains (names_of_files files reads).references (used_named (text_of files reads) place (shifted_used g u))
  refers u c =
      let there : Contains (uses_of reads place) (shifted_used g u) = more_has (λ (v : Used ℕ). (i : ℕ) → v.first ≢ g i) (map (shifted_used g) (file_names x).used) (uses_of reads place) more (shifted_used g u) (contains_map (shifted_used g) (file_names x).used u c) in
      is_referred files reads place here (shifted_used g u) there

  pub meaning_alike : (u : Used ℕ) → Contains (file_names x).used u → meaning_of after seen place (shifted_used k u) ≡ meaning_of files reads place (shifted_used g u)
  meaning_alike u c = ap (meaning (names_of_files after seen)) (referred u) ∙ same (used_named (text_of files reads) place (shifted_used g u)) (refers u c)

  new_each : (u : Used ℕ) → Contains (file_names x).used u → meant_in after seen place (shifted_used k u) ≡ move_meant k (mid_meant u)
  new_each u c =
      ap (λ (z : Reference). meant_as after seen (k u.first) (meaning (names_of_files after seen) z)) (referred u)
      ∙ meant_alike (used_named (text_of files reads) place (shifted_used g u)) (refers u c) (k u.first) (g u.first)

  new_tokens : HasTokens k middle (scene_at after seen place)
  new_tokens =
      let f : Used ℕ → MeantOf = meant_in after seen place in
      let us : List (Used ℕ) = (file_names x).used in
      record {
        profile = sym (is.profiles place);
        version = sym (same_version files reads after seen place g k w r x without is linked);
        caps = refl;
        apart = is.new_apart;
        stays = is.new;
        front = map mid_meant us;
        more = [];
        back = [];
        was = sym (append-nil (map mid_meant us));
        is = ap (map f) (named files reads after seen place g k w r x without is linked).same.used ∙ map_map (shifted_used k) f us ∙ map_agree (λ u. f (shifted_used k u)) (λ u. move_meant k (mid_meant u)) us new_each
            ∙ sym (map_map mid_meant (move_meant k) us) ∙ sym (append-nil (map (move_meant k) (map mid_meant us)));
        own = λ n d i. absurd (omega (arith, d.1));
      }

  -- ---- other files

  other_referred : (j : ℕ) → j ≢ place → (u : Used ℕ) → used_named (text_of after seen) j u ≡ used_named (text_of files reads) j u
  other_referred j n = other_reference j (text_of files reads) (text_of after seen) (other_texts files reads after seen place g k w r x without is linked j n)

  pub other_meaning : (j : ℕ) → j ≢ place → (u : Used ℕ) → Contains (uses_of reads j) u → meaning_of after seen j u ≡ meaning_of files reads j u
  other_meaning j n u c = ap (meaning (names_of_files after seen)) (other_referred j n u) ∙ same (used_named (text_of files reads) j u) (is_referred files reads j (is_there reads j u c) u c)

  other_means : (j : ℕ) → j ≢ place → means_of after seen j ≡ means_of files reads j
  other_means j n =
      ap (λ (s : ReadOf). map (meant_in after seen j) (file_names s.tree).used) (is.reads_stay j n)
      ∙ map_agree (meant_in after seen j) (meant_in files reads j) (uses_of reads j) (λ u c.
      let q = used_named (text_of files reads) j u in
      ap (λ (z : Reference). meant_as after seen u.first (meaning (names_of_files after seen) z)) (other_referred j n u)
      ∙ meant_alike q (is_referred files reads j (is_there reads j u c) u c) u.first u.first
      ∙ sym (whole files reads u.first (meaning_of files reads j u)))

  pub other_scene : (j : ℕ) → j ≢ place → scene_at after seen j ≡ scene_at files reads j
  other_scene j n =
      λ i. record {
        lexemes = other_lexemes files reads after seen place g k w r x without is linked j n i;
        cap = None;
        profile = is.profiles j i;
        is_proto3 = other_version files reads after seen place g k w r x without is linked j n i;
        means = other_means j n i;
      }

pub scenes_have_tokens : ScenesHaveTokens
scenes_have_tokens files reads after seen place g k w r x without is linked same = record {
  middle = middle files reads after seen place g k w r x without is linked same;
  old = old_tokens files reads after seen place g k w r x without is linked same;
  new = new_tokens files reads after seen place g k w r x without is linked same;
}
