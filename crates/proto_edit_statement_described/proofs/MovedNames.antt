-- What files declare, and the enums of full names, where the tokens of one file are moved.
use Rattle.std.proofs.Common.{◌≡◌, ◌≢◌, ℕ, suc, ◌+◌, ◌<◌, List, [], ◌∷◌, ◌++◌, length, map, find, Option, Some, None, option_map, refl, sym, ◌∙◌, ap, ap₂, subst, inl, inr, arith, option_and_then}
use Rattle.std.proofs.lemmas.Bool.{cases_eq}
use Rattle.proto_case.specs.Camel.{entry_name}
use Rattle.proto_tree.proofs.Common.{Move, Tree}
use Rattle.proto_files.proofs.Common.{ReadOf, read_at, FileOf}
use Rattle.proto_names_rules.specs.declared.kind.Kind.{Kind}
use Rattle.proto_names_rules.proofs.Common.{place_of, At, all_declared, at, declared_of, file_declared, same_name, Declared, Source, name_of, shifted_declared, shifted_source, Placed, map_agree, map_append, map_map}
use Rattle.proto_names_outline.specs.FromTree.{file_names}
use Rattle.proto_names_imports.specs.Links.{link_skeleton, names_in, text_of}
use Rattle.proto_desc_checks_laws.proofs.MovedParts.{find_moved, maps_moved}
use Rattle.proto_edit_statement_described.proofs.Common.{declared_as, enum_at, enum_named, tree_at}
use Rattle.proto_edit_statement_laws.proofs.NamesCommon.{find_there, MovesNames, move_placed, placed_in, imports_move_names}
use Rattle.proto_edit_statement_described.specs.MovedFiles.{AreMoved}
use Rattle.proto_edit_statement_described.proofs.DeclaredPlaces.{place_moved}
use Rattle.proto_edit_statement_described.proofs.MovedEnums.{enum_moved}
use Rattle.proto_edit_statement_described.proofs.MovedTexts.{moved_at, name_moved, path_here, path_there}

-- a declaration of a file, by its tokens
abbrev declares : ℕ → Placed → Declared At
declares k p = shifted_declared (at k) (declared_of k p)

abbrev by_path : Kind → ℕ → List (Source At) → Declared At
by_path kind k path = record { path = path; kind = kind; file = k }

module _ (place : ℕ) (g : Move) where
  declared_here : (p : Placed) → declares place (move_placed g p) ≡ shifted_declared (moved_at place g) (declares place p)
  declared_here p =
      ap (by_path p.kind place)
      (ap (map (shifted_source (at place))) (sym (map_append (shifted_source g) p.above (p.last ∷ []))) ∙ path_here place g (p.above ++ p.last ∷ []))

  declared_there : (k : ℕ) → k ≢ place → (p : Placed) → shifted_declared (moved_at place g) (declares k p) ≡ declares k p
  declared_there k n p = ap (by_path p.kind k) (path_there place g k n (p.above ++ p.last ∷ []))

module _ (m : At → At) where
  -- of all files, if of each
  all_moved : (n : ℕ) (rs ss : List ReadOf) → length ss ≡ length rs
      → ((k : ℕ) → k < length rs → file_declared (n + k) (names_in (read_at ss k)) ≡ map (shifted_declared m) (file_declared (n + k) (names_in (read_at rs k))))
      → all_declared n (map names_in ss) ≡ map (shifted_declared m) (all_declared n (map names_in rs))
  all_moved n [] [] e h = refl
  all_moved n [] (s ∷ ss) e h = absurd (omega (arith, e))
  all_moved n (r ∷ rs) [] e h = absurd (omega (arith, e))
  all_moved n (r ∷ rs) (s ∷ ss) e h =
      let zero_is : n + 0 ≡ n = omega arith in
      ap₂ (λ (xs ys : List (Declared At)). xs ++ ys)
      (subst (λ k. file_declared k (names_in s) ≡ map (shifted_declared m) (file_declared k (names_in r))) zero_is (h 0 (omega arith)))
      (all_moved (suc n) rs ss (omega (arith, e)) (λ k l.
      let more : n + suc k ≡ suc n + k = omega arith in
      subst (λ j. file_declared j (names_in (read_at ss k)) ≡ map (shifted_declared m) (file_declared j (names_in (read_at rs k)))) more (h (suc k) (omega (arith, l)))))
      ∙ sym (map_append (shifted_declared m) (file_declared n (names_in r)) (all_declared (suc n) (map names_in rs)))

module _ (files : List FileOf) (reads : List ReadOf) (after : List FileOf) (seen : List ReadOf) (place : ℕ) (g : Move) (h : AreMoved files reads after seen place g) where
  pub names_move : MovesNames g (tree_at reads place) (tree_at seen place)
  names_move = imports_move_names g (tree_at reads place) (tree_at seen place) h.tree

  file_here : file_declared place (names_in (read_at seen place)) ≡ map (shifted_declared (moved_at place g)) (file_declared place (names_in (read_at reads place)))
  file_here =
      ap (map (declares place)) names_move.placed
      ∙ maps_moved (move_placed g) (shifted_declared (moved_at place g)) (declares place) (declares place) (declared_here place g) (placed_in (tree_at reads place))

  file_there : (k : ℕ) → k ≢ place → file_declared k (names_in (read_at seen k)) ≡ map (shifted_declared (moved_at place g)) (file_declared k (names_in (read_at reads k)))
  file_there k n =
      ap (λ (t : Tree). file_declared k (file_names t)) (h.trees k n)
      ∙ sym (map_map (declares k) (shifted_declared (moved_at place g)) (placed_in (tree_at reads k)) ∙ map_agree (λ p. shifted_declared (moved_at place g) (declares k p)) (declares k) (placed_in (tree_at reads k)) (λ p c. declared_there place g k n p))

  each_file : (k : ℕ) → file_declared k (names_in (read_at seen k)) ≡ map (shifted_declared (moved_at place g)) (file_declared k (names_in (read_at reads k)))
  each_file k = elim (cases_eq k place) [
    | inl e ↦ subst (λ j. file_declared j (names_in (read_at seen j)) ≡ map (shifted_declared (moved_at place g)) (file_declared j (names_in (read_at reads j)))) (sym e) file_here
    | inr n ↦ file_there k n
  ]

  declared_moved : (link_skeleton after seen).declared ≡ map (shifted_declared (moved_at place g)) (link_skeleton files reads).declared
  declared_moved = all_moved (moved_at place g) 0 reads seen h.count (λ k l.
      let e : k ≡ 0 + k = omega arith in
      subst (λ j. file_declared j (names_in (read_at seen k)) ≡ map (shifted_declared (moved_at place g)) (file_declared j (names_in (read_at reads k)))) e (each_file k))

  -- ---- by their full names

  found_moved : (name : List (List ℕ)) → declared_as after seen name ≡ option_map (shifted_declared (moved_at place g)) (declared_as files reads name)
  found_moved name =
      ap (find (λ (d : Declared At). same_name (name_of (text_of after seen) entry_name d.path) name)) declared_moved
      ∙ find_moved (shifted_declared (moved_at place g)) (λ (d : Declared At). same_name (name_of (text_of files reads) entry_name d.path) name) (λ (d : Declared At). same_name (name_of (text_of after seen) entry_name d.path) name)
      (λ d. ap (λ x. same_name x name) (name_moved files reads after seen place g h d.path)) (link_skeleton files reads).declared

  -- what is read where a name stands
  pub named_stays : {X : Type 0} (was now : At → Option X) → ((a : At) → now (moved_at place g a) ≡ was a) → (name : List (List ℕ))
      → option_and_then (λ (d : Declared At). now (place_of d)) (declared_as after seen name) ≡ option_and_then (λ (d : Declared At). was (place_of d)) (declared_as files reads name)
  named_stays was now moves name = ap (option_and_then (λ (d : Declared At). now (place_of d))) (found_moved name) ∙ by (declared_as files reads name) refl
    where
      by : (o : Option (Declared At)) → declared_as files reads name ≡ o
          → option_and_then (λ (d : Declared At). now (place_of d)) (option_map (shifted_declared (moved_at place g)) o) ≡ option_and_then (λ (d : Declared At). was (place_of d)) o
      by None e = refl
      by (Some d) e =
          let there = find_there (λ (d : Declared At). same_name (name_of (text_of files reads) entry_name d.path) name) (link_skeleton files reads).declared d e in
          ap now (place_moved (moved_at place g) 0 reads d there.0) ∙ moves (place_of d)

  pub enums_stay : (name : List (List ℕ)) → enum_named after seen name ≡ enum_named files reads name
  enums_stay = named_stays (enum_at files reads) (enum_at after seen) (enum_moved files reads after seen place g h)
