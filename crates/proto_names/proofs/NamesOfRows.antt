-- The names of what a file declares are those of its rows.
use Rattle.std.proofs.Common.{◌≡◌, ℕ, suc, ◌+◌, ◌<◌, List, [], ◌∷◌, length, get_or, map, Some, refl, sym, ◌∙◌, ap, subst, arith, All}
use Rattle.proto_base.proofs.Common.{Vec, get_or-map, get_or_default}
use Rattle.proto_files.proofs.Common.{FileOf, ReadOf}
use Rattle.proto_names_rules.proofs.Common.{front, joined}
use Rattle.proto_names_table.proofs.Common.{names_of, pick}
use Rattle.proto_names_table.specs.declared.table.Table.{Table}
use Rattle.proto_names.specs.Common.{AreNamesOf, IsDeclaredBy, LinkOf, declared_names, name_of_row}
use Rattle.proto_names.specs.Linking.{name_text}
use Rattle.proto_names.proofs.NamesThere.{text_from}

-- two lists that are seen alike, place by place
same_maps : {A B C : Type 0} (f : A → C) (g : B → C) (xs : List A) (ys : List B) → length xs ≡ length ys → ((k : ℕ) (a : A) (b : B) → k < length xs → f (get_or xs k a) ≡ g (get_or ys k b)) → map f xs ≡ map g ys
same_maps f g [] [] e h = refl
same_maps f g [] (y ∷ ys) e h = absurd (omega (arith, e))
same_maps f g (x ∷ xs) [] e h = absurd (omega (arith, e))
same_maps f g (x ∷ xs) (y ∷ ys) e h =
    let here = h 0 x y (omega arith) in
    let rest = same_maps f g xs ys (omega (arith, e)) (λ k a b l. h (suc k) a b (omega (arith, l))) in
    λ i. here i ∷ rest i

module _ (files : List FileOf) (reads : List ReadOf) (t : Table) (l : LinkOf) (same : map name_of_row t.rows.items ≡ l.names) (rows : List (Vec ℕ)) (names : AreNamesOf files reads t rows) (paired : length rows ≡ length files)
    (within : All (λ v. All (λ r. r < length t.rows.items) v.items) rows) where
  abbrev dn : ℕ → List (List (List ℕ))
  dn file = declared_names files reads file

  abbrev own : ℕ → List ℕ
  own file = get_or (map (λ v. v.items) rows) file []

  each : (file : ℕ) → file < length files → (j a : ℕ) (b : List (List ℕ)) → j < length (own file) → name_text l (get_or (own file) j a) ≡ Some (joined (get_or (dn file) j b))
  each file lf j a b lj =
      let lr : file < length rows = omega (arith, lf, paired) in
      let v = pick rows file lr in
      let own_is : own file ≡ (get_or rows file v).items = get_or-map (λ v. v.items) rows file v [] lr in
      let there : get_or (own file) j 0 < length t.rows.items = subst (λ (xs : List ℕ). get_or xs j 0 < length t.rows.items) (sym own_is) (within file v lr j 0 (subst (λ (xs : List ℕ). j < length xs) own_is lj)) in
      let d = pick t.rows.items (get_or (own file) j 0) there in
      let next : suc (get_or (own file) j 0) ≡ get_or (own file) j 0 + 1 = omega arith in
      let count = names.counts file lf in
      ap (name_text l) (get_or_default (own file) j a 0 lj)
      ∙ text_from t l same (get_or (own file) j 0) d (joined (get_or (dn file) j [])) there (names.declared file j d lf lj) (ap (front (names_of t)) next ∙ names.named file j lf lj)
      ∙ ap (λ name. Some (joined name)) (get_or_default (dn file) j [] b (omega (arith, lj, count)))

  pub declared_by : map (λ v. v.items) rows ≡ l.rows → (file : ℕ) → file < length files → IsDeclaredBy files reads l file
  declared_by is file lf =
      subst (λ (all : List (List ℕ)). map (name_text l) (get_or all file []) ≡ map (λ name. Some (joined name)) (dn file)) is
      (same_maps (name_text l) (λ name. Some (joined name)) (own file) (dn file) (sym (names.counts file lf)) (each file lf))
