-- Of files something is made, file by file, and put in place of what was there.
use Rattle.std.proofs.Common.{◌≡◌, ℕ, zero, suc, ◌<◌, List, [], ◌∷◌, ◌++◌, length, Some, slice_get, slice_set, refl, sym, ◌∙◌, ap, ap₂, subst, inl, inr, arith, length-set, Contains}
use Rattle.std.proofs.lemmas.Bool.{cases_eq}
use Rattle.std.proofs.lemmas.List.{get_or-set_same, map-append}
use Rattle.std.proofs.lemmas.List.Elements.{All-push, Contains-append_left, Contains-append_right, Contains-append_cases}
use Rattle.proto_base.proofs.Common.{contains_cases, contains_head, slice_get-get_or}
use Rattle.proto_files.proofs.Common.{FileOf}
use Rattle.proto_desc.specs.Renewing.{AreMade, ArePut, HasOwn, IsMade, IsPut, files_made}
use Rattle.proto_desc.specs.declared.descriptors.Descriptors.{Descriptors}
use Rattle.proto_desc.specs.declared.renewing.Made.{Made}

-- ---- made, file by file

one_more : (done : List Made) (m : Made) → files_made (done ++ m ∷ []) ≡ files_made done ++ m.file ∷ []
one_more done m = map-append (λ (m : Made). m.file) done (m ∷ [])

pub one_more_made : (files : List FileOf) (listed : List ℕ) (done : List Made) (file : ℕ) (m : Made) → m.file ≡ file → IsMade files m → AreMade files listed done → AreMade files (listed ++ file ∷ []) (done ++ m ∷ [])
one_more_made files listed done file m of_file is made = record {
  numbers = one_more done m ∙ ap₂ (λ (ns : List ℕ) (n : ℕ). ns ++ n ∷ []) made.numbers of_file;
  each = All-push (IsMade files) done m made.each is;
}

-- ---- one file

there_set : {A : Type 0} (xs : List A) (i : ℕ) (x : A) → i < length xs → slice_get (slice_set xs i x) i ≡ Some x
there_set xs i x l = slice_get-get_or (slice_set xs i x) i x (omega (arith, l, length-set xs i x)) ∙ ap (λ y. Some y) (get_or-set_same xs i x x l)

others_set : {A : Type 0} (xs : List A) (i : ℕ) (x : A) (k : ℕ) → (k ≡ i → ⊥) → slice_get (slice_set xs i x) k ≡ slice_get xs k
others_set [] i x k other = refl
others_set (y ∷ ys) zero x zero other = absurd (other refl)
others_set (y ∷ ys) zero x (suc k) other = refl
others_set (y ∷ ys) (suc i) x zero other = refl
others_set (y ∷ ys) (suc i) x (suc k) other = others_set ys i x k (λ e. other (omega (arith, e)))

pub is_put : (m : Made) (old new : Descriptors) → m.file < length old.file.items → m.file < length old.kept.items → new.file.items ≡ slice_set old.file.items m.file m.descriptor → new.kept.items ≡ slice_set old.kept.items m.file m.kept → IsPut m old new
is_put m old new l k descriptors kept = record {
  as_many = record {
    descriptors = ap length descriptors ∙ length-set old.file.items m.file m.descriptor;
    kept = ap length kept ∙ length-set old.kept.items m.file m.kept;
  };
  there = record {
    descriptor = ap (λ xs. slice_get xs m.file) descriptors ∙ there_set old.file.items m.file m.descriptor l;
    kept = ap (λ xs. slice_get xs m.file) kept ∙ there_set old.kept.items m.file m.kept k;
  };
  others = λ i other. record {
    descriptor = ap (λ xs. slice_get xs i) descriptors ∙ others_set old.file.items m.file m.descriptor i other;
    kept = ap (λ xs. slice_get xs i) kept ∙ others_set old.kept.items m.file m.kept i other;
  };
}

-- ---- file by file

pub none_put : (d : Descriptors) → ArePut [] d d
none_put d = record {
  as_many = record { descriptors = refl; kept = refl };
  there = λ file c. absurd (omega (arith, c.1));
  others = λ file none. record { descriptor = refl; kept = refl };
}

module _ (done : List Made) (m : Made) (old now next : Descriptors) (so_far : ArePut done old now) (one : IsPut m now next) where
  before : (file : ℕ) → (file ≡ m.file → ⊥) → Contains (files_made (done ++ m ∷ [])) file → Contains (files_made done) file
  before file other c = elim (Contains-append_cases (files_made done) (m.file ∷ []) file (subst (λ ns. Contains ns file) (one_more done m) c)) [
    | inl there ↦ there
    | inr last ↦ elim (contains_cases m.file file [] last) [
      | inl same ↦ absurd (other (sym same))
      | inr none ↦ absurd (omega (arith, none.1))
    ]
  ]

  stays : (file : ℕ) → (file ≡ m.file → ⊥) → HasOwn done file now → HasOwn (done ++ m ∷ []) file next
  stays file other own =
      let left = one.others own.0.file (λ same. other (sym own.2 ∙ same)) in (
        own.0,
        Contains-append_left done (m ∷ []) own.0 own.1,
        own.2,
        record { descriptor = left.descriptor ∙ own.3.descriptor; kept = left.kept ∙ own.3.kept },
      )

  more : (file : ℕ) → Contains (files_made done ++ m.file ∷ []) file → Contains (files_made (done ++ m ∷ [])) file
  more file c = subst (λ ns. Contains ns file) (sym (one_more done m)) c

  pub one_more_put : ArePut (done ++ m ∷ []) old next
  one_more_put = record {
    as_many = record {
      descriptors = one.as_many.descriptors ∙ so_far.as_many.descriptors;
      kept = one.as_many.kept ∙ so_far.as_many.kept;
    };
    there = λ file c. elim (cases_eq file m.file) [
      | inl same ↦ (m, Contains-append_right done (m ∷ []) m (contains_head m []), sym same, one.there)
      | inr other ↦ stays file other (so_far.there file (before file other c))
    ];
    others = λ file none. (
        let was = so_far.others file (λ c. none (more file (Contains-append_left (files_made done) (m.file ∷ []) file c))) in
        let is = one.others file (λ same. none (more file (Contains-append_right (files_made done) (m.file ∷ []) file (subst (λ n. Contains (m.file ∷ []) n) (sym same) (contains_head m.file []))))) in
        record { descriptor = is.descriptor ∙ was.descriptor; kept = is.kept ∙ was.kept });
  }
