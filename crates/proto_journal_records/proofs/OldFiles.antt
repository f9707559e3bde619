-- The files that are put in place of those of an entry: what a store has then, with all of them or with the first ones.
use Rattle.std.proofs.Common.{arith, ◌≡◌, ◌≢◌, ◌⊎◌, inl, inr, ℕ, zero, suc, ◌+◌, ◌<◌, false, List, [], ◌∷◌, ◌++◌, length, take, get_or, Option, Some, None, refl, sym, ap, ◌∙◌, subst, Result, Ok, Err, IsSome, OnErr, String, is_some, option_map, Global, string_bytes, take_all, Contains, bytes_eq}
use Rattle.proto_base.proofs.Common.{Vec, map_more, take-map, cases_Bool, bytes_eq-Decides, contains_cases, contains_head, contains_later, contains_map}
use Rattle.proto_files.proofs.Common.{FileOf, file_of, files_of, IsBefore, never_before_itself}
use Rattle.proto_edit_entries.proofs.Common.{AreRising, ChangeOf, contains_none, rises_from}
use Rattle.proto_store.proofs.Common.{Held, IsListed, bytes_at, with_bytes, with_file, with_journal, bytes_at-with_bytes, bytes_at-with_bytes-other, is_some-with_bytes, paths_of-with_bytes, languages_of-with_bytes}
use Rattle.proto_journal_records.specs.Common.{ArePartlyBack, ArePutBack, IsPutBack, IsUnnamed, AreListedInStore, AreOldFiles, ArePartlyIn, GoesBackTo, StaysAt, with_all, with_files}

-- ---- the changes of an entry are of distinct paths

-- no later change has the path of an earlier one
abbrev pub AreDistinct : List ChangeOf → Type 0
AreDistinct [] = Unit {0}
AreDistinct (c ∷ cs) = IsUnnamed cs c.path × AreDistinct cs

pub distinct : (cs : List ChangeOf) → AreRising cs → AreDistinct cs
distinct [] h = tt
distinct (c ∷ cs) h = (λ d k same. never_before_itself c.path (subst (λ (p : List ℕ). IsBefore c.path p) same (rises_from c cs h d k)), distinct cs h.1)

apart : (a b : List ℕ) → a ≢ b → bytes_eq a b ≡ false
apart a b ne = elim (cases_Bool (bytes_eq a b)) [
  | inl e ↦ absurd (ne ((bytes_eq-Decides a b).0 e))
  | inr e ↦ e
]

-- ---- one file is replaced

module _ (path bytes : List ℕ) (files : List FileOf) where
  other : (at : List ℕ) → at ≢ path → bytes_at at (with_bytes path bytes files) ≡ bytes_at at files
  other at ne = bytes_at-with_bytes-other path bytes at files (apart at path ne)

  still : (cs : List ChangeOf) (olds : List FileOf) → IsUnnamed cs path → AreOldFiles cs files olds → AreOldFiles cs (with_bytes path bytes files) olds
  still [] olds none h = h
  still (c ∷ cs) olds none (inl (s, rest)) = inl (
    record { text = s.text; there = other c.path (none c (contains_head c cs)) ∙ s.there; before = s.before },
    still cs olds (λ d k. none d (contains_later c d cs k)) rest,
  )
  still (c ∷ cs) olds none (inr (f, more, e, g, rest)) = inr (
    f,
    more,
    e,
    record { path = g.path; text = g.text; there = other c.path (none c (contains_head c cs)) ∙ g.there; after = g.after; puts = g.puts },
    still cs more (λ d k. none d (contains_later c d cs k)) rest,
  )

  was_back : (c : ChangeOf) (new : List FileOf) → c.path ≢ path → IsPutBack c (with_bytes path bytes files) new → IsPutBack c files new
  was_back c new ne p = record { text = p.text; back = p.back; was = sym (other c.path ne) ∙ p.was; is = p.is; restored = p.restored }

-- the file of a change gets the text before it
goes_back : (c : ChangeOf) (files new : List FileOf) (f : FileOf) → GoesBackTo c files f → bytes_at c.path new ≡ bytes_at c.path (with_bytes f.path f.bytes files) → IsPutBack c files new
goes_back c files new f g same =
    let listed : IsSome (bytes_at f.path files) = ap is_some (ap (λ (p : List ℕ). bytes_at p files) g.path ∙ g.there) in
    let here : bytes_at c.path (with_bytes f.path f.bytes files) ≡ Some f.bytes =
    ap (λ (p : List ℕ). bytes_at p (with_bytes f.path f.bytes files)) (sym g.path) ∙ bytes_at-with_bytes f.path f.bytes files listed in
    record { text = g.text; back = f.bytes; was = g.there; is = same ∙ here; restored = inr (g.after, g.puts) }

-- the file of a change stays
stays_back : (c : ChangeOf) (files new : List FileOf) → StaysAt c files → bytes_at c.path new ≡ bytes_at c.path files → IsPutBack c files new
stays_back c files new s same = record { text = s.text; back = s.text; was = s.there; is = same ∙ s.there; restored = inl (s.before, refl) }

-- ---- all of them, and the first ones

nothing_put : (files : List FileOf) → ArePutBack [] files files
nothing_put files = record { paths = refl; languages = refl; each = λ c k. absurd (contains_none c k); others = λ path none. refl }

nothing_yet : (cs : List ChangeOf) (files : List FileOf) → ArePartlyBack cs files files
nothing_yet cs files = record { paths = refl; languages = refl; each = λ c k. inl refl; others = λ path none. refl }

pub all_back : (cs : List ChangeOf) (files olds : List FileOf) → AreDistinct cs → AreOldFiles cs files olds → ArePutBack cs files (with_all olds files)
all_back [] files olds d e = subst (λ (z : List FileOf). ArePutBack [] files (with_all z files)) (sym e) (nothing_put files)
all_back (c ∷ cs) files olds d (inl (s, rest)) =
    let new : List FileOf = with_all olds files in
    let r : ArePutBack cs files new = all_back cs files olds d.1 rest in
    record {
      paths = r.paths;
      languages = r.languages;
      each = λ x k. elim (contains_cases c x cs k) [
        | inl same ↦ subst (λ (z : ChangeOf). IsPutBack z files new) same (stays_back c files new s (r.others c.path d.0))
        | inr later ↦ r.each x later
      ];
      others = λ path none. r.others path (λ x k. none x (contains_later c x cs k));
    }
all_back (c ∷ cs) files olds d (inr (f, more, e, g, rest)) =
    let mid : List FileOf = with_bytes f.path f.bytes files in
    let new : List FileOf = with_all more mid in
    let unnamed : IsUnnamed cs f.path = λ x k same. d.0 x k (same ∙ g.path) in
    let r : ArePutBack cs mid new = all_back cs mid more d.1 (still f.path f.bytes files cs more unnamed rest) in
    subst (λ (z : List FileOf). ArePutBack (c ∷ cs) files (with_all z files)) (sym e) (record {
      paths = r.paths ∙ paths_of-with_bytes f.path f.bytes files;
      languages = r.languages ∙ languages_of-with_bytes f.path f.bytes files;
      each = λ x k. elim (contains_cases c x cs k) [
        | inl same ↦ subst (λ (z : ChangeOf). IsPutBack z files new) same (goes_back c files new f g (r.others c.path d.0))
        | inr later ↦ was_back f.path f.bytes files x new (unnamed x later) (r.each x later)
      ];
      others = λ path none. r.others path (λ x k. none x (contains_later c x cs k))
          ∙ other f.path f.bytes files path (λ same. none c (contains_head c cs) (sym g.path ∙ sym same));
    })

pub some_back : (n : ℕ) (cs : List ChangeOf) (files olds : List FileOf) → AreDistinct cs → AreOldFiles cs files olds → ArePartlyBack cs files (with_all (take n olds) files)
some_back zero cs files olds d h = nothing_yet cs files
some_back (suc n) [] files olds d e = subst (λ (z : List FileOf). ArePartlyBack [] files (with_all (take (suc n) z) files)) (sym e) (nothing_yet [] files)
some_back (suc n) (c ∷ cs) files olds d (inl (s, rest)) =
    let new : List FileOf = with_all (take (suc n) olds) files in
    let r : ArePartlyBack cs files new = some_back (suc n) cs files olds d.1 rest in
    record {
      paths = r.paths;
      languages = r.languages;
      each = λ x k. elim (contains_cases c x cs k) [
        | inl same ↦ subst (λ (z : ChangeOf). (bytes_at z.path new ≡ bytes_at z.path files) ⊎ IsPutBack z files new) same (inl (r.others c.path d.0))
        | inr later ↦ r.each x later
      ];
      others = λ path none. r.others path (λ x k. none x (contains_later c x cs k));
    }
some_back (suc n) (c ∷ cs) files olds d (inr (f, more, e, g, rest)) =
    let mid : List FileOf = with_bytes f.path f.bytes files in
    let new : List FileOf = with_all (take n more) mid in
    let unnamed : IsUnnamed cs f.path = λ x k same. d.0 x k (same ∙ g.path) in
    let r : ArePartlyBack cs mid new = some_back n cs mid more d.1 (still f.path f.bytes files cs more unnamed rest) in
    subst (λ (z : List FileOf). ArePartlyBack (c ∷ cs) files (with_all (take (suc n) z) files)) (sym e) (record {
      paths = r.paths ∙ paths_of-with_bytes f.path f.bytes files;
      languages = r.languages ∙ languages_of-with_bytes f.path f.bytes files;
      each = λ x k. elim (contains_cases c x cs k) [
        | inl same ↦ subst (λ (z : ChangeOf). (bytes_at z.path new ≡ bytes_at z.path files) ⊎ IsPutBack z files new) same (inr (goes_back c files new f g (r.others c.path d.0)))
        | inr later ↦ elim (r.each x later) [
          | inl same ↦ inl (same ∙ other f.path f.bytes files x.path (unnamed x later))
          | inr back ↦ inr (was_back f.path f.bytes files x new (unnamed x later) back)
        ]
      ];
      others = λ path none. r.others path (λ x k. none x (contains_later c x cs k))
          ∙ other f.path f.bytes files path (λ same. none c (contains_head c cs) (sym g.path ∙ sym same));
    })

-- ---- one change more

pub stays_more : (cs : List ChangeOf) (files olds : List FileOf) (c : ChangeOf) → AreOldFiles cs files olds → StaysAt c files → AreOldFiles (cs ++ c ∷ []) files olds
stays_more [] files olds c e s = inl (s, e)
stays_more (d ∷ cs) files olds c (inl (x, rest)) s = inl (x, stays_more cs files olds c rest s)
stays_more (d ∷ cs) files olds c (inr (f, more, e, g, rest)) s = inr (f, more, e, g, stays_more cs files more c rest s)

pub goes_more : (cs : List ChangeOf) (files olds : List FileOf) (c : ChangeOf) (f : FileOf) → AreOldFiles cs files olds → GoesBackTo c files f → AreOldFiles (cs ++ c ∷ []) files (olds ++ f ∷ [])
goes_more [] files olds c f e g = inr (f, [], ap (λ (l : List FileOf). l ++ f ∷ []) e, g, refl)
goes_more (d ∷ cs) files olds c f (inl (x, rest)) g = inl (x, goes_more cs files olds c f rest g)
goes_more (d ∷ cs) files olds c f (inr (h, more, e, x, rest)) g = inr (h, more ++ f ∷ [], ap (λ (l : List FileOf). l ++ f ∷ []) e, x, goes_more cs files more c f rest g)

-- each of them is listed
pub olds_listed : (cs : List ChangeOf) (files olds : List FileOf) → AreOldFiles cs files olds → (f : FileOf) → Contains olds f → IsSome (bytes_at f.path files)
olds_listed [] files olds e f k = absurd (contains_none f (subst (λ (l : List FileOf). Contains l f) e k))
olds_listed (c ∷ cs) files olds (inl (x, rest)) f k = olds_listed cs files olds rest f k
olds_listed (c ∷ cs) files olds (inr (h, more, e, g, rest)) f k = elim (contains_cases h f more (subst (λ (l : List FileOf). Contains l f) e k)) [
  | inl same ↦ ap is_some (ap (λ (z : FileOf). bytes_at z.path files) (sym same) ∙ ap (λ (p : List ℕ). bytes_at p files) g.path ∙ g.there)
  | inr later ↦ olds_listed cs files more rest f later
]

-- ---- a store

pub with_all_more : (fs files : List FileOf) (f : FileOf) → with_all (fs ++ f ∷ []) files ≡ with_bytes f.path f.bytes (with_all fs files)
with_all_more [] files f = refl
with_all_more (g ∷ fs) files f = with_all_more fs (with_bytes g.path g.bytes files) f

pub one_more_in : (old mid new : Option Held) (fs : List FileOf) (f : FileOf) → mid ≡ option_map (with_files fs) old → new ≡ option_map (with_file f.path f.bytes) mid
    → new ≡ option_map (with_files (fs ++ f ∷ [])) old
one_more_in None mid new fs f m n = n ∙ ap (option_map (with_file f.path f.bytes)) m
one_more_in (Some h) mid new fs f m n =
    let step : with_bytes f.path f.bytes (with_all fs h.files) ≡ with_all (fs ++ f ∷ []) h.files = sym (with_all_more fs h.files f) in
    n ∙ ap (option_map (with_file f.path f.bytes)) m ∙ ap (λ (l : List FileOf). let x : Held = record { files = l; journal = h.journal } in Some x) step

listed_all : (fs files : List FileOf) (path : List ℕ) → is_some (bytes_at path (with_all fs files)) ≡ is_some (bytes_at path files)
listed_all [] files path = refl
listed_all (f ∷ fs) files path = listed_all fs (with_bytes f.path f.bytes files) path ∙ is_some-with_bytes f.path f.bytes path files

pub still_listed : (old mid : Option Held) (fs : List FileOf) (path : List ℕ) → mid ≡ option_map (with_files fs) old → IsListed old path → IsListed mid path
still_listed None mid fs path m l = subst (λ (h : Option Held). IsListed h path) (sym m) tt
still_listed (Some h) mid fs path m l = subst (λ (z : Option Held). IsListed z path) (sym m) (listed_all fs h.files path ∙ l)

pub none_in : (held : Option Held) → held ≡ option_map (with_files []) held
none_in None = refl
none_in (Some h) = refl

-- ---- the loop over them

module _ (files : List (String Global × Vec ℕ)) (old : Option Held) where
  pub partly_in : (n : ℕ) (new : Option Held) → new ≡ option_map (with_files (files_of (take n files))) old → ArePartlyIn (files_of files) old new
  partly_in n new e = (n, e ∙ ap (λ (fs : List FileOf). option_map (with_files fs) old) (sym (take-map file_of n files)))

  -- a file more is in its place
  pub next_in : (i : ℕ) (file : String Global × Vec ℕ) (path bytes : List ℕ) (mid new : Option Held) → i < length files → file ≡ get_or files i file
      → path ≡ string_bytes file.0 → bytes ≡ file.1.items → mid ≡ option_map (with_files (files_of (take i files))) old → new ≡ option_map (with_file path bytes) mid
      → new ≡ option_map (with_files (files_of (take (i + 1) files))) old
  next_in i file path bytes mid new lt here p b m n =
      let told : new ≡ option_map (with_file (string_bytes file.0) file.1.items) mid =
      n ∙ ap (λ (z : List ℕ). option_map (with_file z bytes) mid) p ∙ ap (λ (z : List ℕ). option_map (with_file (string_bytes file.0) z) mid) b in
      let more : files_of (take (i + 1) files) ≡ files_of (take i files) ++ file_of file ∷ [] =
      map_more file_of files i file lt ∙ ap (λ (z : String Global × Vec ℕ). files_of (take i files) ++ file_of z ∷ []) (sym here) in
      one_more_in old mid new (files_of (take i files)) (file_of file) m told ∙ ap (λ (fs : List FileOf). option_map (with_files fs) old) (sym more)

  -- the file at a place is listed still
  pub next_listed : (i : ℕ) (file : String Global × Vec ℕ) (path : List ℕ) (mid : Option Held) → i < length files → file ≡ get_or files i file → path ≡ string_bytes file.0
      → mid ≡ option_map (with_files (files_of (take i files))) old → AreListedInStore old (files_of files) → IsListed mid path
  next_listed i file path mid lt here p m all =
      let there : IsListed old (string_bytes file.0) = all (file_of file) (contains_map file_of files file (i, lt, sym here)) in
      subst (λ (z : List ℕ). IsListed mid z) (sym p) (still_listed old mid (files_of (take i files)) (string_bytes file.0) m there)

  -- a write failed
  pub cut_in : (i : ℕ) (file : String Global × Vec ℕ) (path bytes : List ℕ) (mid new : Option Held) → i < length files → file ≡ get_or files i file
      → path ≡ string_bytes file.0 → bytes ≡ file.1.items → mid ≡ option_map (with_files (files_of (take i files))) old
      → (new ≡ mid) ⊎ (new ≡ option_map (with_file path bytes) mid) → ArePartlyIn (files_of files) old new
  cut_in i file path bytes mid new lt here p b m (inl same) = partly_in i new (same ∙ m)
  cut_in i file path bytes mid new lt here p b m (inr n) = partly_in (i + 1) new (next_in i file path bytes mid new lt here p b m n)

-- all files are in their places, and the write of the journal failed
pub cut_at_journal : (fs : List FileOf) (journal : List ℕ) (old mid new : Option Held) → mid ≡ option_map (with_files fs) old → (new ≡ mid) ⊎ (new ≡ option_map (with_journal journal) mid)
    → ArePartlyIn fs old new ⊎ (new ≡ option_map (with_journal journal) (option_map (with_files fs) old))
cut_at_journal fs journal old mid new m (inl same) =
    inl (length fs, same ∙ m ∙ ap (λ (l : List FileOf). option_map (with_files l) old) (sym (take_all (length fs) fs (omega arith))))
cut_at_journal fs journal old mid new m (inr n) = inr (n ∙ ap (option_map (with_journal journal)) m)

pub err_of : {T E : Type 0} (r : Result T E) (P : Type 0) → P → OnErr r P
err_of (Ok x) P p = tt
err_of (Err e) P p = p
