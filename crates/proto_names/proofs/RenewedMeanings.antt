-- Of files that are edited at some places, what the references of a file mean that need not be re-resolved.
use Rattle.std.proofs.Common.{◌≡◌, ℕ, suc, ◌+◌, ◌<◌, false, List, [], ◌∷◌, length, get_or, map, option_map, Some, refl, sym, ◌∙◌, ap, ap₂, subst, arith, Bool, All, Contains}
use Rattle.proto_base.proofs.Common.{All-map, Contains-get_or, both_ways, contains_head, contains_later, contains_map, from_map}
use Rattle.proto_case.specs.Camel.{entry_name}
use Rattle.proto_files.proofs.Common.{FileOf, HasNoFault, ReadOf}
use Rattle.proto_names_imports.proofs.Common.{LinkFaults, names_in, names_of_files, text_of, use_from, use_in}
use Rattle.proto_names_rules.specs.Kept.{IsFlawless}
use Rattle.proto_names_rules.specs.Marked.{IsUnmarked}
use Rattle.proto_names_rules.proofs.Common.{Import, IsLinked, Reference, Used, Workspace, all_used, joined, map_map, meaning, reference_of, sees, used_in}
use Rattle.proto_names.proofs.NamesThere.{text_to}
use Rattle.proto_names.specs.Common.{AreFileMeant, IsFaultless, IsFlawed, LinkOf, MapEntry, Meant, NameOf, ReferenceFlaw, Unresolved, WrongKind, first_key, meant_by_link, meant_by_use, name_at, name_of_row, uses_of, word_key}
use Rattle.proto_names.specs.LinkOfFiles.{IsMeantIn, TextMeant}
use Rattle.proto_names.specs.Linking.{name_text}
use Rattle.proto_names.specs.Renewed.{NumbersStay}
use Rattle.proto_names_update.proofs.Clean.{unmarked_files_mean_the_same}
use Rattle.proto_names_update.proofs.Differing.{same_reading, same_reference, same_text}
use Rattle.proto_names_update.specs.Edited.{AreEdited}
use Rattle.proto_names_update.specs.Relinked.{HasToLook}
use Rattle.proto_names_table.proofs.Common.{names_of, used_named}
use Rattle.proto_names_table.specs.declared.table.Table.{Table}

-- ---- what is seen, by imports and the number of files

pub same_sight : (w v : Workspace) → w.files ≡ v.files → w.imports ≡ v.imports → (f g : ℕ) → sees v f g ≡ sees w f g
same_sight w v n e f g = ap₂ (λ (k : ℕ) (is : List Import). let x : Workspace = record { files = k; symbols = []; imports = is; references = [] } in sees x f g) (sym n) (sym e)

-- ---- references without a flaw

pub flawless_from : (w : Workspace) (r : Reference) → IsFaultless w r → IsFlawless w r
flawless_from w r h = record {
  resolved = λ none. h Unresolved none;
  no_entry = λ s c m e. h MapEntry (s, c, m, e);
  right_kind = λ s c m wants e. h WrongKind (s, c, m, wants, e);
}

pub faultless_from : (w : Workspace) → IsLinked w → (r : Reference) → Contains w.references r → IsFaultless w r
faultless_from w ok r c = go
  where
    go : (flaw : ReferenceFlaw) → IsFlawed w r flaw → ⊥
    go Unresolved h = ok.resolved r c h
    go WrongKind h = ok.right_kind r c h.0 h.1 h.2 h.3 h.4
    go MapEntry h = ok.no_entry r c h.0 h.1 h.2 h.3

-- ---- the references of a file

-- each is one of all files'
pub reference_there : (files : List FileOf) (reads : List ReadOf) (k : ℕ) (u : Used ℕ) → k < length reads → Contains (uses_of reads k) u → Contains (names_of_files files reads).references (used_named (text_of files reads) k u)
reference_there files reads k u l c =
    let here : 0 + k ≡ k = omega arith in
    contains_map (reference_of (text_of files reads) entry_name) (all_used 0 (map names_in reads)) (used_in k u)
    (subst (λ (m : ℕ). Contains (all_used 0 (map names_in reads)) (used_in m u)) here (use_in 0 k reads u l c))

-- which file a reference is of, and what it is there
pub record IsReferenceIn (files : List FileOf) (reads : List ReadOf) (r : Reference) : Type 0 where
  pub use_of : Used ℕ
  pub there : r.file < length reads
  pub within : Contains (uses_of reads r.file) use_of
  pub is : used_named (text_of files reads) r.file use_of ≡ r

pub reference_from : (files : List FileOf) (reads : List ReadOf) (r : Reference) → Contains (names_of_files files reads).references r → IsReferenceIn files reads r
reference_from files reads r c =
    let u = from_map (reference_of (text_of files reads) entry_name) (all_used 0 (map names_in reads)) r c in
    let x = use_from 0 reads u.0 u.1 in
    let named : used_named (text_of files reads) (0 + x.0) x.2.0 ≡ r = ap (reference_of (text_of files reads) entry_name) x.2.2 ∙ u.2 in
    let file : 0 + x.0 ≡ r.file = ap (λ (z : Reference). z.file) named in
    let here : x.0 ≡ r.file = omega (arith, file) in
    record {
      use_of = x.2.0;
      there = omega (arith, here, x.1);
      within = subst (λ (m : ℕ). Contains (uses_of reads m) x.2.0) here x.2.1;
      is = ap (λ (m : ℕ). used_named (text_of files reads) m x.2.0) (sym file) ∙ named;
    }

-- ---- of a file that is not marked

module _ (places : List ℕ) (before : List FileOf) (was : List ReadOf) (files : List FileOf) (reads : List ReadOf) (marks : List Bool) (is : AreEdited places before was files reads)
    (look : HasToLook word_key places before was files reads marks) (k : ℕ) (within : k < length files) (left : IsUnmarked marks k) where
  abbrev w : Workspace
  w = names_of_files before was

  abbrev v : Workspace
  v = names_of_files files reads

  abbrev named : Used ℕ → Reference
  named = used_named (text_of before was) k

  abbrev named_now : Used ℕ → Reference
  named_now = used_named (text_of files reads) k

  not_edited : Contains places k → ⊥
  not_edited there = both_ways (get_or marks k false) left (look.edited k there)

  same_uses : uses_of was k ≡ uses_of reads k
  same_uses = ap (λ (r : ReadOf). (names_in r).used) (same_reading places before was files reads is k within not_edited)

  same_named : (u : Used ℕ) → named_now u ≡ named u
  same_named u = same_reference (text_of before was) (text_of files reads) k (same_text places before was files reads is k within not_edited) u

  all_named : (us : List (Used ℕ)) → map named_now us ≡ map named us
  all_named [] = refl
  all_named (u ∷ us) = ap₂ (λ (r : Reference) (rs : List Reference). r ∷ rs) (same_named u) (all_named us)

  there : (u : Used ℕ) → Contains (uses_of reads k) u → Contains v.references (named_now u)
  there u c = reference_there files reads k u (omega (arith, within, is.are_read.same)) c

  module _ (clean : HasNoFault (LinkFaults before)) (l : LinkOf) (old t : Table) (names : map name_of_row old.rows.items ≡ l.names) (numbers : NumbersStay old t) where
    same_meaning : (u : Used ℕ) → Contains (uses_of reads k) u → meaning v (named_now u) ≡ meaning w (named u)
    same_meaning u c = unmarked_files_mean_the_same word_key places before was files reads marks is clean look (named_now u) (there u c) left ∙ ap (meaning w) (same_named u)

    names_stay : (us : List (Used ℕ)) (ms : List Meant) → ((u : Used ℕ) → Contains us u → meaning v (named_now u) ≡ meaning w (named u)) → All (λ m. (n : NameOf) × (name_at l m.row ≡ Some n)) ms → map (meant_by_link l) ms ≡ map (meant_by_use before was k) us
        → map (λ m. Some (get_or (names_of t) m.row [])) ms ≡ map (λ r. option_map joined (meaning v r)) (map named_now us)
    names_stay [] [] same rows texts = refl
    names_stay [] (m ∷ ms) same rows texts = absurd (cc)
    names_stay (u ∷ us) [] same rows texts = absurd (cc)
    names_stay (u ∷ us) (m ∷ ms) same rows texts =
        let here : meant_by_link l m ≡ meant_by_use before was k u = cc in
        let rest : map (meant_by_link l) ms ≡ map (meant_by_use before was k) us = cc in
        let n = rows 0 m (omega arith) in
        let row = text_to old l names m.row n.0 n.1 in
        let text : name_text l m.row ≡ option_map joined (meaning w (named u)) = ap (λ (x : TextMeant). x.text) here in
        let name : Some (get_or (names_of t) m.row []) ≡ option_map joined (meaning v (named_now u)) =
        ap Some (numbers.names m.row row.0 ∙ row.1) ∙ sym (ap (option_map (λ (x : NameOf). x.text)) n.1) ∙ text ∙ ap (option_map joined) (sym (same u (contains_head u us))) in
        let others = names_stay us ms (λ x c. same x (contains_later u x us c)) (λ j d b. rows (suc j) d (omega (arith, b))) rest in
        λ i. name i ∷ others i

    tokens_are : (us : List (Used ℕ)) (ms : List Meant) → map (meant_by_link l) ms ≡ map (meant_by_use before was k) us → map (λ m. m.token) ms ≡ map (λ u. u.first) us
    tokens_are us ms texts = sym (map_map (meant_by_link l) (λ (x : TextMeant). x.token) ms) ∙ ap (map (λ (x : TextMeant). x.token)) texts ∙ map_map (meant_by_use before was k) (λ (x : TextMeant). x.token) us

    -- Where all files are linked, what its references meant is what they mean by the new table.
    pub file_means_the_same : IsLinked v → IsMeantIn before was l k → AreFileMeant t files reads k (get_or l.meant k [])
    file_means_the_same linked meant =
        let ms = get_or l.meant k [] in
        let us = uses_of reads k in
        let texts : map (meant_by_link l) ms ≡ map (meant_by_use before was k) us = meant.texts ∙ ap (map (meant_by_use before was k)) same_uses in
        record {
          places = tokens_are us ms texts;
          firsts = meant.firsts ∙ ap (map (λ u. first_key (named u))) same_uses ∙ sym (map_map named first_key us) ∙ ap (map first_key) (sym (all_named us));
          within = λ j d b. (let n = meant.within j d b in omega (arith, (text_to old l names (get_or ms j d).row n.0 n.1).0, numbers.size));
          names = names_stay us ms same_meaning meant.within texts;
          faultless = All-map (IsFaultless v) named_now us (λ j d b. faultless_from v linked (named_now (get_or us j d)) (there (get_or us j d) (Contains-get_or us j d b)));
        }
