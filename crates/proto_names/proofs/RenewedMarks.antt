-- The marks of what changed are those of the files that have to be re-resolved.
use Rattle.std.proofs.Common.{◌≡◌, ℕ, ◌<◌, Bool, true, false, List, [], ◌∷◌, ◌++◌, length, get_or, map, option_map, Option, Some, sym, ◌∙◌, ap, subst, inl, inr, arith, All, Contains}
use Rattle.proto_base.proofs.Common.{All-contains, Vec, any_to, both_ways, contains_filter, contains_map, false_from_ne_true, from_map, same_Some, same_from_word, slice_get-get_or}
use Rattle.proto_case.specs.Camel.{entry_name}
use Rattle.proto_files.proofs.Common.{FileOf, ReadOf}
use Rattle.proto_names_imports.proofs.Common.{link_skeleton, names_are_plain, names_in, names_of_files, text_of, use_from}
use Rattle.proto_names_rules.proofs.Symbols.{wanted_no_package}
use Rattle.proto_names_rules.specs.Kept.{Declares, may_fit}
use Rattle.proto_names_rules.specs.declared.kind.Kind.TheVariants.{Package}
use Rattle.proto_names_rules.specs.Marked.{IsScopeOf, IsUnmarked}
use Rattle.proto_names_affected.specs.KindRows.{is_below_type}
use Rattle.proto_names_affected.specs.Sight.{IsOwnOrApart, is_seen_at, is_seen_row}
use Rattle.proto_names_rules.proofs.Common.{ArePlain, At, Reference, Symbol, Used, Workspace, all_used, joined, joined_apart, may_resolve_to, meaning, one_symbol, reference_of, sees}
use Rattle.proto_names.proofs.BelowTypes.{declares_alone}
use Rattle.proto_names.proofs.DeclaredRows.{row_of_symbol, symbol_by_row, symbol_listed, symbol_of_row}
use Rattle.proto_names.proofs.LinkParts.{one_row}
use Rattle.proto_names.proofs.LinkTable.{rows_bounded, rows_listed, table_names}
use Rattle.proto_names.proofs.ReferencesStand.{file_is_meant}
use Rattle.proto_names.proofs.RenewedMeanings.{reference_from}
use Rattle.proto_names.proofs.RenewedSight.{is_newly_seen, is_place, sees_itself, sight_stays}
use Rattle.proto_names.specs.Common.{AreNamesOf, LinkOf, Meant, RefId, first_key, has_text, reference_id, uses_of, word_key}
use Rattle.proto_names.specs.Renewed.{AreBeginnersMarked, AreChangesMarked, AreNamesRenewed, AreUsersMarked, AreSightsMarked, DeclaresKind, EndsIn, IsTableOf}
use Rattle.proto_names.specs.Sight.{IsSightOf}
use Rattle.proto_names_update.proofs.Clean.{names_apart}
use Rattle.proto_names_update.proofs.Differing.{as_many, edited_files_differ}
use Rattle.proto_names_update.specs.Relinked.{HasToLook}
use Rattle.proto_names_table.proofs.Common.{files_of, is_seen, names_of, pick, used_named}
use Rattle.proto_names_table.specs.declared.table.Row.{Row}
use Rattle.proto_names_table.specs.declared.table.Table.{Table}

module _ (places : List ℕ) (marks : List Bool) (before : List FileOf) (was : List ReadOf) (l : LinkOf) (old : Table) (rows : List (Vec ℕ)) (files : List FileOf) (reads : List ReadOf) (t : Table) (now : List (Vec ℕ))
    (of : IsTableOf before was l old rows) (renewed : AreNamesRenewed places before was old files reads t now) (marked : AreChangesMarked places marks old rows l t now)
    (seen : List (List Bool)) (sight : IsSightOf files reads seen) (same_marks : AreSightsMarked marks t now l.meant l.seen seen) where
  abbrev w : Workspace
  w = names_of_files before was

  abbrev v : Workspace
  v = names_of_files files reads

  many : length before ≡ length files
  many = as_many places before was files reads renewed.edited

  -- the rows before
  names : AreNamesOf before was old rows
  names = table_names before was renewed.edited.were_read l old rows of

  listed : length rows ≡ length before
  listed = rows_listed before was renewed.edited.were_read l old rows of

  within : All (λ v. All (λ r. r < length old.rows.items) v.items) rows
  within = rows_bounded before was renewed.edited.were_read l old rows of

  -- ---- a name that went

  module _ (r : Reference) (s : Symbol) (c : Contains w.references r) (h : meaning w r ≡ Some s.name) (cs : Contains w.symbols s) where
    -- the reference is in the list of those to the symbol's row
    is_user : (row : ℕ) → row < length old.rows.items → get_or (names_of old) row [] ≡ joined s.name → AreUsersMarked marks (get_or l.references row []) → get_or marks r.file false ≡ true
    is_user row lr e users =
        let k = link_skeleton before was in
        let x = of.link.by.names.there s cs in
        let n = x.1 in
        let here : row ≡ x.0 = one_row old of.table l of.names x.0 row n x.2 lr (e ∙ sym x.3) in
        let list = of.link.by.references x.0 n x.2 in
        let u = from_map (reference_of (text_of before was) entry_name) (all_used 0 (map names_in was)) r c in
        let y = use_from 0 was u.0 u.1 in
        let means : has_text n.text (meaning w (reference_of (text_of before was) entry_name u.0)) ≡ true =
        ap (λ (z : Reference). has_text n.text (meaning w z)) u.2 ∙ ap (has_text n.text) h ∙ same_from_word (joined s.name) n.text (sym x.3) in
        let there : Contains (get_or l.references row []) (reference_id u.0) =
        subst (λ (m : ℕ). Contains (get_or l.references m []) (reference_id u.0)) (sym here)
        (subst (λ (rs : List RefId). Contains rs (reference_id u.0)) (sym list)
        (contains_map reference_id _ u.0 (contains_filter (λ (z : Used At). has_text n.text (meaning w (reference_of (text_of before was) entry_name z))) k.used u.0 u.1 means))) in
        let file : u.0.first.file ≡ r.file = ap (λ (z : Used At). z.first.file) (sym y.2.2) ∙ ap (λ (z : Used At). z.file) y.2.2 ∙ ap (λ (z : Reference). z.file) u.2 in
        subst (λ (m : ℕ). get_or marks m false ≡ true) file (All-contains (λ (z : RefId). get_or marks z.file false ≡ true) (get_or l.references row []) (reference_id u.0) users there)

    still_declared : IsUnmarked marks r.file → Contains places s.file → Contains v.symbols s
    still_declared left there =
        let x = row_of_symbol before was renewed.edited.were_read old of.table rows names listed within s cs in
        let f = symbol_listed before was renewed.edited.were_read s cs in
        let own : DeclaresKind old rows s.file x.0 s.kind = record { listed = x.1.listed; kind_is = x.1.kind_is } in
        elim (marked.gone s.file x.0 s.kind there own) [
          | inl stays ↦
              symbol_by_row files reads renewed.edited.are_read t renewed.table now renewed.names renewed.listed renewed.within s (names_are_plain before was renewed.edited.were_read s cs) (omega (arith, f.1, many)) x.0 stays.listed
              (λ b. renewed.numbers.names x.0 x.1.within ∙ x.1.name) stays.kind_is
          | inr users ↦ absurd (both_ways (get_or marks r.file false) left (is_user x.0 x.1.within x.1.name users))
        ]

  -- ---- a name that came

  -- a reference of a file is among what the link has of it, with the key of its first word
  begin_of : (r : Reference) → Contains w.references r → (m : Meant) × Contains (get_or l.meant r.file []) m × (m.first ≡ first_key r)
  begin_of r c =
      let x = reference_from before was r c in
      let means = of.link.means r.file (omega (arith, x.there, renewed.edited.were_read.same)) in
      let keys = contains_map (λ u. first_key (used_named (text_of before was) r.file u)) (uses_of was r.file) x.use_of x.within in
      let m = from_map (λ (m : Meant). m.first) (get_or l.meant r.file []) (first_key (used_named (text_of before was) r.file x.use_of))
      (subst (λ (ks : List ℕ). Contains ks (first_key (used_named (text_of before was) r.file x.use_of))) (sym means.firsts) keys) in
      (m.0, m.1, m.2 ∙ ap first_key x.is)

  begins_so : (r : Reference) → Contains w.references r → (key : ℕ) → first_key r ≡ key → AreBeginnersMarked marks l.meant key → get_or marks r.file false ≡ true
  begins_so r c key e begin = let m = begin_of r c in begin r.file m.0 m.1 (m.2 ∙ e)

  was_declared : (r : Reference) (first : List ℕ) (rest : List (List ℕ)) → Contains w.references r → IsUnmarked marks r.file → r.words ≡ first ∷ rest
      → (s : Symbol) (front : List (List ℕ)) (last : List ℕ) → Contains v.symbols s → Contains places s.file → may_fit r.wants s.kind ≡ true → s.name ≡ front ++ last ∷ [] → word_key last ≡ word_key first → IsScopeOf v r.file front → Contains w.symbols s
  was_declared r first rest c left words s front last cs there fits name key scope =
      let x = row_of_symbol files reads renewed.edited.are_read t renewed.table now renewed.names renewed.listed renewed.within s cs in
      let f = symbol_listed files reads renewed.edited.are_read s cs in
      let plain = names_are_plain files reads renewed.edited.are_read s cs in
      let own : DeclaresKind t now s.file x.0 s.kind = record { listed = x.1.listed; kind_is = x.1.kind_is } in
      elim (marked.came s.file x.0 s.kind there own) [
        | inl stood ↦
            symbol_by_row before was renewed.edited.were_read old of.table rows names listed within s plain (omega (arith, f.1, many)) x.0 stood.listed
            (λ b. sym (renewed.numbers.names x.0 b) ∙ x.1.name) stood.kind_is
        | inr begin ↦
            let ends : EndsIn t x.0 last = record { scope = front; plain = subst ArePlain name plain; name = x.1.name ∙ ap joined name } in
            let alone = declares_alone files reads renewed.edited.are_read t renewed.table now renewed.names renewed.listed renewed.within renewed.apart s cs x.0 x.1 front last name r.file scope in
            let top : is_below_type t x.0 ≡ false = false_from_ne_true (is_below_type t x.0) (λ below. both_ways (get_or marks r.file false) left (ap (λ (f : ℕ). get_or marks f false) (alone below) ∙ marked.edited s.file there)) in
            let same : first_key r ≡ word_key last = ap (λ (ws : List (List ℕ)). word_key (get_or ws 0 [])) words ∙ sym key in
            absurd (both_ways (get_or marks r.file false) left (begins_so r c (word_key last) same (begin top last ends)))
      ]

  -- ---- a file that is seen no more

  -- what the link has of a reference is the row of what it means
  meant_of : (r : Reference) → Contains w.references r → (m : Meant) × Contains (get_or l.meant r.file []) m × (m.row < length old.rows.items) × (Some (get_or (names_of old) m.row []) ≡ option_map joined (meaning w r))
  meant_of r c =
      let x = reference_from before was r c in
      let own = file_is_meant before was renewed.edited.were_read l old rows of r.file (omega (arith, x.there, renewed.edited.were_read.same)) in
      let named = used_named (text_of before was) r.file in
      let text = λ (z : Reference). option_map joined (meaning w z) in
      let there = contains_map text (map named (uses_of was r.file)) (named x.use_of) (contains_map named (uses_of was r.file) x.use_of x.within) in
      let m = from_map (λ (m : Meant). Some (get_or (names_of old) m.row [])) (get_or l.meant r.file []) (text (named x.use_of))
      (subst (λ (os : List (Option (List ℕ))). Contains os (text (named x.use_of))) (sym own.names) there) in
      (m.0, m.1, All-contains (λ (m : Meant). m.row < length old.rows.items) (get_or l.meant r.file []) m.0 own.within m.1, m.2 ∙ ap text x.is)

  file_within : (r : Reference) → Contains w.references r → r.file < length files
  file_within r c = let x = reference_from before was r c in omega (arith, x.there, renewed.edited.were_read.same, many)

  -- the row of what is no package is seen by its one file
  seen_by_row : (file : ℕ) → file < length files → (s : Symbol) → Contains v.symbols s → (s.kind ≡ Package → ⊥) → (row : ℕ) → row < length t.rows.items → get_or (names_of t) row [] ≡ joined s.name → is_seen_at t (get_or seen file []) row ≡ true → sees v file s.file ≡ true
  seen_by_row file lf s cs no_package row lr named it =
      let d = pick t.rows.items row lr in
      let marked : is_seen (get_or seen file []) (get_or t.rows.items row d) ≡ true = ap (is_seen_row (get_or seen file [])) (sym (slice_get-get_or t.rows.items row d lr)) ∙ it in
      let f = any_to (λ g. get_or (get_or seen file []) g false) (files_of (get_or t.rows.items row d)) marked in
      let u = renewed.names.index.symbol row f.0 d lr f.1 in
      let are = renewed.edited.are_read in
      let name : u.0.name ≡ s.name = joined_apart u.0.name s.name (names_are_plain files reads are u.0 u.1) (names_are_plain files reads are s cs) (u.2 ∙ named) in
      elim (one_symbol v.symbols (names_apart files reads renewed.apart) u.0 s u.1 cs name) [
        | inl same ↦
            let here : f.0 ≡ s.file = sym u.4 ∙ ap (λ (z : Symbol). z.file) same in
            ap (sees v file) (sym here) ∙ sym (sight.marks file lf f.0) ∙ f.2
        | inr both ↦ absurd (no_package both.1)
      ]

  still_seen : (r : Reference) (s : Symbol) → Contains w.references r → IsUnmarked marks r.file → meaning w r ≡ Some s.name → Contains w.symbols s → may_resolve_to r.wants s.kind ≡ true → sees w r.file s.file ≡ true → sees v r.file s.file ≡ true
  still_seen r s c left h cs wanted saw = elim (same_marks r.file left) [
    | inl same ↦ sight_stays places before was l old rows files reads t now of renewed seen sight r.file s.file same ∙ saw
    | inr kept ↦
        let m = meant_of r c in
        let named : get_or (names_of t) m.0.row [] ≡ joined s.name = renewed.numbers.names m.0.row m.2 ∙ same_Some (get_or (names_of old) m.0.row []) (joined s.name) (m.3 ∙ ap (option_map joined) h) in
        let it = All-contains (λ (m : Meant). is_seen_at t (get_or seen r.file []) m.row ≡ true) (get_or l.meant r.file []) m.0 kept.none_hidden m.1 in
        let still : Contains v.symbols s = (elim (is_place places s.file) [
          | inl there ↦ still_declared r s c h cs left there
          | inr elsewhere ↦ (edited_files_differ places before was files reads renewed.edited).stay s cs elsewhere
        ]) in
        seen_by_row r.file (file_within r c) s still (wanted_no_package r.wants s.kind wanted) m.0.row (omega (arith, m.2, renewed.numbers.size)) named it
  ]

  -- ---- a file that is newly seen

  abbrev own_rows : ℕ → List ℕ
  own_rows file = get_or (map (λ (v : Vec ℕ). v.items) now) file []

  -- a file that has the row of a name declares it
  declared_by_row : (file row : ℕ) → file < length files → Contains (own_rows file) row → (s : Symbol) → Contains v.symbols s → row < length t.rows.items → get_or (names_of t) row [] ≡ joined s.name → ((d : Row) → (get_or t.rows.items row d).symbol.kind ≡ s.kind) → Declares v file s
  declared_by_row file row lf own s cs lr named kind_is =
      let are = renewed.edited.are_read in
      let u = symbol_of_row files reads are t renewed.table now renewed.names renewed.listed renewed.within file row lf own in
      let d = pick t.rows.items row lr in
      let name = joined_apart u.0.name s.name (names_are_plain files reads are u.0 u.1) (names_are_plain files reads are s cs) (sym u.3.name ∙ named) in
      (u.0, u.1, name, sym (u.3.kind_is d) ∙ kind_is d, u.2)

  declares_too : (r : Reference) (first : List ℕ) (rest : List (List ℕ)) → Contains w.references r → IsUnmarked marks r.file → r.words ≡ first ∷ rest
      → (s : Symbol) (front : List (List ℕ)) (last : List ℕ) → Contains v.symbols s → sees v r.file s.file ≡ true → sees w r.file s.file ≡ false → may_fit r.wants s.kind ≡ true → s.name ≡ front ++ last ∷ [] → word_key last ≡ word_key first → IsScopeOf v r.file front → Declares v r.file s
  declares_too r first rest c left words s front last cs now_seen unseen fits name key scope = elim (same_marks r.file left) [
    | inl same ↦ absurd (both_ways (sees w r.file s.file) unseen (sym (sight_stays places before was l old rows files reads t now of renewed seen sight r.file s.file same) ∙ now_seen))
    | inr kept ↦
        let are = renewed.edited.are_read in
        let x = row_of_symbol files reads are t renewed.table now renewed.names renewed.listed renewed.within s cs in
        let lf = file_within r c in
        let plain = names_are_plain files reads are s cs in
        let alone = declares_alone files reads are t renewed.table now renewed.names renewed.listed renewed.within renewed.apart s cs x.0 x.1 front last name r.file scope in
        let top : is_below_type t x.0 ≡ false = false_from_ne_true (is_below_type t x.0) (λ below. both_ways (sees w r.file s.file) unseen (sees_itself w of.link.by.between r.file s.file (alone below))) in
        let new = is_newly_seen places before was l old rows files reads t now of renewed seen sight r.file s.file lf now_seen unseen in
        let asked = All-contains (IsOwnOrApart t (own_rows r.file) (get_or l.meant r.file [])) (own_rows s.file) x.0 (kept.none_shown s.file new) x.1.listed in
        elim (asked x.1.within top) [
          | inl own ↦ declared_by_row r.file x.0 lf own s cs x.1.within x.1.name x.1.kind_is
          | inr none ↦
              let m = begin_of r c in
              let same_key : first_key r ≡ word_key last = ap (λ (ws : List (List ℕ)). word_key (get_or ws 0 [])) words ∙ sym key in
              absurd (none front last (subst ArePlain name plain) (x.1.name ∙ ap joined name) m.0 m.1 (m.2 ∙ same_key))
        ]
  ]

  -- ---- all

  pub changes_have_to_look : HasToLook word_key places before was files reads marks
  changes_have_to_look = record {
    edited = marked.edited;
    none_hidden = still_seen;
    none_gone = λ r s c left h cs there wanted. still_declared r s c h cs left there;
    none_came = was_declared;
    none_shown = declares_too;
  }
