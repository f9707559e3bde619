use Rattle.std.proofs.Common.{◌≡◌, ◌⊎◌, ℕ, ◌&&◌, Bool, not, List, [], get_or, map, sym, ◌∙◌, ap, subst, inl, inr, arith}
use Rattle.std.specs.Global.{Vec}
use Rattle.std.specs.List.{Contains, list_all}
use Rattle.std.proofs.lemmas.Bool.{cases_Bool}
use Rattle.std.proofs.lemmas.List.{get_or-map, get_or_default}
use Rattle.proto_names_table.specs.declared.ids.Meant.{Meant}
use Rattle.proto_names_affected.specs.Sight.{HasLastWord, IsKeptInSight, is_seen_at}
use Rattle.proto_names_affected.specs.Marking.{begins_so}
use Rattle.proto_names_affected.proofs.Sights.{kept_in_sight}
use Rattle.proto_names_affected.proofs.sight.mark_one.Goals as goal

pub returns-clause-marked : goal.returns-clause-marked
returns-clause-marked c =
    let t = c.args.sighted.table.now in
    let file : ℕ = c.args.saw.now.place in
    let was : List Bool = c.args.saw.now.was in
    let rows : List (List ℕ) = map (λ v. v.items) c.args.sighted.rows.now in
    let meant : List (List Meant) = map (λ v. v.items) c.args.sighted.meant.now in
    let sees : List (List Bool) = c.args.sighted.sees.now in
    let names = c.args.names.now in
    let f = c.in_ok-foreign.foreign.keys in
    let listed = get_or-map (λ (v : Vec ℕ). v.items) c.args.sighted.rows.now file c.index-sighted-place.result [] (omega (arith, c.requires.file, c.requires.rows)) in
    let held = ap (λ (v : Vec ℕ). v.items) c.index-sighted-place.is in
    let slice = c.deref.ensures.value in
    let own : c.deref.result.now ≡ get_or rows file [] = cc in
    let listed_meant = get_or-map (λ (v : Vec Meant). v.items) c.args.sighted.meant.now file c.index-sighted-place-2.result [] (omega (arith, c.requires.file, c.requires.meant)) in
    let own_meant = get_or c.args.sighted.meant.now file c.index-sighted-place-2.result in
    let ms : own_meant.items ≡ get_or meant file [] = sym listed_meant in
    let seen : get_or sees file c.index-sighted-place-3.result ≡ get_or sees file [] = get_or_default sees file c.index-sighted-place-3.result [] (omega (arith, c.requires.file, c.requires.sees)) in
    let test = λ (s : List Bool) (xs : List Meant) (k : List ℕ). list_all (λ (m : Meant). is_seen_at t s m.row) xs && (not (begins_so k xs) && not (begins_so f xs)) in
    let told : c.means_the_same-is_kept.result ≡ test (get_or sees file []) (get_or meant file []) names.keys.keys =
    c.means_the_same-is_kept.ensures
    ∙ ap (λ s. test s own_meant.items c.keys.result.now.keys) seen
    ∙ ap (λ xs. test (get_or sees file []) xs c.keys.result.now.keys) ms
    ∙ ap (λ k. test (get_or sees file []) (get_or meant file []) k.keys) c.keys.ensures in
    let own_kept = λ (saw : List Bool). IsKeptInSight t rows (get_or rows file []) (get_or meant file []) saw (get_or sees file []) in
    λ before noted. elim (cases_Bool c.means_the_same-is_kept.result) [
      | inl kept ↦ inr (subst own_kept (sym noted) (kept_in_sight t (get_or meant file []) rows (get_or rows file []) was (get_or sees file []) names.packages.keys names.keys.keys f (sym told ∙ kept)
          (λ row there. subst (λ (xs : List ℕ). Contains xs row ⊎ HasLastWord t f row) own (c.in_ok-foreign.ensures row there)) c.requires.gathered))
      | inr other ↦ inl (c.mark_unless.ensures.marked other)
    ]
