use Rattle.std.proofs.Common.{◌≡◌, true, length, slice_set, refl, sym, ◌∙◌, ap, subst, arith}
use Rattle.proto_names_affected.specs.FileMeanings.{AreBegun, place_of}
use Rattle.proto_names_affected.proofs.Begun.{begun_more, begun_still, place_within}
use Rattle.proto_names_affected.proofs.file_meanings.FileMeanings.push.Goals as goal

pub place_of-place-requires : goal.place_of-place-requires
place_of-place-requires c = omega (arith, c.self.invariant.some, c.len.ensures, c.self.inside.begun.ok.0)

pub index_mut-requires : goal.index_mut-requires
index_mut-requires c =
    let begun = c.self.inside.begun.items in
    let n : c.len.result ≡ length begun = omega (arith, c.len.ensures, c.self.inside.begun.ok.0) in
    let place = c.place_of-place.ensures ∙ ap (λ k. place_of k c.args.meant.first) n in
    omega (arith, place, place_within begun c.args.meant.first c.self.invariant.some, c.self.inside.begun.ok.0)

pub invariant_of-self : goal.invariant_of-self
invariant_of-self c =
    let begun = c.self.inside.begun.items in
    let n : c.len.result ≡ length begun = omega (arith, c.len.ensures, c.self.inside.begun.ok.0) in
    let place = c.place_of-place.ensures ∙ ap (λ k. place_of k c.args.meant.first) n in
    subst (λ p. AreBegun (slice_set begun p true) c.push.new.self.items) (sym place)
    (subst (AreBegun (slice_set begun (place_of (length begun) c.args.meant.first) true)) (sym c.in_err-push.ensures.items)
    (begun_still begun c.args.meant.first c.self.invariant.some c.self.inside.list.items c.self.invariant))

pub invariant_of-self-2 : goal.invariant_of-self-2
invariant_of-self-2 c =
    let begun = c.self.inside.begun.items in
    let n : c.len.result ≡ length begun = omega (arith, c.len.ensures, c.self.inside.begun.ok.0) in
    let place = c.place_of-place.ensures ∙ ap (λ k. place_of k c.args.meant.first) n in
    subst (λ p. AreBegun (slice_set begun p true) c.push.new.self.items) (sym place)
    (subst (AreBegun (slice_set begun (place_of (length begun) c.args.meant.first) true)) (sym c.in_ok-push.ensures.items)
    (begun_more begun c.args.meant.first c.self.invariant.some c.self.inside.list.items c.args.meant refl c.self.invariant))
