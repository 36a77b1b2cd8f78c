use Rattle.std.proofs.Common.{◌≡◌, ◌*◌, ◌^◌, ◌∙◌, ℕ, length, map, ap, refl, subst, sym, arith}
use Rattle.std.proofs.lemmas.Bool.{false≢true}
use Rattle.storage_current.specs.Pins.{HavePins}
use Rattle.storage_current.specs.Snapshots.{grafting_of, height}
use Rattle.storage_sync.specs.Held.{opening_of}
use Rattle.storage_sync.proofs.Tails.{behind_texts, chunks_before, copy_from}
use Rattle.storage_sync.proofs.sync.replica.Replica.to_tail.Goals as goal

pub returns-then-as_u64-len-clause-why : goal.returns-then-as_u64-len-clause-why
returns-then-as_u64-len-clause-why g c =
    let G = grafting_of g.F.Family.shape g.row.N in
    let o = opening_of g.D.Digest.text c.args.opening.now in
    let copy = c.args.self.now in
    let found = rw (c.in-Some.is, c.deref.ensures.value) at c.in_ok-found.ensures.exact in (
      behind_texts G o copy.operations.items copy.status found.0,
      omega (arith, c.if-as_u64-len.true, c.as_u64.ensures, c.len.ensures.value),
    )

pub returns-then-not-same-clause-why : goal.returns-then-not-same-clause-why
returns-then-not-same-clause-why g c =
    let h = g.H.Hasher.hash_of in
    let G = grafting_of g.F.Family.shape g.row.N in
    let o = opening_of g.D.Digest.text c.args.opening.now in
    let copy = c.args.self.now in
    let found = rw (c.in-Some.is, c.deref.ensures.value) at c.in_ok-found.ensures.exact in
    let behind = found.0 in
    let pinned = found.1 in
    let chunks = c.in-Some.tail.chunks in (
      behind_texts G o copy.operations.items copy.status behind,
      omega (arith, c.if-as_u64-len.false, c.as_u64.ensures, c.len.ensures.value),
      λ s snapshot begins whole floor root.
          let own = rw (c.in-Some.is, c.deref.ensures.value) at c.in_ok-found.ensures.own in
          let place : c.in-Some.tail.operations.boundary ≡ chunks.pruned * 2 ^ height G =
          pinned.pruned.place ∙ ap (λ (p : ℕ). p * 2 ^ height G) (sym pinned.place) in
          let have : HavePins G (length s.operations) chunks.pruned = subst (HavePins G (length s.operations))
          (sym (pinned.place ∙ chunks_before G c.in_ok-found.ensures.size o copy.status behind.at)) begins.pinned in
          false≢true (sym c.if-not-same.true
          ∙ (c.in_ok-same.ensures.own s snapshot (own s snapshot begins whole) place have floor).1 (sym root)),
    )

pub returns-clause-promise : goal.returns-clause-promise
returns-clause-promise g c = λ width.
    let G = grafting_of g.F.Family.shape g.row.N in
    let text = g.D.Digest.text in
    let opening = c.args.opening.now in
    let o = opening_of text opening in
    let copy = c.args.self.now in
    let found = rw (c.in-Some.is, c.deref.ensures.value) at c.in_ok-found.ensures.exact in
    let pinned = found.1 in
    let tail = c.in-Some.tail in
    copy_from text c.copies_from_pins.ensures g.D.Digest.size g.H.Hasher.hash_of width g.met.H.Hasher.sized G g.met.F.Family.laws
    c.in_ok-found.ensures.size o copy.status c.args.floor (map (λ v. v.items) copy.operations.items) opening.pins.items
    opening.over_chunks.items tail.operations tail.chunks (behind_texts G o copy.operations.items copy.status found.0) refl pinned
    (c.in_ok-same.ensures.bound width (omega (arith, pinned.pruned.few, pinned.place)) c.if-not-same.false)

pub returns-clause-own : goal.returns-clause-own
returns-clause-own g c = λ s snapshot begins copy.
    (rw (c.in-Some.is, c.deref.ensures.value) at c.in_ok-found.ensures.own) s snapshot begins copy

pub returns-clause-floor : goal.returns-clause-floor
returns-clause-floor g c = omega (arith, c.if-as_u64-len.false, c.as_u64.ensures, c.len.ensures.value)
