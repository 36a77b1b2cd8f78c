use Rattle.std.proofs.Common.{◌≡◌, ◌≤◌, ◌*◌, ◌/◌, ◌^◌, ◌∙◌, ℕ, List, length, map, ap, refl, subst, sym, arith, rules}
use Rattle.std.proofs.lemmas.Bool.{false≢true}
use Rattle.storage_merkle.specs.Laws.Hashing.{length-leaf_digests}
use Rattle.storage_merkle.specs.Trees.{ungrafted}
use Rattle.storage_bitmap.specs.Chunks.{bit_count}
use Rattle.storage_current.specs.Pins.{HavePins}
use Rattle.storage_current.specs.SnapshotTails.{StandsForTail}
use Rattle.storage_current.specs.Snapshots.{canonical_root, grafting_of, height}
use Rattle.storage_current.specs.Tails.{ArePinned}
use Rattle.storage_sync.specs.Held.{opening_of}
use Rattle.storage_sync.specs.Tails.{HasNoSnapshotTail, with_floor_of}
use Rattle.storage_sync.proofs.Founded.{equal, unequal}
use Rattle.storage_sync.proofs.Tails.{behind_texts, chunks_before, no_snapshot_tail, own_parts, own_pinned, same_floor, snapshot_of_floor, trees_of_floor}
use Rattle.storage_sync.proofs.sync.replica.Replica.to_snapshot_tail.Goals as goal

pub returns-in-Err-clause-why : goal.returns-in-Err-clause-why
returns-in-Err-clause-why g c =
    let G = grafting_of g.F.Family.shape g.row.N in
    no_snapshot_tail g.H.Hasher.hash_of G (opening_of g.D.Digest.text c.args.opening.now)
    (map (λ v. v.items) c.args.self.now.operations.items) c.args.self.now.status c.args.floor (g.D.Digest.text c.args.root.now) _
    c.in-Err.ensures.why

pub copied-requires : goal.copied-requires
copied-requires g c =
    let few : bit_count g.row.N c.args.self.now.status ≤ 2 ^ 62 = c.in-Ok.ensures.behind.0.fit.few in
    search rules

pub new-requires : goal.new-requires
new-requires g c =
    let G = grafting_of g.F.Family.shape g.row.N in
    let m = c.in-Ok.tail.operations in
    let t = c.in-Ok.tail.chunks in
    let pinned = c.in-Ok.ensures.behind.1 in
    let few : m.leaves ≤ 2 ^ 62 = omega (arith, pinned.pruned.all, c.in-Ok.ensures.behind.0.fit.few) in
    let own : ArePinned G m.pinned t.pinned c.in_ok-status.status m t =
    own_pinned G _ _ c.args.self.now.status c.in_ok-status.status m t c.in_ok-status.ensures.same pinned in
    search rules

pub returns-in_default-clause-why : goal.returns-in_default-clause-why
returns-in_default-clause-why g c =
    let h = g.H.Hasher.hash_of in
    let text = g.D.Digest.text in
    let G = grafting_of g.F.Family.shape g.row.N in
    let o = opening_of text c.args.opening.now in
    let copy = c.args.self.now in
    let tail = c.in-Ok.tail in
    let behind = c.in-Ok.ensures.behind.0 in
    let pinned = c.in-Ok.ensures.behind.1 in
    let none = rw c.in_default.is at c.in_ok-made.ensures.exact in (
      behind_texts G o copy.operations.items copy.status behind,
      c.in-Ok.ensures.floor,
      λ s snapshot begins whole floor witness root.
          let of = c.in-Ok.ensures.own s snapshot begins whole in
          let n : tail.operations.leaves ≡ length s.operations =
          of.over.count ∙ length-leaf_digests h (ungrafted g.F.Family.shape) 0 s.operations in
          let chunks = pinned.place ∙ chunks_before G c.copied.ensures.size o copy.status behind.at in
          let have : HavePins G tail.operations.leaves tail.chunks.pruned =
          subst (λ (k : ℕ). HavePins G k tail.chunks.pruned) (sym n)
          (subst (HavePins G (length s.operations)) (sym chunks) begins.pinned) in
          let fits : c.args.floor ≤ tail.operations.leaves = omega (arith, c.in-Ok.ensures.floor, pinned.pruned.all) in
          none (have, fits),
    )

pub returns-then-ne-clause-why : goal.returns-then-ne-clause-why
returns-then-ne-clause-why g c =
    let h = g.H.Hasher.hash_of in
    let text = g.D.Digest.text in
    let G = grafting_of g.F.Family.shape g.row.N in
    let o = opening_of text c.args.opening.now in
    let copy = c.args.self.now in
    let tail = c.in-Ok.tail in
    let behind = c.in-Ok.ensures.behind.0 in (
      behind_texts G o copy.operations.items copy.status behind,
      c.in-Ok.ensures.floor,
      λ s snapshot begins whole floor witness root.
          let parts = own_parts h G c.copied.ensures.size o (map (λ v. v.items) copy.operations.items) copy.status
          behind.at s snapshot begins whole in
          let made = rw c.in-Some.is at c.in_ok-made.ensures.stands in
          let stands = made s snapshot (rw c.in_ok-status.ensures.same parts.bits_are)
          (c.in-Ok.ensures.own s snapshot begins whole) floor in
          false≢true (sym (unequal _ c.if-ne.ensures)
          ∙ (g.met.D.Digest.same c.root.result c.args.root.now).1 (c.root.ensures.stands s stands ∙ root)),
    )

pub returns-clause-behind : goal.returns-clause-behind
returns-clause-behind g c =
    let made = rw c.in-Some.is at c.in_ok-made.ensures.exact in (
      c.in-Ok.ensures.behind.0,
      made.1 ∙ c.in_ok-status.ensures.same,
      made.2,
      sym c.root.ensures.value ∙ (g.met.D.Digest.same c.root.result c.args.root.now).0 (equal _ c.if-ne.ensures),
    )

pub returns-clause-stands : goal.returns-clause-stands
returns-clause-stands g c = λ s snapshot begins whole.
    let h = g.H.Hasher.hash_of in
    let text = g.D.Digest.text in
    let G = grafting_of g.F.Family.shape g.row.N in
    let o = opening_of text c.args.opening.now in
    let copy = c.args.self.now in
    let tail = c.in-Ok.tail in
    let behind = c.in-Ok.ensures.behind.0 in
    let parts = own_parts h G c.copied.ensures.size o (map (λ v. v.items) copy.operations.items) copy.status
    behind.at s snapshot begins whole in
    let floored = snapshot_of_floor G copy.status s c.args.floor snapshot parts.bits_are c.in-Ok.ensures.floor in
    let made = rw c.in-Some.is at c.in_ok-made.ensures.stands in (
      floored,
      made (with_floor_of s c.args.floor) floored (rw c.in_ok-status.ensures.same parts.bits_are)
          (trees_of_floor text h G s c.args.floor tail.operations tail.chunks (c.in-Ok.ensures.own s snapshot begins whole)) refl,
    )

pub returns-clause-promise : goal.returns-clause-promise
returns-clause-promise g c = λ width.
    let made = rw c.in-Some.is at c.in_ok-made.ensures.exact in (
      c.in-Ok.tail.operations,
      c.in-Ok.tail.chunks,
      c.in-Ok.ensures.behind.1,
      made.3,
      c.in-Ok.ensures.promise width,
    )
