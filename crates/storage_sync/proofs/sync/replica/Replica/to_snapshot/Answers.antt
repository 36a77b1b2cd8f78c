use Rattle.std.proofs.Common.{◌∙◌, refl, sym, arith}
use Rattle.std.proofs.lemmas.Bool.{false≢true}
use Rattle.std.proofs.lemmas.List.{length-map}
use Rattle.storage_current.specs.KeptSnapshots.{StandsForSnapshot}
use Rattle.storage_current.specs.Snapshots.{IsSnapshot, grafting_of}
use Rattle.storage_sync.proofs.Founded.{counted_items, snapshot_of_equal}
use Rattle.storage_sync.proofs.sync.replica.Replica.to_snapshot.Goals as goal

pub returns-then-not-has_roots-clause-why : goal.returns-then-not-has_roots-clause-why
returns-then-not-has_roots-clause-why g c =
    let h = g.H.Hasher.hash_of in
    let gr = grafting_of g.F.Family.shape g.row.N in
    let copy = c.args.self.now in
    let stands = snapshot_of_equal (StandsForSnapshot h gr c.in-Ok.snapshot) c.as_slice.result.now copy.operations.items
    c.in_ok-status.status copy.status c.args.floor c.args.floor c.as_slice.ensures.value c.in_ok-status.ensures.same refl
    c.in-Ok.ensures.stands.1 in (
      counted_items g.row.N copy.operations.items copy.status (c.is_counted.ensures.0 c.if-not-is_counted.false),
      omega (arith, c.if-as_u64-len.false, c.as_u64.ensures, c.len.ensures, length-map copy.operations.items (λ o. o.items)),
      λ roots. false≢true ((c.if-not-has_roots.ensures _ stands).1 roots),
    )

pub returns-clause-stands : goal.returns-clause-stands
returns-clause-stands g c =
    let h = g.H.Hasher.hash_of in
    let gr = grafting_of g.F.Family.shape g.row.N in
    let copy = c.args.self.now in
    let both = snapshot_of_equal (λ s. IsSnapshot s × StandsForSnapshot h gr c.in-Ok.snapshot s) c.as_slice.result.now
    copy.operations.items c.in_ok-status.status copy.status c.args.floor c.args.floor c.as_slice.ensures.value
    c.in_ok-status.ensures.same refl c.in-Ok.ensures.stands in
    (both.0, both.1, (c.has_roots.ensures _ both.1).0 c.if-not-has_roots.false)

pub returns-clause-promise : goal.returns-clause-promise
returns-clause-promise g c = λ some t snapshot same copy.
    let stands = returns-clause-stands g c in
    c.floors_prove_alike.ensures g.D.Digest.size g.H.Hasher.hash_of some g.met.H.Hasher.sized
    (grafting_of g.F.Family.shape g.row.N) g.met.F.Family.laws _ t stands.0 snapshot copy.operations_are copy.bits_are
    (stands.2.root_is ∙ sym same)
