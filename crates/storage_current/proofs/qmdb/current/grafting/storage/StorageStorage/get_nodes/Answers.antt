use Rattle.std.proofs.Common.{arith, ◌≡◌, length, ap, refl, inl, inr}
use Rattle.storage_current.specs.Combined.{joined}
use Rattle.storage_current.specs.GraftedTrees.{regrafted}
use Rattle.storage_current.specs.Splits.{gaps}
use Rattle.storage_current.proofs.Splitting.{absent_below, absent_missing, fault_below, gaps_are, served_length, filled_are}
use Rattle.std.proofs.lemmas.Grind.{common_steps}
use Rattle.storage_current.proofs.qmdb.current.grafting.storage.StorageStorage.get_nodes.Goals as goal

pub returns-in-Err-clause-answers : goal.returns-in-Err-clause-answers
returns-in-Err-clause-answers g c =
    let later = g.S.Storage.node c.args.self.now.ops_tree.now in
    let s = rw (c.size-size.ensures, ← c.deref.ensures.value) at (c.in_ok-found.ensures.found later) in
    elim c.in-Err.ensures.answers [
      | inl x ↦ inl (x.0, x.1, absent_below _ later x.0 s.0 _ _ _ s.1 x.2)
      | inr y ↦ inr y
    ]

pub returns-in-Err-clause-fault : goal.returns-in-Err-clause-fault
returns-in-Err-clause-fault g c code same =
    let later = g.S.Storage.node c.args.self.now.ops_tree.now in
    let s = rw (c.size-size.ensures, ← c.deref.ensures.value) at (c.in_ok-found.ensures.found later) in
    let reads = rw (c.size-size.ensures, ← c.deref.ensures.value) at c.in_ok-found.ensures.below in
    fault_below _ later _ _ code s.0 _ _ _ s.1 reads (c.in-Err.ensures.fault code same)

pub returns-in-Some-clause-answers : goal.returns-in-Some-clause-answers
returns-in-Some-clause-answers g c =
    let later = g.S.Storage.node c.args.self.now.ops_tree.now in
    let s = rw (c.size-size.ensures, ← c.deref.ensures.value, c.in-Some.is) at (c.in_ok-found.ensures.found later) in
    inl (
      c.in-Some.position,
      refl,
      absent_missing _ later c.in-Some.position s.2.0 s.0 _ _ _ _ s.1 c.in-Ok.ensures.answers s.2.1 s.2.2,
    )

pub fill-requires : goal.fill-requires
fill-requires g c =
    let later = g.S.Storage.node c.args.self.now.ops_tree.now in
    let s =
    rw (c.size-size.ensures, ← c.deref.ensures.value, ← c.deref-2.ensures.value) at (c.in_ok-found.ensures.found later) in
    let none : gaps c.deref-2.result.now ≡ length c.deref.result.now = gaps_are _ later s.0 _ _ _ s.1 in
    let read : length c.in-Ok.read.items ≡ length c.deref.result.now =
    served_length (joined g.F.Family.shape c.args.self.now.height (g.S.Storage.nodes c.args.self.now.ops_tree.now)
    (regrafted g.H.Hasher.digest_of g.H.Digest.Digest.text g.F.Family.shape c.args.self.now.height
    (g.R.Readable.node c.args.self.now.grafted_tree.now)) later) later _ _ c.in-Ok.ensures.answers in
    omega (arith, none, read, ap length c.deref-3.ensures.value)

pub returns-clause-answers : goal.returns-clause-answers
returns-clause-answers g c =
    let later = g.S.Storage.node c.args.self.now.ops_tree.now in
    let s = rw (c.size-size.ensures, ← c.deref.ensures.value, ← c.deref-2.ensures.value, c.in_default.is) at
    (c.in_ok-found.ensures.found later) in
    rw (c.in_ok-fill.ensures, c.deref-3.ensures.value) (filled_are _ later s.0 _ _ _ _ s.1 c.in-Ok.ensures.answers s.2)

pub returns-in-Err-clause-failure : goal.returns-in-Err-clause-failure
returns-in-Err-clause-failure g c = c.in-Err.ensures.failure

pub returns-in-Some-clause-same : goal.returns-in-Some-clause-same
returns-in-Some-clause-same g c = grind (arith, common_steps)

pub returns-in_err-fill-clause-same : goal.returns-in_err-fill-clause-same
returns-in_err-fill-clause-same g c = grind (arith, common_steps)

pub returns-clause-same : goal.returns-clause-same
returns-clause-same g c = grind (arith, common_steps)

pub returns-in-Err-clause-same : goal.returns-in-Err-clause-same
returns-in-Err-clause-same g c = grind (arith, common_steps)
