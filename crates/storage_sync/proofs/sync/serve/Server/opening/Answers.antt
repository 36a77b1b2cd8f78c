use Rattle.std.proofs.Common.{◌<◌, ◌≤◌, ℕ, length, map, refl, sym, subst, arith}
use Rattle.storage_merkle.specs.Held.{proof_of}
use Rattle.storage_current.specs.Snapshots.{grafting_of}
use Rattle.storage_current.specs.WitnessWire.{witness_of}
use Rattle.storage_sync.specs.Beginnings.{IsBeginning, IsUnopened}
use Rattle.storage_sync.proofs.Opened.{can_begin, left_at, left_behind, none_begun, one_there, opened, unread_at}
use Rattle.storage_sync.proofs.Serving.{counts_made, counts_moved, proof_fault, uncounted}
use Rattle.storage_sync.proofs.sync.serve.Server.opening.Goals as goal

pub returns-in-Err-clause-why : goal.returns-in-Err-clause-why
returns-in-Err-clause-why g c = λ s served.
    let G = grafting_of g.F.Family.shape g.row.N in
    let kept = c.args.self.now.snapshot in
    none_begun G (length s.operations) kept.status.pruned _ (g.L.Contiguous.first c.args.log.now) c.as_u64-start.result
    c.args.begin c.bounds-held.ensures.start c.as_u64-start.ensures (g.L.Contiguous.past c.args.log.now)
    (g.L.Contiguous.may_fail c.args.log.now) c.in-Err.why (c.in-Err.ensures.why s served.snapshot served.stands)

pub returns-in-Err-clause-failures : goal.returns-in-Err-clause-failures
returns-in-Err-clause-failures g c =
    uncounted c.in-Err.why (g.L.Contiguous.failed c.args.log.now) c.in-Err.ensures.kind

pub returns-then-held-start-clause-why : goal.returns-then-held-start-clause-why
returns-then-held-start-clause-why g c = λ s served.
    let G = grafting_of g.F.Family.shape g.row.N in
    let n : ℕ = length s.operations in
    let kept = c.args.self.now.snapshot in
    let own = c.in-Ok.ensures.own s served.snapshot served.stands in (
      subst (IsBeginning G n) c.as_u64-start.ensures own.0,
      left_at G n kept.status.pruned _ (g.L.Contiguous.first c.args.log.now) c.as_u64-start.result c.args.begin
          c.bounds-held.ensures.start c.as_u64-start.ensures own.1,
      omega (arith, c.bounds-held.ensures.end, c.as_u64-start.ensures, c.if-held-start.true),
    )

pub returns-in-Err-pins_before-clause-why : goal.returns-in-Err-pins_before-clause-why
returns-in-Err-pins_before-clause-why g c = λ s served.
    let G = grafting_of g.F.Family.shape g.row.N in
    let kept = c.args.self.now.snapshot in
    let own = c.in-Ok.ensures.own s served.snapshot served.stands in
    let memory = c.in-Err-pins_before.ensures.why s served.stands own.0.within
    (left_behind G kept c.as_u64-start.result own.1.bits) in
    subst (IsUnopened G (length s.operations) kept.status.pruned (g.L.Contiguous.first c.args.log.now)
    (g.L.Contiguous.past c.args.log.now) (g.L.Contiguous.may_fail c.args.log.now) c.args.begin) (sym memory) tt

pub returns-in-Err-pins_before-clause-failures : goal.returns-in-Err-pins_before-clause-failures
returns-in-Err-pins_before-clause-failures g c =
    uncounted c.in-Err-pins_before.why (g.L.Contiguous.failed c.args.log.now)
    (proof_fault c.in-Err-pins_before.why c.in-Err-pins_before.ensures.kind)

pub returns-in-Err-proof_between-clause-why : goal.returns-in-Err-proof_between-clause-why
returns-in-Err-proof_between-clause-why g c = λ s served.
    let G = grafting_of g.F.Family.shape g.row.N in
    let kept = c.args.self.now.snapshot in
    let own = c.in-Ok.ensures.own s served.snapshot served.stands in
    let within = own.0.within in
    let memory = c.in-Err-proof_between.ensures.why s served.snapshot served.stands (omega arith) (omega (arith, within))
    (left_behind G kept c.as_u64-start.result own.1.bits) in
    subst (IsUnopened G (length s.operations) kept.status.pruned (g.L.Contiguous.first c.args.log.now)
    (g.L.Contiguous.past c.args.log.now) (g.L.Contiguous.may_fail c.args.log.now) c.args.begin) (sym memory) tt

pub returns-in-Err-proof_between-clause-failures : goal.returns-in-Err-proof_between-clause-failures
returns-in-Err-proof_between-clause-failures g c =
    uncounted c.in-Err-proof_between.why (g.L.Contiguous.failed c.args.log.now)
    (proof_fault c.in-Err-proof_between.why c.in-Err-proof_between.ensures.kind)

pub returns-in-Err-read_operations-clause-why : goal.returns-in-Err-read_operations-clause-why
returns-in-Err-read_operations-clause-why g c = λ s served.
    let G = grafting_of g.F.Family.shape g.row.N in
    let n : ℕ = length s.operations in
    let kept = c.args.self.now.snapshot in
    let first = g.L.Contiguous.first c.args.log.now in
    let past = g.L.Contiguous.past c.args.log.now in
    let own = c.in-Ok.ensures.own s served.snapshot served.stands in
    let held : c.as_u64-start.result < past = omega (arith, c.bounds-held.ensures.end, c.if-held-start.false) in
    unread_at G n kept.status.pruned first past c.as_u64-start.result c.args.begin (g.L.Contiguous.may_fail c.args.log.now)
    c.in-Err-read_operations.why c.as_u64-start.ensures
    (can_begin G n kept.status.pruned _ first c.as_u64-start.result c.args.begin c.bounds-held.ensures.start
    c.as_u64-start.ensures past own.0 own.1 held) c.in-Err-read_operations.ensures.why

pub returns-in-Err-read_operations-clause-failures : goal.returns-in-Err-read_operations-clause-failures
returns-in-Err-read_operations-clause-failures g c =
    counts_moved c.in-Err-read_operations.why _ _ c.in-Err-read_operations.ensures.failures

pub returns-in-Ok-read_operations-clause-made : goal.returns-in-Ok-read_operations-clause-made
returns-in-Ok-read_operations-clause-made g c = λ s served.
    let G = grafting_of g.F.Family.shape g.row.N in
    let n : ℕ = length s.operations in
    let kept = c.args.self.now.snapshot in
    let past = g.L.Contiguous.past c.args.log.now in
    let own = c.in-Ok.ensures.own s served.snapshot served.stands in
    let held : c.as_u64-start.result < past = omega (arith, c.bounds-held.ensures.end, c.if-held-start.false) in
    can_begin G n kept.status.pruned _ (g.L.Contiguous.first c.args.log.now) c.as_u64-start.result c.args.begin
    c.bounds-held.ensures.start c.as_u64-start.ensures past own.0 own.1 held

pub returns-in-Ok-read_operations-clause-own : goal.returns-in-Ok-read_operations-clause-own
returns-in-Ok-read_operations-clause-own g c = λ s served log.
    let G = grafting_of g.F.Family.shape g.row.N in
    let text = g.H.Digest.Digest.text in
    let first = g.L.Contiguous.first c.args.log.now in
    let past = g.L.Contiguous.past c.args.log.now in
    let start : ℕ = c.as_u64-start.result in
    let own = c.in-Ok.ensures.own s served.snapshot served.stands in
    let held : start < past = omega (arith, c.bounds-held.ensures.end, c.if-held-start.false) in
    let from : first ≤ start = omega (arith, c.bounds-held.ensures.start, c.in-Ok.ensures.held) in
    opened g.H.Hasher.hash_of G s start c.args.begin c.as_u64-start.ensures (record {
      begin = c.args.begin;
      witness = witness_of text c.witness.result;
      ops_root = text c.ops_root.result;
      proof = proof_of text c.in-Ok-proof_between.proof;
      operations = map (λ x. x.items) c.in-Ok-read_operations.operations.items;
      pins = map text c.in-Ok-pins_before.pins.items;
      over_chunks = map text c.in-Ok.pins.items;
    }) refl own.0 (c.witness.ensures.stands s served.stands) (c.ops_root.ensures.stands s served.stands)
    (c.in-Ok-proof_between.ensures.own s served.stands) (c.in-Ok-pins_before.ensures.own s served.stands) own.2
    (one_there g.L.Contiguous.text (g.L.Contiguous.item c.args.log.now) first past s log start own.0.within from held
    c.in-Ok-read_operations.operations.items c.in-Ok-read_operations.ensures.items)

pub returns-in-Ok-read_operations-clause-failures : goal.returns-in-Ok-read_operations-clause-failures
returns-in-Ok-read_operations-clause-failures g c =
    counts_made c.in-Ok-read_operations.operations _ _ _ c.in-Ok-read_operations.ensures.failures
