use Rattle.std.proofs.Common.{◌≡◌, ◌*◌, ◌/◌, ◌<◌, ◌≤◌, ◌∙◌, ℕ, ap, length, subst, sym, arith}
use Rattle.std.proofs.lemmas.Bool.{false≢true}
use Rattle.storage_bitmap.specs.Chunks.{bit_count}
use Rattle.storage_current.specs.Pins.{HavePins, chunk_pins}
use Rattle.storage_current.specs.Snapshots.{grafting_of}
use Rattle.storage_sync.proofs.Opened.{chunk_of, few_before, leaves_at}
use Rattle.storage_sync.proofs.sync.serve.opening.beginning.Goals as goal

pub returns-in_default-found-clause-why : goal.returns-in_default-found-clause-why
returns-in_default-found-clause-why g c = λ s snapshot stands.
    let N = g.row.N in
    let G = grafting_of g.F.Family.shape N in
    let kept = c.args.snapshot.now in
    let n : ℕ = length s.operations in
    let bits : bit_count N c.status-status.result.now ≡ bit_count N kept.status = ap (bit_count N) c.status-status.ensures in
    let all : bit_count N kept.status ≡ n = leaves_at g.H.Hasher.hash_of G kept s snapshot stands in
    let below : c.args.begin < c.min-len.result = omega (arith, c.if-begin-len.false) in
    let within = few_before G c.len.ensures.size c.args.begin c.min-len.result c.len.result (bit_count N kept.status) below
    c.min-len.ensures (c.len.ensures.value ∙ bits) in
    let none = rw c.in_default-found.is at (c.in-Ok.ensures within s stands) in (
      omega (arith, below, c.min-len.ensures, c.len.ensures.value, bits, all),
      λ begins. none (subst (HavePins G n) (sym (chunk_of G c.len.ensures.size c.args.begin)) begins.pinned),
    )

pub returns-then-not-is_left-clause-why : goal.returns-then-not-is_left-clause-why
returns-then-not-is_left-clause-why g c = λ s snapshot stands.
    let N = g.row.N in
    let G = grafting_of g.F.Family.shape N in
    let kept = c.args.snapshot.now in
    let n : ℕ = length s.operations in
    let size = c.len.ensures.size in
    let bits : bit_count N c.status-status.result.now ≡ bit_count N kept.status = ap (bit_count N) c.status-status.ensures in
    let all : bit_count N kept.status ≡ n = leaves_at g.H.Hasher.hash_of G kept s snapshot stands in
    let below : c.args.begin < c.min-len.result = omega (arith, c.if-begin-len.false) in
    let within = few_before G size c.args.begin c.min-len.result c.len.result (bit_count N kept.status) below
    c.min-len.ensures (c.len.ensures.value ∙ bits) in
    let had = rw c.in-Some.is at (c.in-Ok.ensures within s stands) in
    let chunk = chunk_of G size c.args.begin in (
      record {
        within = omega (arith, below, c.min-len.ensures, c.len.ensures.value, bits, all);
        boundary = omega (arith, c.if-begin-bits-ne0.false);
        pinned = subst (HavePins G n) chunk had.0;
      },
      λ left.
          let pruned = ap (λ r. r.pruned) c.status-status.ensures in
          let kept_chunk : c.status-status.result.now.pruned ≤ c.args.begin / (8 * N) =
          omega (arith, pruned, left.bits, chunk) in
          absurd (false≢true (sym c.if-not-is_left.true ∙ c.is_left.ensures.1 (kept_chunk, left.operations))),
    )

pub returns-clause-own : goal.returns-clause-own
returns-clause-own g c = λ s snapshot stands.
    let N = g.row.N in
    let G = grafting_of g.F.Family.shape N in
    let kept = c.args.snapshot.now in
    let n : ℕ = length s.operations in
    let size = c.len.ensures.size in
    let bits : bit_count N c.status-status.result.now ≡ bit_count N kept.status = ap (bit_count N) c.status-status.ensures in
    let all : bit_count N kept.status ≡ n = leaves_at g.H.Hasher.hash_of G kept s snapshot stands in
    let below : c.args.begin < c.min-len.result = omega (arith, c.if-begin-len.false) in
    let within = few_before G size c.args.begin c.min-len.result c.len.result (bit_count N kept.status) below
    c.min-len.ensures (c.len.ensures.value ∙ bits) in
    let had = rw c.in-Some.is at (c.in-Ok.ensures within s stands) in
    let chunk = chunk_of G size c.args.begin in
    let left = c.is_left.ensures.0 c.if-not-is_left.false in
    let pruned = ap (λ r. r.pruned) c.status-status.ensures in (
      record {
        within = omega (arith, below, c.min-len.ensures, c.len.ensures.value, bits, all);
        boundary = omega (arith, c.if-begin-bits-ne0.false);
        pinned = subst (HavePins G n) chunk had.0;
      },
      record { bits = omega (arith, pruned, left.0, chunk); operations = left.1 },
      had.1 ∙ ap (chunk_pins g.H.Hasher.hash_of G s) chunk,
    )
