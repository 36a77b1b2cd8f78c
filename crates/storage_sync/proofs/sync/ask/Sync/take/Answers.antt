use Rattle.std.specs.Option.{unwrap_or}
use Rattle.std.proofs.Common.{◌≡◌, ◌∙◌, ◌<◌, ◌^◌, ℕ, List, [], length, Ok, inl, inr, ap, subst, arith, rules}
use Rattle.std.proofs.lemmas.List.{length-map}
use Rattle.storage_codec.specs.Codec.{MayFail, whole}
use Rattle.storage_current.specs.Snapshots.{grafting_of}
use Rattle.storage_sync.specs.Held.{page_of}
use Rattle.storage_sync.specs.Messages.{page_at}
use Rattle.storage_sync.specs.Syncs.{Taken}
use Rattle.storage_sync.proofs.Kept.{taken_as}
use Rattle.storage_sync.proofs.States.{length-chunk_bits, more_kept}
use Rattle.storage_sync.proofs.sync.ask.Sync.take.Goals as goal

pub returns-in-Err-clause-why : goal.returns-in-Err-clause-why
returns-in-Err-clause-why g c =
    let there = g.F.Graftable.has_pending in
    let d = g.H.Digest.Digest.size in
    let bytes = c.args.bytes.now in
    inl (c.refusal_of.ensures (whole (page_at there d g.row.N c.args.self.now.limits bytes))
    (subst (λ (t : Taken). MayFail c.in-Err.error (whole (page_at there d g.row.N t.limits bytes))) c.self.view_is
    c.in-Err.ensures))

pub returns-in-Err-clause-honest : goal.returns-in-Err-clause-honest
returns-in-Err-clause-honest g c = λ s honest.
    let small : c.args.self.now.limits.max_digests < 2 ^ 64 =
    subst (λ (t : Taken). t.limits.max_digests < 2 ^ 64) c.self.view_is (omega arith) in
    c.honest_pages_are_taken.ensures g.H.Digest.Digest.size g.H.Hasher.hash_of g.met.H.Hasher.sized
    (grafting_of g.F.Family.shape g.row.N) (record { laws = g.met.F.Family.laws; size = c.self.invariant.size })
    g.F.Graftable.has_pending g.met.F.Graftable.prompt c.args.self.now small s c.args.bytes.now honest c.refusal_of.result
    (returns-in-Err-clause-why g c)

pub returns-in-Err-check-clause-honest : goal.returns-in-Err-check-clause-honest
returns-in-Err-check-clause-honest g c = λ s honest.
    let there = g.F.Graftable.has_pending in
    let d = g.H.Digest.Digest.size in
    let p = page_of g.H.Digest.Digest.text c.in-Ok.page in
    let none : List ℕ = [] in
    let read = subst (λ (t : Taken). whole (page_at there d g.row.N t.limits c.args.bytes.now) ≡ Ok (p, none)) c.self.view_is
    c.in-Ok.ensures in
    let small : c.args.self.now.limits.max_digests < 2 ^ 64 =
    subst (λ (t : Taken). t.limits.max_digests < 2 ^ 64) c.self.view_is (omega arith) in
    c.honest_pages_are_taken.ensures d g.H.Hasher.hash_of g.met.H.Hasher.sized (grafting_of g.F.Family.shape g.row.N)
    (record { laws = g.met.F.Family.laws; size = c.self.invariant.size }) there g.met.F.Graftable.prompt c.args.self.now small s
    c.args.bytes.now honest c.in-Err-check.refusal (inr (p, read, c.in-Err-check.ensures.why))

pub keep-requires : goal.keep-requires
keep-requires g c =
    let count : c.len.result ≡ length c.in-Ok.page.operations.items = omega (arith, c.len.ensures) in (
      search rules,
      (
        c.in-Ok-check.ensures.asked,
        (
          c.in-Ok-check.ensures.few,
          ap length (c.deref-2.ensures.value ∙ c.in-Ok-bits_of.ensures)
              ∙ length-chunk_bits g.row.N c.len.result c.deref.result.now ∙ count,
        ),
      ),
    )

pub returns-in-Ok-keep-clause-taken : goal.returns-in-Ok-keep-clause-taken
returns-in-Ok-keep-clause-taken g c =
    let there = g.F.Graftable.has_pending in
    let d = g.H.Digest.Digest.size in
    let p = page_of g.H.Digest.Digest.text c.in-Ok.page in
    let operations = c.in-Ok.page.operations.items in
    let count : c.len.result ≡ length operations = omega (arith, c.len.ensures) in
    let none : List ℕ = [] in
    let read = subst (λ (t : Taken). whole (page_at there d g.row.N t.limits c.args.bytes.now) ≡ Ok (p, none)) c.self.view_is
    c.in-Ok.ensures in
    taken_as g.H.Hasher.hash_of (grafting_of g.F.Family.shape g.row.N) there d c.args.self.now c.keep.new.self
    c.args.bytes.now p c.in-Ok-check.leaves (length operations)
    (unwrap_or c.args.self.now.ops_root (g.H.Digest.Digest.text c.ops_root.result)) read c.in-Ok-check.ensures.leaves
    (ap (λ x. unwrap_or c.args.self.now.ops_root (g.H.Digest.Digest.text x)) c.ops_root.ensures)
    (length-map operations (λ o. o.items)) c.in-Ok-check.ensures.asked c.in-Ok-check.ensures.proved
    (more_kept g.row.N c.args.self.now c.keep.new.self c.in-Ok-check.leaves
    (unwrap_or c.args.self.now.ops_root (g.H.Digest.Digest.text c.ops_root.result)) p.operations c.deref-2.result.now
    c.in-Ok-bits_of.bits.items c.len.result (length operations) c.deref.result.now p.chunks c.in-Ok-keep.ensures.ok
    c.deref-2.ensures.value c.in-Ok-bits_of.ensures count c.deref.ensures.value)
