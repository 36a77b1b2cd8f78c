use Rattle.std.proofs.Common.{◌≡◌, ◌∙◌, ◌≤◌, ◌+◌, ◌*◌, ◌%◌, ◌<◌, ℕ, map, length, ap, sym, subst, arith}
use Rattle.std.specs.Option.{unwrap_or}
use Rattle.std.proofs.lemmas.Bool.{false≢true}
use Rattle.std.proofs.Math.Nat.{mul-mod_left}
use Rattle.std.proofs.lemmas.List.{length-map}
use Rattle.storage_merkle.specs.Shape.{max_leaves}
use Rattle.storage_sync.specs.Held.{page_of}
use Rattle.storage_sync.specs.Laws.Pages.{held_page}
use Rattle.storage_sync.specs.Syncs.{Taken, leaves_with, place}
use Rattle.storage_sync.proofs.Kept.{asked_alike, boundary_of}
use Rattle.storage_sync.proofs.States.{few_leaves}
use Rattle.storage_sync.proofs.sync.ask.Sync.check.Goals as goal

pub returns-in-Ok-true-clause-asked : goal.returns-in-Ok-true-clause-asked
returns-in-Ok-true-clause-asked g c =
    let count : c.len.result ≡ length c.args.page.now.operations.items = omega (arith, c.len.ensures) in
    asked_alike g.row.N c.args.self.now c.as_u64.result c.unwrap_or-leaves.result c.len.result
    (length c.args.page.now.operations.items) c.as_u64.ensures count (c.is_asked.ensures.0 c.if-not-is_asked.false)

pub returns-in-Ok-true-clause-few : goal.returns-in-Ok-true-clause-few
returns-in-Ok-true-clause-few g c =
    let i = c.self.inside in
    let current = c.in-Ok-true.ensures.0 c.in-Ok-true.field-0-test in
    subst (λ (k : ℕ). k ≤ max_leaves) (sym c.unwrap_or-leaves.ensures)
    (few_leaves g.row.N (i.status.pruned * (8 * g.row.N)) (i.status.pruned * (8 * g.row.N) + length i.operations.items) i.leaves
    c.args.page.now.proof.proof.leaves c.self.invariant.at current.counts.few)

pub returns-in-Ok-true-clause-proved : goal.returns-in-Ok-true-clause-proved
returns-in-Ok-true-clause-proved g c =
    let i = c.self.inside in
    let n = g.row.N in
    let t = c.args.self.now in
    let asked = c.is_asked.ensures.0 c.if-not-is_asked.false in
    let some : 0 < c.len.result = asked.some in
    let first : ℕ = i.status.pruned * (8 * n) in
    let next : first + length i.operations.items ≡ place t =
    ap (λ (k : ℕ). first + k) (sym (length-map i.operations.items (λ o. o.items))) ∙ ap place c.self.view_is in
    let within : first + length i.operations.items + c.len.result ≤ unwrap_or i.leaves c.args.page.now.proof.proof.leaves =
    omega (arith, asked.within, next, c.as_u64.ensures, c.unwrap_or-leaves.ensures) in
    record {
      boundary = subst (λ (k : ℕ). k % (8 * n) ≡ 0) next (boundary_of n first (first + length i.operations.items)
          c.args.page.now.proof.proof.leaves c.len.result i.leaves (mul-mod_left i.status.pruned (8 * n)) c.self.invariant.at some
          within);
      digests = held_page g.H.Digest.Digest.text g.H.Digest.Digest.size g.met.H.Digest.Digest.sized c.args.page.now;
      current = c.in-Ok-true.ensures.0 c.in-Ok-true.field-0-test;
    }

pub returns-in-Ok-false-clause-why : goal.returns-in-Ok-false-clause-why
returns-in-Ok-false-clause-why g c =
    let i = c.self.inside in
    let t = c.args.self.now in
    let p = page_of g.H.Digest.Digest.text c.args.page.now in
    let operations = c.args.page.now.operations.items in
    let count : c.len.result ≡ length (map (λ o. o.items) operations) =
    omega (arith, c.len.ensures, length-map operations (λ o. o.items)) in
    let leaves : c.as_u64.result ≡ leaves_with t p = c.as_u64.ensures ∙ c.unwrap_or-leaves.ensures
    ∙ ap (λ (s : Taken). unwrap_or s.leaves c.args.page.now.proof.proof.leaves) c.self.view_is in (
      asked_alike g.row.N t c.as_u64.result (leaves_with t p) c.len.result (length (map (λ o. o.items) operations)) leaves count
          (c.is_asked.ensures.0 c.if-not-is_asked.false),
      λ current. false≢true (sym c.in-Ok-false.field-0-test ∙ c.in-Ok-false.ensures.1 current),
    )
