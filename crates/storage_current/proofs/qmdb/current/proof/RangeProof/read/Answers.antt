use Rattle.std.proofs.Common.{◌≡◌, ℕ, Option, Some, map, rules}
use Rattle.std.specs.List.{Contains}
use Rattle.std.specs.List.Sorted.{IsStrictlyIncreasing}
use Rattle.std.proofs.lemmas.Result.{IfOk-weaker}
use Rattle.storage_current.specs.Held.{range_proof_of}
use Rattle.storage_current.specs.Snapshots.{Grafting}
use Rattle.storage_current.proofs.Fetching.{unread_not_read, parts_told, are_answered, on_ok, why_from}
use Rattle.storage_current.proofs.qmdb.current.proof.RangeProof.read.Goals as goal

pub returns-in-Err-clause-why : goal.returns-in-Err-clause-why
returns-in-Err-clause-why g c =
    let G : Grafting = record { shape = g.F.Family.shape; bytes = g.row.N } in
    unread_not_read (g.S.Storage.node c.args.storage.now) (g.S.Storage.may_fail c.args.storage.now) G c.args.plan
    (g.R.Readable.retained c.args.status.now) c.in-Err.error c.in-Err.ensures.why

pub returns-clause-own : goal.returns-clause-own
returns-clause-own g c =
    let G : Grafting = record { shape = g.F.Family.shape; bytes = g.row.N } in
    let node = g.S.Storage.node c.args.storage.now in
    let f = c.in-Ok.ensures in
    IfOk-weaker c.build.result _ _ (λ proof own s parts.
    own s (parts_told _ node G c.args.plan _ c.in-Ok.fetched.positions.items c.in-Ok.fetched.digests.items f.positions
    f.digests (λ p a has ans.
    (let e : (n : ℕ → Option g.row.D.Denot) → IsStrictlyIncreasing c.in-Ok.fetched.positions.items → map Some c.in-Ok.fetched.digests.items ≡ map n c.in-Ok.fetched.positions.items → Contains c.in-Ok.fetched.positions.items p → a ≡ n p = search rules in e node f.rising f.digests has))
    g.D.Digest.text g.H.Hasher.hash_of c.args.floor _ s parts)) c.build.ensures.own

pub returns-clause-answered : goal.returns-clause-answered
returns-clause-answered g c =
    let G : Grafting = record { shape = g.F.Family.shape; bytes = g.row.N } in
    let node = g.S.Storage.node c.args.storage.now in
    let f = c.in-Ok.ensures in
    on_ok c.build.result _
    (are_answered (λ p a. a ≡ node p) node G c.args.plan (g.R.Readable.retained c.args.status.now)
    c.in-Ok.fetched.positions.items c.in-Ok.fetched.digests.items f.positions f.digests (λ p a has ans. ans))

pub returns-clause-why : goal.returns-clause-why
returns-clause-why g c =
    let G : Grafting = record { shape = g.F.Family.shape; bytes = g.row.N } in
    let node = g.S.Storage.node c.args.storage.now in
    let f = c.in-Ok.ensures in
    why_from _ c.build.result g.D.Digest.text g.H.Hasher.hash_of G c.args.plan
    (g.R.Readable.retained c.args.status.now) c.args.floor (g.D.Digest.text c.args.ops_root)
    (range_proof_of g.D.Digest.text) c.build.ensures.own c.build.ensures.why node
    (g.S.Storage.may_fail c.args.storage.now) c.in-Ok.fetched.positions.items c.in-Ok.fetched.digests.items f.positions f.digests (λ p a has ans.
    (let e : (n : ℕ → Option g.row.D.Denot) → IsStrictlyIncreasing c.in-Ok.fetched.positions.items → map Some c.in-Ok.fetched.digests.items ≡ map n c.in-Ok.fetched.positions.items → Contains c.in-Ok.fetched.positions.items p → a ≡ n p = search rules in e node f.rising f.digests has))
