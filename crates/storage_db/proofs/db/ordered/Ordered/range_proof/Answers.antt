use Rattle.std.proofs.Common.{◌≡◌, ℕ, ◌<◌, ◌≤◌, ◌^◌, List, length, map, Option, refl, sym, ap, ◌∙◌, subst, arith}
use Rattle.std.specs.Global.{Vec}
use Rattle.std.specs.List.{slice_range}
use Rattle.std.specs.Prelude.{IsSomeAnd}
use Rattle.std.proofs.lemmas.Bool.{le-ltb, lt-ltb}
use Rattle.storage_current.specs.Held.{range_proof_of}
use Rattle.storage_current.specs.Keys.{Keyed, keyed_by}
use Rattle.storage_current.specs.Served.{end_of}
use Rattle.storage_current.specs.Snapshots.{grafting_of}
use Rattle.storage_db.specs.declared.db.error.Error.TheVariants.{Memory, Pruned, RangeOutOfBounds}
use Rattle.storage_db.specs.Kept.{KeptCommit, KeptDatabase, pruned_of, with_keys}
use Rattle.storage_db.specs.Parts.{committed_of, IsSince, IsSinceCommit, kept_of}
use Rattle.storage_db.specs.Shown.{IsPage}
use Rattle.storage_db.proofs.Remembering.{with_all}
use Rattle.storage_db.proofs.Cases.{cond_yes, cond_no, err_and}
use Rattle.storage_db.proofs.Pages.{page_at_last, texts_between}
use Rattle.storage_db.proofs.Shown.{told_at_last, told_before}
use Rattle.storage_db.proofs.db.ordered.Ordered.range_proof.Goals as goal

pub returns-in_default-clause-why : goal.returns-in_default-clause-why
returns-in_default-clause-why g c = λ d keeps.
    told_before (keyed_by g.K.Write.text g.V.Value.Write.text g.V.OperationCodec.operation_text g.K.Ord.cmp) g.V.Value.Read.view
    g.H.Hasher.hash_of (grafting_of g.F.Family.shape g.row.N) _ _ c.self.view_is d keeps _ _ (ap (with_all (committed_of g.K.Ord.cmp c.self.inside.active)) c.in_default.is) refl

pub returns-then-first-len-clause-why : goal.returns-then-first-len-clause-why
returns-then-first-len-clause-why g c = λ d keeps.
    let e : Keyed g.row.K.Denot g.row.V-Value.Denot
    = keyed_by g.K.Write.text g.V.Value.Write.text g.V.OperationCodec.operation_text g.K.Ord.cmp in
    told_at_last e g.V.Value.Read.view g.H.Hasher.hash_of (grafting_of g.F.Family.shape g.row.N) _ _ c.self.view_is d keeps
    (with_keys c.in-Some.last (committed_of g.K.Ord.cmp c.self.inside.active)) (ap (with_all (committed_of g.K.Ord.cmp c.self.inside.active)) c.in-Some.is) _ _ (λ commit kept.
    let past : length commit.snapshot.operations ≤ c.args.start
    = omega (arith, c.if-first-len.true, c.as_u64-first.ensures, c.len.ensures, kept.count) in
    sym (cond_no _ _ (RangeOutOfBounds c.args.start) (le-ltb _ _ past)))

pub returns-then-first-pruned-clause-why : goal.returns-then-first-pruned-clause-why
returns-then-first-pruned-clause-why g c = λ d keeps.
    let e : Keyed g.row.K.Denot g.row.V-Value.Denot
    = keyed_by g.K.Write.text g.V.Value.Write.text g.V.OperationCodec.operation_text g.K.Ord.cmp in
    let pruned : c.in-Some.last.pruned ≡ pruned_of c.args.self.now.last
    = sym (ap pruned_of (ap (with_all (committed_of g.K.Ord.cmp c.self.inside.active)) c.in-Some.is))
    ∙ ap (λ (k : KeptDatabase g.row.K.Denot g.row.V-Value.Denot). pruned_of k.last) c.self.view_is in
    let behind : c.args.start < pruned_of c.args.self.now.last
    = omega (arith, c.if-first-pruned.true, c.as_u64-first.ensures, c.pruned.ensures, pruned) in
    told_at_last e g.V.Value.Read.view g.H.Hasher.hash_of (grafting_of g.F.Family.shape g.row.N) _ _ c.self.view_is d keeps
    (with_keys c.in-Some.last (committed_of g.K.Ord.cmp c.self.inside.active)) (ap (with_all (committed_of g.K.Ord.cmp c.self.inside.active)) c.in-Some.is) _ _ (λ commit kept.
    let within : c.args.start < length commit.snapshot.operations
    = omega (arith, c.if-first-len.false, c.as_u64-first.ensures, c.len.ensures, kept.count) in
    sym (cond_yes _ (Pruned c.args.start) Memory (lt-ltb _ _ behind))
    ∙ sym (cond_yes _ _ (RangeOutOfBounds c.args.start) (lt-ltb _ _ within)))

pub returns-in_err-proof-clause-why : goal.returns-in_err-proof-clause-why
returns-in_err-proof-clause-why g c =
    let e : Keyed g.row.K.Denot g.row.V-Value.Denot
    = keyed_by g.K.Write.text g.V.Value.Write.text g.V.OperationCodec.operation_text g.K.Ord.cmp in
    let pruned : c.in-Some.last.pruned ≡ pruned_of c.args.self.now.last
    = sym (ap pruned_of (ap (with_all (committed_of g.K.Ord.cmp c.self.inside.active)) c.in-Some.is))
    ∙ ap (λ (k : KeptDatabase g.row.K.Denot g.row.V-Value.Denot). pruned_of k.last) c.self.view_is in
    let before : pruned_of c.args.self.now.last ≤ c.args.start
    = omega (arith, c.if-first-pruned.false, c.as_u64-first.ensures, c.pruned.ensures, pruned) in
    err_and _ _ c.from_residual.result (λ error same d keeps.
    told_at_last e g.V.Value.Read.view g.H.Hasher.hash_of (grafting_of g.F.Family.shape g.row.N) _ _ c.self.view_is d keeps
    (with_keys c.in-Some.last (committed_of g.K.Ord.cmp c.self.inside.active)) (ap (with_all (committed_of g.K.Ord.cmp c.self.inside.active)) c.in-Some.is) _ _ (λ commit kept.
    let within : c.args.start < length commit.snapshot.operations
    = omega (arith, c.if-first-len.false, c.as_u64-first.ensures, c.len.ensures, kept.count) in
    same ∙ sym (cond_no _ (Pruned c.args.start) Memory (le-ltb _ _ before))
    ∙ sym (cond_yes _ _ (RangeOutOfBounds c.args.start) (lt-ltb _ _ within)))) c.from_residual.ensures.1

pub returns-clause-own : goal.returns-clause-own
returns-clause-own g c = λ d keeps.
    let e : Keyed g.row.K.Denot g.row.V-Value.Denot
    = keyed_by g.K.Write.text g.V.Value.Write.text g.V.OperationCodec.operation_text g.K.Ord.cmp in
    let h = g.H.Hasher.hash_of in
    let gr = grafting_of g.F.Family.shape g.row.N in
    let log = c.self.inside.log in
    let entries = committed_of g.K.Ord.cmp c.self.inside.active in
    let last : KeptCommit g.row.K.Denot g.row.V-Value.Denot = with_keys c.in-Some.last entries in
    let since : IsSinceCommit log last
    = subst (λ (o : Option (KeptCommit g.row.K.Denot g.row.V-Value.Denot)). IsSince log o) (ap (with_all (committed_of g.K.Ord.cmp c.self.inside.active)) c.in-Some.is) c.self.invariant.1 in
    let few : last.count ≤ 2 ^ 62 = omega (arith, since.committed, log.within, log.few) in
    let first : ℕ = c.as_u64-first.result in
    let end : ℕ = c.min-end.result in
    let end_is : end ≡ end_of first c.args.max_ops last.count
    = omega (arith, c.saturating_add.ensures, c.len-2.ensures, c.min-end.ensures, few) in
    let within : first < last.count = omega (arith, c.if-first-len.false, c.len.ensures) in
    let behind : last.pruned ≤ first = omega (arith, c.if-first-pruned.false, c.pruned.ensures) in
    let lent : map (λ (v : Vec ℕ). v.items) (slice_range c.deref.result.now first end)
    ≡ slice_range (map (λ (v : Vec ℕ). v.items) log.operations.items) first end
    = texts_between c.deref.result.now first end
    ∙ ap (λ (l : List (Vec ℕ)). slice_range (map (λ (v : Vec ℕ). v.items) l) first end) c.deref.ensures.value in
    let proof = range_proof_of g.H.Digest.Digest.text c.in_ok-proof.proof in
    let page = page_at_last e g.V.Value.Read.view h gr
    (kept_of log c.self.inside.active.present.entries (with_all entries c.self.inside.last)) c.args.self.now c.self.view_is d keeps last (ap (with_all (committed_of g.K.Ord.cmp c.self.inside.active)) c.in-Some.is) first
    c.args.max_ops end behind within c.requires end_is proof c.in_ok-proof.chunks.items (c.in_ok-proof.ensures entries)
    (map (λ (v : Vec ℕ). v.items) (slice_range c.deref.result.now first end)) lent in
    subst (λ (start : ℕ). IsSomeAnd d.last (λ x. IsPage h gr x.snapshot start c.args.max_ops proof
    (map (λ (v : Vec ℕ). v.items) (slice_range c.deref.result.now first end)) c.in_ok-proof.chunks.items))
    c.as_u64-first.ensures page
