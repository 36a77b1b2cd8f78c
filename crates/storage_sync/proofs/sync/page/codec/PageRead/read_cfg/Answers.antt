use Rattle.std.proofs.Common.{◌≡◌, ℕ, map, length, subst, arith}
use Rattle.std.proofs.lemmas.List.{length-map}
use Rattle.storage_codec.specs.Codec.{MayFail, front_at}
use Rattle.storage_codec.specs.Laws.Parts.{ends_then}
use Rattle.storage_sync.specs.Messages.{list_at}
use Rattle.storage_sync.proofs.Lists.{fails_then}
use Rattle.storage_sync.proofs.sync.page.codec.PageRead.read_cfg.Goals as goal

pub returns-in-Ok-read_chunks-clause-ends : goal.returns-in-Ok-read_chunks-clause-ends
returns-in-Ok-read_chunks-clause-ends g c =
    ends_then c.read_cfg.ensures.ends (ends_then c.read_strings.ensures.ends c.read_chunks.ensures.ends)

pub returns-in-Err-read_chunks-clause-ends : goal.returns-in-Err-read_chunks-clause-ends
returns-in-Err-read_chunks-clause-ends g c =
    ends_then c.read_cfg.ensures.ends (ends_then c.read_strings.ensures.ends c.read_chunks.ensures.ends)

pub returns-in-Err-read_chunks-clause-gives : goal.returns-in-Err-read_chunks-clause-gives
returns-in-Err-read_chunks-clause-gives g c =
    let operations = c.in-Ok-read_strings.operations.items in
    let count : c.len.result ≡ length (map (λ s. s.items) operations) =
    omega (arith, c.len.ensures, length-map operations (λ s. s.items)) in
    let failed = subst (λ (k : ℕ). MayFail c.in-Err-read_chunks.error (list_at (front_at c.args.cfg.now.0) k
    (g.B.Buf.unread c.read_strings.new.buf))) count c.in-Err-read_chunks.ensures.gives in
    rw (c.in-Ok.ensures.gives, c.in-Ok-read_strings.ensures.gives) (fails_then _ _ _ failed)
