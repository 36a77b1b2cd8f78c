use Rattle.std.proofs.Common.{refl, sym, ◌∙◌, rules}
use Rattle.storage_codec.specs.Laws.Parts.{ends_then}
use Rattle.storage_bitmap.specs.Chunks.{IsChunkSize}
use Rattle.storage_codec.specs.Laws.Failing.{fails_then}
use Rattle.storage_current.proofs.SharedChunks.{chunk_size_is, operations_alike}
use Rattle.storage_current.proofs.qmdb.current.proof.operation.codec.ProofBytesRead.read_cfg.Goals as goal

pub returns-in-Ok-read_cfg-clause-ends : goal.returns-in-Ok-read_cfg-clause-ends
returns-in-Ok-read_cfg-clause-ends g c =
    ends_then c.read_cfg.ensures.ends (ends_then c.cut.ensures.ends c.read_cfg-2.ensures.ends)

pub returns-in-Err-read_cfg-clause-ends : goal.returns-in-Err-read_cfg-clause-ends
returns-in-Err-read_cfg-clause-ends g c =
    ends_then c.read_cfg.ensures.ends (ends_then c.cut.ensures.ends c.read_cfg-2.ensures.ends)

pub returns-then-is_none-clause-gives : goal.returns-then-is_none-clause-gives
returns-then-is_none-clause-gives g c = search rules

pub returns-in-Err-clause-gives : goal.returns-in-Err-clause-gives
returns-in-Err-clause-gives g c =
    let is : IsChunkSize c.args.cfg.now.0 =
    chunk_size_is c.chunk_height.result c.chunk_height.ensures.size c.if-is_none.ensures in
    rw (← operations_alike _ _ _ _ is _) (fails_then _ _ _ c.in-Err.ensures.gives)

pub returns-in-Ok-read_cfg-clause-gives : goal.returns-in-Ok-read_cfg-clause-gives
returns-in-Ok-read_cfg-clause-gives g c =
    let is : IsChunkSize c.args.cfg.now.0 =
    chunk_size_is c.chunk_height.result c.chunk_height.ensures.size c.if-is_none.ensures in
    sym (operations_alike _ _ _ _ is _)
    ∙ rw (c.in-Ok.ensures.gives, c.in-Ok-cut.ensures.gives, c.in-Ok-read_cfg.ensures.gives) refl

pub returns-in-Err-cut-clause-gives : goal.returns-in-Err-cut-clause-gives
returns-in-Err-cut-clause-gives g c =
    let is : IsChunkSize c.args.cfg.now.0 =
    chunk_size_is c.chunk_height.result c.chunk_height.ensures.size c.if-is_none.ensures in
    rw (← operations_alike _ _ _ _ is _, c.in-Ok.ensures.gives) (fails_then _ _ _ c.in-Err-cut.ensures.gives)

pub returns-in-Err-read_cfg-clause-gives : goal.returns-in-Err-read_cfg-clause-gives
returns-in-Err-read_cfg-clause-gives g c =
    let is : IsChunkSize c.args.cfg.now.0 =
    chunk_size_is c.chunk_height.result c.chunk_height.ensures.size c.if-is_none.ensures in
    rw (← operations_alike _ _ _ _ is _, c.in-Ok.ensures.gives, c.in-Ok-cut.ensures.gives)
    (fails_then _ _ _ c.in-Err-read_cfg.ensures.gives)
