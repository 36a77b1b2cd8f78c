use Rattle.std.proofs.Common.{map}
use Rattle.storage_current.proofs.ChunkLengths.{range_chunks, location_chunks}
use Rattle.storage_current.proofs.laws.chunk_lengths.supplied_chunks_have_their_length.Goals as goal

pub returns-clause-range : goal.returns-clause-range
returns-clause-range g c = λ size leaves low high given. let v = c.args.hasher.now in
    range_chunks size v.height v.graftable_chunks v.start_chunk_index (map (λ x. x.now) v.chunks.items) g.F.Family.shape
    leaves low high given

pub returns-clause-locations : goal.returns-clause-locations
returns-clause-locations g c = λ size leaves claimed given. let v = c.args.hasher.now in
    location_chunks size v.height v.graftable_chunks v.start_chunk_index (map (λ x. x.now) v.chunks.items)
    g.F.Family.shape leaves claimed given
