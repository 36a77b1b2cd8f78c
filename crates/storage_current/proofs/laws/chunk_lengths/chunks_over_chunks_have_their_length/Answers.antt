use Rattle.std.proofs.Common.{subst, sym}
use Rattle.storage_merkle.specs.Shape.{Laws}
use Rattle.storage_current.proofs.ChunkLengths.{raised_chunks}
use Rattle.storage_current.proofs.laws.chunk_lengths.chunks_over_chunks_have_their_length.Goals as goal

pub returns : goal.returns
returns g c = λ size cut each leaves. let s = c.args.hasher.now in
    raised_chunks (g.H.Hasher.layout s.inner) (subst Laws (sym (g.met.H.Hasher.over s.inner)) g.met.F.Family.laws) size
    s.height cut (g.H.Hasher.chunk s.inner) each leaves
