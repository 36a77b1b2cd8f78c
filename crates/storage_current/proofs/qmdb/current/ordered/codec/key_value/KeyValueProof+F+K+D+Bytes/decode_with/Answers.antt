use Rattle.std.proofs.Common.{◌≡◌, [], refl, arith}
use Rattle.std.proofs.lemmas.List.{nil_from_length}
use Rattle.storage_current.proofs.qmdb.current.ordered.codec.key_value.KeyValueProof+F+K+D+Bytes.decode_with.Goals as goal

pub returns : goal.returns
returns g c =
    let nothing : g.B.Buf.unread c.read_with.new.buf ≡ [] = nil_from_length _ (omega (arith, c.remaining-left.ensures)) in
    rw (c.in_ok-value.ensures.gives, nothing) refl
