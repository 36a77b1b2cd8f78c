-- A payload, and then the zeros behind it.
use Rattle.std.proofs.Common.{◌≡◌, ℕ, List, Ok, refl}
use Rattle.storage_codec.specs.declared.codec.error.Error.{Error}
use Rattle.storage_codec.specs.Codec.{Answer, MayFail, mapped}
use Rattle.storage_ops.specs.Fixed.{padded}
use Rattle.storage_codec.specs.Padding.{zeros_at}
use Rattle.storage_codec.specs.Laws.Failing.{fails_mapped}

module _ {V W : Type 0} (f : V → W) (n : ℕ) (payload : Answer V) (x : V) (mid : List ℕ) where
  pub padded_read : (rest : List ℕ) → payload ≡ Ok (x, mid) → zeros_at n mid ≡ Ok (tt, rest)
      → padded n (mapped f payload) ≡ Ok (f x, rest)
  padded_read rest p z = rw (p, z) refl

  pub padded_fails : (e : Error) → payload ≡ Ok (x, mid) → MayFail e (zeros_at n mid)
      → MayFail e (padded n (mapped f payload))
  padded_fails e p m = rw p (fails_mapped e (λ _. f x) (zeros_at n mid) m)
