-- Reading the payloads of fixed commits, step by step.
use Rattle.std.proofs.Common.{◌≡◌, ℕ, List, Bool, true, false, Option, Some, None, Ok, refl}
use Rattle.storage_codec.specs.declared.codec.error.Error.{Error}
use Rattle.storage_codec.specs.Codec.{Answer, MayFail, bool_at}
use Rattle.storage_ops.specs.Fixed.{presence_at}
use Rattle.storage_codec.specs.Padding.{zeros_at}
use Rattle.storage_codec.specs.Laws.Failing.{fails_mapped}

-- a value behind its presence byte, or zeros in its place
module _ {V : Type 0} (parse : List ℕ → Answer V) (size : ℕ) (bytes mid : List ℕ) (there : Bool) where
  pub value_read : (v : V) (rest : List ℕ) → bool_at bytes ≡ Ok (there, mid) → there ≡ true → parse mid ≡ Ok (v, rest)
      → presence_at parse size bytes ≡ Ok (Some v, rest)
  value_read v rest a t b = rw (a, t, b) refl

  pub value_fails : (e : Error) → bool_at bytes ≡ Ok (there, mid) → there ≡ true → MayFail e (parse mid)
      → MayFail e (presence_at parse size bytes)
  value_fails e a t m = rw (a, t) (fails_mapped e Some (parse mid) m)

  pub none_read : (rest : List ℕ) → bool_at bytes ≡ Ok (there, mid) → there ≡ false → zeros_at size mid ≡ Ok (tt, rest)
      → presence_at parse size bytes ≡ Ok (None, rest)
  none_read rest a t b = rw (a, t, b) refl

  pub none_fails : (e : Error) → bool_at bytes ≡ Ok (there, mid) → there ≡ false → MayFail e (zeros_at size mid)
      → MayFail e (presence_at parse size bytes)
  none_fails e a t m = rw (a, t) (fails_mapped e (λ _. None) (zeros_at size mid) m)
