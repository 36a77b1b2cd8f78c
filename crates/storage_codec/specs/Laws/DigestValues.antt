-- One value for one digest.
use Rattle.std.proofs.Common.{◌≡◌, ℕ, ◌^◌, ◌≤◌, List, length, ap₂, subst}
use Rattle.std.proofs.Props.{props}
use Rattle.storage_codec.specs.declared.codec.fixed.FixedBytes.{FixedBytes}
use Rattle.storage_codec.specs.DigestValues.{fixed_bytes}

length_once : (a b : ℕ) → IsProp (a ≡ b)
length_once a b = hlevel props

small_once : (a b : ℕ) → IsProp (a ≤ b)
small_once a b = hlevel props

pub one_digest : (n : ℕ) (x y : FixedBytes n) → x.bytes ≡ y.bytes → x ≡ y
one_digest n x y e =
    let P : List ℕ → Type 0 = λ b. (p : length b ≡ n) (q : n ≤ 2 ^ 32) → x ≡ fixed_bytes n b p q in
    subst P e (λ p q. ap₂ (fixed_bytes n x.bytes) (length_once (length x.bytes) n x.full p) (small_once n (2 ^ 32) x.small q))
    y.full y.small
