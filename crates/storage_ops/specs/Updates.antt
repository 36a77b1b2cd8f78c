-- Updates: what reading answers for the parts, one after the other.
use Rattle.std.specs.Prelude.{ℕ, List}
use Rattle.storage_codec.specs.Faults.{◌>>=◌}
use Rattle.storage_codec.specs.Codec.{Answer, mapped}

-- key, value, next key
abbrev pub ordered_at : {K V : Type 0} → (List ℕ → Answer K) → (List ℕ → Answer V) → List ℕ → Answer (K × V × K)
ordered_at key value bytes = key bytes >>= λ k. value k.1 >>= λ v. mapped (λ n. (k.0, v.0, n)) (key v.1)

-- key, value
abbrev pub unordered_at : {K V : Type 0} → (List ℕ → Answer K) → (List ℕ → Answer V) → List ℕ → Answer (K × V)
unordered_at key value bytes = key bytes >>= λ k. mapped (λ v. (k.0, v)) (value k.1)
