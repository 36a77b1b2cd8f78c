-- Both families can be grafted.
use Rattle.std.proofs.Common.{◌≡◌, ℕ, ◌+◌, ◌-◌, ◌/◌, ◌<◌, ◌^◌, inl, inr, ap, ◌∙◌, arith, pow_pos, lt-ltb, le-ltb}
use Rattle.std.proofs.lemmas.Bool.{cases_lt}
use Rattle.std.proofs.Math.Nat.{div-lt_iff_lt-mul, add-div_right}
use Rattle.storage_merkle.specs.Shape.{Shape, Laws}
use Rattle.storage_merkle.specs.Mmr.{mmr}
use Rattle.storage_merkle.specs.Mmb.{mmb}
use Rattle.storage_merkle.specs.Laws.Mmr.{mmr_laws}
use Rattle.storage_merkle.specs.Laws.Mmb.{mmb_laws}
use Rattle.storage_current.specs.Snapshots.{graftable_at}
use Rattle.storage_current.specs.CurrentSoundness.{AreLawful}
use Rattle.storage_current.specs.Laws.Grafting.{graftable_by_birth, one_pending}

lawful : (S : Shape) → Laws S → (k : ℕ) → AreLawful S k
lawful S L k = record { laws = L; graftable = graftable_by_birth S L k; one_pending = one_pending S L k }

pub lawful_mmr : (k : ℕ) → AreLawful mmr k
lawful_mmr k = lawful mmr mmr_laws k

pub lawful_mmb : (k : ℕ) → AreLawful mmb k
lawful_mmb k = lawful mmb mmb_laws k

-- an MMR has no pending chunk
pub none_pending : (k n : ℕ) → n / 2 ^ k ≡ graftable_at mmr k n
none_pending k n =
    let positive : 0 < 2 ^ k = pow_pos k in
    let first : 0 + 2 ^ k ≡ 2 ^ k = omega arith in
    elim (cases_lt n (0 + 2 ^ k)) [
      | inl few ↦
          let less : n / 2 ^ k < 1 = (div-lt_iff_lt-mul positive).1 (omega arith) in
          rw (lt-ltb n (0 + 2 ^ k) few) (omega arith)
      | inr enough ↦
          let parts : n ≡ (n - (0 + 2 ^ k)) + 2 ^ k = omega arith in
          let e : n / 2 ^ k ≡ (n - (0 + 2 ^ k)) / 2 ^ k + 1 =
          ap (λ (x : ℕ). x / 2 ^ k) parts ∙ add-div_right (n - (0 + 2 ^ k)) positive in
          rw (le-ltb n (0 + 2 ^ k) enough) e
    ]
