-- Commands that are read from the same bytes are alike.
use Rattle.std.proofs.Common.{◌≡◌, ℕ, List, Option, Some, None, option_map, sym, ap, ◌∙◌}
use Rattle.storage_codec.specs.Codec.{Answer}
use Rattle.storage_ops.specs.Operations.{OperationView, operation_map}
use Rattle.storage_ops.specs.Operations as operation
use Rattle.storage_ops.specs.PrefixFree.{IsPrefixFree}
use Rattle.storage_current.specs.Keys.{Keyed}
use Rattle.std.specs.Prelude.{Ok}
use Rattle.storage_db.specs.Databases.{Command, Commit, Delete, Put}
use Rattle.storage_db.specs.Opening.{ReadsAs, ReadsCommand}
use Rattle.storage_db.specs.Replays.{IsAlike}
use Rattle.storage_db.proofs.Cases.{some_not_none, somes}

module _ {K W U V X Y : Type 0} (e : Keyed K W) (parse : List ℕ → Answer V) (view : OperationView K U W → V)
    (kview : K → X) (vview : W → Y) (seen : U → X × Y × X) (update : K → W → K → U)
    (made : (k : K) (v : W) (n : K) → seen (update k v n) ≡ (kview k, vview v, kview n))
    (same : (x y : OperationView K U W) → view x ≡ view y
    → operation_map kview seen vview x ≡ operation_map kview seen vview y)
    (keys : IsPrefixFree e.key kview) (values : IsPrefixFree e.value vview) where
  abbrev Reads : List ℕ → OperationView K U W → Type 0
  Reads = ReadsAs parse view

  -- two that are read from the same bytes are seen alike
  seen_alike : (bytes : List ℕ) (x y : OperationView K U W) → Reads bytes x → Reads bytes y
      → operation_map kview seen vview x ≡ operation_map kview seen vview y
  seen_alike bytes x y first second =
      let pair : V → List ℕ → V × List ℕ = λ v r. (v, r) in
      let both : Ok (pair (view x) first.0) ≡ Ok (pair (view y) second.0) = sym first.1 ∙ second.1 in
      let pairs : pair (view x) first.0 ≡ pair (view y) second.0 = cc in
      same x y (ap (λ (p : V × List ℕ). p.0) pairs)

  values_alike : (m n : Option W) → option_map vview n ≡ option_map vview m → option_map e.value n ≡ option_map e.value m
  values_alike None None shown = cc
  values_alike None (Some w) shown = absurd (some_not_none _ shown)
  values_alike (Some v) None shown = absurd (some_not_none _ (sym shown))
  values_alike (Some v) (Some w) shown = ap Some (values.seen w v (somes _ _ shown))

  pub reads_alike : (bytes : List ℕ) (x y : Command K W) → ReadsCommand Reads update bytes x → ReadsCommand Reads update bytes y
      → IsAlike e vview x y
  reads_alike bytes (Put k v) (Put l w) first second =
      let shown = seen_alike bytes (operation.Update (update k v first.0)) (operation.Update (update l w second.0)) first.1 second.1 in
      let triples : seen (update k v first.0) ≡ seen (update l w second.0) = cc in
      let parts : (kview k, vview v, kview first.0) ≡ (kview l, vview w, kview second.0)
      = sym (made k v first.0) ∙ triples ∙ made l w second.0 in (
        keys.seen l k (sym (ap (λ (p : X × Y × X). p.0) parts)),
        values.seen w v (sym (ap (λ (p : X × Y × X). p.1) parts)),
        sym (ap (λ (p : X × Y × X). p.1) parts),
      )
  reads_alike bytes (Put k v) (Delete l) first second =
      let shown = seen_alike bytes (operation.Update (update k v first.0)) (operation.Delete l) first.1 second in absurd (cc)
  reads_alike bytes (Put k v) (Commit n) first second =
      let shown = seen_alike bytes (operation.Update (update k v first.0)) (operation.CommitFloor n second.0) first.1 second.1 in
      absurd (cc)
  reads_alike bytes (Delete k) (Put l w) first second =
      let shown = seen_alike bytes (operation.Delete k) (operation.Update (update l w second.0)) first second.1 in absurd (cc)
  reads_alike bytes (Delete k) (Delete l) first second =
      let shown = seen_alike bytes (operation.Delete k) (operation.Delete l) first second in
      let both : kview k ≡ kview l = cc in
      keys.seen l k (sym both)
  reads_alike bytes (Delete k) (Commit n) first second =
      let shown = seen_alike bytes (operation.Delete k) (operation.CommitFloor n second.0) first second.1 in absurd (cc)
  reads_alike bytes (Commit m) (Put l w) first second =
      let shown = seen_alike bytes (operation.CommitFloor m first.0) (operation.Update (update l w second.0)) first.1 second.1 in
      absurd (cc)
  reads_alike bytes (Commit m) (Delete l) first second =
      let shown = seen_alike bytes (operation.CommitFloor m first.0) (operation.Delete l) first.1 second in absurd (cc)
  reads_alike bytes (Commit m) (Commit n) first second =
      let shown = seen_alike bytes (operation.CommitFloor m first.0) (operation.CommitFloor n second.0) first.1 second.1 in
      let both : option_map vview m ≡ option_map vview n = cc in
      (values_alike m n (sym both), sym both)
