-- What the check of a current range proof looks at before it hashes.
use Rattle.std.proofs.Common.{◌≡◌, ℕ, ◌+◌, ◌-◌, ◌*◌, ◌/◌, ◌%◌, ◌<◌, ◌≤◌, ◌^◌, List, [], length, get_or, true, false, not, if◌then◌else◌, leb, ltb, eqb, refl, sym, arith, pow_pos, leb-true, le-leb, ne_eqb, le-ltb}
use Rattle.std.proofs.lemmas.Bool.{ltb-false}
use Rattle.std.proofs.lemmas.Nat.{div-add-mod'}
use Rattle.std.proofs.Math.Nat.{div-mul-le_self, le-div_iff_mul-le}
use Rattle.storage_codec.specs.Digests.{HashFunction}
use Rattle.storage_merkle.specs.Shape.{Shape, Laws}
use Rattle.storage_merkle.specs.declared.merkle.bagging.Bagging.TheVariants.{BackwardFold}
use Rattle.storage_merkle.specs.RangeProofs.{AreDigests, CountsFit, recomputed_root}
use Rattle.storage_current.specs.Snapshots.{Grafting, height, complete, graftable, graftable_at, view, canonical_string, first_chunk, last_chunk, RangeProof}
use Rattle.storage_current.specs.CurrentProofs.{claimed, claim, IsCurrent}
use Rattle.storage_current.specs.Windows.{IsWindow, IsMatched}
use Rattle.storage_current.specs.Laws.Grafting.{and-true}

-- a graftable chunk is complete
pub graftable_within : (S : Shape) → Laws S → (k n : ℕ) → graftable_at S k n ≤ n / 2 ^ k
graftable_within S L k n =
    let positive : 0 < 2 ^ k = pow_pos k in
    let late = L.late 0 k in
    elim (ltb n (S.birth 0 k)) as (λ b. ltb n (S.birth 0 k) ≡ b
    → (if b then 0 else (n - S.birth 0 k) / 2 ^ k + 1) ≤ n / 2 ^ k) [
      | true ↦ λ e. omega arith
      | false ↦ λ e.
          let enough : S.birth 0 k ≤ n = ltb-false n (S.birth 0 k) e in
          let low = div-mul-le_self (n - S.birth 0 k) (2 ^ k) in
          let q : ℕ = (n - S.birth 0 k) / 2 ^ k in
          (le-div_iff_mul-le {x = q + 1} positive).1 (added q (2 ^ k) (n - S.birth 0 k) n low (omega arith))
    ] refl
  where
    added : (q m x n : ℕ) → q * m ≤ x → x + m ≤ n → (q + 1) * m ≤ n
    added q m x n l f = let e : (q + 1) * m ≡ q * m + m = grind arith in omega arith

module _ (h : HashFunction) (g : Grafting) (proof : RangeProof) (start : ℕ) (operations chunks : List (List ℕ)) where
  abbrev leaves : ℕ
  leaves = proof.range.leaves

  abbrev count : ℕ
  count = length operations

  abbrev pub Pending : Type 0
  Pending = IsMatched h proof.pending (ltb (graftable g leaves) (complete g leaves)) (first_chunk g start)
      (last_chunk g start count) (graftable g leaves) chunks

  abbrev pub Partial : Type 0
  Partial = IsMatched h proof.partial (not (eqb (leaves % 2 ^ height g) 0)) (first_chunk g start)
      (last_chunk g start count) (complete g leaves) chunks

  abbrev Fits : Type 0
  Fits = CountsFit h (view g leaves) BackwardFold proof.range start (claim h g proof start operations chunks)

  abbrev computed : List ℕ
  computed = recomputed_root h (view g leaves) BackwardFold proof.range start (claim h g proof start operations chunks)

  -- a claimed chunk from the first on
  claimed_at : (j : ℕ) → first_chunk g start ≤ j
      → claimed h g proof start operations chunks j ≡ get_or chunks (j - first_chunk g start) []
  claimed_at j from = rw (le-ltb j (first_chunk g start) from) refl

  -- the last chunk of a range among the leaves is no later than the one after the complete ones, and where it is that one, some
  -- bits are in it
  last_within : 0 < count → start + count ≤ leaves → last_chunk g start count ≤ complete g leaves
  last_within some within =
      let positive : 0 < 2 ^ height g = pow_pos (height g) in
      let low = div-mul-le_self (start + count - 1) (2 ^ height g) in
      (le-div_iff_mul-le {x = last_chunk g start count} positive).1 (omega arith)

  first_within : start + count ≤ leaves → first_chunk g start ≤ complete g leaves
  first_within within =
      let positive : 0 < 2 ^ height g = pow_pos (height g) in
      let low = div-mul-le_self start (2 ^ height g) in
      (le-div_iff_mul-le {x = first_chunk g start} positive).1 (omega arith)

  partial_there : 0 < count → start + count ≤ leaves → complete g leaves ≤ last_chunk g start count
      → not (eqb (leaves % 2 ^ height g) 0) ≡ true
  partial_there some within reached =
      let positive : 0 < 2 ^ height g = pow_pos (height g) in
      let up : complete g leaves * 2 ^ height g ≤ start + count - 1 =
      (le-div_iff_mul-le {x = complete g leaves} positive).0 reached in
      let parts : leaves ≡ leaves / 2 ^ height g * 2 ^ height g + leaves % 2 ^ height g =
      sym (div-add-mod' leaves (2 ^ height g)) in
      let e : eqb (leaves % 2 ^ height g) 0 ≡ false = ne_eqb (leaves % 2 ^ height g) 0 (λ z. omega arith) in
      rw e refl

  pub current_from : IsWindow g leaves start count (length chunks) → AreDigests g.bytes chunks → Partial × Pending
      → Fits → {root : List ℕ}
      → h (canonical_string proof.ops_root computed proof.pending (leaves % 2 ^ height g) proof.partial) ≡ root
      → IsCurrent h g proof start operations chunks root
  current_from w sized both fits e = record {
    size = w.size;
    counts = fits;
    chunk_count = w.chunk_count;
    chunk_lengths = sized;
    one_pending = w.one_pending;
    has_pending = both.1.has;
    has_partial = both.0.has;
    pending_is = λ touched.
        let a = and-true (leb (first_chunk g start) (graftable g leaves)) _ touched in
        let b = and-true (leb (graftable g leaves) (last_chunk g start count)) _ a.1 in
        let from : first_chunk g start ≤ graftable g leaves = leb-true _ _ a.0 in
        rw (claimed_at (graftable g leaves) from) (both.1.is b.1 from (leb-true _ _ b.0));
    partial_is = λ touched.
        let reached : complete g leaves ≤ last_chunk g start count = leb-true _ _ touched in
        let from : first_chunk g start ≤ complete g leaves = first_within w.within in
        rw (claimed_at (complete g leaves) from) (both.0.is (partial_there w.some w.within reached) from reached);
    root_is = e;
  }

  module _ (root : List ℕ) (c : IsCurrent h g proof start operations chunks root) where
    pub current_window : IsWindow g leaves start count (length chunks)
    current_window = record {
      size = c.size;
      some = c.counts.some;
      few = c.counts.few;
      within = c.counts.within;
      chunk_count = c.chunk_count;
      one_pending = c.one_pending;
    }

    pub current_slots : Partial × Pending
    current_slots = (
      record {
        has = c.has_partial;
        is = λ there from to. rw (claimed_at (complete g leaves) from) at (c.partial_is (le-leb _ _ to));
      },
      record {
        has = c.has_pending;
        is = λ there from to. rw (claimed_at (graftable g leaves) from) at
            (c.pending_is (rw (le-leb _ _ from, le-leb _ _ to, there) refl));
      },
    )
