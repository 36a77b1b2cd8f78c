-- The own range proof of a snapshot is accepted.
use Rattle.std.proofs.Common.{◌≡◌, ◌≢◌, ℕ, zero, suc, ◌+◌, ◌-◌, ◌*◌, ◌/◌, ◌%◌, ◌<◌, ◌≤◌, ◌^◌, List, [], length, get_or, Bool, true, false, not, if◌then◌else◌, ◌||◌, leb, eqb, inl, inr, refl, sym, ap, ◌∙◌, arith, subst, Some, None, is_some, pow_pos, leb-true, leb-false, eqb-true, ne_eqb, suc-mul}
use Rattle.std.specs.Option.{option_map}
use Rattle.std.proofs.lemmas.Nat.{div-add-mod'}
use Rattle.std.proofs.Math.Nat.{div-lt_iff_lt-mul, le-div_iff_mul-le}
use Rattle.storage_codec.specs.Digests.{HashFunction}
use Rattle.storage_merkle.specs.declared.merkle.bagging.Bagging.TheVariants.{BackwardFold}
use Rattle.storage_merkle.specs.Trees.{Layout}
use Rattle.storage_merkle.specs.RangeProofs.{IsOwn, AreDigests, CountsFit, recomputed_root}
use Rattle.storage_merkle.specs.Soundness.{OwnRangeProofsAreAccepted}
use Rattle.storage_bitmap.specs.Chunks.{chunk, chunks_from}
use Rattle.storage_current.specs.Snapshots.{Grafting, IsGrafting, height, graftable, view, Snapshot, IsSnapshot, canonical_string, content, aligned_of, ops_root_of, grafted_root_of, pending_of, partial_of, canonical_root, first_chunk, last_chunk, Holds, RangeProof, own_range_proof}
use Rattle.storage_current.specs.CurrentProofs.{claimed, claim, IsCurrent}
use Rattle.storage_current.specs.Laws.Grafting.{and-true, one_pending, aligned-le}
use Rattle.storage_current.proofs.Padding.{supplied-get}
use Rattle.storage_current.proofs.Bits.{get_or-chunks_from, length-chunks_from}
use Rattle.storage_current.proofs.RangeSound.{chunk-length}

pub or-false : (x y : Bool) → (x || y) ≡ false → (x ≡ false) × (y ≡ false)
or-false true true e = cc
or-false true false e = cc
or-false false true e = cc
or-false false false e = (refl, refl)

some_if : (h : HashFunction) (b : Bool) (x : List ℕ) → is_some (option_map h (if b then Some x else None)) ≡ b
some_if h true x = refl
some_if h false x = refl

some_unless : (h : HashFunction) (b : Bool) (x : List ℕ) → is_some (option_map h (if b then None else Some x)) ≡ not b
some_unless h true x = refl
some_unless h false x = refl

given_if : (h : HashFunction) (b : Bool) (x y : List ℕ) → b ≡ true → y ≡ x
    → option_map h (if b then Some x else None) ≡ Some (h y)
given_if h true x y e f = ap (λ z. Some (h z)) (sym f)
given_if h false x y e f = cc

given_unless : (h : HashFunction) (b : Bool) (x y : List ℕ) → b ≡ false → y ≡ x
    → option_map h (if b then None else Some x) ≡ Some (h y)
given_unless h true x y e f = cc
given_unless h false x y e f = ap (λ z. Some (h z)) (sym f)

chunk_lengths : (n : ℕ) (bits : List Bool) (count j : ℕ) → AreDigests n (chunks_from n bits count j)
unfolding chunks_from
chunk_lengths n bits zero j = tt
chunk_lengths n bits (suc count) j = (chunk-length n bits j, chunk_lengths n bits count (suc j))

module _ (accepted : OwnRangeProofsAreAccepted) (h : HashFunction) (g : Grafting) (grafting : IsGrafting g)
    (s : Snapshot) (snapshot : IsSnapshot s) (start : ℕ) (operations chunks : List (List ℕ))
    (holds : Holds g s start operations chunks) where
  abbrev own : RangeProof
  own = own_range_proof h g s start (start + length operations)

  there : (j : ℕ) → first_chunk g start ≤ j → j ≤ last_chunk g start (length operations)
      → claimed h g own start operations chunks j ≡ chunk g.bytes s.bits j
  there j l u =
      let f = first_chunk g start in
      let count : ℕ = last_chunk g start (length operations) - first_chunk g start + 1 in
      let back : f + (j - f) ≡ j = omega arith in
      supplied-get f chunks j l ∙ ap (λ cs. get_or cs (j - f) []) holds.chunks_are
      ∙ get_or-chunks_from g.bytes s.bits [] count f (j - f) (omega arith) ∙ ap (chunk g.bytes s.bits) back

  abbrev v : Layout
  v = view g (length s.operations)

  range_own : IsOwn h v BackwardFold own.range start (claim h g own start operations chunks) (content h g s)
      (aligned_of h g s)
  range_own = record {
    proof_is = refl;
    elements_are = holds.there;
    chunks_are = λ a k one t multiple inside touches.
        let P = 2 ^ height g in
        let high = start + length operations in
        let positive : 0 < P = pow_pos (height g) in
        let r = or-false (leb (a + 2 ^ k) start) (leb high a) touches in
        let x : start < a + 2 ^ k = leb-false (a + 2 ^ k) start r.0 in
        let y : a < high = leb-false high a r.1 in
        let level : k ≡ height g = eqb-true k (height g) (and-true (eqb k (height g)) _ t).0 in
        let size : 2 ^ k ≡ P = ap (λ i. 2 ^ i) level in
        let parts = and-true (eqb (a % P) 0) _ (and-true (eqb k (height g)) _ t).1 in
        let none : a % P ≡ 0 = eqb-true (a % P) 0 parts.0 in
        let whole : a / P * P ≡ a = omega (arith, div-add-mod' a P) in
        let low : start / P < suc (a / P) = (div-lt_iff_lt-mul positive).1 (omega (arith, suc-mul (a / P) P)) in
        let top : a / P ≤ (high - 1) / P = (le-div_iff_mul-le positive).1 (omega arith) in
        there (a / P) (omega arith) top;
  }

  fits : CountsFit h v BackwardFold own.range start (claim h g own start operations chunks) × (recomputed_root h v
      BackwardFold own.range start (claim h g own start operations chunks) ≡ grafted_root_of h g s)
  fits =
      elim (accepted h v grafting.laws BackwardFold own.range start (claim h g own start operations chunks)
      (content h g s) (aligned_of h g s) snapshot.few
      (aligned-le g.shape (length s.operations) s.floor (height g)) holds.some range_own) [
        | inl ok ↦ ok
        | inr empty ↦ absurd (let some = holds.some in omega (arith, ap length empty.0.none))
      ]

  pub own_current_is_accepted : IsCurrent h g own start operations chunks (canonical_root h g s)
  own_current_is_accepted =
      let n = length s.operations in
      let P = 2 ^ height g in
      let positive : 0 < P = pow_pos (height g) in
      let high = start + length operations in
      let some = holds.some in
      let within = holds.there.within in
      record {
        size = grafting.size;
        counts = fits.0;
        chunk_count = ap length holds.chunks_are ∙ length-chunks_from g.bytes s.bits _ _;
        chunk_lengths = subst (AreDigests g.bytes) (sym holds.chunks_are) (chunk_lengths g.bytes s.bits _ _);
        one_pending = one_pending g.shape grafting.laws (height g) n;
        has_pending = some_if h _ _;
        has_partial = some_unless h _ _;
        pending_is = λ t.
            let one = and-true (leb (start / P) (graftable g n)) _ t in
            let two = and-true (leb (graftable g n) ((high - 1) / P)) _ one.1 in
            given_if h _ _ _ two.1 (there (graftable g n) (leb-true (start / P) (graftable g n) one.0)
            (leb-true (graftable g n) ((high - 1) / P) two.0));
        partial_is = λ t.
            let top : n / P ≤ (high - 1) / P = leb-true (n / P) ((high - 1) / P) t in
            let m : n / P * P ≤ high - 1 = (le-div_iff_mul-le positive).0 top in
            let some' : n % P ≢ 0 = omega (arith, div-add-mod' n P) in
            let low : start / P ≤ n / P = (le-div_iff_mul-le positive).1 (omega (arith, div-add-mod' start P)) in
            given_unless h _ _ _ (ne_eqb (n % P) 0 some') (there (n / P) low top);
        root_is = ap (λ x. h (canonical_string (ops_root_of h g s) x (option_map h (pending_of h g s)) (n % P)
            (option_map h (partial_of h g s)))) fits.1;
      }
