-- A page of a database's log, from the parts that a database in memory lends.
use Rattle.std.proofs.Common.{◌≡◌, ℕ, zero, suc, ◌+◌, ◌-◌, ◌*◌, ◌/◌, ◌^◌, ◌<◌, ◌≤◌, Bool, List, [], length, map, take, drop, get_or, Option, Some, refl, sym, ap, ◌∙◌, subst, arith}
use Rattle.std.specs.Global.{Vec}
use Rattle.std.specs.List.{slice_range}
use Rattle.std.specs.Prelude.{MatchOption, IsSomeAnd}
use Rattle.std.proofs.lemmas.List.{drop-map, get_or-drop, get_or-take, length-drop, length-take, take-map, drop-drop}
use Rattle.storage_bitmap.specs.Chunks.{IsRest, Retained, chunk, chunks_from, packed_bytes}
use Rattle.storage_codec.specs.Digests.{HashFunction}
use Rattle.storage_current.specs.Keys.{Keyed}
use Rattle.storage_current.specs.Served.{end_of}
use Rattle.storage_current.specs.Snapshots.{Grafting, RangeProof, Snapshot, first_chunk, height, own_range_proof}
use Rattle.storage_merkle.specs.RangeProofs.{StandAt}
use Rattle.storage_db.specs.Databases.{Committed, Database}
use Rattle.storage_db.specs.Kept.{AreFirst, KeptDatabase, KeptCommit, Keeps, KeepsCommit, pruned_of}
use Rattle.storage_db.specs.Shown.{IsPage}
use Rattle.storage_db.proofs.Forgetting.{forgetting_range}
use Rattle.storage_db.proofs.Shown.{last_commit}

-- what some operations of a log are written as
pub texts_between : (operations : List (Vec ℕ)) (start end : ℕ)
    → map (λ (v : Vec ℕ). v.items) (slice_range operations start end) ≡ slice_range (map (λ (v : Vec ℕ). v.items) operations) start end
texts_between operations start end =
    sym (take-map (λ (v : Vec ℕ). v.items) (end - start) (drop start operations))
    ∙ ap (take (end - start)) (sym (drop-map (λ (v : Vec ℕ). v.items) start operations))

-- where operations that are first in a log stand in a snapshot
module _ (h : HashFunction) (g : Grafting) (s : Snapshot) (log : List (List ℕ))
    (first : s.operations ≡ take (length s.operations) log) (start most end : ℕ) (some : start < length s.operations)
    (few : 1 ≤ most) (end_is : end ≡ end_of start most (length s.operations)) where
  all : length s.operations ≤ length log
  all = omega (arith, ap (λ (l : List (List ℕ)). length l) first, length-take (length s.operations) log)

  count : start + length (slice_range log start end) ≡ end
  count = omega (arith, length-take (end - start) (drop start log), length-drop start log, all)

  stand : StandAt s.operations start (slice_range log start end)
  stand = record {
    within = omega (arith, count);
    each = λ j inside.
        let here : j < end - start = omega (arith, count) in
        let there : start + j < length s.operations = omega (arith, count) in
        get_or-take (end - start) (drop start log) j [] here ∙ get_or-drop start log j []
        ∙ sym (ap (λ (l : List (List ℕ)). get_or l (start + j) []) first
        ∙ get_or-take (length s.operations) log (start + j) [] there);
  }

  pub page_of : (proof : RangeProof) (chunks : List (List ℕ)) → proof ≡ own_range_proof h g s start end
      → chunks ≡ chunks_from g.bytes s.bits ((end - 1) / 2 ^ height g - first_chunk g start + 1) (first_chunk g start)
      → IsPage h g s start most proof (slice_range log start end) chunks
  page_of proof chunks own touched = record {
    own = own ∙ ap (own_range_proof h g s start) end_is;
    count = count ∙ end_is;
    holds = record {
      some = omega (arith, count, some);
      there = stand;
      chunks_are = touched ∙ ap (λ (n : ℕ).
          chunks_from g.bytes s.bits ((n - 1) / 2 ^ height g - first_chunk g start + 1) (first_chunk g start)) (sym count);
    };
  }

-- a page of the last commit of a database in memory, as its parts and as its value
module _ {K W Y : Type 0} (e : Keyed K W) (seen : W → Y) (h : HashFunction) (g : Grafting) (inside kept : KeptDatabase K W)
    (view : inside ≡ kept) (d : Database K W) (keeps : Keeps e seen h g kept d) (c : KeptCommit K W)
    (there : inside.last ≡ Some c) where
  pub page_at_last : (start most end : ℕ) → c.pruned ≤ start → start < c.count → 1 ≤ most → end ≡ end_of start most c.count → (proof : RangeProof)
      (chunks : List (List ℕ))
      → ((commit : Committed K W) → KeepsCommit e seen h g c commit → (proof ≡ own_range_proof h g commit.snapshot start end)
      × (chunks ≡ chunks_from g.bytes commit.snapshot.bits ((end - 1) / 2 ^ height g - first_chunk g start + 1) (first_chunk g start)))
      → (operations : List (List ℕ)) → operations ≡ slice_range inside.operations start end
      → IsSomeAnd d.last (λ commit. IsPage h g commit.snapshot start most proof operations chunks)
  page_at_last start most end behind some few end_is proof chunks parts operations are =
      let last = last_commit e seen h g inside kept view d keeps c there in
      let commit : Committed K W = last.0 in
      let log : List (List ℕ) = d.operations in
      let first : AreFirst log commit
      = subst (λ (o : Option (Committed K W)). MatchOption o (Unit {0}) (AreFirst log)) last.1 keeps.prefix in
      let counted : c.count ≡ length commit.snapshot.operations = last.2.count in
      let pruned_is : pruned_of kept.last ≡ c.pruned
      = sym (ap (λ (k : KeptDatabase K W). pruned_of k.last) view) ∙ ap pruned_of there in
      let same : operations ≡ slice_range log start end
      = are ∙ ap (λ (k : KeptDatabase K W). slice_range k.operations start end) view
      ∙ ap (λ (l : List (List ℕ)). slice_range l start end) keeps.operations
      ∙ forgetting_range (pruned_of kept.last) start end log (omega (arith, behind, pruned_is)) in
      let own = parts commit last.2 in
      let page : IsPage h g commit.snapshot start most proof (slice_range log start end) chunks
      = page_of h g commit.snapshot log first start most end (omega (arith, some, counted)) few
      (end_is ∙ ap (end_of start most) counted) proof chunks own.0 own.1 in
      subst (λ (o : Option (Committed K W)). IsSomeAnd o (λ x. IsPage h g x.snapshot start most proof operations chunks)) (sym last.1)
      (subst (λ (l : List (List ℕ)). IsPage h g commit.snapshot start most proof l chunks) (sym same) page)

-- the chunks that some operations touch, of what is left of the bits
left_chunk : (n : ℕ) (r : Retained) (bits : List Bool) (j : ℕ) → IsRest n r bits → r.pruned ≤ j
    → chunk n r.bits (j - r.pruned) ≡ chunk n bits j
unfolding chunk
left_chunk n r bits j rest low =
    ap (λ (b : List Bool). packed_bytes n (drop ((j - r.pruned) * (8 * n)) b)) rest.rest
    ∙ ap (packed_bytes n) (drop-drop ((j - r.pruned) * (8 * n)) (r.pruned * (8 * n)) bits)
    ∙ ap (λ (m : ℕ). packed_bytes n (drop m bits)) (along (8 * n) r.pruned (j - r.pruned) j (omega (arith, low))) where
      along : (m p c j : ℕ) → p + c ≡ j → p * m + c * m ≡ j * m
      along m p c j e = rw (← e) (grind arith)

left_chunks : (n : ℕ) (r : Retained) (bits : List Bool) → IsRest n r bits → (c j k : ℕ) → r.pruned ≤ j → k ≡ j - r.pruned
    → chunks_from n r.bits c k ≡ chunks_from n bits c j
unfolding chunks_from
left_chunks n r bits rest zero j k low at = refl
left_chunks n r bits rest (suc c) j k low at =
    let head : chunk n r.bits k ≡ chunk n bits j = ap (chunk n r.bits) at ∙ left_chunk n r bits j rest low in
    let tail : chunks_from n r.bits c (suc k) ≡ chunks_from n bits c (suc j)
    = left_chunks n r bits rest c (suc j) (suc k) (omega (arith, low)) (omega (arith, at, low)) in
    cc

pub chunks_touched : (n : ℕ) (status : Retained) (bits : List Bool) (k start end : ℕ) → IsRest n status bits
    → status.pruned ≤ start / 2 ^ k
    → chunks_from n status.bits ((end - 1) / 2 ^ k - start / 2 ^ k + 1) (start / 2 ^ k - status.pruned)
    ≡ chunks_from n bits ((end - 1) / 2 ^ k - start / 2 ^ k + 1) (start / 2 ^ k)
chunks_touched n status bits k start end rest low =
    left_chunks n status bits rest ((end - 1) / 2 ^ k - start / 2 ^ k + 1) (start / 2 ^ k) (start / 2 ^ k - status.pruned) low refl
