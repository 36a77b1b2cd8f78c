-- A snapshot that was extended is that of all operations, and what is kept of a commit stands for it.
use Rattle.std.proofs.Common.{◌≡◌, ℕ, zero, suc, ◌-◌, ◌<◌, ◌≤◌, Bool, false, List, [], ◌∷◌, ◌++◌, length, map, take, drop, replicate, set, Option, Some, None, inl, inr, refl, sym, ap, ap₂, ◌∙◌, subst, arith}
use Rattle.std.specs.Global.{Vec}
use Rattle.std.specs.Prelude.{MatchOption, IsSomeAnd}
use Rattle.std.proofs.Math.Seq.{take-append_seam, take-set-lt}
use Rattle.std.proofs.lemmas.Bool.{cases_lt}
use Rattle.std.proofs.lemmas.List.{drop-map, length-replicate, length-set, set-append_left, take-append-drop, take-append-le, take-set-le, take_all}
use Rattle.storage_codec.specs.Digests.{HashFunction}
use Rattle.storage_current.specs.Extended.{cleared, extended}
use Rattle.storage_current.specs.Keys.{Keyed}
use Rattle.storage_current.specs.Snapshots.{Grafting, Snapshot}
use Rattle.storage_db.specs.declared.db.log.Log.{Log}
use Rattle.storage_db.specs.Databases.{Committed}
use Rattle.storage_db.specs.Kept.{AreFirst, KeptCommit, KeepsCommit, bits_of, forgetting, pruned_of}
use Rattle.storage_db.specs.Logs.{cleared_at}
use Rattle.storage_db.specs.Parts.{AreLast, IsKeptOf, IsSince, IsSinceCommit, place_of, texts}
use Rattle.storage_db.proofs.Cases.{some_not_none}
use Rattle.storage_db.proofs.Forgetting.{forgetting_drop}
use Rattle.storage_db.proofs.Going.{all_bits}

abbrev pub snapshot_with : List (List ℕ) → List Bool → ℕ → Snapshot
snapshot_with operations bits floor = record { operations = operations; bits = bits; floor = floor }

-- what a commit clears, and what stands behind the one before it
pub record IsRest (log : Log) (before : ℕ) (clear : List ℕ) (operations : List (Vec ℕ)) (bits : List Bool) : Type 0 where
  pub clears : clear ≡ log.cleared.items ++ before ∷ []
  pub more : operations ≡ drop log.committed log.operations.items
  pub more_bits : bits ≡ drop log.committed log.bits.items

module _ (log : Log) (before : ℕ) (clear : List ℕ) (operations : List (Vec ℕ)) (bits : List Bool)
    (rest : IsRest log before clear operations bits) (within : before < log.committed) where
  pub rest_bits : (base : List Bool) → AreLast log base → cleared clear base ++ bits ≡ set log.bits.items before false
  rest_bits base are =
      ap₂ (λ (c : List ℕ) (b : List Bool). cleared c base ++ b) rest.clears rest.more_bits
      ∙ all_bits log.committed log.cleared.items log.bits.items base before within are

  rest_operations : map (λ (v : Vec ℕ). v.items) operations ≡ drop log.committed (texts log)
  rest_operations =
      ap (map (λ (v : Vec ℕ). v.items)) rest.more ∙ sym (drop-map (λ (v : Vec ℕ). v.items) log.committed log.operations.items)

  pub extended_is : (t : Snapshot) (floor : ℕ) → AreLast log t.bits
      → extended t (map (λ (v : Vec ℕ). v.items) operations) bits clear floor
      ≡ snapshot_with (t.operations ++ drop log.committed (texts log)) (set log.bits.items before false) floor
  extended_is t floor are =
      ap₂ (λ (o : List (List ℕ)) (b : List Bool). snapshot_with (t.operations ++ o) b floor) rest_operations (rest_bits t.bits are)

-- ---- bits of which the first are not active

length-cleared : (clear : List ℕ) (bits : List Bool) → length (cleared clear bits) ≡ length bits
length-cleared [] bits = refl
length-cleared (l ∷ ls) bits = length-cleared ls (set bits l false) ∙ length-set bits l false

-- clearing keeps them so
set_clear : (n l : ℕ) → set (replicate n false) l false ≡ replicate n false
set_clear zero l = refl
set_clear (suc n) zero = refl
set_clear (suc n) (suc l) = ap (λ (b : List Bool). false ∷ b) (set_clear n l)

clear_first : (n : ℕ) (clear : List ℕ) (bits : List Bool) → take n bits ≡ replicate n false
    → take n (cleared clear bits) ≡ replicate n false
clear_first n [] bits first = first
clear_first n (l ∷ ls) bits first = clear_first n ls (set bits l false) (elim (cases_lt l n) [
  | inl before ↦ take-set-lt n bits l false before ∙ ap (λ (b : List Bool). set b l false) first ∙ set_clear n l
  | inr past ↦ take-set-le n bits l false past ∙ first
])

-- as many of them are left as are not forgotten
pub left_bits : (n : ℕ) (bits left : List Bool) → take n bits ≡ replicate n false → left ≡ drop n bits
    → replicate n false ++ left ≡ bits
left_bits n bits left first is = ap₂ (λ (a b : List Bool). a ++ b) (sym first) is ∙ take-append-drop n bits

pub first_bits : (n : ℕ) (left : List Bool) → take n (replicate n false ++ left) ≡ replicate n false
first_bits n left =
    ap (λ (k : ℕ). take k (replicate n false ++ left)) (sym (length-replicate n false)) ∙ take-append_seam (replicate n false) left

-- the bits of a commit once it has been extended
pub extended_bits : (n : ℕ) (clear : List ℕ) (base more left : List Bool) → take n base ≡ replicate n false → n ≤ length base
    → left ≡ drop n (cleared clear base ++ more) → replicate n false ++ left ≡ cleared clear base ++ more
extended_bits n clear base more left first within is =
    let few : n ≤ length (cleared clear base) = omega (arith, within, length-cleared clear base) in
    left_bits n (cleared clear base ++ more) left
    (take-append-le n (cleared clear base) more few ∙ clear_first n clear base first) is

-- a commit is before the end of a log
pub place_within : {K W : Type 0} (log : Log) (last : Option (KeptCommit K W)) (bit : Bool) → IsSince log last
    → cleared_at (place_of last) (log.bits.items ++ bit ∷ []) ≡ cleared_at (place_of last) log.bits.items ++ bit ∷ []
place_within log None bit since = refl
place_within log (Some c) bit since =
    let within : c.count - 1 < length log.bits.items
    = omega (arith, since.some, since.committed, log.within, log.each) in
    set-append_left log.bits.items (bit ∷ []) (c.count - 1) false within

-- all operations are those of the last commit
pub since_settled : {K W : Type 0} (log after : Log) (last : Option (KeptCommit K W)) (before : Option ℕ) (c : KeptCommit K W)
    → 0 < length log.operations.items → c.count ≡ length log.operations.items
    → bits_of c ≡ cleared_at (place_of last) log.bits.items → before ≡ place_of last
    → after.operations ≡ log.operations → after.bits.items ≡ cleared_at before log.bits.items
    → after.committed ≡ length log.operations.items → after.cleared.items ≡ [] → IsSinceCommit after c
since_settled log after last before c some count kept before_is operations bits committed none =
    let same : length after.operations.items ≡ length log.operations.items
    = ap (λ (v : Vec (Vec ℕ)). length v.items) operations in
    let all : length after.bits.items ≤ after.committed = omega (arith, after.each, same, committed) in
    record {
      some = omega (arith, some, count);
      committed = committed ∙ sym count;
      cleared = take_all after.committed after.bits.items all ∙ bits
          ∙ ap (λ (o : Option ℕ). cleared_at o log.bits.items) before_is ∙ sym kept
          ∙ ap (λ (l : List ℕ). cleared l (bits_of c)) (sym none);
    }

module _ {K W Y : Type 0} (e : Keyed K W) (seen : W → Y) (h : HashFunction) (g : Grafting) where
  -- what an extension leaves, of the commit that the definition's database has; `s` is the snapshot of some operations
  pub kept_now : (log : Log) (c : KeptCommit K W) (s : List (List ℕ) → Snapshot) (all : List (List ℕ)) (last : Option (KeptCommit K W))
      (o : Option (Committed K W)) → texts log ≡ forgetting (pruned_of last) all
      → MatchOption o (last ≡ None) (λ commit. IsSomeAnd last (λ k. KeepsCommit e seen h g k commit))
      → MatchOption o (Unit {0}) (AreFirst all) → IsSince log last
      → MatchOption last (IsKeptOf h g c (s (texts log))) (λ b. (t : Snapshot) → IsKeptOf h g b t
      → length t.operations ≡ log.committed → IsKeptOf h g c (s (t.operations ++ drop log.committed (texts log))))
      → IsKeptOf h g c (s all)
  kept_now log c s all None o are keeps first since kept = subst (λ (x : List (List ℕ)). IsKeptOf h g c (s x)) are kept
  kept_now log c s all (Some b) None are keeps first since kept = absurd (some_not_none b keeps)
  kept_now log c s all (Some b) (Some commit) are keeps first since kept =
      let t : Snapshot = commit.snapshot in
      let n : ℕ = log.committed in
      let count : length t.operations ≡ n = sym keeps.count ∙ sym since.committed in
      let low : b.pruned ≤ n = omega (arith, keeps.pruned, keeps.whole.floor_within, count) in
      let whole : t.operations ++ drop n (texts log) ≡ all
      = ap₂ (λ (x y : List (List ℕ)). x ++ y) (first ∙ ap (λ (k : ℕ). take k all) count)
      (ap (drop n) are ∙ forgetting_drop b.pruned n all low)
      ∙ take-append-drop n all in
      subst (λ (x : List (List ℕ)). IsKeptOf h g c (s x)) whole (kept t (keeps.whole, keeps.snapshot, keeps.bits) count)
