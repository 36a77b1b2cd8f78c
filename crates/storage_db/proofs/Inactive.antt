-- No operation before the floor of the last commit is active in its snapshot.
use Rattle.std.proofs.Common.{◌≡◌, ℕ, zero, suc, ◌+◌, ◌<◌, ◌≤◌, ◌^◌, Bool, false, cond, List, [], ◌∷◌, length, take, replicate, get_or, Option, Some, None, refl, sym, ap, ap₂, ◌∙◌, subst, arith, ltb-false}
use Rattle.std.specs.Prelude.{MatchOption, IsSomeAnd}
use Rattle.std.proofs.lemmas.List.{length-append}
use Rattle.storage_codec.specs.Digests.{HashFunction}
use Rattle.storage_current.specs.Keys.{Keyed, IsKeyed}
use Rattle.storage_current.specs.Snapshots.{Grafting, IsActive, Snapshot}
use Rattle.storage_db.specs.Databases.{Command, Commit, Committed, Database, Delete, Put, delete, done, empty, is_full, run}
use Rattle.storage_db.specs.Kept.{IsMade, KeptCommit, KeptDatabase, KeepsCommit, bits_of}
use Rattle.storage_db.proofs.Cases.{by_bool, some_not_none, somes}
use Rattle.storage_db.proofs.Committing.{is_snapshot, is_well_formed, least_end, whole}
use Rattle.storage_db.proofs.Lists.{Kept, done_kept, empty_kept, one_more}
use Rattle.storage_db.proofs.Said.{AreSaid, commit_said, put_said}
use Rattle.storage_db.proofs.Steps.{delete_last, put_last}

pub all_clear : (n : ℕ) (bits : List Bool) → n ≤ length bits → ((i : ℕ) → i < n → get_or bits i false ≡ false)
    → take n bits ≡ replicate n false
all_clear zero bits few none = refl
all_clear (suc n) [] few none = absurd (omega (arith, few))
all_clear (suc n) (b ∷ bits) few none =
    ap₂ (λ (x : Bool) (xs : List Bool). x ∷ xs) (none zero (omega arith))
    (all_clear n bits (omega (arith, few)) (λ i below. none (suc i) (omega (arith, below))))

-- the bits of a snapshot before its floor are cleared
abbrev pub IsInactive : Snapshot → Type 0
IsInactive s = (s.floor ≤ length s.bits) × ((i : ℕ) → i < s.floor → get_or s.bits i false ≡ false)

module _ {K W : Type 0} (e : Keyed K W) (is : IsKeyed e) (said : AreSaid e) where
  abbrev AreInactive : Database K W → Type 0
  AreInactive d = MatchOption d.last (Unit {0}) (λ commit. IsInactive commit.snapshot)

  stays_inactive : (d c : Database K W) → c.last ≡ d.last → AreInactive d → AreInactive c
  stays_inactive d c same inactive =
      subst (λ (o : Option (Committed K W)). MatchOption o (Unit {0}) (λ commit. IsInactive commit.snapshot)) (sym same) inactive

  commit_inactive : (d : Database K W) → Kept e is said d → (metadata : Option W) → length d.operations + 1 ≤ 2 ^ 62
      → AreInactive (commit_said e d metadata)
  commit_inactive d kept metadata few =
      let s : Snapshot = whole e is d kept.placed kept.ring metadata few in
      let formed = is_well_formed e is d kept.placed kept.ring metadata few in
      let end : s.floor ≤ length d.operations = least_end d.entries (length d.operations) in
      let count : length s.operations ≡ length d.operations + 1 = length-append d.operations _ in
      let bits : length s.bits ≡ length s.operations = (is_snapshot e is d kept.placed kept.ring metadata few).bit_each in (
        omega (arith, end, count, bits),
        λ i below. by_bool (get_or s.bits i false)
            (λ set.
            let active : IsActive s i (get_or s.operations i [])
            = record { within = omega (arith, below, end, count); there = refl; bit = set } in
            let low : s.floor ≤ i = (formed.updates i (get_or s.operations i []) active (omega (arith, below, end, count))).0 in
            absurd (omega (arith, below, low)))
            (λ clear. clear),
      )

  done_inactive : (d : Database K W) → Kept e is said d → AreInactive d → (command : Command K W)
      → length (done e d command).operations ≤ 2 ^ 62 → AreInactive (done e d command)
  done_inactive d kept inactive (Put k v) few =
      subst AreInactive (sym (said.put_is d k v))
      (stays_inactive d (put_said e d k v) (put_last e is d kept.placed kept.ring k v) inactive)
  done_inactive d kept inactive (Delete k) few =
      stays_inactive d (delete e d k) (delete_last e is d kept.placed kept.ring k) inactive
  done_inactive d kept inactive (Commit metadata) few =
      subst AreInactive (sym (said.commit_is d metadata)) (commit_inactive d kept metadata (one_more e is said d metadata few))

  all_inactive : (commands : List (Command K W)) (d : Database K W) → Kept e is said d → AreInactive d
      → AreInactive (run e d commands)
  all_inactive [] d kept inactive = inactive
  all_inactive (c ∷ commands) d kept inactive =
      let P : Bool → Type 0 = λ b. AreInactive (run e (cond b d (done e d c)) commands) in
      by_bool (is_full e d c)
      (λ holds. subst P (sym holds) (all_inactive commands d kept inactive))
      (λ fails.
      let few : length (done e d c).operations ≤ 2 ^ 62 = ltb-false (2 ^ 62) (length (done e d c).operations) fails in
      subst P (sym fails) (all_inactive commands (done e d c) (done_kept e is said d kept c few) (done_inactive d kept inactive c few)))

  -- ---- databases in memory

  module _ {Y : Type 0} (seen : W → Y) (h : HashFunction) (g : Grafting) where
    inactive_at : (o : Option (Committed K W)) (l : Option (KeptCommit K W)) (c : KeptCommit K W)
        → MatchOption o (l ≡ None) (λ commit. IsSomeAnd l (λ k. KeepsCommit e seen h g k commit))
        → MatchOption o (Unit {0}) (λ commit. IsInactive commit.snapshot) → l ≡ Some c
        → take c.floor (bits_of c) ≡ replicate c.floor false
    inactive_at None l c last inactive there = absurd (some_not_none c (sym there ∙ last))
    inactive_at (Some commit) None c last inactive there = absurd last
    inactive_at (Some commit) (Some k) c last inactive there =
        let P : KeptCommit K W → Type 0 = λ x. take x.floor (bits_of x) ≡ replicate x.floor false in
        let clear : take commit.snapshot.floor commit.snapshot.bits ≡ replicate commit.snapshot.floor false
        = all_clear commit.snapshot.floor commit.snapshot.bits inactive.0 inactive.1 in
        let here : P k
        = ap₂ (λ (n : ℕ) (b : List Bool). take n b) last.floor last.bits ∙ clear
        ∙ ap (λ (n : ℕ). replicate n false) (sym last.floor) in
        subst P (somes k c there) here

    -- the bits before the floor of a database that commands left are cleared
    pub made_inactive : (kept : KeptDatabase K W) → IsMade e seen h g kept → (c : KeptCommit K W) → kept.last ≡ Some c
        → take c.floor (bits_of c) ≡ replicate c.floor false
    made_inactive kept made c there =
        inactive_at (run e empty made.0).last kept.last c made.1.last
        (all_inactive made.0 empty (empty_kept e is said) tt) there
