-- Pages that are proved are a snapshot's, or two strings cross.
use Rattle.std.proofs.Common.{Bool, ◌≡◌, ◌⊎◌, ℕ, ◌+◌, ◌-◌, ◌*◌, ◌/◌, ◌%◌, ◌<◌, ◌^◌, false, List, [], ◌∷◌, ◌++◌, length, get_or, inl, inr, refl, sym, ap, subst, ◌∙◌, arith, length-append}
use Rattle.std.proofs.lemmas.Bool.{cases_lt}
use Rattle.std.proofs.lemmas.List.{get_or_append_left, get_or-append_right, ext_get_or}
use Rattle.std.proofs.lemmas.List.Elements.{Contains-append_left, Contains-append_right}
use Rattle.std.proofs.lemmas.List.FromFn.{length-map-range_with_len, get_or-map-range_with_len}
use Rattle.storage_codec.specs.Digests.{HashFunction, IsSized, Cross}
use Rattle.storage_merkle.specs.Shape.{Laws}
use Rattle.storage_merkle.specs.Laws.Calc.{cross_wider}
use Rattle.storage_bitmap.specs.Chunks.{IsChunkSize, chunks_from}
use Rattle.storage_bitmap.specs.Packed.{bit_in}
use Rattle.storage_current.specs.Laws.Grafting.{chunk_height}
use Rattle.storage_current.specs.Snapshots.{Grafting, height, Snapshot, IsSnapshot, canonical_root, ops_root_of, snapshot_strings, Holds, RangeProof}
use Rattle.storage_current.specs.CurrentProofs.{IsCurrent, current_strings}
use Rattle.storage_current.specs.CurrentSoundness.{CurrentProofsAreSound}
use Rattle.storage_sync.specs.Pages.{Page, page_bits, operations_of, bits_of, FirstNames, FirstRoot, IsProved, AreProved, hashed_by, IsCopy, with_floor}
use Rattle.storage_sync.proofs.Bits.{some_bytes, bit_of_chunks}

pub snapshots : (h : HashFunction) (g : Grafting) (s : Snapshot) (operations : List (List ℕ)) (bits : List Bool)
    (ops_root : List ℕ) (floor : ℕ) → IsCopy h g s operations bits ops_root → floor ≡ s.floor
    → with_floor operations bits floor ≡ s
snapshots h g s operations bits ops_root floor copy floor_is =
    ap (λ (xs : List (List ℕ)). with_floor xs bits floor) copy.operations_are
    ∙ ap (λ (bs : List Bool). with_floor s.operations bs floor) copy.bits_are
    ∙ ap (λ (n : ℕ). with_floor s.operations s.bits n) floor_is

-- items stand in a list from a place on
abbrev pub Stand : {A : Type 0} → A → List A → ℕ → List A → Type 0
Stand none list start xs = (j : ℕ) → j < length xs → get_or xs j none ≡ get_or list (start + j) none

stand_append : {A : Type 0} (none : A) (list : List A) (start m : ℕ) (xs ys : List A) → length xs ≡ m
    → Stand none list start xs → Stand none list (start + m) ys → Stand none list start (xs ++ ys)
stand_append none list start m xs ys len a b = λ j l. elim (cases_lt j (length xs)) [
  | inl less ↦ get_or_append_left xs ys none j less ∙ a j less
  | inr more ↦
      let all = length-append xs ys in
      let e : start + m + (j - length xs) ≡ start + j = omega arith in
      get_or-append_right xs ys (length xs) j none refl more ∙ b (j - length xs) (omega arith)
      ∙ ap (λ (k : ℕ). get_or list k none) e
]

stand_whole : {A : Type 0} (none : A) (list xs : List A) → length xs ≡ length list → Stand none list 0 xs → xs ≡ list
stand_whole none list xs len stand =
    ext_get_or none xs list len
    (λ i l. stand i l ∙ ap (λ (k : ℕ). get_or list k none) (let e : 0 + i ≡ i = omega arith in e))

-- a page has a bit for each of its operations
bit_each : (n : ℕ) (p : Page) → length (page_bits n p) ≡ length p.operations
bit_each n p =
    length-map-range_with_len (λ j. bit_in (get_or p.chunks (j / (8 * n)) []) (j % (8 * n))) 0 (length p.operations)

-- the bits of a page that a snapshot holds
stand_bits : (g : Grafting) (s : Snapshot) (start : ℕ) (p : Page) → IsChunkSize g.bytes → start % (8 * g.bytes) ≡ 0
    → Holds g s start p.operations p.chunks → Stand false s.bits start (page_bits g.bytes p)
stand_bits g s start p size boundary holds = λ j l.
    let m = length p.operations in
    let n = g.bytes in
    let wide : 2 ^ height g ≡ 8 * n = (chunk_height g size).bits in
    let within : j < m = subst (λ (x : ℕ). j < x) (bit_each n p) l in
    let some : 0 < n = some_bytes n size in
    let are = subst (λ (b : ℕ). p.chunks ≡ chunks_from n s.bits ((start + m - 1) / b - start / b + 1) (start / b)) wide
    holds.chunks_are in
    get_or-map-range_with_len (λ i. bit_in (get_or p.chunks (i / (8 * n)) []) (i % (8 * n))) 0 m j j false within (omega arith)
    ∙ bit_of_chunks n s.bits start m p.chunks some boundary are j within

module _ (sound : CurrentProofsAreSound) (d : ℕ) (h : HashFunction) (width : (d ≡ 32) ⊎ (d ≡ 64)) (sized : IsSized d h)
    (g : Grafting) (laws : Laws g.shape) (root : List ℕ) (s : Snapshot) (snapshot : IsSnapshot s)
    (same : canonical_root h g s ≡ root) where
  -- one page
  page_holds : (start : ℕ) (p : Page) → IsProved h g d root start p
      → Holds g s start p.operations p.chunks × (p.proof.range.leaves ≡ length s.operations)
      × (p.proof.ops_root ≡ ops_root_of h g s)
      ⊎ Cross h (current_strings h g p.proof start p.operations p.chunks) (snapshot_strings h g s)
  page_holds start p proved =
      let current = subst (λ (r : List ℕ). IsCurrent h g p.proof start p.operations p.chunks r) (sym same) proved.current in
      elim (sound d h width sized g laws p.proof start p.operations p.chunks proved.digests s snapshot current) [
        | inl both ↦ inl (
          both.1,
          ap (λ (q : RangeProof). q.range.leaves) both.0,
          ap (λ (q : RangeProof). q.ops_root) both.0,
        )
        | inr crossed ↦ inr crossed
      ]

  -- all of them
  pub record Hold (low high : ℕ) (pages : List Page) : Type 0 where
    pub operations : Stand [] s.operations low (operations_of pages)
    pub bits : Stand false s.bits low (bits_of g.bytes pages)
    pub bit_each : length (bits_of g.bytes pages) ≡ length (operations_of pages)
    pub count : low + length (operations_of pages) ≡ high
    pub leaves : (n : ℕ) → FirstNames n pages → n ≡ length s.operations
    pub root_is : (r : List ℕ) → FirstRoot r pages → r ≡ ops_root_of h g s

  pub pages_hold : (low high : ℕ) (pages : List Page) → AreProved h g d root low high pages
      → Hold low high pages ⊎ Cross h (hashed_by h g low pages) (snapshot_strings h g s)
  pages_hold low high [] proved = inl (record {
    operations = λ j l. absurd (omega arith);
    bits = λ j l. absurd (omega arith);
    bit_each = refl;
    count = omega arith;
    leaves = λ n named. absurd named;
    root_is = λ r rooted. absurd rooted;
  })
  pages_hold low high (p ∷ ps) proved =
      let m = length p.operations in
      let one_strings = current_strings h g p.proof low p.operations p.chunks in
      let more_strings = hashed_by h g (low + m) ps in
      elim (page_holds low p proved.0) [
        | inr crossed ↦ inr (cross_wider (λ x c. Contains-append_left one_strings more_strings x c) (λ x c. c) crossed)
        | inl one ↦ elim (pages_hold (low + m) high ps proved.1) [
          | inr crossed ↦ inr (cross_wider (λ x c. Contains-append_right one_strings more_strings x c) (λ x c. c) crossed)
          | inl more ↦
              let here = bit_each g.bytes p in
              let bits = length-append (page_bits g.bytes p) (bits_of g.bytes ps) in
              let operations = length-append p.operations (operations_of ps) in
              let each = more.bit_each in
              let count = more.count in
              inl (record {
                operations = stand_append [] s.operations low m p.operations (operations_of ps) refl
                    (λ j l. one.0.there.each j l) more.operations;
                bits = stand_append false s.bits low m (page_bits g.bytes p) (bits_of g.bytes ps) here
                    (stand_bits g s low p proved.0.current.size proved.0.boundary one.0) more.bits;
                bit_each = omega arith;
                count = omega arith;
                leaves = λ n named. sym named ∙ one.1;
                root_is = λ r rooted. sym rooted ∙ one.2;
              })
        ]
      ]

  pub copies : (leaves : ℕ) (ops_root : List ℕ) (pages : List Page) → FirstNames leaves pages → FirstRoot ops_root pages
      → AreProved h g d root 0 leaves pages → IsCopy h g s (operations_of pages) (bits_of g.bytes pages) ops_root
      ⊎ Cross h (hashed_by h g 0 pages) (snapshot_strings h g s)
  copies leaves ops_root pages named rooted proved = elim (pages_hold 0 leaves pages proved) [
    | inr crossed ↦ inr crossed
    | inl hold ↦
        let all = hold.leaves leaves named in
        let count = hold.count in
        let each = hold.bit_each in
        let bits = snapshot.bit_each in
        inl (record {
          operations_are = stand_whole [] s.operations (operations_of pages) (omega arith) hold.operations;
          bits_are = stand_whole false s.bits (bits_of g.bytes pages) (omega arith) hold.bits;
          ops_root_is = hold.root_is ops_root rooted;
        })
  ]
