-- An accepted range proof is the snapshot's own, or two strings cross.
use Rattle.std.proofs.Common.{◌≡◌, ℕ, zero, suc, ◌+◌, ◌-◌, ◌*◌, ◌/◌, ◌%◌, ◌<◌, ◌≤◌, ◌^◌, List, [], ◌∷◌, ◌++◌, length, get_or, Bool, true, false, if◌then◌else◌, Contains, ◌⊎◌, inl, inr, refl, sym, ap, ◌∙◌, arith, subst, Option, Some, None, option_to_list, length-append, pow_pos, le-leb, lt-ltb, eq-eqb, suc-mul}
use Rattle.std.specs.Option.{option_map}
use Rattle.std.proofs.lemmas.List.Elements.{Contains-append_left, Contains-append_right}
use Rattle.std.proofs.lemmas.Bool.{cases_lt, lt-leb}
use Rattle.std.proofs.Math.Nat.{mul-div_cancel, mul-mod_left, div-lt_iff_lt-mul, le-div_iff_mul-le}
use Rattle.storage_codec.specs.Digests.{HashFunction, IsSized, Cross}
use Rattle.storage_merkle.specs.declared.merkle.bagging.Bagging.TheVariants.{BackwardFold}
use Rattle.storage_merkle.specs.Shape.{Laws}
use Rattle.storage_merkle.specs.Calc.{be8}
use Rattle.storage_merkle.specs.Laws.Calc.{split_append, be8_length, heads, same_or_cross, cross_wider}
use Rattle.storage_merkle.specs.Trees.{Content, ungrafted, listed, tree_strings}
use Rattle.storage_merkle.specs.RangeProofs.{IsAccepted, IsOwn, own_proof, check_strings, recomputed_root, apart}
use Rattle.storage_merkle.specs.Soundness.{RangeProofsAreSound}
use Rattle.storage_bitmap.specs.Chunks.{chunk, chunks_from, packed_bytes}
use Rattle.storage_current.specs.Snapshots.{Grafting, height, complete, graftable, view, Snapshot, IsSnapshot, slot, counted_slot, canonical_string, content, aligned_of, exact_of, ops_root_of, grafted_root_of, pending_of, partial_of, snapshot_string, snapshot_strings, canonical_root, first_chunk, last_chunk, Holds, RangeProof, own_range_proof}
use Rattle.storage_current.specs.CurrentProofs.{claimed, claim, touches_pending, touches_partial, current_string, current_strings, IsCurrent, IsSlot}
use Rattle.storage_current.specs.CurrentSoundness.{HasDigests}
use Rattle.storage_current.proofs.Padding.{AsGood, pad, pad-length, pad-whole, pad-good, supplied-length, supplied-get, supplied-whole, same_string, same_check_strings, same_fit}
use Rattle.storage_current.specs.Laws.Grafting.{chunk_height, chunk_apart, graftable_by_birth, aligned-le}

counted_length : (d n : ℕ) (q : Option (List ℕ)) → IsSlot d q
    → (length (counted_slot n q) ≡ 0) ⊎ (length (counted_slot n q) ≡ 8 + d)
counted_length d n None s = inl refl
counted_length d n (Some x) s = inr (omega (arith, length-append (be8 n) x, be8_length n))

same_counted : (d n m : ℕ) (q r : Option (List ℕ)) → IsSlot d q → IsSlot d r
    → counted_slot n q ≡ counted_slot m r → q ≡ r
same_counted d n m None None s t e = refl
same_counted d n m None (Some y) s t e = absurd (omega (arith, ap length e, length-append (be8 m) y, be8_length m))
same_counted d n m (Some x) None s t e = absurd (omega (arith, ap length e, length-append (be8 n) x, be8_length n))
same_counted d n m (Some x) (Some y) s t e =
    ap Some (split_append (be8 n) x (be8 m) y (be8_length n ∙ sym (be8_length m)) e).1

pub same_slots : (d n m : ℕ) → 0 < d → (p o q r : Option (List ℕ)) → IsSlot d p → IsSlot d o → IsSlot d q → IsSlot d r
    → slot p ++ counted_slot n q ≡ slot o ++ counted_slot m r → (p ≡ o) × (q ≡ r)
same_slots d n m pos None None q r sp so sq sr e = (refl, same_counted d n m q r sq sr e)
same_slots d n m pos (Some x) (Some y) q r sp so sq sr e =
    let parts = split_append x (counted_slot n q) y (counted_slot m r) (sp ∙ sym so) e in
    (ap Some parts.0, same_counted d n m q r sq sr parts.1)
same_slots d n m pos None (Some y) q r sp so sq sr e =
    let a = counted_length d n q sq in
    let b = counted_length d m r sr in
    absurd (omega (arith, ap length e, length-append y (counted_slot m r)))
same_slots d n m pos (Some x) None q r sp so sq sr e =
    let a = counted_length d n q sq in
    let b = counted_length d m r sr in
    absurd (omega (arith, ap length e, length-append x (counted_slot n q)))

pub record SameCanonical (a b c e : List ℕ) (p o q r : Option (List ℕ)) : Type 0 where
  pub ops : a ≡ c
  pub grafted : b ≡ e
  pub pending : p ≡ o
  pub partial : q ≡ r

pub same_canonical : (d n m : ℕ) → 0 < d → (a b c e : List ℕ) (p o q r : Option (List ℕ)) → length a ≡ d → length b ≡ d
    → length c ≡ d → length e ≡ d → IsSlot d p → IsSlot d o → IsSlot d q → IsSlot d r
    → canonical_string a b p n q ≡ canonical_string c e o m r → SameCanonical a b c e p o q r
same_canonical d n m pos a b c e p o q r la lb lc le sp so sq sr same =
    let one = split_append a _ c _ (la ∙ sym lc) same in
    let two = split_append b _ e _ (lb ∙ sym le) one.1 in
    let three = same_slots d n m pos p o q r sp so sq sr two.1 in
    record { ops = one.0; grafted = two.0; pending = three.0; partial = three.1 }

pub mapped-slot : (d : ℕ) (h : HashFunction) → IsSized d h → (o : Option (List ℕ)) → IsSlot d (option_map h o)
mapped-slot d h sized None = tt
mapped-slot d h sized (Some x) = sized x

in_option : (c : Option (List ℕ)) (x : List ℕ) → c ≡ Some x → Contains (option_to_list c) x
in_option c x e = subst (λ o. Contains (option_to_list o) x) (sym e) (0, omega arith, refl)

in_hashed : (b : Bool) (x : List ℕ) → b ≡ true → Contains (if b then x ∷ [] else []) x
in_hashed b x e = subst (λ c. Contains (if c then x ∷ [] else []) x) (sym e) (0, omega arith, refl)

if_some : (b : Bool) (z y : List ℕ) → (if b then Some z else None) ≡ Some y → y ≡ z
if_some true z y e = cc
if_some false z y e = cc

if_none : (b : Bool) (z y : List ℕ) → (if b then None else Some z) ≡ Some y → y ≡ z
if_none true z y e = cc
if_none false z y e = cc

-- a slot that is the digest of a claimed chunk, and of the snapshot's
slot_same : (h : HashFunction) (xs ys : List (List ℕ)) (o c : Option (List ℕ)) (y : List ℕ) → o ≡ option_map h c
    → o ≡ Some (h y) → Contains xs y → ((x : List ℕ) → c ≡ Some x → Contains ys x) → (c ≡ Some y) ⊎ Cross h xs ys
slot_same h xs ys o None y e f mx my = absurd (cc)
slot_same h xs ys o (Some x) y e f mx my =
    let same : h y ≡ h x = cc in
    elim (same_or_cross h y x xs ys mx (my x refl) same) [ inl r ↦ inl (ap Some (sym r)) | inr k ↦ inr k ]

slot_decided : (h : HashFunction) (xs ys : List (List ℕ)) (o c : Option (List ℕ)) (y : List ℕ) (touched : Bool)
    → o ≡ option_map h c → (touched ≡ true → o ≡ Some (h y)) → (touched ≡ true → Contains xs y)
    → ((x : List ℕ) → c ≡ Some x → Contains ys x) → (touched ≡ true → c ≡ Some y) ⊎ Cross h xs ys
slot_decided h xs ys o c y true e f mx my =
    elim (slot_same h xs ys o c y e (f refl) (mx refl) my) [ inl r ↦ inl (λ t. r) | inr k ↦ inr k ]
slot_decided h xs ys o c y false e f mx my = inl (λ t. absurd (cc))

-- the bytes of a chunk
length-bytes_of : (n : ℕ) (bits : List Bool) → length (packed_bytes n bits) ≡ n
unfolding packed_bytes
length-bytes_of zero bits = refl
length-bytes_of (suc n) bits = ap suc (length-bytes_of n _)

pub chunk-length : (n : ℕ) (bits : List Bool) (j : ℕ) → length (chunk n bits j) ≡ n
unfolding chunk
chunk-length n bits j = length-bytes_of n _

-- chunks that are each the right one
pub all_chunks : (n : ℕ) (bits : List Bool) (none : List ℕ) (count j : ℕ) (xs : List (List ℕ)) → length xs ≡ count
    → ((i : ℕ) → i < count → get_or xs i none ≡ chunk n bits (j + i)) → xs ≡ chunks_from n bits count j
unfolding chunks_from
all_chunks n bits none zero j [] l f = refl
all_chunks n bits none zero j (x ∷ xs) l f = absurd (omega arith)
all_chunks n bits none (suc count) j [] l f = absurd (omega arith)
all_chunks n bits none (suc count) j (x ∷ xs) l f =
    let head : x ≡ chunk n bits j = f 0 (omega arith) ∙ ap (chunk n bits) (let e : j + 0 ≡ j = omega arith in e) in
    let tail : xs ≡ chunks_from n bits count (suc j) = all_chunks n bits none count (suc j) xs (omega arith)
    (λ i l. f (suc i) (omega arith) ∙ ap (chunk n bits) (let e : j + suc i ≡ suc j + i = omega arith in e)) in
    cc

-- the grafted tree's part of an accepted check
module _ (d : ℕ) (h : HashFunction) (sized : IsSized d h) (g : Grafting) (proof : RangeProof) (start : ℕ)
    (operations chunks : List (List ℕ)) (s : Snapshot) where
  -- the claim, with chunks that are not supplied filled up with zeros
  abbrev pub padded : Content
  padded = record {
    elements = operations;
    chunk = λ a. pad g.bytes (claimed h g proof start operations chunks (a / 2 ^ height g));
  }

  pub fewer : IsCurrent h g proof start operations chunks (canonical_root h g s) → (a : ℕ)
      → AsGood (claimed h g proof start operations chunks (a / 2 ^ height g)) (padded.chunk a)
  fewer ok a =
      pad-good g.bytes _ (supplied-length g.bytes (first_chunk g start) chunks ok.chunk_lengths (a / 2 ^ height g))

  -- what the check puts together is what the snapshot's root is made of
  abbrev pub AreSameParts : Type 0
  AreSameParts = SameCanonical proof.ops_root (recomputed_root h (view g proof.range.leaves) BackwardFold proof.range
      start (claim h g proof start operations chunks)) (ops_root_of h g s) (grafted_root_of h g s) proof.pending
      (option_map h (pending_of h g s)) proof.partial (option_map h (partial_of h g s))

  pub same_parts : 0 < d → HasDigests d proof → IsCurrent h g proof start operations chunks (canonical_root h g s)
      → AreSameParts ⊎ Cross h (current_strings h g proof start operations chunks) (snapshot_strings h g s)
  same_parts pos digests ok =
      elim (heads h (current_string h g proof start operations chunks) (snapshot_string h g s) _ _ ok.root_is) [
        | inr c ↦ inr c
        | inl same ↦ inl (same_canonical d (proof.range.leaves % 2 ^ height g) (length s.operations % 2 ^ height g) pos _ _
            _ _ proof.pending _ proof.partial _ digests.ops_root (sized _) (sized _) (sized _) digests.pending
            (mapped-slot d h sized (pending_of h g s)) digests.partial (mapped-slot d h sized (partial_of h g s)) same)
      ]

  -- the check of the grafted tree says yes
  pub grafted_accepted : IsCurrent h g proof start operations chunks (canonical_root h g s) → AreSameParts
      → IsAccepted h (view g proof.range.leaves) BackwardFold proof.range start padded (grafted_root_of h g s)
  grafted_accepted ok parts =
      let c : ℕ → List ℕ = (claim h g proof start operations chunks).chunk in
      inl (
        same_fit h (view g proof.range.leaves) proof.range start operations c padded.chunk (fewer ok) ok.counts,
        ap h (sym (same_string h (view g proof.range.leaves) proof.range start operations c padded.chunk (fewer ok)))
            ∙ parts.grafted,
      )

  -- the other strings of the check, and of the snapshot
  abbrev chunk_strings : List (List ℕ)
  chunk_strings = (if touches_pending h g proof start operations chunks then claimed h g proof start operations chunks
      (graftable g proof.range.leaves) ∷ [] else []) ++ (if touches_partial h g proof start operations chunks
      then claimed h g proof start operations chunks (complete g proof.range.leaves) ∷ [] else [])

  abbrev other_strings : List (List ℕ)
  other_strings = tree_strings h (ungrafted g.shape) BackwardFold (listed s.operations) (exact_of h g s)
      ++ (option_to_list (pending_of h g s) ++ option_to_list (partial_of h g s))

  -- what crosses in the grafted tree crosses in the whole
  pub wider : IsCurrent h g proof start operations chunks (canonical_root h g s)
      → Cross h (check_strings h (view g proof.range.leaves) BackwardFold proof.range start padded)
      (tree_strings h (view g (length s.operations)) BackwardFold (content h g s) (aligned_of h g s))
      → Cross h (current_strings h g proof start operations chunks) (snapshot_strings h g s)
  wider ok c =
      let T = view g proof.range.leaves in
      let cl = claim h g proof start operations chunks in
      let xs = check_strings h T BackwardFold proof.range start cl in
      let ys = tree_strings h (view g (length s.operations)) BackwardFold (content h g s) (aligned_of h g s) in
      let hashes = same_check_strings h T proof.range start operations cl.chunk padded.chunk (fewer ok) in
      let into_first : (x : List ℕ) → Contains xs x → Contains (current_strings h g proof start operations chunks) x =
      λ x f. Contains-append_right (current_string h g proof start operations chunks ∷ []) (xs ++ chunk_strings) x
      (Contains-append_left xs chunk_strings x f) in
      let into_second : (x : List ℕ) → Contains ys x → Contains (snapshot_strings h g s) x =
      λ x f. Contains-append_right (snapshot_string h g s ∷ []) (ys ++ other_strings) x
      (Contains-append_left ys other_strings x f) in
      cross_wider into_first into_second (subst (λ zs. Cross h zs ys) (sym hashes) c)

module _ (sound : RangeProofsAreSound) (d : ℕ) (h : HashFunction) (width : (d ≡ 32) ⊎ (d ≡ 64)) (sized : IsSized d h)
    (g : Grafting) (laws : Laws g.shape) (proof : RangeProof) (start : ℕ) (operations chunks : List (List ℕ))
    (digests : HasDigests d proof) (s : Snapshot) (snapshot : IsSnapshot s) where
  -- the range proof in it is the tree's own
  abbrev IsRangeOwn : Type 0
  IsRangeOwn = IsOwn h (view g (length s.operations)) BackwardFold proof.range start
      (padded d h sized g proof start operations chunks s) (content h g s) (aligned_of h g s)

  -- the chunk of each touched index
  chunk_is : IsCurrent h g proof start operations chunks (canonical_root h g s)
      → proof.range.leaves ≡ length s.operations → IsRangeOwn
      → (touches_pending h g proof start operations chunks ≡ true
      → pending_of h g s ≡ Some (claimed h g proof start operations chunks (graftable g proof.range.leaves)))
      → (touches_partial h g proof start operations chunks ≡ true
      → partial_of h g s ≡ Some (claimed h g proof start operations chunks (complete g proof.range.leaves)))
      → (j : ℕ) → first_chunk g start ≤ j → j ≤ last_chunk g start (length operations)
      → claimed h g proof start operations chunks j ≡ chunk g.bytes s.bits j
  chunk_is ok en own dp dq j l u =
      let n = proof.range.leaves in
      let k = height g in
      let P = 2 ^ height g in
      let gr = graftable g n in
      let high = start + length operations in
      let H = chunk_height g ok.size in
      let positive : 0 < P = pow_pos k in
      let some = ok.counts.some in
      let within = ok.counts.within in
      elim (cases_lt j gr) [
        | inl low ↦
            let last : j * P ≤ high - 1 = (le-div_iff_mul-le positive).0 u in
            let below : start < suc j * P = (div-lt_iff_lt-mul positive).0 (omega arith) in
            let back : j * P / P ≡ j = mul-div_cancel j positive in
            let t : (view g n).grafted (j * P) k ≡ true =
            rw (eq-eqb k k refl, mul-mod_left j P, eq-eqb 0 0 refl, back, lt-ltb j gr low) refl in
            let t' : (view g (length s.operations)).grafted (j * P) k ≡ true =
            subst (λ m. (view g m).grafted (j * P) k ≡ true) en t in
            let inside =
            (graftable_by_birth g.shape laws k (length s.operations) j).1 (subst (λ m. j < graftable g m) en low) in
            let touches : apart start high (j * P) k ≡ false = rw (
              lt-leb (j * P + 2 ^ k) start
                  (omega (arith, suc-mul j P)),
              lt-leb high (j * P) (omega arith),
            ) refl in
            let e = own.chunks_are (j * P) k (omega (arith, H.is)) t' (mul-mod_left j P) inside touches in
            let count = ok.chunk_count in
            let place : j - start / P < length chunks = omega arith in
            let filled : pad g.bytes (claimed h g proof start operations chunks j) ≡ chunk g.bytes s.bits j = subst
            (λ i. pad g.bytes (claimed h g proof start operations chunks i) ≡ chunk g.bytes s.bits i) back e in
            sym (pad-whole g.bytes (claimed h g proof start operations chunks j)
            (supplied-whole g.bytes (start / P) chunks ok.chunk_lengths j l place)) ∙ filled
        | inr other ↦ elim (cases_lt j (n / P)) [
          | inl whole ↦
              let one = ok.one_pending in
              let same : gr ≡ j = omega arith in
              let t : touches_pending h g proof start operations chunks ≡ true = rw (
                le-leb (start / P) gr
                    (omega arith),
                le-leb gr ((high - 1) / P) (omega arith),
                lt-ltb gr (n / P) (omega arith),
              ) refl in
              let e = if_some _ _ _ (dp t) in
              ap (claimed h g proof start operations chunks) (sym same) ∙ e
              ∙ ap (chunk g.bytes s.bits) (ap (graftable g) (sym en) ∙ same)
          | inr past ↦
              let last : j * P ≤ high - 1 = (le-div_iff_mul-le positive).0 u in
              let least : j ≤ n / P = (le-div_iff_mul-le positive).1 (omega arith) in
              let same : n / P ≡ j = omega arith in
              let t : touches_partial h g proof start operations chunks ≡ true =
              le-leb (n / P) ((high - 1) / P) (omega arith) in
              let e = if_none _ _ _ (dq t) in
              ap (claimed h g proof start operations chunks) (sym same) ∙ e
              ∙ ap (chunk g.bytes s.bits) (ap (λ m. m / P) (sym en) ∙ same)
        ]
      ]

  holds : IsCurrent h g proof start operations chunks (canonical_root h g s) → IsRangeOwn
      → ((j : ℕ) → first_chunk g start ≤ j → j ≤ last_chunk g start (length operations)
      → claimed h g proof start operations chunks j ≡ chunk g.bytes s.bits j) → Holds g s start operations chunks
  holds ok own each =
      let f = first_chunk g start in
      let l = last_chunk g start (length operations) in
      record {
        some = ok.counts.some;
        there = own.elements_are;
        chunks_are = all_chunks g.bytes s.bits [] (l - f + 1) f chunks ok.chunk_count
            (λ i u.
            let positive : 0 < 2 ^ height g = pow_pos (height g) in
            let some = ok.counts.some in
            let below : f * 2 ^ height g ≤ start = (le-div_iff_mul-le {x = f} {y = start} positive).0 (omega arith) in
            let order : f ≤ l =
            (le-div_iff_mul-le {x = f} {y = start + length operations - 1} positive).1 (omega arith) in
            let back : (f + i) - f ≡ i = omega arith in
            ap (λ x. get_or chunks x []) (sym back) ∙ sym (supplied-get f chunks (f + i) (omega arith))
            ∙ each (f + i) (omega arith) (omega arith));
      }

  proof_is : IsRangeOwn → proof.ops_root ≡ ops_root_of h g s → proof.pending ≡ option_map h (pending_of h g s)
      → proof.partial ≡ option_map h (partial_of h g s)
      → proof ≡ own_range_proof h g s start (start + length operations)
  proof_is own o p q =
      let a : proof ≡ (record {
        range = own_proof h (view g (length s.operations)) BackwardFold (content h g s)
            (aligned_of h g s) start (start + length operations);
        pending = proof.pending;
        partial = proof.partial;
        ops_root = proof.ops_root;
      }) = ap (λ r. record {
        range = r;
        pending = proof.pending;
        partial = proof.partial;
        ops_root = proof.ops_root;
      }) own.proof_is in
      let range = own_proof h (view g (length s.operations)) BackwardFold (content h g s) (aligned_of h g s) start
      (start + length operations) in
      let G : Option (List ℕ) → Option (List ℕ) → List ℕ → RangeProof =
      λ x y z. record { range = range; pending = x; partial = y; ops_root = z } in
      a ∙ ap (λ x. G x proof.partial proof.ops_root) p
      ∙ ap (λ y. G (option_map h (pending_of h g s)) y proof.ops_root) q
      ∙ ap (λ z. G (option_map h (pending_of h g s)) (option_map h (partial_of h g s)) z) o

  pub current_sound : IsCurrent h g proof start operations chunks (canonical_root h g s)
      → (proof ≡ own_range_proof h g s start (start + length operations)) × Holds g s start operations chunks
      ⊎ Cross h (current_strings h g proof start operations chunks) (snapshot_strings h g s)
  current_sound ok =
      let n = proof.range.leaves in
      let m = length s.operations in
      let cl = claim h g proof start operations chunks in
      let ct = content h g s in
      let xs = current_strings h g proof start operations chunks in
      let ys = snapshot_strings h g s in
      let range_strings = check_strings h (view g n) BackwardFold proof.range start cl in
      let tree = tree_strings h (view g m) BackwardFold ct (aligned_of h g s) in
      let gr = claimed h g proof start operations chunks (graftable g n) in
      let pr = claimed h g proof start operations chunks (complete g n) in
      let tp = touches_pending h g proof start operations chunks in
      let tq = touches_partial h g proof start operations chunks in
      let hashed = if tp then gr ∷ [] else [] in
      let hashed' = if tq then pr ∷ [] else [] in
      let ops = tree_strings h (ungrafted g.shape) BackwardFold (listed s.operations) (exact_of h g s) in
      let opt1 = option_to_list (pending_of h g s) in
      let opt2 = option_to_list (partial_of h g s) in
      let cs = current_string h g proof start operations chunks in
      let ss = snapshot_string h g s in
      let X = range_strings ++ (hashed ++ hashed') in
      let Y = tree ++ (ops ++ (opt1 ++ opt2)) in
      let pos : 0 < d = omega (arith, width) in
      elim (same_parts d h sized g proof start operations chunks s pos digests ok) [
        | inr c ↦ inr c
        | inl parts ↦
            let whole = padded d h sized g proof start operations chunks s in
            elim (sound d g.bytes h sized (chunk_apart g ok.size d width) g.shape laws g.shape.position (λ i. (view g i).grafted)
            BackwardFold proof.range start whole digests.range (λ a k o g' m' i c. pad-length g.bytes _) ct
            (aligned_of h g s) (λ a k o g' m' i c. chunk-length g.bytes s.bits _) snapshot.few
            (aligned-le g.shape m s.floor (height g))
            (grafted_accepted d h sized g proof start operations chunks s ok parts)) [
              | inr c ↦ inr (wider d h sized g proof start operations chunks s ok c)
              | inl own ↦
                  let leaves : n ≡ m = ap (λ r. r.leaves) own.proof_is in
                  elim (slot_decided h xs ys proof.pending (pending_of h g s) gr tp parts.pending ok.pending_is
                  (λ q. Contains-append_right (cs ∷ []) X gr (Contains-append_right range_strings (hashed ++ hashed') gr
                  (Contains-append_left hashed hashed' gr (in_hashed tp gr q))))
                  (λ x q. Contains-append_right (ss ∷ []) Y x
                  (Contains-append_right tree (ops ++ (opt1 ++ opt2)) x (Contains-append_right ops (opt1 ++ opt2) x
                  (Contains-append_left opt1 opt2 x (in_option (pending_of h g s) x q)))))) [
                    | inr c ↦ inr c
                    | inl dp ↦
                        elim (slot_decided h xs ys proof.partial (partial_of h g s) pr tq parts.partial ok.partial_is
                        (λ q. Contains-append_right (cs ∷ []) X pr (Contains-append_right range_strings
                        (hashed ++ hashed') pr (Contains-append_right hashed hashed' pr (in_hashed tq pr q))))
                        (λ x q. Contains-append_right (ss ∷ []) Y x (Contains-append_right tree
                        (ops ++ (opt1 ++ opt2)) x (Contains-append_right ops (opt1 ++ opt2) x
                        (Contains-append_right opt1 opt2 x (in_option (partial_of h g s) x q)))))) [
                          | inr c ↦ inr c
                          | inl dq ↦ inl (
                            proof_is own parts.ops parts.pending parts.partial,
                            holds ok own (chunk_is ok leaves own dp dq),
                          )
                        ]
                  ]
            ]
      ]
