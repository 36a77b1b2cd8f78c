-- A snapshot's own page that is wanted is taken.
use Rattle.std.proofs.Common.{◌≡◌, ◌⊎◌, ℕ, zero, suc, ◌+◌, ◌-◌, ◌*◌, ◌/◌, ◌<◌, ◌≤◌, ◌^◌, Bool, List, [], ◌++◌, length, drop, Option, Some, None, Ok, inl, inr, refl, sym, ap, subst, ◌∙◌, arith, append-nil, pow_pos}
use Rattle.std.specs.Option.{unwrap_or}
use Rattle.std.proofs.lemmas.Nat.{le-div}
use Rattle.std.proofs.Math.Nat.{add-mul-div_right, div-mul-le_self, le-mul_of_pos_right}
use Rattle.storage_codec.specs.Digests.{HashFunction, IsSized}
use Rattle.storage_codec.specs.Codec.{Answer, whole}
use Rattle.storage_codec.specs.Laws.Codec.{one_answer}
use Rattle.storage_merkle.specs.RangeProofs.{AreDigests}
use Rattle.storage_bitmap.specs.Chunks.{packed_bytes, chunk, chunks_from}
use Rattle.storage_current.specs.Snapshots.{Grafting, IsGrafting, height, Snapshot, RangeProof, own_range_proof, first_chunk, last_chunk}
use Rattle.storage_current.specs.CurrentProofs.{IsCurrent}
use Rattle.storage_current.specs.CurrentSoundness.{OwnCurrentProofsAreAccepted}
use Rattle.storage_current.specs.CurrentWire.{range_proof_at, range_proof_text}
use Rattle.storage_current.specs.OwnWire.{IsPrompt, OwnCurrentProofsAreReadAgain}
use Rattle.storage_sync.specs.Pages.{Page}
use Rattle.storage_sync.specs.Messages.{page_at, page_text, AreAdmitted}
use Rattle.storage_sync.specs.Laws.Pages.{again_with}
use Rattle.storage_sync.specs.Syncs.{Taken, IsAsked, leaves_with, place}
use Rattle.storage_sync.specs.Refusals.{IsNoPage, IsUnread, IsUnproved, IsRefused, IsHonest}
use Rattle.storage_sync.specs.declared.sync.refusal.Refusal.{Refusal}
use Rattle.storage_sync.specs.declared.sync.refusal.Refusal.TheVariants.{NotAPage, TooMuch, NotAsked, NotProved, Memory}

-- ---- the chunks that operations touch

length-packed : (n : ℕ) (bits : List Bool) → length (packed_bytes n bits) ≡ n
unfolding packed_bytes
length-packed zero bits = refl
length-packed (suc n) bits = ap suc (length-packed n (drop 8 bits))

length-chunk : (n : ℕ) (bits : List Bool) (j : ℕ) → length (chunk n bits j) ≡ n
unfolding chunk
length-chunk n bits j = length-packed n (drop (j * (8 * n)) bits)

pub sized_chunks : (n : ℕ) (bits : List Bool) (count j : ℕ) → AreDigests n (chunks_from n bits count j)
unfolding chunks_from
sized_chunks n bits zero j = tt
sized_chunks n bits (suc count) j = (length-chunk n bits j, sized_chunks n bits count (suc j))

length-chunks_from : (n : ℕ) (bits : List Bool) (count j : ℕ) → length (chunks_from n bits count j) ≡ count
unfolding chunks_from
length-chunks_from n bits zero j = refl
length-chunks_from n bits (suc count) j = ap suc (length-chunks_from n bits count (suc j))

-- no more chunks than operations
few_touched : (b start m : ℕ) → 0 < b → 0 < m → (start + m - 1) / b - start / b + 1 ≤ m
few_touched b start m pos some =
    let k = (start + m - 1) / b in
    let below : k * b ≤ start + m - 1 = div-mul-le_self (start + m - 1) b in
    let wide : m - 1 ≤ (m - 1) * b = le-mul_of_pos_right (m - 1) pos in
    let up : k ≤ (start + (m - 1) * b) / b = le-div k (start + (m - 1) * b) b pos (omega arith) in
    let apart : (start + (m - 1) * b) / b ≡ start / b + (m - 1) = add-mul-div_right start (m - 1) pos in
    omega arith

-- ---- an own page is read again

module _ (accepted : OwnCurrentProofsAreAccepted) (again : OwnCurrentProofsAreReadAgain) (d : ℕ) (h : HashFunction)
    (sized : IsSized d h) (g : Grafting) (grafting : IsGrafting g) (there : Bool) (prompt : IsPrompt there g.shape) (t : Taken)
    (small : t.limits.max_digests < 2 ^ 64) (s : Snapshot) (bytes : List ℕ) (honest : IsHonest h g there s t bytes) where
  abbrev page : Page
  page = honest.page

  abbrev start : ℕ
  start = place t

  abbrev own : RangeProof
  own = own_range_proof h g s start (start + length page.operations)

  proof_again : (more : List ℕ)
      → range_proof_at there d t.limits.max_digests (range_proof_text there page.proof ++ more) ≡ Ok (page.proof, more)
  proof_again more =
      let few : length own.range.digests ≤ t.limits.max_digests =
      subst (λ (q : RangeProof). length q.range.digests ≤ t.limits.max_digests) honest.own.proof_is honest.few in
      subst (λ (q : RangeProof). range_proof_at there d t.limits.max_digests (range_proof_text there q ++ more) ≡ Ok (q, more))
      (sym honest.own.proof_is) (again d h sized g grafting there prompt s honest.snapshot start
      (start + length page.operations) t.limits.max_digests few small more)

  admitted : AreAdmitted g.bytes t.limits page.operations page.chunks
  admitted =
      let holds = honest.own.holds in
      let few = honest.snapshot.few in
      let within = honest.asked.within in
      let most = honest.asked.few in
      let count = last_chunk g start (length page.operations) - first_chunk g start + 1 in
      let touched : count ≤ length page.operations =
      few_touched (2 ^ height g) start (length page.operations) (pow_pos _) holds.some in
      let chunks : length page.chunks ≡ count =
      ap length holds.chunks_are ∙ length-chunks_from g.bytes s.bits count (first_chunk g start) in
      record {
        count = omega arith;
        few_operations = omega (arith, div-mul-le_self t.limits.max_ops (8 * g.bytes));
        short = honest.short;
        few_chunks = omega arith;
        sized = subst (AreDigests g.bytes) (sym holds.chunks_are) (sized_chunks g.bytes s.bits count (first_chunk g start));
      }

  pub read : whole (page_at there d g.bytes t.limits bytes) ≡ Ok (page, [])
  read =
      let text = page_text there page in
      let none : List ℕ = [] in
      ap whole (ap (page_at there d g.bytes t.limits) (honest.bytes_are ∙ sym (append-nil text))
      ∙ again_with there d g.bytes t.limits page none proof_again admitted)

  -- ---- nothing is wrong with it

  is_page : (answer : Answer Page) → answer ≡ Ok (page, []) → IsNoPage answer → ⊥
  is_page answer e wrong = subst IsNoPage e wrong

  unread : (refusal : Refusal) → IsUnread (whole (page_at there d g.bytes t.limits bytes)) refusal → refusal ≡ Memory
  unread NotAPage wrong = absurd (is_page (whole (page_at there d g.bytes t.limits bytes)) read wrong)
  unread TooMuch wrong = absurd (let clash = sym read ∙ wrong.1 in cc)
  unread NotAsked wrong = absurd wrong
  unread NotProved wrong = absurd wrong
  unread Memory wrong = refl

  pub all_leaves : (o : Option ℕ) → (o ≡ None) ⊎ (o ≡ Some (length s.operations))
      → unwrap_or o page.proof.range.leaves ≡ length s.operations
  all_leaves o (inl none) = ap (λ (x : Option ℕ). unwrap_or x page.proof.range.leaves) none
      ∙ ap (λ (q : RangeProof). q.range.leaves) honest.own.proof_is
  all_leaves o (inr some) = ap (λ (x : Option ℕ). unwrap_or x page.proof.range.leaves) some

  asked : IsAsked g.bytes t (leaves_with t page) (length page.operations)
  asked = subst (λ (n : ℕ). IsAsked g.bytes t n (length page.operations)) (sym (all_leaves t.leaves honest.leaves_are))
      honest.asked

  current : IsCurrent h g page.proof start page.operations page.chunks t.root
  current =
      subst (λ (q : RangeProof). IsCurrent h g q start page.operations page.chunks t.root) (sym honest.own.proof_is)
      (subst (λ (r : List ℕ). IsCurrent h g own start page.operations page.chunks r) (sym honest.root_is)
      (accepted h g grafting s honest.snapshot start page.operations page.chunks honest.own.holds))

  unproved : (refusal : Refusal) → IsUnproved h g t page refusal → refusal ≡ Memory
  unproved NotAPage wrong = absurd wrong
  unproved TooMuch wrong = absurd wrong
  unproved NotAsked wrong = absurd (wrong asked)
  unproved NotProved wrong = absurd (wrong.1 current)
  unproved Memory wrong = refl

  pub honest_taken : (refusal : Refusal) → IsRefused h g there d t bytes refusal → refusal ≡ Memory
  honest_taken refusal (inl wrong) = unread refusal wrong
  honest_taken refusal (inr (p, same, wrong)) =
      let one : p ≡ page = (one_answer (whole (page_at there d g.bytes t.limits bytes)) p page [] [] same read).0 in
      unproved refusal (subst (λ (q : Page). IsUnproved h g t q refusal) one wrong)
