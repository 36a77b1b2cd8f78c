-- Openings that are served.
use Rattle.std.proofs.Common.{◌≡◌, ℕ, ◌+◌, ◌-◌, ◌*◌, ◌/◌, ◌%◌, ◌<◌, ◌≤◌, ◌^◌, List, [], length, map, min, get_or, None, inl, inr, refl, sym, ap, subst, ◌∙◌, arith}
use Rattle.std.specs.Global.{Vec}
use Rattle.std.specs.List.{range_with_len}
use Rattle.std.specs.Prelude.{MatchOption}
use Rattle.std.proofs.lemmas.Bool.{le-ltb, lt-leb}
use Rattle.std.proofs.lemmas.List.FromFn.{length-map-range_with_len, get_or-map-range_with_len}
use Rattle.std.proofs.Math.Nat.{div-mul-le_self, mul-le-mul_right}
use Rattle.storage_codec.specs.Digests.{HashFunction}
use Rattle.storage_merkle.specs.Plans.{refusal}
use Rattle.storage_merkle.specs.RangeProofs.{StandAt}
use Rattle.storage_bitmap.specs.Chunks.{IsChunkSize, bit_count}
use Rattle.storage_ops.specs.declared.qmdb.error.Error.{Error}
use Rattle.storage_ops.specs.declared.qmdb.error.Error.TheVariants as fault
use Rattle.storage_current.specs.Beginnings.{IsOwnPlainProof, IsPinsRefused, IsPlainRefused}
use Rattle.storage_current.specs.KeptSnapshots.{KeptSnapshot, StandsForSnapshot, pruned_operations}
use Rattle.storage_current.specs.Laws.Grafting.{chunk_height}
use Rattle.storage_current.specs.Openings.{OwnOpeningsAreAccepted}
use Rattle.storage_current.specs.Pins.{chunk_pins, operation_pins}
use Rattle.storage_current.specs.Snapshots.{Grafting, IsSnapshot, Snapshot, height, ops_root_of, own_witness}
use Rattle.storage_sync.specs.Beginnings.{CanBegin, HasNoBeginning, IsBeginning, IsLeft, IsOwnOpening, IsUnopened, ServedOpeningsAreAccepted}
use Rattle.storage_sync.specs.Openings.{Opening}
use Rattle.storage_sync.specs.Serving.{IsFailedRead, IsLogOf}
use Rattle.storage_sync.specs.declared.sync.unanswered.Unanswered.{Unanswered}
use Rattle.storage_sync.specs.declared.sync.unanswered.Unanswered.TheVariants.{OutOfBounds, NotAtChunk, Pruned, TooFew, Corrupted, Log, Memory}
use Rattle.storage_sync.proofs.Serving.{counted, same_texts}

-- there is a bit for each operation
pub leaves_at : (h : HashFunction) (g : Grafting) (kept : KeptSnapshot) (s : Snapshot) → IsSnapshot s
    → StandsForSnapshot h g kept s → bit_count g.bytes kept.status ≡ length s.operations
leaves_at h g kept s snapshot stands = counted g.bytes kept.status s.bits stands.status ∙ snapshot.bit_each

-- a chunk by its bits
pub chunk_of : (g : Grafting) → IsChunkSize g.bytes → (begin : ℕ) → begin / (8 * g.bytes) ≡ begin / 2 ^ height g
chunk_of g sized begin = ap (λ (b : ℕ). begin / b) (sym (chunk_height g sized).bits)

-- the chunks before an operation that is there
pub few_before : (g : Grafting) → IsChunkSize g.bytes → (begin most len count : ℕ) → begin < most → most ≡ min len (2 ^ 62)
    → len ≡ count → begin / (8 * g.bytes) * 2 ^ height g ≤ min count (2 ^ 62)
few_before g sized begin most len count below is same =
    let wide : begin / (8 * g.bytes) * 2 ^ height g ≡ begin / (8 * g.bytes) * (8 * g.bytes) =
    ap (λ (w : ℕ). begin / (8 * g.bytes) * w) (chunk_height g sized).bits in
    let bound : most ≡ min count (2 ^ 62) = is ∙ ap (λ (k : ℕ). min k (2 ^ 62)) same in
    omega (arith, wide, div-mul-le_self begin (8 * g.bytes), below, bound)

-- what is pruned is before a location whose chunk is not
pub left_behind : (g : Grafting) (kept : KeptSnapshot) (begin : ℕ) → kept.status.pruned ≤ begin / 2 ^ height g
    → pruned_operations g kept.status ≤ begin
left_behind g kept begin left = omega (
  arith,
  div-mul-le_self begin (2 ^ height g),
  mul-le-mul_right (2 ^ height g) left,
)

-- ---- why there is no opening

no_beginning : (g : Grafting) (n pruned first past : ℕ) (may_fail : ℕ → ℕ → Type 0) (begin : ℕ) (error : Unanswered)
    → HasNoBeginning g n pruned first begin error → IsUnopened g n pruned first past may_fail begin error
no_beginning g n pruned first past may_fail begin OutOfBounds why = why
no_beginning g n pruned first past may_fail begin NotAtChunk why = why
no_beginning g n pruned first past may_fail begin Pruned why = why
no_beginning g n pruned first past may_fail begin TooFew why = absurd why
no_beginning g n pruned first past may_fail begin Corrupted why = absurd why
no_beginning g n pruned first past may_fail begin (Log code) why = absurd why
no_beginning g n pruned first past may_fail begin Memory why = tt

-- a place where a log begins, and one where a copy does, by other names
module _ (g : Grafting) (n pruned f first b begin : ℕ) (same : f ≡ first) (is : b ≡ begin) where
  pub none_begun : (past : ℕ) (may_fail : ℕ → ℕ → Type 0) (error : Unanswered) → HasNoBeginning g n pruned f b error
      → IsUnopened g n pruned first past may_fail begin error
  none_begun past may_fail error why = no_beginning g n pruned first past may_fail begin error
      (subst (λ (x : ℕ). HasNoBeginning g n pruned x begin error) same
      (subst (λ (x : ℕ). HasNoBeginning g n pruned f x error) is why))

  pub left_at : IsLeft g pruned f b → IsLeft g pruned first begin
  left_at left = subst (λ (x : ℕ). IsLeft g pruned x begin) same (subst (λ (x : ℕ). IsLeft g pruned f x) is left)

  pub can_begin : (past : ℕ) → IsBeginning g n b → IsLeft g pruned f b → b < past → CanBegin g n pruned first past begin
  can_begin past begins left logged = record {
    begins = subst (IsBeginning g n) is begins;
    left = left_at left;
    logged = omega (arith, is, logged);
  }

not_read : (g : Grafting) (n pruned first past : ℕ) (may_fail : ℕ → ℕ → Type 0) (begin : ℕ) (error : Unanswered)
    → CanBegin g n pruned first past begin → IsFailedRead may_fail begin (begin + 1) error
    → IsUnopened g n pruned first past may_fail begin error
not_read g n pruned first past may_fail begin OutOfBounds can why = absurd why
not_read g n pruned first past may_fail begin NotAtChunk can why = absurd why
not_read g n pruned first past may_fail begin Pruned can why = absurd why
not_read g n pruned first past may_fail begin TooFew can why = absurd why
not_read g n pruned first past may_fail begin Corrupted can why = absurd why
not_read g n pruned first past may_fail begin (Log code) can why = (can, why)
not_read g n pruned first past may_fail begin Memory can why = tt

pub unread_at : (g : Grafting) (n pruned first past b begin : ℕ) (may_fail : ℕ → ℕ → Type 0) (error : Unanswered) → b ≡ begin
    → CanBegin g n pruned first past begin → IsFailedRead may_fail b (b + 1) error
    → IsUnopened g n pruned first past may_fail begin error
unread_at g n pruned first past b begin may_fail error is can why = not_read g n pruned first past may_fail begin error can
    (subst (λ (x : ℕ). IsFailedRead may_fail x (x + 1) error) is why)

-- ---- what is refused for want of memory alone

pub provable : (F : Type 0) (n start end : ℕ) → n ≤ 2 ^ 62 → start < end → end ≤ n → refusal F n start end ≡ None
provable F n start end few some within = rw (
  le-ltb (2 ^ 62) n few,
  lt-leb end start some,
  le-ltb (2 ^ 62) end (omega (arith, few, within)),
  le-ltb n end within,
) refl

pub plain_memory : {F : Type 0} (pruned n start end : ℕ) (error : Error F) → IsPlainRefused pruned n start end error
    → pruned ≤ start → n ≤ 2 ^ 62 → start < end → end ≤ n → error ≡ fault.Memory
plain_memory pruned n start end error (inl gone) kept few some within = absurd (omega (arith, gone.0, kept))
plain_memory {F} pruned n start end error (inr why) kept few some within =
    subst (λ o. MatchOption o (error ≡ fault.Memory) (λ refused. error ≡ fault.Merkle refused))
    (provable F n start end few some within) why.1

pub pins_memory : {F : Type 0} (pruned n location : ℕ) (error : Error F) → IsPinsRefused pruned n location error
    → pruned ≤ location → location < n → error ≡ fault.Memory
pins_memory pruned n location error (inl gone) kept within = absurd (omega (arith, gone.0, kept))
pins_memory pruned n location error (inr (inl past)) kept within = absurd (omega (arith, past.1, within))
pins_memory pruned n location error (inr (inr memory)) kept within = memory.2

-- ---- the operation of a log

pub one_there : (text : Vec ℕ → List ℕ) (item : ℕ → List ℕ) (first past : ℕ) (s : Snapshot) → IsLogOf text item first past s
    → (begin : ℕ) → begin < length s.operations → first ≤ begin → begin < past → (vs : List (Vec ℕ))
    → map text vs ≡ map item (range_with_len begin (begin + 1 - begin))
    → StandAt s.operations begin (map (λ v. v.items) vs) × (length (map (λ v. v.items) vs) ≡ 1)
one_there text item first past s log begin within from held vs read =
    let operations : List (List ℕ) = map (λ v. v.items) vs in
    let are : operations ≡ map item (range_with_len begin (begin + 1 - begin)) = same_texts text log.text_is vs ∙ read in
    let count : length operations ≡ begin + 1 - begin =
    ap length are ∙ length-map-range_with_len item begin (begin + 1 - begin) in
    let one : length operations ≡ 1 = omega (arith, count) in
    let there : StandAt s.operations begin operations = record {
      within = omega (arith, one, within);
      each = λ j less.
          let inside : j < begin + 1 - begin = omega (arith, count, less) in
          ap (λ (xs : List (List ℕ)). get_or xs j []) are
          ∙ get_or-map-range_with_len item begin (begin + 1 - begin) j (begin + j) [] inside refl
          ∙ log.items (begin + j) (omega (arith, from)) (omega (arith, held, inside)) (omega (arith, within, inside));
    } in
    (there, one)

-- ---- the parts of an opening of one operation

pub opened : (h : HashFunction) (g : Grafting) (s : Snapshot) (b begin : ℕ) → b ≡ begin → (o : Opening) → o.begin ≡ begin
    → IsBeginning g (length s.operations) b → o.witness ≡ own_witness h g s → o.ops_root ≡ ops_root_of h g s
    → IsOwnPlainProof h g s b (b + 1) o.proof → o.pins ≡ operation_pins h g s b
    → o.over_chunks ≡ chunk_pins h g s (b / 2 ^ height g) → StandAt s.operations b o.operations × (length o.operations ≡ 1)
    → IsOwnOpening h g s begin o
opened h g s b begin is o at begins witness root proof pins over there =
    let one = there.1 in
    subst (λ (x : ℕ). IsOwnOpening h g s x o) is (record {
      at = at ∙ sym is;
      begins = begins;
      some = omega (arith, one);
      witness_is = witness;
      ops_root_is = root;
      proof_is = subst (λ (k : ℕ). IsOwnPlainProof h g s b (b + k) o.proof) (sym one) proof;
      there = there.0;
      pins_are = pins;
      over_chunks_are = over;
    })

-- ---- it is accepted

pub served_accepted : OwnOpeningsAreAccepted → ServedOpeningsAreAccepted
served_accepted law h g grafting s snapshot begin o own =
    let at = own.at in
    record {
      boundary = ap (λ (b : ℕ). b % (8 * g.bytes)) at ∙ own.begins.boundary;
      accepted = law h g grafting s snapshot o.witness o.ops_root o.proof o.begin o.operations o.pins own.some
          (record {
            witness_is = own.witness_is;
            ops_root_is = own.ops_root_is;
            there = subst (λ (b : ℕ). StandAt s.operations b o.operations) (sym at) own.there;
            pins_are = own.pins_are ∙ ap (operation_pins h g s) (sym at);
          })
          (subst (λ (b : ℕ). IsOwnPlainProof h g s b (b + length o.operations) o.proof) (sym at) own.proof_is);
    }
