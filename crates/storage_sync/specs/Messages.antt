-- What requests and pages are written as, and what reading answers.
use Rattle.std.specs.Prelude.{ℕ, zero, suc, ◌<◌, ◌≤◌, ◌^◌, Bool, List, [], ◌∷◌, ◌++◌, length, map, Ok, Err, nat_lt, eqb, ◌||◌, if◌then◌else◌}
use Rattle.storage_codec.specs.Codec.{Answer, mapped, front_at, varint_at, vector_at}
use Rattle.storage_codec.specs.Faults.{◌>>=◌, InvalidLength}
use Rattle.storage_codec.specs.Parts.{varint_text, vector_text}
use Rattle.storage_merkle.specs.Shape.{max_leaves}
use Rattle.storage_merkle.specs.Wire.{location_at}
use Rattle.storage_merkle.specs.ProofWire.{joined_text}
use Rattle.storage_merkle.specs.RangeProofs.{AreDigests}
use Rattle.storage_current.specs.CurrentWire.{range_proof_text, range_proof_at, as_is, IsAdmittedRangeProof}
use Rattle.storage_sync.specs.declared.sync.limits.Limits.{Limits}
use Rattle.storage_sync.specs.declared.sync.request.Request.{Request as Asked}
use Rattle.storage_sync.specs.Pages.{Page}

-- ---- requests

-- where to begin, and how many operations at most
pub record Request : Type 0 where
  pub start : ℕ
  pub max_ops : ℕ

abbrev pub request_of : {F : Type 0} → Asked F → Request
request_of r = record { start = r.start_loc; max_ops = r.max_ops }

abbrev pub request_text : Request → List ℕ
request_text r = varint_text r.start ++ varint_text r.max_ops

-- the same, with at least one operation and at most so many
abbrev pub request_at : ℕ → List ℕ → Answer Request
request_at most bytes = location_at bytes >>= λ start. varint_at start.1 >>= λ count.
    if eqb count.0 0 || nat_lt most count.0 then Err (InvalidLength count.0)
    else Ok (record { start = start.0; max_ops = count.0 }, count.1)

-- a request that a reader of at most so many operations admits
pub record IsAdmittedRequest (most : ℕ) (r : Request) : Type 0 where
  pub start : r.start ≤ max_leaves
  pub some : 0 < r.max_ops
  pub few : r.max_ops ≤ most
  pub count : r.max_ops < 2 ^ 64

-- ---- lists

-- so many items, one after another
abbrev pub items_at : {V : Type 0} → (List ℕ → Answer V) → ℕ → List ℕ → Answer (List V)
items_at item zero bytes = Ok ([], bytes)
items_at item (suc n) bytes = item bytes >>= λ x. mapped (λ xs. x.0 ∷ xs) (items_at item n x.1)

-- a number of items, at most so many
abbrev pub count_at : ℕ → List ℕ → Answer ℕ
count_at most bytes = varint_at bytes >>= λ n. if nat_lt most n.0 then Err (InvalidLength n.0) else Ok n

-- how many, then the items
abbrev pub list_at : {V : Type 0} → (List ℕ → Answer V) → ℕ → List ℕ → Answer (List V)
list_at item most bytes = count_at most bytes >>= λ n. items_at item n.0 n.1

abbrev pub list_text : (List ℕ → List ℕ) → List (List ℕ) → List ℕ
list_text text xs = varint_text (length xs) ++ joined_text (map text xs)

-- ---- pages, over chunks of n bytes

-- the range proof, the list of the operations, each as its length and its bytes, and the list of the chunks
abbrev pub page_text : Bool → Page → List ℕ
page_text has_pending p =
    range_proof_text has_pending p.proof ++ (list_text vector_text p.operations ++ list_text as_is p.chunks)

-- the same within limits, with no more chunks than operations
abbrev pub page_at : Bool → (d n : ℕ) → Limits → List ℕ → Answer Page
page_at has_pending d n limits bytes =
    range_proof_at has_pending d limits.max_digests bytes >>= λ proof.
    list_at (vector_at 0 limits.max_operation_len) limits.max_ops proof.1 >>= λ operations.
    list_at (front_at n) (length operations.0) operations.1 >>= λ chunks.
    Ok (record { proof = proof.0; operations = operations.0; chunks = chunks.0 }, chunks.1)

-- operations of at most so many bytes each
abbrev pub AreShort : ℕ → List (List ℕ) → Type 0
AreShort most [] = Unit {0}
AreShort most (x ∷ xs) = ((length x < 2 ^ 64) × (length x ≤ most)) × AreShort most xs

-- operations and chunks of n bytes that a reader within these limits admits
pub record AreAdmitted (n : ℕ) (limits : Limits) (operations chunks : List (List ℕ)) : Type 0 where
  pub count : length operations < 2 ^ 64
  pub few_operations : length operations ≤ limits.max_ops
  pub short : AreShort limits.max_operation_len operations
  pub few_chunks : length chunks ≤ length operations
  pub sized : AreDigests n chunks

-- a page that it admits
pub record IsAdmittedPage (has_pending : Bool) (n : ℕ) (limits : Limits) (p : Page) : Type 0 where
  pub proof : IsAdmittedRangeProof has_pending limits.max_digests p.proof
  pub lists : AreAdmitted n limits p.operations p.chunks
