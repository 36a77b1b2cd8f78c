-- Requests that are answered from a snapshot and a log, the pages that answer them, and why there is none.
use Rattle.std.specs.Prelude.{◌≡◌, ◌≢◌, ℕ, ◌+◌, ◌-◌, ◌*◌, ◌/◌, ◌%◌, ◌<◌, ◌≤◌, List, [], length, get_or, ltb, if◌then◌else◌, Contains, Option, None, Some, Result, Err}
use Rattle.std.specs.Global.{Vec}
use Rattle.storage_codec.specs.Digests.{HashFunction}
use Rattle.storage_merkle.specs.Nodes.{IsNode}
use Rattle.storage_merkle.specs.Shape.{size}
use Rattle.storage_current.specs.KeptSnapshots.{KeptSnapshot, StandsForSnapshot}
use Rattle.storage_current.specs.Served.{MayFailWithin}
use Rattle.storage_current.specs.SnapshotTails.{KeptTail, StandsForTail}
use Rattle.storage_current.specs.Snapshots.{Grafting, Snapshot, IsSnapshot, height, view_node}
use Rattle.storage_current.specs.Tails.{IsTailRetained}
use Rattle.storage_sync.specs.Messages.{Request}
use Rattle.storage_sync.specs.Pages.{Page}
use Rattle.storage_sync.specs.Refusals.{IsOwnPage}
use Rattle.storage_sync.specs.declared.sync.unanswered.Unanswered.{Unanswered}
use Rattle.storage_sync.specs.declared.sync.unanswered.Unanswered.TheVariants.{OutOfBounds, NotAtChunk, Pruned, TooFew, Corrupted, Log, Memory}

-- a snapshot in memory and a floor are this snapshot's
pub record IsServed (h : HashFunction) (g : Grafting) (kept : KeptSnapshot) (floor : ℕ) (s : Snapshot) : Type 0 where
  pub snapshot : IsSnapshot s
  pub stands : StandsForSnapshot h g kept s
  pub floor_is : floor ≡ s.floor

-- a snapshot in memory behind an operation is this snapshot's
pub record IsServedTail (h : HashFunction) (g : Grafting) (kept : KeptTail) (s : Snapshot) : Type 0 where
  pub snapshot : IsSnapshot s
  pub stands : StandsForTail h g kept s

-- what is answered at a position is the digest of the node there of each such snapshot's grafted view, if the node is left
abbrev pub TellsLeft : HashFunction → Grafting → KeptTail → ℕ → Option (List ℕ) → Type 0
TellsLeft h g kept position answer = (s : Snapshot) → IsServedTail h g kept s → position < size g.shape (length s.operations) →
    (a k : ℕ) → IsNode g.shape position a k → IsTailRetained g.shape (height g) kept.status.pruned kept.chunks.boundary a k →
    answer ≡ Some (view_node h g s a k)

-- the items of a log are byte strings, and at each location that it holds there is the snapshot's operation
pub record IsLogOf (text : Vec ℕ → List ℕ) (item : ℕ → List ℕ) (first past : ℕ) (s : Snapshot) : Type 0 where
  pub text_is : (v : Vec ℕ) → text v ≡ v.items
  pub items : (l : ℕ) → first ≤ l → l < past → l < length s.operations → item l ≡ get_or s.operations l []

-- how many operations a page has where so many are left and at most so many are wanted: all that are left, else those of whole chunks
-- of n bytes
abbrev pub page_count : (n left most : ℕ) → ℕ
page_count n left most = if ltb most left then most / (8 * n) * (8 * n) else left

-- how many the page has that answers a request, of a snapshot of so many operations
abbrev pub answer_count : (n leaves : ℕ) → Request → ℕ
answer_count n leaves r = page_count n (leaves - r.start) r.max_ops

-- for none of the positions the answer is none
abbrev pub AreNeverAbsent : {D : Type 0} → (ℕ → Option D → Type 0) → List ℕ → Type 0
AreNeverAbsent answers positions = (p : ℕ) → Contains positions p → answers p None → ⊥

-- ---- what is answered

-- a request begins where a chunk of n bytes begins that has one of so many operations
pub record IsAtChunk (n leaves : ℕ) (r : Request) : Type 0 where
  pub within : r.start < leaves
  pub boundary : r.start % (8 * n) ≡ 0

-- it begins at or behind the chunks that are pruned, and the first operation of a log
pub record IsUnpruned (n pruned first : ℕ) (r : Request) : Type 0 where
  pub bits : pruned ≤ r.start / (8 * n)
  pub operations : first ≤ r.start

-- a page of some operations answers it
pub record HasPage (n leaves pruned first : ℕ) (r : Request) : Type 0 where
  pub begins : IsAtChunk n leaves r
  pub kept : IsUnpruned n pruned first r
  pub some : 0 < answer_count n leaves r

-- and a log that ends at this location holds its operations
abbrev pub HasAnswer : (n leaves pruned first past : ℕ) → Request → Type 0
HasAnswer n leaves pruned first past r = HasPage n leaves pruned first r × (r.start + answer_count n leaves r ≤ past)

-- the snapshot's own page of the operations that are wanted: of all that are left, else of whole chunks
pub record IsAnswer (h : HashFunction) (g : Grafting) (s : Snapshot) (r : Request) (p : Page) : Type 0 where
  pub begins : IsAtChunk g.bytes (length s.operations) r
  pub own : IsOwnPage h g s r.start p
  pub count : length p.operations ≡ answer_count g.bytes (length s.operations) r

-- ---- what is not

-- why no page answers a request, of so many operations with so many chunks pruned, and a log that begins at this location: the first
-- reason that holds
abbrev pub HasNoPage : (n leaves pruned first : ℕ) → Request → Unanswered → Type 0
HasNoPage n leaves pruned first r OutOfBounds = leaves ≤ r.start
HasNoPage n leaves pruned first r NotAtChunk = (r.start < leaves) × (r.start % (8 * n) ≢ 0)
HasNoPage n leaves pruned first r Pruned = IsAtChunk n leaves r × (IsUnpruned n pruned first r → ⊥)
HasNoPage n leaves pruned first r TooFew =
    IsAtChunk n leaves r × IsUnpruned n pruned first r × (answer_count n leaves r ≡ 0)
HasNoPage n leaves pruned first r Corrupted = ⊥
HasNoPage n leaves pruned first r (Log code) = ⊥
HasNoPage n leaves pruned first r Memory = ⊥

-- why it is not answered from a log that ends at this location and may fail so: there is no page, the log lacks some of its operations,
-- or it failed at one of them; else want of memory
abbrev pub IsUnanswered : (n leaves pruned first past : ℕ) → (may_fail : ℕ → ℕ → Type 0) → Request → Unanswered → Type 0
IsUnanswered n leaves pruned first past may_fail r Corrupted =
    HasPage n leaves pruned first r × (past < r.start + answer_count n leaves r)
IsUnanswered n leaves pruned first past may_fail r (Log code) =
    HasAnswer n leaves pruned first past r
    × MayFailWithin may_fail r.start (r.start + answer_count n leaves r) code
IsUnanswered n leaves pruned first past may_fail r Memory = Unit {0}
IsUnanswered n leaves pruned first past may_fail r error = HasNoPage n leaves pruned first r error

-- there is no proof, whatever the log has
abbrev pub IsUnmade : Unanswered → Type 0
IsUnmade Corrupted = Unit {0}
IsUnmade Memory = Unit {0}
IsUnmade error = ⊥

-- a log failed in a range of locations as it may there, or memory was wanting
abbrev pub IsFailedRead : (may_fail : ℕ → ℕ → Type 0) (low high : ℕ) → Unanswered → Type 0
IsFailedRead may_fail low high (Log code) = MayFailWithin may_fail low high code
IsFailedRead may_fail low high Memory = Unit {0}
IsFailedRead may_fail low high error = ⊥

-- a log failed, whatever its code
abbrev pub IsLogFault : {X : Type 0} → Result X Unanswered → Type 0
IsLogFault result = (code : ℕ) × (result ≡ Err (Log code))
