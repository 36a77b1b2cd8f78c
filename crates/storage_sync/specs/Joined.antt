-- A copy and a server of the same snapshot.
use Rattle.std.specs.Prelude.{◌≡◌, ◌⊎◌, ℕ, ◌+◌, ◌*◌, ◌^◌, ◌<◌, ◌≤◌, Bool, List, [], ◌∷◌, length, Some, None}
use Rattle.storage_codec.specs.Digests.{HashFunction, IsSized}
use Rattle.storage_current.specs.OwnWire.{IsPrompt}
use Rattle.storage_current.specs.Snapshots.{Grafting, IsGrafting, Snapshot, IsSnapshot, canonical_root}
use Rattle.storage_sync.specs.declared.sync.limits.Limits.{Limits}
use Rattle.storage_sync.specs.Messages.{Request, AreShort, page_text}
use Rattle.storage_sync.specs.Pages.{Page}
use Rattle.storage_sync.specs.Refusals.{IsHonest}
use Rattle.storage_sync.specs.Serving.{IsAnswer}
use Rattle.storage_sync.specs.Syncs.{Taken, IsTaken, IsWhole, place, step}

-- what a copy wants next, of chunks of n bytes
abbrev pub wanted : ℕ → Taken → Request
wanted n t = record { start = place t; max_ops = step n t.limits }

-- a page is within limits
pub record IsWithin (limits : Limits) (p : Page) : Type 0 where
  pub few : length p.proof.range.digests ≤ limits.max_digests
  pub short : AreShort limits.max_operation_len p.operations

module _ (h : HashFunction) (g : Grafting) (s : Snapshot) where
  -- a copy may be one of the snapshot: it has its root, and its number of operations where it knows one
  pub record MayBeOf (t : Taken) : Type 0 where
    pub snapshot : IsSnapshot s
    pub root_is : t.root ≡ canonical_root h g s
    pub leaves_are : (t.leaves ≡ None) ⊎ (t.leaves ≡ Some (length s.operations))

  -- these pages, as they are written, are taken one after another, each the answer to what is wanted then, within the limits
  abbrev pub IsServedRun : Bool → ℕ → List (List ℕ) → Taken → Taken → Type 0
  IsServedRun has_pending d [] old new = new ≡ old
  IsServedRun has_pending d (bytes ∷ more) old new =
      (between : Taken) × (page : Page) × IsAnswer h g s (wanted g.bytes old) page × IsWithin old.limits page
      × (bytes ≡ page_text has_pending page) × IsTaken h g has_pending d old between bytes × IsServedRun has_pending d more between new

-- The answer to what a copy wants, within its limits, is an honest page, which is refused for want of memory alone.
abbrev pub AnswersAreHonest : Type 0
AnswersAreHonest =
    (h : HashFunction) (g : Grafting) (has_pending : Bool) (s : Snapshot) (t : Taken) (page : Page) → MayBeOf h g s t
    → IsAnswer h g s (wanted g.bytes t) page → IsWithin t.limits page → IsHonest h g has_pending s t (page_text has_pending page)

-- Once as many answers are taken as there are steps left, all is there.
abbrev pub ServedCopiesAreWhole : Type 0
ServedCopiesAreWhole =
    (d : ℕ) (h : HashFunction) → IsSized d h → (g : Grafting) → IsGrafting g → (has_pending : Bool)
    → IsPrompt has_pending g.shape → (s : Snapshot) (bytes : List ℕ) (more : List (List ℕ)) (old new : Taken)
    → MayBeOf h g s old → old.limits.max_digests < 2 ^ 64 → IsServedRun h g s has_pending d (bytes ∷ more) old new
    → length s.operations ≤ place old + length (bytes ∷ more) * step g.bytes old.limits → IsWhole new
