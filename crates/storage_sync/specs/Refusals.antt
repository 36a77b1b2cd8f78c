-- Why pages are refused, and which never are.
use Rattle.std.specs.Prelude.{◌≡◌, ◌⊎◌, ℕ, ◌+◌, ◌^◌, ◌<◌, ◌≤◌, Bool, List, [], length, Some, None, Ok, Err}
use Rattle.storage_codec.specs.Digests.{HashFunction, IsSized}
use Rattle.storage_codec.specs.Codec.{Answer, whole}
use Rattle.storage_codec.specs.Faults.{InvalidLength}
use Rattle.storage_current.specs.Snapshots.{Grafting, IsGrafting, Snapshot, IsSnapshot, canonical_root, Holds, own_range_proof}
use Rattle.storage_current.specs.CurrentProofs.{IsCurrent}
use Rattle.storage_current.specs.OwnWire.{IsPrompt}
use Rattle.storage_sync.specs.Messages.{AreShort, page_text, page_at}
use Rattle.storage_sync.specs.Pages.{Page}
use Rattle.storage_sync.specs.Syncs.{Taken, IsAsked, leaves_with, place}
use Rattle.storage_sync.specs.declared.sync.refusal.Refusal.{Refusal}
use Rattle.storage_sync.specs.declared.sync.refusal.Refusal.TheVariants.{NotAPage, TooMuch, NotAsked, NotProved, Memory}

-- reading fails, and not by a length
abbrev pub IsNoPage : Answer Page → Type 0
IsNoPage (Ok page) = ⊥
IsNoPage (Err (InvalidLength n)) = ⊥
IsNoPage (Err fault) = Unit {0}

-- why bytes are not read as a page, where this is what reading answers
abbrev pub IsUnread : Answer Page → Refusal → Type 0
IsUnread answer NotAPage = IsNoPage answer
IsUnread answer TooMuch = (n : ℕ) × (answer ≡ Err (InvalidLength n))
IsUnread answer NotAsked = ⊥
IsUnread answer NotProved = ⊥
IsUnread answer Memory = Unit {0}

module _ (h : HashFunction) (g : Grafting) where
  -- why a page is not taken
  abbrev pub IsUnproved : Taken → Page → Refusal → Type 0
  IsUnproved t p NotAPage = ⊥
  IsUnproved t p TooMuch = ⊥
  IsUnproved t p NotAsked = IsAsked g.bytes t (leaves_with t p) (length p.operations) → ⊥
  IsUnproved t p NotProved = IsAsked g.bytes t (leaves_with t p) (length p.operations)
      × (IsCurrent h g p.proof (place t) p.operations p.chunks t.root → ⊥)
  IsUnproved t p Memory = Unit {0}

  -- why bytes are not taken: the first reason that holds, else want of memory
  abbrev pub IsRefused : Bool → ℕ → Taken → List ℕ → Refusal → Type 0
  IsRefused has_pending d t bytes refusal =
      IsUnread (whole (page_at has_pending d g.bytes t.limits bytes)) refusal
      ⊎ ((p : Page) × (whole (page_at has_pending d g.bytes t.limits bytes) ≡ Ok (p, [])) × IsUnproved t p refusal)

  -- a snapshot's own page of the operations from `start` on
  pub record IsOwnPage (s : Snapshot) (start : ℕ) (p : Page) : Type 0 where
    pub proof_is : p.proof ≡ own_range_proof h g s start (start + length p.operations)
    pub holds : Holds g s start p.operations p.chunks

  -- the own page of a snapshot with the trusted root, of what is wanted next, within the limits, as it is written
  pub record IsHonest (has_pending : Bool) (s : Snapshot) (t : Taken) (bytes : List ℕ) : Type 0 where
    pub snapshot : IsSnapshot s
    pub root_is : t.root ≡ canonical_root h g s
    pub leaves_are : (t.leaves ≡ None) ⊎ (t.leaves ≡ Some (length s.operations))
    pub page : Page
    pub own : IsOwnPage s (place t) page
    pub asked : IsAsked g.bytes t (length s.operations) (length page.operations)
    pub few : length page.proof.range.digests ≤ t.limits.max_digests
    pub short : AreShort t.limits.max_operation_len page.operations
    pub bytes_are : bytes ≡ page_text has_pending page

-- An honest page is refused for want of memory alone.
abbrev pub HonestPagesAreTaken : Type 0
HonestPagesAreTaken =
    (d : ℕ) (h : HashFunction) → IsSized d h → (g : Grafting) → IsGrafting g → (has_pending : Bool)
    → IsPrompt has_pending g.shape → (t : Taken) → t.limits.max_digests < 2 ^ 64 → (s : Snapshot) (bytes : List ℕ)
    → IsHonest h g has_pending s t bytes → (refusal : Refusal) → IsRefused h g has_pending d t bytes refusal → refusal ≡ Memory
