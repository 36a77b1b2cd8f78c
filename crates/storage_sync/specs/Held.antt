-- The pages and openings of the definitions that values hold.
use Rattle.std.specs.Prelude.{ℕ, List, map}
use Rattle.storage_merkle.specs.Held.{proof_of}
use Rattle.storage_current.specs.Held.{range_proof_of}
use Rattle.storage_current.specs.WitnessWire.{witness_of}
use Rattle.storage_sync.specs.declared.sync.opening.Opening.{Opening}
use Rattle.storage_sync.specs.Openings.{Opening as OpeningOf}
use Rattle.storage_sync.specs.declared.sync.page.Page.{Page}
use Rattle.storage_sync.specs.Pages.{Page as PageOf}

-- a page, its digests by their bytes
abbrev pub page_of : {F D : Type 0} → (D → List ℕ) → Page F D → PageOf
page_of bytes_of p = record {
  proof = range_proof_of bytes_of p.proof;
  operations = map (λ o. o.items) p.operations.items;
  chunks = p.chunks.items;
}

-- an opening, its digests by their bytes
abbrev pub opening_of : {F D : Type 0} → (D → List ℕ) → Opening F D → OpeningOf
opening_of bytes_of o = record {
  begin = o.begin;
  witness = witness_of bytes_of o.witness;
  ops_root = bytes_of o.ops_root;
  proof = proof_of bytes_of o.proof;
  operations = map (λ x. x.items) o.operations.items;
  pins = map bytes_of o.pins.items;
  over_chunks = map bytes_of o.over_chunks.items;
}
