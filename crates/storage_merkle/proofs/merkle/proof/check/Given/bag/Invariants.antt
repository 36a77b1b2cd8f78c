use Rattle.std.proofs.Common.{◌≡◌, ◌++◌, List, ℕ, length, map, option_map}
use Rattle.storage_merkle.specs.Calc.{Site, front, back, eval}
use Rattle.storage_merkle.specs.CheckParts.{front_before, top_sites, folded_before, bag_onto, given_values, Serves, PresentIn}
use Rattle.storage_merkle.specs.Plans.{ArePeaks}
use Rattle.storage_merkle.specs.RangeProofs.{apart}
use Rattle.storage_merkle.specs.Rests.{peaks_from}
use Rattle.storage_merkle.specs.Trees.{part}
use Rattle.storage_merkle.proofs.Check.Tops.{tops}
use Rattle.storage_merkle.specs.Extracted.{by_bytes}
use Rattle.storage_merkle.proofs.Found.{found_peaks}
use Rattle.storage_merkle.proofs.merkle.proof.check.Given.bag.Given as goal

abbrev pub invariant-loop-rest : goal.invariant-loop-rest
invariant-loop-rest g l = record {
  peaks : ArePeaks g.F.Family.shape l.self.leaves l.rest.first l.rest.left;
  present : PresentIn g.F.Family.shape l.self.start l.self.end l.self.siblings.now
      (peaks_from g.F.Family.shape l.rest.first l.rest.left);
  count : length l.tops ≡ length (tops g.F.Family.shape l.self.start l.self.end l.rest.first l.rest.left l.rest.folded);
  exact : (digest : Site → List ℕ)
      → Serves g.F.Family.shape digest l.self.siblings.now (map g.D.Digest.text l.self.digests.now)
      → map g.D.Digest.text l.fn.tops ≡ map digest (front_before l.fn.rest.first ++ top_sites l.self.start l.self.end
      (peaks_from g.F.Family.shape l.fn.rest.first l.fn.rest.left) l.fn.rest.folded)
      → (map g.D.Digest.text l.tops
      ≡ map digest (tops g.F.Family.shape l.self.start l.self.end l.rest.first l.rest.left l.rest.folded))
      × (bag_onto g.H.Hasher.hash_of (λ p. eval g.H.Hasher.hash_of
      (given_values digest l.self.start (map g.E.AsSlice.items l.self.elements.now) (g.H.Hasher.chunk l.hasher))
      (part (g.H.Hasher.layout l.hasher) (apart l.self.start l.self.end) p)) (digest back) l.self.end
      (option_map g.D.Digest.text l.folded) (peaks_from g.F.Family.shape l.rest.first l.rest.left) l.rest.folded
      ≡ bag_onto g.H.Hasher.hash_of (λ p. eval g.H.Hasher.hash_of
      (given_values digest l.self.start (map g.E.AsSlice.items l.self.elements.now) (g.H.Hasher.chunk l.hasher))
      (part (g.H.Hasher.layout l.hasher) (apart l.self.start l.self.end) p)) (digest back) l.self.end (folded_before
      (digest front) l.fn.rest.first) (peaks_from g.F.Family.shape l.fn.rest.first l.fn.rest.left) l.fn.rest.folded)
      × (option_map (λ v. by_bytes g.D.Digest.text v.items ++ found_peaks g.H.Hasher.hash_of (g.H.Hasher.layout l.hasher)
      l.self.start l.self.end (given_values digest l.self.start (map g.E.AsSlice.items l.self.elements.now)
      (g.H.Hasher.chunk l.hasher)) (peaks_from g.F.Family.shape l.rest.first l.rest.left)) l.found
      ≡ option_map (λ v. by_bytes g.D.Digest.text v.items ++ found_peaks g.H.Hasher.hash_of (g.H.Hasher.layout l.hasher)
      l.self.start l.self.end (given_values digest l.self.start (map g.E.AsSlice.items l.self.elements.now)
      (g.H.Hasher.chunk l.hasher)) (peaks_from g.F.Family.shape l.fn.rest.first l.fn.rest.left)) l.fn.found);
}

abbrev pub decreases-loop-rest : goal.decreases-loop-rest
decreases-loop-rest g l = l.rest.left
