-- The peaks and the fold that a range proof holds one by one.
use Rattle.std.specs.Prelude.{ℕ, List, [], ◌∷◌, Option, Some, None}
use Rattle.storage_codec.specs.Digests.{HashFunction}
use Rattle.storage_merkle.specs.Calc.{Site, front, back, node}
use Rattle.storage_merkle.specs.Trees.{Layout}
use Rattle.storage_merkle.specs.CheckParts.{right_of}
use Rattle.storage_merkle.specs.Stores.{Store, stored_at}
use Rattle.storage_merkle.specs.Walked.{Met, one, past}

-- the nodes among some sites
abbrev pub nodes_among : List Site → List Site
nodes_among [] = []
nodes_among (front ∷ ss) = nodes_among ss
nodes_among (back ∷ ss) = nodes_among ss
nodes_among (node a k ∷ ss) = node a k ∷ nodes_among ss

-- the digest at the fold past a range, if it is among some sites
abbrev pub back_among : (Site → List ℕ) → List Site → Option (List ℕ)
back_among digest [] = None
back_among digest (front ∷ ss) = back_among digest ss
back_among digest (back ∷ ss) = Some (digest back)
back_among digest (node a k ∷ ss) = back_among digest ss

-- the digest that a store has of what a walk meets: of some peaks, those that are kept and the source's fold are folded
abbrev pub kept_met : HashFunction → Layout → Store → Met → Option (List ℕ)
kept_met h T store (one p) = Some (stored_at h T store (node p.first p.height))
kept_met h T store (past ps) =
    right_of h (λ p. stored_at h T store (node p.first p.height)) store.back_fold store.past ps
