use Rattle.std.proofs.Common.{◌≡◌, ◌-◌, ◌+◌, ◌<◌, ◌≤◌, ℕ, List, length, IsSome, if◌then◌else◌, inl, inr, refl, sym, subst, le-leb, arith}
use Rattle.std.specs.List.{slice_get}
use Rattle.std.proofs.lemmas.Option.{slice_get_cases}
use Rattle.storage_merkle.specs.Kept.{Kept, kept_at, paired, pins}
use Rattle.storage_merkle.specs.Shape.{Shape, size}
use Rattle.storage_merkle.proofs.laws.kept.trees_keep_each_node_behind_their_boundary.Goals as goal

within : {D : Type 0} (ds : List D) (i : ℕ) → i < length ds → IsSome (slice_get ds i)
within ds i less = elim (slice_get_cases ds i).1 [
  | inl there ↦ subst IsSome (sym there.2) refl
  | inr past ↦ absurd (omega (arith, past.0))
]

kept_behind : {D : Type 0} (S : Shape) (m : Kept D) → length m.nodes + size S m.boundary ≡ size S m.leaves → (p : ℕ)
    → size S m.boundary ≤ p → p < size S m.leaves → IsSome (kept_at S m.boundary m.pinned m.nodes p)
kept_behind S m count p from below = subst
    (λ b. IsSome (if b then slice_get m.nodes (p - size S m.boundary) else paired p (pins S m.boundary) m.pinned))
    (sym (le-leb _ _ from)) (within m.nodes (p - size S m.boundary) (omega arith))

pub returns : goal.returns
returns g c position from below =
    let whole = c.is_whole.ensures in kept_behind g.F.Family.shape c.args.tree.now whole.count position from below
