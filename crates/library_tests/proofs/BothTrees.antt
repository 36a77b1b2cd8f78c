-- Two trees read as one serve what the laws of such trees say.
use Rattle.std.proofs.Common.{◌≡◌, ℕ, List, length, Option, Some, None, Result, Ok, Err, IfOk, IfSome, MatchResult, refl}
use Rattle.std.proofs.lemmas.List.Elements.{All-contains}
use Rattle.std.specs.List.{Contains}
use Rattle.std.specs.Prelude.{IsSome}
use Rattle.storage_codec.specs.Digests.{HashFunction}
use Rattle.storage_merkle.specs.Plans.{planned}
use Rattle.storage_merkle.specs.Shape.{Shape, size}
use Rattle.storage_bitmap.specs.Chunks.{Retained}
use Rattle.storage_current.specs.BuiltProofs.{AreAnswered}
use Rattle.storage_current.specs.Combined.{joined}
use Rattle.storage_current.specs.CombinedViews.{AnswersAreTrue, AreAnswersOf, EachIsCoverable, HavePlanned, JoinedTreesAnswerTheView, JoinedTreesAreTheView, JoinedTreesServeTheView, PlannedNodesServeARange, grafted_node, had_of_both, operations_node}
use Rattle.storage_current.specs.GraftedTrees.{regrafted}
use Rattle.storage_current.specs.Served.{AreServedOf, held_at, plan_over}
use Rattle.storage_current.specs.Snapshots.{Grafting, IsGrafting, IsSnapshot, Snapshot, graftable, height, view_node}
use Rattle.library_tests.specs.Joined.{AreOtherParts}

-- a store of both is the snapshot's, where what the tree over chunks keeps is
pub served : {D : Type 0} (digest : List ℕ → D) (text : D → List ℕ) (h : HashFunction) (g : Grafting) (r nodes : ℕ)
    (kept operations : ℕ → Option D) (status : Retained) (floor : ℕ) (ops_root : List ℕ) (s : Snapshot) (low high : ℕ)
    → height g ≡ r → IsGrafting g → JoinedTreesAnswerTheView digest text h g
    → AnswersAreTrue text g.shape (graftable g (length s.operations)) (grafted_node h g s) kept
    → AreOtherParts text h g nodes operations status floor ops_root s
    → AreServedOf nodes (joined g.shape r nodes (regrafted digest text g.shape r kept) operations) g low high status text h
    floor ops_root s
served digest text h g r nodes kept operations status floor ops_root s low high level grafting law chunks parts =
    rw (← level, parts.count) ((law grafting s parts.snapshot kept operations chunks parts.operations).1 low high floor
    status ops_root parts.bits parts.floor_is parts.root_is)

-- both have each node of the view, where each over chunks is coverable and each of the operations is had
pub had : {D : Type 0} (digest : List ℕ → D) (text : D → List ℕ) (h : HashFunction) (g : Grafting) (r nodes : ℕ)
    (kept operations : ℕ → Option D) (s : Snapshot) → height g ≡ r → IsGrafting g → JoinedTreesAreTheView digest text h g
    → AnswersAreTrue text g.shape (graftable g (length s.operations)) (grafted_node h g s) kept
    → EachIsCoverable g.shape (graftable g (length s.operations)) kept → IsSnapshot s
    → nodes ≡ size g.shape (length s.operations)
    → AreAnswersOf text g.shape (length s.operations) (operations_node h g s) operations
    → AreAnswersOf text g.shape (length s.operations) (view_node h g s)
    (joined g.shape r nodes (regrafted digest text g.shape r kept) operations)
had digest text h g r nodes kept operations s level grafting law chunks each snapshot count below =
    rw (← level, count) (law grafting s snapshot kept operations chunks each below)

-- an answered position has a digest
some_at : {D : Type 0} (node : ℕ → Option D) (p : ℕ) → (d : D) × (Some d ≡ node p) → IsSome (node p)
some_at node p found = rw (← found.1) refl

one_answered : {D : Type 0} (node : ℕ → Option D) (S : Shape) (n low high p : ℕ)
    → AreAnswered (held_at node) S (plan_over n low high) → Contains (planned S n low high) p → IsSome (node p)
one_answered {D} node S n low high p answered there =
    some_at node p (All-contains (λ q. (d : D) × held_at node q (Some d)) (planned S n low high) p answered there)

-- both have a digest at each planned position of a range, where what is planned of it is coverable
pub planned_had : {D : Type 0} (digest : List ℕ → D) (text : D → List ℕ) (h : HashFunction) (g : Grafting) (r nodes : ℕ)
    (kept operations : ℕ → Option D) (status : Retained) (floor : ℕ) (ops_root : List ℕ) (s : Snapshot) (low high p : ℕ)
    → height g ≡ r → IsGrafting g → PlannedNodesServeARange digest text h g
    → AnswersAreTrue text g.shape (graftable g (length s.operations)) (grafted_node h g s) kept
    → AreOtherParts text h g nodes operations status floor ops_root s
    → HavePlanned g.shape (height g) (length s.operations) low high kept operations
    → Contains (planned g.shape (length s.operations) low high) p
    → IsSome (joined g.shape r nodes (regrafted digest text g.shape r kept) operations p)
planned_had digest text h g r nodes kept operations status floor ops_root s low high p level grafting law chunks parts
    have there = rw (← level, parts.count) (one_answered (had_of_both digest text g s kept operations) g.shape
    (length s.operations) low high p (law grafting s parts.snapshot kept operations chunks parts.operations low high have
    floor status ops_root parts.bits parts.floor_is parts.root_is).0 there)

-- and of each range, where each node over chunks is coverable and each of the operations is had
pub any_planned_had : {D : Type 0} (digest : List ℕ → D) (text : D → List ℕ) (h : HashFunction) (g : Grafting) (r nodes : ℕ)
    (kept operations : ℕ → Option D) (status : Retained) (floor : ℕ) (ops_root : List ℕ) (s : Snapshot) (low high p : ℕ)
    → height g ≡ r → IsGrafting g → JoinedTreesServeTheView digest text h g
    → AnswersAreTrue text g.shape (graftable g (length s.operations)) (grafted_node h g s) kept
    → EachIsCoverable g.shape (graftable g (length s.operations)) kept
    → AreOtherParts text h g nodes operations status floor ops_root s
    → AreAnswersOf text g.shape (length s.operations) (operations_node h g s) operations
    → Contains (planned g.shape (length s.operations) low high) p
    → IsSome (joined g.shape r nodes (regrafted digest text g.shape r kept) operations p)
any_planned_had digest text h g r nodes kept operations status floor ops_root s low high p level grafting law chunks each
    parts below there = rw (← level, parts.count) (one_answered (had_of_both digest text g s kept operations) g.shape
    (length s.operations) low high p (law grafting s parts.snapshot kept operations chunks each below low high floor status
    ops_root parts.bits parts.floor_is parts.root_is).0 there)

-- what a call ensures of its value
pub match_ok : {X Y : Type 0} (r : Result X Y) (P R : X → Type 0) (Q : Y → Type 0) → ((x : X) → P x → R x)
    → MatchResult r P Q → IfOk r R
match_ok (Ok x) P R Q f m = f x m
match_ok (Err y) P R Q f m = tt

pub some_weaker : {X : Type 0} (o : Option X) (P R : X → Type 0) → ((x : X) → P x → R x) → IfSome o P → IfSome o R
some_weaker None P R f m = tt
some_weaker (Some x) P R f m = f x m
